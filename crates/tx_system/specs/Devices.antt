-- The reader and the writer under the standard input and output, and how often they have failed.
use Rattle.std.specs.Prelude.{ℕ, None}
use Rattle.tx_outside.specs.Outside.{SinkSeen, SourceSeen}
use Rattle.tx_system.specs.declared.standard.StandardInput.{StandardInput}
use Rattle.tx_system.specs.declared.standard.StandardOutput.{StandardOutput}

-- the reader that the input takes its bytes from
abbrev pub reader_of : {R : Type 0} → StandardInput R → R
reader_of input = input.reader

-- how often the input has failed
abbrev pub input_faults : {R : Type 0} → StandardInput R → ℕ
input_faults input = input.faults

-- what is seen of the input, which reports no bytes
abbrev pub seen_input : {R : Type 0} → StandardInput R → SourceSeen
seen_input input = record { left = None; faults = input_faults input }

-- the writer that the output puts its bytes into
abbrev pub writer_of : {W : Type 0} → StandardOutput W → W
writer_of output = output.writer

-- how often the output has failed
abbrev pub output_faults : {W : Type 0} → StandardOutput W → ℕ
output_faults output = output.faults

-- what is seen of the output, which reports no bytes
abbrev pub seen_output : {W : Type 0} → StandardOutput W → SinkSeen
seen_output output = record { written = None; faults = output_faults output }
