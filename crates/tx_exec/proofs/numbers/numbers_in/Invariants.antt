use Rattle.std.proofs.Common.{◌≡◌, ◌++◌, drop}
use Rattle.std.specs.Option.{option_map}
use Rattle.tx_exec_form.specs.Numbers.{integers_of}
use Rattle.tx_exec.proofs.numbers.numbers_in.Given as goal

abbrev pub invariant-loop-value : goal.invariant-loop-value
invariant-loop-value l =
    option_map (λ ns. l.numbers.items ++ ns) (integers_of (drop l.value-index l.values)) ≡ integers_of l.fn.values
