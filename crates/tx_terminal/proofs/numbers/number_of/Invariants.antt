use Rattle.std.proofs.Common.{◌≡◌, ◌≤◌, drop}
use Rattle.std.specs.Prelude.{min}
use Rattle.tx_terminal.specs.Numbers.{number_after}
use Rattle.tx_terminal.proofs.numbers.number_of.Given as goal

-- What is read so far and what is left are all.
abbrev pub invariant-loop-digit : goal.invariant-loop-digit
invariant-loop-digit l = record {
  few : l.number ≤ 65536;
  same : min (number_after l.number (drop l.digit-index l.digits)) 65536 ≡ min (number_after 0 l.digits) 65536;
}
