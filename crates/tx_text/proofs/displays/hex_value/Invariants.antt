use Rattle.std.proofs.Common.{◌≡◌, ◌<◌, ◌^◌, drop}
use Rattle.tx_text.specs.Displays.{hex_behind}
use Rattle.tx_text.proofs.displays.hex_value.Given as goal

abbrev pub invariant-loop-digit : goal.invariant-loop-digit
invariant-loop-digit l = record {
  so_far : hex_behind l.value (drop l.digit-index l.digits) ≡ hex_behind 0 l.digits;
  small : l.value < 16 ^ l.digit-index;
}
