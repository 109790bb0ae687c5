use Rattle.std.proofs.Common.{◌≡◌, ◌<◌, ◌^◌, true, drop}
use Rattle.std.specs.List.{list_all}
use Rattle.tx_tree.specs.PathSpelling.{is_digit, number_after}
use Rattle.tx_doc.proofs.versions.value_of.Given as goal

abbrev pub invariant-loop-digit : goal.invariant-loop-digit
invariant-loop-digit l =
    (number_after 0 l.digits ≡ number_after l.value (drop l.digit-index l.digits))
    × (list_all is_digit (drop l.digit-index l.digits) ≡ true) × (l.value < 10 ^ l.digit-index)
