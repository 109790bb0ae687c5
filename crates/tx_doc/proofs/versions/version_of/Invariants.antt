use Rattle.std.proofs.Common.{◌≡◌, ◌+◌, ◌++◌, [], length}
use Rattle.std.specs.Prelude.{option_map}
use Rattle.std.specs.Option.{option_map_or}
use Rattle.std.specs.List.{slice_split}
use Rattle.tx_doc.specs.Versions.{is_point, numbers_of, version_of}
use Rattle.tx_doc.proofs.versions.version_of.Given as goal

abbrev pub decreases-loop-left : goal.decreases-loop-left
decreases-loop-left l = option_map_or (λ text. length text.now + 1) l.left 0

abbrev pub invariant-loop-left : goal.invariant-loop-left
invariant-loop-left l =
    version_of l.bytes
    ≡ option_map (λ ns. l.numbers.items ++ ns)
    (numbers_of (option_map_or (λ text. slice_split is_point text.now) l.left []))
