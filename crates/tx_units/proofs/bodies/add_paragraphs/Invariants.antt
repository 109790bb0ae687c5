use Rattle.std.proofs.Common.{◌≡◌, ◌++◌, ◌∷◌, [], map, take}
use Rattle.std.specs.List.{enumerate_from}
use Rattle.tx_units.specs.Units.{body_unit}
use Rattle.tx_units.proofs.bodies.add_paragraphs.Given as goal

abbrev pub invariant-loop-i : goal.invariant-loop-i
invariant-loop-i l =
    l.units.items ≡ l.fn.units.items ++ map (λ p. body_unit p.1 (l.path ++ p.0 ∷ []))
    (enumerate_from 0 (take l.i l.paragraphs))
