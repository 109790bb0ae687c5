-- A list that is taken from a vector one by one.
use Rattle.std.proofs.Common.{◌≡◌, List, length, sym, ◌∙◌}
use Rattle.std.proofs.lemmas.Iterator.Adapters.{YieldsList-from_vec}
use Rattle.std.proofs.lemmas.Iterator.{items_from_drains}
use Rattle.std.proofs.lemmas.List.{map-id}
use Rattle.std.specs.Iterator.{Drains}
use Rattle.std.specs.Vec.Iter.{into_iter_items, into_iter_len, into_iter_steps}
use Rattle.std.specs.declared.vec.IntoIter.{IntoIter}

pub drained : {X Z : Type 0} (s : IntoIter X Z) (xs all : List X) → Drains (into_iter_steps {X = X} {Z = Z}) s xs
    → into_iter_items s ≡ all → into_iter_len s ≡ length all → xs ≡ all
drained s xs all d e long =
    sym (map-id xs)
    ∙ items_from_drains xs (d.1.0, d.1.1, λ _. (d.0, d.1.2)) (YieldsList-from_vec all e long)
