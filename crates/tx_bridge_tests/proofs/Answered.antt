-- What a walk returned can be cached, whether it was done or ran out of steps or levels.
use Rattle.std.proofs.Common.{◌≡◌, List, [], ◌∷◌, map}
use Rattle.std.specs.Prelude.{Option, Some, None}
use Rattle.std.specs.List.{IsDistinct}
use Rattle.std.specs.Str.{bytes_eq}
use Rattle.tx_tree.specs.WideTree.{WideTree}
use Rattle.tx_exec_form.specs.Evaluated.{WideTrace}
use Rattle.tx_parts.specs.Parts.{Part}
use Rattle.tx_walk.specs.declared.part.Part.{Part as DonePart}
use Rattle.tx_walk.specs.Held.{Stores, IsSound}
use Rattle.tx_walk.specs.Walked.{kept_in, paths_of, seen, seen_in, seen_parts}

pub answered_sound : (kept : Stores) (ps : List Part) (o : Option WideTrace) (done : List DonePart) (t : WideTree) →
    map seen done ≡ seen_parts kept ps o → IsSound (kept_in []) [] t →
    (map seen done ≡ map (seen_in kept) ps → IsSound (kept_in done) [] t) → IsSound (kept_in done) [] t
answered_sound kept ps (Some trace) done t h nothing law = law h
answered_sound kept ps None [] t h nothing law = nothing
answered_sound kept ps None (d ∷ done) t h nothing law = cc

pub answered_distinct : (kept : Stores) (ps : List Part) (o : Option WideTrace) (done : List DonePart) →
    map seen done ≡ seen_parts kept ps o → IsDistinct bytes_eq (paths_of []) →
    (map seen done ≡ map (seen_in kept) ps → IsDistinct bytes_eq (paths_of done)) → IsDistinct bytes_eq (paths_of done)
answered_distinct kept ps (Some trace) done h nothing law = law h
answered_distinct kept ps None [] h nothing law = nothing
answered_distinct kept ps None (d ∷ done) h nothing law = cc
