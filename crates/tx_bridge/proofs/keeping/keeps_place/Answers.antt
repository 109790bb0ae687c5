use Rattle.std.proofs.Common.{List, ℕ, ◌++◌, ◌∙◌, ◌-◌, length, take, drop, ap, arith}
use Rattle.std.proofs.lemmas.List.{length-drop, take_all}
use Rattle.tx_mod.specs.Mods.{path_of}
use Rattle.tx_bridge.specs.Keeping.{keeps_place}
use Rattle.tx_bridge.proofs.KeptPlaces.{place_below}
use Rattle.tx_bridge.proofs.keeping.keeps_place.Goals as goal

pub returns : goal.returns
returns c =
    let path : List ℕ = c.steps.result.now in
    let base : List ℕ = c.steps-2.result.now in
    c.keeps_below.ensures
    ∙ place_below c.args.m.now c.args.base.now (take (length path - length base) (drop (length base) path))
    c.steps-3.result.now c.requires
    (take_all (length path - length base) (drop (length base) path) (omega (arith, length-drop (length base) path))
    ∙ ap (drop (length base)) (c.steps.ensures ∙ c.path.ensures)
    ∙ ap (λ b. drop (length b) (path_of c.args.m.now)) c.steps-2.ensures)
    ∙ ap (λ r. keeps_place c.args.m.now (c.args.base.now ++ r)) c.steps-3.ensures
