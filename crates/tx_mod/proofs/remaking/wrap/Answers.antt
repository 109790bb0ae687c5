use Rattle.std.proofs.Common.{◌≡◌, ◌++◌, ◌∷◌, [], take, drop, ap, ◌∙◌}
use Rattle.tx_mod.specs.Mods.{put_in}
use Rattle.tx_mod.proofs.Remade.{node_wrapped, items_within, node_is, made_ok}
use Rattle.tx_mod.proofs.remaking.wrap.Goals as goal

pub spliced-requires-clause-there : goal.spliced-requires-clause-there
spliced-requires-clause-there g c =
    let r = node_wrapped c.args.s.now c.args.x.now c.in-Node.label.now c.in-Node.children.now c.args.i c.in-Node.ensures
    c.requires in
    r.0

pub node_of-requires : goal.node_of-requires
node_of-requires g c =
    let r = node_wrapped c.args.s.now c.args.x.now c.in-Node.label.now c.in-Node.children.now c.args.i c.in-Node.ensures
    c.requires in
    let items : c.in_ok-all.all.items ≡ put_in c.in-Node.children.now c.args.i (c.args.s.now ∷ []) =
    c.in_ok-all.ensures
    ∙ ap (λ x. take c.args.i c.in-Node.children.now ++ x ∷ [] ++ drop c.args.i c.in-Node.children.now)
    c.in_ok-shared.ensures in
    items_within c.in-Node.label.now _ _ items r.1.within

pub returns-clause-made : goal.returns-clause-made
returns-clause-made g c =
    let r = node_wrapped c.args.s.now c.args.x.now c.in-Node.label.now c.in-Node.children.now c.args.i c.in-Node.ensures
    c.requires in
    let items : c.in_ok-all.all.items ≡ put_in c.in-Node.children.now c.args.i (c.args.s.now ∷ []) =
    c.in_ok-all.ensures
    ∙ ap (λ x. take c.args.i c.in-Node.children.now ++ x ∷ [] ++ drop c.args.i c.in-Node.children.now)
    c.in_ok-shared.ensures in
    made_ok _ _ _ _ r.1.is (node_is c.in-Node.label.now _ _ items) c.node_of.ensures.made
