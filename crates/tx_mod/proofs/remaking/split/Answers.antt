use Rattle.std.proofs.Common.{◌≡◌, ◌+◌, ◌++◌, ◌∷◌, [], take, drop, ap, ◌∙◌, append_assoc, arith}
use Rattle.std.proofs.lemmas.Option.{slice_get_within}
use Rattle.tx_mod.specs.Mods.{tree_up_to, tree_from}
use Rattle.tx_mod.proofs.Remade.{node_split, found_same, items_within, node_is, made_ok}
use Rattle.tx_mod.proofs.remaking.split.Goals as goal

pub bounds-children-i : goal.bounds-children-i
bounds-children-i g c =
    let r = node_split c.args.s.now c.in-Node.label.now c.in-Node.children.now c.args.i c.args.j c.in-Node.ensures
    c.requires in
    slice_get_within c.in-Node.children.now c.args.i r.child r.found

pub front-requires-clause-there : goal.front-requires-clause-there
front-requires-clause-there g c =
    let r = node_split c.args.s.now c.in-Node.label.now c.in-Node.children.now c.args.i c.args.j c.in-Node.ensures
    c.requires in
    let same : c.index-children-i.result ≡ r.child =
    found_same c.in-Node.children.now c.args.i r.child c.index-children-i.result r.found c.index-children-i.is in
    rw same r.there

pub front-requires-clause-clean : goal.front-requires-clause-clean
front-requires-clause-clean g c =
    let r = node_split c.args.s.now c.in-Node.label.now c.in-Node.children.now c.args.i c.args.j c.in-Node.ensures
    c.requires in
    let same : c.index-children-i.result ≡ r.child =
    found_same c.in-Node.children.now c.args.i r.child c.index-children-i.result r.found c.index-children-i.is in
    rw same r.clean

pub back-requires-clause-there : goal.back-requires-clause-there
back-requires-clause-there g c =
    let r = node_split c.args.s.now c.in-Node.label.now c.in-Node.children.now c.args.i c.args.j c.in-Node.ensures
    c.requires in
    let same : c.index-children-i.result ≡ r.child =
    found_same c.in-Node.children.now c.args.i r.child c.index-children-i.result r.found c.index-children-i.is in
    rw same r.there

pub back-requires-clause-clean : goal.back-requires-clause-clean
back-requires-clause-clean g c =
    let r = node_split c.args.s.now c.in-Node.label.now c.in-Node.children.now c.args.i c.args.j c.in-Node.ensures
    c.requires in
    let same : c.index-children-i.result ≡ r.child =
    found_same c.in-Node.children.now c.args.i r.child c.index-children-i.result r.found c.index-children-i.is in
    rw same r.clean

pub spliced-requires-clause-there : goal.spliced-requires-clause-there
spliced-requires-clause-there g c =
    let r = node_split c.args.s.now c.in-Node.label.now c.in-Node.children.now c.args.i c.args.j c.in-Node.ensures
    c.requires in
    let within = slice_get_within c.in-Node.children.now c.args.i r.child r.found in
    omega arith

pub node_of-requires : goal.node_of-requires
node_of-requires g c =
    let r = node_split c.args.s.now c.in-Node.label.now c.in-Node.children.now c.args.i c.args.j c.in-Node.ensures
    c.requires in
    let same : c.index-children-i.result ≡ r.child =
    found_same c.in-Node.children.now c.args.i r.child c.index-children-i.result r.found c.index-children-i.is in
    let items : c.in_ok-all.all.items
    ≡ take c.args.i c.in-Node.children.now ++ tree_up_to r.child c.args.j ∷ tree_from r.child
    c.args.j ∷ drop (c.args.i + 1) c.in-Node.children.now =
    c.in_ok-all.ensures
    ∙ append_assoc (take c.args.i c.in-Node.children.now) (c.in_ok-first.first ∷ c.in_ok-second.second ∷ [])
    (drop (c.args.i + 1) c.in-Node.children.now)
    ∙ ap (λ x. take c.args.i c.in-Node.children.now ++ x ∷ c.in_ok-second.second ∷ drop (c.args.i + 1)
    c.in-Node.children.now) (c.in_ok-first.ensures.made ∙ ap (λ x. tree_up_to x c.args.j) same)
    ∙ ap (λ x. take c.args.i c.in-Node.children.now ++ tree_up_to r.child c.args.j ∷ x ∷ drop (c.args.i + 1)
    c.in-Node.children.now) (c.in_ok-second.ensures.made ∙ ap (λ x. tree_from x c.args.j) same) in
    items_within c.in-Node.label.now _ _ items r.tree.within

pub returns-clause-made : goal.returns-clause-made
returns-clause-made g c =
    let r = node_split c.args.s.now c.in-Node.label.now c.in-Node.children.now c.args.i c.args.j c.in-Node.ensures
    c.requires in
    let same : c.index-children-i.result ≡ r.child =
    found_same c.in-Node.children.now c.args.i r.child c.index-children-i.result r.found c.index-children-i.is in
    let items : c.in_ok-all.all.items
    ≡ take c.args.i c.in-Node.children.now ++ tree_up_to r.child c.args.j ∷ tree_from r.child
    c.args.j ∷ drop (c.args.i + 1) c.in-Node.children.now =
    c.in_ok-all.ensures
    ∙ append_assoc (take c.args.i c.in-Node.children.now) (c.in_ok-first.first ∷ c.in_ok-second.second ∷ [])
    (drop (c.args.i + 1) c.in-Node.children.now)
    ∙ ap (λ x. take c.args.i c.in-Node.children.now ++ x ∷ c.in_ok-second.second ∷ drop (c.args.i + 1)
    c.in-Node.children.now) (c.in_ok-first.ensures.made ∙ ap (λ x. tree_up_to x c.args.j) same)
    ∙ ap (λ x. take c.args.i c.in-Node.children.now ++ tree_up_to r.child c.args.j ∷ x ∷ drop (c.args.i + 1)
    c.in-Node.children.now) (c.in_ok-second.ensures.made ∙ ap (λ x. tree_from x c.args.j) same) in
    made_ok _ _ _ _ r.tree.is (node_is c.in-Node.label.now _ _ items) c.node_of.ensures.made
