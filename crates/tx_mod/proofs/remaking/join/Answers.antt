use Rattle.std.proofs.Common.{◌≡◌, ◌+◌, ◌++◌, ◌∷◌, [], take, drop, sym, ap, subst, ◌∙◌, append_assoc, arith, Ok}
use Rattle.std.proofs.lemmas.Option.{slice_get_within}
use Rattle.tx_mod.proofs.Remade.{node_joined, found_same, third_within, items_within, node_is, made_ok}
use Rattle.tx_mod.proofs.remaking.join.Goals as goal
use Rattle.std.specs.Prelude.{IsOkAnd}
use Rattle.tx_tree.specs.Limits.{IsWithinLimits}
use Rattle.tx_mod.specs.Changes.{joined}
use Rattle.tx_mod.proofs.Back.{same_tree}

pub bounds-children-i : goal.bounds-children-i
bounds-children-i g c =
    let r = node_joined c.args.s.now c.in-Node.label.now c.in-Node.children.now c.args.i c.in-Node.ensures c.requires in
    slice_get_within c.in-Node.children.now c.args.i r.first r.found

pub bounds-children-i-2 : goal.bounds-children-i-2
bounds-children-i-2 g c =
    let r = node_joined c.args.s.now c.in-Node.label.now c.in-Node.children.now c.args.i c.in-Node.ensures c.requires in
    slice_get_within c.in-Node.children.now (c.args.i + 1) r.second r.next

pub join_pair-requires : goal.join_pair-requires
join_pair-requires g c =
    let r = node_joined c.args.s.now c.in-Node.label.now c.in-Node.children.now c.args.i c.in-Node.ensures c.requires in
    let one = found_same c.in-Node.children.now c.args.i r.first c.index-children-i.result r.found
    c.index-children-i.is in
    let two = found_same c.in-Node.children.now (c.args.i + 1) r.second c.index-children-i-2.result r.next
    c.index-children-i-2.is in
    let made : joined c.index-children-i.result c.index-children-i-2.result ≡ Ok r.third = rw (one, two) r.made in
    subst (λ o. IsOkAnd o IsWithinLimits) (sym made)
    (third_within c.in-Node.label.now c.in-Node.children.now c.args.i r.third r.tree.within)

pub spliced-requires-clause-there : goal.spliced-requires-clause-there
spliced-requires-clause-there g c =
    let r = node_joined c.args.s.now c.in-Node.label.now c.in-Node.children.now c.args.i c.in-Node.ensures c.requires in
    let within = slice_get_within c.in-Node.children.now (c.args.i + 1) r.second r.next in
    omega arith

pub node_of-requires : goal.node_of-requires
node_of-requires g c =
    let r = node_joined c.args.s.now c.in-Node.label.now c.in-Node.children.now c.args.i c.in-Node.ensures c.requires in
    let one = found_same c.in-Node.children.now c.args.i r.first c.index-children-i.result r.found
    c.index-children-i.is in
    let two = found_same c.in-Node.children.now (c.args.i + 1) r.second c.index-children-i-2.result r.next
    c.index-children-i-2.is in
    let made : joined c.index-children-i.result c.index-children-i-2.result ≡ Ok r.third = rw (one, two) r.made in
    let same : c.in_ok-one.one ≡ r.third = same_tree c.in_ok-one.one r.third (sym c.in_ok-one.ensures.made ∙ made) in
    let items : c.in_ok-all.all.items ≡ take c.args.i c.in-Node.children.now ++ r.third ∷ drop (c.args.i + 2)
    c.in-Node.children.now =
    c.in_ok-all.ensures ∙ append_assoc (take c.args.i c.in-Node.children.now) (c.in_ok-one.one ∷ [])
    (drop (c.args.i + 2) c.in-Node.children.now)
    ∙ ap (λ x. take c.args.i c.in-Node.children.now ++ x ∷ drop (c.args.i + 2) c.in-Node.children.now) same in
    items_within c.in-Node.label.now _ _ items r.tree.within

pub returns-clause-made : goal.returns-clause-made
returns-clause-made g c =
    let r = node_joined c.args.s.now c.in-Node.label.now c.in-Node.children.now c.args.i c.in-Node.ensures c.requires in
    let one = found_same c.in-Node.children.now c.args.i r.first c.index-children-i.result r.found
    c.index-children-i.is in
    let two = found_same c.in-Node.children.now (c.args.i + 1) r.second c.index-children-i-2.result r.next
    c.index-children-i-2.is in
    let made : joined c.index-children-i.result c.index-children-i-2.result ≡ Ok r.third = rw (one, two) r.made in
    let same : c.in_ok-one.one ≡ r.third = same_tree c.in_ok-one.one r.third (sym c.in_ok-one.ensures.made ∙ made) in
    let items : c.in_ok-all.all.items ≡ take c.args.i c.in-Node.children.now ++ r.third ∷ drop (c.args.i + 2)
    c.in-Node.children.now =
    c.in_ok-all.ensures ∙ append_assoc (take c.args.i c.in-Node.children.now) (c.in_ok-one.one ∷ [])
    (drop (c.args.i + 2) c.in-Node.children.now)
    ∙ ap (λ x. take c.args.i c.in-Node.children.now ++ x ∷ drop (c.args.i + 2) c.in-Node.children.now) same in
    made_ok _ _ _ _ r.tree.is (node_is c.in-Node.label.now _ _ items) c.node_of.ensures.made
