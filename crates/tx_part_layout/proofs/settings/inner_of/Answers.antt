use Rattle.std.proofs.Common.{◌-◌, refl}
use Rattle.tx_tree.specs.WideTree.{children_of}
use Rattle.tx_part_layout.proofs.Pairing.{inner_is, no_inner, some_child}
use Rattle.tx_part_layout.proofs.settings.inner_of.Goals as goal

pub returns : goal.returns
returns c = λ ps b h.
    inner_is ps b c.in-Some.inner.now (children_of c.args.t.now) (c.arity-count.result - 1) c.arity-count.result h refl
    c.arity-count.ensures c.in-Some.ensures

pub unreachable-requires : goal.unreachable-requires
unreachable-requires c =
    let o = c.requires.opens in
    some_child o.0 o.1 (children_of c.args.t.now) c.arity-count.result o.2 c.arity-count.ensures c.if-count-eq0.true

pub unreachable-requires-in_default : goal.unreachable-requires-in_default
unreachable-requires-in_default c =
    let o = c.requires.opens in
    no_inner o.0 o.1 (children_of c.args.t.now) (c.arity-count.result - 1) c.arity-count.result o.2 refl
    c.arity-count.ensures c.in_default.ensures
