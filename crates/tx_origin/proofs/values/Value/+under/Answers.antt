use Rattle.std.proofs.Common.{refl, sym, ◌∙◌}
use Rattle.std.proofs.lemmas.List.{take_all}
use Rattle.tx_origin.proofs.Under.{plains_moved, from_moved, vals_under}
use Rattle.tx_origin.proofs.values.Value.+under.Goals as goal

pub with_parts-requires-clause-same : goal.with_parts-requires-clause-same
with_parts-requires-clause-same t c =
    let moved = rw (take_all _ _ c.loop-part-test.false, c.deref-part-items.ensures.value) at c.loop-part.invariant in
    let content = sym c.deref.ensures ∙ c.in-Node.is in
    rw (moved, plains_moved c.args.base.now c.in-Node.parts.items, ← c.self.view_is, content) refl

pub with_parts-requires-clause-from : goal.with_parts-requires-clause-from
with_parts-requires-clause-from t c =
    let moved = rw (take_all _ _ c.loop-part-test.false, c.deref-part-items.ensures.value) at c.loop-part.invariant in
    let content = sym c.deref.ensures ∙ c.in-Node.is in
    let taken = rw content at c.self.invariant.taken in
    rw moved (from_moved c.args.base.now c.in-Node.label c.in-Node.parts.items c.in-Node.from taken)

pub returns-in_ok-at-in-Node : goal.returns-in_ok-at-in-Node
returns-in_ok-at-in-Node t c =
    let moved = rw (take_all _ _ c.loop-part-test.false, c.deref-part-items.ensures.value) at c.loop-part.invariant in
    let content = sym c.deref.ensures ∙ c.in-Node.is in
    rw (
      ← c.self.view_is,
      content,
      vals_under c.args.base.now c.in-Node.parts.items,
      ← moved,
      ← c.in_ok-at-in-Node.ensures,
    )
    c.with_parts.ensures
