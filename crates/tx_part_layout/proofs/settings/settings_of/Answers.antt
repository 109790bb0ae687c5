use Rattle.std.proofs.Common.{refl, ◌∙◌, ◌*◌, ◌+◌, [], length}
use Rattle.tx_tree.specs.WideTree.{children_of}
use Rattle.tx_walk.proofs.Texts.{below, no_name, no_words, settings_count}
use Rattle.tx_part_layout.proofs.Pairing.{pairs_next, all_pairs}
use Rattle.tx_part_layout.proofs.settings.settings_of.Goals as goal

pub unreachable-requires : goal.unreachable-requires
unreachable-requires c =
    let o = c.requires.opens in
    no_name [] o.0 o.1 (children_of c.args.t.now) o.2 c.loop-i.i
    (below c.loop-i.i c.arity-i-end.result (length (children_of c.args.t.now)) (length o.0) c.loop-i-test.true
    c.arity-i-end.ensures (settings_count (children_of c.args.t.now) o.0 o.1 o.2))
    (2 * c.loop-i.i) refl c.in_default.ensures

pub unreachable-requires-in_default-text_at : goal.unreachable-requires-in_default-text_at
unreachable-requires-in_default-text_at c =
    let o = c.requires.opens in
    no_words [] o.0 o.1 (children_of c.args.t.now) o.2 c.loop-i.i
    (below c.loop-i.i c.arity-i-end.result (length (children_of c.args.t.now)) (length o.0) c.loop-i-test.true
    c.arity-i-end.ensures (settings_count (children_of c.args.t.now) o.0 o.1 o.2))
    (2 * c.loop-i.i + 1) refl c.in_default-text_at.ensures

pub loop-i-preserved : goal.loop-i-preserved
loop-i-preserved c = λ ps b h.
    pairs_next ps c.loop-i.settings.items c.push.new.self.items b (children_of c.args.t.now) h c.loop-i.i
    (below c.loop-i.i c.arity-i-end.result (length (children_of c.args.t.now)) (length ps) c.loop-i-test.true
    c.arity-i-end.ensures (settings_count (children_of c.args.t.now) ps b h))
    c.in-Some.name.now c.in-Some-text_at.words.now c.in_ok-copy.field-0 c.in_ok-copy-2.field-0 c.in-Some.ensures
    c.in-Some-text_at.ensures c.in_ok-copy.ensures c.in_ok-copy-2.ensures (c.loop-i.invariant ps b h)
    c.in_ok-push.ensures.items

pub returns : goal.returns
returns c = λ ps b h.
    c.loop-i.invariant ps b h
    ∙ all_pairs ps c.loop-i.i c.arity-i-end.result (length (children_of c.args.t.now)) c.loop-i-test.false
    c.arity-i-end.ensures (settings_count (children_of c.args.t.now) ps b h)
