use Rattle.std.proofs.Common.{arith, refl, ◌≡◌, ℕ, ◌*◌, ◌+◌, ◌≤◌, ◌/◌, length, suc}
use Rattle.tx_tree.specs.WideTree.{children_of}
use Rattle.tx_replay.proofs.Scopes.{few_children}
use Rattle.tx_replay.proofs.Texts.{below, no_name, no_words, settings_next, settings_stop, settings_end, settings_count}
use Rattle.tx_replay.proofs.settings.add_all.Goals as goal

pub unreachable-requires : goal.unreachable-requires
unreachable-requires c =
    let o = c.requires.opens in
    no_name c.args.base.now o.0 o.1 (children_of c.args.t.now) o.2 c.loop-i.i
    (below c.loop-i.i c.arity-i-end.result (length (children_of c.args.t.now)) (length o.0) c.loop-i-test.true
    c.arity-i-end.ensures (settings_count (children_of c.args.t.now) o.0 o.1 o.2))
    (2 * c.loop-i.i) refl c.in_default.ensures

pub unreachable-requires-in_default-text_at : goal.unreachable-requires-in_default-text_at
unreachable-requires-in_default-text_at c =
    let o = c.requires.opens in
    no_words c.args.base.now o.0 o.1 (children_of c.args.t.now) o.2 c.loop-i.i
    (below c.loop-i.i c.arity-i-end.result (length (children_of c.args.t.now)) (length o.0) c.loop-i-test.true
    c.arity-i-end.ensures (settings_count (children_of c.args.t.now) o.0 o.1 o.2))
    (2 * c.loop-i.i + 1) refl c.in_default-text_at.ensures

pub add-requires-clause-number : goal.add-requires-clause-number
add-requires-clause-number c =
    omega (arith, c.loop-i-test.true, c.arity-i-end.ensures, few_children c.args.t.now c.size-size.ensures.within)

pub returns-then-settings-left : goal.returns-then-settings-left
returns-then-settings-left c = λ ps b h.
    settings_stop c.args.base.now ps (c.loop-i.i + 1) c.args.left c.add.new.self
    (settings_next c.args.base.now ps b (children_of c.args.t.now) h c.loop-i.i
    (below c.loop-i.i c.arity-i-end.result (length (children_of c.args.t.now)) (length ps) c.loop-i-test.true
    c.arity-i-end.ensures (settings_count (children_of c.args.t.now) ps b h))
    c.loop-i.settings c.add.new.self (2 * c.loop-i.i) c.in-Some.name.now c.in-Some-text_at.words.now refl
    (c.loop-i.invariant.so_far ps b h) c.in-Some.ensures c.in-Some-text_at.ensures c.in_ok-add.ensures.pairs
    c.in_ok-add.ensures.values c.in_ok-add.ensures.cost)
    c.if-settings-left.true

pub loop-i-preserved : goal.loop-i-preserved
loop-i-preserved c = record {
  so_far = λ ps b h. settings_next c.args.base.now ps b (children_of c.args.t.now) h c.loop-i.i
      (below c.loop-i.i c.arity-i-end.result (length (children_of c.args.t.now)) (length ps) c.loop-i-test.true
      c.arity-i-end.ensures (settings_count (children_of c.args.t.now) ps b h))
      c.loop-i.settings c.add.new.self (2 * c.loop-i.i) c.in-Some.name.now c.in-Some-text_at.words.now refl
      (c.loop-i.invariant.so_far ps b h) c.in-Some.ensures c.in-Some-text_at.ensures c.in_ok-add.ensures.pairs
      c.in_ok-add.ensures.values c.in_ok-add.ensures.cost;
  cost = c.if-settings-left.false;
}

past : (i n m k : ℕ) → n / 2 ≤ i → n ≡ m → m ≡ suc (2 * k) → k ≤ i
past i n m k h e f = omega (arith, h, e, f)

pub returns : goal.returns
returns c = λ ps b h.
    settings_end c.args.base.now ps c.loop-i.i c.loop-i.settings (c.loop-i.invariant.so_far ps b h)
    (past c.loop-i.i c.arity-i-end.result (length (children_of c.args.t.now)) (length ps) c.loop-i-test.false
    c.arity-i-end.ensures (settings_count (children_of c.args.t.now) ps b h))
