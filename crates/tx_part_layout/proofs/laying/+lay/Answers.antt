use Rattle.std.proofs.Common.{◌-◌, ◌∙◌, refl, ap, sym, subst, arith}
use Rattle.std.proofs.lemmas.List.{same_from_push}
use Rattle.std.proofs.lemmas.Result.{on_ok_weaker}
use Rattle.tx_tree.specs.WideTree.{WideTree}
use Rattle.tx_walk.proofs.Within.{named}
use Rattle.tx_part_items.specs.ShownParts.{settings_set, settings_given_back, parts_shown}
use Rattle.tx_part_layout.specs.declared.laying.Laying.{Laying}
use Rattle.tx_part_layout.specs.declared.settings.Frame.{Frame}
use Rattle.tx_part_layout.specs.Laying.{HasLaid, left_values, given_back_by}
use Rattle.tx_part_layout.proofs.Growing.{next_child, last_child}
use Rattle.tx_part_layout.proofs.Levels.{no_level, level_more, some_level, shut_opened, alone_laid, with_laid}
use Rattle.tx_part_layout.proofs.laying.+lay.Goals as goal

pub lay_children-loop-kid-preserved : goal.lay_children-loop-kid-preserved
lay_children-loop-kid-preserved g t c = record {
  going = next_child c.args.old.now c.args.parts.now c.args.levels c.children-kid-items.result.now
      c.loop-kid.kid-index c.kid-item.result c.loop-kid.laying c.lay_child.new.laying _ c.loop-kid-test.true
      c.kid-item.is c.loop-kid.invariant.going c.in_ok-lay_child.ensures.laid;
  right = c.in_ok-lay_child.ensures.right;
  counted =
      let before = c.loop-kid.invariant.counted in
      let own = c.in_ok-lay_child.ensures.counted in omega (arith, before, own);
  rises =
      let before = c.loop-kid.invariant.rises in
      let own = c.in_ok-lay_child.ensures.rises in omega (arith, before, own);
}

pub lay_children-returns-clause-laid : goal.lay_children-returns-clause-laid
lay_children-returns-clause-laid g t c =
    last_child c.args.old.now c.args.parts.now c.args.levels c.children-kid-items.result.now
    c.loop-kid.kid-index c.args.t.now c.args.laying.now c.loop-kid.laying
    (given_back_by c.args.laying.now.frames.items) c.loop-kid-test.false
    c.children-kid-items.ensures c.requires.opens c.loop-kid.invariant.going

pub lay_tree-returns-then-levels-eq0-clause-laid : goal.lay_tree-returns-then-levels-eq0-clause-laid
lay_tree-returns-then-levels-eq0-clause-laid g t c =
    no_level c.args.old.now c.args.parts.now (given_back_by c.args.laying.now.frames.items) c.args.laying.now
    c.args.t.now c.args.levels c.if-levels-eq0.true

pub lay_tree-returns-in-Document-clause-laid : goal.lay_tree-returns-in-Document-clause-laid
lay_tree-returns-in-Document-clause-laid g t c =
    on_ok_weaker c.lay_children.result
    (λ laid. level_more c.args.old.now c.args.parts.now (given_back_by c.args.laying.now.frames.items)
    c.args.laying.now c.lay_children.new.laying c.args.t.now c.args.levels (c.args.levels - 1)
    (some_level c.args.levels (c.args.levels - 1) c.if-levels-eq0.false refl) laid)
    c.lay_children.ensures.laid

pub lay_tree-returns-in-With-clause-laid : goal.lay_tree-returns-in-With-clause-laid
lay_tree-returns-in-With-clause-laid g t c =
    on_ok_weaker c.lay_with.result
    (λ laid. level_more c.args.old.now c.args.parts.now (given_back_by c.args.laying.now.frames.items)
    c.args.laying.now c.lay_with.new.laying c.args.t.now c.args.levels (c.args.levels - 1)
    (some_level c.args.levels (c.args.levels - 1) c.if-levels-eq0.false refl) laid)
    c.lay_with.ensures.laid

pub lay_tree-returns-in-Shut-clause-laid : goal.lay_tree-returns-in-Shut-clause-laid
lay_tree-returns-in-Shut-clause-laid g t c =
    let back = given_back_by c.args.laying.now.frames.items in
    on_ok_weaker c.next_part.result
    (λ laid. level_more c.args.old.now c.args.parts.now back c.args.laying.now
    c.next_part.new.laying c.args.t.now c.args.levels (c.args.levels - 1)
    (some_level c.args.levels (c.args.levels - 1) c.if-levels-eq0.false refl)
    (shut_opened c.args.old.now c.args.parts.now back c.args.laying.now c.next_part.new.laying
    c.args.t.now (parts_shown (c.args.levels - 1)) c.in-Shut.ensures (laid c.args.t.now)))
    c.next_part.ensures.laid

pub lay_child-returns-clause-laid : goal.lay_child-returns-clause-laid
lay_child-returns-clause-laid g t c =
    let x = c.args.laying.now in
    let u : Laying = record x { frames = c.replace-outer.new.dest } in
    let v = c.lay_tree.new.laying in
    let y : Laying = record v { frames = c.replace-outer.result } in
    alone_laid c.args.old.now c.args.parts.now c.args.levels x u v y c.args.t.now
    (record { next = refl; slots = refl; unit = refl }) refl
    (ap (λ fs. fs.items) c.replace-outer.ensures.after ∙ c.new.ensures.items)
    (record { next = refl; slots = refl; unit = refl }) refl
    (ap (λ fs. fs.items) c.replace-outer.ensures.value) c.in_ok-lay_tree.ensures.laid

pub lay_with-returns-clause-laid : goal.lay_with-returns-clause-laid
lay_with-returns-clause-laid g t c =
    let opens = c.requires.opens in
    let ps = opens.0 in
    let b = opens.1 in
    let texts = (named c.args.t.now ps b opens.2).texts in
    let settings = c.in_ok-settings.ensures ps b texts in
    let x = c.args.laying.now in
    let u : Laying = record x { attrs = c.set_each.new.attrs; frames = c.push.new.self } in
    let v = c.lay_tree.new.laying in
    let y : Laying = record v { attrs = c.restore_each.new.attrs; frames = c.pop.new.self } in
    let f : Frame = record { settings = c.in_ok-settings.settings; before = c.in_ok-before.before } in
    let pushed = c.in_ok-push.ensures.items in
    let both = same_from_push c.pop.new.self.items x.frames.items c.in-Some.frame f
    (sym c.in-Some.ensures.items ∙ c.in_ok-lay_tree.ensures.laid.frames ∙ pushed) in
    on_ok_weaker c.restore_each.result
    (λ restored. with_laid c.args.old.now c.args.parts.now x u v y ps b c.args.levels f c.args.t.now opens.2
    (record { next = refl; slots = refl; unit = refl })
    (c.in_ok-set_each.ensures ∙ ap (λ qs. settings_set qs x.attrs) (c.deref.ensures.value ∙ settings))
    pushed settings c.in_ok-before.ensures (record { next = refl; slots = refl; unit = refl })
    (restored ∙ ap (λ qs. settings_given_back qs c.in-Some.frame.before v.attrs) c.deref-2.ensures.value
    ∙ ap (λ (g : Frame). settings_given_back g.settings.items g.before v.attrs) both.1
    ∙ ap (λ qs. settings_given_back qs c.in_ok-before.before v.attrs) settings
    ∙ ap (λ a. settings_given_back ps a v.attrs) c.in_ok-before.ensures)
    both.0
    (subst (λ (w : WideTree). HasLaid c.args.old.now c.args.parts.now
    (parts_shown c.args.levels (given_back_by u.frames.items) u.attrs (left_values c.args.parts.now u.next) w) u v)
    (c.inner_of-inner.ensures ps b texts) c.in_ok-lay_tree.ensures.laid))
    c.restore_each.ensures
