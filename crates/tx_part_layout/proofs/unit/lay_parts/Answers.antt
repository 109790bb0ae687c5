use Rattle.std.proofs.Common.{◌≤◌, [], ◌∙◌, map, ap, subst, sym, length, arith}
use Rattle.tx_exec_form.specs.declared.TheConstants.{MOST_LEVELS}
use Rattle.tx_parts.specs.Parts.{stored_part, parts}
use Rattle.tx_part_layout.specs.LaidParts.{items_anew, whole_shown}
use Rattle.tx_part_layout.specs.Slots.{AreRising, placed_by}
use Rattle.tx_part_layout.proofs.SoFar.{nothing_right}
use Rattle.tx_part_layout.proofs.Stacking.{rising_within}
use Rattle.tx_part_layout.proofs.Wholes.{Starts, Ends, whole_laid, whole_items, shows_value, shown_by}
use Rattle.tx_part_layout.proofs.unit.lay_parts.Goals as goal

pub lay_tree-requires-clause-right : goal.lay_tree-requires-clause-right
lay_tree-requires-clause-right g c =
    let e = c.new-laying.ensures in
    nothing_right c.args.width c.deref.result.now c.new-laying.result e.slots e.free e.rows e.some e.items

pub put_together-requires : goal.put_together-requires
put_together-requires g c =
    let right = c.in_ok-lay_tree.ensures.right in
    let y = c.lay_tree.new.laying in
    record {
      rising =
          rising_within y.free (length c.args.former.now.items) 0 c.end_unit.new.laying.slots.items
          (subst (AreRising y.free 0) (ap (λ ss. ss.items) (sym c.in_ok-end_unit.ensures.slots)) right.rising)
          (subst (λ old. y.free ≤ length old) c.deref.ensures.value right.within);
    }

pub returns-clause-laid : goal.returns-clause-laid
returns-clause-laid g c =
    let e = c.new-laying.ensures in
    let f = c.in_ok-end_unit.ensures in
    let y = c.lay_tree.new.laying in
    whole_laid c.args.width c.deref.result.now c.args.parts.now c.args.attrs.now c.args.tree.now
    c.new-laying.result y _
    (record {
      attrs = e.attrs ∙ c.in_ok-copy.ensures;
      frames = e.frames;
      next = e.next;
      slots = e.slots;
      errors = e.errors;
      items = e.items;
    })
    c.in_ok-lay_tree.ensures.laid
    (record {
      right = c.in_ok-lay_tree.ensures.right;
      paragraphs = f.paragraphs c.deref.result.now c.in_ok-lay_tree.ensures.right;
      lines = f.lines;
      parts =
          c.in_ok-unit.ensures.parts ∙ ap (λ ss. placed_by c.args.former.now.items ss.items) f.slots
          ∙ ap (λ old. placed_by old y.slots.items) (sym c.deref.ensures.value);
      errors = f.errors;
      items = f.items;
    })
    c.lines_under_law.ensures.lines

pub returns-clause-items : goal.returns-clause-items
returns-clause-items g c =
    let e = c.new-laying.ensures in
    let f = c.in_ok-end_unit.ensures in
    let y = c.lay_tree.new.laying in
    let ds = c.args.parts.now in
    let s = whole_shown c.args.attrs.now ds c.args.tree.now in
    whole_items c.args.width c.deref.result.now ds c.args.attrs.now c.args.tree.now c.new-laying.result y
    (record c.end_unit.new.laying.unit { parts = c.in_ok-unit.field-0 })
    (record {
      attrs = e.attrs ∙ c.in_ok-copy.ensures;
      frames = e.frames;
      next = e.next;
      slots = e.slots;
      errors = e.errors;
      items = e.items;
    })
    c.in_ok-lay_tree.ensures.laid
    (record {
      right = c.in_ok-lay_tree.ensures.right;
      paragraphs = f.paragraphs c.deref.result.now c.in_ok-lay_tree.ensures.right;
      lines = f.lines;
      parts =
          c.in_ok-unit.ensures.parts ∙ ap (λ ss. placed_by c.args.former.now.items ss.items) f.slots
          ∙ ap (λ old. placed_by old y.slots.items) (sym c.deref.ensures.value);
      errors = f.errors;
      items = f.items;
    })
    ∙ ap (λ old. items_anew old ds s.each) c.deref.ensures.value

pub returns-clause-shown : goal.returns-clause-shown
returns-clause-shown g c = λ steps e trace comes same.
    let law = c.parts_shown_law.ensures in
    let a = c.args.attrs.now in
    let t = c.args.tree.now in
    shows_value c.args.width a trace.value c.args.parts.now t _ (returns-clause-laid g c)
    (shown_by a trace.value c.args.parts.now (map stored_part (parts MOST_LEVELS steps [] t e)) t
    (law.each MOST_LEVELS steps t e trace a comes) (law.paragraphs MOST_LEVELS steps t e trace a comes)
    (law.errors MOST_LEVELS steps t e trace a comes) same)
