use Rattle.std.proofs.Common.{◌≡◌, ◌+◌, ◌*◌, ◌≤◌, ◌∙◌, refl, ap, sym, subst, length, ltb-true, arith}
use Rattle.std.proofs.lemmas.Option.{slice_get_read}
use Rattle.tx_tree.specs.WideTree.{size_of}
use Rattle.tx_origin.specs.Values.{WideValue, plain}
use Rattle.tx_items.specs.Shows.{part_paragraphs, show, shown_paragraphs}
use Rattle.tx_view_form.specs.Weights.{weight_of}
use Rattle.tx_walk.specs.declared.part.Part.{Part as DonePart}
use Rattle.tx_part_layout.specs.declared.laid.PlacedPart.{PlacedPart}
use Rattle.tx_part_layout.specs.Laying.{IsAdded, given_back_by}
use Rattle.tx_part_layout.proofs.Few.{few_lines}
use Rattle.tx_part_layout.proofs.OnePart.{one_laid}
use Rattle.tx_part_layout.proofs.Reusing.{all_there, some_same}
use Rattle.tx_part_layout.proofs.SoFar.{one_right, placed_more}
use Rattle.tx_part_layout.proofs.laying.next_part.Goals as goal

pub add_slot-requires-clause-few : goal.add_slot-requires-clause-few
add_slot-requires-clause-few g c = λ q there.
    let x = c.args.laying.now in
    let d = c.in-Some.part.now in
    let one = c.in_ok-slot.ensures.slot in
    let p = one.part.laid.value in
    let next = ltb-true x.next (length c.args.parts.now) (sym c.in-Some.ensures.lookup.0) in
    let at = slice_get_read c.args.parts.now (length c.args.parts.now) x.next d refl next c.in-Some.ensures.lookup.1 in
    let small : size_of (plain d.trace.value) ≤ 1000000 =
    all_there (λ (e : DonePart). size_of (plain e.trace.value) ≤ 1000000) c.args.parts.now x.next d c.requires.small
    at in
    let weight =
    subst (λ (v : WideValue). weight_of (shown_paragraphs p.before v) ≤ 242 * size_of (plain d.trace.value))
    (sym one.value) (c.weight_laws.ensures.value p.before d.trace.value c.size-size.ensures.well_formed) in
    let own = few_lines c.args.width (size_of (plain d.trace.value)) p one.laid c.weight_laws.ensures.lines weight
    small in
    let same = ap (λ (r : PlacedPart). length r.laid.value.lines)
    (some_same one.part q (sym one.there ∙ there)) in
    let rows = c.requires.right.few_rows in
    let few = c.requires.few in omega (arith, own, same, rows, few, next)

pub add_slot-requires-clause-there : goal.add_slot-requires-clause-there
add_slot-requires-clause-there g c =
    let one = c.in_ok-slot.ensures.slot in (one.part, one.there, one.before)

pub returns-clause-laid : goal.returns-clause-laid
returns-clause-laid g c = λ t.
    let x = c.args.laying.now in
    let d = c.in-Some.part.now in
    let one = c.in_ok-slot.ensures.slot in
    let added = c.in_ok-add_slot.ensures one.part one.there in
    one_laid c.args.width c.args.old.now c.args.parts.now d one.part c.in_ok-slot.items x _ t
    (slice_get_read c.args.parts.now (length c.args.parts.now) x.next d refl
    (ltb-true x.next (length c.args.parts.now) (sym c.in-Some.ensures.lookup.0)) c.in-Some.ensures.lookup.1)
    (record {
      laid = one.laid;
      path = one.path;
      value = one.value;
      before = one.before;
      own =
          one.own
          ∙ ap (λ fs. part_paragraphs (show x.attrs d.trace.value).form
          (given_back_by fs (show x.attrs d.trace.value).after)) c.deref.ensures.value;
      anew = one.anew;
      next = ap (λ n. n + 1) added.next;
      attrs = added.attrs;
      frames = ap (λ fs. fs.items) added.frames;
      parts = placed_more c.args.old.now x.slots.items c.add_slot.new.laying.slots.items c.in_ok-slot.slot one.part
          added.slots one.there;
      errors = added.errors;
      rest = ap (λ ps. ps.items) added.rest;
      rest_lines = added.rest_lines;
      items = ap (λ n. n + c.in_ok-slot.items) added.items;
    })

pub returns-clause-right : goal.returns-clause-right
returns-clause-right g c =
    let x = c.args.laying.now in
    let d = c.in-Some.part.now in
    let one = c.in_ok-slot.ensures.slot in
    let a = c.in_ok-add_slot.ensures one.part one.there in
    let p = one.part.laid.value in
    let at = slice_get_read c.args.parts.now (length c.args.parts.now) x.next d refl
    (ltb-true x.next (length c.args.parts.now) (sym c.in-Some.ensures.lookup.0)) c.in-Some.ensures.lookup.1 in
    let small : size_of (plain d.trace.value) ≤ 1000000 =
    all_there (λ (e : DonePart). size_of (plain e.trace.value) ≤ 1000000) c.args.parts.now x.next d c.requires.small
    at in
    let weight =
    subst (λ (v : WideValue). weight_of (shown_paragraphs p.before v) ≤ 242 * size_of (plain d.trace.value))
    (sym one.value) (c.weight_laws.ensures.value p.before d.trace.value c.size-size.ensures.well_formed) in
    let added : IsAdded c.in_ok-slot.slot one.part x c.add_slot.new.laying =
    record {
      slots = a.slots;
      free = a.free;
      errors = a.errors;
      rows = a.rows;
      some = a.some;
      attrs = a.attrs;
      frames = a.frames;
      next = a.next;
      rest = a.rest;
      rest_lines = a.rest_lines;
      items = a.items;
    } in
    one_right c.args.width c.in_ok-slot.items c.args.old.now c.in_ok-slot.slot one.part x _
    c.add_slot.new.laying one.laid c.requires.right one.between one.there added one.above_is refl refl refl refl
    (ap (λ n. n + 1) a.next) (ap (λ n. n + c.in_ok-slot.items) a.items) one.few
    (few_lines c.args.width (size_of (plain d.trace.value)) p one.laid c.weight_laws.ensures.lines weight small)
