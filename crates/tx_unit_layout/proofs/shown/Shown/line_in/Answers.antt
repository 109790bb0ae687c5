use Rattle.std.proofs.Common.{◌≡◌, ◌+◌, ◌-◌, List, length, refl, ap, sym, ◌∙◌, subst, arith, get_or}
use Rattle.std.specs.Prelude.{Some, slice_get}
use Rattle.std.proofs.lemmas.Bool.{eqb-true}
use Rattle.std.proofs.lemmas.Option.{slice_get_read, get_or_from_slice_get}
use Rattle.tx_part_layout.specs.LaidParts.{AreBelow, placed_lines}
use Rattle.tx_part_layout.specs.declared.laid.PlacedPart.{PlacedPart}
use Rattle.tx_unit_layout.proofs.Below.{first_above, last_above, none_above, line_of_part, line_besides}
use Rattle.tx_unit_layout.proofs.shown.Shown.line_in.Goals as goal

pub returns-then-is_empty : goal.returns-then-is_empty
returns-then-is_empty c =
    let none : length c.all-parts.result.now ≡ 0 = eqb-true _ _ (sym c.is_empty.ensures ∙ c.if-is_empty.true) in
    let same : length c.all-parts.result.now ≡ length c.args.self.now.parts = ap length c.all-parts.ensures in
    let parts : length c.args.self.now.parts ≡ 0 = sym same ∙ none in
    line_besides c.args.self.now 0 c.args.line c.args.line (sym parts)
    (omega (arith, none_above c.args.self.now.parts parts)) c.requires.there

pub part_above-k-requires-clause-first : goal.part_above-k-requires-clause-first
part_above-k-requires-clause-first c =
    first_above c.all-parts.result.now c.args.line (subst (AreBelow 0) (sym c.all-parts.ensures) c.requires.below)

pub overflow_sub-below : goal.overflow_sub-below
overflow_sub-below c =
    let there = slice_get_read c.all-parts.result.now (length c.all-parts.result.now) c.part_above-k.result
    c.index-parts-k.result refl c.part_above-k.ensures.within c.index-parts-k.is in
    omega (
      arith,
      c.part_above-k.ensures.found.begins c.index-parts-k.result there,
      ap (λ (p : PlacedPart). p.above) c.index-parts-k.is,
    )

pub returns-then-below-own : goal.returns-then-below-own
returns-then-below-own c =
    let ps = c.all-parts.result.now in
    let k = c.part_above-k.result in
    let p = c.index-parts-k.result in
    let there : slice_get ps k ≡ Some p =
    slice_get_read ps (length ps) k p refl c.part_above-k.ensures.within c.index-parts-k.is in
    let above = ap (λ (q : PlacedPart). q.above) c.index-parts-k.is in
    let own : length c.all.result.now ≡ length p.laid.value.lines =
    ap length c.all.ensures ∙ ap (λ l. length l.lines) c.deref.ensures
    ∙ ap (λ (q : PlacedPart). length q.laid.value.lines) (get_or_from_slice_get ps k p _ there) in
    line_of_part c.args.self.now ps k (c.args.line - (get_or ps k p).above) c.args.line p c.all-parts.ensures
    (subst (AreBelow 0) (sym c.all-parts.ensures) c.requires.below) there
    (omega (arith, own, c.if-below-own.true))
    (omega (arith, above, c.part_above-k.ensures.found.begins p there))

pub returns : goal.returns
returns c =
    let ps = c.all-parts.result.now in
    let k = c.part_above-k.result in
    let p = c.index-parts-k.result in
    let below = subst (AreBelow 0) (sym c.all-parts.ensures) c.requires.below in
    let there : slice_get ps k ≡ Some p =
    slice_get_read ps (length ps) k p refl c.part_above-k.ensures.within c.index-parts-k.is in
    let above = ap (λ (q : PlacedPart). q.above) c.index-parts-k.is in
    let begins = c.part_above-k.ensures.found.begins p there in
    let own : length c.all.result.now ≡ length p.laid.value.lines =
    ap length c.all.ensures ∙ ap (λ l. length l.lines) c.deref.ensures
    ∙ ap (λ (q : PlacedPart). length q.laid.value.lines) (get_or_from_slice_get ps k p _ there) in
    let last = last_above ps 0 k (k + 1) c.args.line p below there refl c.part_above-k.ensures.found.next
    (omega (arith, above, begins, own, c.if-below-own.false)) in
    line_besides c.args.self.now (length ps) (c.args.line - (get_or ps k p).above - length c.all.result.now) c.args.line
    (ap length c.all-parts.ensures)
    (omega (
      arith,
      above,
      begins,
      own,
      last,
      c.if-below-own.false,
      ap (λ (qs : List PlacedPart). length (placed_lines qs)) c.all-parts.ensures,
    )) c.requires.there
