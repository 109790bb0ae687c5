use Rattle.std.proofs.Common.{◌∙◌, List, [], map, length, false, Option, None, ap, refl, sym, subst, arith}
use Rattle.tx_units.specs.declared.kinds.Unit.{Unit as DocUnit}
use Rattle.tx_units.specs.Units.{units}
use Rattle.tx_items.specs.declared.attributes.Attrs.{Attrs}
use Rattle.tx_bridge.specs.Entries.{Kept, nothing_kept}
use Rattle.tx_bridge.specs.PartsKept.{KeptParts}
use Rattle.tx_bridge.specs.Strays.{StandAside, kept_strays}
use Rattle.tx_unit_layout.specs.LaidAts.{LaidAt, laid_at}
use Rattle.tx_view.specs.declared.view.View.TheInside.{Inside}
use Rattle.tx_view.specs.Laid.{AreLaid, AreBlank}
use Rattle.tx_view.specs.Names.{Empty}
use Rattle.tx_view.proofs.Blank.{empty_is, empty_parts_is, blank_laid, blank_attributes, blank_ats, blank_readable}
use Rattle.tx_view.proofs.LaidCarried.{laid_new}
use Rattle.tx_view.proofs.Standing.{stale, none_aside, stale_view}
use Rattle.tx_view.proofs.view.View.new.Goals as goal

pub invariant_of-result : goal.invariant_of-result
invariant_of-result g c =
    let us : List DocUnit = c.in_ok-made.made.items in
    let xs = c.in_ok-hidden.hidden.items in
    let blank : AreBlank us xs =
    subst (λ (vs : List DocUnit). AreBlank vs xs) c.deref.ensures.value c.in_ok-hidden.ensures in
    stale _ (record {
      some = omega (arith, ap length c.in_ok-share_buffers.ensures, c.requires.some);
      few = omega (arith, ap length c.in_ok-share_buffers.ensures, c.requires.few);
      least_width = c.requires.least_width;
      most_width = c.requires.most_width;
      least_height = c.requires.least_height;
      most_height = c.requires.most_height;
      of_buffers =
          c.in_ok-start.ensures.units ∙ c.in_ok-made.ensures.units ∙ ap units (sym c.in_ok-share_buffers.ensures);
    }) refl c.new.ensures.items c.in_ok-nothing_paged.ensures.pages c.in_ok-nothing_paged.ensures.rows
    c.in_ok-nothing_paged.ensures.errors
    (subst (λ (es : Kept). AreLaid c.args.width es c.in_ok-start.field-0.parts xs)
    (sym (c.in_ok-start.ensures.empty ∙ empty_is us))
    (subst (λ (pss : List KeptParts). AreLaid c.args.width (nothing_kept us) pss xs)
    (sym (c.in_ok-start.ensures.parts ∙ empty_parts_is us)) (blank_laid c.args.width us xs blank)))
    (blank_readable us xs blank)
    (none_aside _ c.none.ensures (subst (StandAside _) (sym c.in_ok-start.ensures.strays) tt))
    (laid_new us _ _ _ _ (blank_ats us xs blank) (ap (map laid_at) c.none.ensures)) tt

pub returns-clause-view : goal.returns-clause-view
unfolding Empty
returns-clause-view g c =
    let us : List DocUnit = c.in_ok-made.made.items in
    let xs = c.in_ok-hidden.hidden.items in
    let blank : AreBlank us xs =
    subst (λ (vs : List DocUnit). AreBlank vs xs) c.deref.ensures.value c.in_ok-hidden.ensures in
    let nothing : DocUnit → Option Attrs = λ u. None in
    let none : DocUnit → KeptParts = λ u. [] in
    let none_at : DocUnit → List LaidAt = λ u. [] in
    let v : Inside = record {
      buffers = c.in_ok-share_buffers.field-0;
      width = c.args.width;
      height = c.args.height;
      fresh = false;
      bridges = c.in_ok-start.field-0;
      units = c.new.result;
      hidden = c.in_ok-hidden.hidden;
      strays = c.none.result;
      paged = c.in_ok-nothing_paged.field-0;
      lone = None;
      work = 0;
    } in
    stale_view v c.args.buffers.now (nothing_kept (units c.args.buffers.now)) (map none (units c.args.buffers.now))
    (map nothing (units c.args.buffers.now)) (map none_at (units c.args.buffers.now)) [] [] refl
    c.new.ensures.items c.in_ok-nothing_paged.ensures.pages c.in_ok-share_buffers.ensures
    (c.in_ok-start.ensures.empty ∙ empty_is us ∙ ap nothing_kept c.in_ok-made.ensures.units)
    (c.in_ok-start.ensures.parts ∙ empty_parts_is us ∙ ap (map none) c.in_ok-made.ensures.units)
    (blank_attributes us xs blank ∙ ap (map nothing) c.in_ok-made.ensures.units)
    (blank_ats us xs blank ∙ ap (map none_at) c.in_ok-made.ensures.units)
    (ap kept_strays c.in_ok-start.ensures.strays) (ap (map laid_at) c.none.ensures)
