use Rattle.std.proofs.lemmas.List.{take_at}
use Rattle.std.proofs.Common.{◌≡◌, ◌∙◌, ◌+◌, List, [], length, map, inr, ap, refl, subst, sym, rules}
use Rattle.std.specs.List.{All}
use Rattle.std.specs.Vec.{with_items}
use Rattle.tx_doc.specs.Buffers.{document_of}
use Rattle.tx_doc.specs.declared.buffer.Buffer.{Buffer}
use Rattle.tx_units.specs.Units.{units}
use Rattle.tx_view_form.specs.Outcomes.{beginning}
use Rattle.tx_view_form.specs.Views.{AreShown}
use Rattle.tx_part_layout.specs.declared.laid.PlacedPart.{PlacedPart}
use Rattle.tx_bridge.specs.Strays.{kept_strays}
use Rattle.tx_unit_layout.specs.LaidAts.{laid_at}
use Rattle.tx_unit_layout.specs.declared.shown.Shown.{Shown}
use Rattle.tx_view.specs.declared.view.View.TheInside.{Inside}
use Rattle.tx_view.specs.Laid.{AreLaid, laid_in, laid_parts_in, view_stores_in}
use Rattle.tx_view.specs.LaidMoves.{AreAllOrNoneLaid}
use Rattle.tx_view.specs.Lone.{IsPaged}
use Rattle.tx_view.specs.Names.{Bound, Fresh}
use Rattle.tx_view.specs.RowParts.{AreRowParts}
use Rattle.tx_view.specs.Rows.{row_parts}
use Rattle.tx_view.specs.Units.{unit_views, sums_from, row_counts, error_counts, IsBelow, AreAllApart}
use Rattle.tx_view.proofs.Forgetting.{AllReadable}
use Rattle.tx_view.proofs.Partly.{stay_aside}
use Rattle.tx_view.proofs.LaidCarried.{laid_fresh}
use Rattle.tx_view.proofs.Standing.{AreAllOrNone, stale, left_none, none_aside, standing, stores_with, bound_stale}
use Rattle.tx_view.proofs.view.View.refresh.Goals as goal

-- when out of memory
pub invariant_of-self : goal.invariant_of-self
invariant_of-self g c =
    let many : length c.made_anew.new.all ≡ c.self.inside.hidden.len = search rules in
    let now : c.made_anew.new.all ≡ (with_items c.self.inside.hidden c.made_anew.new.all).items =
    sym (take_at c.made_anew.new.all _ c.self.inside.hidden.len many) in
    let same = c.deref.ensures.value in
    let none : c.self.inside.units.items ≡ [] = c.self.invariant.hidden c.if-self.false in
    let v : Inside = record c.self.inside {
      bridges = c.made_anew.new.bridges;
      hidden = with_items c.self.inside.hidden c.made_anew.new.all;
      lone = c.replace-lone.new.dest;
      strays = c.forget.new.self;
    } in
    stale v (record {
      some = c.self.invariant.some;
      few = c.self.invariant.few;
      least_width = c.self.invariant.least_width;
      most_width = c.self.invariant.most_width;
      least_height = c.self.invariant.least_height;
      most_height = c.self.invariant.most_height;
      of_buffers = c.in_err-paged.ensures.of_buffers ∙ ap units same;
    }) c.if-self.false none (c.self.invariant.no_pages c.if-self.false)
    (c.self.invariant.rows ∙ ap (λ xs. sums_from 0 (row_counts (unit_views xs))) none)
    (c.self.invariant.errors ∙ ap (λ xs. sums_from 0 (error_counts (unit_views xs))) none)
    (subst (λ (xs : List Shown). AreLaid c.self.inside.width c.made_anew.new.bridges.kept
    c.made_anew.new.bridges.parts xs) now
    c.in_err-paged.ensures.laid)
    (subst AllReadable now c.in_err-paged.ensures.readable)
    (none_aside v c.forget.ensures
    (stay_aside (document_of c.self.inside.buffers.items) c.self.inside.bridges.strays c.made_anew.new.bridges.strays
    c.in_err-paged.ensures.strays_left c.self.invariant.aside))
    (subst (AreAllOrNone v) now (inr (record {
      units = c.in_err-paged.ensures.refused.laid_parts;
      strays = ap (map laid_at) c.forget.ensures;
    }))) (left_none v c.replace-lone.ensures.after)

pub invariant_of-self-2 : goal.invariant_of-self-2
invariant_of-self-2 g c =
    let many : length c.made_anew.new.all ≡ c.self.inside.hidden.len = search rules in
    let now : c.made_anew.new.all ≡ c.swap.new.x.items =
    sym (ap (λ v. v.items) c.swap.ensures.x_after ∙ take_at c.made_anew.new.all _ c.self.inside.hidden.len many) in
    let same = c.deref.ensures.value in
    standing _ (record {
      some = c.self.invariant.some;
      few = c.self.invariant.few;
      least_width = c.self.invariant.least_width;
      most_width = c.self.invariant.most_width;
      least_height = c.self.invariant.least_height;
      most_height = c.self.invariant.most_height;
      of_buffers = c.in_ok-paged.ensures.of_buffers ∙ ap units same;
    }) refl
    (subst (λ (xs : List Shown).
    AreShown c.self.inside.width beginning (units c.self.inside.buffers.items) (unit_views xs)) now
    (subst (λ (bs : List Buffer). AreShown c.self.inside.width beginning (units bs) (unit_views c.made_anew.new.all))
    same c.in_ok-paged.ensures.shown))
    (subst (λ (xs : List Shown). AreRowParts c.self.inside.width beginning (units c.self.inside.buffers.items)
    (unit_views xs) (row_parts xs)) now
    (subst (λ (bs : List Buffer). AreRowParts c.self.inside.width beginning (units bs)
    (unit_views c.made_anew.new.all) (row_parts c.made_anew.new.all)) same c.in_ok-paged.ensures.row_parts))
    (subst (λ (xs : List Shown). IsPaged c.self.inside.height (unit_views xs) c.in_ok-paged.paged) now
    c.in_ok-paged.ensures.paged)
    (ap (λ (xs : List Shown). stores_with c.made_anew.new.bridges.kept c.made_anew.new.bridges.parts (laid_in xs)
    (laid_parts_in xs) (kept_strays c.made_anew.new.bridges.strays) (map laid_at c.forget.new.self)) (sym now)
    ∙ ap (λ (ps : List PlacedPart). stores_with c.made_anew.new.bridges.kept c.made_anew.new.bridges.parts
    (laid_in c.made_anew.new.all) (laid_parts_in c.made_anew.new.all) (kept_strays c.made_anew.new.bridges.strays)
    (map laid_at ps)) c.forget.ensures ∙ c.in_ok-paged.ensures.stores ∙ ap Fresh same)
    (subst (λ (xs : List Shown). AreAllApart (unit_views xs)) now c.in_ok-paged.ensures.apart)
    (subst (λ (xs : List Shown). AreLaid c.self.inside.width c.made_anew.new.bridges.kept
    c.made_anew.new.bridges.parts xs) now
    c.in_ok-paged.ensures.laid)
    (subst AllReadable now c.in_ok-paged.ensures.readable)
    (subst (λ (xs : List Shown). All IsBelow xs) now c.in_ok-paged.ensures.below)
    (none_aside _ c.forget.ensures
    (stay_aside (document_of c.self.inside.buffers.items) c.self.inside.bridges.strays c.made_anew.new.bridges.strays
    (inr c.in_ok-paged.ensures.strays) c.self.invariant.aside))
    (subst (λ (xs : List Shown). AreAllOrNoneLaid c.made_anew.new.bridges.parts (laid_parts_in xs)
    (kept_strays c.made_anew.new.bridges.strays) (map laid_at c.forget.new.self)) now
    (laid_fresh c.self.inside.width c.deref.result.now c.made_anew.new.bridges c.made_anew.new.all
    (map laid_at c.forget.new.self) c.in_ok-paged.ensures.laid c.in_ok-paged.ensures.stores
    c.in_ok-paged.ensures.strays (ap (map laid_at) c.forget.ensures))) c.replace-lone.ensures.after

pub returns-clause-work : goal.returns-clause-work
returns-clause-work g c = λ fresh.
    c.in_ok-paged.ensures.work
    ∙ ap (λ (xs : List Shown). Bound (view_stores_in c.self.inside.bridges xs)) c.deref_mut.ensures.value
    ∙ bound_stale c.self.inside c.if-self.false ∙ ap (λ w. Bound w.stores) c.self.view_is

pub returns-clause-counted : goal.returns-clause-counted
returns-clause-counted g c = λ fresh.
    let work : c.in_ok-paged.work ≡ Bound c.args.self.now.stores =
    c.in_ok-paged.ensures.work
    ∙ ap (λ (xs : List Shown). Bound (view_stores_in c.self.inside.bridges xs)) c.deref_mut.ensures.value
    ∙ bound_stale c.self.inside c.if-self.false ∙ ap (λ w. Bound w.stores) c.self.view_is in
    c.in_ok-paged.ensures.counted ∙ ap (λ n. c.args.steps.now + n) work
