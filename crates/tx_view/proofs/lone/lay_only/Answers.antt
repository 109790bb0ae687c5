use Rattle.std.proofs.Common.{◌≡◌, ◌∙◌, true, List, Some, None, ap, sym, subst, arith, slice_set, slice_index_or, map}
use Rattle.std.proofs.lemmas.List.{map-set, set-get_or}
use Rattle.std.proofs.lemmas.List.Elements.{All-set}
use Rattle.std.proofs.lemmas.Result.{IfOk-weaker, on_ok_weaker}
use Rattle.std.specs.List.{All}
use Rattle.tx_exec.specs.Outcomes.{wide_outcome}
use Rattle.tx_view_form.specs.Outcomes.{beginning}
use Rattle.tx_bridge.specs.Entries.{units_of}
use Rattle.tx_bridge.specs.HeldParts.{kept_parts, flags_of_parts}
use Rattle.tx_unit_layout.specs.declared.shown.Shown.{Shown}
use Rattle.tx_unit_layout.specs.LaidAts.{laid_at, unit_items_anew}
use Rattle.tx_unit_layout.specs.Views.{IsReadable}
use Rattle.tx_view.specs.Laid.{laid_in, items_unlaid_from, WereLaid}
use Rattle.tx_view.specs.Lone.{AreAlike, KeepPages}
use Rattle.tx_view.proofs.Alone.{comes_to, small_value, takes_alone}
use Rattle.tx_view.proofs.Likeness.{pages_stay}
use Rattle.tx_view.proofs.Endings.{on_either}
use Rattle.tx_view.proofs.Leaving.{laid_within}
use Rattle.tx_view.proofs.Onward.{entry_there, laid_many, laid_set_here, unit_found, was_laid_here}
use Rattle.tx_view.proofs.lone.lay_only.Goals as goal

pub overflow_cast-i : goal.overflow_cast-i
overflow_cast-i g c =
    omega (
      arith,
      laid_within c.args.units.now c.args.lone.now.unit None c.requires.nothing_laid,
      laid_many c.args.width c.args.bridges.now.kept c.args.bridges.now.parts c.args.bridges.now.part_flags
          c.args.units.now c.requires.laid,
      c.requires.few,
    )

pub unreachable-requires : goal.unreachable-requires
unreachable-requires g c =
    let e = entry_there c.args.bridges.now.kept c.args.lone.now.unit (omega (
      arith,
      laid_within c.args.units.now c.args.lone.now.unit None c.requires.nothing_laid,
      laid_many c.args.width c.args.bridges.now.kept c.args.bridges.now.parts c.args.bridges.now.part_flags
          c.args.units.now c.requires.laid,
    )) in
    absurd (let off : None ≡ Some e.0 = sym c.in_default.ensures.found ∙ e.1 in cc)

pub bounds-units-lone : goal.bounds-units-lone
bounds-units-lone g c = laid_within c.args.units.now c.args.lone.now.unit None c.requires.nothing_laid

pub offset_bounds-units-lone : goal.offset_bounds-units-lone
offset_bounds-units-lone g c =
    omega (
      arith,
      laid_within c.args.units.now c.args.lone.now.unit None c.requires.nothing_laid,
      laid_many c.args.width c.args.bridges.now.kept c.args.bridges.now.parts c.args.bridges.now.part_flags
          c.args.units.now c.requires.laid,
      c.requires.few,
    )

pub lay_anew-requires-clause-small : goal.lay_anew-requires-clause-small
lay_anew-requires-clause-small g c =
    let at = unit_found c.args.bridges.now c.args.lone.now.unit c.in-Some.own.now
    (wide_outcome c.in-Some-outcome.outcome.now) (kept_parts c.in-Some-parts.parts.now)
    (flags_of_parts c.in-Some-parts.parts.now) c.in-Some.ensures.found
    c.in-Some-outcome.ensures.found c.in-Some-parts.ensures.found c.in-Some-parts.ensures.renewed in
    let m = comes_to at c.requires.fresh c.requires.fresh_parts in
    small_value c.size_law.ensures c.trace_laws.ensures.allowed m.0 c.in-Some.own.now
    (wide_outcome c.in-Some-outcome.outcome.now) m.1

pub lay_anew-requires-clause-fresh : goal.lay_anew-requires-clause-fresh
lay_anew-requires-clause-fresh g c =
    let at = unit_found c.args.bridges.now c.args.lone.now.unit c.in-Some.own.now
    (wide_outcome c.in-Some-outcome.outcome.now) (kept_parts c.in-Some-parts.parts.now)
    (flags_of_parts c.in-Some-parts.parts.now) c.in-Some.ensures.found
    c.in-Some-outcome.ensures.found c.in-Some-parts.ensures.found c.in-Some-parts.ensures.renewed in
    comes_to at c.requires.fresh c.requires.fresh_parts

pub lay_anew-requires-clause-was_laid : goal.lay_anew-requires-clause-was_laid
lay_anew-requires-clause-was_laid g c =
    let at = unit_found c.args.bridges.now c.args.lone.now.unit c.in-Some.own.now
    (wide_outcome c.in-Some-outcome.outcome.now) (kept_parts c.in-Some-parts.parts.now)
    (flags_of_parts c.in-Some-parts.parts.now) c.in-Some.ensures.found
    c.in-Some-outcome.ensures.found c.in-Some-parts.ensures.found c.in-Some-parts.ensures.renewed in
    was_laid_here at c.args.width c.args.units.now c.index-units-lone.result c.requires.laid

pub returns-clause-attributes : goal.returns-clause-attributes
returns-clause-attributes g c =
    on_ok_weaker c.lay_anew.result (λ laid.
    map-set (λ (x : Shown). x.laid) c.args.units.now c.args.lone.now.unit c.lay_anew.new.shown
    ∙ ap (slice_set (laid_in c.args.units.now) c.args.lone.now.unit) laid ∙ c.requires.attributes)
    c.lay_anew.ensures.laid

pub returns-clause-items : goal.returns-clause-items
returns-clause-items g c =
    let at = unit_found c.args.bridges.now c.args.lone.now.unit c.in-Some.own.now
    (wide_outcome c.in-Some-outcome.outcome.now) (kept_parts c.in-Some-parts.parts.now)
    (flags_of_parts c.in-Some-parts.parts.now) c.in-Some.ensures.found
    c.in-Some-outcome.ensures.found c.in-Some-parts.ensures.found c.in-Some-parts.ensures.renewed in
    let took = takes_alone at c.args.units.now c.index-units-lone.result c.args.lone.now.attrs c.requires.fresh
    c.requires.fresh_parts c.requires.nothing_laid c.requires.attributes in
    let items = items_unlaid_from beginning (units_of c.args.bridges.now.kept) c.args.bridges.now.part_flags
    c.args.units.now in
    IfOk-weaker c.lay_anew.result (λ p. p.0 ≡ unit_items_anew c.args.lone.now.attrs
    (record { unit = c.in-Some.own.now; trace = wide_outcome c.in-Some-outcome.outcome.now })
    (kept_parts c.in-Some-parts.parts.now) (flags_of_parts c.in-Some-parts.parts.now)
    (map laid_at (slice_index_or c.args.units.now c.args.lone.now.unit c.index-units-lone.result).parts))
    (λ p. p.0 ≡ items) (λ p is. is ∙ sym took)
    c.lay_anew.ensures.items

pub returns-clause-alike : goal.returns-clause-alike
returns-clause-alike g c =
    IfOk-weaker c.lay_anew.result (λ p. p.1 ≡ true → AreAlike c.args.lone.now c.lay_anew.new.shown)
    (λ p. p.1 ≡ true → KeepPages c.args.lone.now c.args.units.now
    (slice_set c.args.units.now c.args.lone.now.unit c.lay_anew.new.shown))
    (λ p alike yes. pages_stay c.args.units.now c.args.lone.now c.lay_anew.new.shown (alike yes))
    c.lay_anew.ensures.alike

pub returns-clause-laid : goal.returns-clause-laid
returns-clause-laid g c =
    let at = unit_found c.args.bridges.now c.args.lone.now.unit c.in-Some.own.now
    (wide_outcome c.in-Some-outcome.outcome.now) (kept_parts c.in-Some-parts.parts.now)
    (flags_of_parts c.in-Some-parts.parts.now) c.in-Some.ensures.found
    c.in-Some-outcome.ensures.found c.in-Some-parts.ensures.found c.in-Some-parts.ensures.renewed in
    let i = c.args.lone.now.unit in
    on_either c.lay_anew.result
    (laid_set_here at c.args.width c.args.units.now c.lay_anew.new.shown c.requires.laid)
    (λ same. subst (λ (xs : List Shown). WereLaid c.args.width c.args.bridges.now.kept c.args.bridges.now.parts
    c.args.bridges.now.part_flags xs)
    (sym (ap (slice_set c.args.units.now i) same ∙ set-get_or c.args.units.now i c.index-units-lone.result))
    c.requires.laid) c.lay_anew.ensures.was_laid c.lay_anew.ensures.err

pub returns-clause-readable : goal.returns-clause-readable
returns-clause-readable g c =
    let i = c.args.lone.now.unit in
    on_either c.lay_anew.result
    (λ readable. All-set IsReadable c.args.units.now i c.lay_anew.new.shown readable c.requires.readable)
    (λ same. subst (λ (xs : List Shown). All IsReadable xs)
    (sym (ap (slice_set c.args.units.now i) same ∙ set-get_or c.args.units.now i c.index-units-lone.result))
    c.requires.readable) c.lay_anew.ensures.readable c.lay_anew.ensures.err
