use Rattle.std.proofs.Common.{◌≡◌, ◌∙◌, List, ap, sym, subst, arith}
use Rattle.std.specs.Prelude.{None}
use Rattle.tx_units.specs.declared.kinds.Unit.{Unit as DocUnit}
use Rattle.tx_view_form.specs.Outcomes.{beginning}
use Rattle.tx_view_form.specs.Views.{AreShown}
use Rattle.tx_bridge.specs.Entries.{units_of, fresh_from}
use Rattle.tx_bridge.specs.Names.{PartFlags}
use Rattle.tx_bridge.specs.PartsKept.{fresh_parts_from}
use Rattle.tx_unit_layout.specs.declared.shown.Shown.{Shown}
use Rattle.tx_view.specs.Costs.{items_relaid_from}
use Rattle.tx_view.specs.Laid.{AreLaid, items_unlaid_from, laid_in, laid_parts_in, view_stores_in}
use Rattle.tx_view.specs.Lone.{KeepPages}
use Rattle.tx_view.specs.Stores.{IsPartlyFresh, fresh_stores, attributes_from, laid_parts_from}
use Rattle.tx_view.specs.Units.{unit_views}
use Rattle.tx_view.proofs.Alone.{ready_is, shown_from, all_laid, without_alone}
use Rattle.tx_view.proofs.Keeping.{laid_many, laid_left, at_rest, parts_laid}
use Rattle.tx_view.proofs.Leaving.{laid_within}
use Rattle.tx_bridge.proofs.Partway.{any_err}
use Rattle.tx_view.proofs.Partly.{evaluated, laid_then}
use Rattle.tx_view.proofs.Renewed.{relaid_is, same_many}
use Rattle.tx_view.proofs.refreshing.lay_out_lone.Goals as goal

pub evaluate-requires : goal.evaluate-requires
evaluate-requires g c = record {
  few =
      omega (
        arith,
        laid_many c.args.width c.args.bridges.now.kept c.args.bridges.now.parts c.args.units.now c.requires.laid,
        c.requires.few,
      );
  as_many = laid_many c.args.width c.args.bridges.now.kept c.args.bridges.now.parts c.args.units.now c.requires.laid;
}

pub is_alone_quietly-quiet-requires : goal.is_alone_quietly-quiet-requires
is_alone_quietly-quiet-requires g c =
    omega (
      arith,
      laid_within c.args.units.now c.args.lone.now.unit None c.requires.lone.nothing_laid,
      laid_many c.args.width c.args.bridges.now.kept c.args.bridges.now.parts c.args.units.now c.requires.laid,
      c.requires.few,
    )

pub lay_if-requires-clause-few : goal.lay_if-requires-clause-few
lay_if-requires-clause-few g c =
    omega (
      arith,
      same_many c.args.bridges.now.kept c.evaluate.new.bridges.kept c.in_ok-charges.ensures.units,
      c.requires.few,
    )

pub lay_if-requires-clause-fresh : goal.lay_if-requires-clause-fresh
lay_if-requires-clause-fresh g c =
    c.in_ok-charges.ensures.kept ∙ ap (fresh_from beginning) (sym c.in_ok-charges.ensures.units)

pub lay_if-requires-clause-nothing_laid : goal.lay_if-requires-clause-nothing_laid
lay_if-requires-clause-nothing_laid g c = λ quiet.
    (ready_is c.args.lone.now.unit c.args.bridges.now.kept c.evaluate.new.bridges.kept c.evaluate.new.bridges.reached
    c.args.units.now c.evaluate.new.units c.args.lone.now.attrs (c.is_alone_quietly-quiet.ensures.quiet quiet)
    c.requires.lone (c.in_ok-charges.ensures.alone (c.is_alone_quietly-quiet.ensures.alone quiet))
    (laid_many c.args.width c.args.bridges.now.kept c.args.bridges.now.parts c.args.units.now c.requires.laid)
    c.in_ok-charges.ensures.units
    (same_many c.args.bridges.now.kept c.evaluate.new.bridges.kept c.in_ok-charges.ensures.units)
    c.in_ok-charges.ensures.kept c.in_ok-charges.ensures.shown).nothing_laid

pub lay_if-requires-clause-attributes : goal.lay_if-requires-clause-attributes
lay_if-requires-clause-attributes g c = λ quiet.
    (ready_is c.args.lone.now.unit c.args.bridges.now.kept c.evaluate.new.bridges.kept c.evaluate.new.bridges.reached
    c.args.units.now c.evaluate.new.units c.args.lone.now.attrs (c.is_alone_quietly-quiet.ensures.quiet quiet)
    c.requires.lone (c.in_ok-charges.ensures.alone (c.is_alone_quietly-quiet.ensures.alone quiet))
    (laid_many c.args.width c.args.bridges.now.kept c.args.bridges.now.parts c.args.units.now c.requires.laid)
    c.in_ok-charges.ensures.units
    (same_many c.args.bridges.now.kept c.evaluate.new.bridges.kept c.in_ok-charges.ensures.units)
    c.in_ok-charges.ensures.kept c.in_ok-charges.ensures.shown).attributes

pub returns-then-alike-clause-shown : goal.returns-then-alike-clause-shown
returns-then-alike-clause-shown g c =
    subst (λ (us : List DocUnit). AreShown c.args.width beginning us (unit_views c.lay_if.new.units))
    c.in_ok-charges.ensures.units
    (shown_from c.args.width beginning c.evaluate.new.bridges.kept c.evaluate.new.bridges.parts
    c.evaluate.new.bridges.part_flags c.lay_if.new.units c.in_ok-items.ensures.laid
    (c.in_ok-charges.ensures.kept ∙ ap (fresh_from beginning) (sym c.in_ok-charges.ensures.units))
    (c.in_ok-items.ensures.attributes c.if-alike.true))

pub returns-then-alike-clause-attributes : goal.returns-then-alike-clause-attributes
returns-then-alike-clause-attributes g c =
    c.in_ok-items.ensures.attributes c.if-alike.true
    ∙ ap (attributes_from beginning) c.in_ok-charges.ensures.units

pub returns-then-alike-clause-pages : goal.returns-then-alike-clause-pages
returns-then-alike-clause-pages g c = λ _.
    let alone = c.in_ok-charges.ensures.alone (c.is_alone_quietly-quiet.ensures.alone
    (c.in_ok-items.ensures.quiet c.if-alike.true)) in
    subst (λ (xs : List Shown). KeepPages c.args.lone.now xs c.lay_if.new.units)
    (c.in_ok-charges.ensures.shown
    ∙ without_alone c.args.lone.now.unit c.evaluate.new.bridges.reached c.args.units.now alone.no_flag
    c.requires.lone.nothing_laid) (c.in_ok-items.ensures.pages c.if-alike.true)

pub returns-then-alike-clause-work : goal.returns-then-alike-clause-work
unfolding PartFlags
returns-then-alike-clause-work g c =
    let relaid : items_unlaid_from beginning (units_of c.evaluate.new.bridges.kept) c.evaluate.new.bridges.part_flags
    c.evaluate.new.units
    ≡ items_relaid_from beginning c.args.bridges.now.kept c.args.bridges.now.parts (laid_in c.args.units.now)
    (laid_parts_in c.args.units.now) =
    relaid_is c.args.bridges.now.kept c.evaluate.new.bridges.kept c.args.bridges.now.parts
    c.evaluate.new.bridges.reached c.evaluate.new.bridges.part_flags c.args.units.now c.evaluate.new.units
    c.in_ok-charges.ensures.reached c.in_ok-charges.ensures.flags c.in_ok-charges.ensures.units
    c.in_ok-charges.ensures.shown in
    omega (
      arith,
      c.in_ok-charges.ensures.charge,
      relaid,
      c.in_ok-items.ensures.left,
      all_laid beginning (units_of c.evaluate.new.bridges.kept) c.evaluate.new.bridges.part_flags c.lay_if.new.units
          (c.in_ok-items.ensures.attributes c.if-alike.true),
    )

pub returns-clause-work : goal.returns-clause-work
unfolding PartFlags
returns-clause-work g c =
    let relaid : items_unlaid_from beginning (units_of c.evaluate.new.bridges.kept) c.evaluate.new.bridges.part_flags
    c.evaluate.new.units
    ≡ items_relaid_from beginning c.args.bridges.now.kept c.args.bridges.now.parts (laid_in c.args.units.now)
    (laid_parts_in c.args.units.now) =
    relaid_is c.args.bridges.now.kept c.evaluate.new.bridges.kept c.args.bridges.now.parts
    c.evaluate.new.bridges.reached c.evaluate.new.bridges.part_flags c.args.units.now c.evaluate.new.units
    c.in_ok-charges.ensures.reached c.in_ok-charges.ensures.flags c.in_ok-charges.ensures.units
    c.in_ok-charges.ensures.shown in
    omega (
      arith,
      c.in_ok-charges.ensures.charge,
      relaid,
      c.in_ok-items.ensures.left,
      c.in_ok-rest.ensures.items,
    )

pub returns-in_err-items-clause-refused : goal.returns-in_err-items-clause-refused
returns-in_err-items-clause-refused g c =
    any_err c.from_residual-in_err-items.result
    (evaluated c.args.bridges.now c.evaluate.new.bridges c.args.units.now c.evaluate.new.units c.lay_if.new.units
    c.in_ok-charges.ensures.kept c.in_ok-charges.ensures.parts c.in_ok-charges.ensures.units
    c.in_ok-charges.ensures.left c.in_ok-charges.ensures.strays c.in_err-items.ensures.still)

pub returns-in_err-rest-clause-refused : goal.returns-in_err-rest-clause-refused
returns-in_err-rest-clause-refused g c =
    any_err c.from_residual-in_err-rest.result
    (evaluated c.args.bridges.now c.evaluate.new.bridges c.args.units.now c.evaluate.new.units c.lay_all.new.units
    c.in_ok-charges.ensures.kept c.in_ok-charges.ensures.parts c.in_ok-charges.ensures.units
    c.in_ok-charges.ensures.left c.in_ok-charges.ensures.strays
    (laid_then (laid_in c.evaluate.new.units) (attributes_from beginning (units_of c.evaluate.new.bridges.kept))
    (laid_in c.lay_if.new.units) (laid_in c.lay_all.new.units) c.in_ok-items.ensures.still
    c.in_err-rest.ensures.still))

pub returns-then-alike-clause-laid : goal.returns-then-alike-clause-laid
returns-then-alike-clause-laid g c =
    at_rest c.args.width beginning c.evaluate.new.bridges.kept c.evaluate.new.bridges.parts
    c.evaluate.new.bridges.part_flags c.lay_if.new.units c.in_ok-items.ensures.laid
    (c.in_ok-items.ensures.attributes c.if-alike.true)

pub returns-then-alike-clause-laid_parts : goal.returns-then-alike-clause-laid_parts
returns-then-alike-clause-laid_parts g c =
    parts_laid c.args.width beginning c.evaluate.new.bridges.kept c.evaluate.new.bridges.parts c.lay_if.new.units
    (at_rest c.args.width beginning c.evaluate.new.bridges.kept c.evaluate.new.bridges.parts
    c.evaluate.new.bridges.part_flags c.lay_if.new.units c.in_ok-items.ensures.laid
    (c.in_ok-items.ensures.attributes c.if-alike.true))
    (c.in_ok-charges.ensures.kept ∙ ap (fresh_from beginning) (sym c.in_ok-charges.ensures.units))
    (c.in_ok-charges.ensures.parts ∙ ap (fresh_parts_from beginning) (sym c.in_ok-charges.ensures.units))
    (c.in_ok-items.ensures.attributes c.if-alike.true) ∙ ap (laid_parts_from beginning) c.in_ok-charges.ensures.units

pub returns-clause-laid : goal.returns-clause-laid
returns-clause-laid g c =
    at_rest c.args.width beginning c.evaluate.new.bridges.kept c.evaluate.new.bridges.parts
    c.evaluate.new.bridges.part_flags c.lay_all.new.units c.in_ok-rest.ensures.laid
    c.in_ok-rest.ensures.attributes

pub returns-clause-laid_parts : goal.returns-clause-laid_parts
returns-clause-laid_parts g c =
    parts_laid c.args.width beginning c.evaluate.new.bridges.kept c.evaluate.new.bridges.parts c.lay_all.new.units
    (at_rest c.args.width beginning c.evaluate.new.bridges.kept c.evaluate.new.bridges.parts
    c.evaluate.new.bridges.part_flags c.lay_all.new.units c.in_ok-rest.ensures.laid
    c.in_ok-rest.ensures.attributes)
    (c.in_ok-charges.ensures.kept ∙ ap (fresh_from beginning) (sym c.in_ok-charges.ensures.units))
    (c.in_ok-charges.ensures.parts ∙ ap (fresh_parts_from beginning) (sym c.in_ok-charges.ensures.units))
    c.in_ok-rest.ensures.attributes ∙ ap (laid_parts_from beginning) c.in_ok-charges.ensures.units

pub returns-in_err-charges-clause-refused : goal.returns-in_err-charges-clause-refused
returns-in_err-charges-clause-refused g c =
    any_err c.from_residual.result
    (subst (λ (xs : List Shown). IsPartlyFresh (view_stores_in c.args.bridges.now c.args.units.now)
    (fresh_stores (units_of c.args.bridges.now.kept)) (view_stores_in c.evaluate.new.bridges xs))
    (sym c.in_err-charges.ensures.no_parts) c.in_err-charges.ensures.refused)

pub returns-in_err-charges-clause-left : goal.returns-in_err-charges-clause-left
returns-in_err-charges-clause-left g c =
    any_err c.from_residual.result
    (subst (λ (xs : List Shown). AreLaid c.args.width c.evaluate.new.bridges.kept c.evaluate.new.bridges.parts xs)
    (sym c.in_err-charges.ensures.no_parts) (c.in_err-charges.ensures.dropped c.args.width c.requires.laid))

pub returns-in_err-items-clause-left : goal.returns-in_err-items-clause-left
returns-in_err-items-clause-left g c =
    any_err c.from_residual-in_err-items.result
    (laid_left c.args.width c.evaluate.new.bridges.kept c.evaluate.new.bridges.parts
    c.evaluate.new.bridges.part_flags c.lay_if.new.units c.in_err-items.ensures.laid)

pub returns-in_err-rest-clause-left : goal.returns-in_err-rest-clause-left
returns-in_err-rest-clause-left g c =
    any_err c.from_residual-in_err-rest.result
    (laid_left c.args.width c.evaluate.new.bridges.kept c.evaluate.new.bridges.parts
    c.evaluate.new.bridges.part_flags c.lay_all.new.units c.in_err-rest.ensures.laid)
