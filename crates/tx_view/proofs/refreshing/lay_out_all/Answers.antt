use Rattle.std.proofs.Common.{◌≡◌, ◌∙◌, List, ap, sym, subst, arith}
use Rattle.tx_view_form.specs.Outcomes.{beginning}
use Rattle.tx_bridge.specs.Entries.{units_of, fresh_from}
use Rattle.tx_bridge.specs.Names.{PartFlags}
use Rattle.tx_bridge.specs.PartsKept.{fresh_parts_from}
use Rattle.tx_unit_layout.specs.declared.shown.Shown.{Shown}
use Rattle.tx_view.specs.Costs.{items_relaid_from}
use Rattle.tx_view.specs.Laid.{AreLaid, items_unlaid_from, laid_in, laid_parts_in, view_stores_in}
use Rattle.tx_view.specs.Stores.{IsPartlyFresh, fresh_stores, laid_parts_from}
use Rattle.tx_view.proofs.Keeping.{laid_many, laid_left, at_rest, parts_laid}
use Rattle.tx_bridge.proofs.Partway.{any_err}
use Rattle.tx_view.proofs.Partly.{evaluated}
use Rattle.tx_view.proofs.Renewed.{relaid_is}
use Rattle.tx_view.proofs.refreshing.lay_out_all.Goals as goal

pub evaluate-requires : goal.evaluate-requires
evaluate-requires g c = record {
  few =
      omega (
        arith,
        laid_many c.args.width c.args.bridges.now.kept c.args.bridges.now.parts c.args.units.now c.requires.laid,
        c.requires.few,
      );
  as_many = laid_many c.args.width c.args.bridges.now.kept c.args.bridges.now.parts c.args.units.now c.requires.laid;
}

pub returns-clause-work : goal.returns-clause-work
unfolding PartFlags
returns-clause-work g c =
    let relaid : items_unlaid_from beginning (units_of c.evaluate.new.bridges.kept) c.evaluate.new.bridges.part_flags
    c.evaluate.new.units
    ≡ items_relaid_from beginning c.args.bridges.now.kept c.args.bridges.now.parts (laid_in c.args.units.now)
    (laid_parts_in c.args.units.now) =
    relaid_is c.args.bridges.now.kept c.evaluate.new.bridges.kept c.args.bridges.now.parts
    c.evaluate.new.bridges.reached c.evaluate.new.bridges.part_flags c.args.units.now c.evaluate.new.units
    c.in_ok-charges.ensures.reached c.in_ok-charges.ensures.flags c.in_ok-charges.ensures.units
    c.in_ok-charges.ensures.shown in
    omega (arith, relaid, c.in_ok-charges.ensures.charge, c.in_ok-items.ensures.items)

pub returns-clause-laid : goal.returns-clause-laid
returns-clause-laid g c =
    at_rest c.args.width beginning c.evaluate.new.bridges.kept c.evaluate.new.bridges.parts
    c.evaluate.new.bridges.part_flags c.lay_all.new.units c.in_ok-items.ensures.laid c.in_ok-items.ensures.attributes

pub returns-clause-laid_parts : goal.returns-clause-laid_parts
returns-clause-laid_parts g c =
    parts_laid c.args.width beginning c.evaluate.new.bridges.kept c.evaluate.new.bridges.parts c.lay_all.new.units
    (at_rest c.args.width beginning c.evaluate.new.bridges.kept c.evaluate.new.bridges.parts
    c.evaluate.new.bridges.part_flags c.lay_all.new.units c.in_ok-items.ensures.laid c.in_ok-items.ensures.attributes)
    (c.in_ok-charges.ensures.kept ∙ ap (fresh_from beginning) (sym c.in_ok-charges.ensures.units))
    (c.in_ok-charges.ensures.parts ∙ ap (fresh_parts_from beginning) (sym c.in_ok-charges.ensures.units))
    c.in_ok-items.ensures.attributes ∙ ap (laid_parts_from beginning) c.in_ok-charges.ensures.units

pub returns-in_err-charges-clause-refused : goal.returns-in_err-charges-clause-refused
returns-in_err-charges-clause-refused g c =
    any_err c.from_residual.result
    (subst (λ (xs : List Shown). IsPartlyFresh (view_stores_in c.args.bridges.now c.args.units.now)
    (fresh_stores (units_of c.args.bridges.now.kept)) (view_stores_in c.evaluate.new.bridges xs))
    (sym c.in_err-charges.ensures.no_parts) c.in_err-charges.ensures.refused)

pub returns-in_err-charges-clause-left : goal.returns-in_err-charges-clause-left
returns-in_err-charges-clause-left g c =
    any_err c.from_residual.result
    (subst (λ (xs : List Shown). AreLaid c.args.width c.evaluate.new.bridges.kept c.evaluate.new.bridges.parts xs)
    (sym c.in_err-charges.ensures.no_parts) (c.in_err-charges.ensures.dropped c.args.width c.requires.laid))

pub returns-in_err-items-clause-refused : goal.returns-in_err-items-clause-refused
returns-in_err-items-clause-refused g c =
    any_err c.from_residual-in_err-items.result
    (evaluated c.args.bridges.now c.evaluate.new.bridges c.args.units.now c.evaluate.new.units c.lay_all.new.units
    c.in_ok-charges.ensures.kept c.in_ok-charges.ensures.parts c.in_ok-charges.ensures.units
    c.in_ok-charges.ensures.left c.in_ok-charges.ensures.strays c.in_err-items.ensures.still)

pub returns-in_err-items-clause-left : goal.returns-in_err-items-clause-left
returns-in_err-items-clause-left g c =
    any_err c.from_residual-in_err-items.result
    (laid_left c.args.width c.evaluate.new.bridges.kept c.evaluate.new.bridges.parts
    c.evaluate.new.bridges.part_flags c.lay_all.new.units c.in_err-items.ensures.laid)
