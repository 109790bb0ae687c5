use Rattle.std.proofs.Common.{◌≡◌, ℕ, List, take, sym, subst, arith, take_all}
use Rattle.std.proofs.lemmas.Result.{IfOk-weaker}
use Rattle.tx_layout.specs.declared.layout.Line.{Line}
use Rattle.tx_layout.specs.Paging.{PagesFrom}
use Rattle.tx_layout.specs.Told.{HasTold}
use Rattle.tx_view_form.specs.Views.{UnitView, lines_of}
use Rattle.tx_view.specs.Units.{unit_views}
use Rattle.tx_unit_layout.specs.declared.shown.Shown.{Shown}
use Rattle.tx_view.proofs.UnitRows.{all_more, sums_fit}
use Rattle.tx_view.proofs.paging.paged.Goals as goal

pub tell-requires : goal.tell-requires
tell-requires c = record {
  begun = (
    lines_of (unit_views (take c.loop-unit.unit-index c.args.units.now)),
    c.args.height,
    c.loop-unit.invariant,
  );
  few =
      omega (
        arith,
        c.loop-unit.invariant.number,
        sums_fit (λ (x : UnitView). x.lines) c.args.units.now c.loop-unit.unit-index c.unit-item.result
            c.loop-unit-test.true c.unit-item.is,
        c.requires.few,
      );
}

pub loop-unit-preserved : goal.loop-unit-preserved
loop-unit-preserved c =
    let before : List Line = lines_of (unit_views (take c.loop-unit.unit-index c.args.units.now)) in
    subst (λ (ls : List Line). HasTold ls c.args.height c.tell.new.paginator)
    (sym (all_more (λ (x : UnitView). x.lines) c.args.units.now c.loop-unit.unit-index c.unit-item.result
    c.loop-unit-test.true c.unit-item.is)) (c.in_ok-tell.ensures.told before c.args.height c.loop-unit.invariant)

pub returns : goal.returns
returns c =
    let all : take c.loop-unit.unit-index c.args.units.now ≡ c.args.units.now =
    take_all c.loop-unit.unit-index c.args.units.now (omega (arith, c.loop-unit-test.false)) in
    IfOk-weaker c.finish.result
    (λ pages. (ls : List Line) (height : ℕ) → HasTold ls height c.loop-unit.paginator
    → PagesFrom ls height 0 pages.items)
    (λ pages. PagesFrom (lines_of (unit_views c.args.units.now)) c.args.height 0 pages.items)
    (λ pages told. told (lines_of (unit_views c.args.units.now)) c.args.height
    (subst (λ (xs : List Shown). HasTold (lines_of (unit_views xs)) c.args.height c.loop-unit.paginator) all
    c.loop-unit.invariant)) c.finish.ensures
