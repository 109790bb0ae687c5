use Rattle.std.proofs.Common.{List, ap, subst, sym}
use Rattle.tx_units.specs.declared.kinds.Unit.{Unit as DocUnit}
use Rattle.tx_units.specs.Units.{units}
use Rattle.tx_view_form.specs.Outcomes.{beginning}
use Rattle.tx_bridge.specs.Entries.{units_of}
use Rattle.tx_bridge.specs.Strays.{kept_strays}
use Rattle.tx_unit_layout.specs.declared.shown.Shown.{Shown}
use Rattle.tx_view.specs.Laid.{AreLaid, laid_in, laid_parts_in, view_stores_in}
use Rattle.tx_view.specs.Names.{Fresh, Bound}
use Rattle.tx_view.specs.RowParts.{AreRowParts}
use Rattle.tx_view.specs.Rows.{row_parts}
use Rattle.tx_view.specs.Stores.{fresh_stores, IsPartlyFresh}
use Rattle.tx_view.specs.Units.{unit_views}
use Rattle.tx_bridge.proofs.Partway.{any_err}
use Rattle.tx_view.proofs.Forgetting.{AllReadable, readable_left}
use Rattle.tx_view.proofs.Keeping.{laid_without_parts, all_below}
use Rattle.tx_view.proofs.Partly.{all_fresh}
use Rattle.tx_view.proofs.RowParts.{row_parts_are}
use Rattle.tx_view.proofs.Standing.{all_made}
use Rattle.tx_view.proofs.view.made_anew.Goals as goal

pub returns-in-Ok-clause-stores : goal.returns-in-Ok-clause-stores
unfolding Fresh
returns-in-Ok-clause-stores g c =
    all_made c.args.buffers.now c.args.bridges.now.kept c.lay_out.new.bridges.kept c.lay_out.new.bridges.parts
    (laid_in c.lay_out.new.units) (laid_parts_in c.lay_out.new.units) (kept_strays c.lay_out.new.bridges.strays)
    c.requires.of_buffers c.in_ok-work.ensures.kept c.in_ok-work.ensures.parts c.in_ok-work.ensures.attributes
    c.in_ok-work.ensures.laid_parts (ap kept_strays c.in_ok-work.ensures.strays)

pub returns-in-Ok-clause-work : goal.returns-in-Ok-clause-work
unfolding Bound
returns-in-Ok-clause-work g c = c.in_ok-work.ensures.work

pub returns-in_err-work-clause-refused : goal.returns-in_err-work-clause-refused
unfolding Fresh
returns-in_err-work-clause-refused g c =
    any_err c.from_residual.result
    (subst (λ (us : List DocUnit). IsPartlyFresh (view_stores_in c.args.bridges.now c.args.all.now) (fresh_stores us)
    (view_stores_in c.lay_out.new.bridges c.lay_out.new.units)) c.requires.of_buffers c.in_err-work.ensures.refused)

-- where the pages lack memory
pub returns-in-Err-clause-refused : goal.returns-in-Err-clause-refused
unfolding Fresh
returns-in-Err-clause-refused g c =
    subst (λ (xs : List Shown). IsPartlyFresh (view_stores_in c.args.bridges.now c.args.all.now)
    (fresh_stores (units c.args.buffers.now)) (view_stores_in c.lay_out.new.bridges xs))
    (sym c.forget_all_parts.ensures)
    (all_fresh (view_stores_in c.args.bridges.now c.args.all.now) c.lay_out.new.bridges (units c.args.buffers.now)
    c.lay_out.new.units
    (all_made c.args.buffers.now c.args.bridges.now.kept c.lay_out.new.bridges.kept c.lay_out.new.bridges.parts
    (laid_in c.lay_out.new.units) (laid_parts_in c.lay_out.new.units) (kept_strays c.lay_out.new.bridges.strays)
    c.requires.of_buffers c.in_ok-work.ensures.kept c.in_ok-work.ensures.parts c.in_ok-work.ensures.attributes
    c.in_ok-work.ensures.laid_parts (ap kept_strays c.in_ok-work.ensures.strays)))

pub returns-in-Err-clause-laid : goal.returns-in-Err-clause-laid
returns-in-Err-clause-laid g c =
    subst (AreLaid c.args.size.0 c.lay_out.new.bridges.kept c.lay_out.new.bridges.parts)
    (sym c.forget_all_parts.ensures)
    (laid_without_parts c.args.size.0 c.lay_out.new.bridges.kept c.lay_out.new.bridges.parts c.lay_out.new.units
    c.in_ok-work.ensures.laid)

pub returns-in-Err-clause-readable : goal.returns-in-Err-clause-readable
returns-in-Err-clause-readable g c =
    subst AllReadable (sym c.forget_all_parts.ensures) (readable_left c.lay_out.new.units c.in_ok-work.ensures.readable)

pub paged_again-requires-clause-below : goal.paged_again-requires-clause-below
paged_again-requires-clause-below g c =
    all_below (units_of c.args.bridges.now.kept) c.lay_out.new.units c.in_ok-work.ensures.attributes
    c.in_ok-work.ensures.readable

pub returns-in-Ok-clause-below : goal.returns-in-Ok-clause-below
returns-in-Ok-clause-below g c =
    all_below (units_of c.args.bridges.now.kept) c.lay_out.new.units c.in_ok-work.ensures.attributes
    c.in_ok-work.ensures.readable

pub returns-in-Ok-clause-row_parts : goal.returns-in-Ok-clause-row_parts
returns-in-Ok-clause-row_parts g c =
    subst (λ (us : List DocUnit). AreRowParts c.args.size.0 beginning us (unit_views c.lay_out.new.units)
    (row_parts c.lay_out.new.units)) c.requires.of_buffers
    (row_parts_are c.args.size.0 (units_of c.args.bridges.now.kept) c.lay_out.new.bridges.kept
    c.lay_out.new.bridges.parts c.lay_out.new.units c.in_ok-work.ensures.laid c.in_ok-work.ensures.kept
    c.in_ok-work.ensures.parts c.in_ok-work.ensures.attributes)
