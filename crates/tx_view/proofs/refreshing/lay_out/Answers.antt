use Rattle.std.proofs.Common.{List, sym, subst}
use Rattle.tx_bridge.specs.Entries.{units_of}
use Rattle.tx_unit_layout.specs.declared.shown.Shown.{Shown}
use Rattle.tx_view.specs.Laid.{AreLaid, view_stores_in}
use Rattle.tx_view.specs.Stores.{IsPartlyFresh, fresh_stores}
use Rattle.tx_view.proofs.Forgetting.{AllReadable, readable_left}
use Rattle.tx_view.proofs.refreshing.lay_out.Goals as goal

pub returns-in-Err-clause-refused : goal.returns-in-Err-clause-refused
returns-in-Err-clause-refused g c =
    subst (λ (xs : List Shown). IsPartlyFresh (view_stores_in c.args.bridges.now c.args.units.now)
    (fresh_stores (units_of c.args.bridges.now.kept)) (view_stores_in c.lay_out_by.new.bridges xs))
    (sym c.forget_all_parts.ensures) c.in-Err.ensures.refused

pub returns-in-Err-clause-laid : goal.returns-in-Err-clause-laid
returns-in-Err-clause-laid g c =
    subst (λ (xs : List Shown). AreLaid c.args.width c.lay_out_by.new.bridges.kept c.lay_out_by.new.bridges.parts xs)
    (sym c.forget_all_parts.ensures) c.in-Err.ensures.left

pub returns-in-Err-clause-readable : goal.returns-in-Err-clause-readable
returns-in-Err-clause-readable g c =
    subst AllReadable (sym c.forget_all_parts.ensures)
    (readable_left c.lay_out_by.new.units c.in-Err.ensures.readable)
