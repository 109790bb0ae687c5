use Rattle.std.proofs.Common.{subst, sym}
use Rattle.tx_mod.specs.Ways.{AreChildNumbers}
use Rattle.tx_mod.proofs.Small.{leads_small, rest_small}
use Rattle.tx_mod.proofs.carrying.carry_in_place.Goals as goal

pub carried_at-requires : goal.carried_at-requires
carried_at-requires c =
    record {
      small = rest_small c.steps.result.now c.steps-2.result.now c.in-Some.rest.now c.in-Some.ensures
          (subst AreChildNumbers (sym c.steps-2.ensures)
          (leads_small c.args.t.now c.args.path.now c.requires.leads c.size-size.ensures.within));
    }
