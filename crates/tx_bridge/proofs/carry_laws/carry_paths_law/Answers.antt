use Rattle.tx_bridge.proofs.KeptAlong.{kept_came, came_kept, came_once}
use Rattle.tx_bridge.proofs.carry_laws.carry_paths_law.Goals as goal

pub returns : goal.returns
returns c = record {
  came = kept_came c.carried_list_law.ensures.same c.carried_law.ensures;
  kept = came_kept c.carried_list_law.ensures.same c.carried_law.ensures;
  once = came_once c.carried_list_law.ensures.same c.carried_law.ensures;
}
