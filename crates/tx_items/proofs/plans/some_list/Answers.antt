use Rattle.std.proofs.Common.{sym, ◌∙◌}
use Rattle.tx_items.proofs.Planning.{some_any}
use Rattle.tx_items.proofs.plans.some_list.Goals as goal

pub returns : goal.returns
returns c = c.any_list.ensures ∙ sym (some_any c.args.plans.now)
