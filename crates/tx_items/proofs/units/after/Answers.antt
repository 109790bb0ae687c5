use Rattle.tx_items.proofs.Ending.{behind_from}
use Rattle.tx_items.proofs.units.after.Goals as goal

pub returns : goal.returns
returns c = behind_from _ _ c.args.attrs.now c.args.value.now c.in_ok-showing.ensures c.in_ok-show.ensures
