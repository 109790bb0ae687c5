use Rattle.tx_walk.proofs.LayerSettings.{few_size}
use Rattle.tx_walk.proofs.tree_settings.TreeSetting.size.Goals as goal

pub returns-clause-few : goal.returns-clause-few
returns-clause-few c = few_size _ c.size.result c.size.ensures.value c.size.ensures.within
