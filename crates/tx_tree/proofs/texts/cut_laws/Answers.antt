use Rattle.tx_tree.proofs.Cutting.{cut_test, cut_tested}
use Rattle.tx_tree.proofs.texts.cut_laws.Goals as goal

pub returns : goal.returns
returns c = λ bytes n whole. (cut_test bytes n whole, cut_tested bytes n)
