use Rattle.std.specs.Prelude.{[]}
use Rattle.tx_walk.proofs.Kept.{walked_sound, walked_distinct}
use Rattle.tx_walk.proofs.laws.walked_law.Goals as goal

pub returns : goal.returns
returns c = record {
  sound = λ kept sheller k c. walked_sound kept sheller k c [];
  distinct = λ kept sheller k c. walked_distinct kept sheller k c [];
}
