use Rattle.tx_open.proofs.Loads.{caused_by_loads}
use Rattle.tx_open.proofs.laws.loads_are_counted.Goals as goal

pub returns : goal.returns
returns g c = λ words o old new h. caused_by_loads g.S.Store.load_leaves g.S.Store.seen old new words o h
