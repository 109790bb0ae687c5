use Rattle.std.proofs.Common.{refl}
use Rattle.tx_mod.specs.Mods.{path_of}
use Rattle.tx_mod.proofs.Whole.{change_requires}
use Rattle.tx_mod.proofs.applying.applied_at.Goals as goal

pub remade-requires : goal.remade-requires
remade-requires g c =
    change_requires c.args.m.now c.args.t.now c.args.s.now (path_of c.args.m.now) refl c.requires.there
    c.requires.applies
