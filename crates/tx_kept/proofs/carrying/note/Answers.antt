use Rattle.std.proofs.Common.{inl, refl}
use Rattle.tx_kept.proofs.Applying.{beside_all_stays}
use Rattle.tx_kept.proofs.carrying.note.Goals as goal

pub returns-then-is_beside_all : goal.returns-then-is_beside_all
returns-then-is_beside_all c =
    inl (
      beside_all_stays c.args.mods.now c.args.before.now c.requires.applies.0 c.args.path.now c.requires.applies.1
          (c.is_beside_all.ensures c.if-is_beside_all.true),
      refl,
    )
