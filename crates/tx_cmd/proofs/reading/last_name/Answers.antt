use Rattle.std.proofs.Common.{[], refl, sym, subst}
use Rattle.tx_cmd.specs.declared.words.ArgumentKind.TheVariants.{Name as NameArgument}
use Rattle.tx_cmd.specs.Words.{IsFileName}
use Rattle.tx_cmd.proofs.LooseFronts.{loose_cut}
use Rattle.tx_cmd.proofs.reading.last_name.Goals as goal

pub returns-clause-ok : goal.returns-clause-ok
returns-clause-ok c =
    let w = loose_cut NameArgument [] c.args.bytes.now c.cut.result.0.now c.cut.result.1.now refl c.cut.ensures
    c.requires in (
      c.cut.result.0.now,
      c.cut.result.1.now,
      (subst IsFileName (sym c.in_ok-name_of.ensures) w.0, sym c.in_ok-name_of.ensures),
      w.1,
      c.cut.ensures.are,
    )
