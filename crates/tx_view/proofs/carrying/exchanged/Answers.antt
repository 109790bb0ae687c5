use Rattle.std.proofs.Common.{true, false, arith}
use Rattle.std.proofs.lemmas.Option.{slice_get_within}
use Rattle.tx_bridge.specs.Entries.{units_of}
use Rattle.tx_view.proofs.Exchanging.{exchanged_at, none_exchanged, number_is, unit_missing}
use Rattle.tx_view.proofs.carrying.exchanged.Goals as goal

pub returns-in_default : goal.returns-in_default
returns-in_default c =
    none_exchanged c.args.buffer c.args.mods.now c.args.tree.now (units_of c.args.bridges.now.kept)
    c.in_default.ensures

pub overflow_cast-changed : goal.overflow_cast-changed
overflow_cast-changed c =
    let one = c.in-Some.ensures in
    omega (
      arith,
      slice_get_within (units_of c.args.bridges.now.kept) c.in-Some.changed one.unit one.there,
      c.requires.few,
    )

pub unreachable-requires : goal.unreachable-requires
unreachable-requires c =
    unit_missing c.in-Some.changed c.args.buffer c.args.mods.now c.args.bridges.now.kept c.in-Some.ensures
    c.in_default-unit.ensures.found

pub returns-in-None : goal.returns-in-None
returns-in-None c =
    number_is c.unit_list_laws.ensures.once c.in-Some.changed c.args.buffer c.args.mods.now c.args.tree.now
    c.args.bridges.now.kept c.in-Some-unit.unit.now false c.requires.units c.in-Some.ensures
    c.in-Some-unit.ensures.found c.in-None.ensures

pub returns-in_ok-share-in-Some-paragraph_now : goal.returns-in_ok-share-in-Some-paragraph_now
returns-in_ok-share-in-Some-paragraph_now c =
    let now = c.in-Some-paragraph_now.ensures in (
      exchanged_at c.in-Some.changed c.args.buffer c.args.mods.now c.args.tree.now
          c.in-Some-paragraph_now.paragraph.now c.in_ok-share-in-Some-paragraph_now.field-0 c.args.bridges.now.kept
          c.in-Some-unit.unit.now c.in-Some.ensures c.in-Some-unit.ensures.found now.0
          c.in_ok-share-in-Some-paragraph_now.ensures,
      number_is c.unit_list_laws.ensures.once c.in-Some.changed c.args.buffer c.args.mods.now c.args.tree.now
          c.args.bridges.now.kept c.in-Some-unit.unit.now true c.requires.units c.in-Some.ensures
          c.in-Some-unit.ensures.found now.1,
    )
