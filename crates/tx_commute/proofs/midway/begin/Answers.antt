use Rattle.std.proofs.Common.{arith, refl, sym, ◌∙◌}
use Rattle.std.proofs.lemmas.List.{take_all, drop_all}
use Rattle.tx_commute.proofs.OnWay.{edit_starts, edit_applies, edit_goes, edit_ends, edit_mods, edit_made}
use Rattle.tx_commute.proofs.midway.begin.Goals as goal

pub known_of-requires : goal.known_of-requires
known_of-requires g c =
    edit_applies c.args.edit.now c.loop-m.m-index c.args.before.now c.loop-m.present c.loop-m.known.items
    c.m-item.result c.m-item.result c.loop-m.invariant.begun (omega arith) c.m-item.is c.requires

pub loop-m-init : goal.loop-m-init
loop-m-init g c =
    record {
      begun = edit_starts c.args.edit.now c.args.before.now c.in_ok-present.present c.new-known.result.items
          c.new-known.ensures.items c.in_ok-present.ensures;
      counted = omega arith;
    }

pub loop-m-preserved : goal.loop-m-preserved
loop-m-preserved g c =
    let k = c.in_ok-next.ensures in
    record {
      begun = edit_goes c.args.edit.now c.loop-m.m-index c.args.before.now c.loop-m.present c.in_ok-next.next
          c.loop-m.known.items c.push.new.self.items c.in_ok-next.one c.m-item.result c.m-item.result
          c.loop-m.invariant.begun (omega arith) c.m-item.is k.does k.undoes k.sound k.made c.in_ok-push.ensures.items;
      counted = omega (arith, c.loop-m.invariant.counted, k.short, k.counted);
    }

pub returns-clause-midway : goal.returns-clause-midway
returns-clause-midway g c =
    edit_ends c.args.edit.now c.loop-m.m-index c.args.before.now c.loop-m.present c.loop-m.known.items
    (record { known = c.reverse.new.self; present = c.loop-m.present; out = c.in_ok-out.out })
    c.loop-m.invariant.begun c.reverse.ensures.items c.in_ok-out.ensures refl c.size-size.ensures.well_formed

pub returns-clause-mods : goal.returns-clause-mods
returns-clause-mods g c =
    edit_mods c.args.edit.now c.loop-m.m-index c.args.before.now c.loop-m.present c.loop-m.known.items
    c.reverse.new.self.items c.loop-m.invariant.begun (take_all c.loop-m.m-index c.args.edit.now (omega arith))
    c.reverse.ensures.items

pub returns-clause-present : goal.returns-clause-present
returns-clause-present g c =
    edit_made c.args.edit.now c.loop-m.m-index c.args.before.now c.loop-m.present c.loop-m.known.items
    c.loop-m.invariant.begun (drop_all c.loop-m.m-index c.args.edit.now (omega arith))
