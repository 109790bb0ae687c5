use Rattle.std.proofs.Common.{map, refl}
use Rattle.tx_replay.specs.Cached.{stores_in, seen}
use Rattle.tx_replay.specs.Going.{names_of}
use Rattle.tx_replay.specs.Stages.{stage_of}
use Rattle.tx_replay.proofs.Answering.{settled_as, part_held}
use Rattle.tx_replay.proofs.walking.UnitWalk.part.Goals as goal

pub returns-in_ok-moved-in-Some-clause-walks : goal.returns-in_ok-moved-in-Some-clause-walks
returns-in_ok-moved-in-Some-clause-walks g c =
    let p = c.args.self.now.progress in
    part_held (stores_in c.args.source.now) c.args.levels c.args.path.now c.args.t.now (names_of p)
    (stage_of c.args.self.now c.args.steps.now) c.settle.result c.in-Some.found.trace.now c.in-Some.found.renewed
    c.settle.new.self.progress.state (map seen c.settle.new.self.parts.items) c.requires.sound
    (rw c.in-Some.is at c.in_ok-found.ensures)
    (settled_as c.settle.result (stores_in c.args.source.now).base c.args.levels c.args.path.now
    c.in_ok-moved-in-Some.field-0 c.in-Some.found.trace.now c.in-Some.found.renewed p.state p.state
    (map seen c.args.self.now.parts.items) c.args.steps.now (stage_of c.settle.new.self c.args.steps.now)
    c.in_ok-moved-in-Some.ensures refl (c.settle.ensures.settles c.args.steps.now))
