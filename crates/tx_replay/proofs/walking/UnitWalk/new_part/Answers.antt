use Rattle.std.proofs.Common.{map, ap}
use Rattle.std.specs.Prelude.{true}
use Rattle.tx_exec.specs.Outcomes.{wide_trace, wide_outcome}
use Rattle.tx_parts.specs.Atop.{env_atop}
use Rattle.tx_parts.specs.Composed.{evaluates}
use Rattle.tx_replay.specs.Cached.{stores_in, seen}
use Rattle.tx_replay.specs.Going.{Going, names_of}
use Rattle.tx_replay.specs.Stages.{stage_of}
use Rattle.tx_replay.proofs.Answering.{at_root, settled_as, new_over, new_done}
use Rattle.tx_replay.proofs.FewerLevels.{comes_over, comes_done, counted_over, counted_done}
use Rattle.tx_replay.proofs.walking.UnitWalk.new_part.Goals as goal

pub returns-in-Over-clause-walks : goal.returns-in-Over-clause-walks
returns-in-Over-clause-walks g c =
    let p = c.args.self.now.progress in
    let e = env_atop p.state.own (names_of p) in
    new_over (stores_in c.args.source.now) c.args.levels c.args.path.now c.args.t.now (names_of p)
    (stage_of c.args.self.now c.args.steps.now) c.requires.unheld c.evaluate.new.steps
    (comes_over c.in_ok-evaluate.field-0 (evaluates c.args.levels p.state.left c.args.t.now e)
    (at_root c.args.levels p.state.left c.args.t.now c.root.result e (wide_outcome c.in_ok-evaluate.field-0)
    c.root.ensures c.in_ok-evaluate.ensures.exact) c.in-Over.is)
    (counted_over c.in_ok-evaluate.field-0 c.args.steps.now c.evaluate.new.steps p.state.left
    c.in_ok-evaluate.ensures.counted c.in-Over.is)

pub returns-in_ok-trace-in-Done-clause-walks : goal.returns-in_ok-trace-in-Done-clause-walks
returns-in_ok-trace-in-Done-clause-walks g c =
    let p = c.args.self.now.progress in
    let e = env_atop p.state.own (names_of p) in
    new_done (stores_in c.args.source.now) c.args.levels c.args.path.now c.args.t.now (names_of p)
    (stage_of c.args.self.now c.args.steps.now) c.requires.unheld c.settle.result (wide_trace c.in-Done.trace)
    c.settle.new.self.progress.state (map seen c.settle.new.self.parts.items) c.evaluate.new.steps
    (comes_done c.in_ok-evaluate.field-0 c.in-Done.trace (evaluates c.args.levels p.state.left c.args.t.now e)
    (at_root c.args.levels p.state.left c.args.t.now c.root.result e (wide_outcome c.in_ok-evaluate.field-0)
    c.root.ensures c.in_ok-evaluate.ensures.exact) c.in-Done.is)
    (counted_done c.in_ok-evaluate.field-0 c.in-Done.trace c.args.steps.now c.evaluate.new.steps p.state.left
    c.in_ok-evaluate.ensures.counted c.in-Done.is)
    (settled_as c.settle.result (stores_in c.args.source.now).base c.args.levels c.args.path.now
    c.in_ok-trace-in-Done.trace (wide_trace c.in-Done.trace) true c.evaluate.new.self.state p.state
    (map seen c.args.self.now.parts.items) c.evaluate.new.steps (stage_of c.settle.new.self c.evaluate.new.steps)
    c.in_ok-trace-in-Done.ensures (ap (λ (s : Going). s.state) c.in_ok-evaluate.ensures.same)
    (c.settle.ensures.settles c.evaluate.new.steps))
