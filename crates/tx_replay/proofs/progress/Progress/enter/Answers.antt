use Rattle.std.proofs.Common.{sym, ◌∙◌}
use Rattle.tx_replay.proofs.Paying.{entered_none, entered_out, entered_done}
use Rattle.tx_replay.proofs.progress.Progress.enter.Goals as goal

pub returns-then-levels-eq0-clause-gives : goal.returns-then-levels-eq0-clause-gives
returns-then-levels-eq0-clause-gives c = λ e.
    entered_none c.args.levels e c.args.self.now.state c.if-levels-eq0.true

pub returns-then-left-eq0-clause-gives : goal.returns-then-left-eq0-clause-gives
returns-then-left-eq0-clause-gives c = λ e.
    entered_out c.args.levels e c.args.self.now.state c.if-levels-eq0.false (sym c.left.ensures ∙ c.if-left-eq0.true)

pub returns-clause-gives : goal.returns-clause-gives
returns-clause-gives c = λ e.
    entered_done c.args.levels e c.args.self.now.state c.take.new.self.state c.lower.new.self.state
    c.if-levels-eq0.false (λ h. c.if-left-eq0.false (c.left.ensures ∙ h)) c.take.ensures.state c.lower.ensures.state
