use Rattle.std.proofs.Common.{sym, ◌∙◌}
use Rattle.std.proofs.lemmas.Result.{err_from_is_err_and}
use Rattle.tx_parts.specs.Layered.{as_sets}
use Rattle.tx_replay.specs.Holding.{held_of}
use Rattle.tx_replay.proofs.HeldNames.{begun_stop, begun_unpaid, begun_done, held_by_scopes}
use Rattle.tx_replay.proofs.progress.Progress.begin_with.Goals as goal

pub returns-in_err-enter-clause-gives : goal.returns-in_err-enter-clause-gives
returns-in_err-enter-clause-gives c = λ e.
    let p = err_from_is_err_and c.from_residual.result c.from_residual.ensures.1 in
    rw (p.1, p.2)
    (begun_stop c.args.levels c.args.n (as_sets c.args.pairs.now) e c.args.self.now.state c.in_err-enter.field-0.0
    (c.in_err-enter.ensures.gives e))

pub returns-in_err-pay-clause-gives : goal.returns-in_err-pay-clause-gives
returns-in_err-pay-clause-gives c = λ e.
    let p = err_from_is_err_and c.from_residual-in_err-pay.result c.from_residual-in_err-pay.ensures.1 in
    rw (p.1, p.2)
    (begun_unpaid c.args.levels c.args.n (as_sets c.args.pairs.now) e c.args.self.now.state c.in_err-pay.field-0.0
    c.enter.new.self.state (c.in_ok-enter.ensures.gives e) (c.in_err-pay.ensures.gives e))

pub returns-clause-gives : goal.returns-clause-gives
returns-clause-gives c = λ e.
    begun_done c.args.levels c.args.n (as_sets c.args.pairs.now) e c.args.self.now.state c.enter.new.self.state
    c.pay.new.self.state c.set_names.new.self.state (held_of c.in_ok-set_names.field-0.items)
    (c.in_ok-enter.ensures.gives e) (c.in_ok-pay.ensures.gives e) (c.in_ok-set_names.ensures.gives e)

pub returns-clause-held : goal.returns-clause-held
returns-clause-held c =
    held_by_scopes c.args.self.now.scopes c.pay.new.self.scopes c.in_ok-set_names.field-0.items
    (sym (c.in_ok-pay.ensures.scopes ∙ c.in_ok-enter.ensures.scopes)) c.in_ok-set_names.ensures.held
