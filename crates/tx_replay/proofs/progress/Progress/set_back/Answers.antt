use Rattle.std.proofs.Common.{refl, ap, ◌∙◌}
use Rattle.tx_exec_form.specs.Runs.{State}
use Rattle.tx_replay.proofs.HeldNames.{set_none, set_next}
use Rattle.tx_replay.proofs.progress.Progress.set_back.Goals as goal

pub loop-one-init : goal.loop-one-init
loop-one-init c =
    record { run = λ e. set_none e c.args.self.now.state; left = refl; slack = refl; scopes = refl }

pub loop-one-preserved : goal.loop-one-preserved
loop-one-preserved c =
    record {
      run = λ e. set_next c.args.held.now c.loop-one.one-index c.one-item.result e c.args.self.now.state
          c.loop-one.self.state c.set_one_back.new.self.state c.loop-one-test.true c.one-item.is
          (c.loop-one.invariant.run e) c.in_ok-set_one_back.ensures.state;
      left = ap (λ (s : State). s.left) c.in_ok-set_one_back.ensures.state ∙ c.loop-one.invariant.left;
      slack = ap (λ (s : State). s.slack) c.in_ok-set_one_back.ensures.state ∙ c.loop-one.invariant.slack;
      scopes = c.in_ok-set_one_back.ensures.scopes ∙ c.loop-one.invariant.scopes;
    }
