use Rattle.std.proofs.Common.{rules, refl, ap, arith, ◌≡◌, ◌∙◌}
use Rattle.tx_exec.specs.States.{state_of}
use Rattle.tx_exec.proofs.SettingLoops.{set_next}
use Rattle.tx_exec.proofs.progress.Progress.set_all.Goals as goal

pub loop-held-preserved : goal.loop-held-preserved
loop-held-preserved c =
    record {
      run = λ e. set_next _ _ _ e _ (state_of c.loop-held.self) _ c.loop-held-test.true c.held-item.is
          (c.loop-held.invariant.run e)
          (search (rules, c.in_ok-set.ensures.own, c.in_ok-tree.ensures, c.in_ok-name.ensures));
      left = c.in_ok-set.ensures.left ∙ c.loop-held.invariant.left;
    }
