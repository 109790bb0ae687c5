use Rattle.std.proofs.Common.{arith, rules}
use Rattle.tx_layout.proofs.Telling.{finished, finished_with}
use Rattle.tx_layout.proofs.paging.Paginator.finish.Goals as goal
use Rattle.tx_layout.proofs.paging.Paginator.finish.Goals.{then-self+in_ok-push, else-self}

pub returns : goal.returns
returns c = λ lines height told.
    elim c.if-self.branch [
      | then-self+in_ok-push w ↦
          finished_with lines height c.args.self c.if-self.pages.items told
          (search (rules, w.pages-is, w.in_ok-push.ensures.items)) w.if-self.true
      | else-self w ↦
          finished lines height c.args.self c.if-self.pages.items told (search (rules, w.pages-is))
          (omega (arith, w.if-self.false))
    ]
