use Rattle.std.proofs.Common.{inl, inr, rules, arith}
use Rattle.tx_layout.proofs.Telling.{ends_page}
use Rattle.tx_layout.proofs.paging.Paginator.add_line.Goals as goal
use Rattle.tx_layout.proofs.paging.Paginator.add_line.Goals.{else-not-last-via-then-not-last+else-to-self}
use Rattle.tx_layout.proofs.paging.Paginator.add_line.Goals.{else-not-last-via-else-not-last}

pub returns-clause-told : goal.returns-clause-told
returns-clause-told c = λ lines height told.
    ends_page lines c.args.line.now height c.args.self.now _ told (search rules) (search rules) (search rules)
    c.in_ok-push.ensures.items
    (elim c.else-not-last.branch [
      | else-not-last-via-then-not-last+else-to-self w ↦ inr (omega (arith, w.if-to-self.false))
      | else-not-last-via-else-not-last w ↦ inl (search (rules, w.if-not-last.false, c.is_last-last.ensures))
    ])
