use Rattle.tx_session.specs.Worlds.{world}
use Rattle.std.proofs.Common.{refl, [], ◌∷◌, ◌++◌, sym, subst}
use Rattle.tx_session.specs.Keeping.{StandsAnswered}
use Rattle.tx_session.proofs.Standing.{stands_on, stands_next, turned_go, turned_cut, cut_at, ends_at}
use Rattle.tx_session.proofs.script.take_byte.Goals as goal

pub returns-in-Ok-clause-leads : goal.returns-in-Ok-clause-leads
returns-in-Ok-clause-leads g c = λ start before bytes s.
    record {
      rest = s.rest ++ c.args.byte ∷ [];
      stands =
          stands_on start before bytes s.rest c.args.byte _ _ c.if-byte-ne10.true s.stands;
      kept =
          c.in-Ok.ensures.kept s.rest s.kept;
    }

pub returns-in-Ok-Go-clause-leads : goal.returns-in-Ok-Go-clause-leads
returns-in-Ok-Go-clause-leads g c = λ start before bytes s.
    let went = turned_go c.in-Ok-Go.field-0 _ _ s.rest _ _ c.in-Ok-Go.field-0-is
    (c.in-Ok-Go.ensures.answered s.rest s.kept) in
    record {
      rest = [];
      stands =
          subst (λ bs.
          StandsAnswered start before bs []
          (world c.answer_line.new.session (g.S.Store.seen c.answer_line.new.store) c.answer_line.new.steps)
          (g.O.Sink.seen c.answer_line.new.out).written)
          (sym (ends_at bytes _ c.if-byte-ne10.false)) (stands_next start before bytes s.rest _ _ _ _ went s.stands);
      kept = c.clear.ensures;
    }

pub returns-in-Err-Failed-clause-leads : goal.returns-in-Err-Failed-clause-leads
returns-in-Err-Failed-clause-leads g c = λ start before bytes s. (
  bytes,
  [],
  ends_at bytes _ c.if-byte-ne10.false,
  cut_at start before bytes s.rest _ _ _ _
      (turned_cut _ _ _ _ s.rest _ _ c.in-Err-Failed.is (c.answer_line.ensures.answered s.rest s.kept)) s.stands,
)

pub returns-in-Err-clause-leads : goal.returns-in-Err-clause-leads
returns-in-Err-clause-leads g c =
    λ start before bytes s. (
      bytes,
      [],
      s.rest,
      c.args.byte,
      refl,
      c.if-byte-ne10.true,
      c.in-Err.ensures.short s.rest s.kept,
      s.stands,
    )
