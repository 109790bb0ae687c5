-- Each line but `quit` has a reply.
use Rattle.std.proofs.Common.{◌≡◌, ◌≢◌, ◌==◌, ◌⊎◌, inl, inr, ℕ, ◌+◌, ◌<◌, ◌≤◌, Bool, true, false, List, [], ◌∷◌, length}
use Rattle.std.proofs.Common.{codes, None, refl, sym, ap, subst, ◌∙◌, arith}
use Rattle.std.specs.Str.{bytes_eq}
use Rattle.std.proofs.lemmas.Bool.{cases_lt, true≢false}
use Rattle.tx_cmd.specs.declared.TheConstants.{MOST_LINE}
use Rattle.tx_cmd.specs.declared.command.Command.{Command}
use Rattle.tx_cmd.specs.declared.command.Command.TheVariants.{Save, Work, Quit}
use Rattle.tx_cmd.specs.declared.command.CmdFault.TheVariants.{Long}
use Rattle.tx_cmd.specs.Commands.{IsCommand}
use Rattle.tx_cmd.proofs.SomeAnswer.{some_answer}
use Rattle.tx_print.specs.Work.{work_reply}
use Rattle.tx_state.specs.States.{State}
use Rattle.tx_session.specs.Effects.{asks_view}
use Rattle.tx_session.specs.Keeps.{kept_after, refresh_cost, TakesAsking}
use Rattle.tx_session.specs.Replies.{fresh_after, refusal, nothing, too_long, command, faulty, IsCommandReply}
use Rattle.tx_session.specs.Replies.{IsLineReply}
use Rattle.tx_session.specs.States.{saved_by}
use Rattle.tx_session.specs.Worlds.{Keep, WholeSession, World, IsAsBefore, LineMark, plain, lacking}
use Rattle.tx_session.specs.Worlds.{unsaved, told}
use Rattle.tx_session.proofs.Quits.{quit_spelled}
use Rattle.tx_run_existence.proofs.Answers.{answer_of}
use Rattle.tx_run_existence.proofs.States.{IsSound}
use Rattle.tx_run_existence.proofs.Stores.{some_store}

-- a session with pages that have a view, in a sound state
pub record IsRunning (w : World) : Type 0 where
  pub wide : 20 ≤ w.session.seen.width
  pub high : 0 < w.session.seen.height
  pub sound : IsSound w.session.seen.state

-- the reply owes nothing to the machine outside but the number of `work`
abbrev pub IsFine : LineMark → Type 0
IsFine plain = Unit {0}
IsFine lacking = ⊥
IsFine unsaved = ⊥
IsFine (told n) = Unit {0}

-- ---- commands

some_steps : (asks : Bool) (s : WholeSession) (it : Command) (old : ℕ) → (new : ℕ) × TakesAsking asks s it old new
some_steps true s it old = (old + refresh_cost s.keep, refl)
some_steps false s it old = (old, omega arith)

pub record HasReply (before : World) (it : Command) : Type 0 where
  pub mark : LineMark
  pub after : World
  pub reply : List ℕ
  pub fine : IsFine mark
  pub replied : IsCommandReply before it mark after reply
  pub running : IsRunning after
  pub kept : saved_by before.session.seen.state it ≡ None → after.store ≡ before.store

work_replied : (before : World) → IsRunning before → HasReply before Work
work_replied before h =
    let state : State = before.session.seen.state in
    let keep : Keep = kept_after state Work state before.session.keep in
    let after : World = record {
      session = record { seen = record before.session.seen { fresh = true }; keep = keep };
      store = before.store;
      steps = before.steps + refresh_cost before.session.keep;
    } in
    record {
      mark = told keep.work;
      after = after;
      reply = work_reply keep.work;
      fine = tt;
      replied = record {
        replied = record { work = refl; session = refl; stored = refl; said = refl };
        keeps = (refl, refl);
        read = before.steps;
        reading = (omega arith, omega arith);
        takes = refl;
      };
      running = record { wide = h.wide; high = h.high; sound = h.sound };
      kept = λ e. refl;
    }

replied_by : (before : World) (text : List ℕ) (it : Command) → IsRunning before → IsCommand text it → it ≢ Work
    → HasReply before it
replied_by before text it h is other =
    let seen = before.session.seen in
    let state : State = seen.state in
    let a = answer_of seen.width seen.height state text it h.wide h.high h.sound is other in
    let stored = some_store (saved_by state it) before.store in
    let steps = some_steps (asks_view it) before.session it before.steps in
    let after : World = record {
      session = record {
        seen = record {
          state = a.next;
          width = seen.width;
          height = seen.height;
          fresh = fresh_after seen it;
        };
        keep = kept_after state it a.next before.session.keep;
      };
      store = stored.after;
      steps = steps.0;
    } in
    record {
      mark = plain;
      after = after;
      reply = a.reply;
      fine = tt;
      replied = record {
        replied = record { answer = a.answer; fresh = refl; width = refl; height = refl; stored = stored.stored };
        keeps = refl;
        read = before.steps;
        reading = (omega arith, omega arith);
        takes = steps.1;
      };
      running = record { wide = h.wide; high = h.high; sound = a.sound };
      kept = stored.kept;
    }

is_work : (it : Command) → (it ≡ Work) ⊎ (it ≢ Work)
is_work Work = inl refl
is_work it = inr (λ e. cc)

command_replied : (before : World) (text : List ℕ) (it : Command) → IsRunning before → IsCommand text it
    → HasReply before it
command_replied before text it h is = elim (is_work it) [
  | inl work ↦ subst (HasReply before) (sym work) (work_replied before h)
  | inr other ↦ replied_by before text it h is other
]

-- ---- lines

-- the line begins with the letter s
abbrev pub begins_s : List ℕ → Bool
begins_s [] = false
begins_s (b ∷ bs) = b == 115

saves_not : (state : State) (text : List ℕ) (it : Command) → IsCommand text it → begins_s text ≡ false
    → saved_by state it ≡ None
saves_not state text (Save name) h e =
    let begins : begins_s text ≡ true = ap begins_s h.1.2 in
    absurd (true≢false (sym begins ∙ e))
saves_not state text it h e = refl

pub record HasLineReply (before : World) (text : List ℕ) : Type 0 where
  pub mark : LineMark
  pub after : World
  pub reply : List ℕ
  pub fine : IsFine mark
  pub replied : IsLineReply before text mark after reply
  pub running : IsRunning after
  pub kept : begins_s text ≡ false → after.store ≡ before.store

as_before : (w : World) → IsAsBefore w w
as_before w = record { session = refl; store = refl; steps = omega arith }

not_quit : (text : List ℕ) (it : Command) → IsCommand text it → bytes_eq text (codes "quit") ≡ false → it ≢ Quit
not_quit text it is e same = true≢false (sym (quit_spelled text (subst (IsCommand text) same is)) ∙ e)

pub line_replied : (before : World) (text : List ℕ) → IsRunning before → bytes_eq text (codes "quit") ≡ false
    → HasLineReply before text
line_replied before [] h e = record {
  mark = plain;
  after = before;
  reply = [];
  fine = tt;
  replied = (nothing, refl, (refl, refl, refl));
  running = h;
  kept = λ k. refl;
}
line_replied before (b ∷ bs) h e = elim (cases_lt MOST_LINE (length (b ∷ bs))) [
  | inl long ↦ record {
    mark = plain;
    after = before;
    reply = refusal (Long (length (b ∷ bs)));
    fine = tt;
    replied = (too_long (length (b ∷ bs)), (long, refl), ((as_before before, refl), refl));
    running = h;
    kept = λ k. refl;
  }
  | inr short ↦ elim (some_answer (b ∷ bs)) [
    | inl c ↦
        let r = command_replied before (b ∷ bs) c.0 h c.1 in
        record {
          mark = r.mark;
          after = r.after;
          reply = r.reply;
          fine = r.fine;
          replied = (command c.0, (((λ k. cc), short), c.1), (not_quit (b ∷ bs) c.0 c.1 e, r.replied));
          running = r.running;
          kept = λ k. r.kept (saves_not before.session.seen.state (b ∷ bs) c.0 c.1 k);
        }
    | inr f ↦ record {
      mark = plain;
      after = before;
      reply = refusal f.0;
      fine = tt;
      replied = (faulty f.0, (((λ k. cc), short), f.1, f.2), (as_before before, refl));
      running = h;
      kept = λ k. refl;
    }
  ]
]
