-- Lines that hold no `quit` are answered, one after the other.
use Rattle.std.proofs.Common.{◌≡◌, ◌∙◌, ℕ, false, List, [], ◌∷◌, ◌++◌, refl}
use Rattle.std.specs.List.{AllByRecursion}
use Rattle.tx_session.specs.Scripts.{Answered, command_line}
use Rattle.tx_session.specs.Worlds.{World, LineMark}
use Rattle.tx_run_existence.proofs.Lines.{IsNoQuit}
use Rattle.tx_run_existence.proofs.Replies.{IsFine, IsRunning, begins_s, line_replied}

-- the line is no command `save`
abbrev pub IsNoSave : List ℕ → Type 0
IsNoSave text = begins_s (command_line text) ≡ false

pub record HasAnswers (before : World) (lines : List (List ℕ)) : Type 0 where
  pub marks : List LineMark
  pub last : World
  pub text : List ℕ
  pub fine : AllByRecursion IsFine marks
  pub answered : Answered before lines marks last text
  pub kept : AllByRecursion IsNoSave lines → last.store ≡ before.store

pub answers : (before : World) (lines : List (List ℕ)) → IsRunning before → AllByRecursion IsNoQuit lines
    → HasAnswers before lines
answers before [] h none =
    record { marks = []; last = before; text = []; fine = tt; answered = (refl, refl); kept = λ k. refl }
answers before (one ∷ lines) h none =
    let r = line_replied before (command_line one) h none.0 in
    let rest = answers r.after lines r.running none.1 in
    record {
      marks = r.mark ∷ rest.marks;
      last = rest.last;
      text = r.reply ++ rest.text;
      fine = (r.fine, rest.fine);
      answered = (r.after, r.reply, rest.text, r.replied, rest.answered, refl);
      kept = λ k. rest.kept k.1 ∙ r.kept k.0;
    }
