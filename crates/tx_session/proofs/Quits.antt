-- The line `quit`, among commands and faults.
use Rattle.std.proofs.Common.{◌≡◌, ◌≢◌, ℕ, Bool, true, false, List, [], ◌++◌, length, refl, ap, sym, subst, ◌∙◌, arith}
use Rattle.std.specs.Prelude.{codes}
use Rattle.std.specs.Str.{bytes_eq}
use Rattle.std.proofs.lemmas.List.{append-nil}
use Rattle.std.proofs.lemmas.Slice.Eq.{bytes_eq-Decides}
use Rattle.tx_cmd.specs.declared.words.Word.TheVariants.{Quit as QuitWord}
use Rattle.tx_cmd.specs.declared.command.Command.{Command}
use Rattle.tx_cmd.specs.declared.command.Command.TheVariants.{Quit}
use Rattle.tx_cmd.specs.declared.command.CmdFault.{CmdFault}
use Rattle.tx_cmd.specs.declared.command.CmdFault.TheVariants.{Memory}
use Rattle.tx_cmd.specs.Words.{up_to_space, word_text, arguments_of, some_stored, TakesMemory}
use Rattle.tx_cmd.proofs.WordTexts.{one_word}
use Rattle.tx_cmd.specs.Commands.{IsCommand}
use Rattle.tx_cmd.specs.Refusals.{IsCmdFault}
use Rattle.tx_cmd.proofs.Once.{one_command, no_cause}
use Rattle.tx_session.specs.Worlds.{World, LineMark}
use Rattle.tx_session.specs.Replies.{nothing, too_long, unread, command, faulty, IsLineReply}

quit_is : (line : List ℕ) → bytes_eq line (codes "quit") ≡ true → line ≡ codes "quit"
quit_is line e = (bytes_eq-Decides line (codes "quit")).0 e

-- the line `quit` is the command
quit_command : (line : List ℕ) → bytes_eq line (codes "quit") ≡ true → IsCommand line Quit
quit_command line e = let same = quit_is line e in
    (omega (arith, ap length same), ([], refl, same ∙ sym (append-nil (word_text QuitWord))))

pub quit_spelled : (line : List ℕ) → IsCommand line Quit → bytes_eq line (codes "quit") ≡ true
quit_spelled line is =
    (bytes_eq-Decides line (codes "quit")).1 (is.1.2 ∙ ap (λ rest. word_text QuitWord ++ rest) is.1.1
    ∙ append-nil (word_text QuitWord))

pub quit_only : (line : List ℕ) (it : Command) → IsCommand line it → bytes_eq line (codes "quit") ≡ true → it ≡ Quit
quit_only line it is e = one_command line it Quit is (quit_command line e)

quit_faultless : (line : List ℕ) (fault : CmdFault) → fault ≢ Memory → IsCmdFault line fault
    → bytes_eq line (codes "quit") ≡ true → ⊥
quit_faultless line fault named is e = no_cause line Quit fault named (quit_command line e) is

-- reading `quit` takes no memory
quit_storeless : (line : List ℕ) → bytes_eq line (codes "quit") ≡ true → TakesMemory (up_to_space line) → ⊥
quit_storeless line e t =
    let same : t.0 ≡ QuitWord = one_word t.0 QuitWord (sym t.1 ∙ ap up_to_space (quit_is line e)) in
    let stored : some_stored (arguments_of QuitWord) ≡ true =
    subst (λ w. some_stored (arguments_of w) ≡ true) same t.2 in
    cc

-- a line that has a reply isn't `quit`
pub replied_goes_on : (seen next : World) (line : List ℕ) (mark : LineMark) (reply : List ℕ)
    → IsLineReply seen line mark next reply → bytes_eq line (codes "quit") ≡ false
replied_goes_on seen next line mark reply r =
    not_true (bytes_eq line (codes "quit")) (reads seen next line mark reply r)
  where
    reads : (seen next : World) (line : List ℕ) (mark : LineMark) (reply : List ℕ)
        → IsLineReply seen line mark next reply → bytes_eq line (codes "quit") ≡ true → ⊥
    reads seen next line mark reply (nothing, is, r) e = omega (arith, ap length (sym is ∙ quit_is line e))
    reads seen next line mark reply (too_long count, is, r) e = omega (arith, is.0, ap length (quit_is line e))
    reads seen next line mark reply (unread, is, r) e = quit_storeless line e is.1
    reads seen next line mark reply (command it, is, r) e = r.0 (quit_only line it is.1 e)
    reads seen next line mark reply (faulty cause, is, r) e = quit_faultless line cause is.1 is.2 e

    not_true : (b : Bool) → (b ≡ true → ⊥) → b ≡ false
    not_true true h = absurd (h refl)
    not_true false h = refl
