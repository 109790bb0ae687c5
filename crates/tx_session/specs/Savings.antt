-- What a line `save` of a session leaves.
use Rattle.std.specs.Prelude.{◌≡◌, ◌⊎◌, ◌<◌, ℕ, List, ◌∷◌, ◌++◌, codes, length}
use Rattle.tx_outside.specs.Files.{WithFile}
use Rattle.tx_outside.specs.Known.{WhereKnown}
use Rattle.tx_outside.specs.declared.file_store.TheConstants.{MOST_FILE}
use Rattle.tx_outside.specs.Outside.{StoreSeen}
use Rattle.tx_tree.specs.WideTree.{WideTree}
use Rattle.tx_doc.specs.Forms.{form_of}
use Rattle.tx_session.specs.Causes.{numbered_line}
use Rattle.tx_session.specs.Forms.{SpellsAloneIn}
use Rattle.tx_print.specs.Lines.{line}
use Rattle.tx_session.specs.Replies.{IsLineReply}
use Rattle.tx_session.specs.Scripts.{Answered, command_line}
use Rattle.tx_session.specs.Worlds.{World, LineMark}

-- the file of this name spells the tree and no other, in the syntax of the name, and the reply counts its bytes
pub record IsSavedAlone (name : List ℕ) (t : WideTree) (before after : StoreSeen) (reply : List ℕ) : Type 0 where
  pub bytes : List ℕ
  pub alone : SpellsAloneIn (form_of name) bytes t
  pub said : reply ≡ numbered_line (codes "saved ") (length bytes)
  pub kept : WhereKnown (WithFile name bytes) before.files after.files

-- the tree has no text in the syntax of the name, or a longer one than a file may have, and the store is untouched
abbrev pub IsNotSaved : StoreSeen → StoreSeen → List ℕ → Type 0
IsNotSaved before after reply =
    (after ≡ before)
    × ((reply ≡ line (codes "no form"))
    ⊎ ((n : ℕ) × (MOST_FILE < n) × (reply ≡ numbered_line (codes "no file-long ") n)))

-- One line of those that were executed, after these lines and before the others: its mark and its reply, and what the
-- session and its store were before it and after it.
pub record StandsAmong (start : World) (before : List (List ℕ)) (one : List ℕ) (behind : List (List ℕ))
    (marks : List LineMark) (last : World) (text : List ℕ) : Type 0 where
  pub marks_before : List LineMark
  pub mark : LineMark
  pub marks_behind : List LineMark
  pub seen : World
  pub next : World
  pub done : List ℕ
  pub reply : List ℕ
  pub rest : List ℕ
  pub answered : Answered start before marks_before seen done
  pub replied : IsLineReply seen (command_line one) mark next reply
  pub others : Answered next behind marks_behind last rest
  pub marked : marks ≡ marks_before ++ mark ∷ marks_behind
  pub written : text ≡ done ++ (reply ++ rest)
