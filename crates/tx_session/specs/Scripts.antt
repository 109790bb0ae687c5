-- The lines of a script, and their replies.
use Rattle.std.specs.Prelude.{◌≡◌, ◌≢◌, ◌⊎◌, ◌<◌, ◌≤◌, ◌-◌, ℕ, Bool, nat_eq}
use Rattle.std.specs.Prelude.{if◌then◌else◌, List, [], ◌∷◌, ◌++◌, length, take, All, codes}
use Rattle.std.specs.List.{flat_map, before_first, ends_with}
use Rattle.std.specs.Str.{bytes_eq}
use Rattle.tx_session.specs.declared.TheConstants.{MOST_SCRIPT}
use Rattle.tx_print.specs.Lines.{line}
use Rattle.tx_session.specs.Replies.{IsLineReply}
use Rattle.tx_session.specs.Worlds.{World, LineMark}

abbrev pub IsOneLine : List ℕ → Type 0
IsOneLine text = All (λ b. b ≢ 10) text

-- the lines that have ended in these bytes, each at a byte 10, and what comes after the last of them
pub record HasEndedLines (bytes : List ℕ) (ended : List (List ℕ)) (rest : List ℕ) : Type 0 where
  pub whole : bytes ≡ flat_map line ended ++ rest
  pub each : All IsOneLine ended
  pub last : IsOneLine rest

-- a line as a command: one byte 13 at its end is dropped
abbrev pub command_line : List ℕ → List ℕ
command_line text = if ends_with nat_eq text (13 ∷ []) then take (length text - 1) text else text

abbrev pub is_quit : List ℕ → Bool
is_quit text = bytes_eq (command_line text) (codes "quit")

abbrev pub before_quit : List (List ℕ) → List (List ℕ)
before_quit lines = before_first is_quit lines

-- The lines of a script. What comes after the last byte 10 is a line too, since the script ends there. Of a script that
-- is too long they are those that end within the limit.
abbrev pub AreLinesOf : List ℕ → List (List ℕ) → Type 0
AreLinesOf script lines =
    ((length script ≤ MOST_SCRIPT)
    × ((ended : List (List ℕ)) × (rest : List ℕ) × HasEndedLines script ended rest × (lines ≡ ended ++ rest ∷ [])))
    ⊎ ((MOST_SCRIPT < length script) × ((rest : List ℕ) × HasEndedLines (take MOST_SCRIPT script) lines rest))

-- The lines are executed in order, from what a session, its view's cache, its store and the steps are to what they are
-- then, and none is `quit`. Each has a mark. The text is all the replies.
abbrev pub Answered : World → List (List ℕ) → (marks : List LineMark) → World → (text : List ℕ) → Type 0
Answered before [] [] last text = (last ≡ before) × (text ≡ [])
Answered before (one ∷ lines) (mark ∷ marks) last text =
    (next : World) × (reply rest : List ℕ) × IsLineReply before (command_line one) mark next reply
    × Answered next lines marks last rest × (text ≡ reply ++ rest)
Answered before _ _ last text = ⊥
