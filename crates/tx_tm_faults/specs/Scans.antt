-- The state of the scan, as a state of the machine with marks.
use Rattle.std.specs.Prelude.{◌≡◌, ℕ, false, List, Option, Some, None}
use Rattle.tx_tree.specs.declared.faults.ReadFault.{ReadFault}
use Rattle.tx_tree.specs.ReadFaults.{SpellsSome}
use Rattle.tx_tm_form.specs.Forms.{Spells}
use Rattle.tx_tm_form.specs.Machine.{Bytewise, at}
use Rattle.tx_tm_form.specs.Marks.{Marked, marks_go_on}
use Rattle.tx_tm_form.specs.Faults.{IsTmFault}
use Rattle.tx_tm_faults.specs.declared.scan.Scan.{Scan}
use Rattle.tx_tm_faults.specs.Stands.{standing_of}
use Rattle.tx_tm_words.specs.Words.{lex_of}

abbrev pub scan_of : List ℕ → Scan → Bytewise Marked
scan_of bytes s = at (lex_of s.lexer)
    (record { taken = s.taken; behind_join = s.behind_join; now = Some (standing_of bytes s.stand) })

-- this, or else the machine cannot go on
abbrev pub IsScan : List ℕ → Option Scan → Bytewise Marked → Type 0
IsScan bytes None w = marks_go_on w ≡ false
IsScan bytes (Some s) w = scan_of bytes s ≡ w

-- this is the fault, or else the bytes spell a tree
abbrev pub Tells : List ℕ → Option ReadFault → Type 0
Tells bytes None = SpellsSome Spells bytes
Tells bytes (Some fault) = IsTmFault bytes fault
