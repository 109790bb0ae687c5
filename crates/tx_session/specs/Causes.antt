-- Why an edit, a key or a move of the cursor is refused, as it is printed.
use Rattle.std.specs.Prelude.{ℕ, List, [], ◌++◌, codes, decimal}
use Rattle.tx_tree.specs.declared.faults.PlaceFault.{PlaceFault}
use Rattle.tx_tree.specs.declared.faults.PlaceFault.TheVariants as places
use Rattle.tx_mod.specs.declared.faults.ModFault.{ModFault}
use Rattle.tx_mod.specs.declared.faults.ModFault.TheVariants.{NoPath, NotString, NotNode, BadPlace, Differ}
use Rattle.tx_mod.specs.declared.faults.ModFault.TheVariants.{CutsSymbol, TooLong, TooWide, TooDeep, TooBig}
use Rattle.tx_state.specs.declared.faults.LeaveFault.{LeaveFault}
use Rattle.tx_state.specs.declared.faults.LeaveFault.TheVariants as leaves
use Rattle.tx_edit.specs.declared.faults.EditFault.{EditFault}
use Rattle.tx_edit.specs.declared.faults.EditFault.TheVariants.{NoText, AtStart, AtEnd, NotInParagraph, Memory}
use Rattle.tx_print.specs.Lines.{line}

-- a line of words and a number
abbrev pub numbered_line : List ℕ → ℕ → List ℕ
numbered_line words n = line (words ++ decimal n)

abbrev pub cause_reply : ModFault → List ℕ
cause_reply (NoPath n) = numbered_line (codes "no path-end ") n
cause_reply NotString = line (codes "no not-string")
cause_reply NotNode = line (codes "no not-node")
cause_reply (BadPlace n) = numbered_line (codes "no bad-place ") n
cause_reply Differ = line (codes "no differ")
cause_reply (CutsSymbol n) = numbered_line (codes "no cuts-symbol ") n
cause_reply (TooLong n) = numbered_line (codes "no too-long ") n
cause_reply (TooWide n) = numbered_line (codes "no too-wide ") n
cause_reply (TooDeep n) = numbered_line (codes "no too-deep ") n
cause_reply (TooBig n) = numbered_line (codes "no too-big ") n

abbrev pub astray_reply : PlaceFault → List ℕ
astray_reply (places.NoPath n) = numbered_line (codes "no path-end ") n
astray_reply (places.BadPlace n) = numbered_line (codes "no bad-place ") n
astray_reply (places.CutsSymbol n) = numbered_line (codes "no cuts-symbol ") n

-- why a key does nothing, apart from running out of memory
abbrev pub key_reply : EditFault → List ℕ
key_reply NoText = line (codes "no text")
key_reply AtStart = line (codes "no start")
key_reply AtEnd = line (codes "no end")
key_reply NotInParagraph = line (codes "no paragraph")
key_reply Memory = []

-- why an earlier edit isn't taken back, apart from running out of memory
abbrev pub leave_reply : LeaveFault → List ℕ
leave_reply leaves.Nothing = line (codes "no undo")
leave_reply (leaves.Entangled j) = numbered_line (codes "no entangled ") j
leave_reply (leaves.Refused cause) = cause_reply cause
leave_reply leaves.Memory = []
