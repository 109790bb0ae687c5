-- What has been read, as a state of the machine.
use Rattle.std.specs.Prelude.{◌≡◌, ◌≤◌, ◌<◌, ◌+◌, ℕ, Bool, List, length, take, Option, Some, None}
use Rattle.tx_tree.specs.WideTree.{WideTree}
use Rattle.tx_tree.specs.Limits.{IsWithinLimits}
use Rattle.tx_tm_form.specs.Growing.{Content}
use Rattle.tx_tm_form.specs.Machine.{Open, ready, Bytewise, at, Keeping, State, reading, keep, run, state_tree}
use Rattle.tx_tm_form.specs.Machine.{tree_in, reads}
use Rattle.tx_tm_read.specs.declared.reader.Reader.{Reader}
use Rattle.tx_tm_read.specs.declared.reader.Advance.{Advance}
use Rattle.tx_tm_words.specs.Words.{lex_of}
use Rattle.tx_tm_read.specs.Fits.{ReaderFits}
use Rattle.tx_tm_read.specs.Nodes.{state_nodes}
use Rattle.tx_tm_read.specs.Spots.{state_of}

abbrev pub byte_machine : Reader → Bytewise Keeping
byte_machine r = at (lex_of r.lexer) (record { behind_join = r.behind_join; state = state_of r.spot })

-- this, or else it leads to no tree within the limits
abbrev pub IsReader : Option Reader → Bytewise Keeping → Type 0
IsReader None w = ReaderFits w → ⊥
IsReader (Some r) w = byte_machine r ≡ w

abbrev pub ReaderRose : ℕ → ℕ → ℕ → Option Reader → Type 0
ReaderRose before after nodes None = Unit {0}
ReaderRose before after nodes (Some r) = after + nodes ≤ before + state_nodes (state_of r.spot)

-- between two words, after a join or not
abbrev pub reader_between_words : Bool → Content → List Open → Bytewise Keeping
reader_between_words j c fs = at ready (record { behind_join = j; state = reading c fs })

-- after so many bytes, or else some of them lead to no tree within the limits
abbrev pub IsAdvance : Option Advance → Bytewise Keeping → List ℕ → Type 0
IsAdvance None w bytes = (n : ℕ) × (ReaderFits (run keep w (take n bytes)) → ⊥)
IsAdvance (Some a) w bytes =
    (0 < a.taken) × (a.taken ≤ length bytes) × (byte_machine a.reader ≡ run keep w (take a.taken bytes))

abbrev pub AdvanceRose : ℕ → ℕ → ℕ → Option Advance → Type 0
AdvanceRose before after nodes None = Unit {0}
AdvanceRose before after nodes (Some a) = after + nodes ≤ before + state_nodes (state_of a.reader.spot)

-- the tree that has been read with no word begun, or else none within the limits
abbrev pub IsTreeOf : Option WideTree → State → Type 0
IsTreeOf None s = (t : WideTree) → state_tree s ≡ Some t → IsWithinLimits t → ⊥
IsTreeOf (Some t) s = state_tree s ≡ Some t

-- the tree that has been read, or else none within the limits
abbrev pub IsTree : Option WideTree → Bytewise Keeping → Type 0
IsTree None w = (t : WideTree) → tree_in w ≡ Some t → IsWithinLimits t → ⊥
IsTree (Some t) w = tree_in w ≡ Some t

abbrev pub IsTreeRead : Option WideTree → List ℕ → Type 0
IsTreeRead None bytes = (t : WideTree) → reads bytes ≡ Some t → IsWithinLimits t → ⊥
IsTreeRead (Some t) bytes = reads bytes ≡ Some t
