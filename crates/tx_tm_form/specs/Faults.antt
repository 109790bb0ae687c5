-- Why bytes spell no tree within the limits in the TM syntax: what is open after the first bytes, and the table by
-- which the next byte is a fault.
use Rattle.std.specs.Prelude.{◌≡◌, ◌⊎◌, ℕ, ◌≤◌, Bool, true, false, ◌==◌, ◌||◌}
use Rattle.std.specs.Prelude.{List, [], ◌∷◌, ◌++◌, length, take, get_or, map}
use Rattle.std.specs.List.{AllByRecursion, flat_map}
use Rattle.tx_tree.specs.declared.faults.ReadFault.{ReadFault}
use Rattle.tx_tree.specs.declared.faults.ReadFault.TheVariants.{Stray, BadEscape, BadLabel, BadText, Mismatch}
use Rattle.tx_tree.specs.Labels.{BeginsLabel}
use Rattle.tx_tree.specs.ReadFaults.{IsFault, Row}
use Rattle.tx_tm_form.specs.declared.places.TagForm.{TagForm}
use Rattle.tx_tm_form.specs.declared.places.TagForm.TheVariants.{Short, Long, Middle, Closing}
use Rattle.tx_tm_form.specs.Tokens.{Token, escape, head, form_mark, label_end, written, IsToken, without_joins}
use Rattle.tx_tm_form.specs.Forms.{Pieces, Arguments, Blocks, name_token}
use Rattle.tx_tm_form.specs.Forms.{tokens_of, tag_beginning, tokens_of_blocks, Spells}
use Rattle.tx_tm_form.specs.Machine.{Lex, ready, slashed, returned, angled, labelled}
use Rattle.tx_tm_form.specs.Fronts.{begins}

-- ---- a token that has begun

-- its bytes
abbrev pub begun_bytes : Lex → List ℕ
begun_bytes ready = []
begun_bytes slashed = 92 ∷ []
begun_bytes returned = 92 ∷ 13 ∷ []
begun_bytes angled = 60 ∷ []
begun_bytes (labelled form label) = 60 ∷ (form_mark form ++ label)

-- a short tag begins with a byte of its label
abbrev pub HasByte : TagForm → List ℕ → Type 0
HasByte Short label = 1 ≤ length label
HasByte _ label = Unit {0}

-- how a token can begin
abbrev pub IsBegun : Lex → Type 0
IsBegun (labelled form label) = BeginsLabel label × HasByte form label
IsBegun _ = Unit {0}

-- the bytes are whole tokens, and after them one that has begun so
pub record IsScanned (bytes : List ℕ) (tokens : List Token) (q : Lex) : Type 0 where
  pub each : AllByRecursion IsToken tokens
  pub begun : IsBegun q
  pub all : bytes ≡ flat_map written tokens ++ begun_bytes q

-- ---- what is open after whole tokens

-- a symbol: `\<`, and the bytes of its name so far
abbrev pub IsInSymbol : List Token → Type 0
IsInSymbol tokens =
    (before : List Token) × (name : List ℕ) × (without_joins false tokens ≡ before ++ escape 60 ∷ map name_token name)

-- A block of the long tag whose < is at this place is open. From there on are its beginning, and its blocks with the
-- middle tags between them, and nothing of its end.
pub record IsInBlock (tokens : List Token) (place : ℕ) : Type 0 where
  pub before : List Token
  pub behind : List Token
  pub label : List ℕ
  pub more : Bool
  pub arguments : Arguments
  pub first : Pieces
  pub others : Blocks
  pub found : tokens ≡ before ++ head Long label more ∷ behind
  pub formed : head Long label more ∷ without_joins false behind
      ≡ tag_beginning Long label arguments ++ (tokens_of first ++ tokens_of_blocks label others)
  pub there : place ≡ length (flat_map written before)

-- ---- the table

-- in the label of a middle or closing tag
abbrev pub IsInRepeated : List ℕ → List Token → Type 0
IsInRepeated bytes tokens = (label : List ℕ)
    × (IsScanned bytes tokens (labelled Middle label) ⊎ IsScanned bytes tokens (labelled Closing label))

-- In another label, or after all its bytes. The byte that ends a label of one byte at least can always be taken there.
abbrev pub IsInLabel : List ℕ → Type 0
IsInLabel bytes = (tokens : List Token) × (label : List ℕ)
    × (IsScanned bytes tokens (labelled Short label) ⊎ IsScanned bytes tokens (labelled Long label))

-- at the start of a tag, and neither | nor /
abbrev pub IsNoForm : List ℕ → ℕ → Type 0
IsNoForm bytes b = (tokens : List Token) × IsScanned bytes tokens angled × ((b == 124 || b == 47) ≡ false)

-- after a backslash outside symbols
abbrev pub IsEscapeOpen : List ℕ → Type 0
IsEscapeOpen bytes = (tokens : List Token) × IsScanned bytes tokens slashed × (IsInSymbol tokens → ⊥)

-- after a backslash and byte 13
abbrev pub IsJoinOpen : List ℕ → Type 0
IsJoinOpen bytes = (tokens : List Token) × IsScanned bytes tokens returned

-- inside a symbol
abbrev pub IsSymbolOpen : List ℕ → Type 0
IsSymbolOpen bytes = (tokens : List Token) × (q : Lex) × IsScanned bytes tokens q × IsInSymbol tokens

-- the open tag of this place, in whose middle or closing tag the byte is
abbrev pub IsOpenTag : List ℕ → ℕ → Type 0
IsOpenTag bytes place = (tokens : List Token) × IsInRepeated bytes tokens × IsInBlock tokens place

-- The byte b at place n, after these bytes, which are the longest front. In the label of a middle or closing tag it
-- differs from that of the open tag, since nothing longer is a front: `mismatched_labels_differ` of src/laws.rt.
abbrev pub IsByteFault : List ℕ → ℕ → ℕ → ReadFault → Type 0
IsByteFault front b n fault =
    Row ((tokens : List Token) × IsInRepeated front tokens)
    ((place : ℕ) × IsOpenTag front place × (fault ≡ Mismatch place n))
    (Row (IsInLabel front ⊎ IsNoForm front b) (fault ≡ BadLabel n)
    (Row ((IsEscapeOpen front × ((b == 62) ≡ false)) ⊎ IsJoinOpen front) (fault ≡ BadEscape n)
    (Row (IsSymbolOpen front ⊎ (IsEscapeOpen front × ((b == 62) ≡ true))) (fault ≡ BadText n)
    (fault ≡ Stray n))))

abbrev pub IsKind : List ℕ → ℕ → ReadFault → Type 0
IsKind bytes n fault = IsByteFault (take n bytes) (get_or bytes n 0) n fault

-- this is why the bytes spell no tree within the limits
abbrev pub IsTmFault : List ℕ → ReadFault → Type 0
IsTmFault = IsFault Spells IsKind

-- ---- labels that differ

-- These bytes are the first of the label, or all, and the byte after them isn't the next one. It is another one of the
-- label, or, after all of it, one that ends a label.
abbrev pub Differs : List ℕ → List ℕ → ℕ → Type 0
Differs label bytes b = (begins bytes label ≡ true)
    × ((more : Bool) → begins (bytes ++ b ∷ []) (label ++ label_end more ∷ []) ≡ false)
