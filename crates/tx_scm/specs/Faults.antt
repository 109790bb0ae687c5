-- Why bytes spell no tree within the limits in the Scheme syntax: what is open at the end of the first bytes, and the
-- table by which the next byte is a fault.
use Rattle.std.specs.Prelude.{◌≡◌, ℕ, zero, suc, ◌≤◌, Bool, false, ◌==◌}
use Rattle.std.specs.Prelude.{◌||◌, List, [], ◌∷◌, ◌++◌, length, take, get_or}
use Rattle.std.specs.List.{flat_map}
use Rattle.tx_tree.specs.declared.faults.ReadFault.{ReadFault}
use Rattle.tx_tree.specs.declared.faults.ReadFault.TheVariants.{Stray, BadEscape, BadLabel, BadText, After}
use Rattle.tx_tree.specs.Labels.{IsLabel, BeginsLabel}
use Rattle.tx_tree.specs.Texts.{IsText}
use Rattle.tx_tree.specs.WideTree.{Forest}
use Rattle.tx_tree.specs.ReadFaults.{SpellsSome, IsFault, Row}
use Rattle.tx_scm.specs.Spelling.{is_white, AreWhite, escaped, SpellsTrees, Spells}

-- So many brackets are open: white, and then for each of them `(`, white, a label, whole trees, and white.
abbrev pub AreOpen : ℕ → List ℕ → Type 0
AreOpen zero x = AreWhite x
AreOpen (suc n) x =
    (outer before label children behind : List ℕ) × (ts : Forest) × AreOpen n outer × AreWhite before × IsLabel label
    × SpellsTrees children ts × AreWhite behind
    × (x ≡ outer ++ 40 ∷ (before ++ (label ++ (children ++ behind))))

-- after the brackets a `(`, white, and these first bytes of its label
abbrev pub IsLabelOpen : List ℕ → List ℕ → Type 0
IsLabelOpen label x = (n : ℕ) × (outer before : List ℕ) × AreOpen n outer × AreWhite before × BeginsLabel label
    × (x ≡ outer ++ 40 ∷ (before ++ label))

-- after the brackets a quote and the first bytes of a text
abbrev pub IsStringOpen : List ℕ → Type 0
IsStringOpen x = (n : ℕ) × (outer text more : List ℕ) × AreOpen n outer × IsText (text ++ more)
    × (x ≡ outer ++ 34 ∷ flat_map escaped text)

-- an open string, and a backslash that begins an escape
abbrev pub IsEscapeOpen : List ℕ → Type 0
IsEscapeOpen x = (string : List ℕ) × IsStringOpen string × (x ≡ string ++ 92 ∷ [])

-- white, a quote or a bracket ends a label of at least one byte
abbrev pub ends_label : ℕ → Bool
ends_label b = is_white b || b == 34 || b == 40 || b == 41

-- After x the byte is in label place: where a label must begin, or before the byte that ends the label. Bytes of a
-- label that is too long, from the 65th on, are in label place too.
abbrev pub IsInLabelPlace : List ℕ → ℕ → Type 0
IsInLabelPlace x b = (label : List ℕ) × IsLabelOpen label x × (1 ≤ length label → ends_label b ≡ false)

-- The byte b at place n, after the longest front x, is this fault. In a string it continues no text, since nothing
-- longer is a front.
abbrev pub IsStop : List ℕ → ℕ → ℕ → ReadFault → Type 0
IsStop x b n fault =
    Row (IsInLabelPlace x b) (fault ≡ BadLabel n)
    (Row (IsEscapeOpen x) (fault ≡ BadEscape n)
    (Row (IsStringOpen x) (fault ≡ BadText n)
    (Row (SpellsSome Spells x × (is_white b ≡ false)) (fault ≡ After n)
    (fault ≡ Stray n))))

abbrev pub IsKind : List ℕ → ℕ → ReadFault → Type 0
IsKind bytes n fault = IsStop (take n bytes) (get_or bytes n 0) n fault

-- this is why the bytes spell no tree within the limits
abbrev pub IsSchemeFault : List ℕ → ReadFault → Type 0
IsSchemeFault = IsFault Spells IsKind
