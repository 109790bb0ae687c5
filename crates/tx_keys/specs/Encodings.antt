-- What terminals send, and what is to come of it.
use Rattle.std.specs.Prelude.{◌≡◌, ◌≢◌, ℕ, ◌<◌, ◌≤◌, List, [], ◌∷◌, ◌++◌, drop, map, codes, decimal, encode_utf8_all}
use Rattle.std.specs.Char.{IsScalar}
use Rattle.std.specs.List.{AllByRecursion}
use Rattle.tx_keys.specs.declared.sequences.Key.{Key}
use Rattle.tx_keys.specs.declared.sequences.Key.TheVariants.{Char, Enter, Backspace, Up, Down, Right, Left, Home, End}
use Rattle.tx_keys.specs.declared.sequences.Key.TheVariants.{CtrlHome, CtrlEnd, PageUp, PageDown, Delete, F1}
use Rattle.tx_keys.specs.declared.sequences.Key.TheVariants.{Click, Report, PasteBegins, PasteEnds}
use Rattle.tx_keys.specs.declared.sequences.Begun.{Begun}
use Rattle.tx_keys.specs.declared.sequences.Begun.TheVariants.{Nothing, LoneEscape}
use Rattle.tx_keys.specs.Keys.{read_keys}

-- an escape and these characters, CSI and these
abbrev pub esc : List ℕ → List ℕ
esc text = 27 ∷ text

abbrev pub csi : List ℕ → List ℕ
csi text = 27 ∷ 91 ∷ text

-- What xterm, a vt220 and their kin send for keys: the cursor keys in both of their modes, and with Ctrl.
abbrev pub key_rows : List (List ℕ × Key)
key_rows =
    (csi (codes "A"), Up) ∷ (csi (codes "B"), Down) ∷ (csi (codes "C"), Right) ∷ (csi (codes "D"), Left) ∷
    (esc (codes "OA"), Up) ∷ (esc (codes "OB"), Down) ∷ (esc (codes "OC"), Right) ∷ (esc (codes "OD"), Left) ∷
    (csi (codes "H"), Home) ∷ (esc (codes "OH"), Home) ∷ (csi (codes "1~"), Home) ∷ (csi (codes "7~"), Home) ∷
    (csi (codes "F"), End) ∷ (esc (codes "OF"), End) ∷ (csi (codes "4~"), End) ∷ (csi (codes "8~"), End) ∷
    (csi (codes "1;5H"), CtrlHome) ∷ (csi (codes "1;5~"), CtrlHome) ∷ (csi (codes "7;5~"), CtrlHome) ∷
    (csi (codes "1;5F"), CtrlEnd) ∷ (csi (codes "4;5~"), CtrlEnd) ∷ (csi (codes "8;5~"), CtrlEnd) ∷
    (csi (codes "5~"), PageUp) ∷ (csi (codes "6~"), PageDown) ∷ (csi (codes "3~"), Delete) ∷
    (esc (codes "OP"), F1) ∷ (csi (codes "11~"), F1) ∷
    (csi (codes "200~"), PasteBegins) ∷ (csi (codes "201~"), PasteEnds) ∷ []

-- a read that is one of the rows is its key, also where the escape came alone in the read before
pub record IsKeyRow (row : List ℕ × Key) : Type 0 where
  pub at_once : read_keys Nothing row.0 ≡ (Nothing, row.1 ∷ [])
  pub later : read_keys LoneEscape (drop 1 row.0) ≡ (Nothing, row.1 ∷ [])

-- a character that is no control
abbrev pub IsTypable : ℕ → Type 0
IsTypable code = IsScalar code × (32 ≤ code) × (code ≢ 127)

-- a number of a place on a terminal
abbrev pub IsPlace : ℕ → Type 0
IsPlace n = (1 ≤ n) × (n < 100000)

-- what a terminal says of its cursor
abbrev pub report_bytes : ℕ → ℕ → List ℕ
report_bytes r c = csi (decimal r ++ (59 ∷ (decimal c ++ 82 ∷ [])))

-- what it sends for a press of the first button
abbrev pub click_bytes : ℕ → ℕ → List ℕ
click_bytes c r = csi (60 ∷ 48 ∷ 59 ∷ (decimal c ++ (59 ∷ (decimal r ++ 77 ∷ []))))

-- the keys of two reads, one after the other
abbrev pub in_turn : Begun → List ℕ → List ℕ → Begun × List Key
in_turn begun xs ys = let one = read_keys begun xs in let two = read_keys one.0 ys in (two.0, one.1 ++ two.1)
