-- Which lines a key stands for, where keys edit the document.
use Rattle.std.specs.Prelude.{◌≡◌, ◌⊎◌, ℕ, Bool, true, false, List, [], ◌∷◌, ◌++◌, codes, ◌==◌, Some, slice_get}
use Rattle.std.specs.List.{AllByRecursion}
use Rattle.tx_tree.specs.Texts.{Item, item_bytes}
use Rattle.tx_tree.specs.declared.places.Place.{Place}
use Rattle.tx_doc.specs.declared.buffer.Buffer.{Buffer}
use Rattle.tx_state.specs.States.{State}
use Rattle.tx_text.specs.Displays.{is_shown_code}
use Rattle.tx_mod.specs.declared.mods.Mod.TheVariants.{Remove, Join}
use Rattle.tx_keys.specs.declared.sequences.Key.{Key}
use Rattle.tx_keys.specs.declared.sequences.Key.TheVariants.{Char, Control, Enter, Backspace, Left, Right, Delete}
use Rattle.tx_keys.specs.Typing.{IsTyped}
use Rattle.tx_cmd.specs.declared.command.Command.TheVariants.{At, Go, Save, Typed, Change}
use Rattle.tx_telling.specs.Lines.{IsScriptLine}

-- the line of a character types the item that shows it; a character that nothing shows has none
abbrev pub TypesCode : ℕ → List (List ℕ) → Type 0
TypesCode code [] = is_shown_code code ≡ false
TypesCode code (line ∷ []) = (item : Item) × IsTyped code item × IsScriptLine line (Typed (item_bytes item))
TypesCode code (line ∷ other ∷ lines) = ⊥

-- the line looks at the view, or the cursor goes somewhere by it
abbrev pub IsMove : List ℕ → Type 0
IsMove line = (line ≡ codes "work") ⊎ ((path : List ℕ) × IsScriptLine line (Go path))

-- the line selects the buffer of this number
abbrev pub IsSelection : State → ℕ → List ℕ → Type 0
IsSelection s n line = (b : Buffer) × (slice_get s.buffers n ≡ Some b) × IsScriptLine line (At b.name)

-- A line that is executed while the document is selected: alone where it is, and else between the line that selects it
-- and the one that selects what was selected. None where that can't be.
abbrev pub InDocument : State → (List ℕ → Type 0) → List (List ℕ) → Type 0
InDocument s P [] = Unit {0}
InDocument s P (line ∷ []) = (s.selected ≡ 0) × P line
InDocument s P (there ∷ line ∷ back ∷ []) = IsSelection s 0 there × P line × IsSelection s s.selected back
InDocument s P _ = ⊥

-- the line saves the buffer that is selected
abbrev pub IsSave : List ℕ → Type 0
IsSave line = (name : List ℕ) × IsScriptLine line (Save name)

-- the line takes something out after a place, or joins the text there to the next one
abbrev pub IsDeletion : Place → List ℕ → Type 0
IsDeletion at line =
    ((count : ℕ) × IsScriptLine line (Change (Remove at.path at.offset count)))
    ⊎ ((path : List ℕ) × (child : ℕ) × (at.path ≡ path ++ child ∷ []) × IsScriptLine line (Change (Join path child)))

-- the first where the test holds, and else the second
abbrev pub IsEither : Bool → Type 0 → Type 0 → Type 0
IsEither true one other = one
IsEither false one other = other

-- Ctrl-Z, Ctrl-Y and Ctrl-S
abbrev pub ControlLines : State → ℕ → List (List ℕ) → Type 0
ControlLines s n lines =
    IsEither (n == 26) (lines ≡ codes "undo" ∷ [])
    (IsEither (n == 25) (lines ≡ codes "redo" ∷ [])
    (IsEither (n == 19) (InDocument s IsSave lines) (AllByRecursion IsMove lines)))

-- The lines of a key. A key that moves, asks or shows has none but moves.
abbrev pub KeyLines : State → Key → List (List ℕ) → Type 0
KeyLines s (Char code) lines = TypesCode code lines
KeyLines s Enter lines = lines ≡ codes "enter" ∷ []
KeyLines s Backspace lines = lines ≡ codes "backspace" ∷ []
KeyLines s Left lines = lines ≡ codes "left" ∷ []
KeyLines s Right lines = lines ≡ codes "right" ∷ []
KeyLines s Delete lines = InDocument s (IsDeletion s.cursor) lines
KeyLines s (Control n) lines = ControlLines s n lines
KeyLines s other lines = AllByRecursion IsMove lines

-- These lines and, before them, `work` perhaps, which makes the view.
abbrev pub AreLinesOf : State → Key → List (List ℕ) → Type 0
AreLinesOf s key lines =
    KeyLines s key lines
    ⊎ ((others : List (List ℕ)) × (lines ≡ codes "work" ∷ others) × KeyLines s key others)
