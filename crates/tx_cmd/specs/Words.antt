-- The first words of commands, the arguments that are after each, and the loose grammar of lines.
use Rattle.std.specs.Prelude.{◌≡◌, ◌≢◌, ℕ, ◌≤◌, ◌==◌, Bool, true, false, ◌||◌}
use Rattle.std.specs.Prelude.{◌&&◌, nat_le, List, [], ◌∷◌, ◌++◌, length, codes}
use Rattle.std.specs.List.{AllByRecursion, before_first}
use Rattle.tx_tree.specs.PathSpelling.{IsNumber}
use Rattle.tx_tree.specs.Labels.{IsLabel}
use Rattle.tx_cmd.specs.declared.TheConstants.{MOST_NAME}
use Rattle.tx_cmd.specs.declared.words.ModWord.{ModWord}
use Rattle.tx_cmd.specs.declared.words.ModWord.TheVariants.{Assign, Insert, Remove, Split, Join}
use Rattle.tx_cmd.specs.declared.words.ModWord.TheVariants.{AssignNode, InsertNode, RemoveNode}
use Rattle.tx_cmd.specs.declared.words.Word.{Word}
use Rattle.tx_cmd.specs.declared.words.Word.TheVariants.{Change, Undo, Redo, At, Go, Click, Left, Right, Typed}
use Rattle.tx_cmd.specs.declared.words.Word.TheVariants.{UndoAt}
use Rattle.tx_cmd.specs.declared.words.Word.TheVariants.{Backspace, Enter, Show, Page, Errors, Where, Cursor, Attrs}
use Rattle.tx_cmd.specs.declared.words.Word.TheVariants.{Work, Tree, Save, Quit}
use Rattle.tx_cmd.specs.declared.words.ArgumentKind.{ArgumentKind}
use Rattle.tx_cmd.specs.declared.words.ArgumentKind.TheVariants.{Path as PathArgument, Number as NumberArgument}
use Rattle.tx_cmd.specs.declared.words.ArgumentKind.TheVariants.{Label as LabelArgument}
use Rattle.tx_cmd.specs.declared.words.ArgumentKind.TheVariants.{Name as NameArgument, Tree as TreeArgument}
use Rattle.tx_cmd.specs.declared.words.ArgumentKind.TheVariants.{Text as TextArgument}

-- a word as it is written
abbrev pub mod_text : ModWord → List ℕ
mod_text Assign = codes "assign"
mod_text Insert = codes "insert"
mod_text Remove = codes "remove"
mod_text Split = codes "split"
mod_text Join = codes "join"
mod_text AssignNode = codes "assign-node"
mod_text InsertNode = codes "insert-node"
mod_text RemoveNode = codes "remove-node"

abbrev pub word_text : Word → List ℕ
word_text (Change kind) = mod_text kind
word_text Undo = codes "undo"
word_text UndoAt = codes "undo-at"
word_text Redo = codes "redo"
word_text At = codes "at"
word_text Go = codes "go"
word_text Click = codes "click"
word_text Left = codes "left"
word_text Right = codes "right"
word_text Typed = codes "type"
word_text Backspace = codes "backspace"
word_text Enter = codes "enter"
word_text Show = codes "show"
word_text Page = codes "page"
word_text Errors = codes "errors"
word_text Where = codes "where"
word_text Cursor = codes "cursor"
word_text Attrs = codes "attrs"
word_text Work = codes "work"
word_text Tree = codes "tree"
word_text Save = codes "save"
word_text Quit = codes "quit"

-- what a modification takes after the path to what is changed
abbrev pub arguments_behind : ModWord → List ArgumentKind
arguments_behind Assign = TreeArgument ∷ []
arguments_behind Insert = NumberArgument ∷ TreeArgument ∷ []
arguments_behind Remove = NumberArgument ∷ NumberArgument ∷ []
arguments_behind Split = NumberArgument ∷ NumberArgument ∷ []
arguments_behind Join = NumberArgument ∷ []
arguments_behind AssignNode = LabelArgument ∷ []
arguments_behind InsertNode = NumberArgument ∷ TreeArgument ∷ []
arguments_behind RemoveNode = NumberArgument ∷ []

abbrev pub arguments_of : Word → List ArgumentKind
arguments_of (Change kind) = PathArgument ∷ arguments_behind kind
arguments_of At = NameArgument ∷ []
arguments_of Go = PathArgument ∷ []
arguments_of Click = NumberArgument ∷ NumberArgument ∷ []
arguments_of Typed = TextArgument ∷ []
arguments_of Page = NumberArgument ∷ []
arguments_of UndoAt = NumberArgument ∷ []
arguments_of Where = NumberArgument ∷ NumberArgument ∷ []
arguments_of Attrs = NumberArgument ∷ []
arguments_of Save = NameArgument ∷ []
arguments_of Undo = []
arguments_of Redo = []
arguments_of Left = []
arguments_of Right = []
arguments_of Backspace = []
arguments_of Enter = []
arguments_of Show = []
arguments_of Errors = []
arguments_of Cursor = []
arguments_of Work = []
arguments_of Tree = []
arguments_of Quit = []

-- what is before the first space, or the line where it has none
abbrev pub up_to_space : List ℕ → List ℕ
up_to_space line = before_first (λ b. b == 32) line

-- the bytes are the word of some command
abbrev pub IsKnown : List ℕ → Type 0
IsKnown word = (w : Word) × (word ≡ word_text w)

abbrev pub HasNoSpace : List ℕ → Type 0
HasNoSpace = AllByRecursion (λ b. b ≢ 32)

-- the digits write some number
abbrev pub IsNumeral : List ℕ → Type 0
IsNumeral digits = (n : ℕ) × IsNumber digits n

-- visible ASCII
abbrev pub is_file_name_byte : ℕ → Bool
is_file_name_byte b = nat_le 33 b && nat_le b 126

-- a name of a file
pub record IsFileName (name : List ℕ) : Type 0 where
  pub each : AllByRecursion (λ b. is_file_name_byte b ≡ true) name
  pub some : 1 ≤ length name
  pub short : length name ≤ MOST_NAME

-- The piece may stand for the argument. Any bytes without a space may stand for a path, and any bytes for a tree or a
-- text.
abbrev pub IsLoosePiece : ArgumentKind → List ℕ → Type 0
IsLoosePiece PathArgument piece = HasNoSpace piece
IsLoosePiece NumberArgument piece = IsNumeral piece
IsLoosePiece LabelArgument piece = IsLabel piece
IsLoosePiece NameArgument piece = IsFileName piece
IsLoosePiece TreeArgument piece = Unit {0}
IsLoosePiece TextArgument piece = Unit {0}

-- the bytes are a space and a piece that may stand for it, for each argument
abbrev pub AreLoose : List ArgumentKind → List ℕ → Type 0
AreLoose [] bytes = bytes ≡ []
AreLoose (a ∷ more) bytes =
    (piece rest : List ℕ) × IsLoosePiece a piece × AreLoose more rest × (bytes ≡ 32 ∷ (piece ++ rest))

-- the line has the form that commands with this first word have
abbrev pub IsLoose : List ℕ → List ℕ → Type 0
IsLoose word line =
    (w : Word) × (rest : List ℕ) × (word ≡ word_text w) × AreLoose (arguments_of w) rest × (line ≡ word ++ rest)

-- an argument other than a number is stored
abbrev pub is_stored : ArgumentKind → Bool
is_stored NumberArgument = false
is_stored PathArgument = true
is_stored LabelArgument = true
is_stored NameArgument = true
is_stored TreeArgument = true
is_stored TextArgument = true

abbrev pub some_stored : List ArgumentKind → Bool
some_stored [] = false
some_stored (a ∷ more) = is_stored a || some_stored more

-- commands with this first word hold something that takes memory
abbrev pub TakesMemory : List ℕ → Type 0
TakesMemory word = (w : Word) × (word ≡ word_text w) × (some_stored (arguments_of w) ≡ true)
