-- Which line is which command.
use Rattle.std.specs.Prelude.{◌≡◌, ℕ, ◌≤◌, List, [], ◌∷◌, ◌++◌, length}
use Rattle.tx_mod.specs.declared.mods.Mod.{Mod}
use Rattle.tx_mod.specs.declared.mods.Mod.TheVariants.{Assign, Insert, Remove, Split, Join}
use Rattle.tx_mod.specs.declared.mods.Mod.TheVariants.{AssignNode, InsertNode, RemoveNode}
use Rattle.tx_mod.specs.Mods.{path_of}
use Rattle.tx_cmd.specs.declared.TheConstants.{MOST_LINE}
use Rattle.tx_cmd.specs.declared.command.Command.{Command}
use Rattle.tx_cmd.specs.declared.command.Command.TheVariants.{Change, Undo, Redo, At, Go, Click, Left, Right, Typed}
use Rattle.tx_cmd.specs.declared.command.Command.TheVariants.{UndoAt}
use Rattle.tx_cmd.specs.declared.command.Command.TheVariants.{Backspace, Enter, Show, Page, Errors, PlaceOf, Cursor}
use Rattle.tx_cmd.specs.declared.command.Command.TheVariants.{Attrs, Work, Tree, Save, Quit}
use Rattle.tx_cmd.specs.declared.words.ModWord.{ModWord}
use Rattle.tx_cmd.specs.declared.words.ModWord.TheVariants.{Assign as AssignWord, Insert as InsertWord}
use Rattle.tx_cmd.specs.declared.words.ModWord.TheVariants.{Remove as RemoveWord, Split as SplitWord}
use Rattle.tx_cmd.specs.declared.words.ModWord.TheVariants.{Join as JoinWord, AssignNode as AssignNodeWord}
use Rattle.tx_cmd.specs.declared.words.ModWord.TheVariants.{InsertNode as InsertNodeWord, RemoveNode as RemoveNodeWord}
use Rattle.tx_cmd.specs.declared.words.Word.{Word}
use Rattle.tx_cmd.specs.declared.words.Word.TheVariants.{Change as ChangeWord, Undo as UndoWord, Redo as RedoWord}
use Rattle.tx_cmd.specs.declared.words.Word.TheVariants.{UndoAt as UndoAtWord}
use Rattle.tx_cmd.specs.declared.words.Word.TheVariants.{At as AtWord, Go as GoWord, Click as ClickWord}
use Rattle.tx_cmd.specs.declared.words.Word.TheVariants.{Left as LeftWord, Right as RightWord, Typed as TypedWord}
use Rattle.tx_cmd.specs.declared.words.Word.TheVariants.{Backspace as BackspaceWord, Enter as EnterWord}
use Rattle.tx_cmd.specs.declared.words.Word.TheVariants.{Show as ShowWord, Page as PageWord, Errors as ErrorsWord}
use Rattle.tx_cmd.specs.declared.words.Word.TheVariants.{Where as WhereWord, Cursor as CursorWord, Attrs as AttrsWord}
use Rattle.tx_cmd.specs.declared.words.Word.TheVariants.{Work as WorkWord, Tree as TreeWord, Save as SaveWord}
use Rattle.tx_cmd.specs.declared.words.Word.TheVariants.{Quit as QuitWord}
use Rattle.tx_cmd.specs.Words.{word_text}
use Rattle.tx_cmd.specs.Values.{Value, a_path, a_number, a_label, a_name, a_tree, a_text, Mean}

-- the first word of a modification
abbrev pub mod_word : Mod → ModWord
mod_word (Assign p t) = AssignWord
mod_word (Insert p i t) = InsertWord
mod_word (Remove p i n) = RemoveWord
mod_word (Split p i j) = SplitWord
mod_word (Join p i) = JoinWord
mod_word (AssignNode p l) = AssignNodeWord
mod_word (InsertNode p i t) = InsertNodeWord
mod_word (RemoveNode p i) = RemoveNodeWord

-- what it takes after its path
abbrev pub values_behind : Mod → List Value
values_behind (Assign p t) = a_tree t ∷ []
values_behind (Insert p i t) = a_number i ∷ a_tree t ∷ []
values_behind (Remove p i n) = a_number i ∷ a_number n ∷ []
values_behind (Split p i j) = a_number i ∷ a_number j ∷ []
values_behind (Join p i) = a_number i ∷ []
values_behind (AssignNode p l) = a_label l ∷ []
values_behind (InsertNode p i t) = a_number i ∷ a_tree t ∷ []
values_behind (RemoveNode p i) = a_number i ∷ []

-- the first word of a command
abbrev pub command_word : Command → Word
command_word (Change m) = ChangeWord (mod_word m)
command_word Undo = UndoWord
command_word (UndoAt n) = UndoAtWord
command_word Redo = RedoWord
command_word (At n) = AtWord
command_word (Go p) = GoWord
command_word (Click r c) = ClickWord
command_word Left = LeftWord
command_word Right = RightWord
command_word (Typed text) = TypedWord
command_word Backspace = BackspaceWord
command_word Enter = EnterWord
command_word Show = ShowWord
command_word (Page n) = PageWord
command_word Errors = ErrorsWord
command_word (PlaceOf r c) = WhereWord
command_word Cursor = CursorWord
command_word (Attrs r) = AttrsWord
command_word Work = WorkWord
command_word Tree = TreeWord
command_word (Save n) = SaveWord
command_word Quit = QuitWord

-- what it takes after that word
abbrev pub values_of : Command → List Value
values_of (Change m) = a_path (path_of m) ∷ values_behind m
values_of (At n) = a_name n ∷ []
values_of (Go p) = a_path p ∷ []
values_of (Click r c) = a_number r ∷ a_number c ∷ []
values_of (Typed text) = a_text text ∷ []
values_of (Page n) = a_number n ∷ []
values_of (UndoAt n) = a_number n ∷ []
values_of (PlaceOf r c) = a_number r ∷ a_number c ∷ []
values_of (Attrs r) = a_number r ∷ []
values_of (Save n) = a_name n ∷ []
values_of Undo = []
values_of Redo = []
values_of Left = []
values_of Right = []
values_of Backspace = []
values_of Enter = []
values_of Show = []
values_of Errors = []
values_of Cursor = []
values_of Work = []
values_of Tree = []
values_of Quit = []

-- the line is the command, and isn't too long
abbrev pub IsCommand : List ℕ → Command → Type 0
IsCommand line command = (length line ≤ MOST_LINE)
    × ((rest : List ℕ) × Mean rest (values_of command) × (line ≡ word_text (command_word command) ++ rest))
