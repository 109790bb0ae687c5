-- Why a line is no command: the first of the causes, in the order in which they are here.
use Rattle.std.specs.Prelude.{◌≡◌, ℕ, ◌+◌, ◌<◌, ◌≤◌, ◌⊎◌, false, List, [], ◌∷◌, ◌++◌, length}
use Rattle.tx_base.specs.Fronts.{IsLongestFront}
use Rattle.tx_tree.specs.PathSpelling.{IsPathFault}
use Rattle.tx_tree.specs.declared.faults.PathFault.TheVariants.{BadPath}
use Rattle.tx_tree.specs.declared.faults.ReadFault.{ReadFault}
use Rattle.tx_tree.specs.WideTree.{WideTree, is_leaf}
use Rattle.tx_tree.specs.Limits.{IsWithinLimits}
use Rattle.tx_scm.specs.Spelling.{Spells}
use Rattle.tx_scm.specs.Faults.{IsSchemeFault}
use Rattle.tx_cmd.specs.declared.TheConstants.{MOST_LINE}
use Rattle.tx_cmd.specs.declared.command.CmdFault.{CmdFault}
use Rattle.tx_cmd.specs.declared.command.CmdFault.TheVariants.{Long, Unknown, Args, Path, Tree, Memory}
use Rattle.tx_cmd.specs.declared.words.ArgumentKind.{ArgumentKind}
use Rattle.tx_cmd.specs.declared.words.ArgumentKind.TheVariants.{Path as PathArgument, Number as NumberArgument}
use Rattle.tx_cmd.specs.declared.words.ArgumentKind.TheVariants.{Label as LabelArgument}
use Rattle.tx_cmd.specs.declared.words.ArgumentKind.TheVariants.{Name as NameArgument, Tree as TreeArgument}
use Rattle.tx_cmd.specs.declared.words.ArgumentKind.TheVariants.{Text as TextArgument}
use Rattle.tx_cmd.specs.declared.words.Word.{Word}
use Rattle.tx_cmd.specs.Words.{word_text, arguments_of, up_to_space, IsKnown, IsLoosePiece, AreLoose, IsLoose}
use Rattle.tx_cmd.specs.Values.{HasMeaning}
use Rattle.tx_cmd.specs.Moved.{moved_fault}

-- the bytes are no path, and so many of the line's bytes, of which the piece begins at this place, begin one
abbrev pub IsBadPath : List ℕ → ℕ → CmdFault → Type 0
IsBadPath piece at (Path n) = (m : ℕ) × IsPathFault piece (BadPath m) × (n ≡ at + m)
IsBadPath piece at (Long n) = ⊥
IsBadPath piece at Unknown = ⊥
IsBadPath piece at (Args n) = ⊥
IsBadPath piece at (Tree fault) = ⊥
IsBadPath piece at Memory = ⊥

-- why the bytes spell no tree within the limits, with all places counted in the line, where the piece begins at this
-- place
abbrev pub IsBadTree : List ℕ → ℕ → CmdFault → Type 0
IsBadTree piece at (Tree fault) = (there : ReadFault) × IsSchemeFault piece there × (fault ≡ moved_fault at there)
IsBadTree piece at (Long n) = ⊥
IsBadTree piece at Unknown = ⊥
IsBadTree piece at (Args n) = ⊥
IsBadTree piece at (Path n) = ⊥
IsBadTree piece at Memory = ⊥

-- the bytes spell a node within the limits
abbrev pub SpellsNode : List ℕ → Type 0
SpellsNode piece = (t : WideTree) × Spells piece t × IsWithinLimits t × (is_leaf t ≡ false)

-- why the bytes spell no text within the limits: they spell no tree, or a node, and then the place is that of the piece
abbrev pub IsBadText : List ℕ → ℕ → CmdFault → Type 0
IsBadText piece at fault = IsBadTree piece at fault ⊎ (SpellsNode piece × (fault ≡ Args at))

-- why a piece that may stand for the argument stands for none, where the piece begins at this place of the line
abbrev pub IsBadPiece : ArgumentKind → List ℕ → ℕ → CmdFault → Type 0
IsBadPiece PathArgument piece at fault = IsBadPath piece at fault
IsBadPiece TreeArgument piece at fault = IsBadTree piece at fault
IsBadPiece TextArgument piece at fault = IsBadText piece at fault
IsBadPiece NumberArgument piece at fault = ⊥
IsBadPiece LabelArgument piece at fault = ⊥
IsBadPiece NameArgument piece at fault = ⊥

-- The fault of the first piece that stands for none. The bytes begin at this place of the line.
abbrev pub IsFirstFault : List ArgumentKind → List ℕ → ℕ → CmdFault → Type 0
IsFirstFault [] bytes at fault = ⊥
IsFirstFault (a ∷ more) bytes at fault =
    (piece rest : List ℕ) × (bytes ≡ 32 ∷ (piece ++ rest)) × IsLoosePiece a piece × AreLoose more rest
    × (IsBadPiece a piece (at + 1) fault ⊎ (HasMeaning a piece × IsFirstFault more rest (at + 1 + length piece) fault))

-- the line has the form of a command, and this is the first fault of its pieces
abbrev pub IsRefused : List ℕ → CmdFault → Type 0
IsRefused line fault = (w : Word) × (rest : List ℕ) × (line ≡ word_text w ++ rest)
    × IsFirstFault (arguments_of w) rest (length (word_text w)) fault

-- The line hasn't the form that commands with its first word have, and so many bytes are the longest front of it that
-- can be continued to a line of that form.
pub record HasNoForm (line : List ℕ) (n : ℕ) : Type 0 where
  pub known : IsKnown (up_to_space line)
  pub none : ¬ IsLoose (up_to_space line) line
  pub front : IsLongestFront (IsLoose (up_to_space line)) line n

abbrev pub IsCmdFault : List ℕ → CmdFault → Type 0
IsCmdFault line (Long n) = (MOST_LINE < length line) × (n ≡ length line)
IsCmdFault line Unknown = (length line ≤ MOST_LINE) × (¬ IsKnown (up_to_space line))
IsCmdFault line (Args n) = (length line ≤ MOST_LINE) × (HasNoForm line n ⊎ IsRefused line (Args n))
IsCmdFault line (Path n) = (length line ≤ MOST_LINE) × IsRefused line (Path n)
IsCmdFault line (Tree fault) = (length line ≤ MOST_LINE) × IsRefused line (Tree fault)
IsCmdFault line Memory = Unit {0}
