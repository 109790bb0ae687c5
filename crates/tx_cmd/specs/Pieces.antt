-- How a line is cut into pieces. Private clauses alone cite this.
use Rattle.std.specs.Prelude.{◌≡◌, ℕ, ◌+◌, ◌-◌, ◌*◌, Bool, true, false, nat_le}
use Rattle.std.specs.Prelude.{if◌then◌else◌, List, [], ◌∷◌, ◌++◌, Option, Some, None}
use Rattle.tx_base.specs.Fronts.{IsLongestFront}
use Rattle.tx_tree.specs.declared.TheConstants.{MOST_NUMBER}
use Rattle.tx_tree.specs.PathSpelling.{is_digit}
use Rattle.tx_cmd.specs.declared.words.ArgumentKind.{ArgumentKind}
use Rattle.tx_cmd.specs.declared.words.ArgumentKind.TheVariants.{Path as PathArgument, Number as NumberArgument}
use Rattle.tx_cmd.specs.declared.words.ArgumentKind.TheVariants.{Label as LabelArgument}
use Rattle.tx_cmd.specs.declared.words.ArgumentKind.TheVariants.{Name as NameArgument, Tree as TreeArgument}
use Rattle.tx_cmd.specs.declared.words.ArgumentKind.TheVariants.{Text as TextArgument}
use Rattle.tx_cmd.specs.Words.{HasNoSpace, IsLoosePiece, AreLoose}

-- nothing, or what begins with a space
abbrev pub IsTail : List ℕ → Type 0
IsTail [] = Unit {0}
IsTail (b ∷ bytes) = b ≡ 32

-- a piece for the argument ends at a space or at the end, and one for a tree or a text at the end alone
abbrev pub EndsPiece : ArgumentKind → List ℕ → List ℕ → Type 0
EndsPiece TreeArgument piece rest = rest ≡ []
EndsPiece TextArgument piece rest = rest ≡ []
EndsPiece PathArgument piece rest = HasNoSpace piece × IsTail rest
EndsPiece NumberArgument piece rest = HasNoSpace piece × IsTail rest
EndsPiece LabelArgument piece rest = HasNoSpace piece × IsTail rest
EndsPiece NameArgument piece rest = HasNoSpace piece × IsTail rest

-- the bytes are a space, the piece for the argument, and the rest
pub record IsCutPiece (a : ArgumentKind) (bytes piece rest : List ℕ) : Type 0 where
  pub are : bytes ≡ 32 ∷ (piece ++ rest)
  pub ends : EndsPiece a piece rest

-- no argument is after a tree, which may be a text
abbrev pub tree_is_last : List ArgumentKind → Bool
tree_is_last [] = true
tree_is_last (TreeArgument ∷ []) = true
tree_is_last (TreeArgument ∷ b ∷ more) = false
tree_is_last (TextArgument ∷ []) = true
tree_is_last (TextArgument ∷ b ∷ more) = false
tree_is_last (PathArgument ∷ more) = tree_is_last more
tree_is_last (NumberArgument ∷ more) = tree_is_last more
tree_is_last (LabelArgument ∷ more) = tree_is_last more
tree_is_last (NameArgument ∷ more) = tree_is_last more

-- whether the bytes are pieces that may stand for the arguments, or the end of their longest front that begins such
abbrev pub IsMisfit : List ArgumentKind → List ℕ → Option ℕ → Type 0
IsMisfit arguments bytes None = AreLoose arguments bytes
IsMisfit arguments bytes (Some n) = IsLongestFront (AreLoose arguments) bytes n × (AreLoose arguments bytes → ⊥)

-- whether the piece may stand for the argument, or the end of its longest front that begins such
abbrev pub IsPieceMisfit : ArgumentKind → List ℕ → Option ℕ → Type 0
IsPieceMisfit a piece None = IsLoosePiece a piece
IsPieceMisfit a piece (Some n) = IsLongestFront (IsLoosePiece a) piece n × (IsLoosePiece a piece → ⊥)

-- the number with one digit more, where the byte is one and the number isn't too great
unfoldable pub next_number : ℕ → ℕ → Option ℕ
next_number v b =
    if is_digit b then (if nat_le (v * 10 + (b - 48)) MOST_NUMBER then Some (v * 10 + (b - 48)) else None) else None
