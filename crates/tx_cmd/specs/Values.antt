-- What an argument stands for.
use Rattle.std.specs.Prelude.{◌≡◌, ℕ, ◌+◌, List, [], ◌∷◌, ◌++◌}
use Rattle.tx_tree.specs.PathSpelling.{SpellsPath, IsNumber}
use Rattle.tx_tree.specs.Labels.{IsLabel}
use Rattle.tx_tree.specs.Limits.{IsWithinLimits}
use Rattle.tx_tree.specs.WideTree.{WideTree, leaf, nodes_of}
use Rattle.tx_scm.specs.Spelling.{Spells}
use Rattle.tx_cmd.specs.Words.{IsFileName}
use Rattle.tx_cmd.specs.declared.words.ArgumentKind.{ArgumentKind}
use Rattle.tx_cmd.specs.declared.words.ArgumentKind.TheVariants.{Path as PathArgument, Number as NumberArgument}
use Rattle.tx_cmd.specs.declared.words.ArgumentKind.TheVariants.{Label as LabelArgument}
use Rattle.tx_cmd.specs.declared.words.ArgumentKind.TheVariants.{Name as NameArgument, Tree as TreeArgument}
use Rattle.tx_cmd.specs.declared.words.ArgumentKind.TheVariants.{Text as TextArgument}

pub data Value : Type 0 where
  a_path : (path : List ℕ) → Value
  a_number : (n : ℕ) → Value
  a_label : (label : List ℕ) → Value
  a_name : (name : List ℕ) → Value
  a_tree : (t : WideTree) → Value
  a_text : (text : List ℕ) → Value

abbrev pub argument_kind : Value → ArgumentKind
argument_kind (a_path p) = PathArgument
argument_kind (a_number n) = NumberArgument
argument_kind (a_label l) = LabelArgument
argument_kind (a_name n) = NameArgument
argument_kind (a_tree t) = TreeArgument
argument_kind (a_text text) = TextArgument

-- the piece is how the value is written
abbrev pub Means : List ℕ → Value → Type 0
Means piece (a_path p) = SpellsPath piece p
Means piece (a_number n) = IsNumber piece n
Means piece (a_label l) = IsLabel l × (piece ≡ l)
Means piece (a_name n) = IsFileName n × (piece ≡ n)
Means piece (a_tree t) = Spells piece t × IsWithinLimits t
Means piece (a_text text) = Spells piece (leaf text) × IsWithinLimits (leaf text)

-- the bytes are a space and a piece for each value
abbrev pub Mean : List ℕ → List Value → Type 0
Mean bytes [] = bytes ≡ []
Mean bytes (v ∷ values) = (piece rest : List ℕ) × Means piece v × Mean rest values × (bytes ≡ 32 ∷ (piece ++ rest))

-- the piece stands for some value of this kind
abbrev pub HasMeaning : ArgumentKind → List ℕ → Type 0
HasMeaning a piece = (v : Value) × (argument_kind v ≡ a) × Means piece v

-- the nodes of trees among the values, leaves aside
abbrev pub nodes_in_values : List Value → ℕ
nodes_in_values [] = 0
nodes_in_values (a_tree t ∷ values) = nodes_of t + nodes_in_values values
nodes_in_values (a_path p ∷ values) = nodes_in_values values
nodes_in_values (a_number n ∷ values) = nodes_in_values values
nodes_in_values (a_label l ∷ values) = nodes_in_values values
nodes_in_values (a_name n ∷ values) = nodes_in_values values
nodes_in_values (a_text text ∷ values) = nodes_in_values values
