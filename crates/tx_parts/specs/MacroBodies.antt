-- Macros whose bodies are layers of `with` round an argument.
use Rattle.std.specs.Prelude.{◌≡◌, ℕ, true, List, [], ◌∷◌, ◌++◌, map, Some, slice_get, codes}
use Rattle.std.specs.List.{AllByRecursion}
use Rattle.tx_tree.specs.WideTree.{WideTree, Forest, leaf, node, forest, trees}
use Rattle.tx_origin.specs.TaggedTrees.{kids_from}
use Rattle.tx_env.specs.Pairs.{Name}
use Rattle.tx_exec_form.specs.Runs.{Before}
use Rattle.tx_exec_form.specs.Frames.{Frame, top, call, Here, argument}
use Rattle.tx_exec_form.specs.Rows.{ex}
use Rattle.tx_parts.specs.Shells.{Layer, IsFull, bare, in_turn, is_other_tag}

-- layers round (arg x)
abbrev pub body_in_layers : List Layer → Name → WideTree
body_in_layers [] x = node (codes "arg") (forest (leaf x ∷ []))
body_in_layers (l ∷ ls) x = node (codes "with") (forest (in_turn l.names l.trees ++ body_in_layers ls x ∷ []))

-- with these parameters
abbrev pub macro_of : List Name → WideTree → WideTree
macro_of params body = node (codes "macro") (forest (map leaf params ++ body ∷ []))

-- the tree without an origin does in this frame what it does without a frame
abbrev pub IsFree : Frame → WideTree → Type 0
IsFree frame t = (k : ℕ) → ex k (bare t) frame ≡ ex k (bare t) top

abbrev pub IsFreeLayer : Frame → Layer → Type 0
IsFreeLayer frame l = AllByRecursion (IsFree frame) l.trees

-- A tag whose label has such a macro, where the layers are round its child of this number.
pub record IsCallOf (label : List ℕ) (ts : Forest) (e : Before) (params : List Name) (ls : List Layer) (x : Name)
    (i : ℕ) : Type 0 where
  pub other : is_other_tag label ≡ true
  pub macro : e label ≡ Some (macro_of params (body_in_layers ls x))
  pub child : WideTree
  pub stands : slice_get (trees ts) i ≡ Some child
  pub found : argument x params (kids_from (Some []) 0 ts) ≡ Here (record { tree = child; at = Some (i ∷ []) })
  pub full : AllByRecursion IsFull ls
  pub free : AllByRecursion (IsFreeLayer (call params (kids_from (Some []) 0 ts) top)) ls
