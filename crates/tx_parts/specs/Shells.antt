-- Shells: what an opener gives for a tag. The tag does what layers of `with` round one of its children do.
use Rattle.std.specs.Prelude.{◌≡◌, ℕ, zero, suc, ◌*◌, ◌<◌, Bool, true, false, ◌&&◌, not, is_some, List, [], ◌∷◌, ◌++◌}
use Rattle.std.specs.Prelude.{length, map, Option, Some, None, slice_get, codes}
use Rattle.std.specs.List.{AllByRecursion}
use Rattle.tx_tree.specs.WideTree.{WideTree, Forest, leaf, node, children_of}
use Rattle.tx_prim.specs.Names.{named as primitive_named}
use Rattle.tx_origin.specs.Values.{WideValue}
use Rattle.tx_origin.specs.TaggedTrees.{TaggedTree, kids_from}
use Rattle.tx_env.specs.Pairs.{Name}
use Rattle.tx_exec_form.specs.Runs.{Before, Run, ◌>>=◌, ◌>>◌, over, pay, need, look}
use Rattle.tx_exec_form.specs.Frames.{top}
use Rattle.tx_exec_form.specs.Words.{row_of}
use Rattle.tx_exec_form.specs.Rows.{Eval, with_row, ex}
use Rattle.tx_exec_form.specs.declared.rows.Row.{Row}
use Rattle.tx_exec_form.specs.declared.rows.Row.TheVariants as rows
use Rattle.tx_exec_form.specs.Evaluated.{start}

-- names with as many trees, whose values they are to have
pub record Layer : Type 0 where
  pub names : List Name
  pub trees : List WideTree

-- layers, the outer first, and the number of the child inside them
pub record Shell : Type 0 where
  pub layers : List Layer
  pub inner : ℕ

-- the shell of a tag, by the tree that its label has, or none
abbrev pub Opener : Type 0
Opener = WideTree → WideTree → Option Shell

-- ---- runs

-- a tree without an origin
abbrev pub bare : WideTree → TaggedTree
bare t = record { tree = t; at = None }

-- each name as a text, and its tree after it
abbrev pub in_turn : List Name → List WideTree → List WideTree
in_turn [] ts = []
in_turn (x ∷ xs) [] = []
in_turn (x ∷ xs) (t ∷ ts) = leaf x ∷ t ∷ in_turn xs ts

-- what has no origin is evaluated by the first, and what has one by the second
abbrev pub by_origin : Option (List ℕ) → Run WideValue → Run WideValue → Run WideValue
by_origin None m n = m
by_origin (Some p) m n = n

-- A tree in layers, with k levels: a row of `with` for each, in which nothing but the tree has an origin, and a level
-- and a step more round the tree.
unfoldable pub in_layers : ℕ → List Layer → Eval
in_layers zero ls t f = over
in_layers (suc k) [] t f = do
  need 1 (suc k)
  pay 1
  ex k t f
in_layers (suc k) (l ∷ ls) t f = do
  need 1 (suc k)
  pay 1
  with_row (suc k) (λ u g. by_origin u.at (ex k u g) (in_layers k ls u g)) f (codes "with") None
      (map bare (in_turn l.names l.trees) ++ t ∷ [])

abbrev pub child_in : Eval → Option TaggedTree → Run WideValue
child_in below None = over
child_in below (Some t) = below t top

-- A tag with a shell, at an origin of its own: its label is looked up, and then its child runs in the layers.
unfoldable pub shell_run : ℕ → Shell → WideTree → Run WideValue
shell_run zero shell t = over
shell_run (suc k) shell (leaf words) = over
shell_run (suc k) shell (node label ts) = do
  need 1 (suc k)
  pay 1
  _ ← look label
  child_in (in_layers k shell.layers) (slice_get (kids_from (Some []) 0 ts) shell.inner)

-- ---- what is true of a shell

-- The layer's `with` is a tree: it has as many names as trees, and at most 65,535 children.
abbrev pub IsFull : Layer → Type 0
IsFull l = (length l.names ≡ length l.trees) × (2 * length l.names < 65535)

-- A tag with this shell, where names have this. Its evaluation alone is the run of its shell.
pub record IsShell (shell : Shell) (t : WideTree) (e : Before) : Type 0 where
  pub inside : shell.inner < length (children_of t)
  pub full : AllByRecursion IsFull shell.layers
  pub runs : (k c : ℕ) →
      ex k (record { tree = t; at = Some [] }) top e (start k c) ≡ shell_run k shell t e (start k c)

abbrev pub is_tag_row : Row → Bool
is_tag_row rows.Tag = true
is_tag_row other = false

-- any other tag, as the table of evaluation says
abbrev pub is_other_tag : List ℕ → Bool
is_other_tag label = is_tag_row (row_of label) && not (is_some (primitive_named label))

-- What an opener gives for any other tag is its shell wherever its label has that tree.
abbrev pub IsOpener : Opener → Type 0
IsOpener opener = (label : List ℕ) (ts : Forest) (meaning : WideTree) (shell : Shell) (e : Before) →
    is_other_tag label ≡ true → opener (node label ts) meaning ≡ Some shell → e label ≡ Some meaning →
    IsShell shell (node label ts) e
