-- The nodes that a step makes.
use Rattle.std.proofs.Common.{◌≡◌, ℕ, ◌+◌, ◌≤◌, Bool, true, false, ltb, ◌&&◌, List, [], ◌∷◌, ◌++◌, length, arith}
use Rattle.std.proofs.Common.{is_some, Option, Some, None, sym, subst}
use Rattle.tx_tree.specs.TextScan.{is_text, begins_text}
use Rattle.tx_tree.specs.WideTree.{WideTree, leaf, forest, nodes_of, total_nodes}
use Rattle.tx_scm.specs.declared.kinds.Kind.{Kind}
use Rattle.tx_scm.specs.declared.kinds.Kind.TheVariants.{White, Opens, Closes, Quote, Backslash, Letter}
use Rattle.tx_scm.specs.Machine.{the_limits, within, Open, State, Bounds, between, opened, naming, texting, escaping}
use Rattle.tx_scm.specs.Machine.{whole, failed, put_tree}
use Rattle.tx_scm.specs.Machine.{only_if, node_of, closed, with_bracket, lengthened, step_between, step_opened}
use Rattle.tx_scm.specs.Machine.{step_naming}
use Rattle.tx_scm.specs.Machine.{step_texting, step_escaping, step_whole, step}
use Rattle.tx_scm.specs.States.{standing, nodes_in, made_by, made_in, IsCounted, CountsOn}

total_nodes-append : (ss ts : List WideTree) → total_nodes (forest (ss ++ ts)) ≡ total_nodes (forest ss) + total_nodes
    (forest ts)
total_nodes-append [] ts = omega arith
total_nodes-append (s ∷ ss) ts = omega (arith, total_nodes-append ss ts)

module _ (from steps : ℕ) where
  only_counted : (c : Bool) (s : State) → IsCounted from steps s → IsCounted from steps (only_if c s)
  only_counted true s h = h
  only_counted false s h = tt

  pub put_counted : (t : WideTree) (opens : List Open) → steps ≤ from + (nodes_of t + nodes_in opens)
      → IsCounted from steps (put_tree t opens)
  put_counted t [] h = omega arith
  put_counted t (o ∷ opens) h = omega (arith, h, total_nodes-append o.children (t ∷ []))

module _ (bounds : Bounds) (from steps : ℕ) where
  close_counted : (opens : List Open) → steps ≤ from + nodes_in opens → IsCounted from (steps + 1) (closed bounds opens)
  close_counted [] h = tt
  close_counted (o ∷ opens) h =
      only_counted from (steps + 1) (bounds.keeps (node_of o)) (put_tree (node_of o) opens)
      (put_counted from (steps + 1) (node_of o) opens (omega (arith, h)))

  between_counted : (k : Kind) (opens : List Open) → steps ≤ from + nodes_in opens
      → IsCounted from (steps + made_by k) (step_between bounds opens k)
  unfolding step_between
  between_counted White opens h = omega arith
  between_counted Opens opens h = only_counted from (steps + 0) (bounds.room opens) (opened opens) (omega arith)
  between_counted Quote opens h = only_counted from (steps + 0) (bounds.room opens) (texting [] opens) (omega arith)
  between_counted Closes opens h = close_counted opens h
  between_counted _ opens h = tt

  opened_counted : (k : Kind) (b : ℕ) (opens : List Open) → steps ≤ from + nodes_in opens
      → IsCounted from (steps + 0) (step_opened opens k b)
  unfolding step_opened
  opened_counted White b opens h = omega arith
  opened_counted Letter b opens h = omega arith
  opened_counted _ b opens h = tt

  naming_counted : (k : Kind) (b : ℕ) (label : List ℕ) (opens : List Open) → steps ≤ from + nodes_in opens
      → IsCounted from (steps + made_by k) (step_naming bounds label opens k b)
  unfolding step_naming
  naming_counted Letter b label opens h =
      only_counted from (steps + 0) (ltb (length label) 64) (naming (label ++ b ∷ []) opens) (omega arith)
  naming_counted k b label opens h = between_counted k (with_bracket label opens) (omega arith)

  lengthened_counted : (text : List ℕ) (b : ℕ) (opens : List Open) → steps ≤ from + nodes_in opens
      → IsCounted from (steps + 0) (lengthened bounds text opens b)
  lengthened_counted text b opens h =
      only_counted from (steps + 0) (bounds.longer text && begins_text (text ++ b ∷ []))
      (texting (text ++ b ∷ []) opens) (omega arith)

  texting_counted : (k : Kind) (b : ℕ) (text : List ℕ) (opens : List Open) → steps ≤ from + nodes_in opens
      → IsCounted from (steps + 0) (step_texting bounds text opens k b)
  unfolding step_texting
  texting_counted Quote b text opens h =
      only_counted from (steps + 0) (is_text text) (put_tree (leaf text) opens)
      (put_counted from (steps + 0) (leaf text) opens (omega arith))
  texting_counted Backslash b text opens h = omega arith
  texting_counted _ b text opens h = lengthened_counted text b opens h

  escaping_counted : (k : Kind) (b : ℕ) (text : List ℕ) (opens : List Open) → steps ≤ from + nodes_in opens
      → IsCounted from (steps + 0) (step_escaping bounds text opens k b)
  unfolding step_escaping
  escaping_counted Quote b text opens h = lengthened_counted text b opens h
  escaping_counted Backslash b text opens h = lengthened_counted text b opens h
  escaping_counted _ b text opens h = tt

  whole_counted : (k : Kind) (t : WideTree) → steps ≤ from + nodes_of t → IsCounted from (steps + 0) (step_whole t k)
  unfolding step_whole
  whole_counted White t h = omega arith
  whole_counted _ t h = tt

  pub step_counted : (s : State) (k : Kind) (b : ℕ) → IsCounted from steps s
      → IsCounted from (steps + made_in s k) (step bounds s k b)
  step_counted (between opens) k b h = between_counted k opens h
  step_counted (opened opens) k b h = opened_counted k b opens h
  step_counted (naming label opens) k b h = naming_counted k b label opens h
  step_counted (texting text opens) k b h = texting_counted k b text opens h
  step_counted (escaping text opens) k b h = escaping_counted k b text opens h
  step_counted (whole t) k b h = whole_counted k t h
  step_counted failed k b h = tt

-- a string makes no node
pub string_counted : (from steps : ℕ) (w : Option WideTree) (opens : List Open) (text : List ℕ) (t : State) → w ≡ None
    → t ≡ put_tree (leaf text) opens → IsCounted from steps (standing w opens) → IsCounted from steps t
string_counted from steps None opens text t w f h =
    subst (IsCounted from steps) (sym f) (put_counted from steps (leaf text) opens (omega (arith, h)))
string_counted from steps (Some u) opens text t w f h = absurd cc

-- a closing bracket makes one
pub closes_counted : (before after : ℕ) (w : Option WideTree) (opens : List Open) (t : State) → is_some w ≡ false
    → after ≡ before + 1 → t ≡ step_between (within the_limits) opens Closes
    → CountsOn (standing w opens) before t after
closes_counted before after None opens t e f g = λ from h.
    rw (f, g) (between_counted (within the_limits) from before Closes opens h)
closes_counted before after (Some u) opens t e f g = absurd cc
