-- Where the reader is, as contracts see it.
use Rattle.std.specs.Prelude.{◌≡◌, ℕ, ◌+◌, ◌<◌, ◌≤◌, List, [], ◌∷◌, length, drop, map, reverse, Option, Some, None}
use Rattle.tx_tree.specs.WideTree.{WideTree, forest, nodes_of, total_nodes}
use Rattle.tx_scm.specs.declared.kinds.Kind.{Kind}
use Rattle.tx_scm.specs.declared.kinds.Kind.TheVariants.{Closes}
use Rattle.tx_scm.specs.declared.states.Bracket.{Bracket}
use Rattle.tx_scm.specs.declared.states.Reader.{Reader}
use Rattle.tx_scm.specs.Machine.{Open, State, between, opened, naming, texting, escaping, whole, failed, reads, leads}

abbrev pub open_of : Bracket → Open
open_of b = record { label = b.label; children = b.children.items }

-- the innermost first
abbrev pub opens_of : List Bracket → List Open
opens_of bs = reverse (map open_of bs)

abbrev pub standing : Option WideTree → List Open → State
standing None opens = between opens
standing (Some t) opens = whole t

abbrev pub state_of : Reader → State
state_of r = standing r.whole (opens_of r.brackets.items)

-- ---- the nodes that were made

abbrev pub nodes_in : List Open → ℕ
nodes_in [] = 0
nodes_in (o ∷ opens) = total_nodes (forest o.children) + nodes_in opens

-- a closing bracket makes a node
abbrev pub made_by : Kind → ℕ
made_by Closes = 1
made_by _ = 0

abbrev pub made_in : State → Kind → ℕ
made_in (between opens) kind = made_by kind
made_in (naming label opens) kind = made_by kind
made_in _ kind = 0

-- the steps are at most `from` and the nodes that the state holds
abbrev pub IsCounted : ℕ → ℕ → State → Type 0
IsCounted from steps failed = Unit {0}
IsCounted from steps (between opens) = steps ≤ from + nodes_in opens
IsCounted from steps (opened opens) = steps ≤ from + nodes_in opens
IsCounted from steps (naming label opens) = steps ≤ from + nodes_in opens
IsCounted from steps (texting text opens) = steps ≤ from + nodes_in opens
IsCounted from steps (escaping text opens) = steps ≤ from + nodes_in opens
IsCounted from steps (whole t) = steps ≤ from + nodes_of t

-- what was counted in the first state is counted in the second
abbrev pub CountsOn : State → ℕ → State → ℕ → Type 0
CountsOn s before t after = (from : ℕ) → IsCounted from before s → IsCounted from after t

-- ---- tokens

-- the bytes from one place on do in one state what those from a later one do in another, within the limits or not
pub record GoesTo (bytes : List ℕ) (s : State) (at : ℕ) (t : State) (end : ℕ) : Type 0 where
  pub later : at < end
  pub there : end ≤ length bytes
  pub same : reads s (drop at bytes) ≡ reads t (drop end bytes)
  pub led : leads s (drop at bytes) ≡ leads t (drop end bytes)

-- the place where the bytes go on, unless no tree is read
abbrev pub Goes : List ℕ → State → ℕ → Option ℕ → State → Type 0
Goes bytes s at None t = reads s (drop at bytes) ≡ None
Goes bytes s at (Some end) t = GoesTo bytes s at t end

-- the place where the bytes go on, in a state made of what was found, unless no tree is read
abbrev pub GoesBehind : List ℕ → State → ℕ → (List ℕ → State) → Option (List ℕ × ℕ) → Type 0
GoesBehind bytes s at after None = reads s (drop at bytes) ≡ None
GoesBehind bytes s at after (Some found) = GoesTo bytes s at (after found.0) found.1
