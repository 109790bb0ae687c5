-- The trace of a tree, put together from what is stored of its parts. The definition follows `composed_by`. But a tree
-- that isn't open isn't evaluated: the first stored trace is taken, and the rest of the list is passed on.
use Rattle.std.specs.Prelude.{ℕ, zero, suc, ◌+◌, ◌-◌, nat_le, if◌then◌else◌, List, [], ◌∷◌, Option, Some, None}
use Rattle.std.specs.Prelude.{option_and_then}
use Rattle.std.specs.Option.{option_map}
use Rattle.tx_tree.specs.WideTree.{WideTree}
use Rattle.tx_exec_form.specs.Runs.{Before}
use Rattle.tx_exec_form.specs.Evaluated.{WideTrace}
use Rattle.tx_parts.specs.Atop.{env_atop}
use Rattle.tx_parts.specs.Openness.{Openness, Document, With, Shut}
use Rattle.tx_parts.specs.Shells.{Layer}
use Rattle.tx_parts.specs.Opening.{Sheller, Opening, ByTree, ByShell, opening}
use Rattle.tx_parts.specs.Composed.{SoFar, nothing_yet, with_child, document_trace, settings_cost, set_by, with_trace}
use Rattle.tx_parts.specs.Layered.{layer_values, layer_cost, inside_layer, layer_trace, child_trace, shell_trace}
use Rattle.tx_parts.specs.Parts.{Stored}

-- What is made from a list, and what is left of the list. None where the list is too short, where the trace of a part
-- that ran out is taken, or where the steps or levels round the parts run out.
abbrev pub FromStored : Type 0 → Type 0
FromStored A = Option (A × List Stored)

-- the trace of a tree with so many steps in an environment, from a list
abbrev pub Recomposer : Type 0
Recomposer = ℕ → WideTree → Before → List Stored → FromStored WideTrace

-- the first trace
abbrev pub first_stored : List Stored → FromStored WideTrace
first_stored [] = None
first_stored (p ∷ ps) = option_map (λ trace. (trace, ps)) p.trace

-- with what is round it, which takes n of c steps
abbrev pub in_whole : {A : Type 0} → (n c : ℕ) → (A → WideTrace) → FromStored A → FromStored WideTrace
in_whole n c whole o = if nat_le n c then option_map (λ r. (whole r.0, r.1)) o else None

-- the children from number i on, with c steps for all
abbrev pub recomposed_from : Recomposer → ℕ → ℕ → SoFar → List WideTree → Before → List Stored → FromStored SoFar
recomposed_from recomposer c i a [] e ps = Some (a, ps)
recomposed_from recomposer c i a (t ∷ ts) e ps =
    option_and_then (λ r. recomposed_from recomposer c (i + 1) (with_child i a r.0) ts e r.1)
    (recomposer (c - a.cost) t (env_atop a.writes e) ps)

abbrev pub recomposed_as : Openness → Recomposer → Recomposer
recomposed_as (Document ts) recomposer c t e ps =
    in_whole 1 c document_trace (recomposed_from recomposer (c - 1) 0 nothing_yet ts e ps)
recomposed_as (With xs b) recomposer c t e ps =
    in_whole (1 + settings_cost xs) c (with_trace xs)
    (recomposer (c - (1 + settings_cost xs)) b (env_atop (set_by xs) e) ps)
recomposed_as Shut recomposer c t e ps = first_stored ps

-- the trace of a tree in layers, which is the child of this number
abbrev pub LayerRecomposer : Type 0
LayerRecomposer = List Layer → ℕ → Recomposer

-- The layers' trees are evaluated. They are no parts.
abbrev pub recomposed_layers : ℕ → Recomposer → LayerRecomposer → LayerRecomposer
recomposed_layers k recomposer inside [] i c t e ps = in_whole 1 c (child_trace i) (recomposer (c - 1) t e ps)
recomposed_layers k recomposer inside (l ∷ ls) i c t e ps =
    option_and_then (λ a. in_whole (layer_cost l.names a) c (layer_trace l.names a)
    (inside ls i (c - layer_cost l.names a) t (inside_layer l.names a e) ps)) (layer_values k l c e)

abbrev pub recomposed_opened : Opening → Recomposer → LayerRecomposer → Recomposer
recomposed_opened (ByTree o) recomposer inside c t e ps = recomposed_as o recomposer c t e ps
recomposed_opened (ByShell shell u) recomposer inside c t e ps =
    in_whole 1 c (shell_trace t e) (inside shell.layers shell.inner (c - 1) u e ps)

-- with k levels
unfoldable mutual
  pub recomposed_by : Sheller → ℕ → Recomposer
  recomposed_by sheller zero c t e ps = None
  recomposed_by sheller (suc k) c t e ps =
      recomposed_opened (opening sheller t e) (recomposed_by sheller k) (recomposed_in sheller k) c t e ps

  pub recomposed_in : Sheller → ℕ → LayerRecomposer
  recomposed_in sheller zero ls i c t e ps = None
  recomposed_in sheller (suc k) ls i c t e ps =
      recomposed_layers k (recomposed_by sheller k) (recomposed_in sheller k) ls i c t e ps
