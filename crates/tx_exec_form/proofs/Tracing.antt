-- Traces of one tree without a frame.
use Rattle.std.proofs.Common.{◌≡◌, ℕ, ◌<◌, ◌≤◌, ◌⊎◌, sym, subst}
use Rattle.std.specs.Prelude.{Some, None}
use Rattle.tx_tree.specs.WideTree.{size_of, depth_of}
use Rattle.tx_origin.specs.Values.{plain}
use Rattle.tx_origin.specs.TaggedTrees.{TaggedTree}
use Rattle.tx_exec_form.specs.Runs.{Before}
use Rattle.tx_exec_form.specs.Frames.{top}
use Rattle.tx_exec_form.specs.Evaluated.{WideTrace, start, evaluated_in}
use Rattle.tx_exec_form.specs.Laws.{Agrees, Supports, IsPast, ComesFrom}
use Rattle.tx_exec_form.specs.Framed.{framed}
use Rattle.tx_exec_form.proofs.Coming.{value_comes}
use Rattle.tx_exec_form.proofs.Framing as framing

pub supports : (k c : ℕ) (t : TaggedTree) (e : Before) (trace : WideTrace) → evaluated_in k c t e ≡ Some trace →
    Supports trace t
unfolding evaluated_in framed
supports k c t e trace h = framing.supports top k c t e trace h

pub agrees : (k c : ℕ) (t : TaggedTree) (e : Before) (trace : WideTrace) → evaluated_in k c t e ≡ Some trace →
    Agrees e trace.looks
unfolding evaluated_in framed
agrees k c t e trace h = framing.agrees top k c t e trace h

pub allowed : (k c : ℕ) (t : TaggedTree) (e : Before) (trace : WideTrace) → evaluated_in k c t e ≡ Some trace →
    (trace.cost ≤ c) × (trace.height ≤ k)
unfolding evaluated_in framed
allowed k c t e trace h = framing.allowed top k c t e trace h

pub small : (k c : ℕ) (t : TaggedTree) (e : Before) (trace : WideTrace) → evaluated_in k c t e ≡ Some trace →
    (size_of (plain trace.value) ≤ trace.cost) × (depth_of (plain trace.value) ≤ trace.height)
unfolding evaluated_in framed
small k c t e trace h = framing.small top k c t e trace h

-- with fewer steps or levels the tree runs out
pub over : (k c : ℕ) (t : TaggedTree) (e : Before) (trace : WideTrace) → evaluated_in k c t e ≡ Some trace →
    (k' c' : ℕ) (e' : Before) → Agrees e' trace.looks → (c' < trace.cost) ⊎ (k' < trace.height) →
    evaluated_in k' c' t e' ≡ None
unfolding evaluated_in framed
over k c t e trace h k' c' e' p few =
    framing.over top trace k' c' t e' (framing.supports top k c t e trace h) p few

pub over_past : (k c : ℕ) (t : TaggedTree) (e : Before) → evaluated_in k c t e ≡ None → IsPast k c t e
unfolding evaluated_in framed
over_past k c t e none = framing.over_is_past top k c t e none

pub past_over : (k c : ℕ) (t : TaggedTree) (e : Before) → IsPast k c t e → evaluated_in k c t e ≡ None
unfolding evaluated_in framed
past_over k c t e h = framing.past_is_over top k c t e h

pub comes : (k c : ℕ) (t : TaggedTree) (e : Before) (trace : WideTrace) → evaluated_in k c t e ≡ Some trace →
    ComesFrom t trace.value
unfolding evaluated_in framed
comes k c t e trace h = by (framing.came top k c t e trace h)
  where
    by : framing.Came top k c t e trace → ComesFrom t trace.value
    by w = subst
        (λ (u : WideTrace). ComesFrom t u.value) (sym w.is) (value_comes t k e (start k c) w.state w.result w.run)
