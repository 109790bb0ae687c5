-- Bytes have at most one fault, and none where they spell a tree within the limits. This holds of any syntax that
-- spells at most one tree and whose table gives at most one fault.
use Rattle.std.proofs.Common.{◌≡◌, ℕ, ◌<◌, ◌≤◌, List, [], length, take, refl, sym, ap, subst, ◌∙◌, arith, ◌⊎◌, inl, inr}
use Rattle.std.proofs.Common.{⊎_elim}
use Rattle.std.proofs.lemmas.List.{append-nil, take_all}
use Rattle.tx_base.specs.Fronts.{IsFront, IsLongestFront}
use Rattle.tx_tree.specs.declared.faults.Which.{Which}
use Rattle.tx_tree.specs.declared.faults.Which.TheVariants.{Text, Arity, Depth, Size}
use Rattle.tx_tree.specs.declared.faults.ReadFault.{ReadFault}
use Rattle.tx_tree.specs.declared.faults.ReadFault.TheVariants.{Unclosed, Limit}
use Rattle.std.proofs.lemmas.Bool.{cases_lt}
use Rattle.tx_tree.specs.declared.TheConstants.{MOST_TEXT, MOST_ARITY, MOST_DEPTH, MOST_SIZE}
use Rattle.tx_tree.specs.WideTree.{WideTree, text_length_of, arity_of, depth_of, size_of}
use Rattle.tx_tree.specs.Limits.{IsWithinLimits}
use Rattle.tx_tree.specs.ReadFaults.{IsPassed, SpellsSome, IsFault, Row}

-- ---- limits

pub passed_once : (t : WideTree) (v w : Which) (m n : ℕ) → IsPassed t v m → IsPassed t w n → Limit v m ≡ Limit w n
passed_once t Text Text m n h k = let same : m ≡ n = omega arith in ap (λ x. Limit Text x) same
passed_once t Arity Arity m n h k = let same : m ≡ n = omega arith in ap (λ x. Limit Arity x) same
passed_once t Depth Depth m n h k = let same : m ≡ n = omega arith in ap (λ x. Limit Depth x) same
passed_once t Size Size m n h k = let same : m ≡ n = omega arith in ap (λ x. Limit Size x) same
passed_once t Text Arity m n h k = absurd (omega arith)
passed_once t Text Depth m n h k = absurd (omega arith)
passed_once t Text Size m n h k = absurd (omega arith)
passed_once t Arity Text m n h k = absurd (omega arith)
passed_once t Arity Depth m n h k = absurd (omega arith)
passed_once t Arity Size m n h k = absurd (omega arith)
passed_once t Depth Text m n h k = absurd (omega arith)
passed_once t Depth Arity m n h k = absurd (omega arith)
passed_once t Depth Size m n h k = absurd (omega arith)
passed_once t Size Text m n h k = absurd (omega arith)
passed_once t Size Arity m n h k = absurd (omega arith)
passed_once t Size Depth m n h k = absurd (omega arith)

passed_past : (t : WideTree) (w : Which) (n : ℕ) → IsPassed t w n → IsWithinLimits t → ⊥
passed_past t Text n h k = absurd (omega (arith, h, k.text))
passed_past t Arity n h k = absurd (omega (arith, h, k.arity))
passed_past t Depth n h k = absurd (omega (arith, h, k.depth))
passed_past t Size n h k = absurd (omega (arith, h, k.size))

-- a tree is within the limits, or passes one first
pub passed : (t : WideTree) → IsWithinLimits t ⊎ ((w : Which) × (n : ℕ) × IsPassed t w n)
passed t =
    ⊎_elim
    (λ (a : MOST_TEXT < text_length_of t). inr (Text, text_length_of t, (a, refl)))
    (λ (text : text_length_of t ≤ MOST_TEXT). ⊎_elim
    (λ (b : MOST_ARITY < arity_of t). inr (Arity, arity_of t, (text, b, refl)))
    (λ (arity : arity_of t ≤ MOST_ARITY). ⊎_elim
    (λ (c : MOST_DEPTH < depth_of t). inr (Depth, depth_of t, (text, arity, c, refl)))
    (λ (depth : depth_of t ≤ MOST_DEPTH). ⊎_elim
    (λ (d : MOST_SIZE < size_of t). inr (Size, size_of t, (text, arity, depth, d, refl)))
    (λ (size : size_of t ≤ MOST_SIZE). inl (record { text = text; arity = arity; depth = depth; size = size }))
    (cases_lt MOST_SIZE (size_of t)))
    (cases_lt MOST_DEPTH (depth_of t)))
    (cases_lt MOST_ARITY (arity_of t)))
    (cases_lt MOST_TEXT (text_length_of t))

-- ---- rows

pub row_once : (H T B U C : Type 0) (E : Type 0) → (T → U → E) → (B → C → E) → Row H T B → Row H U C → E
row_once H T B U C E f g r s =
    ⊎_elim
    (λ (h : H × T). ⊎_elim (λ (k : H × U). f h.1 k.1) (λ (k : (H → ⊥) × C). absurd (k.0 h.0)) s)
    (λ (h : (H → ⊥) × B). ⊎_elim (λ (k : H × U). absurd (h.0 k.0)) (λ (k : (H → ⊥) × C). g h.1 k.1) s)
    r

-- ---- the three kinds of faults

module _ (Spells : List ℕ → WideTree → Type 0) (IsKind : List ℕ → ℕ → ReadFault → Type 0) where
  abbrev IsOpen : List ℕ → ReadFault → Type 0
  IsOpen bytes f =
      (f ≡ Unclosed (length bytes)) × (SpellsSome Spells bytes → ⊥) × IsFront (SpellsSome Spells) bytes (length bytes)

  abbrev IsPast : List ℕ → ReadFault → Type 0
  IsPast bytes f = (w : Which) × (n : ℕ) × (t : WideTree) × (f ≡ Limit w n) × Spells bytes t × IsPassed t w n

  abbrev IsStopped : List ℕ → ReadFault → Type 0
  IsStopped bytes f = (n : ℕ) × IsLongestFront (SpellsSome Spells) bytes n × (n < length bytes) × IsKind bytes n f

  three : (bytes : List ℕ) (f : ReadFault) → IsFault Spells IsKind bytes f
      → IsOpen bytes f ⊎ (IsPast bytes f ⊎ IsStopped bytes f)
  three bytes (Unclosed n) h = inl (ap Unclosed h.0, h.2, subst (λ n. IsFront (SpellsSome Spells) bytes n) h.0 h.1)
  three bytes (Limit w n) h = inr (inl (w, n, h.0, refl, h.1, h.2))
  three bytes f h = inr (inr h)

  -- bytes that spell a tree are a front
  whole_front : (bytes : List ℕ) (t : WideTree) → Spells bytes t → IsFront (SpellsSome Spells) bytes (length bytes)
  whole_front bytes t h = (
    omega arith,
    (
      [],
      (
        t,
        subst (λ z. Spells z t)
            (sym (append-nil (take (length bytes) bytes) ∙ take_all (length bytes) bytes (omega arith))) h,
      ),
    ),
  )

  -- where the byte after the longest front is a fault, all the bytes are no front
  stopped_before : (bytes : List ℕ) (f : ReadFault) → IsStopped bytes f
      → IsFront (SpellsSome Spells) bytes (length bytes) → ⊥
  stopped_before bytes f h k = absurd (omega (arith, h.2, h.1.longest (length bytes) k))

  module _ (once : (bytes : List ℕ) (t u : WideTree) → Spells bytes t → Spells bytes u → t ≡ u) where
    past_within : (bytes : List ℕ) (f : ReadFault) (t : WideTree) → IsPast bytes f → Spells bytes t → IsWithinLimits t
        → ⊥
    past_within bytes f t h k w = passed_past t h.0 h.1 (subst (λ u. IsPassed u h.0 h.1) (once bytes h.2 t h.4 k) h.5) w

    pub no_fault : (bytes : List ℕ) (f : ReadFault) (t : WideTree) → IsFault Spells IsKind bytes f → Spells bytes t
        → IsWithinLimits t → ⊥
    no_fault bytes f t h k w =
        ⊎_elim
        (λ (o : IsOpen bytes f). o.1 (t, k))
        (λ (r : IsPast bytes f ⊎ IsStopped bytes f). ⊎_elim (λ (p : IsPast bytes f). past_within bytes f t p k w)
        (λ (s : IsStopped bytes f). stopped_before bytes f s (whole_front bytes t k)) r)
        (three bytes f h)

    module _ (kind_once : (bytes : List ℕ) (n : ℕ) (f g : ReadFault) → IsKind bytes n f → IsKind bytes n g → f ≡ g)
      where
        both_past : (bytes : List ℕ) (f g : ReadFault) → IsPast bytes f → IsPast bytes g → f ≡ g
        both_past bytes f g h k =
            h.3 ∙ passed_once h.2 h.0 k.0 h.1 k.1 h.5 (subst (λ u. IsPassed u k.0 k.1) (once bytes k.2 h.2 k.4 h.4) k.5)
            ∙ sym k.3

        both_stopped : (bytes : List ℕ) (f g : ReadFault) → IsStopped bytes f → IsStopped bytes g → f ≡ g
        both_stopped bytes f g h k =
            let same : h.0 ≡ k.0 = omega (arith, h.1.longest k.0 k.1.front, k.1.longest h.0 h.1.front) in
            kind_once bytes k.0 f g (subst (λ n. IsKind bytes n f) same h.3) k.3

        pub one_fault : (bytes : List ℕ) (f g : ReadFault) → IsFault Spells IsKind bytes f
            → IsFault Spells IsKind bytes g
            → f ≡ g
        one_fault bytes f g h k =
            ⊎_elim
            (λ (o : IsOpen bytes f). ⊎_elim
            (λ (p : IsOpen bytes g). o.0 ∙ sym p.0)
            (λ (r : IsPast bytes g ⊎ IsStopped bytes g). ⊎_elim (λ (p : IsPast bytes g). absurd (o.1 (p.2, p.4)))
            (λ (s : IsStopped bytes g). absurd (stopped_before bytes g s o.2)) r)
            (three bytes g k))
            (λ (q : IsPast bytes f ⊎ IsStopped bytes f). ⊎_elim
            (λ (o : IsPast bytes f). ⊎_elim
            (λ (p : IsOpen bytes g). absurd (p.1 (o.2, o.4)))
            (λ (r : IsPast bytes g ⊎ IsStopped bytes g). ⊎_elim (λ (p : IsPast bytes g). both_past bytes f g o p)
            (λ (s : IsStopped bytes g). absurd (stopped_before bytes g s (whole_front bytes o.2 o.4))) r)
            (three bytes g k))
            (λ (o : IsStopped bytes f). ⊎_elim
            (λ (p : IsOpen bytes g). absurd (stopped_before bytes f o p.2))
            (λ (r : IsPast bytes g ⊎ IsStopped bytes g). ⊎_elim
            (λ (p : IsPast bytes g). absurd (stopped_before bytes f o (whole_front bytes p.2 p.4)))
            (λ (s : IsStopped bytes g). both_stopped bytes f g o s) r)
            (three bytes g k))
            q)
            (three bytes f h)
