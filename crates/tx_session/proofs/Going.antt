-- Numbers name one place, or have one cause why they name none.
use Rattle.std.proofs.Common.{◌≡◌, inl, inr, ℕ, List, [], ◌∷◌, ◌++◌, length, refl, ap, sym, subst, ◌∙◌, length-append}
use Rattle.std.proofs.Common.{arith}
use Rattle.tx_tree.specs.Places.{IsPlaceFault}
use Rattle.tx_tree.specs.declared.faults.PlaceFault.{PlaceFault}
use Rattle.tx_tree.proofs.PlaceFaults.{place_fault_once, place_has_no_fault}
use Rattle.tx_mod.specs.Moves.{place}
use Rattle.tx_doc.specs.Buffers.{document_of}
use Rattle.tx_state.specs.States.{State}
use Rattle.tx_state.specs.Edits.{CursorGoes, IsAstray}

-- one list before one last number
last_once : (p q : List ℕ) (a b : ℕ) → p ++ a ∷ [] ≡ q ++ b ∷ [] → (p ≡ q) × (a ≡ b)
last_once [] [] a b e = let same : a ≡ b = cc in (refl, same)
last_once [] (y ∷ q) a b e = absurd (omega (arith, ap length e, length-append q (b ∷ [])))
last_once (x ∷ p) [] a b e = absurd (omega (arith, ap length e, length-append p (a ∷ [])))
last_once (x ∷ p) (y ∷ q) a b e =
    let first : x ≡ y = cc in
    let rest : p ++ a ∷ [] ≡ q ++ b ∷ [] = cc in
    let more = last_once p q a b rest in
    ((λ i. first i ∷ more.0 i), more.1)

none_last : (p : List ℕ) (a : ℕ) → [] ≡ p ++ a ∷ [] → ⊥
none_last p a e = omega (arith, ap length e, length-append p (a ∷ []))

pub goes_once : (state : State) (numbers : List ℕ) (s t : State) → CursorGoes state numbers s
    → CursorGoes state numbers t → s ≡ t
goes_once state numbers s t h k =
    let same = last_once h.0 k.0 h.1 k.1 (sym h.2 ∙ k.2) in
    h.4 ∙ (λ i. record state { cursor = place (same.0 i) (same.1 i) }) ∙ sym k.4

pub goes_or_not : (state : State) (numbers : List ℕ) (s : State) (f : PlaceFault) → CursorGoes state numbers s
    → IsAstray state numbers f → ⊥
goes_or_not state numbers s f h (inl k) = none_last h.0 h.1 (sym k.0 ∙ h.2)
goes_or_not state numbers s f h (inr k) =
    let same = last_once k.0 h.0 k.1 h.1 (sym k.2 ∙ h.2) in
    place_has_no_fault (document_of state.buffers) h.0 h.1 f h.3
    (subst (λ p. IsPlaceFault (document_of state.buffers) p h.1 f) same.0
    (subst (λ o. IsPlaceFault (document_of state.buffers) k.0 o f) same.1 k.3))

pub astray_once : (state : State) (numbers : List ℕ) (f g : PlaceFault) → IsAstray state numbers f
    → IsAstray state numbers g → f ≡ g
astray_once state numbers f g (inl h) (inl k) = h.1 ∙ sym k.1
astray_once state numbers f g (inl h) (inr k) = absurd (none_last k.0 k.1 (sym h.0 ∙ k.2))
astray_once state numbers f g (inr h) (inl k) = absurd (none_last h.0 h.1 (sym k.0 ∙ h.2))
astray_once state numbers f g (inr h) (inr k) =
    let same = last_once k.0 h.0 k.1 h.1 (sym k.2 ∙ h.2) in
    place_fault_once (document_of state.buffers) h.0 h.1 f g h.3
    (subst (λ p. IsPlaceFault (document_of state.buffers) p h.1 g) same.0
    (subst (λ o. IsPlaceFault (document_of state.buffers) k.0 o g) same.1 k.3))
