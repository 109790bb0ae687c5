-- Bytes spell at most one path.
use Rattle.std.proofs.Common.{◌≡◌, ℕ, ◌≤◌, true, List, [], ◌∷◌, ◌++◌, length, refl, sym, ap, subst, ◌∙◌, arith}
use Rattle.std.specs.List.{AllByRecursion}
use Rattle.tx_tree.specs.PathSpelling.{is_digit, number_after, AreNumbers, SpellsPath}

abbrev AreDigits : List ℕ → Type 0
AreDigits = AllByRecursion (λ b. is_digit b ≡ true)

-- nothing, or what begins with a /
abbrev IsNext : List ℕ → Type 0
IsNext [] = Unit {0}
IsNext (b ∷ bytes) = b ≡ 47

numbers_next : (path bytes : List ℕ) → AreNumbers bytes path → IsNext bytes
numbers_next [] bytes h = subst IsNext (sym h) tt
numbers_next (n ∷ path) bytes h = subst IsNext (sym h.3) refl

slash_is_none : (b : ℕ) → is_digit b ≡ true → b ≡ 47 → ⊥
slash_is_none b h e = let at_slash = subst (λ x. is_digit x ≡ true) e h in absurd cc

-- the digits of a number end at the next / or at the end
one_run : (p q r s : List ℕ) → p ++ r ≡ q ++ s → AreDigits p → AreDigits q → IsNext r → IsNext s → (p ≡ q) × (r ≡ s)
one_run [] [] r s e hp hq hr hs = (refl, e)
one_run [] (c ∷ q) r s e hp hq hr hs = absurd (slash_is_none c hq.0 (subst IsNext e hr))
one_run (b ∷ p) [] r s e hp hq hr hs = absurd (slash_is_none b hp.0 (subst IsNext (sym e) hs))
one_run (b ∷ p) (c ∷ q) r s e hp hq hr hs =
    let same : b ≡ c = cc in
    let others : p ++ r ≡ q ++ s = cc in
    let w = one_run p q r s others hp.1 hq.1 hr hs in
    (rw (same, w.0) refl, w.1)

behind_slash : (x y : List ℕ) → 47 ∷ x ≡ 47 ∷ y → x ≡ y
behind_slash x y e = cc

numbers_once : (p q bytes : List ℕ) → AreNumbers bytes p → AreNumbers bytes q → p ≡ q
numbers_once [] [] bytes h k = refl
numbers_once [] (m ∷ q) bytes h k = let none = sym h ∙ k.3 in absurd cc
numbers_once (n ∷ p) [] bytes h k = let none = sym k ∙ h.3 in absurd cc
numbers_once (n ∷ p) (m ∷ q) bytes h k =
    let w = one_run h.0 k.0 h.1 k.1 (behind_slash _ _ (sym h.3 ∙ k.3)) h.2.each k.2.each (numbers_next p h.1 h.4)
    (numbers_next q k.1 k.4) in
    let same : n ≡ m = h.2.value ∙ ap (number_after 0) w.0 ∙ sym k.2.value in
    let others : p ≡ q = numbers_once p q k.1 (subst (λ x. AreNumbers x p) w.1 h.4) k.4 in
    rw (same, others) refl

-- a / alone is no number
no_number : (n : ℕ) (path bytes : List ℕ) → bytes ≡ 47 ∷ [] → AreNumbers bytes (n ∷ path) → ⊥
no_number n path bytes e h = no_digit h.0 h.1 (behind_slash _ _ (sym e ∙ h.3)) h.2.some
  where
    no_digit : (x y : List ℕ) → [] ≡ x ++ y → 1 ≤ length x → ⊥
    no_digit [] y e some = absurd (omega arith)
    no_digit (b ∷ x) y e some = absurd cc

pub spelled_once : (bytes p q : List ℕ) → SpellsPath bytes p → SpellsPath bytes q → p ≡ q
spelled_once bytes [] [] h k = refl
spelled_once bytes [] (m ∷ q) h k = absurd (no_number m q bytes h k.0)
spelled_once bytes (n ∷ p) [] h k = absurd (no_number n p bytes k h.0)
spelled_once bytes (n ∷ p) (m ∷ q) h k = numbers_once (n ∷ p) (m ∷ q) bytes h.0 k.0
