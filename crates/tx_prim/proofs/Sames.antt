-- The test of sameness tells whether trees are equal.
use Rattle.std.proofs.Common.{◌≡◌, ℕ, zero, suc, ◌<◌, ◌≤◌, Bool, true, false, not, ◌&&◌, List, [], ◌∷◌, length, get_or}
use Rattle.std.proofs.Common.{arith, refl, sym, ap, ◌∙◌, ◌↔◌, rules}
use Rattle.std.specs.Str.{bytes_eq}
use Rattle.std.proofs.lemmas.Bool.{and_parts, and_from}
use Rattle.tx_tree.specs.WideTree.{WideTree, Forest, leaf, node, nil, cons}
use Rattle.tx_prim.specs.declared.amounts.Answer.TheVariants.{Truth}
use Rattle.tx_prim.specs.Arithmetic.{sameness}
use Rattle.tx_prim.specs.Same.{is_same, are_same}

bytes_true : (a b : List ℕ) → bytes_eq a b ≡ true → a ≡ b
bytes_true a b e = search (rules, e)

bytes_refl : (a : List ℕ) → bytes_eq a a ≡ true
bytes_refl a = search rules

mutual
  same_true : (s t : WideTree) → is_same s t ≡ true → s ≡ t
  same_true (leaf a) (leaf b) e = ap leaf (bytes_true a b e)
  same_true (leaf a) (node m us) e = cc
  same_true (node l ts) (leaf b) e = cc
  same_true (node l ts) (node m us) e =
      let p = and_parts (bytes_eq l m) (are_same ts us) e in
      ap (λ x. node x ts) (bytes_true l m p.0) ∙ ap (λ x. node m x) (all_true ts us p.1)

  all_true : (ts us : Forest) → are_same ts us ≡ true → ts ≡ us
  all_true nil nil e = refl
  all_true nil (cons u us) e = cc
  all_true (cons t ts) nil e = cc
  all_true (cons t ts) (cons u us) e =
      let p = and_parts (is_same t u) (are_same ts us) e in
      ap (λ x. cons x ts) (same_true t u p.0) ∙ ap (λ x. cons u x) (all_true ts us p.1)

mutual
  same_refl : (t : WideTree) → is_same t t ≡ true
  same_refl (leaf a) = bytes_refl a
  same_refl (node l ts) = and_from (bytes_eq l l) (are_same ts ts) (bytes_refl l) (all_refl ts)

  all_refl : (ts : Forest) → are_same ts ts ≡ true
  all_refl nil = refl
  all_refl (cons t ts) = and_from (is_same t t) (are_same ts ts) (same_refl t) (all_refl ts)

pub same_iff : (s t : WideTree) → (is_same s t ≡ true) ↔ (s ≡ t)
same_iff s t = (same_true s t, λ e. ap (λ x. is_same x t) e ∙ same_refl t)

pub same_from : (r : Bool) (s t : WideTree) → (r ≡ true) ↔ (s ≡ t) → r ≡ is_same s t
same_from true s t h = sym ((same_iff s t).1 (h.0 refl))
same_from false s t h = by_answer (is_same s t) refl
  where
    by_answer : (b : Bool) → is_same s t ≡ b → false ≡ is_same s t
    by_answer true e = h.1 (same_true s t e) ∙ sym e
    by_answer false e = sym e

two_operands : (ts : List WideTree) (a b : WideTree) → 2 ≤ length ts → length ts < 3 → a ≡ get_or ts 0 a
    → b ≡ get_or ts 1 b → ts ≡ a ∷ b ∷ []
two_operands [] a b some few e f = absurd (omega arith)
two_operands (s ∷ []) a b some few e f = absurd (omega arith)
two_operands (s ∷ t ∷ []) a b some few e f = ap (λ x. x ∷ t ∷ []) (sym e) ∙ ap (λ x. a ∷ x ∷ []) (sym f)
two_operands (s ∷ t ∷ u ∷ ts) a b some few e f = absurd (omega arith)

pub same_told : (wanted : Bool) (ts : List WideTree) (a b : WideTree) (r : Bool) → wanted ≡ true → 2 ≤ length ts
    → length ts < 3 → a ≡ get_or ts 0 a → b ≡ get_or ts 1 b → (r ≡ true) ↔ (a ≡ b)
    → Truth r ≡ sameness wanted ts
same_told wanted ts a b r w some few e f h =
    ap Truth (same_from r a b h) ∙ ap (sameness true) (sym (two_operands ts a b some few e f))
    ∙ ap (λ v. sameness v ts) (sym w)

pub differ_told : (wanted : Bool) (ts : List WideTree) (a b : WideTree) (r : Bool) → wanted ≡ false → 2 ≤ length ts
    → length ts < 3 → a ≡ get_or ts 0 a → b ≡ get_or ts 1 b → (r ≡ true) ↔ (a ≡ b)
    → Truth (not r) ≡ sameness wanted ts
differ_told wanted ts a b r w some few e f h =
    ap (λ v. Truth (not v)) (same_from r a b h) ∙ ap (sameness false) (sym (two_operands ts a b some few e f))
    ∙ ap (λ v. sameness v ts) (sym w)
