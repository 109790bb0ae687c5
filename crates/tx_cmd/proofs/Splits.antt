-- Cutting bytes at spaces: there is one way.
use Rattle.std.proofs.Common.{◌≡◌, ℕ, zero, suc, ◌+◌, ◌-◌, ◌<◌, ◌≤◌, ◌==◌, eqb, true, false, not, cond, List, [], ◌∷◌}
use Rattle.std.proofs.Common.{◌++◌, length, take, drop, ◌⊎◌, inl, inr, ⊎_elim, refl, sym, ap, subst, ◌∙◌, arith}
use Rattle.std.specs.List.{position_or_len}
use Rattle.std.proofs.lemmas.List.{take_rest}
use Rattle.std.proofs.lemmas.Bool.{eqb-true}
use borrow.Author.Tests.{eqb-false}
use Rattle.tx_cmd.specs.Words.{HasNoSpace, up_to_space}
use Rattle.tx_cmd.specs.declared.words.ArgumentKind.{ArgumentKind}
use Rattle.tx_cmd.specs.declared.words.ArgumentKind.TheVariants.{Path as PathArgument, Number as NumberArgument}
use Rattle.tx_cmd.specs.declared.words.ArgumentKind.TheVariants.{Label as LabelArgument, Name as NameArgument}
use Rattle.tx_cmd.specs.declared.words.ArgumentKind.TheVariants.{Tree as TreeArgument, Text as TextArgument}
use Rattle.tx_cmd.specs.Pieces.{IsTail, EndsPiece, IsCutPiece}

-- ---- what is before the first space

up_to_space-cons : (b : ℕ) (bytes : List ℕ) → up_to_space (b ∷ bytes) ≡ cond (eqb b 32) [] (b ∷ up_to_space bytes)
up_to_space-cons b bytes =
    let n = position_or_len (λ b. b == 32) bytes in
    let one_more : 1 + n ≡ suc n = omega arith in
    elim (eqb b 32) as (λ c. take (cond (not c) (1 + n) 0) (b ∷ bytes) ≡ cond c [] (b ∷ up_to_space bytes)) [
      | true ↦ refl
      | false ↦ ap (λ k. take k (b ∷ bytes)) one_more
    ]

pub before_space : (bytes : List ℕ) → HasNoSpace (up_to_space bytes)
before_space [] = tt
before_space (b ∷ bytes) =
    subst HasNoSpace (sym (up_to_space-cons b bytes))
    (elim (eqb b 32) as (λ c. eqb b 32 ≡ c → HasNoSpace (cond c [] (b ∷ up_to_space bytes))) [
      | true ↦ λ e. tt
      | false ↦ λ e. (eqb-false b 32 e, before_space bytes)
    ] refl)

abbrev HasRest : List ℕ → List ℕ → Type 0
HasRest bytes word = (rest : List ℕ) × IsTail rest × (bytes ≡ word ++ rest)

behind_space : (bytes : List ℕ) → HasRest bytes (up_to_space bytes)
behind_space [] = ([], tt, refl)
behind_space (b ∷ bytes) =
    subst (HasRest (b ∷ bytes)) (sym (up_to_space-cons b bytes))
    (elim (eqb b 32) as (λ c. eqb b 32 ≡ c → HasRest (b ∷ bytes) (cond c [] (b ∷ up_to_space bytes))) [
      | true ↦ λ e. (b ∷ bytes, eqb-true b 32 e, refl)
      | false ↦ λ e. let w = behind_space bytes in (w.0, w.1, ap (λ x. b ∷ x) w.2)
    ] refl)

-- the rest is what is dropped
pub behind_is : (bytes : List ℕ)
    → IsTail (drop (length (up_to_space bytes)) bytes)
    × (bytes ≡ up_to_space bytes ++ drop (length (up_to_space bytes)) bytes)
behind_is bytes =
    let w = behind_space bytes in
    let e : drop (length (up_to_space bytes)) bytes ≡ w.0 = ap (drop (length (up_to_space bytes))) w.2
    ∙ drop_front (up_to_space bytes) w.0 in
    (subst IsTail (sym e) w.1, w.2 ∙ ap (λ x. up_to_space bytes ++ x) (sym e))
  where
    drop_front : (x y : List ℕ) → drop (length x) (x ++ y) ≡ y
    drop_front [] y = refl
    drop_front (b ∷ x) y = drop_front x y

-- ---- cutting a piece off

ends_not_tree : (a : ArgumentKind) (piece rest : List ℕ) → (a ≡ TreeArgument → ⊥) → (a ≡ TextArgument → ⊥)
    → HasNoSpace piece → IsTail rest → EndsPiece a piece rest
ends_not_tree PathArgument piece rest other apart h t = (h, t)
ends_not_tree NumberArgument piece rest other apart h t = (h, t)
ends_not_tree LabelArgument piece rest other apart h t = (h, t)
ends_not_tree NameArgument piece rest other apart h t = (h, t)
ends_not_tree TreeArgument piece rest other apart h t = absurd (other refl)
ends_not_tree TextArgument piece rest other apart h t = absurd (apart refl)

-- after a space that begins the bytes
cut_behind : (a : ArgumentKind) (b : ℕ) (x z piece : List ℕ) → (a ≡ TreeArgument → ⊥) → (a ≡ TextArgument → ⊥)
    → b ≡ 32 → z ≡ x → piece ≡ up_to_space z
    → IsCutPiece a (b ∷ x) piece (take (length z - length piece) (drop (length piece) z))
cut_behind a b x z piece other apart space same e =
    let w = behind_is z in
    let p = up_to_space z in
    let at_first : IsCutPiece a (b ∷ x) p (drop (length p) z) = record {
      are = ap (λ k. k ∷ x) space ∙ ap (λ k. 32 ∷ k) (sym same ∙ w.1);
      ends = ends_not_tree a p (drop (length p) z) other apart (before_space z) w.0;
    } in
    subst (λ q. IsCutPiece a (b ∷ x) q (take (length z - length q) (drop (length q) z))) (sym e)
    (subst (IsCutPiece a (b ∷ x) p) (sym (take_rest z (length p))) at_first)

pub cut_at : (a : ArgumentKind) (bytes piece : List ℕ) → (a ≡ TreeArgument → ⊥) → (a ≡ TextArgument → ⊥)
    → 1 ≤ length bytes → IsTail bytes → piece ≡ up_to_space (take (length bytes - 1) (drop 1 bytes))
    → IsCutPiece a bytes piece (take (length (take (length bytes - 1) (drop 1 bytes)) - length piece)
    (drop (length piece) (take (length bytes - 1) (drop 1 bytes))))
cut_at a [] piece other apart some tail e = absurd (omega arith)
cut_at a (b ∷ x) piece other apart some tail e =
    cut_behind a b x (take (length (b ∷ x) - 1) (drop 1 (b ∷ x))) piece other apart tail (take_rest (b ∷ x) 1) e

-- what is after the first word of a line
pub behind_first : (line first : List ℕ) → first ≡ up_to_space line
    → (IsTail (take (length line - length first) (drop (length first) line)))
    × (line ≡ first ++ take (length line - length first) (drop (length first) line))
behind_first line first e =
    let w = behind_is line in
    let p = up_to_space line in
    let at_first : IsTail (take (length line - length p) (drop (length p) line))
    × (line ≡ p ++ take (length line - length p) (drop (length p) line)) =
    (subst IsTail (sym (take_rest line (length p))) w.0, w.1 ∙ ap (λ x. p ++ x) (sym (take_rest line (length p)))) in
    subst (λ q. IsTail (take (length line - length q) (drop (length q) line))
    × (line ≡ q ++ take (length line - length q) (drop (length q) line))) (sym e) at_first

-- ---- one way

-- a piece without a space ends where the first space is
pub one_piece : (p q r s : List ℕ) → p ++ r ≡ q ++ s → HasNoSpace p → HasNoSpace q → IsTail r → IsTail s
    → (p ≡ q) × (r ≡ s)
one_piece [] [] r s e hp hq hr hs = (refl, e)
one_piece [] (c ∷ q) r s e hp hq hr hs = absurd (hq.0 (subst IsTail e hr))
one_piece (b ∷ p) [] r s e hp hq hr hs = absurd (hp.0 (subst IsTail (sym e) hs))
one_piece (b ∷ p) (c ∷ q) r s e hp hq hr hs =
    let same : b ≡ c = cc in
    let others : p ++ r ≡ q ++ s = cc in
    let w = one_piece p q r s others hp.1 hq.1 hr hs in
    (rw (same, w.0) refl, w.1)

-- the word of a line that is known to begin with it
pub word_is : (word rest line : List ℕ) → line ≡ word ++ rest → HasNoSpace word → IsTail rest → up_to_space line ≡ word
word_is word rest line e h t =
    let w = behind_space line in
    (one_piece (up_to_space line) word w.0 rest (sym w.2 ∙ e) (before_space line) h w.1 t).0

-- Where a front of piece and rest goes on to another piece and its rest, the front ends within the piece and the other
-- piece goes on from there, or the pieces are one.
abbrev pub GoesOn : List ℕ → List ℕ → ℕ → List ℕ → List ℕ → List ℕ → Type 0
GoesOn piece rest m more q s =
    ((m ≤ length piece) × ((x : List ℕ) × (q ≡ take m piece ++ x))) ⊎
    ((length piece < m) × (q ≡ piece) × (s ≡ take (m - length piece) rest ++ more))

pub split_front : (piece rest q s more : List ℕ) (m : ℕ) → take m (piece ++ rest) ++ more ≡ q ++ s
    → m ≤ length (piece ++ rest) → HasNoSpace piece → IsTail rest → HasNoSpace q → IsTail s
    → GoesOn piece rest m more q s
split_front piece rest q s more zero e le hp hr hq hs = inl (omega arith, (q, refl))
split_front [] [] q s more (suc m) e le hp hr hq hs = absurd (omega arith)
split_front [] (b ∷ rest) [] s more (suc m) e le hp hr hq hs =
    let all : s ≡ take (suc m) (b ∷ rest) ++ more = sym e in
    let none : suc m ≡ suc m - 0 = omega arith in
    inr (omega arith, refl, all ∙ ap (λ k. take k (b ∷ rest) ++ more) none)
split_front [] (b ∷ rest) (c ∷ q) s more (suc m) e le hp hr hq hs =
    let same : b ≡ c = cc in absurd (hq.0 (sym same ∙ hr))
split_front (b ∷ piece) rest [] s more (suc m) e le hp hr hq hs = absurd (hp.0 (subst IsTail (sym e) hs))
split_front (b ∷ piece) rest (c ∷ q) s more (suc m) e le hp hr hq hs =
    let same : b ≡ c = cc in
    let others : take m (piece ++ rest) ++ more ≡ q ++ s = cc in
    ⊎_elim
    (λ (w : (m ≤ length piece) × ((x : List ℕ) × (q ≡ take m piece ++ x))). inl
    (omega (arith, w.0), (w.1.0, rw (same, w.1.1) refl)))
    (λ (w : (length piece < m) × (q ≡ piece) × (s ≡ take (m - length piece) rest ++ more)). let less : m - length piece
    ≡ suc m - length (b ∷ piece) =
    omega arith in inr (omega (arith, w.0), rw (same, w.1) refl, w.2 ∙ ap (λ k. take k rest ++ more) less))
    (split_front piece rest q s more m others (omega arith) hp.1 hr hq.1 hs)
