-- Cuts of texts that are put together or taken apart.
use Rattle.std.proofs.Common.{◌≡◌, ℕ, zero, suc, ◌+◌, ◌≤◌, List, [], ◌∷◌, ◌++◌, length, take, refl, sym, ap, subst, ◌∙◌}
use Rattle.std.proofs.Common.{length-append, append_assoc, arith}
use Rattle.std.specs.List.{flat_map}
use Rattle.std.proofs.lemmas.List.{take-append-le}
use Rattle.tx_tree.specs.Texts.{item_bytes, IsText, IsCut}
use Rattle.tx_tree.proofs.Cutting.{cut_text, cut_within, text_cut, text_rest}
use Rattle.tx_mod.proofs.Remade.{texts_together}

-- a cut parts the text in two
pub record IsParted (w : List ℕ) (n : ℕ) : Type 0 where
  pub front : List ℕ
  pub back : List ℕ
  pub first : IsText front
  pub second : IsText back
  pub is : w ≡ front ++ back
  pub at : n ≡ length front

pub cut_parts : (w : List ℕ) (n : ℕ) → IsCut w n → IsParted w n
cut_parts w n h =
    record {
      front = flat_map item_bytes h.0;
      back = flat_map item_bytes h.1;
      first = (h.0, h.2, refl);
      second =
          (h.1, h.3, refl);
      is = h.4;
      at = h.5;
    }

pub cut_of : (a b w : List ℕ) (n : ℕ) → w ≡ a ++ b → n ≡ length a → IsText a → IsText b → IsCut w n
cut_of a b w n e f ha hb = (
  ha.0,
  hb.0,
  ha.1,
  hb.1,
  e ∙ ap (λ z. z ++ b) ha.2 ∙ ap (λ z. flat_map item_bytes ha.0 ++ z) hb.2,
  f
      ∙ ap length ha.2,
)

-- a cut of a text that is put after another text
pub cut_push : (a b w : List ℕ) (o n : ℕ) → w ≡ a ++ b → n ≡ length a + o → IsText a → IsCut b o → IsCut w n
cut_push a b w o n e f ha h =
    let p = cut_parts b o h in
    cut_of (a ++ p.front) p.back w n (e ∙ ap (λ z. a ++ z) p.is ∙ sym (append_assoc a p.front p.back))
    (omega (arith, f, p.at, length-append a p.front)) (texts_together a p.front ha p.first) p.second

-- a cut of a text that is put before another text
pub cut_append : (a b w : List ℕ) (o : ℕ) → w ≡ a ++ b → IsCut a o → IsText b → IsCut w o
cut_append a b w o e h hb =
    let p = cut_parts a o h in
    cut_of p.front (p.back ++ b) w o (e ∙ ap (λ z. z ++ b) p.is ∙ append_assoc p.front p.back b) p.at p.first
    (texts_together p.back b p.second hb)

-- a cut in the first of two texts
pub cut_in_front : (a b w : List ℕ) (o : ℕ) → w ≡ a ++ b → IsText a → o ≤ length a → IsCut w o → IsCut a o
cut_in_front a b w o e ha le h =
    text_cut a o ha le (subst IsText (ap (take o) e ∙ take-append-le o a b le) (cut_text w o h))

take_past : (a b : List ℕ) (k o : ℕ) → o ≡ length a + k → take o (a ++ b) ≡ a ++ take k b
take_past [] b k o e = let same : o ≡ k = omega arith in ap (λ n. take n b) same
take_past (x ∷ a) b k zero e = absurd (omega arith)
take_past (x ∷ a) b k (suc o) e = ap (λ z. x ∷ z) (take_past a b k o (omega arith))

-- a cut in the second of two texts
pub cut_behind : (a b w : List ℕ) (o k : ℕ) → w ≡ a ++ b → o ≡ length a + k → IsText a → IsText b → IsCut w o
    → IsCut b k
cut_behind a b w o k e f ha hb h =
    text_cut b k hb (omega (arith, cut_within w o h, ap length e, length-append a b))
    (text_rest a (take k b) (subst IsText (ap (take o) e ∙ take_past a b k o f) (cut_text w o h)) ha)
