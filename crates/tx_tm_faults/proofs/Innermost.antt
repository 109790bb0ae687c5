-- The innermost mark, and the first bytes of its label.
use Rattle.std.proofs.Common.{◌≡◌, ℕ, ◌+◌, ◌-◌, ◌<◌, Bool, true, false, ◌==◌, ◌&&◌, List, [], ◌∷◌, ◌++◌, length, map}
use Rattle.std.proofs.Common.{reverse, get_or, Option, Some, None, refl, sym, ap, ◌∙◌, length-append, arith}
use Rattle.std.specs.Prelude.{slice_get, nat_eq, is_some}
use Rattle.std.specs.List.{starts_with}
use Rattle.std.proofs.lemmas.List.{get_or-reverse, length-reverse}
use Rattle.std.proofs.lemmas.Option.{slice_get-get_or}
use Rattle.tx_tree.specs.declared.faults.ReadFault.{ReadFault}
use Rattle.tx_tree.specs.declared.faults.ReadFault.TheVariants.{Stray, Mismatch}
use Rattle.tx_tm_form.specs.declared.places.TagPlace.{TagPlace}
use Rattle.tx_tm_form.specs.declared.places.TagForm.{TagForm}
use Rattle.tx_tm_form.specs.Tokens.{form_mark, label_end, written, head}
use Rattle.tx_tm_form.specs.Fronts.{begins}
use Rattle.tx_tm_form.specs.Marks.{mismatch, begins_mark, begins_marks}
use Rattle.tx_tm_faults.specs.declared.marking.OpenMark.{OpenMark}
use Rattle.tx_tm_faults.specs.Stands.{label_of_mark, mark_in, first_mark}

first_get : (ms : List OpenMark) (d : OpenMark) → 0 < length ms → first_mark ms ≡ Some (get_or ms 0 d)
first_get [] d h = absurd (omega (arith, h))
first_get (m ∷ ms) d h = refl

pub last_is_first : (ms : List OpenMark) → slice_get ms (length ms - 1) ≡ first_mark (reverse ms)
last_is_first [] = refl
last_is_first (m ∷ ms) =
    let i : length (m ∷ ms) - 1 ≡ length (m ∷ ms) - 1 - 0 = omega arith in
    slice_get-get_or (m ∷ ms) (length (m ∷ ms) - 1) m (omega arith)
    ∙ ap (λ k. Some (get_or (m ∷ ms) k m)) i
    ∙ ap Some (sym (get_or-reverse (m ∷ ms) 0 m (omega arith)))
    ∙ sym (first_get (reverse (m ∷ ms)) m (omega (arith, length-reverse (m ∷ ms))))

pub head_length : (form : TagForm) (l : List ℕ) (more : Bool)
    → length (written (head form l more)) ≡ length (form_mark form) + length l + 2
head_length form l more =
    omega (arith, length-append (form_mark form) (l ++ label_end more ∷ []), length-append l (label_end more ∷ []))

pub begins_is : (l m : List ℕ) → starts_with nat_eq m l ≡ begins l m
begins_is [] m = refl
begins_is (b ∷ l) [] = refl
begins_is (b ∷ l) (c ∷ m) = ap (λ z. (b == c) && z) (begins_is l m)

module _ (bytes : List ℕ) where
  pub mismatch_none : (ms : List OpenMark) (n : ℕ) → first_mark ms ≡ None
      → Stray n ≡ mismatch (map (mark_in bytes) ms) n
  mismatch_none [] n e = refl
  mismatch_none (m ∷ ms) n e = absurd cc

  pub mismatch_some : (ms : List OpenMark) (n : ℕ) (m : OpenMark) → first_mark ms ≡ Some m
      → Mismatch m.at n ≡ mismatch (map (mark_in bytes) ms) n
  mismatch_some [] n m e = absurd cc
  mismatch_some (k ∷ ms) n m e = ap (λ o. at_of o) (sym e)
    where
      at_of : Option OpenMark → ReadFault
      at_of None = Stray n
      at_of (Some m) = Mismatch m.at n

  pub begins_none : (l : List ℕ) (ms : List OpenMark) → first_mark ms ≡ None
      → false ≡ begins_marks l (map (mark_in bytes) ms)
  begins_none l [] e = refl
  begins_none l (m ∷ ms) e = absurd cc

  begins_there : Option OpenMark → List ℕ → Bool
  begins_there None l = false
  begins_there (Some m) l = begins_mark m.inner l (mark_in bytes m)

  begins_some : (l : List ℕ) (ms : List OpenMark) (m : OpenMark) → first_mark ms ≡ Some m
      → begins_mark m.inner l (mark_in bytes m) ≡ begins_marks l (map (mark_in bytes) ms)
  unfolding begins_there
  begins_some l [] m e = absurd cc
  begins_some l (k ∷ ms) m e = ap (λ o. begins_there o l) (sym e)

  block_begins : (w : Option TagPlace) (l : List ℕ) (m : OpenMark) → is_some w ≡ false
      → begins l (label_of_mark bytes m) ≡ begins_mark w l (mark_in bytes m)
  block_begins None l m e = refl
  block_begins (Some p) l m e = absurd cc

  argument_begins : (w : Option TagPlace) (l : List ℕ) (m : OpenMark) → is_some w ≡ true
      → false ≡ begins_mark w l (mark_in bytes m)
  argument_begins (Some p) l m e = refl
  argument_begins None l m e = absurd cc

  pub in_block : (l : List ℕ) (ms : List OpenMark) (m : OpenMark) → first_mark ms ≡ Some m → is_some m.inner ≡ false
      → begins l (label_of_mark bytes m) ≡ begins_marks l (map (mark_in bytes) ms)
  in_block l ms m e k = block_begins m.inner l m k ∙ begins_some l ms m e

  pub in_argument : (l : List ℕ) (ms : List OpenMark) (m : OpenMark) → first_mark ms ≡ Some m → is_some m.inner ≡ true
      → false ≡ begins_marks l (map (mark_in bytes) ms)
  in_argument l ms m e k = argument_begins m.inner l m k ∙ begins_some l ms m e
