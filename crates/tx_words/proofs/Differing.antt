-- Names of files that differ.
use Rattle.std.proofs.Common.{◌≡◌, ◌≢◌, ◌↔◌, ℕ, ◌+◌, ◌-◌, ◌<◌, true, false, List, ◌∷◌, map, length, take, drop}
use Rattle.std.proofs.Common.{get_or, subst, arith}
use Rattle.std.specs.List.{AllByRecursion}
use Rattle.std.specs.Str.{bytes_eq}
use Rattle.std.proofs.lemmas.List.{drop_more, take_all, length-drop}
use Rattle.std.proofs.lemmas.Slice.Eq.{bytes_eq-Decides}
use Rattle.tx_words.specs.declared.asked.FileWord.{FileWord}
use Rattle.tx_words.specs.Words.{Named, AreNamedApart}
use Rattle.tx_words.specs.Seen.{named_of}

-- where it holds of the first, it holds of all exactly if it holds of the others
first_holds : {X Y A : Type 0} → X → ((X × Y) ↔ A) → (Y ↔ A)
first_holds x h = (λ y. h.0 (x, y), λ a. (h.1 a).1)

-- where it doesn't hold of the first, it doesn't hold of all
first_fails : {X Y A : Type 0} → (X → ⊥) → ((X × Y) ↔ A) → A → ⊥
first_fails fails h a = fails (h.1 a).0

-- the file at a place, and those after it
one_more : (P : List Named → Type 0) (A : Type 0) (files : List FileWord) (i : ℕ) (d : FileWord) → i < length files
    → (P (map named_of (drop i files)) ↔ A)
    → (P (named_of (get_or files i d) ∷ map named_of (drop (i + 1) files)) ↔ A)
one_more P A files i d lt h =
    subst (λ (fs : List FileWord). P (map named_of fs) ↔ A) (drop_more files i d lt) h

-- none of the files has the name
abbrev pub IsFree : List ℕ → List Named → Type 0
IsFree name = AllByRecursion (λ other. other.name ≢ name)

-- the file at the place has the name
pub taken_at : (name : List ℕ) (A : Type 0) (files : List FileWord) (i : ℕ) (d : FileWord) → i < length files
    → bytes_eq (get_or files i d).name.now name ≡ true → (IsFree name (map named_of (drop i files)) ↔ A) → A → ⊥
taken_at name A files i d lt e h =
    first_fails (λ differs. differs ((bytes_eq-Decides (get_or files i d).name.now name).0 e))
    (one_more (IsFree name) A files i d lt h)

-- the file at the place has another name
pub free_at : (name : List ℕ) (A : Type 0) (files : List FileWord) (i : ℕ) (d : FileWord) → i < length files
    → bytes_eq (get_or files i d).name.now name ≡ false → (IsFree name (map named_of (drop i files)) ↔ A)
    → (IsFree name (map named_of (drop (i + 1) files)) ↔ A)
free_at name A files i d lt e h = first_holds differs (one_more (IsFree name) A files i d lt h)
  where
    differs : (get_or files i d).name.now ≢ name
    differs same =
        let there = (bytes_eq-Decides (get_or files i d).name.now name).1 same in
        cc

-- what a slice has from a place on
behind : (files : List FileWord) (k : ℕ) → take (length files - k) (drop k files) ≡ drop k files
behind files k = take_all (length files - k) (drop k files) (omega (arith, length-drop k files))

-- the name of the file at the place also comes after it
pub shared_at : (A : Type 0) (files : List FileWord) (i : ℕ) (d : FileWord) → i < length files
    → (IsFree (get_or files i d).name.now (map named_of (take (length files - (i + 1)) (drop (i + 1) files))) → ⊥)
    → (AreNamedApart (map named_of (drop i files)) ↔ A) → A → ⊥
shared_at A files i d lt shared h =
    first_fails (λ free. shared (rw (behind files (i + 1)) free)) (one_more AreNamedApart A files i d lt h)

-- the name of the file at the place is its own
pub own_at : (A : Type 0) (files : List FileWord) (i : ℕ) (d : FileWord) → i < length files
    → IsFree (get_or files i d).name.now (map named_of (take (length files - (i + 1)) (drop (i + 1) files)))
    → (AreNamedApart (map named_of (drop i files)) ↔ A) → (AreNamedApart (map named_of (drop (i + 1) files)) ↔ A)
own_at A files i d lt own h = first_holds (rw (behind files (i + 1)) at own) (one_more AreNamedApart A files i d lt h)
