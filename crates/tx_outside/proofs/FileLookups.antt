-- Looking files up in a list: after one that lacks the name, after a file is replaced, and after one is added.
use Rattle.std.proofs.Common.{◌≡◌, ◌≢◌, ℕ, zero, suc, ◌<◌, List, [], ◌∷◌, ◌++◌, length, take, set, get_or, Bool, true}
use Rattle.std.proofs.Common.{false, cond, refl, sym, ap, ◌∙◌, arith, Option, Some, None}
use Rattle.std.specs.Str.{bytes_eq}
use Rattle.std.proofs.lemmas.Bool.{false_from_ne_true}
use Rattle.std.proofs.lemmas.Slice.Eq.{bytes_eq-Decides}
use Rattle.tx_outside.specs.Files.{Files, file_of, NamesDiffer, WithFile, StandsAt}

-- a name is itself
bytes_eq-same : (name : List ℕ) → bytes_eq name name ≡ true
bytes_eq-same name = (bytes_eq-Decides name name).1 refl

-- names that differ compare as unequal
bytes_eq-other : (a b : List ℕ) → a ≢ b → bytes_eq a b ≡ false
bytes_eq-other a b differ = false_from_ne_true (bytes_eq a b) (λ same. differ ((bytes_eq-Decides a b).0 same))

-- names that compare as unequal differ
differ-from_false : (a b : List ℕ) → bytes_eq a b ≡ false → a ≢ b
differ-from_false a b apart same = let t : bytes_eq a b ≡ true = (bytes_eq-Decides a b).1 same in cc

-- where the first file isn't it and there is no other, neither is it
none_parts : (b : Bool) (x : List ℕ) (rest : Option (List ℕ)) → cond b (Some x) rest ≡ None
    → (b ≡ false) × (rest ≡ None)
none_parts true x rest e = absurd cc
none_parts false x rest e = (refl, e)

-- a file that isn't it is passed over
passed : (b : Bool) (x : List ℕ) (rest : Option (List ℕ)) → b ≡ false → cond b (Some x) rest ≡ rest
passed b x rest e = rw e refl

-- files that lack the name, and then others
file_of-append : (name : List ℕ) (front back : Files) → file_of front name ≡ None
    → file_of (front ++ back) name ≡ file_of back name
file_of-append name [] back none = refl
file_of-append name (file ∷ front) back none =
    let parts = none_parts _ _ _ none in
    passed _ _ _ parts.0 ∙ file_of-append name front back parts.1

-- the first i files lack the name, and so does the next one
pub file_of-take_more : (name : List ℕ) (files : Files) (i : ℕ) (d : List ℕ × List ℕ) → i < length files
    → file_of (take i files) name ≡ None → bytes_eq (get_or files i d).0 name ≡ false
    → file_of (take (suc i) files) name ≡ None
file_of-take_more name [] i d within none other = refl
file_of-take_more name (file ∷ files) zero d within none other =
    passed _ _ _ (bytes_eq-other name file.0 (λ e. differ-from_false file.0 name other (sym e)))
file_of-take_more name (file ∷ files) (suc i) d within none other =
    let parts = none_parts _ _ _ none in
    passed _ _ _ parts.0 ∙ file_of-take_more name files i d (omega arith) parts.1 other

-- where the first file of that name is at a place, the lookup returns its bytes
pub file_of-at : (name : List ℕ) (files : Files) (place : ℕ) (d : List ℕ × List ℕ) → place < length files
    → file_of (take place files) name ≡ None → (get_or files place d).0 ≡ name
    → file_of files name ≡ Some (get_or files place d).1
file_of-at name [] place d within none there = absurd (omega arith)
file_of-at name (file ∷ files) zero d within none there = rw there (rw bytes_eq-same refl)
file_of-at name (file ∷ files) (suc place) d within none there =
    let parts = none_parts _ _ _ none in
    passed _ _ _ parts.0 ∙ file_of-at name files place d (omega arith) parts.1 there

-- the replaced file is found
file_of-set : (name bytes : List ℕ) (files : Files) (place : ℕ) → place < length files
    → file_of (take place files) name ≡ None → file_of (set files place (name, bytes)) name ≡ Some bytes
file_of-set name bytes [] place within none = absurd (omega arith)
file_of-set name bytes (file ∷ files) zero within none = rw bytes_eq-same refl
file_of-set name bytes (file ∷ files) (suc place) within none =
    let parts = none_parts _ _ _ none in
    passed _ _ _ parts.0 ∙ file_of-set name bytes files place (omega arith) parts.1

-- the other files are found as before
file_of-set_other : (name bytes other : List ℕ) (files : Files) (place : ℕ) → other ≢ name
    → ((d : List ℕ × List ℕ) → (get_or files place d).0 ≡ name)
    → file_of (set files place (name, bytes)) other ≡ file_of files other
file_of-set_other name bytes other [] place differ there = refl
file_of-set_other name bytes other (file ∷ files) zero differ there =
    let apart = bytes_eq-other other name differ in
    passed _ _ _ apart ∙ sym (passed _ _ _ (ap (bytes_eq other) (there file) ∙ apart))
file_of-set_other name bytes other (file ∷ files) (suc place) differ there =
    ap (cond (bytes_eq other file.0) (Some file.1)) (file_of-set_other name bytes other files place differ there)

-- a name that wasn't there still isn't
file_of-set_none : (name bytes other : List ℕ) (files : Files) (place : ℕ)
    → ((d : List ℕ × List ℕ) → (get_or files place d).0 ≡ name) → file_of files other ≡ None
    → file_of (set files place (name, bytes)) other ≡ None
file_of-set_none name bytes other [] place there none = none
file_of-set_none name bytes other (file ∷ files) zero there none =
    let parts = none_parts _ _ _ none in
    passed _ _ _ (ap (bytes_eq other) (sym (there file)) ∙ parts.0) ∙ parts.1
file_of-set_none name bytes other (file ∷ files) (suc place) there none =
    let parts = none_parts _ _ _ none in
    passed _ _ _ parts.0 ∙ file_of-set_none name bytes other files place there parts.1

-- names that differ still do
NamesDiffer-set : (name bytes : List ℕ) (files : Files) (place : ℕ)
    → ((d : List ℕ × List ℕ) → (get_or files place d).0 ≡ name) → NamesDiffer files
    → NamesDiffer (set files place (name, bytes))
NamesDiffer-set name bytes [] place there differ = tt
NamesDiffer-set name bytes (file ∷ files) zero there differ = (rw (← there file) differ.0, differ.1)
NamesDiffer-set name bytes (file ∷ files) (suc place) there differ = (
  file_of-set_none name bytes file.0 files place there differ.0,
  NamesDiffer-set name bytes files place there differ.1,
)

-- the added file is found, and the others as before
file_of-push : (name bytes other : List ℕ) (files : Files) → file_of files name ≡ None → other ≢ name
    → file_of (files ++ (name, bytes) ∷ []) other ≡ file_of files other
file_of-push name bytes other [] none differ = passed _ _ _ (bytes_eq-other other name differ)
file_of-push name bytes other (file ∷ files) none differ =
    ap (cond (bytes_eq other file.0) (Some file.1))
    (file_of-push name bytes other files (none_parts _ _ _ none).1 differ)

-- an added file whose name wasn't there leaves the names different
NamesDiffer-push : (name bytes : List ℕ) (files : Files) → file_of files name ≡ None → NamesDiffer files
    → NamesDiffer (files ++ (name, bytes) ∷ [])
NamesDiffer-push name bytes [] none differ = (refl, tt)
NamesDiffer-push name bytes (file ∷ files) none differ =
    let parts = none_parts _ _ _ none in
    let apart : file.0 ≢ name = λ e. differ-from_false name file.0 parts.0 (sym e) in
    (file_of-push name bytes file.0 files parts.1 apart ∙ differ.0, NamesDiffer-push name bytes files parts.1 differ.1)

-- a file that gets other bytes in its place
module _ (name bytes : List ℕ) (old seen : Files) (place : ℕ) (before after : List ℕ × List ℕ) (same : seen ≡ old)
    (stands : StandsAt name seen place) (read : before ≡ get_or old place before) (written : after ≡ (before.0, bytes))
  where
    there : (d : List ℕ × List ℕ) → (get_or old place d).0 ≡ name
    there = rw same at stands.there

    after_is : after ≡ (name, bytes)
    after_is = written ∙ ap (λ n. (n, bytes)) (ap (λ file. file.0) read ∙ there before)

    pub WithFile-set : WithFile name bytes old (set old place after)
    WithFile-set = rw after_is (record {
      file = file_of-set name bytes old place (rw same at stands.within) (rw same at stands.before);
      others = λ other differ. file_of-set_other name bytes other old place differ there;
    })

    pub NamesDiffer-put : NamesDiffer old → NamesDiffer (set old place after)
    NamesDiffer-put differ = rw after_is (NamesDiffer-set name bytes old place there differ)

-- a file that is added
module _ (name bytes : List ℕ) (old seen new : Files) (file : List ℕ × List ℕ) (same : seen ≡ old)
    (none : file_of seen name ≡ None) (made : file ≡ (name, bytes)) (pushed : new ≡ old ++ file ∷ []) where
  absent : file_of old name ≡ None
  absent = rw same at none

  new_is : new ≡ old ++ (name, bytes) ∷ []
  new_is = pushed ∙ ap (λ last. old ++ last ∷ []) made

  pub WithFile-push : WithFile name bytes old new
  WithFile-push = rw new_is (record {
    file = file_of-append name old ((name, bytes) ∷ []) absent ∙ rw bytes_eq-same refl;
    others = λ other differ. file_of-push name bytes other old absent differ;
  })

  pub NamesDiffer-added : NamesDiffer old → NamesDiffer new
  NamesDiffer-added differ = rw new_is (NamesDiffer-push name bytes old absent differ)
