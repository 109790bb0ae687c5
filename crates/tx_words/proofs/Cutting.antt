-- Words of generated documents are cut in one way.
use Rattle.std.proofs.Common.{◌≡◌, ◌≢◌, ◌↔◌, ◌<◌, ℕ, zero, suc, ◌+◌, Bool, true, false, not, ◌==◌, List, [], ◌∷◌, ◌++◌}
use Rattle.std.proofs.Common.{map, get_or, length, codes, Option, Some, None, Bor, refl, sym, ap, subst, ◌∙◌, arith}
use Rattle.std.specs.Prelude.{IfSome, MatchOption}
use Rattle.std.specs.List.{AllByRecursion}
use Rattle.std.specs.Str.Pattern.{FindsTextPrefix, StripsPrefix}
use Rattle.std.proofs.lemmas.Str.Pattern.{IsSplitOnceResult, split_after, split_parts, starts_text}
use Rattle.tx_tree.specs.PathSpelling.{is_digit}
use Rattle.tx_words.specs.declared.asked.Source.{Source}
use Rattle.tx_words.specs.declared.asked.Source.TheVariants.{Files, Generated}
use Rattle.tx_words.specs.Words.{Generates, IsNumberIn, IsSource, MayOpen, is_generator, named_file}

abbrev gen : List ℕ
gen = codes "gen:"

abbrev AreDigits : List ℕ → Type 0
AreDigits = AllByRecursion (λ b. is_digit b ≡ true)

-- ---- the beginning

pub begins : (rest : List ℕ) → is_generator (gen ++ rest) ≡ true
begins rest = refl

pub stripped : (word : List ℕ) (r : Option (Bor (List ℕ)))
    → MatchOption r (FindsTextPrefix gen word None) (λ x. StripsPrefix (FindsTextPrefix gen) word x.now)
    → MatchOption r (is_generator word ≡ false) (λ x. word ≡ gen ++ x.now)
stripped word None h = sym (starts_text false gen word h)
stripped word (Some x) h =
    let found = h.1 in
    found.1 ∙ ap (λ z. gen ++ z) (sym h.2)

-- ---- the colon

no_colon : (b : ℕ) → is_digit b ≡ true → b ≢ 58
no_colon b h e = absurd (grind arith)

none_is_colon : (digits : List ℕ) → AreDigits digits → (i : ℕ) → i < length digits → get_or digits i 0 ≢ 58
none_is_colon [] h i lt = absurd (omega arith)
none_is_colon (b ∷ digits) h zero lt = no_colon b h.0
none_is_colon (b ∷ digits) h (suc i) lt = none_is_colon digits h.1 i (omega arith)

-- digits before a colon are the same ones
pub cut_once : (a b x y : List ℕ) → AreDigits a → AreDigits b → a ++ 58 ∷ x ≡ b ++ 58 ∷ y → (a ≡ b) × (x ≡ y)
cut_once [] [] x y h k e = (refl, cc)
cut_once [] (d ∷ b) x y h k e = let same : d ≡ 58 = cc in absurd (no_colon d k.0 same)
cut_once (c ∷ a) [] x y h k e = let same : c ≡ 58 = cc in absurd (no_colon c h.0 same)
cut_once (c ∷ a) (d ∷ b) x y h k e =
    let head : c ≡ d = cc in
    let tail : a ++ 58 ∷ x ≡ b ++ 58 ∷ y = cc in
    let rest = cut_once a b x y h.1 k.1 tail in
    (ap (λ z. z ∷ a) head ∙ ap (λ z. d ∷ z) rest.0, rest.1)

behind : (x y : List ℕ) → gen ++ x ≡ gen ++ y → x ≡ y
behind x y e = cc

-- what is found at the first colon
abbrev Found : List ℕ → Option (Bor (List ℕ) × Bor (List ℕ)) → Type 0
Found rest r =
    (number count : ℕ) → Generates (gen ++ rest) number count
    → MatchOption r ⊥ (λ both. IsNumberIn 0 2147483647 both.0.now number × IsNumberIn 1 60000 both.1.now count)

pub found : (rest : List ℕ) (r : Option (Bor (List ℕ) × Bor (List ℕ))) → IsSplitOnceResult 58 rest r → Found rest r
found rest r h number count g =
    let first = g.numbered in
    let second = g.counted in
    let cut = behind rest (g.digits ++ 58 ∷ g.others) g.parts in
    go r (split_after 58 rest g.digits g.others r h (omega arith) cut (none_is_colon g.digits first.0.each))
  where
    go : (s : Option (Bor (List ℕ) × Bor (List ℕ)))
        → MatchOption s ⊥ (λ x. (x.0.now ≡ g.digits) × (x.1.now ≡ g.others))
        → MatchOption s ⊥ (λ x. IsNumberIn 0 2147483647 x.0.now number × IsNumberIn 1 60000 x.1.now count)
    go None k = k
    go (Some x) k = (
      subst (λ ds. IsNumberIn 0 2147483647 ds number) (sym k.0) g.numbered,
      subst (λ ds. IsNumberIn 1 60000 ds count) (sym k.1) g.counted,
    )

pub parts_none : (rest : List ℕ) (r : Option (Bor (List ℕ) × Bor (List ℕ))) → IsSplitOnceResult 58 rest r → r ≡ None
    → (number count : ℕ) → Generates (gen ++ rest) number count → ⊥
parts_none rest r h e number count g =
    subst (λ s. MatchOption s ⊥ (λ x. IsNumberIn 0 2147483647 x.0.now number × IsNumberIn 1 60000 x.1.now count)) e
    (found rest r h number count g)

pub parts_some : (rest : List ℕ) (r : Option (Bor (List ℕ) × Bor (List ℕ))) → IsSplitOnceResult 58 rest r
    → IfSome r (λ both. (number count : ℕ) → (Generates (gen ++ rest) number count
    ↔ (IsNumberIn 0 2147483647 both.0.now number × IsNumberIn 1 60000 both.1.now count)))
parts_some rest None h = tt
parts_some rest (Some both) h = λ number count. (
  λ g. found rest (Some both) h number count g,
  λ k. record {
    digits = both.0.now;
    others = both.1.now;
    parts = ap (λ z. gen ++ z) (split_parts 58 rest (Some both) h (omega arith)).0;
    numbered = k.0;
    counted = k.1;
  },
)

-- ---- styles

no_length : (n m : ℕ) → m ≡ n + 1 → (m == 0) ≡ false
no_length n m e = grind arith

pub some_styles : (values : List (Bor (List ℕ))) (styles : List (List ℕ)) (empty : Bool)
    → styles ≡ map (λ v. v.now) values
    → empty ≡ (length values == 0) → not empty ≡ true → styles ≢ []
some_styles [] styles empty e k t = let other = subst (λ b. not b ≡ true) k t in absurd cc
some_styles (v ∷ values) styles empty e k t =
    λ none. let two : [] ≡ v.now ∷ map (λ w. w.now) values = sym none ∙ e in absurd cc

pub without_styles : (values : List (Bor (List ℕ))) (styles : List (List ℕ)) (empty : Bool)
    → styles ≡ map (λ v. v.now) values → empty ≡ (length values == 0) → not empty ≡ false → styles ≡ []
without_styles [] styles empty e k t = e
without_styles (v ∷ values) styles empty e k t =
    let some = k ∙ no_length (length values) (length (v ∷ values)) (omega arith) in
    let other = subst (λ b. not b ≡ false) some t in
    absurd cc

-- ---- what a word asks for

pub no_generator : (word : List ℕ) (number count : ℕ) → is_generator word ≡ false → Generates word number count → ⊥
no_generator word number count e g =
    let other = subst (λ w. is_generator w ≡ false) g.parts e in absurd cc

-- files that may not be opened
pub not_opened : (word : List ℕ) (styles : List (List ℕ)) (source : Source) → is_generator word ≡ false
    → (MayOpen (map named_file (word ∷ styles)) → ⊥) → IsSource (Some word) styles source → ⊥
not_opened word styles (Files files) e closed h = closed (subst MayOpen h.1 h.2)
not_opened word styles (Generated number count) e closed h = no_generator word number count e h.0

-- styles after a generated document
pub no_styles : (word rest : List ℕ) (styles : List (List ℕ)) (source : Source) → word ≡ gen ++ rest → styles ≢ []
    → IsSource (Some word) styles source → ⊥
no_styles word rest styles (Files files) e some h =
    let other = subst (λ w. is_generator w ≡ false) e h.0 in absurd cc
no_styles word rest styles (Generated number count) e some h = some h.1

-- no numbers after `gen:`
pub no_numbers : (word rest : List ℕ) (styles : List (List ℕ)) (source : Source) → word ≡ gen ++ rest
    → ((number count : ℕ) → Generates (gen ++ rest) number count → ⊥) → IsSource (Some word) styles source → ⊥
no_numbers word rest styles (Files files) e none h =
    let other = subst (λ w. is_generator w ≡ false) e h.0 in absurd cc
no_numbers word rest styles (Generated number count) e none h =
    none number count (subst (λ w. Generates w number count) e h.0)

pub is_generated : (word rest : List ℕ) (styles : List (List ℕ)) (number count : ℕ) → word ≡ gen ++ rest → styles ≡ []
    → Generates (gen ++ rest) number count → IsSource (Some word) styles (Generated number count)
is_generated word rest styles number count e none g = (subst (λ w. Generates w number count) (sym e) g, none)

-- numbers are one
pub number_once : (least most : ℕ) (digits : List ℕ) (n m : ℕ) → IsNumberIn least most digits n
    → IsNumberIn least most digits m → n ≡ m
number_once least most digits n m a b =
    let x = a.0 in
    let y = b.0 in
    x.value ∙ sym y.value

pub generates_once : (word : List ℕ) (n c m d : ℕ) → Generates word n c → Generates word m d → (n ≡ m) × (c ≡ d)
generates_once word n c m d g h =
    let a = g.numbered in
    let b = h.numbered in
    let same = behind (g.digits ++ 58 ∷ g.others) (h.digits ++ 58 ∷ h.others) (sym g.parts ∙ h.parts) in
    let cut = cut_once g.digits h.digits g.others h.others a.0.each b.0.each same in (
      number_once 0 2147483647 h.digits n m (subst (λ ds. IsNumberIn 0 2147483647 ds n) cut.0 g.numbered) h.numbered,
      number_once 1 60000 h.others c d (subst (λ ds. IsNumberIn 1 60000 ds c) cut.1 g.counted) h.counted,
    )
