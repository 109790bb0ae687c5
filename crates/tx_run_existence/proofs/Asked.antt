-- Words ask for something, or are faulty.
use Rattle.std.proofs.Common.{◌≡◌, ◌≢◌, ◌⊎◌, ℕ, true, List, [], ◌∷◌, ◌++◌, map, drop, length}
use Rattle.std.proofs.Common.{inl, inr, codes, Option, Some, None, refl, sym, ap, ap₂, subst, ◌∙◌, arith}
use Rattle.std.specs.List.{AllByRecursion}
use Rattle.std.proofs.lemmas.Bool.{cases_lt, cases_eq, cases_Bool, true≢false}
use Rattle.std.proofs.lemmas.Bool.Decides.{Decides-eqb}
use Rattle.std.proofs.lemmas.Slice.Eq.{starts_is}
use Rattle.clap.specs.Words.{Row, first_of, matches_of, takes}
use Rattle.tx_tree.specs.PathSpelling.{is_digit, number_after}
use Rattle.tx_tree.specs.declared.TheConstants.{MOST_DIGITS, MOST_NUMBER}
use Rattle.tx_words.specs.declared.TheConstants.{MOST_FILES}
use Rattle.tx_words.specs.declared.asked.Source.{Source}
use Rattle.tx_words.specs.declared.asked.Source.TheVariants.{Files, Generated}
use Rattle.tx_words.specs.Words.{Ask, AreFaulty, IsNumberIn, IsSize, IsSource, Generates, is_generator, tmx}
use Rattle.tx_words.specs.Words.{Named, named_file, HaveNames, AreNamedApart, MayOpen, styles_in}
use Rattle.tx_words.proofs.Cutting.{not_opened, no_styles, no_numbers, is_generated}

abbrev Decided : Type 0 → Type 0
Decided P = P ⊎ (P → ⊥)

-- ---- numbers

abbrev AreDigits : List ℕ → Type 0
AreDigits = AllByRecursion (λ b. is_digit b ≡ true)

are_digits : (bs : List ℕ) → Decided (AreDigits bs)
are_digits [] = inl tt
are_digits (b ∷ bs) = elim (cases_Bool (is_digit b)) [
  | inl is ↦ elim (are_digits bs) [
    | inl rest ↦ inl (is, rest)
    | inr none ↦ inr (λ h. none h.1)
  ]
  | inr none ↦ inr (λ h. true≢false (sym h.0 ∙ none))
]

abbrev HasNumber : (least most : ℕ) → List ℕ → Type 0
HasNumber least most digits =
    ((n : ℕ) × IsNumberIn least most digits n) ⊎ ((n : ℕ) → IsNumberIn least most digits n → ⊥)

a_number : (least most : ℕ) (digits : List ℕ) → HasNumber least most digits
a_number least most digits = elim (are_digits digits) [
  | inr none ↦ inr (λ n h. none h.0.each)
  | inl each ↦ elim (cases_lt (length digits) 1) [
    | inl few ↦ inr (λ n h. let some = h.0.some in omega arith)
    | inr some ↦ elim (cases_lt MOST_DIGITS (length digits)) [
      | inl long ↦ inr (λ n h. let short = h.0.short in omega arith)
      | inr short ↦ elim (cases_lt MOST_NUMBER (number_after 0 digits)) [
        | inl big ↦ inr (λ n h. let value = h.0.value in let fits = h.0.fits in omega arith)
        | inr fits ↦ elim (cases_lt (number_after 0 digits) least) [
          | inl less ↦ inr (λ n h. let value = h.0.value in let from = h.1 in omega arith)
          | inr from ↦ elim (cases_lt most (number_after 0 digits)) [
            | inl more ↦ inr (λ n h. let value = h.0.value in let to = h.2 in omega arith)
            | inr to ↦ inl (
              number_after 0 digits,
              (
                record {
                  each = each;
                  some = some;
                  short = short;
                  value = refl;
                  fits = fits;
                },
                from,
                to,
              ),
            )
          ]
        ]
      ]
    ]
  ]
]

a_size : (usual least most : ℕ) (value : Option (List ℕ))
    → ((n : ℕ) × IsSize usual least most value n) ⊎ ((n : ℕ) → IsSize usual least most value n → ⊥)
a_size usual least most None = inl (usual, refl)
a_size usual least most (Some digits) = a_number least most digits

-- ---- files

same_or_not : (xs ys : List ℕ) → Decided (xs ≡ ys)
same_or_not [] [] = inl refl
same_or_not [] (y ∷ ys) = inr (λ e. cc)
same_or_not (x ∷ xs) [] = inr (λ e. cc)
same_or_not (x ∷ xs) (y ∷ ys) = elim (cases_eq x y) [
  | inl e ↦ elim (same_or_not xs ys) [
    | inl f ↦ inl (ap₂ (λ z zs. z ∷ zs) e f)
    | inr n ↦ inr (λ g. let rest : xs ≡ ys = cc in n rest)
  ]
  | inr n ↦ inr (λ g. let first : x ≡ y = cc in n first)
]

have_names : (fs : List Named) → Decided (HaveNames fs)
have_names [] = inl tt
have_names (f ∷ fs) = elim (same_or_not f.name []) [
  | inl e ↦ inr (λ h. h.0 e)
  | inr some ↦ elim (have_names fs) [
    | inl rest ↦ inl (some, rest)
    | inr none ↦ inr (λ h. none h.1)
  ]
]

is_new : (name : List ℕ) (fs : List Named) → Decided (AllByRecursion (λ other. other.name ≢ name) fs)
is_new name [] = inl tt
is_new name (f ∷ fs) = elim (same_or_not f.name name) [
  | inl e ↦ inr (λ h. h.0 e)
  | inr other ↦ elim (is_new name fs) [
    | inl rest ↦ inl (other, rest)
    | inr none ↦ inr (λ h. none h.1)
  ]
]

are_apart : (fs : List Named) → Decided (AreNamedApart fs)
are_apart [] = inl tt
are_apart (f ∷ fs) = elim (is_new f.name fs) [
  | inl new ↦ elim (are_apart fs) [
    | inl rest ↦ inl (new, rest)
    | inr none ↦ inr (λ h. none h.1)
  ]
  | inr none ↦ inr (λ h. none h.0)
]

may_open : (fs : List Named) → Decided (MayOpen fs)
may_open fs = elim (cases_lt MOST_FILES (length fs)) [
  | inl many ↦ inr (λ h. let few = h.few in omega arith)
  | inr few ↦ elim (have_names fs) [
    | inl names ↦ elim (are_apart fs) [
      | inl apart ↦ inl (record { few = few; have_names = names; differ = apart })
      | inr none ↦ inr (λ h. none h.differ)
    ]
    | inr none ↦ inr (λ h. none h.have_names)
  ]
]

-- ---- generated documents

abbrev NoColon : List ℕ → Type 0
NoColon = AllByRecursion (λ b. b ≢ 58)

no_colon : (b : ℕ) → is_digit b ≡ true → b ≢ 58
no_colon b h e = absurd (grind arith)

digits_only : (bs : List ℕ) → AreDigits bs → NoColon bs
digits_only [] h = tt
digits_only (b ∷ bs) h = (no_colon b h.0, digits_only bs h.1)

record IsCut (rest before after : List ℕ) : Type 0 where
  parts : rest ≡ before ++ 58 ∷ after
  none : NoColon before

first_colon : (rest : List ℕ) → ((a b : List ℕ) × IsCut rest a b) ⊎ NoColon rest
first_colon [] = inr tt
first_colon (x ∷ rest) = elim (cases_eq x 58) [
  | inl colon ↦ inl ([], rest, record { parts = ap (λ z. z ∷ rest) colon; none = tt })
  | inr other ↦ elim (first_colon rest) [
    | inl cut ↦ inl (
      x ∷ cut.0,
      cut.1,
      record {
        parts = ap (λ z. x ∷ z) cut.2.parts;
        none = (other, cut.2.none);
      },
    )
    | inr none ↦ inr (other, none)
  ]
]

no_cut : (a b : List ℕ) → NoColon (a ++ 58 ∷ b) → ⊥
no_cut [] b h = h.0 refl
no_cut (x ∷ a) b h = no_cut a b h.1

cut_once : (a b x y : List ℕ) → NoColon a → NoColon b → a ++ 58 ∷ x ≡ b ++ 58 ∷ y → (a ≡ b) × (x ≡ y)
cut_once [] [] x y h k e = (refl, cc)
cut_once [] (d ∷ b) x y h k e = let same : d ≡ 58 = cc in absurd (k.0 same)
cut_once (c ∷ a) [] x y h k e = let same : c ≡ 58 = cc in absurd (h.0 same)
cut_once (c ∷ a) (d ∷ b) x y h k e =
    let head : c ≡ d = cc in
    let tail : a ++ 58 ∷ x ≡ b ++ 58 ∷ y = cc in
    let rest = cut_once a b x y h.1 k.1 tail in
    (ap (λ z. z ∷ a) head ∙ ap (λ z. d ∷ z) rest.0, rest.1)

abbrev gen : List ℕ
gen = codes "gen:"

rest_once : (x y : List ℕ) → gen ++ x ≡ gen ++ y → x ≡ y
rest_once x y e = cc

abbrev MayGenerate : List ℕ → Type 0
MayGenerate rest =
    ((number count : ℕ) × Generates (gen ++ rest) number count)
    ⊎ ((number count : ℕ) → Generates (gen ++ rest) number count → ⊥)

-- the digits and the count are those at the first colon
at_colon : (rest a b : List ℕ) (n c : ℕ) → IsCut rest a b → Generates (gen ++ rest) n c
    → IsNumberIn 0 2147483647 a n × IsNumberIn 1 60000 b c
at_colon rest a b n c cut g =
    let first = g.numbered in
    let parts = rest_once rest (g.digits ++ 58 ∷ g.others) g.parts in
    let same = cut_once g.digits a g.others b (digits_only g.digits first.0.each) cut.none (sym parts ∙ cut.parts) in (
      subst (λ ds. IsNumberIn 0 2147483647 ds n) same.0 g.numbered,
      subst (λ ds. IsNumberIn 1 60000 ds c) same.1 g.counted,
    )

may_generate : (rest : List ℕ) → MayGenerate rest
may_generate rest = elim (first_colon rest) [
  | inr none ↦ inr (λ n c g. let parts = rest_once rest (g.digits ++ 58 ∷ g.others) g.parts in
      no_cut g.digits g.others (subst NoColon parts none))
  | inl cut ↦ elim (a_number 0 2147483647 cut.0) [
    | inr none ↦ inr (λ n c g. none n (at_colon rest cut.0 cut.1 n c cut.2 g).0)
    | inl number ↦ elim (a_number 1 60000 cut.1) [
      | inr none ↦ inr (λ n c g. none c (at_colon rest cut.0 cut.1 n c cut.2 g).1)
      | inl count ↦ inl (
        number.0,
        count.0,
        record {
          digits = cut.0;
          others = cut.1;
          parts = ap (λ z. gen ++ z) cut.2.parts;
          numbered = number.1;
          counted = count.1;
        },
      )
    ]
  ]
]

-- ---- all words

abbrev HasSource : Option (List ℕ) → List (List ℕ) → Type 0
HasSource first styles = ((s : Source) × IsSource first styles s) ⊎ ((s : Source) → IsSource first styles s → ⊥)

by_generator : (word rest : List ℕ) (styles : List (List ℕ)) → word ≡ gen ++ rest → HasSource (Some word) styles
by_generator word rest (style ∷ styles) e = inr (λ s h. no_styles word rest (style ∷ styles) s e (λ f. cc) h)
by_generator word rest [] e = elim (may_generate rest) [
  | inl g ↦ inl (Generated g.0 g.1, is_generated word rest [] g.0 g.1 e refl g.2)
  | inr none ↦ inr (λ s h. no_numbers word rest [] s e none h)
]

a_source : (first : Option (List ℕ)) (styles : List (List ℕ)) → HasSource first styles
a_source None styles = inr (λ s h. h)
a_source (Some word) styles = elim (cases_Bool (is_generator word)) [
  | inl is ↦ by_generator word (drop 4 word) styles ((starts_is Decides-eqb word gen (is_generator word) refl).0 is)
  | inr file ↦ elim (may_open (map named_file (word ∷ styles))) [
    | inl may ↦ inl (Files (map named_file (word ∷ styles)), (file, refl, may))
    | inr closed ↦ inr (λ s h. not_opened word styles s file closed h)
  ]
]

pub asked : (words : List (List ℕ)) → ((w h : ℕ) × (s : Source) × Ask words w h s) ⊎ AreFaulty words
asked words =
    let rows : List Row = matches_of tmx words in
    elim (cases_Bool (takes tmx words)) [
      | inr refused ↦ inr (λ w h s a. true≢false (sym a.taken ∙ refused))
      | inl taken ↦ elim (a_size 80 20 500 (first_of (codes "width") rows)) [
        | inr none ↦ inr (λ w h s a. none w a.found.wide)
        | inl wide ↦ elim (a_size 24 5 500 (first_of (codes "height") rows)) [
          | inr none ↦ inr (λ w h s a. none h a.found.high)
          | inl high ↦ elim (a_source (first_of (codes "FILE") rows) (styles_in rows)) [
            | inr none ↦ inr (λ w h s a. none s a.found.each)
            | inl source ↦ inl (
              wide.0,
              high.0,
              source.0,
              record {
                taken = taken;
                found = record { wide = wide.1; high = high.1; each = source.1 };
              },
            )
          ]
        ]
      ]
    ]
