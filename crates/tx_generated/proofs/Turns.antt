-- One more turn of a loop.
use Rattle.std.proofs.Common.{◌≡◌, ℕ, zero, suc, ◌+◌, ◌-◌, ◌*◌, ◌/◌, ◌≤◌, List, [], ◌∷◌, ◌++◌, refl, sym, ap}
use Rattle.std.proofs.Common.{◌∙◌, add-one, append_assoc, arith}
use Rattle.std.specs.Prelude.{codes, flat_map}
use Rattle.std.specs.Fn.{iterate}
use Rattle.std.specs.List.{range_with_len}
use Rattle.std.proofs.lemmas.List.{append-nil}
use Rattle.std.proofs.lemmas.List.Concat.{flat_map-append}
use Rattle.std.proofs.lemmas.List.Folds.{flat_map-map}
use Rattle.tx_generated.specs.Document.{document_text, drawn_number, next, more_words, generated_paragraph, word}

-- ---- lists of numbers

range_more : (a n : ℕ) → range_with_len a (suc n) ≡ range_with_len a n ++ (a + n) ∷ []
range_more a zero = ap (λ z. z ∷ []) (omega arith)
range_more a (suc n) =
    let e : a + 1 + n ≡ a + suc n = omega arith in
    ap (λ z. a ∷ z) (range_more (a + 1) n) ∙ ap (λ z. a ∷ (range_with_len (a + 1) n ++ z ∷ [])) e

-- the numbers from a on, up to i
all_more : (f : ℕ → List ℕ) (a n i : ℕ) → a + n ≡ i
    → flat_map f (range_with_len a (n + 1)) ≡ flat_map f (range_with_len a n) ++ f i
all_more f a n i e =
    ap (λ m. flat_map f (range_with_len a m)) (add-one n)
    ∙ ap (flat_map f) (range_more a n) ∙ flat_map-append f (range_with_len a n) ((a + n) ∷ [])
    ∙ ap (λ z. flat_map f (range_with_len a n) ++ z) (append-nil (f (a + n)))
    ∙ ap (λ z. flat_map f (range_with_len a n) ++ f z) e

once_more : (h : ℕ → ℕ) (n x : ℕ) → iterate h (suc n) x ≡ h (iterate h n x)
once_more h zero x = refl
once_more h (suc n) x = once_more h n (h x)

-- ---- words

abbrev spaced : ℕ → ℕ → ℕ → List ℕ
spaced a step j = codes " " ++ word (a + j * step)

pub next_word : (a step j : ℕ) (old before done w : List ℕ) → 1 ≤ j
    → before ≡ old ++ flat_map (spaced a step) (range_with_len 1 (j - 1)) → done ≡ before ++ (32 ∷ (w ++ []))
    → w ≡ word (a + j * step) → done ≡ old ++ flat_map (spaced a step) (range_with_len 1 (j + 1 - 1))
next_word a step j old before done w h e f g =
    let one : j + 1 - 1 ≡ j - 1 + 1 = omega arith in
    let last : 1 + (j - 1) ≡ j = omega arith in
    let so_far = flat_map (spaced a step) (range_with_len 1 (j - 1)) in
    f ∙ ap (λ z. before ++ 32 ∷ z) (append-nil w ∙ g) ∙ ap (λ z. z ++ spaced a step j) e
    ∙ append_assoc old so_far (spaced a step j)
    ∙ ap (λ z. old ++ z) (sym (all_more (spaced a step) 1 (j - 1) j last))
    ∙ ap (λ n. old ++ flat_map (spaced a step) (range_with_len 1 n)) (sym one)

pub all_words : (a step j : ℕ) (old done : List ℕ) → j ≡ 6
    → done ≡ old ++ flat_map (spaced a step) (range_with_len 1 (j - 1)) → done ≡ old ++ more_words a step
all_words a step j old done e h = h ∙ ap (λ n. old ++ flat_map (spaced a step) (range_with_len 1 (n - 1))) e

-- ---- paragraphs

abbrev apart : ℕ → ℕ → List ℕ
apart number i = 10 ∷ 10 ∷ generated_paragraph (drawn_number number i)

abbrev start : List ℕ
start = codes "<assign|v|tree>"

pub next_number : (number i x y : ℕ) → x ≡ iterate next i number → y ≡ next x → y ≡ iterate next (i + 1) number
next_number number i x y e f =
    f ∙ ap next e ∙ sym (once_more next i number) ∙ ap (λ n. iterate next n number) (sym (add-one i))

pub next_paragraph : (number i x : ℕ) (before between done : List ℕ) → x ≡ iterate next (i + 1) number
    → before ≡ start ++ flat_map (apart number) (range_with_len 1 i) → between ≡ before ++ 10 ∷ 10 ∷ []
    → done ≡ between ++ generated_paragraph (x / 65536)
    → done ≡ start ++ flat_map (apart number) (range_with_len 1 (i + 1))
next_paragraph number i x before between done n e f g =
    let last : 1 + i ≡ i + 1 = omega arith in
    let so_far = flat_map (apart number) (range_with_len 1 i) in
    g ∙ ap (λ z. z ++ generated_paragraph (x / 65536)) f
    ∙ append_assoc before (10 ∷ 10 ∷ []) (generated_paragraph (x / 65536))
    ∙ ap (λ z. before ++ 10 ∷ 10 ∷ generated_paragraph (z / 65536)) n
    ∙ ap (λ z. z ++ apart number (i + 1)) e
    ∙ append_assoc start so_far (apart number (i + 1))
    ∙ ap (λ z. start ++ z) (sym (all_more (apart number) 1 i (i + 1) last))

pub all_paragraphs : (number i count : ℕ) (done : List ℕ) → i ≡ count
    → done ≡ start ++ flat_map (apart number) (range_with_len 1 i) → done ≡ document_text number count
all_paragraphs number i count done e h =
    h ∙ ap (λ n. start ++ flat_map (apart number) (range_with_len 1 n)) e
    ∙ ap (λ z. start ++ z)
    (sym (flat_map-map (λ text. 10 ∷ 10 ∷ text) (λ k. generated_paragraph (drawn_number number k))
    (range_with_len 1 count)))
