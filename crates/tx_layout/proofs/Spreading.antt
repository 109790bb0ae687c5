-- A spread line takes the cells that are put in, and keeps its clusters.
use Rattle.std.proofs.Common.{◌≡◌, ℕ, zero, suc, ◌+◌, ◌-◌, ◌*◌, ◌/◌, ◌%◌, ◌≤◌, ◌<◌, List, [], ◌∷◌, ◌++◌, length}
use Rattle.std.proofs.Common.{Bool, true, false, cond, refl, sym, ap, ◌∙◌, arith, filter}
use Rattle.std.specs.Prelude.{min}
use Rattle.std.proofs.Math.Nat.{div-add-mod, mod-lt, mul-suc}
use Rattle.std.proofs.lemmas.List.Sums.{sum_by-cons, sum_by-append}
use Rattle.std.proofs.lemmas.List.Elements.{filter-append}
use Rattle.tx_items.specs.declared.drawing.Item.{Item}
use Rattle.tx_items.specs.declared.drawing.Item.TheVariants.{Gap}
use Rattle.tx_items.specs.Cells.{cells_across, item_cells}
use Rattle.tx_layout.specs.Words.{is_blank_item}
use Rattle.tx_layout.specs.Spread.{one_if_blank, spaces_among, gap_of, spread_by, spread}

-- ---- cells

gap_takes : (n : ℕ) → cells_across (gap_of n) ≡ n
gap_takes zero = refl
gap_takes (suc n) = omega (arith, sum_by-cons item_cells (Gap (suc n)) [])

-- what the gaps take
abbrev extra : ℕ → ℕ → ℕ → ℕ
extra each more k = each * k + min more k

by_blank : (b : Bool) (each more : ℕ) (x : Item) (xs : List Item) → is_blank_item x ≡ b
    → cells_across (spread_by each more xs) ≡ cells_across xs + extra each more (spaces_among xs)
    → cells_across (spread_by each (more - 1) xs) ≡ cells_across xs + extra each (more - 1) (spaces_among xs)
    → cells_across (spread_by each more (x ∷ xs)) ≡ cells_across (x ∷ xs) + extra each more (spaces_among (x ∷ xs))
by_blank true each more x xs e h k =
    let rest : List Item = spread_by each (more - 1) xs in
    let gap : List Item = gap_of (each + min more 1) in
    let first = sum_by-cons item_cells x (gap ++ rest) in
    let both = sum_by-append item_cells gap rest in
    let own = gap_takes (each + min more 1) in
    let plain = sum_by-cons item_cells x xs in
    let count : spaces_among (x ∷ xs) ≡ 1 + spaces_among xs =
    sum_by-cons one_if_blank x xs ∙ ap (λ c. cond c 1 0 + spaces_among xs) e in
    let once : each * suc (spaces_among xs) ≡ each * spaces_among xs + each = mul-suc each (spaces_among xs) in
    let same : suc (spaces_among xs) ≡ spaces_among (x ∷ xs) = omega (arith, count) in
    let times : each * spaces_among (x ∷ xs) ≡ each * spaces_among xs + each = ap (λ n. each * n) (sym same) ∙ once in
    ap (λ c. cells_across (cond c (x ∷ (gap ++ rest)) (x ∷ spread_by each more xs))) e
    ∙ omega (arith, first, both, own, plain, count, times, k)
by_blank false each more x xs e h k =
    let gap : List Item = gap_of (each + min more 1) in
    let rest : List Item = spread_by each (more - 1) xs in
    let first = sum_by-cons item_cells x (spread_by each more xs) in
    let plain = sum_by-cons item_cells x xs in
    let counted : spaces_among (x ∷ xs) ≡ 0 + spaces_among xs =
    sum_by-cons one_if_blank x xs ∙ ap (λ c. cond c 1 0 + spaces_among xs) e in
    let count : spaces_among (x ∷ xs) ≡ spaces_among xs = omega (arith, counted) in
    let times : each * spaces_among (x ∷ xs) ≡ each * spaces_among xs = ap (λ n. each * n) count in
    ap (λ c. cells_across (cond c (x ∷ (gap ++ rest)) (x ∷ spread_by each more xs))) e
    ∙ omega (arith, first, plain, count, times, h)

spread_takes : (each more : ℕ) (xs : List Item)
    → cells_across (spread_by each more xs) ≡ cells_across xs + extra each more (spaces_among xs)
spread_takes each more [] = omega arith
spread_takes each more (x ∷ xs) =
    by_blank (is_blank_item x) each more x xs refl (spread_takes each more xs) (spread_takes each (more - 1) xs)

all_put : (free : ℕ) (xs : List Item) → 0 < spaces_among xs
    → cells_across (spread_by (free / spaces_among xs) (free % spaces_among xs) xs) ≡ cells_across xs + free
all_put free xs h =
    let k : ℕ = spaces_among xs in
    let all : cells_across (spread_by (free / k) (free % k) xs)
    ≡ cells_across xs + (free / k * k + min (free % k) k) = spread_takes (free / k) (free % k) xs in
    let less : free % k < k = mod-lt free h in
    let whole : k * (free / k) + free % k ≡ free = div-add-mod free k in
    let turned : k * (free / k) ≡ free / k * k = omega arith in
    omega (arith, all, less, whole, turned)

pub fills : (free : ℕ) (xs : List Item) → 0 < spaces_among xs → cells_across (spread free xs) ≡ cells_across xs + free
fills zero xs h = omega arith
fills (suc free) xs h = all_put (suc free) xs h

none_put : (each more : ℕ) (xs : List Item) → spaces_among xs ≡ 0
    → cells_across (spread_by each more xs) ≡ cells_across xs
none_put each more xs h =
    let all = spread_takes each more xs in
    let none : each * spaces_among xs ≡ each * 0 = ap (λ k. each * k) h in
    omega (arith, all, none, h)

pub takes_most : (free : ℕ) (xs : List Item) → cells_across (spread free xs) ≤ cells_across xs + free
takes_most zero xs = omega arith
takes_most (suc free) xs = by (spaces_among xs) refl
  where
    by : (k : ℕ) → spaces_among xs ≡ k → cells_across (spread (suc free) xs) ≤ cells_across xs + suc free
    by zero e = let same = none_put (suc free / spaces_among xs) (suc free % spaces_among xs) xs e in omega (arith, same)
    by (suc k) e = let some : 0 < spaces_among xs = omega (arith, e) in
        let same = all_put (suc free) xs some in omega (arith, same)

-- ---- items

-- a test that no gap passes
module _ (q : Item → Bool) (dry : (n : ℕ) → q (Gap n) ≡ false) where
  gap_dry : (n : ℕ) → filter q (gap_of n) ≡ []
  gap_dry zero = refl
  gap_dry (suc n) = ap (λ b. cond b (Gap (suc n) ∷ []) []) (dry (suc n))

  kept_by : (b : Bool) (each more : ℕ) (x : Item) (xs : List Item) → is_blank_item x ≡ b
      → filter q (spread_by each more xs) ≡ filter q xs → filter q (spread_by each (more - 1) xs) ≡ filter q xs
      → filter q (spread_by each more (x ∷ xs)) ≡ filter q (x ∷ xs)
  kept_by true each more x xs e h k =
      let rest : List Item = spread_by each (more - 1) xs in
      let gap : List Item = gap_of (each + min more 1) in
      let same : filter q (gap ++ rest) ≡ filter q xs =
      filter-append q gap rest ∙ ap (λ l. l ++ filter q rest) (gap_dry (each + min more 1)) ∙ k in
      ap (λ c. filter q (cond c (x ∷ (gap ++ rest)) (x ∷ spread_by each more xs))) e
      ∙ ap (λ l. cond (q x) (x ∷ l) l) same
  kept_by false each more x xs e h k =
      let rest : List Item = spread_by each (more - 1) xs in
      let gap : List Item = gap_of (each + min more 1) in
      ap (λ c. filter q (cond c (x ∷ (gap ++ rest)) (x ∷ spread_by each more xs))) e
      ∙ ap (λ l. cond (q x) (x ∷ l) l) h

  all_kept : (each more : ℕ) (xs : List Item) → filter q (spread_by each more xs) ≡ filter q xs
  all_kept each more [] = refl
  all_kept each more (x ∷ xs) =
      kept_by (is_blank_item x) each more x xs refl (all_kept each more xs) (all_kept each (more - 1) xs)

  pub spread_keeps : (free : ℕ) (xs : List Item) → filter q (spread free xs) ≡ filter q xs
  spread_keeps zero xs = refl
  spread_keeps (suc free) xs = all_kept (suc free / spaces_among xs) (suc free % spaces_among xs) xs

-- ---- without a space

plain_by : (b : Bool) (each more : ℕ) (x : Item) (xs : List Item) → is_blank_item x ≡ b → spaces_among (x ∷ xs) ≡ 0
    → (spaces_among xs ≡ 0 → spread_by each more xs ≡ xs) → spread_by each more (x ∷ xs) ≡ x ∷ xs
plain_by true each more x xs e none h =
    let count : spaces_among (x ∷ xs) ≡ 1 + spaces_among xs =
    sum_by-cons one_if_blank x xs ∙ ap (λ c. cond c 1 0 + spaces_among xs) e in
    absurd (omega (arith, count, none))
plain_by false each more x xs e none h =
    let count : spaces_among (x ∷ xs) ≡ 0 + spaces_among xs =
    sum_by-cons one_if_blank x xs ∙ ap (λ c. cond c 1 0 + spaces_among xs) e in
    let rest : spread_by each more xs ≡ xs = h (omega (arith, count, none)) in
    ap (λ c. cond c (x ∷ (gap_of (each + min more 1) ++ spread_by each (more - 1) xs)) (x ∷ spread_by each more xs)) e
    ∙ ap (λ l. x ∷ l) rest

pub plain_stays : (each more : ℕ) (xs : List Item) → spaces_among xs ≡ 0 → spread_by each more xs ≡ xs
plain_stays each more [] none = refl
plain_stays each more (x ∷ xs) none =
    plain_by (is_blank_item x) each more x xs refl none (plain_stays each more xs)

pub spread_is : (free : ℕ) (xs : List Item) → 0 < free
    → spread_by (free / spaces_among xs) (free % spaces_among xs) xs ≡ spread free xs
spread_is zero xs h = absurd (omega arith)
spread_is (suc free) xs h = refl

pub spread_plain : (free : ℕ) (xs : List Item) → 0 < free → spaces_among xs ≡ 0 → spread_by 0 0 xs ≡ spread free xs
spread_plain free xs h none =
    plain_stays 0 0 xs none ∙ sym (plain_stays (free / spaces_among xs) (free % spaces_among xs) xs none)
    ∙ spread_is free xs h

-- ---- one item more

pub spread_step : (each more : ℕ) (x : Item) (xs : List Item) → is_blank_item x ≡ true
    → spread_by each more (x ∷ xs) ≡ (x ∷ gap_of (each + min more 1)) ++ spread_by each (more - 1) xs
spread_step each more x xs e =
    ap (λ c. cond c (x ∷ (gap_of (each + min more 1) ++ spread_by each (more - 1) xs)) (x ∷ spread_by each more xs)) e

pub plain_step : (each more : ℕ) (x : Item) (xs : List Item) → is_blank_item x ≡ false
    → spread_by each more (x ∷ xs) ≡ (x ∷ gap_of 0) ++ spread_by each more xs
plain_step each more x xs e =
    ap (λ c. cond c (x ∷ (gap_of (each + min more 1) ++ spread_by each (more - 1) xs)) (x ∷ spread_by each more xs)) e

-- ---- how many spaces

count_by : (b : Bool) (x : Item) (xs : List Item) → is_blank_item x ≡ b
    → spaces_among xs ≡ length (filter is_blank_item xs) → spaces_among (x ∷ xs) ≡ length (filter is_blank_item (x ∷ xs))
count_by b x xs e h =
    sum_by-cons one_if_blank x xs ∙ ap (λ c. cond c 1 0 + spaces_among xs) e ∙ one b
    ∙ ap (λ c. length (cond c (x ∷ filter is_blank_item xs) (filter is_blank_item xs))) (sym e)
  where
    one : (b : Bool)
        → cond b 1 0 + spaces_among xs ≡ length (cond b (x ∷ filter is_blank_item xs) (filter is_blank_item xs))
    one true = omega (arith, h)
    one false = omega (arith, h)

spaces_are : (xs : List Item) → spaces_among xs ≡ length (filter is_blank_item xs)
spaces_are [] = refl
spaces_are (x ∷ xs) = count_by (is_blank_item x) x xs refl (spaces_are xs)

pub same_spaces : (free : ℕ) (xs : List Item) → spaces_among (spread free xs) ≡ spaces_among xs
same_spaces free xs =
    spaces_are (spread free xs) ∙ ap length (spread_keeps is_blank_item (λ n. refl) free xs) ∙ sym (spaces_are xs)
