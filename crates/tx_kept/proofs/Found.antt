-- Entries in order, found by their paths.
use Rattle.std.proofs.Common.{◌≡◌, ℕ, zero, suc, ◌+◌, ◌-◌, ◌<◌, ◌≤◌, ◌⊎◌}
use Rattle.std.proofs.Common.{inl, inr, Bool, true, false, List, [], ◌∷◌, length}
use Rattle.std.proofs.Common.{Option, Some, None, get_or, refl, sym, ap, subst, ◌∙◌, arith}
use Rattle.std.proofs.lemmas.Bool.{cases_lt}
use Rattle.std.proofs.lemmas.Cmp.{ranked}
use Rattle.std.proofs.lemmas.List.{get_or_default}
use Rattle.std.proofs.lemmas.Slice.Eq.{bytes_eq-Decides}
use Rattle.std.specs.Prelude.{MatchOption, ◌||◌, ◌==◌, ◌↔◌, is_some, slice_get, if◌then◌else◌}
use Rattle.std.specs.Option.{IsSome}
use Rattle.std.specs.List.Sorted.{IsPartitionedBy, IsPartitionPoint}
use Rattle.std.specs.declared.cmp.Ordering.{Ordering}
use Rattle.std.specs.declared.cmp.Ordering.TheVariants.{Less, Equal, Greater}
use Rattle.std.specs.Ordering.{is_lt, nat_cmp, ordering_then}
use Rattle.std.specs.Cmp.Lexicographic.{slice_cmp}
use Rattle.std.proofs.lemmas.Bool.{eqb-true, eq-eqb}
use Rattle.tx_mod.specs.Moves.{rest_behind}
use Rattle.tx_mod.specs.Orders.{IsBefore}
use Rattle.tx_kept.specs.declared.path_map.Entry.{Entry}
use Rattle.tx_kept.specs.Entries.{AllAfter, IsInOrder, IsAt, NoneAt}
use Rattle.tx_kept.specs.Finding.{is_before, is_below}
use Rattle.tx_kept.proofs.Applying.{some_is}
use Rattle.std.specs.Str.{bytes_eq}

-- ---- paths

pub before_true : (p q : List ℕ) → is_before p q ≡ true → IsBefore p q
before_true [] [] h = absurd (cc)
before_true [] (y ∷ q) h = tt
before_true (x ∷ p) [] h = absurd (cc)
before_true (x ∷ p) (y ∷ q) h = by (before_true p q) (nat_cmp x y) refl h
  where
    by : (is_before p q ≡ true → IsBefore p q) → (o : Ordering) → nat_cmp x y ≡ o → is_lt (ordering_then o (slice_cmp nat_cmp p q)) ≡ true
        → (x < y) ⊎ ((x ≡ y) × IsBefore p q)
    by deeper Less e g = inl (ranked x y Less (sym e))
    by deeper Equal e g = inr (ranked x y Equal (sym e), deeper g)
    by deeper Greater e g = absurd (cc)

pub true_before : (p q : List ℕ) → IsBefore p q → is_before p q ≡ true
true_before [] [] h = absurd h
true_before [] (y ∷ q) h = refl
true_before (x ∷ p) [] h = absurd h
true_before (x ∷ p) (y ∷ q) h = by (true_before p q) (nat_cmp x y) refl h
  where
    by : (IsBefore p q → is_before p q ≡ true) → (o : Ordering) → nat_cmp x y ≡ o → (x < y) ⊎ ((x ≡ y) × IsBefore p q)
        → is_before (x ∷ p) (y ∷ q) ≡ true
    by deeper Less e g = ap (λ o. is_lt (ordering_then o (slice_cmp nat_cmp p q))) e
    by deeper Equal e (inl lt) = let same : x ≡ y = ranked x y Equal (sym e) in absurd (omega (arith, same, lt))
    by deeper Equal e (inr g) =
        ap (λ o. is_lt (ordering_then o (slice_cmp nat_cmp p q))) e ∙ deeper g.1
    by deeper Greater e (inl lt) = let more : y < x = ranked x y Greater (sym e) in absurd (omega (arith, more, lt))
    by deeper Greater e (inr g) = let more : y < x = ranked x y Greater (sym e) in absurd (omega (arith, more, g.0))

pub before_before : (p q r : List ℕ) → IsBefore p q → IsBefore q r → IsBefore p r
before_before [] [] r h g = absurd h
before_before [] (y ∷ q) [] h g = absurd g
before_before [] (y ∷ q) (z ∷ r) h g = tt
before_before (x ∷ p) [] r h g = absurd h
before_before (x ∷ p) (y ∷ q) [] h g = absurd g
before_before (x ∷ p) (y ∷ q) (z ∷ r) h g = by (before_before p q r) h g
  where
    by : (IsBefore p q → IsBefore q r → IsBefore p r) → (x < y) ⊎ ((x ≡ y) × IsBefore p q)
        → (y < z) ⊎ ((y ≡ z) × IsBefore q r) → (x < z) ⊎ ((x ≡ z) × IsBefore p r)
    by deeper (inl a) (inl b) = inl (omega (arith, a, b))
    by deeper (inl a) (inr b) = let same : y ≡ z = b.0 in inl (omega (arith, a, same))
    by deeper (inr a) (inl b) = let same : x ≡ y = a.0 in inl (omega (arith, b, same))
    by deeper (inr a) (inr b) = inr (a.0 ∙ b.0, deeper a.1 b.1)

pub not_before_itself : (p : List ℕ) → IsBefore p p → ⊥
not_before_itself [] h = h
not_before_itself (x ∷ p) h = by (not_before_itself p) h
  where
    by : (IsBefore p p → ⊥) → (x < x) ⊎ ((x ≡ x) × IsBefore p p) → ⊥
    by deeper (inl lt) = absurd (omega (arith, lt))
    by deeper (inr h) = deeper h.1

begins : (z : ℕ) (r : List ℕ) (y : ℕ) (q : List ℕ) → IsSome (rest_behind (z ∷ r) (y ∷ q))
    → (z ≡ y) × IsSome (rest_behind r q)
begins z r y q h = by (z == y) refl h
  where
    by : (b : Bool) → (z == y) ≡ b → IsSome (if b then rest_behind r q else None) → (z ≡ y) × IsSome (rest_behind r q)
    by true e g = (eqb-true z y e, g)
    by false e g = absurd (cc)

begin_again : (z : ℕ) (r : List ℕ) (y : ℕ) (q : List ℕ) → z ≡ y → IsSome (rest_behind r q)
    → IsSome (rest_behind (z ∷ r) (y ∷ q))
begin_again z r y q same h =
    subst (λ b. IsSome (if b then rest_behind r q else None)) (sym (eq-eqb z y same)) h

-- what is below a path is not before it
pub below_not_before : (r q : List ℕ) → IsSome (rest_behind r q) → IsBefore q r → ⊥
below_not_before [] [] h g = g
below_not_before [] (y ∷ q) h g = g
below_not_before (z ∷ r) [] h g = absurd (cc)
below_not_before (z ∷ r) (y ∷ q) h g = by (below_not_before r q) (begins z r y q h) g
  where
    by : (IsSome (rest_behind r q) → IsBefore q r → ⊥) → (z ≡ y) × IsSome (rest_behind r q)
        → (y < z) ⊎ ((y ≡ z) × IsBefore q r) → ⊥
    by deeper b (inl lt) = let same : z ≡ y = b.0 in absurd (omega (arith, same, lt))
    by deeper b (inr e) = deeper b.1 e.1

-- what is before such a path is before it, at it or below
pub before_end : (p q r : List ℕ) → IsBefore p q → IsBefore q r ⊎ IsSome (rest_behind r q)
    → IsBefore p r ⊎ IsSome (rest_behind r p)
before_end p q [] h g = inr refl
before_end p [] (z ∷ r) h g = absurd (nothing p h)
  where
    nothing : (p : List ℕ) → IsBefore p [] → ⊥
    nothing [] h = h
    nothing (x ∷ p) h = h
before_end [] (y ∷ q) (z ∷ r) h g = inl tt
before_end (x ∷ p) (y ∷ q) (z ∷ r) h g = by (before_end p q r) h g
  where
    deeper : (x ≡ z) → IsBefore p r ⊎ IsSome (rest_behind r p)
        → IsBefore (x ∷ p) (z ∷ r) ⊎ IsSome (rest_behind (z ∷ r) (x ∷ p))
    deeper same (inl b) = inl (inr (same, b))
    deeper same (inr b) = inr (begin_again z r x p (sym same) b)

    by : (IsBefore p q → IsBefore q r ⊎ IsSome (rest_behind r q) → IsBefore p r ⊎ IsSome (rest_behind r p))
        → (x < y) ⊎ ((x ≡ y) × IsBefore p q)
        → IsBefore (y ∷ q) (z ∷ r) ⊎ IsSome (rest_behind (z ∷ r) (y ∷ q))
        → IsBefore (x ∷ p) (z ∷ r) ⊎ IsSome (rest_behind (z ∷ r) (x ∷ p))
    by on (inl a) (inl (inl b)) = inl (inl (omega (arith, a, b)))
    by on (inl a) (inl (inr b)) = let same : y ≡ z = b.0 in inl (inl (omega (arith, a, same)))
    by on (inl a) (inr b) = let same : z ≡ y = (begins z r y q b).0 in inl (inl (omega (arith, a, same)))
    by on (inr a) (inl (inl b)) = let same : x ≡ y = a.0 in inl (inl (omega (arith, b, same)))
    by on (inr a) (inl (inr b)) = deeper (a.0 ∙ b.0) (on a.1 (inl b.1))
    by on (inr a) (inr b) =
        let c = begins z r y q b in deeper (a.0 ∙ sym c.0) (on a.1 (inr c.1))

either_true : (p q : List ℕ) → (is_before q p || is_below p q) ≡ true → IsBefore q p ⊎ IsSome (rest_behind p q)
either_true p q h = by (is_before q p) refl h
  where
    by : (b : Bool) → is_before q p ≡ b → (b || is_below p q) ≡ true → IsBefore q p ⊎ IsSome (rest_behind p q)
    by true e g = inl (before_true q p e)
    by false e g = inr g

true_either : (p q : List ℕ) → IsBefore q p ⊎ IsSome (rest_behind p q) → (is_before q p || is_below p q) ≡ true
true_either p q (inl b) = ap (λ c. c || is_below p q) (true_before q p b)
true_either p q (inr b) = by (is_before q p)
  where
    by : (c : Bool) → (c || is_below p q) ≡ true
    by true = refl
    by false = b

-- ---- entries

-- the entry that is read of a list is at this path
pub found_there : {X : Type 0} (xs : List (Entry X)) (path : List ℕ) (i : ℕ) (y : Entry X) → slice_get xs i ≡ Some y
    → bytes_eq y.path path ≡ true → (i ≡ i) × IsAt path xs i
found_there xs path i y e same =
    (refl, record { entry = y; there = e; stands = (bytes_eq-Decides y.path path).0 same })

-- the entry that is read of a list is not at this path
pub missed_there : {X : Type 0} (xs : List (Entry X)) (path : List ℕ) (i : ℕ) (y : Entry X) → slice_get xs i ≡ Some y
    → bytes_eq y.path path ≡ false → (x : Entry X) → slice_get xs i ≡ Some x → x.path ≡ path → ⊥
missed_there {X} xs path i y e off x f same =
    let one : Some y ≡ Some x = sym e ∙ f in
    let is : y ≡ x = some_is y x one in
    let there : bytes_eq y.path path ≡ true =
    (bytes_eq-Decides y.path path).1 (ap (λ (z : Entry X). z.path) is ∙ same) in
    let both : true ≡ false = sym there ∙ off in
    absurd (cc)

module _ {X : Type 0} where
  after_get : (p : List ℕ) (xs : List (Entry X)) (j : ℕ) (d : Entry X) → AllAfter p xs → j < length xs
      → IsBefore p (get_or xs j d).path
  after_get p [] j d h lt = absurd (omega (arith, lt))
  after_get p (x ∷ xs) zero d h lt = h.0
  after_get p (x ∷ xs) (suc j) d h lt = after_get p xs j d h.1 (omega (arith, lt))

  pub order_get : (xs : List (Entry X)) (i j : ℕ) (d : Entry X) → IsInOrder xs → i < j → j < length xs
      → IsBefore (get_or xs i d).path (get_or xs j d).path
  order_get [] i j d h low lt = absurd (omega (arith, lt))
  order_get (x ∷ xs) i zero d h low lt = absurd (omega (arith, low))
  order_get (x ∷ xs) zero (suc j) d h low lt = after_get x.path xs j d h.0 (omega (arith, lt))
  order_get (x ∷ xs) (suc i) (suc j) d h low lt =
      order_get xs i j d h.1 (omega (arith, low)) (omega (arith, lt))

  read : (xs : List (Entry X)) (i : ℕ) (x : Entry X) → slice_get xs i ≡ Some x
      → (i < length xs) × ((d : Entry X) → get_or xs i d ≡ x)
  read [] i x e = absurd (cc)
  read (y ∷ xs) zero x e = let same : y ≡ x = cc in (omega arith, λ d. same)
  read (y ∷ xs) (suc i) x e =
      let r = read xs i x e in let lt : i < length xs = r.0 in (omega (arith, lt), λ d. r.1 d)

  -- a test that is true of what is before an entry of which it is true parts a list in order
  parts : (t : Entry X → Bool) (xs : List (Entry X)) → IsInOrder xs
      → ((x y : Entry X) → IsBefore x.path y.path → t y ≡ true → t x ≡ true) → IsPartitionedBy t xs
  parts t xs o down i j d le lt h = by (cases_lt i j)
    where
      by : (i < j) ⊎ (j ≤ i) → t (get_or xs i d) ≡ true
      by (inl low) = down (get_or xs i d) (get_or xs j d) (order_get xs i j d o low lt) h
      by (inr high) = let same : i ≡ j = omega (arith, le, high) in ap (λ n. t (get_or xs n d)) same ∙ h

  point : (t : Entry X → Bool) (xs : List (Entry X)) (k : ℕ) (i : ℕ) (x : Entry X)
      → IsPartitionPoint (λ y. t y ≡ true) (λ y. t y ≡ false) xs k → slice_get xs i ≡ Some x
      → ((i < k) → t x ≡ true) × (t x ≡ true → i < k)
  point t xs k i x p e = (front, λ h. back h (cases_lt i k))
    where
      r : (i < length xs) × ((d : Entry X) → get_or xs i d ≡ x)
      r = read xs i x e

      front : i < k → t x ≡ true
      front lt = ap t (sym (r.1 x)) ∙ p.0 i x (omega arith) lt

      back : t x ≡ true → (i < k) ⊎ (k ≤ i) → i < k
      back h (inl lt) = lt
      back h (inr high) =
          let off : t x ≡ false = ap t (sym (r.1 x)) ∙ p.1 i x high r.0 in
          let both : true ≡ false = sym h ∙ off in
          absurd (cc)

  pub before_parts : (path : List ℕ) (xs : List (Entry X)) → IsInOrder xs
      → IsPartitionedBy (λ x. is_before x.path path) xs
  before_parts path xs o =
      parts (λ x. is_before x.path path) xs o
      (λ x y less h. true_before x.path path (before_before x.path y.path path less (before_true y.path path h)))

  pub before_split : (path : List ℕ) (xs : List (Entry X)) (k : ℕ)
      → IsPartitionPoint (λ x. is_before x.path path ≡ true) (λ x. is_before x.path path ≡ false) xs k
      → (i : ℕ) (x : Entry X) → slice_get xs i ≡ Some x → (i < k) ↔ IsBefore x.path path
  before_split path xs k p i x e =
      let q = point (λ y. is_before y.path path) xs k i x p e in
      (λ lt. before_true x.path path (q.0 lt), λ b. q.1 (true_before x.path path b))

  pub end_parts : (path : List ℕ) (xs : List (Entry X)) → IsInOrder xs
      → IsPartitionedBy (λ x. is_before x.path path || is_below path x.path) xs
  end_parts path xs o =
      parts (λ x. is_before x.path path || is_below path x.path) xs o
      (λ x y less h. true_either path x.path (before_end x.path y.path path less (either_true path y.path h)))

  pub end_split : (path : List ℕ) (xs : List (Entry X)) (k : ℕ)
      → IsPartitionPoint (λ x. (is_before x.path path || is_below path x.path) ≡ true)
      (λ x. (is_before x.path path || is_below path x.path) ≡ false) xs k
      → (i : ℕ) (x : Entry X) → slice_get xs i ≡ Some x
      → (i < k) ↔ (IsBefore x.path path ⊎ IsSome (rest_behind path x.path))
  end_split path xs k p i x e =
      let q = point (λ y. is_before y.path path || is_below path y.path) xs k i x p e in
      (λ lt. either_true path x.path (q.0 lt), λ b. q.1 (true_either path x.path b))

  -- no entry is at a path that the first one from there on isn't at
  pub none_at : (path : List ℕ) (xs : List (Entry X)) (k : ℕ) → IsInOrder xs
      → ((i : ℕ) (x : Entry X) → slice_get xs i ≡ Some x → (i < k) ↔ IsBefore x.path path)
      → ((x : Entry X) → slice_get xs k ≡ Some x → x.path ≡ path → ⊥) → NoneAt path xs
  none_at path xs k o split missed i x e same = by (cases_lt i k)
    where
      at : (i < length xs) × ((d : Entry X) → get_or xs i d ≡ x)
      at = read xs i x e

      by_start : (n : ℕ) → n < length xs → (y : Entry X) × (slice_get xs n ≡ Some y)
      by_start n lt = there xs n lt
        where
          there : (ys : List (Entry X)) (n : ℕ) → n < length ys → (y : Entry X) × (slice_get ys n ≡ Some y)
          there [] n lt = absurd (omega (arith, lt))
          there (y ∷ ys) zero lt = (y, refl)
          there (y ∷ ys) (suc n) lt = there ys n (omega (arith, lt))

      later : k < i → ⊥
      later lt =
          let within : i < length xs = at.0 in
          let first = by_start k (omega (arith, lt, within)) in
          let f = read xs k first.0 first.1 in
          let less : IsBefore (get_or xs k x).path (get_or xs i x).path = order_get xs k i x o lt within in
          let less1 : IsBefore first.0.path path =
          subst (IsBefore first.0.path) (ap (λ (z : Entry X). z.path) (at.1 x) ∙ same)
          (subst (λ (z : Entry X). IsBefore z.path (get_or xs i x).path) (f.1 x) less) in
          let below : k < k = (split k first.0 first.1).1 less1 in
          absurd (omega (arith, below))

      by_more : (k < i) ⊎ (i ≤ k) → k ≤ i → ⊥
      by_more (inl lt) le = later lt
      by_more (inr ge) le =
          let is : i ≡ k = omega (arith, ge, le) in
          missed x (ap (slice_get xs) (sym is) ∙ e) same

      by : (i < k) ⊎ (k ≤ i) → ⊥
      by (inl lt) =
          not_before_itself path (subst (λ q. IsBefore q path) same ((split i x e).0 lt))
      by (inr le) = by_more (cases_lt k i) le

  -- the entries at a path and below are those between both places
  pub between : (path : List ℕ) (xs : List (Entry X)) (start end : ℕ)
      → ((i : ℕ) (x : Entry X) → slice_get xs i ≡ Some x → (i < start) ↔ IsBefore x.path path)
      → ((i : ℕ) (x : Entry X) → slice_get xs i ≡ Some x
      → (i < end) ↔ (IsBefore x.path path ⊎ IsSome (rest_behind path x.path)))
      → (i : ℕ) (x : Entry X) → slice_get xs i ≡ Some x
      → ((start ≤ i) × (i < end)) ↔ IsSome (rest_behind path x.path)
  between path xs start end s t i x e = (inside, outside)
    where
      or_else : start ≤ i → IsBefore x.path path ⊎ IsSome (rest_behind path x.path) → IsSome (rest_behind path x.path)
      or_else le (inl b) = let lt : i < start = (s i x e).1 b in absurd (omega (arith, lt, le))
      or_else le (inr b) = b

      inside : (start ≤ i) × (i < end) → IsSome (rest_behind path x.path)
      inside h = or_else h.0 ((t i x e).0 h.1)

      past : IsSome (rest_behind path x.path) → (i < start) ⊎ (start ≤ i) → start ≤ i
      past b (inl lt) = absurd (below_not_before path x.path b ((s i x e).0 lt))
      past b (inr le) = le

      outside : IsSome (rest_behind path x.path) → (start ≤ i) × (i < end)
      outside b = (past b (cases_lt i start), (t i x e).1 (inr b))

  -- there are no more before a path than before its end
  pub start_le_end : (path : List ℕ) (xs : List (Entry X)) (start end : ℕ) → start ≤ length xs
      → ((i : ℕ) (x : Entry X) → slice_get xs i ≡ Some x → (i < start) ↔ IsBefore x.path path)
      → ((i : ℕ) (x : Entry X) → slice_get xs i ≡ Some x
      → (i < end) ↔ (IsBefore x.path path ⊎ IsSome (rest_behind path x.path))) → start ≤ end
  start_le_end path xs start end within s t = by (cases_lt end start)
    where
      there : (ys : List (Entry X)) (n : ℕ) → n < length ys → (y : Entry X) × (slice_get ys n ≡ Some y)
      there [] n lt = absurd (omega (arith, lt))
      there (y ∷ ys) zero lt = (y, refl)
      there (y ∷ ys) (suc n) lt = there ys n (omega (arith, lt))

      by : (end < start) ⊎ (start ≤ end) → start ≤ end
      by (inl lt) =
          let f = there xs end (omega (arith, lt, within)) in
          let more : end < end = (t end f.0 f.1).1 (inl ((s end f.0 f.1).0 lt)) in
          absurd (omega (arith, more))
      by (inr le) = le

  -- so many entries are before the path; so many are before it, at it or below
  abbrev pub StartsAt : List ℕ → List (Entry X) → ℕ → Type 0
  StartsAt path xs k = (i : ℕ) (x : Entry X) → slice_get xs i ≡ Some x → (i < k) ↔ IsBefore x.path path

  abbrev pub EndsAt : List ℕ → List (Entry X) → ℕ → Type 0
  EndsAt path xs k = (i : ℕ) (x : Entry X) → slice_get xs i ≡ Some x
      → (i < k) ↔ (IsBefore x.path path ⊎ IsSome (rest_behind path x.path))

  pub found_or_none : (r : Option ℕ) (path : List ℕ) (xs : List (Entry X)) (k : ℕ) → IsInOrder xs
      → StartsAt path xs k
      → MatchOption r ((x : Entry X) → slice_get xs k ≡ Some x → x.path ≡ path → ⊥) (λ i. (i ≡ k) × IsAt path xs k)
      → MatchOption r (NoneAt path xs) (λ i. IsAt path xs i)
  found_or_none None path xs k o s m = none_at path xs k o s m
  found_or_none (Some i) path xs k o s m = subst (λ j. IsAt path xs j) (sym m.0) m.1

  -- ---- the test of order

  all_after : (p : List ℕ) (y : List ℕ) (xs : List (Entry X)) → IsBefore p y → AllAfter y xs → AllAfter p xs
  all_after p y [] less h = tt
  all_after p y (x ∷ xs) less h = (before_before p y x.path less h.0, all_after p y xs less h.1)

  in_row : (xs : List (Entry X)) → ((a b : ℕ) (d : Entry X) → b ≡ a + 1 → b < length xs
      → IsBefore (get_or xs a d).path (get_or xs b d).path) → IsInOrder xs
  in_row [] h = tt
  in_row (x ∷ []) h = (tt, tt)
  in_row (x ∷ y ∷ xs) h =
      let first : IsBefore x.path y.path = h 0 1 x (omega arith) (omega arith) in
      let rest : IsInOrder (y ∷ xs) = in_row (y ∷ xs) (λ a b d e lt. h (suc a) (suc b) d (omega (arith, e)) (omega (arith, lt))) in
      ((first, all_after x.path y.path xs first rest.0), rest)

  -- each of the first entries is before the next one
  abbrev pub AreInRow : List (Entry X) → ℕ → Type 0
  AreInRow xs i = (a b : ℕ) (d : Entry X) → b ≡ a + 1 → b < i → IsBefore (get_or xs a d).path (get_or xs b d).path

  pub row_starts : (xs : List (Entry X)) → AreInRow xs 1
  row_starts xs a b d e lt = absurd (omega (arith, e, lt))

  pub row_more : (xs : List (Entry X)) (i : ℕ) (x y : Entry X) → 1 ≤ i → i < length xs → x ≡ get_or xs (i - 1) x
      → y ≡ get_or xs i y → is_before x.path (get_or xs i y).path ≡ true → AreInRow xs i → AreInRow xs (i + 1)
  row_more xs i x y some inside is_x is_y h row a b d e lt = by (cases_lt b i)
    where
      by : (b < i) ⊎ (i ≤ b) → IsBefore (get_or xs a d).path (get_or xs b d).path
      by (inl low) = row a b d e low
      by (inr high) =
          let at : b ≡ i = omega (arith, high, lt) in
          let front : a ≡ i - 1 = omega (arith, at, e) in
          let first : get_or xs a d ≡ x =
          ap (λ n. get_or xs n d) front ∙ get_or_default xs (i - 1) d x (omega (arith, inside)) ∙ sym is_x in
          let second : get_or xs b d ≡ y =
          ap (λ n. get_or xs n d) at ∙ get_or_default xs i d y inside ∙ sym is_y in
          subst (λ (z : Entry X). IsBefore z.path (get_or xs b d).path) (sym first)
          (subst (λ (z : Entry X). IsBefore x.path z.path) (sym second) (before_true x.path y.path (ap (λ (z : Entry X). is_before x.path z.path) is_y ∙ h)))

  pub row_all : (xs : List (Entry X)) (i : ℕ) → length xs ≤ i → AreInRow xs i → IsInOrder xs
  row_all xs i all row = in_row xs (λ a b d e lt. row a b d e (omega (arith, lt, all)))

  pub row_broken : (xs : List (Entry X)) (i : ℕ) (x y : Entry X) → 1 ≤ i → i < length xs → x ≡ get_or xs (i - 1) x
      → y ≡ get_or xs i y → is_before x.path (get_or xs i y).path ≡ false → IsInOrder xs → ⊥
  row_broken xs i x y some inside is_x is_y h o =
      let less : IsBefore (get_or xs (i - 1) x).path (get_or xs i x).path =
      order_get xs (i - 1) i x o (omega (arith, some)) inside in
      let less1 : IsBefore x.path y.path =
      subst (λ (z : Entry X). IsBefore z.path y.path) (sym is_x)
      (subst (λ (z : Entry X). IsBefore (get_or xs (i - 1) x).path z.path)
      (get_or_default xs i x y inside ∙ sym is_y) less) in
      let both : true ≡ false = sym (true_before x.path y.path less1) ∙ ap (λ (z : Entry X). is_before x.path z.path) is_y ∙ h in
      absurd (cc)
