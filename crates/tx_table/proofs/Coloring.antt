-- A row whose cells are set from the last setting to the first.
use Rattle.std.proofs.Common.{◌≡◌, ℕ, ◌+◌, ◌<◌, ◌≤◌, ◌≢◌, ◌⊎◌, List, [], ◌∷◌, ◌++◌, length, get_or, drop, Option, Some, None}
use Rattle.std.proofs.Common.{refl, sym, ap, ◌∙◌, arith, Bool, true, false, cond, inl, inr, get_or-set_same, get_or-set_other}
use Rattle.std.proofs.Math.ListN.{set, length-set}
use Rattle.std.proofs.lemmas.Bool.{cases_lt}
use Rattle.std.proofs.lemmas.List.{map-id, get_or-replicate, length-replicate, drop_more, drop_all}
use Rattle.std.proofs.lemmas.List.FromFn.{map-range_with_len_more, fill_by_all, get_or-range_with_len, length-range_with_len}
use Rattle.std.specs.Prelude.{nat_lt, nat_le, ◌&&◌, replicate}
use Rattle.std.specs.List.{fold, range_with_len}
use Rattle.std.specs.Option.{option_or, unwrap_or}
use Rattle.tx_table.specs.declared.settings.Side.{Side}
use Rattle.tx_table.specs.declared.settings.Side.TheVariants.{Left}
use Rattle.tx_table.specs.declared.settings.Setting.{Setting}
use Rattle.tx_table.specs.Settings.{is_inside, side_over, side_at, row_sides}
use Rattle.tx_table.specs.Painting.{set_by, last_set, Painted, up_to}

-- ---- tests

lt_yes : (m n : ℕ) → m < n → nat_lt m n ≡ true
lt_yes m n h = grind arith

lt_no : (m n : ℕ) → n ≤ m → nat_lt m n ≡ false
lt_no m n h = grind arith

le_yes : (m n : ℕ) → m ≤ n → nat_le m n ≡ true
le_yes m n h = grind arith

le_no : (m n : ℕ) → n < m → nat_le m n ≡ false
le_no m n h = grind arith

up_below : (at : ℕ) (f g : ℕ → Option Side) (k : ℕ) → k < at → up_to at f g k ≡ f k
up_below at f g k h = ap (λ b. cond b (f k) (g k)) (lt_yes k at h)

up_above : (at : ℕ) (f g : ℕ → Option Side) (k : ℕ) → at ≤ k → up_to at f g k ≡ g k
up_above at f g k h = ap (λ b. cond b (f k) (g k)) (lt_no k at h)

same_or : (k j : ℕ) → (k ≡ j) ⊎ (k ≢ j)
same_or k j = elim (cases_lt k j) [
  | inl x ↦ inr (λ e. absurd (omega arith))
  | inr y ↦ elim (cases_lt j k) [ inl z ↦ inr (λ e. absurd (omega arith)) | inr w ↦ inl (omega arith) ]
]

-- ---- one setting more

unwrapped : (o p : Option Side) (z : Side) → unwrap_or o (unwrap_or p z) ≡ unwrap_or (option_or o p) z
unwrapped None p z = refl
unwrapped (Some x) p z = refl

over_is : (b : Bool) (side z : Side) → cond b side z ≡ unwrap_or (cond b (Some side) None) z
over_is true side z = refl
over_is false side z = refl

folded : (ss : List Setting) (r c : ℕ) (z : Side) → fold (side_over r c) z ss ≡ unwrap_or (last_set ss r c) z
folded [] r c z = refl
folded (s ∷ ss) r c z =
    folded ss r c (side_over r c z s)
    ∙ ap (λ y. unwrap_or (last_set ss r c) y) (over_is (is_inside s r c) s.side z)
    ∙ unwrapped (last_set ss r c) (set_by s r c) z

or_none : (o : Option Side) → option_or o None ≡ o
or_none None = refl
or_none (Some x) = refl

outside : (s : Setting) (ss : List Setting) (r c : ℕ) → is_inside s r c ≡ false
    → last_set (s ∷ ss) r c ≡ last_set ss r c
outside s ss r c h =
    ap (λ b. option_or (last_set ss r c) (cond b (Some s.side) None)) h ∙ or_none (last_set ss r c)

inside : (s : Setting) (ss : List Setting) (r c : ℕ) → is_inside s r c ≡ true
    → last_set (s ∷ ss) r c ≡ option_or (last_set ss r c) (Some s.side)
inside s ss r c h = ap (λ b. option_or (last_set ss r c) (cond b (Some s.side) None)) h

and_false : (b : Bool) → (b && false) ≡ false
and_false true = refl
and_false false = refl

-- a row that the setting doesn't reach
pub other_row : (s : Setting) (ss : List Setting) (r c : ℕ) → (r < s.top) ⊎ (s.bottom < r)
    → last_set ss r c ≡ last_set (s ∷ ss) r c
other_row s ss r c (inl h) =
    sym (outside s ss r c (ap (λ b. (b && nat_le r s.bottom) && (nat_le s.first c && nat_le c s.last)) (le_no s.top r h)))
other_row s ss r c (inr h) =
    let test : Bool = nat_le s.first c && nat_le c s.last in
    sym (
    outside s ss r c
    (ap (λ b. (nat_le s.top r && b) && test) (le_no r s.bottom h) ∙ ap (λ b. b && test) (and_false (nat_le s.top r)))
    )

-- a column that it doesn't reach
other_column : (s : Setting) (ss : List Setting) (r c : ℕ) → (c < s.first) ⊎ (s.last < c)
    → last_set ss r c ≡ last_set (s ∷ ss) r c
other_column s ss r c (inl h) =
    let test : Bool = nat_le s.top r && nat_le r s.bottom in
    sym (
    outside s ss r c
    (ap (λ b. test && (b && nat_le c s.last)) (le_no s.first c h) ∙ and_false test)
    )
other_column s ss r c (inr h) =
    let test : Bool = nat_le s.top r && nat_le r s.bottom in
    sym (
    outside s ss r c
    (
    ap (λ b. test && (nat_le s.first c && b)) (le_no c s.last h)
    ∙ ap (λ b. test && b) (and_false (nat_le s.first c)) ∙ and_false test
    )
    )

-- a cell that it reaches
reached : (s : Setting) (ss : List Setting) (r c : ℕ) → s.top ≤ r → r ≤ s.bottom → s.first ≤ c → c ≤ s.last
    → last_set (s ∷ ss) r c ≡ option_or (last_set ss r c) (Some s.side)
reached s ss r c a b d e =
    inside s ss r c
    (
    ap (λ x. (x && nat_le r s.bottom) && (nat_le s.first c && nat_le c s.last)) (le_yes s.top r a)
    ∙ ap (λ x. x && (nat_le s.first c && nat_le c s.last)) (le_yes r s.bottom b)
    ∙ ap (λ x. x && nat_le c s.last) (le_yes s.first c d) ∙ le_yes c s.last e
    )

-- ---- what was set, given in two ways

pub told_by : (f g : ℕ → Option Side) (sides : List Side) (next : List ℕ)
    → ((k : ℕ) → k < length sides → f k ≡ g k) → Painted f sides next → Painted g sides next
told_by f g sides next same p = record {
  long = p.long;
  each = λ k h. p.each k h ∙ ap (λ o. unwrap_or o Left) (same k h);
  onward = p.onward;
  within = p.within;
  over = λ c k h a b none.
      let w = p.within c h in
      let below : k < length sides = omega arith in
      p.over c k h a b (same k below ∙ none);
  free = λ k h e. sym (same k h) ∙ p.free k h e;
}

-- a shorter way over columns that are set
pub shortened : (f : ℕ → Option Side) (sides : List Side) (next : List ℕ) (at after far : ℕ) → at < length sides
    → after ≡ get_or next at 0 → after < length sides → after ≢ at → far ≡ get_or next after 0
    → Painted f sides next → Painted f sides (set next at far)
shortened f sides next at after far h e below moves q p =
    let up : at ≤ get_or next at 0 = p.onward at h in
    let further : after ≤ get_or next after 0 = p.onward after below in
    let room : at < length next = let l = p.long in omega arith in
    let own : get_or (set next at far) at 0 ≡ far = get_or-set_same next at far 0 room in
    record {
      long = length-set next at far ∙ p.long;
      each = p.each;
      onward = λ k b. elim (same_or k at) [
        | inl i ↦ let t = ap (λ j. get_or (set next at far) j 0) i in omega arith
        | inr n ↦ let t = get_or-set_other next at k far 0 n in let o = p.onward k b in omega arith
      ];
      within = λ k b. elim (same_or k at) [
        | inl i ↦
            let t = ap (λ j. get_or (set next at far) j 0) i in
            let w = p.within after below in
            omega arith
        | inr n ↦ let t = get_or-set_other next at k far 0 n in let w = p.within k b in omega arith
      ];
      over = λ c k b lo hi none. elim (same_or c at) [
        | inl i ↦
            let t = ap (λ j. get_or (set next at far) j 0) i in
            let top : k < get_or next after 0 = omega arith in
            elim (cases_lt k after) [
              | inl x ↦ p.over at k h (omega arith) (omega arith) none
              | inr y ↦ p.over after k below y top none
            ]
        | inr n ↦
            let t = get_or-set_other next at c far 0 n in
            p.over c k b lo (omega arith) none
      ];
      free = λ k b i. elim (same_or k at) [
        | inl j ↦ let t = ap (λ m. get_or (set next at far) m 0) j in absurd (moves (omega arith))
        | inr n ↦ p.free k b (sym (get_or-set_other next at k far 0 n) ∙ i)
      ];
    }

some_not : (x : Side) → Some x ≡ None → ⊥
some_not x e = cc

kept_or : (o p : Option Side) → (o ≡ None → ⊥) → option_or o p ≡ o
kept_or None p h = absurd (h refl)
kept_or (Some x) p h = refl

-- one column is set
pub set_one : (f g : ℕ → Option Side) (sides : List Side) (next : List ℕ) (at : ℕ) (side : Side) → at < length sides
    → get_or next at 0 ≡ at → (g at ≡ None → f at ≡ Some side) → Painted (up_to at f g) sides next
    → Painted (up_to (at + 1) f g) (set sides at side) (set next at (at + 1))
set_one f g sides next at side h e takes p =
    let room : at < length next = let l = p.long in omega arith in
    let own : get_or (set next at (at + 1)) at 0 ≡ at + 1 = get_or-set_same next at (at + 1) 0 room in
    let bare : g at ≡ None = sym (up_above at f g at (omega arith)) ∙ p.free at h e in
    let now : up_to (at + 1) f g at ≡ Some side = up_below (at + 1) f g at (omega arith) ∙ takes bare in
    let wide : length (set sides at side) ≡ length sides = length-set sides at side in
    let same : (k : ℕ) → k ≢ at → up_to (at + 1) f g k ≡ up_to at f g k =
    λ k n. elim (cases_lt k at) [
      | inl x ↦ up_below (at + 1) f g k (omega arith) ∙ sym (up_below at f g k x)
      | inr y ↦ up_above (at + 1) f g k (omega arith) ∙ sym (up_above at f g k y)
    ] in
    record {
      long = length-set next at (at + 1) ∙ p.long ∙ sym wide;
      each = λ k b. elim (same_or k at) [
        | inl i ↦
            ap (λ j. get_or (set sides at side) j Left) i ∙ get_or-set_same sides at side Left h
            ∙ ap (λ o. unwrap_or o Left) (sym now) ∙ ap (λ j. unwrap_or (up_to (at + 1) f g j) Left) (sym i)
        | inr n ↦
            get_or-set_other sides at k side Left n ∙ p.each k (omega arith)
            ∙ ap (λ o. unwrap_or o Left) (sym (same k n))
      ];
      onward = λ k b. elim (same_or k at) [
        | inl i ↦ let t = ap (λ j. get_or (set next at (at + 1)) j 0) i in omega arith
        | inr n ↦
            let t = get_or-set_other next at k (at + 1) 0 n in let o = p.onward k (omega arith) in omega arith
      ];
      within = λ k b. elim (same_or k at) [
        | inl i ↦ let t = ap (λ j. get_or (set next at (at + 1)) j 0) i in omega arith
        | inr n ↦
            let t = get_or-set_other next at k (at + 1) 0 n in let w = p.within k (omega arith) in omega arith
      ];
      over = λ c k b lo hi none. elim (same_or k at) [
        | inl i ↦ some_not side (sym now ∙ ap (λ j. up_to (at + 1) f g j) (sym i) ∙ none)
        | inr n ↦ elim (same_or c at) [
          | inl j ↦
              let t = ap (λ m. get_or (set next at (at + 1)) m 0) j in
              let out : k ≡ at = omega arith in
              n out
          | inr m ↦
              let t = get_or-set_other next at c (at + 1) 0 m in
              p.over c k (omega arith) lo (omega arith) (sym (same k n) ∙ none)
        ]
      ];
      free = λ k b i. elim (same_or k at) [
        | inl j ↦ let t = ap (λ m. get_or (set next at (at + 1)) m 0) j in absurd (omega arith)
        | inr n ↦
            same k n ∙ p.free k (omega arith) (sym (get_or-set_other next at k (at + 1) 0 n) ∙ i)
      ];
    }

-- columns that are set are passed by
pub passed : (f g : ℕ → Option Side) (sides : List Side) (next : List ℕ) (at after : ℕ) → at < length sides
    → after ≡ get_or next at 0 → ((k : ℕ) → at ≤ k → (g k ≡ None → ⊥) → f k ≡ g k)
    → Painted (up_to at f g) sides next → Painted (up_to after f g) sides next
passed f g sides next at after h e stays p =
    let up : at ≤ get_or next at 0 = p.onward at h in
    told_by (up_to at f g) (up_to after f g) sides next
    (λ k b. elim (cases_lt k at) [
      | inl x ↦ up_below at f g k x ∙ sym (up_below after f g k (omega arith))
      | inr y ↦ elim (cases_lt k after) [
        | inl z ↦
            up_above at f g k y
            ∙ sym (stays k y (λ none. p.over at k h y (omega arith) (up_above at f g k y ∙ none)))
            ∙ sym (up_below after f g k z)
        | inr w ↦ up_above at f g k y ∙ sym (up_above after f g k w)
      ]
    ])
    p

-- ---- the steps over a row

stays_by : (s : Setting) (ss : List Setting) (r k : ℕ) → s.top ≤ r → r ≤ s.bottom → s.first ≤ k
    → (last_set ss r k ≡ None → ⊥) → last_set (s ∷ ss) r k ≡ last_set ss r k
stays_by s ss r k a b d some = elim (cases_lt s.last k) [
  | inl x ↦ sym (other_column s ss r k (inr x))
  | inr y ↦ reached s ss r k a b d y ∙ kept_or (last_set ss r k) (Some s.side) some
]

pub row_skipped : (all : List Setting) (i r : ℕ) (s : Setting) (sides : List Side) (next : List ℕ) → i < length all
    → s ≡ get_or all i s → (r < s.top) ⊎ (s.bottom < r) → Painted (last_set (drop (i + 1) all) r) sides next
    → Painted (last_set (drop i all) r) sides next
row_skipped all i r s sides next h e o p =
    let ss : List Setting = drop (i + 1) all in
    let now : drop i all ≡ s ∷ ss = drop_more all i s h ∙ ap (λ x. x ∷ ss) (sym e) in
    rw now (told_by (last_set ss r) (last_set (s ∷ ss) r) sides next (λ k b. other_row s ss r k o) p)

pub row_begun : (all : List Setting) (i r : ℕ) (s : Setting) (sides : List Side) (next : List ℕ) → i < length all
    → s ≡ get_or all i s → Painted (last_set (drop (i + 1) all) r) sides next
    → Painted (up_to s.first (last_set (drop i all) r) (last_set (drop (i + 1) all) r)) sides next
row_begun all i r s sides next h e p =
    let ss : List Setting = drop (i + 1) all in
    let now : drop i all ≡ s ∷ ss = drop_more all i s h ∙ ap (λ x. x ∷ ss) (sym e) in
    let f : ℕ → Option Side = last_set (s ∷ ss) r in
    let g : ℕ → Option Side = last_set ss r in
    let same : (k : ℕ) → k < length sides → g k ≡ up_to s.first f g k =
    λ k b. elim (cases_lt k s.first) [
      | inl x ↦ other_column s ss r k (inl x) ∙ sym (up_below s.first f g k x)
      | inr y ↦ sym (up_above s.first f g k y)
    ] in
    rw now (told_by g (up_to s.first f g) sides next same p)

pub row_set : (all : List Setting) (i r at : ℕ) (s : Setting) (sides : List Side) (next : List ℕ) → i < length all
    → s ≡ get_or all i s → s.top ≤ r → r ≤ s.bottom → s.first ≤ at → at ≤ s.last → at < length sides
    → get_or next at 0 ≡ at
    → Painted (up_to at (last_set (drop i all) r) (last_set (drop (i + 1) all) r)) sides next
    → Painted (up_to (at + 1) (last_set (drop i all) r) (last_set (drop (i + 1) all) r)) (set sides at s.side)
    (set next at (at + 1))
row_set all i r at s sides next h e a b d t k own p =
    let ss : List Setting = drop (i + 1) all in
    let now : drop i all ≡ s ∷ ss = drop_more all i s h ∙ ap (λ x. x ∷ ss) (sym e) in
    let takes : last_set ss r at ≡ None → last_set (drop i all) r at ≡ Some s.side =
    λ none. ap (λ l. last_set l r at) now ∙ reached s ss r at a b d t
    ∙ ap (λ o. option_or o (Some s.side)) none in
    set_one (last_set (drop i all) r) (last_set ss r) sides next at s.side k own takes p

pub row_passed : (all : List Setting) (i r at after : ℕ) (s : Setting) (sides : List Side) (next : List ℕ)
    → i < length all → s ≡ get_or all i s → s.top ≤ r → r ≤ s.bottom → s.first ≤ at → at < length sides
    → after ≡ get_or next at 0
    → Painted (up_to at (last_set (drop i all) r) (last_set (drop (i + 1) all) r)) sides next
    → Painted (up_to after (last_set (drop i all) r) (last_set (drop (i + 1) all) r)) sides next
row_passed all i r at after s sides next h e a b d k own p =
    let ss : List Setting = drop (i + 1) all in
    let now : drop i all ≡ s ∷ ss = drop_more all i s h ∙ ap (λ x. x ∷ ss) (sym e) in
    passed (last_set (drop i all) r) (last_set ss r) sides next at after k own
    (λ j lo some. ap (λ l. last_set l r j) now ∙ stays_by s ss r j a b (omega arith) some)
    p

pub row_ended : (all : List Setting) (i r at : ℕ) (s : Setting) (sides : List Side) (next : List ℕ) → i < length all
    → s ≡ get_or all i s → (s.last < at) ⊎ (length sides ≤ at)
    → Painted (up_to at (last_set (drop i all) r) (last_set (drop (i + 1) all) r)) sides next
    → Painted (last_set (drop i all) r) sides next
row_ended all i r at s sides next h e o p =
    let ss : List Setting = drop (i + 1) all in
    let now : drop i all ≡ s ∷ ss = drop_more all i s h ∙ ap (λ x. x ∷ ss) (sym e) in
    let f : ℕ → Option Side = last_set (drop i all) r in
    let g : ℕ → Option Side = last_set ss r in
    told_by (up_to at f g) f sides next
    (λ k b. elim (cases_lt k at) [
      | inl x ↦ up_below at f g k x
      | inr y ↦ elim o [
        | inl z ↦
            up_above at f g k y ∙ other_column s ss r k (inr (omega arith)) ∙ ap (λ l. last_set l r k) (sym now)
        | inr w ↦ absurd (omega arith)
      ]
    ])
    p

-- ---- whole rows

pub row_blank : (all : List Setting) (r n : ℕ)
    → Painted (last_set (drop (length all) all) r) (replicate n Left) (range_with_len 0 n)
row_blank all r n =
    let wide : length (replicate n Left) ≡ n = length-replicate n Left in
    let long : length (range_with_len 0 n) ≡ n = length-range_with_len 0 n in
    let own : (k : ℕ) → k < length (replicate n Left) → get_or (range_with_len 0 n) k 0 ≡ k =
    λ k b. let t = get_or-range_with_len 0 n k 0 (omega arith) in omega arith in
    rw (drop_all (length all) all (omega arith)) (record {
      long = long ∙ sym wide;
      each = λ k b. get_or-replicate n k Left Left (omega arith);
      onward = λ k b. let t = own k b in omega arith;
      within = λ k b. let t = own k b in omega arith;
      over = λ c k b lo hi none. let t = own c b in absurd (omega arith);
      free = λ k b i. refl;
    })

pub row_done : (all : List Setting) (r n : ℕ) (sides : List Side) (next : List ℕ) → length sides ≡ n
    → Painted (last_set all r) sides next → sides ≡ row_sides all r n
row_done all r n sides next e p =
    fill_by_all (side_at all r) sides n Left e
    (λ k b. p.each k (omega arith) ∙ sym (folded all r k Left))

pub range_push : (n : ℕ) → range_with_len 0 n ++ n ∷ [] ≡ range_with_len 0 (n + 1)
range_push n =
    sym (
    sym (map-id (range_with_len 0 (n + 1))) ∙ map-range_with_len_more (λ k. k) 0 n n (omega arith)
    ∙ ap (λ l. l ++ n ∷ []) (map-id (range_with_len 0 n))
    )

pub row_over : (all : List Setting) (r n left : ℕ) (sides : List Side) (next : List ℕ) → left ≤ 0 → length sides ≡ n
    → Painted (last_set (drop left all) r) sides next → sides ≡ row_sides all r n
row_over all r n left sides next h e p =
    let nothing : left ≡ 0 = omega arith in
    row_done all r n sides next e (rw nothing at p)

pub row_fresh : (all : List Setting) (r n k : ℕ) (sides : List Side) (next : List ℕ) → sides ≡ replicate k Left
    → next ≡ range_with_len 0 k → Painted (last_set (drop (length all) all) r) sides next
row_fresh all r n k sides next e h = rw (e, h) (row_blank all r k)
