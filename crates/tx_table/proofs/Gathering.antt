-- Lists that are made element by element.
use Rattle.std.proofs.Common.{◌≡◌, ℕ, ◌+◌, ◌<◌, ◌≤◌, List, [], ◌∷◌, ◌++◌, length, get_or, drop, Option, Some, None, map}
use Rattle.std.proofs.Common.{refl, sym, ap, ◌∙◌, append_assoc, arith, suc, ◌-◌, ◌≢◌, take, cond, Bool, true, false}
use Rattle.std.proofs.lemmas.List.{drop_more, drop_all, append-nil, nil_from_length}
use Rattle.std.specs.Option.{option_map}
use Rattle.std.specs.List.{filter_map, enumerate_from, cons_option}
use Rattle.std.specs.Prelude.{max, codes, option_and_then, if◌then◌else◌, slice_get}
use Rattle.tx_origin.specs.Values.{WideValue, text, made, each_of}
use Rattle.tx_table.specs.Settings.{parts_if, setting_from, setting_by, span_of, side_in, is_text}
use Rattle.tx_table.specs.Grids.{all_some, column_count, last_of, before_last}
use Rattle.tx_table.specs.declared.grids.Grid.{Grid}
use Rattle.tx_table.specs.Grids.{format_grid, table_grid}
use Rattle.std.specs.Str.{bytes_eq}

front_some : {Y : Type 0} → (y : Y) (ys : List Y) (o : Option (List Y))
    → option_map (λ zs. ys ++ zs) (option_map (λ zs. y ∷ zs) o) ≡ option_map (λ zs. (ys ++ y ∷ []) ++ zs) o
front_some y ys None = refl
front_some y ys (Some zs) = ap (λ l. Some l) (sym (append_assoc ys (y ∷ []) zs))

at_drop : {X : Type 0} → (xs : List X) (i : ℕ) (x : X) → i < length xs → x ≡ get_or xs i x
    → drop i xs ≡ x ∷ drop (i + 1) xs
at_drop xs i x h e = drop_more xs i x h ∙ ap (λ y. y ∷ drop (i + 1) xs) (sym e)

-- one more
pub all_more : {X Y : Type 0} → (f : X → Option Y) (xs : List X) (ys : List Y) (i : ℕ) (x : X) (y : Y)
    → i < length xs → x ≡ get_or xs i x → f x ≡ Some y
    → all_some (map f xs) ≡ option_map (λ zs. ys ++ zs) (all_some (map f (drop i xs)))
    → all_some (map f xs) ≡ option_map (λ zs. (ys ++ y ∷ []) ++ zs) (all_some (map f (drop (i + 1) xs)))
all_more {X} {Y} f xs ys i x y h e s k =
    let rest : List (Option Y) = map f (drop (i + 1) xs) in
    let now : map f (drop i xs) ≡ Some y ∷ rest = ap (λ l. map f l) (at_drop xs i x h e) ∙ ap (λ o. o ∷ rest) s in
    k ∙ ap (λ l. option_map (λ zs. ys ++ zs) (all_some l)) now ∙ front_some y ys (all_some rest)

-- one is missing
pub all_fails : {X Y : Type 0} → (f : X → Option Y) (xs : List X) (ys : List Y) (i : ℕ) (x : X)
    → i < length xs → x ≡ get_or xs i x → f x ≡ None
    → all_some (map f xs) ≡ option_map (λ zs. ys ++ zs) (all_some (map f (drop i xs)))
    → None ≡ all_some (map f xs)
all_fails {X} {Y} f xs ys i x h e s k =
    let rest : List (Option Y) = map f (drop (i + 1) xs) in
    let now : map f (drop i xs) ≡ None ∷ rest = ap (λ l. map f l) (at_drop xs i x h e) ∙ ap (λ o. o ∷ rest) s in
    sym (k ∙ ap (λ l. option_map (λ zs. ys ++ zs) (all_some l)) now)

-- none is left
pub all_end : {X Y : Type 0} → (f : X → Option Y) (xs : List X) (ys : List Y) (i : ℕ) → length xs ≤ i
    → all_some (map f xs) ≡ option_map (λ zs. ys ++ zs) (all_some (map f (drop i xs)))
    → Some ys ≡ all_some (map f xs)
all_end f xs ys i h k =
    sym (
    k ∙ ap (λ l. option_map (λ zs. ys ++ zs) (all_some (map f l))) (drop_all i xs h)
    ∙ ap (λ l. Some l) (append-nil ys)
    )

same_front : {Z : Type 0} → (o : Option (List Z)) → o ≡ option_map (λ zs. [] ++ zs) o
same_front None = refl
same_front (Some zs) = refl

pub all_begins : {X Y : Type 0} → (f : X → Option Y) (xs : List X)
    → all_some (map f xs) ≡ option_map (λ zs. [] ++ zs) (all_some (map f (drop 0 xs)))
all_begins f xs = same_front (all_some (map f xs))

-- ---- those that there are

pub some_more : {X Y : Type 0} → (f : X → Option Y) (xs : List X) (ys : List Y) (i : ℕ) (x : X) (y : Y)
    → i < length xs → x ≡ get_or xs i x → f x ≡ Some y → ys ++ filter_map f (drop i xs) ≡ filter_map f xs
    → (ys ++ y ∷ []) ++ filter_map f (drop (i + 1) xs) ≡ filter_map f xs
some_more f xs ys i x y h e s k =
    append_assoc ys (y ∷ []) (filter_map f (drop (i + 1) xs))
    ∙ ap (λ o. ys ++ cons_option o (filter_map f (drop (i + 1) xs))) (sym s)
    ∙ ap (λ l. ys ++ filter_map f l) (sym (at_drop xs i x h e)) ∙ k

pub none_more : {X Y : Type 0} → (f : X → Option Y) (xs : List X) (ys : List Y) (i : ℕ) (x : X)
    → i < length xs → x ≡ get_or xs i x → f x ≡ None → ys ++ filter_map f (drop i xs) ≡ filter_map f xs
    → ys ++ filter_map f (drop (i + 1) xs) ≡ filter_map f xs
none_more f xs ys i x h e s k =
    ap (λ o. ys ++ cons_option o (filter_map f (drop (i + 1) xs))) (sym s)
    ∙ ap (λ l. ys ++ filter_map f l) (sym (at_drop xs i x h e)) ∙ k

pub some_end : {X Y : Type 0} → (f : X → Option Y) (xs : List X) (ys : List Y) (i : ℕ) → length xs ≤ i
    → ys ++ filter_map f (drop i xs) ≡ filter_map f xs → ys ≡ filter_map f xs
some_end f xs ys i h k =
    sym (append-nil ys) ∙ ap (λ l. ys ++ filter_map f l) (sym (drop_all i xs h)) ∙ k

-- ---- each with its number

pub numbered_more : {X Y : Type 0} → (f : ℕ × X → Y) (xs : List X) (ys : List Y) (i : ℕ) (x : X) (y : Y)
    → i < length xs → x ≡ get_or xs i x → y ≡ f (i, x)
    → ys ++ map f (enumerate_from i (drop i xs)) ≡ map f (enumerate_from 0 xs)
    → (ys ++ y ∷ []) ++ map f (enumerate_from (i + 1) (drop (i + 1) xs)) ≡ map f (enumerate_from 0 xs)
numbered_more {X} {Y} f xs ys i x y h e s k =
    let rest : List Y = map f (enumerate_from (i + 1) (drop (i + 1) xs)) in
    append_assoc ys (y ∷ []) rest ∙ ap (λ z. ys ++ z ∷ rest) s
    ∙ ap (λ l. ys ++ map f (enumerate_from i l)) (sym (at_drop xs i x h e)) ∙ k

pub numbered_end : {X Y : Type 0} → (f : ℕ × X → Y) (xs : List X) (ys : List Y) (i : ℕ) → length xs ≤ i
    → ys ++ map f (enumerate_from i (drop i xs)) ≡ map f (enumerate_from 0 xs)
    → ys ≡ map f (enumerate_from 0 xs)
numbered_end f xs ys i h k =
    sym (append-nil ys) ∙ ap (λ l. ys ++ map f (enumerate_from i l)) (sym (drop_all i xs h)) ∙ k

-- ---- the greatest number of cells

pub count_more : (rows : List (List WideValue)) (most i : ℕ) (row : List WideValue) → i < length rows
    → row ≡ get_or rows i row → max most (column_count (drop i rows)) ≡ column_count rows
    → max (max most (length row)) (column_count (drop (i + 1) rows)) ≡ column_count rows
count_more rows most i row h e k =
    let now : column_count (drop i rows) ≡ max (length row) (column_count (drop (i + 1) rows)) =
    ap column_count (at_drop rows i row h e) in
    omega arith

pub count_end : (rows : List (List WideValue)) (most i : ℕ) → length rows ≤ i
    → max most (column_count (drop i rows)) ≡ column_count rows → most ≡ column_count rows
count_end rows most i h k = let now = ap column_count (drop_all i rows h) in omega arith

-- ---- parts

six_parts : (rows columns : ℕ) (vs : List WideValue) (a b c x y z : WideValue) → length vs ≡ 6 → a ≡ get_or vs 0 a
    → b ≡ get_or vs 1 b → c ≡ get_or vs 2 c → x ≡ get_or vs 3 x → y ≡ get_or vs 4 y → z ≡ get_or vs 5 z
    → setting_from rows columns vs
    ≡ (if is_text (codes "cell-halign") y then setting_by (span_of rows a b) (span_of columns c x) (side_in z) else None)
six_parts rows columns [] a b c x y z h e0 e1 e2 e3 e4 e5 = absurd (omega arith)
six_parts rows columns (a' ∷ []) a b c x y z h e0 e1 e2 e3 e4 e5 = absurd (omega arith)
six_parts rows columns (a' ∷ (b' ∷ [])) a b c x y z h e0 e1 e2 e3 e4 e5 = absurd (omega arith)
six_parts rows columns (a' ∷ (b' ∷ (c' ∷ []))) a b c x y z h e0 e1 e2 e3 e4 e5 = absurd (omega arith)
six_parts rows columns (a' ∷ (b' ∷ (c' ∷ (x' ∷ [])))) a b c x y z h e0 e1 e2 e3 e4 e5 = absurd (omega arith)
six_parts rows columns (a' ∷ (b' ∷ (c' ∷ (x' ∷ (y' ∷ []))))) a b c x y z h e0 e1 e2 e3 e4 e5 = absurd (omega arith)
six_parts rows columns (a' ∷ (b' ∷ (c' ∷ (x' ∷ (y' ∷ (z' ∷ [])))))) a b c x y z h e0 e1 e2 e3 e4 e5 =
    rw (e0, e1, e2, e3, e4, e5) refl
six_parts rows columns (a' ∷ (b' ∷ (c' ∷ (x' ∷ (y' ∷ (z' ∷ (w ∷ vs))))))) a b c x y z h e0 e1 e2 e3 e4 e5 =
    absurd (omega arith)

pub six_set : (rows columns : ℕ) (vs : List WideValue) (a b c x y z : WideValue) → length vs ≡ 6 → a ≡ get_or vs 0 a
    → b ≡ get_or vs 1 b → c ≡ get_or vs 2 c → x ≡ get_or vs 3 x → y ≡ get_or vs 4 y → z ≡ get_or vs 5 z
    → is_text (codes "cell-halign") y ≡ true
    → setting_by (span_of rows a b) (span_of columns c x) (side_in z) ≡ setting_from rows columns vs
six_set rows columns vs a b c x y z h e0 e1 e2 e3 e4 e5 t =
    sym (
    six_parts rows columns vs a b c x y z h e0 e1 e2 e3 e4 e5
    ∙ ap (λ q. cond q (setting_by (span_of rows a b) (span_of columns c x) (side_in z)) None) t
    )

text_none : (rows columns : ℕ) (a b c x y z : WideValue) → is_text (codes "cell-halign") y ≡ false
    → None ≡ setting_from rows columns (a ∷ (b ∷ (c ∷ (x ∷ (y ∷ (z ∷ []))))))
text_none rows columns a b c x y z t =
    sym (ap (λ q. cond q (setting_by (span_of rows a b) (span_of columns c x) (side_in z)) None) t)

pub six_none : (rows columns : ℕ) (vs : List WideValue) (y : WideValue) → length vs ≡ 6 → y ≡ get_or vs 4 y
    → is_text (codes "cell-halign") y ≡ false → None ≡ setting_from rows columns vs
six_none rows columns [] y h e t = absurd (omega arith)
six_none rows columns (a ∷ []) y h e t = absurd (omega arith)
six_none rows columns (a ∷ (b ∷ [])) y h e t = absurd (omega arith)
six_none rows columns (a ∷ (b ∷ (c ∷ []))) y h e t = absurd (omega arith)
six_none rows columns (a ∷ (b ∷ (c ∷ (x ∷ [])))) y h e t = absurd (omega arith)
six_none rows columns (a ∷ (b ∷ (c ∷ (x ∷ (y' ∷ []))))) y h e t = absurd (omega arith)
six_none rows columns (a ∷ (b ∷ (c ∷ (x ∷ (y' ∷ (z ∷ [])))))) y h e t =
    text_none rows columns a b c x y' z (ap (λ v. is_text (codes "cell-halign") v) (sym e) ∙ t)
six_none rows columns (a ∷ (b ∷ (c ∷ (x ∷ (y' ∷ (z ∷ (w ∷ vs))))))) y h e t = absurd (omega arith)

pub other_parts : (rows columns : ℕ) (vs : List WideValue) → length vs ≢ 6 → None ≡ setting_from rows columns vs
other_parts rows columns [] h = refl
other_parts rows columns (a ∷ []) h = refl
other_parts rows columns (a ∷ (b ∷ [])) h = refl
other_parts rows columns (a ∷ (b ∷ (c ∷ []))) h = refl
other_parts rows columns (a ∷ (b ∷ (c ∷ (x ∷ [])))) h = refl
other_parts rows columns (a ∷ (b ∷ (c ∷ (x ∷ (y ∷ []))))) h = refl
other_parts rows columns (a ∷ (b ∷ (c ∷ (x ∷ (y ∷ (z ∷ [])))))) h = absurd (h (omega arith))
other_parts rows columns (a ∷ (b ∷ (c ∷ (x ∷ (y ∷ (z ∷ (w ∷ vs))))))) h = refl

-- ---- the last of some

pub last_is : (vs : List WideValue) → last_of vs ≡ slice_get vs (length vs - 1)
last_is [] = refl
last_is (v ∷ []) = refl
last_is (v ∷ (w ∷ ws)) =
    let n : length (v ∷ (w ∷ ws)) - 1 ≡ suc (length (w ∷ ws) - 1) = omega arith in
    last_is (w ∷ ws) ∙ sym (ap (λ k. slice_get (v ∷ (w ∷ ws)) k) n)

pub front_is : (vs : List WideValue) → before_last vs ≡ take (length vs - 1) vs
front_is [] = refl
front_is (v ∷ []) = refl
front_is (v ∷ (w ∷ ws)) =
    let n : length (v ∷ (w ∷ ws)) - 1 ≡ suc (length (w ∷ ws) - 1) = omega arith in
    ap (λ l. v ∷ l) (front_is (w ∷ ws)) ∙ sym (ap (λ k. take k (v ∷ (w ∷ ws))) n)

-- the grid of a value that is a `tformat` with these parts, or none
format_with : WideValue → Option (List WideValue) → Option Grid
format_with v None = table_grid [] v
format_with v (Some vs) = option_and_then (table_grid (before_last vs)) (last_of vs)

format_same : (v : WideValue) → format_grid v ≡ format_with v (parts_if (codes "tformat") v)
unfolding format_with
format_same (text words at) = refl
format_same (made label vs at) = pick (bytes_eq label (codes "tformat"))
  where
    pick : (b : Bool)
        → cond b (option_and_then (table_grid (before_last (each_of vs))) (last_of (each_of vs)))
        (table_grid [] (made label vs at))
        ≡ format_with (made label vs at) (cond b (Some (each_of vs)) None)
    pick true = refl
    pick false = refl

pub format_none : (v : WideValue) → parts_if (codes "tformat") v ≡ None → format_grid v ≡ table_grid [] v
unfolding format_with
format_none v e = format_same v ∙ ap (λ o. format_with v o) e

pub format_empty : (v : WideValue) (ps : List WideValue) → parts_if (codes "tformat") v ≡ Some ps → length ps ≡ 0
    → None ≡ format_grid v
unfolding format_with
format_empty v ps e h =
    let nothing : ps ≡ [] = nil_from_length ps h in
    sym (
    format_same v ∙ ap (λ o. format_with v o) e
    ∙ ap (λ l. option_and_then (table_grid (before_last l)) (last_of l)) nothing
    )

pub format_by : (v : WideValue) (ps front : List WideValue) (table : WideValue)
    → parts_if (codes "tformat") v ≡ Some ps → slice_get ps (length ps - 1) ≡ Some table
    → front ≡ take (length ps - 1) ps → format_grid v ≡ table_grid front table
unfolding format_with
format_by v ps front table e h k =
    format_same v ∙ ap (λ o. format_with v o) e
    ∙ ap (λ l. option_and_then (table_grid l) (last_of ps)) (front_is ps ∙ sym k)
    ∙ ap (λ o. option_and_then (table_grid front) o) (last_is ps ∙ h)
