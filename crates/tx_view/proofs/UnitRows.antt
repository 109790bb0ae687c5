-- Elements of units in order: how many, and where each is.
use Rattle.std.proofs.Common.{◌≡◌, ℕ, zero, suc, ◌+◌, ◌-◌, ◌<◌, ◌≤◌, List, [], ◌∷◌, ◌++◌, map, length, take}
use Rattle.std.proofs.Common.{get_or, Bool, true, false, refl, sym, subst, ap, ◌∙◌, add-one, arith, length-append}
use Rattle.std.specs.Prelude.{nat_lt, if◌then◌else◌, Option, Some, None, slice_get}
use Rattle.std.specs.List.{flat_map}
use Rattle.std.specs.Option.{option_map}
use Rattle.std.proofs.lemmas.List.{append-nil, take_more, map_push, get_or-map}
use Rattle.std.proofs.lemmas.List.Concat.{flat_map-append}
use Rattle.tx_items.specs.declared.drawing.ErrorAt.{ErrorAt}
use Rattle.tx_view_form.specs.Views.{UnitView}
use Rattle.tx_view_form.specs.Cells.{row_in}
use Rattle.tx_part_layout.specs.LinesUnder.{line_under}
use Rattle.tx_unit_layout.specs.Stretches.{WideStretch, stretches, stretch_lines, line_parts}
use Rattle.tx_unit_layout.specs.Views.{unit_view}
use Rattle.tx_unit_layout.specs.declared.shown.Shown.{Shown}
use Rattle.tx_unit_layout.proofs.Stretching.{unit_lines}
use Rattle.tx_view.specs.Units.{unit_views, sums_from, row_counts, error_counts, place_among}
use Rattle.tx_view.specs.Rows.{unit_row_parts, IsRowOfUnit, IsError}
use Rattle.tx_view.proofs.Numbering.{sums_length}

-- ---- the sums as units come

abbrev pub total : List ℕ → ℕ
total [] = 0
total (k ∷ ks) = k + total ks

sums_more : (n : ℕ) (ks : List ℕ) (k m : ℕ) → m ≡ n + total ks + k
    → sums_from n (ks ++ k ∷ []) ≡ sums_from n ks ++ m ∷ []
sums_more n [] k m e = ap (λ j. n ∷ (j ∷ [])) (omega arith)
sums_more n (j ∷ js) k m e = ap (λ ls. n ∷ ls) (sums_more (n + j) js k m (omega arith))

total_is : {X : Type 0} (g : UnitView → List X) (h : UnitView → ℕ) → ((x : UnitView) → h x ≡ length (g x))
    → (xs : List UnitView)
    → total (map h xs) ≡ length (flat_map g xs)
total_is g h same [] = refl
total_is g h same (x ∷ xs) = omega (arith, same x, total_is g h same xs, length-append (g x) (flat_map g xs))

views_more : (xs : List Shown) (i : ℕ) (x : Shown) → i < length xs → x ≡ get_or xs i x
    → unit_views (take (i + 1) xs) ≡ unit_views (take i xs) ++ unit_view x ∷ []
views_more xs i x lt is =
    ap unit_views (take_more xs i x lt ∙ ap (λ y. take i xs ++ y ∷ []) (sym is)) ∙ map_push unit_view (take i xs) x

pub all_more : {X : Type 0} (g : UnitView → List X) (xs : List Shown) (i : ℕ) (x : Shown) → i < length xs
    → x ≡ get_or xs i x
    → flat_map g (unit_views (take (i + 1) xs)) ≡ flat_map g (unit_views (take i xs)) ++ g (unit_view x)
all_more g xs i x lt is =
    ap (flat_map g) (views_more xs i x lt is)
    ∙ flat_map-append g (unit_views (take i xs)) (unit_view x ∷ [])
    ∙ ap (λ ys. flat_map g (unit_views (take i xs)) ++ ys) (append-nil (g (unit_view x)))

pub record IsSummed {X : Type 0} (g : UnitView → List X) (h : UnitView → ℕ) (xs : List UnitView) (firsts : List ℕ)
    (count : ℕ) : Type 0 where
  pub firsts_are : firsts ++ count ∷ [] ≡ sums_from 0 (map h xs)
  pub count_is : count ≡ length (flat_map g xs)

pub sums_next : {X : Type 0} (g : UnitView → List X) (h : UnitView → ℕ) → ((x : UnitView) → h x ≡ length (g x))
    → (xs : List Shown) (i : ℕ) (x : Shown) (firsts new : List ℕ) (count next : ℕ) → i < length xs → x ≡ get_or xs i x
    → IsSummed g h (unit_views (take i xs)) firsts count → new ≡ firsts ++ count ∷ [] → next ≡ count + h (unit_view x)
    → IsSummed g h (unit_views (take (i + 1) xs)) new next
sums_next g h same xs i x firsts new count next lt is so added more = record {
  firsts_are =
      ap (λ ls. ls ++ next ∷ []) (added ∙ so.firsts_are)
      ∙ sym (sums_more 0 (map h before) (h (unit_view x)) next (omega (arith, total_is g h same before, so.count_is)))
      ∙ ap (sums_from 0) (sym (ap (map h) (views_more xs i x lt is) ∙ map_push h before (unit_view x)));
  count_is =
      omega (
        arith,
        same (unit_view x),
        so.count_is,
        length-append (flat_map g before) (g (unit_view x)),
        ap length (all_more g xs i x lt is),
      );
}
  where
    before : List UnitView
    before = unit_views (take i xs)

-- so many units have no more than all
pub sums_fit : {X : Type 0} (g : UnitView → List X) (xs : List Shown) (i : ℕ) (x : Shown) → i < length xs
    → x ≡ get_or xs i x
    → length (flat_map g (unit_views (take i xs))) + length (g (unit_view x)) ≤ length (flat_map g (unit_views xs))
sums_fit g [] i x lt is = absurd (omega arith)
sums_fit g (y ∷ ys) zero x lt is =
    omega (arith, ap (λ z. length (g (unit_view z))) is, length-append (g (unit_view y)) (flat_map g (unit_views ys)))
sums_fit g (y ∷ ys) (suc i) x lt is =
    omega (
      arith,
      sums_fit g ys i x (omega arith) is,
      length-append (g (unit_view y)) (flat_map g (unit_views ys)),
      length-append (g (unit_view y)) (flat_map g (unit_views (take i ys))),
    )

-- ---- where an element is

is_less : (a b : ℕ) → nat_lt a b ≡ true → a < b
is_less a b h = grind arith

is_no_less : (a b : ℕ) → nat_lt a b ≡ false → b ≤ a
is_no_less a b h = grind arith

pub get_left : {X : Type 0} (xs ys : List X) (k : ℕ) → k < length xs → slice_get (xs ++ ys) k ≡ slice_get xs k
get_left [] ys k h = absurd (omega arith)
get_left (x ∷ xs) ys zero h = refl
get_left (x ∷ xs) ys (suc k) h = get_left xs ys k (omega arith)

get_right : {X : Type 0} (xs ys : List X) (k m : ℕ) → length xs + m ≡ k → slice_get (xs ++ ys) k ≡ slice_get ys m
get_right [] ys k m h = ap (slice_get ys) (omega arith)
get_right (x ∷ xs) ys zero m h = absurd (omega arith)
get_right (x ∷ xs) ys (suc k) m h = get_right xs ys k m (omega arith)

-- a number among units: none has it, or this unit has it under this number
pub record IsAt {A X : Type 0} (g : A → List X) (xs : List A) (r u k : ℕ) : Type 0 where
  pub there : u < length xs
  pub within : (d : A) → k < length (g (get_or xs u d))
  pub same : (d : A) → slice_get (flat_map g xs) r ≡ slice_get (g (get_or xs u d)) k

abbrev pub IsFound : {A X : Type 0} → (A → List X) → List A → ℕ → Option (ℕ × ℕ) → Type 0
IsFound g xs r None = slice_get (flat_map g xs) r ≡ None
IsFound g xs r (Some p) = IsAt g xs r p.0 p.1

found_later : {A X : Type 0} (g : A → List X) (x : A) (xs : List A) (r n : ℕ) (o : Option (ℕ × ℕ))
    → n ≡ length (g x) → n ≤ r
    → IsFound g xs (r - n) o → IsFound g (x ∷ xs) r (option_map (λ p. (p.0 + 1, p.1)) o)
found_later g x xs r n None e le f = get_right (g x) (flat_map g xs) r (r - n) (omega arith) ∙ f
found_later g x xs r n (Some p) e le f = record {
  there = omega (arith, f.there);
  within = λ d. subst (λ (m : ℕ). p.1 < length (g (get_or (x ∷ xs) m d))) (sym (add-one p.0)) (f.within d);
  same = λ d. get_right (g x) (flat_map g xs) r (r - n) (omega arith) ∙ f.same d
      ∙ ap (λ m. slice_get (g (get_or (x ∷ xs) m d)) p.1) (sym (add-one p.0));
}

found_here : {A X : Type 0} (g : A → List X) (x : A) (xs : List A) (r n : ℕ) → n ≡ length (g x)
    → r < n → IsAt g (x ∷ xs) r 0 r
found_here g x xs r n e lt = record {
  there = omega arith;
  within = λ d. omega arith;
  same = λ d. get_left (g x) (flat_map g xs) r (omega arith);
}

found_by : {A X : Type 0} (g : A → List X) (x : A) (xs : List A) (r n : ℕ) (o : Option (ℕ × ℕ))
    (b : Bool) → n ≡ length (g x)
    → nat_lt r n ≡ b → IsFound g xs (r - n) o
    → IsFound g (x ∷ xs) r (if b then Some (0, r) else option_map (λ p. (p.0 + 1, p.1)) o)
found_by g x xs r n o true e t f = found_here g x xs r n e (is_less r n t)
found_by g x xs r n o false e t f = found_later g x xs r n o e (is_no_less r n t) f

pub is_found : {A X : Type 0} (g : A → List X) (h : A → ℕ) → ((x : A) → h x ≡ length (g x))
    → (xs : List A) (r : ℕ)
    → IsFound g xs r (place_among (map h xs) r)
is_found g h same [] r = refl
is_found g h same (x ∷ xs) r =
    found_by g x xs r (h x) (place_among (map h xs) (r - h x)) (nat_lt r (h x)) (same x) refl
    (is_found g h same xs (r - h x))

-- the unit of a row
abbrev row_from : List UnitView → UnitView → Option (ℕ × ℕ) → Option (UnitView × ℕ)
row_from xs d o = option_map (λ p. (get_or xs p.0 d, p.1)) o

row_later : (x : UnitView) (xs : List UnitView) (d : UnitView) (o : Option (ℕ × ℕ))
    → row_from xs d o ≡ row_from (x ∷ xs) d (option_map (λ p. (p.0 + 1, p.1)) o)
row_later x xs d None = refl
row_later x xs d (Some p) = ap (λ m. Some (get_or (x ∷ xs) m d, p.1)) (sym (add-one p.0))

row_by : (x : UnitView) (xs : List UnitView) (d : UnitView) (r : ℕ) (o : Option (UnitView × ℕ)) (q : Option (ℕ × ℕ))
    (b : Bool) → o ≡ row_from xs d q
    → (if b then Some (x, r) else o) ≡ row_from (x ∷ xs) d
    (if b then Some (0, r) else option_map (λ p. (p.0 + 1, p.1)) q)
row_by x xs d r o q true e = refl
row_by x xs d r o q false e = e ∙ row_later x xs d q

pub row_is : (xs : List UnitView) (r : ℕ) (d : UnitView) → row_in xs r ≡ row_from xs d (place_among (row_counts xs) r)
row_is [] r d = refl
row_is (x ∷ xs) r d =
    row_by x xs d r (row_in xs (r - length x.lines)) (place_among (row_counts xs) (r - length x.lines))
    (nat_lt r (length x.lines))
    (row_is xs (r - length x.lines) d)

-- ---- how many there are

sums_last : (n : ℕ) (ks : List ℕ) → get_or (sums_from n ks) (length ks) 0 ≡ n + total ks
sums_last n [] = omega arith
sums_last n (k ∷ ks) = sums_last (n + k) ks ∙ omega arith

pub last_is : {X : Type 0} (g : UnitView → List X) (h : UnitView → ℕ) → ((x : UnitView) → h x ≡ length (g x))
    → (xs : List UnitView)
    (firsts : List ℕ) (m : ℕ) → firsts ≡ sums_from 0 (map h xs) → m ≡ length firsts - 1
    → get_or firsts m 0 ≡ length (flat_map g xs)
last_is g h same xs firsts m e so =
    let last : m ≡ length (map h xs) = omega (arith, sums_length 0 (map h xs), ap length e) in
    let sum : get_or (sums_from 0 (map h xs)) (length (map h xs)) 0 ≡ total (map h xs) =
    omega (arith, sums_last 0 (map h xs)) in
    ap (λ fs. get_or fs m 0) e ∙ ap (λ k. get_or (sums_from 0 (map h xs)) k 0) last ∙ sum ∙ total_is g h same xs

-- ---- errors, each with the path of its unit

abbrev pub placed_errors : UnitView → List (Option (List ℕ) × ErrorAt)
placed_errors x = map (λ e. (x.path, e)) x.errors

as_many : {A B : Type 0} (f : A → B) (xs : List A) → length xs ≡ length (map f xs)
as_many f [] = refl
as_many f (x ∷ xs) = omega (arith, as_many f xs)

pub as_many_errors : (x : UnitView) → length x.errors ≡ length (placed_errors x)
as_many_errors x = as_many (λ e. (x.path, e)) x.errors

-- ---- rows, each with the part that shows it

parts_of_lines : (ss : List WideStretch) → length (flat_map stretch_lines ss) ≡ length (flat_map line_parts ss)
parts_of_lines [] = refl
parts_of_lines (s ∷ ss) =
    omega (
      arith,
      as_many (line_under s.part) s.lines,
      as_many (λ line. s.part) s.lines,
      parts_of_lines ss,
      length-append (stretch_lines s) (flat_map stretch_lines ss),
      length-append (line_parts s) (flat_map line_parts ss),
    )

-- there are as many as lines
pub as_many_parts : (x : Shown) → length (unit_view x).lines ≡ length (unit_row_parts x)
as_many_parts x = ap length (unit_lines x) ∙ parts_of_lines (stretches x)

counts_same : (xs : List Shown) → map (λ x. length (unit_view x).lines) xs ≡ row_counts (unit_views xs)
counts_same [] = refl
counts_same (x ∷ xs) = ap (λ ks. length (unit_view x).lines ∷ ks) (counts_same xs)

part_found : (xs : List Shown) (r : ℕ) (o : Option (ℕ × ℕ)) → o ≡ place_among (row_counts (unit_views xs)) r
    → IsFound unit_row_parts xs r o
part_found xs r o e =
    subst (λ (q : Option (ℕ × ℕ)). IsFound unit_row_parts xs r q)
    (ap (λ ks. place_among ks r) (counts_same xs) ∙ sym e)
    (is_found unit_row_parts (λ x. length (unit_view x).lines) as_many_parts xs r)

-- ---- where rows and errors are

nowhere : UnitView
nowhere = record { path = None; errors = []; paragraphs = []; lines = [] }

read_view : (xs : List Shown) (i : ℕ) (d : Shown) → i < length xs
    → get_or (unit_views xs) i (unit_view d) ≡ unit_view (get_or xs i d)
read_view xs i d lt = get_or-map unit_view xs i d (unit_view d) lt

row_case : (xs : List Shown) (r : ℕ) (o : Option (ℕ × ℕ)) → IsFound (λ x. x.lines) (unit_views xs) r o
    → ((d : UnitView) → row_in (unit_views xs) r ≡ row_from (unit_views xs) d o) → IsFound unit_row_parts xs r o
    → IsRowOfUnit xs r o
row_case xs r None f h parts = (h nowhere, f)
row_case xs r (Some p) f h parts =
    let there : p.0 < length xs = omega (arith, f.there, as_many unit_view xs) in (
      there,
      λ d. record {
        row = h (unit_view d) ∙ ap (λ x. Some (x, p.1)) (read_view xs p.0 d there);
        within = subst (λ (x : UnitView). p.1 < length x.lines) (read_view xs p.0 d there) (f.within (unit_view d));
        line = f.same (unit_view d) ∙ ap (λ x. slice_get x.lines p.1) (read_view xs p.0 d there);
        part = parts.same d;
      },
    )

pub row_told : (xs : List Shown) (r : ℕ) (o : Option (ℕ × ℕ)) → o ≡ place_among (row_counts (unit_views xs)) r
    → IsRowOfUnit xs r o
row_told xs r o e =
    row_case xs r o
    (subst (λ (q : Option (ℕ × ℕ)). IsFound (λ x. x.lines) (unit_views xs) r q) (sym e)
    (is_found (λ x. x.lines) (λ x. length x.lines) (λ x. refl) (unit_views xs) r))
    (λ d. row_is (unit_views xs) r d ∙ ap (row_from (unit_views xs) d) (sym e)) (part_found xs r o e)

error_case : (xs : List Shown) (r : ℕ) (o : Option (ℕ × ℕ)) → IsFound placed_errors (unit_views xs) r o → IsError xs r o
error_case xs r None f = f
error_case xs r (Some p) f =
    let there : p.0 < length xs = omega (arith, f.there, as_many unit_view xs) in (
      there,
      λ d. record {
        within =
            omega (
              arith,
              subst (λ (x : UnitView). p.1 < length (placed_errors x)) (read_view xs p.0 d there)
                  (f.within (unit_view d)),
              as_many_errors (unit_view (get_or xs p.0 d)),
            );
        error = f.same (unit_view d) ∙ ap (λ x. slice_get (placed_errors x) p.1) (read_view xs p.0 d there);
      },
    )

pub error_told : (xs : List Shown) (r : ℕ) (o : Option (ℕ × ℕ)) → o ≡ place_among (error_counts (unit_views xs)) r
    → IsError xs r o
error_told xs r o e =
    error_case xs r o
    (subst (λ (q : Option (ℕ × ℕ)). IsFound placed_errors (unit_views xs) r q) (sym e)
    (is_found placed_errors (λ x. length x.errors) as_many_errors (unit_views xs) r))
