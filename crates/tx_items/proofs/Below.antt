-- What is in the cells of a `tabular`, and what it shows.
use Rattle.std.proofs.Common.{◌≡◌, ℕ, zero, suc, ◌+◌, ◌<◌, ◌≤◌, max, Bool, true, false, ◌&&◌, List, [], ◌∷◌, ◌++◌}
use Rattle.std.proofs.Common.{map, length, get_or, Option, Some, None, refl, sym, ap, ap₂, ◌∙◌, subst, arith}
use Rattle.std.proofs.Common.{append_assoc, append-nil}
use Rattle.std.specs.Prelude.{codes, option_and_then, if◌then◌else◌}
use Rattle.std.specs.List.{enumerate_from, range_with_len}
use Rattle.std.specs.Option.{option_map}
use Rattle.std.specs.Str.{bytes_eq}
use Rattle.std.proofs.lemmas.List.{length-map, length-append}
use Rattle.std.proofs.lemmas.List.FromFn.{length-range_with_len}
use Rattle.tx_tree.specs.WideTree.{depth_of, deepest}
use Rattle.tx_origin.specs.Values.{WideValue, WideValues, text, made, none, also, vals, each_of, plain, plains}
use Rattle.tx_origin.proofs.Parts.{vals_each, deepest-append}
use Rattle.tx_table.specs.declared.grids.Grid.{Grid}
use Rattle.tx_table.specs.declared.settings.Side.{Side}
use Rattle.tx_table.specs.Settings.{parts_if, side_at, row_sides, sides_of, settings_in}
use Rattle.tx_table.specs.Grids.{all_some, some_of, one_of, cell_value, some_parts, row_cells, table_rows}
use Rattle.tx_table.specs.Grids.{column_count, before_last, last_of, grid_with, table_grid, format_grid, grid_of}
use Rattle.tx_items.specs.declared.attributes.Attrs.{Attrs}
use Rattle.tx_items.specs.Tables.{Level, Every, Final, levels_of}
use Rattle.tx_items.specs.Flat.{is_flat, all_flat, flat_below}
use Rattle.tx_items.specs.Shows.{AllShown, both_shown, nothing_shown, show, show_all, show_below}
use Rattle.tx_items.specs.Shows as shows
use Rattle.tx_items.specs.Running.{all_cells}
use Rattle.tx_items.proofs.Flatness.{and_true}
use Rattle.tx_items.proofs.Runs.{show_all_also}

-- what these levels lead to
abbrev pub cells_below : List Level → WideValues → List WideValue
cells_below levels none = []
cells_below [] (also v none) = v ∷ []
cells_below [] (also x (also v vs)) = []
cells_below (Every ∷ levels) (also (text words at) vs) = cells_below (Every ∷ levels) vs
cells_below (Every ∷ levels) (also (made label ws at) vs) = cells_below levels ws ++ cells_below (Every ∷ levels) vs
cells_below (Final ∷ levels) (also (text words at) none) = []
cells_below (Final ∷ levels) (also (made label ws at) none) = cells_below levels ws
cells_below (Final ∷ levels) (also x (also v vs)) = cells_below (Final ∷ levels) (also v vs)

-- ---- what shows there

pub all_nothing : (a : Attrs) → show_all false a none ≡ nothing_shown a
unfolding show_all
all_nothing a = refl

pub all_first : (a : Attrs) (v : WideValue) (vs : WideValues)
    → show_all false a (also v vs) ≡ both_shown (shows.one_of (show a v)) (show_all false (show a v).after vs)
unfolding show_all show
all_first a v vs = refl

both_assoc : (x y z : AllShown) → both_shown (both_shown x y) z ≡ both_shown x (both_shown y z)
both_assoc x y z =
    ap₂ {C = AllShown} (λ fs es. record { each = fs; after = z.after; errors = es }) (append_assoc x.each y.each z.each)
    (append_assoc x.errors y.errors z.errors)

nothing_both : (a : Attrs) (x : AllShown) → both_shown (nothing_shown a) x ≡ x
nothing_both a x = refl

both_nothing : (x : AllShown) → both_shown x (nothing_shown x.after) ≡ x
both_nothing x =
    ap₂ {C = AllShown} (λ fs es. record { each = fs; after = x.after; errors = es }) (append-nil x.each)
    (append-nil x.errors)

pub all_append : (a : Attrs) (us vs : List WideValue)
    → show_all false a (vals (us ++ vs))
    ≡ both_shown (show_all false a (vals us)) (show_all false (show_all false a (vals us)).after (vals vs))
all_append a [] vs =
    let P : AllShown → AllShown = λ x. both_shown x (show_all false x.after (vals vs)) in
    sym (nothing_both a (show_all false a (vals vs))) ∙ sym (ap P (all_nothing a))
all_append a (u ∷ us) vs =
    let P : AllShown → AllShown = λ x. both_shown x (show_all false x.after (vals vs)) in
    let rest : AllShown = show_all false (show a u).after (vals us) in
    all_first a u (vals (us ++ vs)) ∙ ap (both_shown (shows.one_of (show a u))) (all_append (show a u).after us vs)
    ∙ sym (both_assoc (shows.one_of (show a u)) rest (show_all false rest.after (vals vs)))
    ∙ sym (ap P (all_first a u (vals us)))

mutual
  unfolding show

  pub below_all : (levels : List Level) (a : Attrs) (vs : WideValues)
      → show_below levels a vs ≡ show_all false a (vals (cells_below levels vs))
  below_all levels a none = refl
  below_all [] a (also v none) = sym (all_first a v none ∙ both_nothing (shows.one_of (show a v)))
  below_all [] a (also x (also v vs)) = refl
  below_all (Every ∷ levels) a (also (text words at) vs) = below_all (Every ∷ levels) a vs
  below_all (Every ∷ levels) a (also (made label ws at) vs) =
      ap (λ x. both_shown x (show_below (Every ∷ levels) x.after vs)) (below_all levels a ws)
      ∙ ap (both_shown (show_all false a (vals (cells_below levels ws))))
      (below_all (Every ∷ levels) (show_all false a (vals (cells_below levels ws))).after vs)
      ∙ sym (all_append a (cells_below levels ws) (cells_below (Every ∷ levels) vs))
  below_all (Final ∷ levels) a (also (text words at) none) = refl
  below_all (Final ∷ levels) a (also (made label ws at) none) = below_all levels a ws
  below_all (Final ∷ levels) a (also x (also v vs)) = below_all (Final ∷ levels) a (also v vs)

-- ---- whether it is flat there

pub flat_append : (us vs : List WideValue) → all_flat (vals (us ++ vs)) ≡ all_flat (vals us) && all_flat (vals vs)
unfolding is_flat
flat_append [] vs = refl
flat_append (u ∷ us) vs = ap (λ b. is_flat u && b) (flat_append us vs) ∙ assoc (is_flat u) (all_flat (vals us))
  where
    assoc : (x y : Bool) → x && (y && all_flat (vals vs)) ≡ (x && y) && all_flat (vals vs)
    assoc true y = refl
    assoc false y = refl

mutual
  unfolding is_flat

  pub below_flat : (levels : List Level) (vs : WideValues)
      → flat_below levels vs ≡ all_flat (vals (cells_below levels vs))
  below_flat levels none = refl
  below_flat [] (also v none) = sym (and_true (is_flat v))
  below_flat [] (also x (also v vs)) = refl
  below_flat (Every ∷ levels) (also (text words at) vs) = below_flat (Every ∷ levels) vs
  below_flat (Every ∷ levels) (also (made label ws at) vs) =
      ap₂ ◌&&◌ (below_flat levels ws) (below_flat (Every ∷ levels) vs)
      ∙ sym (flat_append (cells_below levels ws) (cells_below (Every ∷ levels) vs))
  below_flat (Final ∷ levels) (also (text words at) none) = refl
  below_flat (Final ∷ levels) (also (made label ws at) none) = below_flat levels ws
  below_flat (Final ∷ levels) (also x (also v vs)) = below_flat (Final ∷ levels) (also v vs)

-- ---- how deep it is there

mutual
  below_deep : (levels : List Level) (vs : WideValues)
      → deepest (plains (vals (cells_below levels vs))) ≤ deepest (plains vs)
  below_deep levels none = omega arith
  below_deep [] (also v none) = omega arith
  below_deep [] (also x (also v vs)) = omega arith
  below_deep (Every ∷ levels) (also (text words at) vs) = omega (arith, below_deep (Every ∷ levels) vs)
  below_deep (Every ∷ levels) (also (made label ws at) vs) =
      omega (
        arith,
        below_deep levels ws,
        below_deep (Every ∷ levels) vs,
        deepest-append (cells_below levels ws) (cells_below (Every ∷ levels) vs),
      )
  below_deep (Final ∷ levels) (also (text words at) none) = omega arith
  below_deep (Final ∷ levels) (also (made label ws at) none) = omega (arith, below_deep levels ws)
  below_deep (Final ∷ levels) (also x (also v vs)) = omega (arith, below_deep (Final ∷ levels) (also v vs))

-- ---- grids

abbrev in_value : List Level → WideValue → List WideValue
in_value levels (text words at) = []
in_value levels (made label ws at) = cells_below levels ws

abbrev joined_by : {X : Type 0} → (X → List WideValue) → List X → List WideValue
joined_by g [] = []
joined_by g (x ∷ xs) = g x ++ joined_by g xs

joined_ones : (vs : List WideValue) → joined_by (λ v. v ∷ []) vs ≡ vs
joined_ones [] = refl
joined_ones (v ∷ vs) = ap (λ us. v ∷ us) (joined_ones vs)

joined_rows : (rows : List (List WideValue)) → joined_by (λ r. r) rows ≡ all_cells rows
joined_rows [] = refl
joined_rows (row ∷ rows) = ap (λ us. row ++ us) (joined_rows rows)

then_some : {X Y : Type 0} (f : X → Option Y) (o : Option X) (y : Y) → option_and_then f o ≡ Some y
    → (x : X) × ((o ≡ Some x) × (f x ≡ Some y))
then_some f None y e = absurd cc
then_some f (Some x) y e = (x, (refl, e))

map_some : {X Y : Type 0} (f : X → Y) (o : Option X) (y : Y) → option_map f o ≡ Some y
    → (x : X) × ((o ≡ Some x) × (f x ≡ y))
map_some f None y e = absurd cc
map_some f (Some x) y e = let same : f x ≡ y = cc in (x, (refl, same))

parts_in : (label : List ℕ) (levels : List Level) (v : WideValue) (us : List WideValue)
    → parts_if label v ≡ Some us → in_value levels v ≡ cells_below levels (vals us)
parts_in label levels (text words at) us e = absurd cc
parts_in label levels (made l ws at) us e = pick (bytes_eq l label) e
  where
    pick : (b : Bool) → (if b then Some (each_of ws) else None) ≡ Some us
        → cells_below levels ws ≡ cells_below levels (vals us)
    pick true h = let same : each_of ws ≡ us = cc in ap (cells_below levels) (sym (vals_each ws) ∙ ap vals same)
    pick false h = absurd cc

first_in : (levels : List Level) (u : WideValue) (us : List WideValue)
    → cells_below (Every ∷ levels) (vals (u ∷ us)) ≡ in_value levels u ++ cells_below (Every ∷ levels) (vals us)
first_in levels (text words at) us = refl
first_in levels (made label ws at) us = refl

each_in : {X : Type 0} (f : WideValue → Option X) (g : X → List WideValue) (levels : List Level)
    → ((v : WideValue) (x : X) → f v ≡ Some x → in_value levels v ≡ g x)
    → (us : List WideValue) (xs : List X) → all_some (map f us) ≡ Some xs
    → cells_below (Every ∷ levels) (vals us) ≡ joined_by g xs
each_in f g levels h [] xs e = let same : [] ≡ xs = cc in ap (joined_by g) same
each_in {X = X} f g levels h (u ∷ us) xs e =
    pick (λ ys j. each_in f g levels h us ys j) (f u) refl (all_some (map f us)) refl e
  where
    Rest : Type 0
    Rest = (ys : List X) → all_some (map f us) ≡ Some ys → cells_below (Every ∷ levels) (vals us) ≡ joined_by g ys

    pick : Rest → (o : Option X) → f u ≡ o → (p : Option (List X)) → all_some (map f us) ≡ p
        → all_some (o ∷ map f us) ≡ Some xs → cells_below (Every ∷ levels) (vals (u ∷ us)) ≡ joined_by g xs
    pick rest None i p j k = absurd cc
    pick rest (Some x) i None j k =
        let no : option_map (λ ys. x ∷ ys) None ≡ Some xs = ap (option_map (λ ys. x ∷ ys)) (sym j) ∙ k in absurd cc
    pick rest (Some x) i (Some ys) j k =
        let whole : option_map (λ zs. x ∷ zs) (Some ys) ≡ Some xs = ap (option_map (λ zs. x ∷ zs)) (sym j) ∙ k in
        let same : x ∷ ys ≡ xs = cc in
        first_in levels u us ∙ ap₂ ◌++◌ (h u x i) (rest ys j) ∙ ap (joined_by g) same

some_same : {X : Type 0} (us xs : List X) → some_of us ≡ Some xs → us ≡ xs
some_same [] xs e = absurd cc
some_same (u ∷ us) xs e = cc

one_same : (us : List WideValue) (x : WideValue) → one_of us ≡ Some x → cells_below [] (vals us) ≡ x ∷ []
one_same [] x e = absurd cc
one_same (u ∷ []) x e = let same : u ≡ x = cc in ap (λ v. v ∷ []) same
one_same (u ∷ (v ∷ us)) x e = absurd cc

cell_in : (v x : WideValue) → cell_value v ≡ Some x → in_value [] v ≡ x ∷ []
cell_in v x e =
    let p = then_some one_of (parts_if (codes "cell") v) x e in
    parts_in (codes "cell") [] v p.0 p.1.0 ∙ one_same p.0 x p.1.1

row_in : (v : WideValue) (row : List WideValue) → row_cells v ≡ Some row → in_value (Every ∷ []) v ≡ row
row_in v row e =
    let p = then_some (λ vs. all_some (map cell_value vs)) (some_parts (codes "row") v) row e in
    let q = then_some some_of (parts_if (codes "row") v) p.0 p.1.0 in
    parts_in (codes "row") (Every ∷ []) v q.0 q.1.0 ∙ ap (λ us. cells_below (Every ∷ []) (vals us)) (some_same q.0 p.0 q.1.1)
    ∙ each_in cell_value (λ x. x ∷ []) [] cell_in p.0 row p.1.1 ∙ joined_ones row

rows_in : (v : WideValue) (rows : List (List WideValue)) → table_rows v ≡ Some rows
    → in_value (Every ∷ (Every ∷ [])) v ≡ all_cells rows
rows_in v rows e =
    let p = then_some (λ vs. all_some (map row_cells vs)) (some_parts (codes "table") v) rows e in
    let q = then_some some_of (parts_if (codes "table") v) p.0 p.1.0 in
    parts_in (codes "table") (Every ∷ (Every ∷ [])) v q.0 q.1.0
    ∙ ap (λ us. cells_below (Every ∷ (Every ∷ [])) (vals us)) (some_same q.0 p.0 q.1.1)
    ∙ each_in row_cells (λ r. r) (Every ∷ []) row_in p.0 rows p.1.1 ∙ joined_rows rows

last_in : (levels : List Level) (us : List WideValue) (v : WideValue) → last_of us ≡ Some v
    → cells_below (Final ∷ levels) (vals us) ≡ in_value levels v
last_in levels [] v e = absurd cc
last_in levels (u ∷ []) v e = let same : u ≡ v = cc in one u ∙ ap (in_value levels) same
  where
    one : (w : WideValue) → cells_below (Final ∷ levels) (also w none) ≡ in_value levels w
    one (text words at) = refl
    one (made label ws at) = refl
last_in levels (u ∷ (w ∷ us)) v e = last_in levels (w ∷ us) v e

-- each is more than 0
abbrev pub AreSome : List ℕ → Type 0
AreSome [] = Unit {0}
AreSome (n ∷ ns) = (0 < n) × AreSome ns

abbrev pub sum_of : List ℕ → ℕ
sum_of [] = 0
sum_of (n ∷ ns) = n + sum_of ns

some_there : {X : Type 0} (us xs : List X) → some_of us ≡ Some xs → 0 < length xs
some_there [] xs e = absurd cc
some_there (u ∷ us) xs e = let same : u ∷ us ≡ xs = cc in rw (← same) (omega arith)

all_long : {X : Type 0} (f : WideValue → Option X) (us : List WideValue) (xs : List X)
    → all_some (map f us) ≡ Some xs → length xs ≡ length us
all_long f [] xs e = let same : [] ≡ xs = cc in rw (← same) refl
all_long {X = X} f (u ∷ us) xs e = pick (λ ys j. all_long f us ys j) (f u) (all_some (map f us)) refl e
  where
    pick : ((ys : List X) → all_some (map f us) ≡ Some ys → length ys ≡ length us)
        → (o : Option X) (p : Option (List X)) → all_some (map f us) ≡ p → all_some (o ∷ map f us) ≡ Some xs
        → length xs ≡ suc (length us)
    pick rest None p j k = absurd cc
    pick rest (Some x) None j k =
        let no : option_map (λ ys. x ∷ ys) None ≡ Some xs = ap (option_map (λ ys. x ∷ ys)) (sym j) ∙ k in absurd cc
    pick rest (Some x) (Some ys) j k =
        let whole : option_map (λ zs. x ∷ zs) (Some ys) ≡ Some xs = ap (option_map (λ zs. x ∷ zs)) (sym j) ∙ k in
        let same : x ∷ ys ≡ xs = cc in
        sym (ap length same) ∙ ap suc (rest ys j)

row_some : (v : WideValue) (row : List WideValue) → row_cells v ≡ Some row → 0 < length row
row_some v row e =
    let p = then_some (λ vs. all_some (map cell_value vs)) (some_parts (codes "row") v) row e in
    let q = then_some some_of (parts_if (codes "row") v) p.0 p.1.0 in
    omega (arith, some_there q.0 p.0 q.1.1, all_long cell_value p.0 row p.1.1)

all_rows_some : (us : List WideValue) (rows : List (List WideValue)) → all_some (map row_cells us) ≡ Some rows
    → AreSome (map length rows)
all_rows_some [] rows e = let same : [] ≡ rows = cc in subst (λ rs. AreSome (map length rs)) same tt
all_rows_some (u ∷ us) rows e =
    pick (λ ys j. all_rows_some us ys j) (row_cells u) refl (all_some (map row_cells us)) refl e
  where
    pick : ((ys : List (List WideValue)) → all_some (map row_cells us) ≡ Some ys → AreSome (map length ys))
        → (o : Option (List WideValue)) → row_cells u ≡ o → (p : Option (List (List WideValue)))
        → all_some (map row_cells us) ≡ p → all_some (o ∷ map row_cells us) ≡ Some rows → AreSome (map length rows)
    pick rest None i p j k = absurd cc
    pick rest (Some x) i None j k =
        let no : option_map (λ ys. x ∷ ys) None ≡ Some rows = ap (option_map (λ ys. x ∷ ys)) (sym j) ∙ k in absurd cc
    pick rest (Some x) i (Some ys) j k =
        let whole : option_map (λ zs. x ∷ zs) (Some ys) ≡ Some rows = ap (option_map (λ zs. x ∷ zs)) (sym j) ∙ k in
        let same : x ∷ ys ≡ rows = cc in
        subst (λ rs. AreSome (map length rs)) same ((row_some u x i, rest ys j))

rows_some : (v : WideValue) (rows : List (List WideValue)) → table_rows v ≡ Some rows → AreSome (map length rows)
rows_some v rows e =
    let p = then_some (λ vs. all_some (map row_cells vs)) (some_parts (codes "table") v) rows e in
    all_rows_some p.0 rows p.1.1

-- a grid, and the cells that it has
abbrev Holds : Grid → List WideValue → Type 0
Holds g cells = (map length g.sides ≡ map length g.rows) × (all_cells g.rows ≡ cells) × (AreSome (map length g.rows))

lengths_from : (f : ℕ → ℕ → List Side) → ((k n : ℕ) → length (f k n) ≡ n) → (k : ℕ) (rows : List (List WideValue))
    → map length (map (λ row. f row.0 (length row.1)) (enumerate_from k rows)) ≡ map length rows
lengths_from f h k [] = refl
lengths_from f h k (row ∷ rows) = ap₂ ◌∷◌ (h k (length row)) (lengths_from f h (k + 1) rows)

table_holds : (sets : List WideValue) (v : WideValue) (g : Grid) → table_grid sets v ≡ Some g
    → Holds g (in_value (Every ∷ (Every ∷ [])) v)
table_holds sets v g e =
    let p = map_some (grid_with sets) (table_rows v) g e in
    subst (λ x. Holds x (in_value (Every ∷ (Every ∷ [])) v)) p.1.1 (
      lengths_from (row_sides (settings_in (length p.0) (column_count p.0) sets))
          (λ k n.
          length-map (range_with_len 0 n) (side_at (settings_in (length p.0) (column_count p.0) sets) k)
          ∙ length-range_with_len 0 n) 0 p.0,
      sym (rows_in v p.0 p.1.0),
      rows_some v p.0 p.1.0,
    )

format_holds : (v : WideValue) (g : Grid) → format_grid v ≡ Some g
    → Holds g (cells_below (levels_of (also v none)) (also v none))
format_holds (text words at) g e = absurd cc
format_holds (made label vs at) g e = pick (bytes_eq label (codes "tformat")) e
  where
    long : List Level
    long = Every ∷ (Final ∷ (Every ∷ (Every ∷ [])))

    short : List Level
    short = Every ∷ (Every ∷ (Every ∷ []))

    pick : (b : Bool) → (if b then option_and_then (table_grid (before_last (each_of vs))) (last_of (each_of vs))
        else table_grid [] (made label vs at)) ≡ Some g
        → Holds g (cells_below (if b then long else short) (also (made label vs at) none))
    pick true h =
        let p = then_some (table_grid (before_last (each_of vs))) (last_of (each_of vs)) g h in
        let own = table_holds (before_last (each_of vs)) p.0 g p.1.1 in (
          own.0,
          own.1 ∙ sym (last_in (Every ∷ (Every ∷ [])) (each_of vs) p.0 p.1.0)
              ∙ ap (cells_below (Final ∷ (Every ∷ (Every ∷ [])))) (vals_each vs)
              ∙ sym (append-nil (cells_below (Final ∷ (Every ∷ (Every ∷ []))) vs)),
          own.2,
        )
    pick false h =
        let own = table_holds [] (made label vs at) g h in
        (own.0, own.1 ∙ sym (append-nil (cells_below (Every ∷ (Every ∷ [])) vs)), own.2)

only_part : (label : List ℕ) (v : WideValue) (us : List WideValue) (x : WideValue) (vs : WideValues) (l : List ℕ)
    (at : Option (List ℕ)) → v ≡ made l vs at → parts_if label v ≡ Some us → one_of us ≡ Some x → vs ≡ also x none
only_part label v us x vs l at is e f =
    let told : parts_if label (made l vs at) ≡ Some us = ap (parts_if label) (sym is) ∙ e in
    pick (bytes_eq l label) told
  where
    only : (ws : WideValues) → one_of (each_of ws) ≡ Some x → ws ≡ also x none
    only none h = absurd cc
    only (also w none) h = let same : w ≡ x = cc in ap (λ y. also y none) same
    only (also w (also y ws)) h = absurd cc

    pick : (b : Bool) → (if b then Some (each_of vs) else None) ≡ Some us → vs ≡ also x none
    pick true h = let same : each_of vs ≡ us = cc in only vs (ap one_of same ∙ f)
    pick false h = absurd cc

-- the cells of a grid are those to which the levels lead, and each row has as many sides as cells
pub grid_holds : (label : List ℕ) (vs : WideValues) (at : Option (List ℕ)) (g : Grid)
    → grid_of (made label vs at) ≡ Some g
    → (map length g.sides ≡ map length g.rows) × (all_cells g.rows ≡ cells_below (levels_of vs) vs)
    × (AreSome (map length g.rows))
grid_holds label vs at g e =
    let p = then_some format_grid (option_and_then one_of (parts_if (codes "tabular") (made label vs at))) g e in
    let q = then_some one_of (parts_if (codes "tabular") (made label vs at)) p.0 p.1.0 in
    let one : vs ≡ also p.0 none =
    only_part (codes "tabular") (made label vs at) q.0 p.0 vs label at refl q.1.0 q.1.1 in
    subst (λ ws. Holds g (cells_below (levels_of ws) ws)) (sym one) (format_holds p.0 g p.1.1)

pub grid_shallower : (label : List ℕ) (vs : WideValues) (at : Option (List ℕ)) (g : Grid)
    → grid_of (made label vs at) ≡ Some g
    → deepest (plains (vals (all_cells g.rows))) < depth_of (plain (made label vs at))
grid_shallower label vs at g e =
    rw ((grid_holds label vs at g e).1) (omega (arith, below_deep (levels_of vs) vs))

-- ---- how many cells there are

pub each_length : (a : Attrs) (xs : List WideValue) → length (show_all false a (vals xs)).each ≡ length xs
unfolding show_all
each_length a [] = refl
each_length a (x ∷ xs) = omega (arith, each_length (show a x).after xs)

cells_long : (rows : List (List WideValue)) → length (all_cells rows) ≡ sum_of (map length rows)
cells_long [] = refl
cells_long (row ∷ rows) = omega (arith, length-append row (all_cells rows), cells_long rows)

pub cells_known : (a : Attrs) (label : List ℕ) (vs : WideValues) (at : Option (List ℕ)) (grid : Grid)
    → grid_of (made label vs at) ≡ Some grid
    → (AreSome (map length grid.sides))
    × (length (show_below (levels_of vs) a vs).each ≡ sum_of (map length grid.sides))
cells_known a label vs at grid e =
    let h = grid_holds label vs at grid e in (
      subst AreSome (sym h.0) h.2,
      ap (λ x. length x.each) (below_all (levels_of vs) a vs) ∙ each_length a (cells_below (levels_of vs) vs)
          ∙ ap length (sym h.1) ∙ cells_long grid.rows ∙ ap sum_of (sym h.0),
    )
