-- A value shows in a line that nothing in it ends where it is flat.
use Rattle.std.proofs.Common.{◌≡◌, ℕ, Bool, true, false, not, ◌||◌, ◌&&◌, cond, List, [], ◌∷◌, ◌++◌, map, Option}
use Rattle.std.proofs.Common.{Some, None, refl, sym, ap, ap₂, ◌∙◌}
use Rattle.std.specs.Prelude.{codes, option_and_then, ℤ}
use Rattle.std.specs.List.{list_any}
use Rattle.tx_prim.specs.Lengths.{length_of}
use Rattle.tx_origin.specs.Values.{WideValue, WideValues, text, made, none, also, value_text}
use Rattle.tx_text.specs.declared.cutting.Cluster.{Cluster}
use Rattle.tx_text.specs.Clusters.{items_of, clusters_of}
use Rattle.tx_table.specs.declared.grids.Grid.{Grid}
use Rattle.tx_table.specs.Grids.{grid_of}
use Rattle.tx_items.specs.declared.attributes.Attrs.{Attrs}
use Rattle.tx_items.specs.declared.drawing.Item.{Item}
use Rattle.tx_items.specs.declared.drawing.Item.TheVariants.{Glyph, Space, Chance, Gap, Down}
use Rattle.tx_items.specs.Looks.{WideLook}
use Rattle.tx_items.specs.Attributes.{with_named, attribute_in}
use Rattle.tx_items.specs.Drawing.{is_space, is_chance, look_of, item_of, drawn}
use Rattle.tx_items.specs.Tables.{is_cut, Level, Every, Final, levels_of}
use Rattle.tx_items.specs.Rules.{Rule, rule_of}
use Rattle.tx_items.specs.Rules as rules
use Rattle.tx_items.specs.Flat.{is_no_length, flat_space, is_table, rule_flat, is_flat, all_flat, last_flat, flat_below}
use Rattle.tx_items.specs.Shows.{ItemRun, empty, begun, run_of, beside, Form, inline, listed, Shown, AllShown}
use Rattle.tx_items.specs.Shows.{all_inline, side_by_side, paragraphs_of, joined_forms, error_items, with_shown}
use Rattle.tx_items.specs.Shows.{assign_shown, space_by, space_shown, error_by, error_shown, made_form, run_items}
use Rattle.tx_items.specs.Shows.{fits_cell, cells_fit, rows_shown, bad, tabular_shown, rule_shown, giving_back, show}
use Rattle.tx_items.specs.Shows.{show_all, show_with, show_below}

-- ---- items of which none ends a line

abbrev Uncut : List Item → Bool
Uncut xs = not (list_any is_cut xs)

swap : (x y z : Bool) → x && (y && z) ≡ y && (x && z)
swap true y z = refl
swap false true z = refl
swap false false z = refl

and_assoc : (x y z : Bool) → (x && y) && z ≡ x && (y && z)
and_assoc true y z = refl
and_assoc false y z = refl

pub and_true : (x : Bool) → x && true ≡ x
and_true true = refl
and_true false = refl

neither : (x y : Bool) → not (x || y) ≡ not x && not y
neither true y = refl
neither false y = refl

uncut_cons : (x : Item) (xs : List Item) → Uncut (x ∷ xs) ≡ not (is_cut x) && Uncut xs
uncut_cons x xs = neither (is_cut x) (list_any is_cut xs)

uncut_append : (xs ys : List Item) → Uncut (xs ++ ys) ≡ Uncut xs && Uncut ys
uncut_append [] ys = refl
uncut_append (x ∷ xs) ys =
    uncut_cons x (xs ++ ys) ∙ ap (λ b. not (is_cut x) && b) (uncut_append xs ys)
    ∙ sym (and_assoc (not (is_cut x)) (Uncut xs) (Uncut ys)) ∙ ap (λ b. b && Uncut ys) (sym (uncut_cons x xs))

both_uncut : (xs ys : List Item) → Uncut xs ≡ true → Uncut ys ≡ true → Uncut (xs ++ ys) ≡ true
both_uncut xs ys h k = uncut_append xs ys ∙ ap₂ ◌&&◌ h k

cluster_uncut : (look : WideLook) (c : Cluster) → is_cut (item_of look c) ≡ false
cluster_uncut look c = pick (is_space c.glyphs) (is_chance c.glyphs)
  where
    pick : (b e : Bool) → is_cut (cond b (Space (record { cluster = c; look = look }))
        (cond e (Chance (record { cluster = c; look = look })) (Glyph (record { cluster = c; look = look })))) ≡ false
    pick true e = refl
    pick false true = refl
    pick false false = refl

clusters_uncut : (look : WideLook) (cs : List Cluster) → Uncut (map (item_of look) cs) ≡ true
clusters_uncut look [] = refl
clusters_uncut look (c ∷ cs) =
    uncut_cons (item_of look c) (map (item_of look) cs)
    ∙ ap₂ (λ x y. not x && y) (cluster_uncut look c) (clusters_uncut look cs)

drawn_uncut : (a : Attrs) (at : Option (List ℕ)) (words : List ℕ) → Uncut (drawn a at words) ≡ true
drawn_uncut a at words = clusters_uncut (look_of a at) (clusters_of (items_of words))

error_uncut : (a : Attrs) (kind detail : List ℕ) → Uncut (error_items a kind detail) ≡ true
error_uncut a kind [] =
    let front : List Item = drawn a None (codes "<less>!") in
    both_uncut (front ++ drawn a None kind) (drawn a None (codes "<gtr>"))
    (both_uncut front (drawn a None kind) (drawn_uncut a None (codes "<less>!")) (drawn_uncut a None kind))
    (drawn_uncut a None (codes "<gtr>"))
error_uncut a kind (d ∷ detail) =
    let one : List Item = drawn a None (codes "<less>!") ++ drawn a None kind in
    let two : List Item = one ++ drawn a None (codes " ") in
    let three : List Item = two ++ drawn a None (d ∷ detail) in
    both_uncut three (drawn a None (codes "<gtr>"))
    (both_uncut two (drawn a None (d ∷ detail))
    (both_uncut one (drawn a None (codes " "))
    (both_uncut (drawn a None (codes "<less>!")) (drawn a None kind) (drawn_uncut a None (codes "<less>!"))
    (drawn_uncut a None kind)) (drawn_uncut a None (codes " "))) (drawn_uncut a None (d ∷ detail)))
    (drawn_uncut a None (codes "<gtr>"))

pub items_of_run : (a : Attrs) (xs : List Item) → run_items (run_of a xs) ≡ xs
items_of_run a [] = refl
items_of_run a (x ∷ xs) = refl

beside_items : (r s : ItemRun) → run_items (beside r s) ≡ run_items r ++ run_items s
beside_items empty s = refl
beside_items (begun a xs) empty = sym (nothing_more xs)
  where
    nothing_more : (ys : List Item) → ys ++ [] ≡ ys
    nothing_more [] = refl
    nothing_more (y ∷ ys) = ap (λ zs. y ∷ zs) (nothing_more ys)
beside_items (begun a xs) (begun b ys) = refl

run_fits : (a : Attrs) (xs : List Item) → fits_cell (inline (run_of a xs)) ≡ Uncut xs
run_fits a xs = ap Uncut (items_of_run a xs)

drawn_fits : (a : Attrs) (at : Option (List ℕ)) (words : List ℕ) → fits_cell (inline (run_of a (drawn a at words))) ≡ true
drawn_fits a at words = run_fits a (drawn a at words) ∙ drawn_uncut a at words

-- ---- forms

side_fits : (fs : List (Form × Attrs)) → cells_fit fs ≡ all_inline fs && Uncut (run_items (side_by_side fs))
side_fits [] = refl
side_fits ((inline r, a) ∷ fs) =
    let own : Bool = Uncut (run_items r) in
    let rest : Bool = Uncut (run_items (side_by_side fs)) in
    ap (λ b. own && b) (side_fits fs) ∙ swap own (all_inline fs) rest
    ∙ ap (λ b. all_inline fs && b)
    (sym (ap Uncut (beside_items r (side_by_side fs)) ∙ uncut_append (run_items r) (run_items (side_by_side fs))))
side_fits ((listed ps, a) ∷ fs) = refl

joined_fits : (fs : List (Form × Attrs)) → fits_cell (joined_forms fs) ≡ cells_fit fs
joined_fits fs = pick (all_inline fs) ∙ sym (side_fits fs)
  where
    pick : (b : Bool) → fits_cell (cond b (inline (side_by_side fs)) (listed (paragraphs_of empty fs)))
        ≡ b && Uncut (run_items (side_by_side fs))
    pick true = refl
    pick false = refl

fits_append : (xs ys : List (Form × Attrs)) → cells_fit (xs ++ ys) ≡ cells_fit xs && cells_fit ys
fits_append [] ys = refl
fits_append (x ∷ xs) ys =
    ap (λ b. fits_cell x.0 && b) (fits_append xs ys)
    ∙ sym (and_assoc (fits_cell x.0) (cells_fit xs) (cells_fit ys))

-- ---- rules

failed_fits : (a : Attrs) (kind detail : List ℕ) → fits_cell (inline (run_of a (error_items a kind detail))) ≡ true
failed_fits a kind detail = run_fits a (error_items a kind detail) ∙ error_uncut a kind detail

bad_fits : (a : Attrs) (label : List ℕ) → fits_cell (bad a label).form ≡ true
bad_fits a label = failed_fits a (codes "bad") label

assign_fits : (a : Attrs) (label : List ℕ) (vs : WideValues) → fits_cell (assign_shown a label vs).form ≡ true
assign_fits a label none = bad_fits a label
assign_fits a label (also x none) = bad_fits a label
assign_fits a label (also x (also v none)) = refl
assign_fits a label (also x (also v (also w vs))) = bad_fits a label

gap_by_fits : (a : Attrs) (label : List ℕ) (z : Option ℤ) → fits_cell (space_by Gap a label z).form ≡ true
gap_by_fits a label None = bad_fits a label
gap_by_fits a label (Some z) = refl

gap_fits : (a : Attrs) (label : List ℕ) (vs : WideValues) → fits_cell (space_shown Gap a label vs).form ≡ true
gap_fits a label none = bad_fits a label
gap_fits a label (also v none) = gap_by_fits a label (option_and_then length_of (value_text v))
gap_fits a label (also v (also w vs)) = bad_fits a label

down_fits : (a : Attrs) (label : List ℕ) (vs : WideValues)
    → fits_cell (space_shown Down a label vs).form ≡ flat_space vs
down_fits a label none = bad_fits a label
down_fits a label (also v none) = pick (option_and_then length_of (value_text v))
  where
    pick : (z : Option ℤ) → fits_cell (space_by Down a label z).form ≡ is_no_length z
    pick None = bad_fits a label
    pick (Some z) = refl
down_fits a label (also v (also w vs)) = bad_fits a label

error_by_fits : (a : Attrs) (label : List ℕ) (k d : Option (List ℕ)) → fits_cell (error_by a label k d).form ≡ true
error_by_fits a label None d = bad_fits a label
error_by_fits a label (Some k) None = bad_fits a label
error_by_fits a label (Some k) (Some d) = failed_fits a k d

error_fits : (a : Attrs) (label : List ℕ) (vs : WideValues) → fits_cell (error_shown a label vs).form ≡ true
error_fits a label none = bad_fits a label
error_fits a label (also k none) = bad_fits a label
error_fits a label (also k (also d none)) = error_by_fits a label (value_text k) (value_text d)
error_fits a label (also k (also d (also e vs))) = bad_fits a label

-- what a tag shows as fits where its parts do
tag_fits : (a b : Attrs) (front : List Item) (close : List ℕ) (fs : List (Form × Attrs)) → Uncut front ≡ true
    → fits_cell (joined_forms (made_form a front ∷ (fs ++ made_form b (drawn b None close) ∷ []))) ≡ cells_fit fs
tag_fits a b front close fs h =
    joined_fits (made_form a front ∷ (fs ++ made_form b (drawn b None close) ∷ []))
    ∙ ap (λ x. x && cells_fit (fs ++ made_form b (drawn b None close) ∷ [])) (run_fits a front ∙ h)
    ∙ fits_append fs (made_form b (drawn b None close) ∷ [])
    ∙ ap (λ x. cells_fit fs && (x && true)) (drawn_fits b None close) ∙ and_true (cells_fit fs)

rule_fits : (r : Rule) (a : Attrs) (label : List ℕ) (vs : WideValues) (all : Bool → AllShown) (last : Option Shown)
    (table : Shown) (flats end tables : Bool) → ((barred : Bool) → cells_fit (all barred).each ≡ flats)
    → fits_cell (with_shown a label last).form ≡ end → fits_cell table.form ≡ not tables
    → fits_cell (rule_shown r a label vs all last table).form ≡ rule_flat r vs flats end tables
rule_fits rules.Concat a label vs all last table flats end tables h k t = joined_fits (all false).each ∙ h false
rule_fits rules.Document a label vs all last table flats end tables h k t = refl
rule_fits rules.With a label vs all last table flats end tables h k t = k
rule_fits rules.Assign a label vs all last table flats end tables h k t = assign_fits a label vs
rule_fits rules.Silent a label vs all last table flats end tables h k t = refl
rule_fits rules.NextLine a label vs all last table flats end tables h k t = refl
rule_fits rules.NewPage a label vs all last table flats end tables h k t = refl
rule_fits rules.Hspace a label vs all last table flats end tables h k t = gap_fits a label vs
rule_fits rules.Vspace a label vs all last table flats end tables h k t = down_fits a label vs
rule_fits rules.Error a label vs all last table flats end tables h k t = error_fits a label vs
rule_fits rules.Tabular a label vs all last table flats end tables h k t = t
rule_fits rules.Other a label vs all last table flats end tables h k t =
    let front : List Item = drawn a None (codes "<less>") ++ drawn a None label in
    tag_fits a (all true).after front (codes "<gtr>") (all true).each
    (both_uncut (drawn a None (codes "<less>")) (drawn a None label) (drawn_uncut a None (codes "<less>"))
    (drawn_uncut a None label)) ∙ h true

giving_fits : (name : Option (List ℕ)) (before a : Attrs) (label : List ℕ) (o : Option Shown)
    → fits_cell (with_shown a label (giving_back name before o)).form ≡ fits_cell (with_shown a label o).form
giving_fits name before a label None = refl
giving_fits name before a label (Some s) = refl

table_fits : (a : Attrs) (label : List ℕ) (grid : Option Grid) (cells : AllShown) (flat : Bool)
    → cells_fit cells.each ≡ flat → fits_cell (tabular_shown a label grid cells).form ≡ not (is_table grid flat)
table_fits a label None cells flat h = bad_fits a label
table_fits a label (Some grid) cells flat h = pick (cells_fit cells.each) ∙ ap not h
  where
    pick : (b : Bool) → fits_cell (cond b (rows_shown a grid.sides cells) (bad a label)).form ≡ not b
    pick true = refl
    pick false = bad_fits a label

-- ---- values

mutual
  unfolding show is_flat

  pub fits_flat : (a : Attrs) (v : WideValue) → fits_cell (show a v).form ≡ is_flat v
  fits_flat a (text words at) = drawn_fits a at words
  fits_flat a (made label vs at) =
      rule_fits (rule_of label) a label vs (λ barred. show_all barred a vs) (show_with a a vs)
      (tabular_shown a label (grid_of (made label vs at)) (show_below (levels_of vs) a vs)) (all_flat vs) (last_flat vs)
      (is_table (grid_of (made label vs at)) (flat_below (levels_of vs) vs)) (λ barred. fits_all barred a vs)
      (fits_last a label a a vs)
      (table_fits a label (grid_of (made label vs at)) (show_below (levels_of vs) a vs) (flat_below (levels_of vs) vs)
      (fits_below (levels_of vs) a vs))

  fits_all : (barred : Bool) (a : Attrs) (vs : WideValues) → cells_fit (show_all barred a vs).each ≡ all_flat vs
  fits_all barred a none = refl
  fits_all true a (also v vs) =
      ap₂ (λ x y. x && y) (drawn_fits a None (codes "|"))
      (ap₂ ◌&&◌ (fits_flat a v) (fits_all true (show a v).after vs))
  fits_all false a (also v vs) = ap₂ ◌&&◌ (fits_flat a v) (fits_all false (show a v).after vs)

  fits_last : (c : Attrs) (label : List ℕ) (before a : Attrs) (vs : WideValues)
      → fits_cell (with_shown c label (show_with before a vs)).form ≡ last_flat vs
  fits_last c label before a none = bad_fits c label
  fits_last c label before a (also v none) = fits_flat a v
  fits_last c label before a (also x (also v vs)) =
      giving_fits (value_text x) before c label
      (show_with before (with_named (attribute_in (value_text x)) (value_text v) a) vs)
      ∙ fits_last c label before (with_named (attribute_in (value_text x)) (value_text v) a) vs

  pub fits_below : (levels : List Level) (a : Attrs) (vs : WideValues)
      → cells_fit (show_below levels a vs).each ≡ flat_below levels vs
  fits_below levels a none = refl
  fits_below [] a (also v none) = and_true (fits_cell (show a v).form) ∙ fits_flat a v
  fits_below [] a (also x (also v vs)) = refl
  fits_below (Every ∷ levels) a (also (text words at) vs) = fits_below (Every ∷ levels) a vs
  fits_below (Every ∷ levels) a (also (made label ws at) vs) =
      fits_append (show_below levels a ws).each (show_below (Every ∷ levels) (show_below levels a ws).after vs).each
      ∙ ap₂ ◌&&◌ (fits_below levels a ws) (fits_below (Every ∷ levels) (show_below levels a ws).after vs)
  fits_below (Final ∷ levels) a (also (text words at) none) = refl
  fits_below (Final ∷ levels) a (also (made label ws at) none) = fits_below levels a ws
  fits_below (Final ∷ levels) a (also x (also v vs)) = fits_below (Final ∷ levels) a (also v vs)
