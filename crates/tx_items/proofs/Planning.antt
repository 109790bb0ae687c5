-- Which values show as lists, by their plans, and what the plans of the parts are.
use Rattle.std.proofs.Common.{◌≡◌, ◌≢◌, ℕ, zero, suc, ◌+◌, ◌-◌, ◌%◌, ◌<◌, Bool, true, false, not, ◌||◌, ◌&&◌, cond}
use Rattle.std.proofs.Common.{List, [], ◌∷◌, ◌++◌, length, get_or, take, Option, Some, None, refl, sym, ap, ap₂, ◌∙◌}
use Rattle.std.proofs.Common.{arith}
use Rattle.std.specs.Prelude.{codes, option_and_then, ℤ}
use Rattle.std.proofs.lemmas.List.{take_more}
use Rattle.std.proofs.lemmas.Option.{slice_get_read, slice_get_past}
use Rattle.std.specs.List.{list_any}
use Rattle.tx_prim.specs.Lengths.{length_of}
use Rattle.tx_tree.specs.WideTree.{WideTree, Forest, nil, cons, forest, trees, is_leaf}
use Rattle.tx_origin.specs.Values.{WideValue, WideValues, text, made, none, also, vals, value_parts, value_text}
use Rattle.tx_origin.specs.Values.{value_label}
use Rattle.tx_origin.proofs.Parts.{vals_each}
use Rattle.tx_table.specs.declared.grids.Grid.{Grid}
use Rattle.tx_table.specs.Grids.{grid_of}
use Rattle.tx_items.specs.declared.attributes.Attrs.{Attrs}
use Rattle.tx_items.proofs.Walks.{text_or_node, part_shallower, last_shallower, last_there}
use Rattle.tx_items.specs.declared.drawing.Item.{Item}
use Rattle.tx_items.specs.declared.drawing.Item.TheVariants.{Gap, Down}
use Rattle.tx_items.specs.Attributes.{with_named, attribute_in, initial}
use Rattle.tx_items.specs.Drawing.{drawn}
use Rattle.tx_items.specs.Rules.{Rule, rule_of}
use Rattle.tx_items.specs.Rules as rules
use Rattle.tx_items.specs.Shows.{ItemRun, empty, run_of, Form, inline, listed, Shown, AllShown, is_inline, all_inline}
use Rattle.tx_items.specs.Shows.{side_by_side, paragraphs_of, joined_forms, with_shown, assign_shown, space_by}
use Rattle.tx_items.specs.Shows.{space_shown}
use Rattle.tx_items.specs.Shows.{error_by, error_shown, made_form, rule_shown, giving_back, show, show_all}
use Rattle.tx_items.specs.Shows.{show_with}
use Rattle.tx_items.specs.Plans.{line_plan, list_plan, some_list, joint_plan, rule_plan, plan_of, plans_of, last_plan}
use Rattle.tx_items.specs.Plans.{part_plan, table_plan}
use Rattle.tx_items.specs.Shows.{bad, cells_fit, fits_cell, rows_shown, tabular_shown, show_below}
use Rattle.tx_items.specs.Tables.{levels_of}
use Rattle.tx_items.specs.Flat.{is_table, is_flat, flat_below, shows_table}
use Rattle.tx_items.proofs.Flatness.{fits_flat, fits_below}

-- ---- which values show as lists

not_or : (x y : Bool) → (x && not y) ≡ not (not x || y)
not_or true y = refl
not_or false y = refl

joined_inline : (fs : List (Form × Attrs)) → is_inline (joined_forms fs) ≡ all_inline fs
joined_inline fs = pick (all_inline fs)
  where
    pick : (b : Bool) → is_inline (cond b (inline (side_by_side fs)) (listed (paragraphs_of empty fs))) ≡ b
    pick true = refl
    pick false = refl

joint_leaf : (ps : Forest) → is_leaf (joint_plan ps) ≡ not (some_list ps)
joint_leaf ps = pick (some_list ps)
  where
    pick : (b : Bool) → is_leaf (cond b (list_plan ps) line_plan) ≡ not b
    pick true = refl
    pick false = refl

inline_behind : (fs : List (Form × Attrs)) (r : ItemRun) (a : Attrs)
    → all_inline (fs ++ (inline r, a) ∷ []) ≡ all_inline fs
inline_behind [] r a = refl
inline_behind (f ∷ fs) r a = ap (λ b. is_inline f.0 && b) (inline_behind fs r a)

assign_inline : (a : Attrs) (label : List ℕ) (vs : WideValues) → is_inline (assign_shown a label vs).form ≡ true
assign_inline a label none = refl
assign_inline a label (also x none) = refl
assign_inline a label (also x (also v none)) = refl
assign_inline a label (also x (also v (also w vs))) = refl

space_by_inline : (item : ℕ → Item) (a : Attrs) (label : List ℕ) (z : Option ℤ)
    → is_inline (space_by item a label z).form ≡ true
space_by_inline item a label None = refl
space_by_inline item a label (Some z) = refl

space_inline : (item : ℕ → Item) (a : Attrs) (label : List ℕ) (vs : WideValues)
    → is_inline (space_shown item a label vs).form ≡ true
space_inline item a label none = refl
space_inline item a label (also v none) = space_by_inline item a label (option_and_then length_of (value_text v))
space_inline item a label (also v (also w vs)) = refl

error_by_inline : (a : Attrs) (label : List ℕ) (k d : Option (List ℕ)) → is_inline (error_by a label k d).form ≡ true
error_by_inline a label None d = refl
error_by_inline a label (Some k) None = refl
error_by_inline a label (Some k) (Some d) = refl

error_inline : (a : Attrs) (label : List ℕ) (vs : WideValues) → is_inline (error_shown a label vs).form ≡ true
error_inline a label none = refl
error_inline a label (also k none) = refl
error_inline a label (also k (also d none)) = error_by_inline a label (value_text k) (value_text d)
error_inline a label (also k (also d (also e vs))) = refl

rule_inline : (r : Rule) (a : Attrs) (label : List ℕ) (vs : WideValues) (all : Bool → AllShown) (last : Option Shown)
    (table : Shown) (plans : Forest) (end : WideTree) (tables : Bool) → ((barred : Bool) → all_inline (all barred).each ≡ not (some_list plans))
    → is_inline (with_shown a label last).form ≡ is_leaf end
    → is_inline table.form ≡ is_leaf (table_plan tables)
    → is_inline (rule_shown r a label vs all last table).form ≡ is_leaf (rule_plan r plans end tables)
rule_inline rules.Concat a label vs all last table plans end tables h k t =
    joined_inline (all false).each ∙ h false ∙ sym (joint_leaf plans)
rule_inline rules.Document a label vs all last table plans end tables h k t = refl
rule_inline rules.With a label vs all last table plans end tables h k t = k
rule_inline rules.Assign a label vs all last table plans end tables h k t = assign_inline a label vs
rule_inline rules.Silent a label vs all last table plans end tables h k t = refl
rule_inline rules.NextLine a label vs all last table plans end tables h k t = refl
rule_inline rules.NewPage a label vs all last table plans end tables h k t = refl
rule_inline rules.Hspace a label vs all last table plans end tables h k t = space_inline Gap a label vs
rule_inline rules.Vspace a label vs all last table plans end tables h k t = space_inline Down a label vs
rule_inline rules.Error a label vs all last table plans end tables h k t = error_inline a label vs
rule_inline rules.Tabular a label vs all last table plans end tables h k t = t
rule_inline rules.Other a label vs all last table plans end tables h k t =
    let tag = all true in
    let close : ItemRun = run_of tag.after (drawn tag.after None (codes "<gtr>")) in
    joined_inline (
    made_form a (drawn a None (codes "<less>") ++ drawn a None label) ∷ (tag.each ++ (inline close, tag.after) ∷ [])
    )
    ∙ inline_behind tag.each close tag.after ∙ h true ∙ sym (joint_leaf plans)

giving_inline : (name : Option (List ℕ)) (before a : Attrs) (label : List ℕ) (o : Option Shown) (b : Bool)
    → is_inline (with_shown a label o).form ≡ b → is_inline (with_shown a label (giving_back name before o)).form ≡ b
giving_inline name before a label None b h = h
giving_inline name before a label (Some s) b h = h

table_inline : (a : Attrs) (label : List ℕ) (grid : Option Grid) (cells : AllShown) (flat : Bool)
    → cells_fit cells.each ≡ flat
    → is_inline (tabular_shown a label grid cells).form ≡ is_leaf (table_plan (is_table grid flat))
table_inline a label None cells flat h = refl
table_inline a label (Some grid) cells flat h = pick (cells_fit cells.each) ∙ ap (λ b. is_leaf (table_plan b)) h
  where
    pick : (b : Bool) → is_inline (cond b (rows_shown a grid.sides cells) (bad a label)).form ≡ is_leaf (table_plan b)
    pick true = refl
    pick false = refl

mutual
  unfolding show plan_of shows_table

  pub shows_list : (a : Attrs) (v : WideValue) → is_inline (show a v).form ≡ is_leaf (plan_of v)
  shows_list a (text words at) = refl
  shows_list a (made label vs at) =
      rule_inline (rule_of label) a label vs (λ barred. show_all barred a vs) (show_with a a vs)
      (tabular_shown a label (grid_of (made label vs at)) (show_below (levels_of vs) a vs)) (plans_of vs) (last_plan vs)
      (shows_table (made label vs at)) (λ barred. show_lists barred a vs) (shows_last a label a a vs)
      (table_inline a label (grid_of (made label vs at)) (show_below (levels_of vs) a vs)
      (flat_below (levels_of vs) vs) (fits_below (levels_of vs) a vs))

  show_lists : (barred : Bool) (a : Attrs) (vs : WideValues)
      → all_inline (show_all barred a vs).each ≡ not (some_list (plans_of vs))
  show_lists barred a none = refl
  show_lists true a (also v vs) =
      ap₂ ◌&&◌ (shows_list a v) (show_lists true (show a v).after vs)
      ∙ not_or (is_leaf (plan_of v)) (some_list (plans_of vs))
  show_lists false a (also v vs) =
      ap₂ ◌&&◌ (shows_list a v) (show_lists false (show a v).after vs)
      ∙ not_or (is_leaf (plan_of v)) (some_list (plans_of vs))

  shows_last : (c : Attrs) (label : List ℕ) (before a : Attrs) (vs : WideValues)
      → is_inline (with_shown c label (show_with before a vs)).form ≡ is_leaf (last_plan vs)
  shows_last c label before a none = refl
  shows_last c label before a (also v none) = shows_list a v
  shows_last c label before a (also x (also v vs)) =
      giving_inline (value_text x) before c label
      (show_with before (with_named (attribute_in (value_text x)) (value_text v) a) vs) (is_leaf (last_plan vs))
      (shows_last c label before (with_named (attribute_in (value_text x)) (value_text v) a) vs)

-- ---- the plans of the parts

-- what shows in a line has one plan
joint_line : (ps : Forest) → is_leaf (joint_plan ps) ≡ true → joint_plan ps ≡ line_plan
joint_line ps = pick (some_list ps)
  where
    pick : (b : Bool) → is_leaf (cond b (list_plan ps) line_plan) ≡ true → cond b (list_plan ps) line_plan ≡ line_plan
    pick true h = absurd cc
    pick false h = refl

table_line : (b : Bool) → is_leaf (table_plan b) ≡ true → table_plan b ≡ line_plan
table_line true h = absurd cc
table_line false h = refl

rule_line : (r : Rule) (ps : Forest) (end : WideTree) (table : Bool) → (is_leaf end ≡ true → end ≡ line_plan)
    → is_leaf (rule_plan r ps end table) ≡ true → rule_plan r ps end table ≡ line_plan
rule_line rules.Concat ps end table k h = joint_line ps h
rule_line rules.Document ps end table k h = absurd cc
rule_line rules.With ps end table k h = k h
rule_line rules.Assign ps end table k h = refl
rule_line rules.Silent ps end table k h = refl
rule_line rules.NextLine ps end table k h = refl
rule_line rules.NewPage ps end table k h = refl
rule_line rules.Hspace ps end table k h = refl
rule_line rules.Vspace ps end table k h = refl
rule_line rules.Error ps end table k h = refl
rule_line rules.Tabular ps end table k h = table_line table h
rule_line rules.Other ps end table k h = joint_line ps h

mutual
  unfolding plan_of

  leaf_is_line : (v : WideValue) → is_leaf (plan_of v) ≡ true → plan_of v ≡ line_plan
  leaf_is_line (text words at) h = refl
  leaf_is_line (made label vs at) h = rule_line (rule_of label) (plans_of vs) (last_plan vs) (shows_table (made label vs at)) (last_is_line vs) h

  last_is_line : (vs : WideValues) → is_leaf (last_plan vs) ≡ true → last_plan vs ≡ line_plan
  last_is_line none h = refl
  last_is_line (also v none) h = leaf_is_line v h
  last_is_line (also x (also v vs)) h = last_is_line vs h

part_at : (d : WideTree) (xs : List WideValue) (i : ℕ) (x : WideValue) → i < length xs → x ≡ get_or xs i x
    → get_or (trees (plans_of (vals xs))) i d ≡ plan_of x
unfolding plan_of
part_at d [] i x h e = absurd (omega arith)
part_at d (y ∷ xs) zero x h e = ap plan_of (sym e)
part_at d (y ∷ xs) (suc i) x h e = part_at d xs i x (omega arith) e

no_parts : (p q : Bool) → (not p || q) ≡ false → (p ≡ true) × (q ≡ false)
no_parts true q h = (refl, h)
no_parts false q h = absurd cc

none_lists : (xs : List WideValue) (i : ℕ) (x : WideValue) → some_list (plans_of (vals xs)) ≡ false → i < length xs
    → x ≡ get_or xs i x → is_leaf (plan_of x) ≡ true
unfolding plan_of
none_lists [] i x f h e = absurd (omega arith)
none_lists (y ∷ xs) zero x f h e =
    ap (λ z. is_leaf (plan_of z)) e ∙ (no_parts (is_leaf (plan_of y)) (some_list (plans_of (vals xs))) f).0
none_lists (y ∷ xs) (suc i) x f h e =
    none_lists xs i x (no_parts (is_leaf (plan_of y)) (some_list (plans_of (vals xs))) f).1 (omega arith) e

-- where the parts are side by side
pub joint_part : (p : WideTree) (xs : List WideValue) (i : ℕ) (x : WideValue) → p ≡ joint_plan (plans_of (vals xs))
    → i < length xs → x ≡ get_or xs i x → part_plan p i ≡ plan_of x
joint_part p xs i x is h e = ap (λ q. part_plan q i) is ∙ pick (some_list (plans_of (vals xs))) refl
  where
    pick : (b : Bool) → some_list (plans_of (vals xs)) ≡ b
        → part_plan (cond b (list_plan (plans_of (vals xs))) line_plan) i ≡ plan_of x
    pick true k = part_at (list_plan (plans_of (vals xs))) xs i x h e
    pick false k = sym (leaf_is_line x (none_lists xs i x k h e))

-- where each is a paragraph
pub list_part : (p : WideTree) (xs : List WideValue) (i : ℕ) (x : WideValue) → p ≡ list_plan (plans_of (vals xs))
    → i < length xs → x ≡ get_or xs i x → part_plan p i ≡ plan_of x
list_part p xs i x is h e =
    ap (λ q. part_plan q i) is ∙ part_at (list_plan (plans_of (vals xs))) xs i x h e

-- ---- the plan of a value, row by row

pub plan_text : (v : WideValue) → value_label v ≡ None → plan_of v ≡ line_plan
unfolding plan_of
plan_text (text words at) e = refl
plan_text (made label vs at) e = absurd cc

pub plan_row : (v : WideValue) (label : List ℕ) (r : Rule) → value_label v ≡ Some label → r ≡ rule_of label
    → plan_of v ≡ rule_plan r (plans_of (vals (value_parts v))) (last_plan (vals (value_parts v))) (shows_table v)
unfolding plan_of
plan_row (text words at) label r e f = absurd cc
plan_row (made l vs at) label r e f =
    let same : l ≡ label = cc in
    let table : Bool = shows_table (made l vs at) in
    ap (λ m. rule_plan (rule_of m) (plans_of vs) (last_plan vs) table) same
    ∙ ap (λ q. rule_plan q (plans_of vs) (last_plan vs) table) (sym f)
    ∙ ap (λ us. rule_plan r (plans_of us) (last_plan us) table) (sym (vals_each vs))

-- what the plan is that a value's rule is given
pub plan_joint : (v : WideValue) (p : WideTree) (label bytes : List ℕ) → p ≡ plan_of v → value_label v ≡ Some label
    → bytes ≡ label → rules.Concat ≡ rule_of bytes → p ≡ joint_plan (plans_of (vals (value_parts v)))
plan_joint v p label bytes is e same r = is ∙ plan_row v label rules.Concat e (r ∙ ap rule_of same)

pub plan_tag : (v : WideValue) (p : WideTree) (label bytes : List ℕ) → p ≡ plan_of v → value_label v ≡ Some label
    → bytes ≡ label → rules.Other ≡ rule_of bytes → p ≡ joint_plan (plans_of (vals (value_parts v)))
plan_tag v p label bytes is e same r = is ∙ plan_row v label rules.Other e (r ∙ ap rule_of same)

pub plan_list : (v : WideValue) (p : WideTree) (label bytes : List ℕ) → p ≡ plan_of v → value_label v ≡ Some label
    → bytes ≡ label → rules.Document ≡ rule_of bytes → p ≡ list_plan (plans_of (vals (value_parts v)))
plan_list v p label bytes is e same r = is ∙ plan_row v label rules.Document e (r ∙ ap rule_of same)

pub plan_with : (v : WideValue) (p : WideTree) (label bytes : List ℕ) → p ≡ plan_of v → value_label v ≡ Some label
    → bytes ≡ label → rules.With ≡ rule_of bytes → p ≡ last_plan (vals (value_parts v))
plan_with v p label bytes is e same r = is ∙ plan_row v label rules.With e (r ∙ ap rule_of same)

pub plan_table : (v : WideValue) (p : WideTree) (label bytes : List ℕ) → p ≡ plan_of v → value_label v ≡ Some label
    → bytes ≡ label → rules.Tabular ≡ rule_of bytes → p ≡ table_plan (shows_table v)
plan_table v p label bytes is e same r = is ∙ plan_row v label rules.Tabular e (r ∙ ap rule_of same)

-- the plan of a value that is flat
pub flat_plan : (v : WideValue) → is_flat v ≡ true → line_plan ≡ plan_of v
flat_plan v h = sym (leaf_is_line v (sym (shows_list initial v) ∙ in_line (show initial v).form (fits_flat initial v ∙ h)))
  where
    in_line : (x : Form) → fits_cell x ≡ true → is_inline x ≡ true
    in_line (inline r) k = refl
    in_line (listed ps) k = absurd cc

-- ---- loops that make plans

forest_push : (ts : List WideTree) (t : WideTree) (us : List WideValue) (v : WideValue)
    → forest ts ≡ plans_of (vals us) → t ≡ plan_of v → forest (ts ++ t ∷ []) ≡ plans_of (vals (us ++ v ∷ []))
unfolding plan_of
forest_push [] t [] v e f = ap (λ p. cons p nil) f
forest_push [] t (u ∷ us) v e f = absurd cc
forest_push (s ∷ ts) t [] v e f = absurd cc
forest_push (s ∷ ts) t (u ∷ us) v e f =
    let first : s ≡ plan_of u = cc in
    let others : forest ts ≡ plans_of (vals us) = cc in
    ap₂ cons first (forest_push ts t us v others f)

pub plans_none : forest [] ≡ plans_of (vals [])
unfolding plan_of
plans_none = refl

pub plans_next : (items : List WideValue) (i : ℕ) (x : WideValue) (ts us : List WideTree) (t : WideTree)
    → i < length items → x ≡ get_or items i x → forest ts ≡ plans_of (vals (take i items)) → us ≡ ts ++ t ∷ []
    → t ≡ plan_of x → forest us ≡ plans_of (vals (take (i + 1) items))
plans_next items i x ts us t lt is h e p = rw (take_more items i x lt, ← is, e) (forest_push ts t (take i items) x h p)

pub some_any : (ts : List WideTree) → some_list (forest ts) ≡ list_any (λ p. not (is_leaf p)) ts
some_any [] = refl
some_any (t ∷ ts) = ap (λ b. not (is_leaf t) || b) (some_any ts)

pub last_even : (xs : List WideValue) → length xs % 2 ≡ 0 → last_plan (vals xs) ≡ line_plan
unfolding plan_of
last_even [] h = refl
last_even (x ∷ []) h = absurd (omega arith)
last_even (x ∷ (v ∷ xs)) h = last_even xs (omega arith)

pub last_odd : (xs : List WideValue) (x : WideValue) → length xs % 2 ≢ 0 → x ≡ get_or xs (length xs - 1) x
    → last_plan (vals xs) ≡ plan_of x
unfolding plan_of
last_odd [] x h e = absurd (h refl)
last_odd (y ∷ []) x h e = ap plan_of (sym e)
last_odd (y ∷ (v ∷ xs)) x h e =
    let odd : length xs % 2 ≢ 0 = λ f. h (omega arith) in
    let place : length (y ∷ (v ∷ xs)) - 1 ≡ suc (suc (length xs - 1)) = last_place (length xs) odd in
    last_odd xs x odd (e ∙ ap (λ n. get_or (y ∷ (v ∷ xs)) n x) place)
  where
    last_place : (n : ℕ) → n % 2 ≢ 0 → suc (suc n) - 1 ≡ suc (suc (n - 1))
    last_place zero h = absurd (h refl)
    last_place (suc n) h = omega arith

pub ruleset joint = (joint_part, part_shallower)

pub ruleset listing = (list_part, part_shallower)

pub ruleset items = (slice_get_read, slice_get_past)

pub ruleset making =
    (plan_text, plan_row, plans_none, plans_next, last_even, last_odd, part_shallower, last_shallower, last_there)

-- ---- what the plan says of what is shown

pub inline_by_plan : (a : Attrs) (v : WideValue) (p : WideTree) → p ≡ plan_of v → false ≡ not (is_leaf p)
    → is_inline (show a v).form ≡ true
inline_by_plan a v p is f = shows_list a v ∙ ap is_leaf (sym is) ∙ pick (is_leaf p) (sym f)
  where
    pick : (b : Bool) → not b ≡ false → b ≡ true
    pick true h = refl
    pick false h = absurd cc

pub list_by_plan : (a : Attrs) (v : WideValue) (p : WideTree) → p ≡ plan_of v → true ≡ not (is_leaf p)
    → is_inline (show a v).form ≡ false
list_by_plan a v p is f = shows_list a v ∙ ap is_leaf (sym is) ∙ pick (is_leaf p) (sym f)
  where
    pick : (b : Bool) → not b ≡ true → b ≡ false
    pick true h = absurd cc
    pick false h = refl

pub ruleset choosing = (text_or_node, plan_joint, plan_tag, plan_list, plan_with, plan_table, flat_plan)
