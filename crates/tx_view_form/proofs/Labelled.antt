-- A value whose nodes have labels weighs at most 242 for each unit of its size.
use Rattle.std.proofs.Common.{◌≡◌, ℕ, ◌+◌, ◌*◌, ◌≤◌, Bool, true, false, cond, List, [], ◌∷◌, ◌++◌, map, length, codes}
use Rattle.std.proofs.Common.{refl, arith, Option, Some, None, ℤ, pos, negsuc, subst, sym}
use Rattle.tx_prim.specs.Lengths.{length_of}
use Rattle.tx_tree.specs.WideTree.{WideTree, Forest, leaf, node, nil, cons, size_of, total_size}
use Rattle.tx_tree.specs.Labels.{IsLabel}
use Rattle.tx_origin.specs.Values.{WideValue, WideValues, text, made, none, also, value_text, plain, plains}
use Rattle.tx_table.specs.declared.grids.Grid.{Grid}
use Rattle.tx_table.specs.Grids.{grid_of}
use Rattle.tx_table.specs.Columns.{column_widths}
use Rattle.tx_items.specs.declared.attributes.Attrs.{Attrs}
use Rattle.tx_items.specs.declared.drawing.Item.{Item}
use Rattle.tx_items.specs.declared.drawing.Item.TheVariants.{Gap, Break, PageEnd, Down}
use Rattle.tx_items.specs.Attributes.{with_named, attribute_in}
use Rattle.tx_items.specs.Drawing.{drawn}
use Rattle.tx_items.specs.Rules.{Rule, rule_of}
use Rattle.tx_items.specs.Rules as rules
use Rattle.tx_items.specs.Shows.{run_of, Form, inline, Shown, AllShown, error_items, with_shown, assign_shown}
use Rattle.tx_items.specs.Shows.{cells_of_length, space_by, space_shown, error_shown, made_form, tag_shown, rule_shown}
use Rattle.tx_items.specs.Shows.{giving_back, show, show_all, show_with, shown_paragraphs}
use Rattle.tx_items.specs.Tables.{ShownRow, row_widths, Level, Every, Final, levels_of}
use Rattle.tx_items.specs.Shows.{bad, cells_fit, shown_rows, rows_shown, tabular_shown, show_below}
use Rattle.tx_items.proofs.Below.{AreSome, sum_of, cells_known}
use Rattle.tx_view_form.specs.Weights.{item_weight, items_weight, weight_of}
use Rattle.tx_view_form.proofs.ClusterCounts.{shown_length, drawn_weight, most_shown, label_shown, less_mark, less, gtr}
use Rattle.tx_view_form.proofs.ClusterCounts.{bar, space, bad_kind}
use Rattle.tx_view_form.proofs.FormWeights.{run_weight, form_weight, forms_weight, items_both, one_item, run_of_weight}
use Rattle.tx_view_form.proofs.FormWeights.{one_weight, joined_weight, forms_behind, unit_weight, cells_weight}
use Rattle.tx_view_form.proofs.FormWeights.{cells_both, rows_weight}

-- each node has a label
abbrev mutual
  pub IsLabelled : WideTree → Type 0
  IsLabelled (leaf words) = Unit {0}
  IsLabelled (node label ts) = IsLabel label × AreLabelled ts

  pub AreLabelled : Forest → Type 0
  AreLabelled nil = Unit {0}
  AreLabelled (cons t ts) = IsLabelled t × AreLabelled ts

-- a form of a value of this size, with a paragraph round it and another one for a bar before it
abbrev Fits : Form → ℕ → Type 0
Fits f n = form_weight f + 3 ≤ 242 * n

-- ---- errors

error_weight : (a : Attrs) (kind detail : List ℕ)
    → items_weight (error_items a kind detail) ≤ 4 + shown_length kind + shown_length detail
error_weight a kind [] =
    let begins : List Item = drawn a None (codes "<less>!") in
    let named : List Item = drawn a None kind in
    let ends : List Item = drawn a None (codes "<gtr>") in
    let one : items_weight begins ≤ shown_length (codes "<less>!") = drawn_weight a None (codes "<less>!") in
    let two : items_weight named ≤ shown_length kind = drawn_weight a None kind in
    let last : items_weight ends ≤ shown_length (codes "<gtr>") = drawn_weight a None (codes "<gtr>") in
    let front : items_weight (begins ++ named) ≡ items_weight begins + items_weight named = items_both begins named in
    let whole : items_weight (begins ++ named ++ ends) ≡ items_weight (begins ++ named) + items_weight ends =
    items_both (begins ++ named) ends in
    omega (arith, less_mark, gtr)
error_weight a kind (d ∷ detail) =
    let begins : List Item = drawn a None (codes "<less>!") in
    let named : List Item = drawn a None kind in
    let gap : List Item = drawn a None (codes " ") in
    let more : List Item = drawn a None (d ∷ detail) in
    let ends : List Item = drawn a None (codes "<gtr>") in
    let one : items_weight begins ≤ shown_length (codes "<less>!") = drawn_weight a None (codes "<less>!") in
    let two : items_weight named ≤ shown_length kind = drawn_weight a None kind in
    let three : items_weight gap ≤ shown_length (codes " ") = drawn_weight a None (codes " ") in
    let four : items_weight more ≤ shown_length (d ∷ detail) = drawn_weight a None (d ∷ detail) in
    let last : items_weight ends ≤ shown_length (codes "<gtr>") = drawn_weight a None (codes "<gtr>") in
    let first : items_weight (begins ++ named) ≡ items_weight begins + items_weight named = items_both begins named in
    let second : items_weight (begins ++ named ++ gap) ≡ items_weight (begins ++ named) + items_weight gap =
    items_both (begins ++ named) gap in
    let third : items_weight (begins ++ named ++ gap ++ more)
    ≡ items_weight (begins ++ named ++ gap) + items_weight more = items_both (begins ++ named ++ gap) more in
    let whole : items_weight (begins ++ named ++ gap ++ more ++ ends)
    ≡ items_weight (begins ++ named ++ gap ++ more) + items_weight ends =
    items_both (begins ++ named ++ gap ++ more) ends in
    omega (arith, less_mark, gtr, space)

pub failed_weight : (a : Attrs) (kind detail : List ℕ)
    → run_weight (run_of a (error_items a kind detail)) ≤ 4 + shown_length kind + shown_length detail
failed_weight a kind detail =
    omega (arith, run_of_weight a (error_items a kind detail), error_weight a kind detail)

bad_weight : (a : Attrs) (label : List ℕ) (n : ℕ) → IsLabel label
    → Fits (inline (run_of a (error_items a (codes "bad") label))) (1 + n)
bad_weight a label n h = omega (arith, failed_weight a (codes "bad") label, bad_kind, label_shown label h)

-- ---- rules

assign_weight : (a : Attrs) (label : List ℕ) (vs : WideValues) (n : ℕ) → IsLabel label
    → Fits (assign_shown a label vs).form (1 + n)
assign_weight a label none n h = bad_weight a label n h
assign_weight a label (also x none) n h = bad_weight a label n h
assign_weight a label (also x (also v none)) n h = omega arith
assign_weight a label (also x (also v (also w vs))) n h = bad_weight a label n h

most_cells : (z : ℤ) → cells_of_length z ≤ 500
most_cells (pos n) = omega arith
most_cells (negsuc n) = omega arith

space_by_weight : (item : ℕ → Item) → ((n : ℕ) → item_weight (item n) ≤ 1 + n) → (a : Attrs) (label : List ℕ)
    (z : Option ℤ) (n : ℕ) → IsLabel label → Fits (space_by item a label z).form (3 + n)
space_by_weight item w a label None n h = omega (arith, bad_weight a label (2 + n) h)
space_by_weight item w a label (Some z) n h =
    omega (arith, one_item (item (cells_of_length z)), w (cells_of_length z), most_cells z)

no_length : length_of [] ≡ None
no_length = refl

space_weight : (item : ℕ → Item) → ((n : ℕ) → item_weight (item n) ≤ 1 + n) → (a : Attrs) (label : List ℕ)
    (vs : WideValues) → IsLabel label → Fits (space_shown item a label vs).form (1 + total_size (plains vs))
space_weight item w a label none h = bad_weight a label 0 h
space_weight item w a label (also (text [] at) none) h =
    let P : Option ℤ → Type 0 = λ z. Fits (space_by item a label z).form 2 in
    subst P (sym no_length) (bad_weight a label 1 h)
space_weight item w a label (also (text (b ∷ words) at) none) h =
    omega (arith, space_by_weight item w a label (length_of (b ∷ words)) (length words) h)
space_weight item w a label (also (made l ws at) none) h =
    bad_weight a label (total_size (plains (also (made l ws at) none))) h
space_weight item w a label (also v (also u vs)) h =
    bad_weight a label (total_size (plains (also v (also u vs)))) h

error_shown_weight : (a : Attrs) (label : List ℕ) (vs : WideValues) → IsLabel label
    → Fits (error_shown a label vs).form (1 + total_size (plains vs))
error_shown_weight a label none h = bad_weight a label 0 h
error_shown_weight a label (also k none) h = bad_weight a label (total_size (plains (also k none))) h
error_shown_weight a label (also (text kind at) (also (text detail bt) none)) h =
    omega (arith, failed_weight a kind detail, most_shown kind, most_shown detail)
error_shown_weight a label (also (text kind at) (also (made l ws bt) none)) h =
    bad_weight a label (total_size (plains (also (text kind at) (also (made l ws bt) none)))) h
error_shown_weight a label (also (made l ws at) (also d none)) h =
    bad_weight a label (total_size (plains (also (made l ws at) (also d none)))) h
error_shown_weight a label (also k (also d (also e vs))) h =
    bad_weight a label (total_size (plains (also k (also d (also e vs))))) h

tag_weight : (a : Attrs) (label : List ℕ) (all : AllShown) (n : ℕ) → IsLabel label → forms_weight all.each ≤ 242 * n
    → Fits (tag_shown a label all).form (1 + n)
tag_weight a label all n h k =
    let begins : List Item = drawn a None (codes "<less>") in
    let named : List Item = drawn a None label in
    let ends : List Item = drawn all.after None (codes "<gtr>") in
    let one : items_weight begins ≤ shown_length (codes "<less>") = drawn_weight a None (codes "<less>") in
    let two : items_weight named ≤ shown_length label = drawn_weight a None label in
    let last : items_weight ends ≤ shown_length (codes "<gtr>") = drawn_weight all.after None (codes "<gtr>") in
    let front : items_weight (begins ++ named) ≡ items_weight begins + items_weight named = items_both begins named in
    let opens : run_weight (run_of a (begins ++ named)) ≡ items_weight (begins ++ named) =
    run_of_weight a (begins ++ named) in
    let closes : run_weight (run_of all.after ends) ≡ items_weight ends = run_of_weight all.after ends in
    let behind : forms_weight (all.each ++ made_form all.after ends ∷ [])
    ≡ forms_weight all.each + (1 + run_weight (run_of all.after ends)) =
    forms_behind all.each (inline (run_of all.after ends)) all.after in
    let whole : form_weight (tag_shown a label all).form
    ≤ 1 + (1 + run_weight (run_of a (begins ++ named)) + forms_weight (all.each ++ made_form all.after ends ∷ [])) =
    joined_weight (made_form a (begins ++ named) ∷ (all.each ++ made_form all.after ends ∷ [])) in
    omega (arith, less, gtr, label_shown label h)

tabular_weight : (a : Attrs) (label : List ℕ) (v : WideValue) (cells : AllShown) (n : ℕ) → IsLabel label
    → ((grid : Grid) → grid_of v ≡ Some grid
    → (AreSome (map length grid.sides)) × (length cells.each ≡ sum_of (map length grid.sides)))
    → cells_weight cells.each ≤ 1 + 242 * n → Fits (tabular_shown a label (grid_of v) cells).form (1 + n)
tabular_weight a label v cells n l known h = pick (grid_of v) refl
  where
    pick : (grid : Option Grid) → grid_of v ≡ grid → Fits (tabular_shown a label grid cells).form (1 + n)
    pick None e = bad_weight a label n l
    pick (Some grid) e = fit (cells_fit cells.each)
      where
        rows : List ShownRow
        rows = shown_rows (map length grid.sides) a cells.each

        fit : (b : Bool) → Fits (cond b (rows_shown a grid.sides cells) (bad a label)).form (1 + n)
        fit true =
            omega (
              arith,
              h,
              rows_weight (column_widths (row_widths rows)) grid.sides (map length grid.sides) a cells.each
                  (known grid e).0 (known grid e).1,
            )
        fit false = bad_weight a label n l

rule_weight : (r : Rule) (a : Attrs) (label : List ℕ) (vs : WideValues) (all : Bool → AllShown) (last : Option Shown)
    (table : Shown) → IsLabel label → ((barred : Bool) → forms_weight (all barred).each ≤ 242 * total_size (plains vs))
    → Fits (with_shown a label last).form (1 + total_size (plains vs))
    → Fits table.form (1 + total_size (plains vs))
    → Fits (rule_shown r a label vs all last table).form (1 + total_size (plains vs))
rule_weight rules.Concat a label vs all last table l h k t = omega (arith, joined_weight (all false).each, h false)
rule_weight rules.Document a label vs all last table l h k t = omega (arith, one_weight (all false).each, h false)
rule_weight rules.With a label vs all last table l h k t = k
rule_weight rules.Assign a label vs all last table l h k t = assign_weight a label vs (total_size (plains vs)) l
rule_weight rules.Silent a label vs all last table l h k t = omega arith
rule_weight rules.NextLine a label vs all last table l h k t = omega (arith, one_item Break)
rule_weight rules.NewPage a label vs all last table l h k t = omega (arith, one_item PageEnd)
rule_weight rules.Hspace a label vs all last table l h k t = space_weight Gap (λ n. omega arith) a label vs l
rule_weight rules.Vspace a label vs all last table l h k t = space_weight Down (λ n. omega arith) a label vs l
rule_weight rules.Error a label vs all last table l h k t = error_shown_weight a label vs l
rule_weight rules.Tabular a label vs all last table l h k t = t
rule_weight rules.Other a label vs all last table l h k t =
    tag_weight a label (all true) (total_size (plains vs)) l (h true)

giving_weight : (name : Option (List ℕ)) (before a : Attrs) (label : List ℕ) (o : Option Shown) (m n : ℕ) → m ≤ n
    → Fits (with_shown a label o).form m → Fits (with_shown a label (giving_back name before o)).form n
giving_weight name before a label None m n le h = omega arith
giving_weight name before a label (Some s) m n le h = omega arith

-- ---- values

text_weight : (a : Attrs) (at : Option (List ℕ)) (words : List ℕ)
    → Fits (inline (run_of a (drawn a at words))) (1 + length words)
text_weight a at words =
    omega (arith, run_of_weight a (drawn a at words), drawn_weight a at words, most_shown words)

mutual
  unfolding show

  show_weight : (a : Attrs) (v : WideValue) → IsLabelled (plain v) → Fits (show a v).form (size_of (plain v))
  show_weight a (text words at) h = text_weight a at words
  show_weight a (made label vs at) h =
      rule_weight (rule_of label) a label vs (λ barred. show_all barred a vs) (show_with a a vs)
      (tabular_shown a label (grid_of (made label vs at)) (show_below (levels_of vs) a vs)) h.0
      (λ barred. all_weight barred a vs h.1) (last_weight a label a a vs h.0 h.1)
      (tabular_weight a label (made label vs at) (show_below (levels_of vs) a vs) (total_size (plains vs)) h.0
      (cells_known a label vs at) (below_weight (levels_of vs) a vs h.1))

  all_weight : (barred : Bool) (a : Attrs) (vs : WideValues) → AreLabelled (plains vs)
      → forms_weight (show_all barred a vs).each ≤ 242 * total_size (plains vs)
  all_weight barred a none h = omega arith
  all_weight true a (also v vs) h =
      let first : Fits (show a v).form (size_of (plain v)) = show_weight a v h.0 in
      let rest : forms_weight (show_all true (show a v).after vs).each ≤ 242 * total_size (plains vs) =
      all_weight true (show a v).after vs h.1 in
      let behind : run_weight (run_of a (drawn a None (codes "|"))) ≡ items_weight (drawn a None (codes "|")) =
      run_of_weight a (drawn a None (codes "|")) in
      let one : items_weight (drawn a None (codes "|")) ≤ shown_length (codes "|") = drawn_weight a None (codes "|") in
      omega (arith, bar)
  all_weight false a (also v vs) h =
      let first : Fits (show a v).form (size_of (plain v)) = show_weight a v h.0 in
      let rest : forms_weight (show_all false (show a v).after vs).each ≤ 242 * total_size (plains vs) =
      all_weight false (show a v).after vs h.1 in
      omega arith

  last_weight : (c : Attrs) (label : List ℕ) (before a : Attrs) (vs : WideValues) → IsLabel label
      → AreLabelled (plains vs)
      → Fits (with_shown c label (show_with before a vs)).form (1 + total_size (plains vs))
  last_weight c label before a none l h = bad_weight c label 0 l
  last_weight c label before a (also v none) l h =
      let first : Fits (show a v).form (size_of (plain v)) = show_weight a v h.0 in
      omega arith
  last_weight c label before a (also x (also v vs)) l h =
      giving_weight (value_text x) before c label
      (show_with before (with_named (attribute_in (value_text x)) (value_text v) a) vs) (1 + total_size (plains vs))
      (1 + total_size (plains (also x (also v vs)))) (omega arith)
      (last_weight c label before (with_named (attribute_in (value_text x)) (value_text v) a) vs l h.1.1)

  below_weight : (levels : List Level) (a : Attrs) (vs : WideValues) → AreLabelled (plains vs)
      → cells_weight (show_below levels a vs).each ≤ 1 + 242 * total_size (plains vs)
  below_weight levels a none h = omega arith
  below_weight [] a (also v none) h =
      let own : Fits (show a v).form (size_of (plain v)) = show_weight a v h.0 in
      omega arith
  below_weight [] a (also x (also v vs)) h = omega arith
  below_weight (Every ∷ levels) a (also (text words at) vs) h =
      let rest : cells_weight (show_below (Every ∷ levels) a vs).each ≤ 1 + 242 * total_size (plains vs) =
      below_weight (Every ∷ levels) a vs h.1 in
      omega arith
  below_weight (Every ∷ levels) a (also (made label ws at) vs) h =
      let b : Attrs = (show_below levels a ws).after in
      let own : cells_weight (show_below levels a ws).each ≤ 1 + 242 * total_size (plains ws) =
      below_weight levels a ws h.0.1 in
      let rest : cells_weight (show_below (Every ∷ levels) b vs).each ≤ 1 + 242 * total_size (plains vs) =
      below_weight (Every ∷ levels) b vs h.1 in
      omega (arith, cells_both (show_below levels a ws).each (show_below (Every ∷ levels) b vs).each)
  below_weight (Final ∷ levels) a (also (text words at) none) h = omega arith
  below_weight (Final ∷ levels) a (also (made label ws at) none) h =
      let own : cells_weight (show_below levels a ws).each ≤ 1 + 242 * total_size (plains ws) =
      below_weight levels a ws h.0.1 in
      omega arith
  below_weight (Final ∷ levels) a (also x (also v vs)) h =
      let rest : cells_weight (show_below (Final ∷ levels) a (also v vs)).each
      ≤ 1 + 242 * total_size (plains (also v vs)) = below_weight (Final ∷ levels) a (also v vs) h.1 in
      omega arith

pub labelled_weight : (a : Attrs) (v : WideValue) → IsLabelled (plain v)
    → weight_of (shown_paragraphs a v) ≤ 242 * size_of (plain v)
labelled_weight a v h =
    let own : Fits (show a v).form (size_of (plain v)) = show_weight a v h in
    omega (arith, unit_weight (show a v).form (show a v).after)
