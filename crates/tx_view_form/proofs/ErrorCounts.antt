-- A value shows at most as many errors as its size.
use Rattle.std.proofs.Common.{ℕ, ◌+◌, ◌≤◌, Bool, true, false, cond, List, [], ◌∷◌, length, length-append, arith, Option, Some, None}
use Rattle.std.specs.Prelude.{ℤ, option_and_then}
use Rattle.tx_prim.specs.Lengths.{length_of}
use Rattle.tx_tree.specs.WideTree.{size_of, total_size}
use Rattle.tx_origin.specs.Values.{WideValue, WideValues, text, made, none, also, value_text, plain, plains}
use Rattle.tx_table.specs.declared.grids.Grid.{Grid}
use Rattle.tx_table.specs.Grids.{grid_of}
use Rattle.tx_items.specs.declared.attributes.Attrs.{Attrs}
use Rattle.tx_items.specs.declared.drawing.Item.{Item}
use Rattle.tx_items.specs.declared.drawing.Item.TheVariants.{Gap, Down}
use Rattle.tx_items.specs.Attributes.{with_named, attribute_in}
use Rattle.tx_items.specs.Rules.{Rule, rule_of}
use Rattle.tx_items.specs.Tables.{Level, Every, Final, levels_of}
use Rattle.tx_items.specs.Shows.{bad, cells_fit, rows_shown, tabular_shown, show_below}
use Rattle.tx_items.specs.Rules as rules
use Rattle.tx_items.specs.Shows.{Shown, AllShown, with_shown, assign_shown, space_by, space_shown, error_by}
use Rattle.tx_items.specs.Shows.{error_shown, rule_shown, giving_back, show, show_all, show_with}

assign_errors : (a : Attrs) (label : List ℕ) (vs : WideValues) → length (assign_shown a label vs).errors ≤ 1
assign_errors a label none = omega arith
assign_errors a label (also x none) = omega arith
assign_errors a label (also x (also v none)) = omega arith
assign_errors a label (also x (also v (also w vs))) = omega arith

space_by_errors : (item : ℕ → Item) (a : Attrs) (label : List ℕ) (z : Option ℤ)
    → length (space_by item a label z).errors ≤ 1
space_by_errors item a label None = omega arith
space_by_errors item a label (Some z) = omega arith

space_errors : (item : ℕ → Item) (a : Attrs) (label : List ℕ) (vs : WideValues)
    → length (space_shown item a label vs).errors ≤ 1
space_errors item a label none = omega arith
space_errors item a label (also v none) = space_by_errors item a label (option_and_then length_of (value_text v))
space_errors item a label (also v (also w vs)) = omega arith

error_by_errors : (a : Attrs) (label : List ℕ) (k d : Option (List ℕ)) → length (error_by a label k d).errors ≤ 1
error_by_errors a label None d = omega arith
error_by_errors a label (Some k) None = omega arith
error_by_errors a label (Some k) (Some d) = omega arith

error_errors : (a : Attrs) (label : List ℕ) (vs : WideValues) → length (error_shown a label vs).errors ≤ 1
error_errors a label none = omega arith
error_errors a label (also k none) = omega arith
error_errors a label (also k (also d none)) = error_by_errors a label (value_text k) (value_text d)
error_errors a label (also k (also d (also e vs))) = omega arith

tabular_errors : (a : Attrs) (label : List ℕ) (grid : Option Grid) (cells : AllShown) (n : ℕ)
    → length cells.errors ≤ n → length (tabular_shown a label grid cells).errors ≤ 1 + n
tabular_errors a label None cells n h = omega arith
tabular_errors a label (Some grid) cells n h = pick (cells_fit cells.each)
  where
    pick : (b : Bool) → length (cond b (rows_shown a grid.sides cells) (bad a label)).errors ≤ 1 + n
    pick true = omega (arith, h)
    pick false = omega arith

rule_errors : (r : Rule) (a : Attrs) (label : List ℕ) (vs : WideValues) (all : Bool → AllShown) (last : Option Shown)
    (table : Shown) (n : ℕ) → ((barred : Bool) → length (all barred).errors ≤ n)
    → length (with_shown a label last).errors ≤ 1 + n → length table.errors ≤ 1 + n
    → length (rule_shown r a label vs all last table).errors ≤ 1 + n
rule_errors rules.Concat a label vs all last table n h k t = let few : length (all false).errors ≤ n = h false in omega arith
rule_errors rules.Document a label vs all last table n h k t = let few : length (all false).errors ≤ n = h false in omega arith
rule_errors rules.With a label vs all last table n h k t = k
rule_errors rules.Assign a label vs all last table n h k t = omega (arith, assign_errors a label vs)
rule_errors rules.Silent a label vs all last table n h k t = omega arith
rule_errors rules.NextLine a label vs all last table n h k t = omega arith
rule_errors rules.NewPage a label vs all last table n h k t = omega arith
rule_errors rules.Hspace a label vs all last table n h k t = omega (arith, space_errors Gap a label vs)
rule_errors rules.Vspace a label vs all last table n h k t = omega (arith, space_errors Down a label vs)
rule_errors rules.Error a label vs all last table n h k t = omega (arith, error_errors a label vs)
rule_errors rules.Tabular a label vs all last table n h k t = t
rule_errors rules.Other a label vs all last table n h k t = let few : length (all true).errors ≤ n = h true in omega arith

giving_errors : (name : Option (List ℕ)) (before a : Attrs) (label : List ℕ) (o : Option Shown) (n m : ℕ) → n ≤ m
    → length (with_shown a label o).errors ≤ 1 + n
    → length (with_shown a label (giving_back name before o)).errors ≤ 1 + m
giving_errors name before a label None n m le h = omega arith
giving_errors name before a label (Some s) n m le h = omega arith

mutual
  unfolding show

  pub show_errors : (a : Attrs) (v : WideValue) → length (show a v).errors ≤ size_of (plain v)
  show_errors a (text words at) = omega arith
  show_errors a (made label vs at) =
      rule_errors (rule_of label) a label vs (λ barred. show_all barred a vs) (show_with a a vs)
      (tabular_shown a label (grid_of (made label vs at)) (show_below (levels_of vs) a vs)) (total_size (plains vs))
      (λ barred. all_errors barred a vs) (last_errors a label a a vs)
      (tabular_errors a label (grid_of (made label vs at)) (show_below (levels_of vs) a vs) (total_size (plains vs))
      (below_errors (levels_of vs) a vs))

  all_errors : (barred : Bool) (a : Attrs) (vs : WideValues)
      → length (show_all barred a vs).errors ≤ total_size (plains vs)
  all_errors barred a none = omega arith
  all_errors barred a (also v vs) =
      let first : length (show a v).errors ≤ size_of (plain v) = show_errors a v in
      let rest : length (show_all barred (show a v).after vs).errors ≤ total_size (plains vs) =
      all_errors barred (show a v).after vs in
      omega (arith, length-append (show a v).errors (show_all barred (show a v).after vs).errors)

  last_errors : (c : Attrs) (label : List ℕ) (before a : Attrs) (vs : WideValues)
      → length (with_shown c label (show_with before a vs)).errors ≤ 1 + total_size (plains vs)
  last_errors c label before a none = omega arith
  last_errors c label before a (also v none) =
      let first : length (show a v).errors ≤ size_of (plain v) = show_errors a v in
      omega arith
  last_errors c label before a (also x (also v vs)) =
      giving_errors (value_text x) before c label
      (show_with before (with_named (attribute_in (value_text x)) (value_text v) a) vs) (total_size (plains vs))
      (size_of (plain x) + (size_of (plain v) + total_size (plains vs))) (omega arith)
      (last_errors c label before (with_named (attribute_in (value_text x)) (value_text v) a) vs)

  below_errors : (levels : List Level) (a : Attrs) (vs : WideValues)
      → length (show_below levels a vs).errors ≤ total_size (plains vs)
  below_errors levels a none = omega arith
  below_errors [] a (also v none) =
      let own : length (show a v).errors ≤ size_of (plain v) = show_errors a v in
      omega arith
  below_errors [] a (also x (also v vs)) = omega arith
  below_errors (Every ∷ levels) a (also (text words at) vs) =
      let rest : length (show_below (Every ∷ levels) a vs).errors ≤ total_size (plains vs) =
      below_errors (Every ∷ levels) a vs in
      omega arith
  below_errors (Every ∷ levels) a (also (made label ws at) vs) =
      let b : Attrs = (show_below levels a ws).after in
      let own : length (show_below levels a ws).errors ≤ total_size (plains ws) = below_errors levels a ws in
      let rest : length (show_below (Every ∷ levels) b vs).errors ≤ total_size (plains vs) =
      below_errors (Every ∷ levels) b vs in
      omega (arith, length-append (show_below levels a ws).errors (show_below (Every ∷ levels) b vs).errors)
  below_errors (Final ∷ levels) a (also (text words at) none) = omega arith
  below_errors (Final ∷ levels) a (also (made label ws at) none) =
      let own : length (show_below levels a ws).errors ≤ total_size (plains ws) = below_errors levels a ws in
      omega arith
  below_errors (Final ∷ levels) a (also x (also v vs)) =
      let rest : length (show_below (Final ∷ levels) a (also v vs)).errors ≤ total_size (plains (also v vs)) =
      below_errors (Final ∷ levels) a (also v vs) in
      omega arith
