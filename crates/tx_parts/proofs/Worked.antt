-- Worked rows: which parts a tree has, and what they cost.
use Rattle.std.proofs.Common.{◌≡◌, ℕ, List, [], ◌∷◌, map, ap, refl}
use Rattle.std.specs.Prelude.{Option, Some, None, codes, if◌then◌else◌}
use Rattle.std.specs.Option.{option_map}
use Rattle.std.specs.Ordering.{nat_cmp}
use Rattle.std.specs.Cmp.Lexicographic.{slice_cmp}
use Rattle.std.specs.Str.{bytes_eq}
use Rattle.std.specs.FinMap.{get-empty}
use Rattle.tx_tree.specs.WideTree.{WideTree, leaf, node, forest}
use Rattle.tx_exec_form.specs.Runs.{Before, on_done, from_own, pay, need, look}
use Rattle.tx_exec_form.specs.Rows.{ex, row, node_run, leaf_run, only_child, value_found, value_of, taken}
use Rattle.tx_exec_form.specs.Rows.{assigned, stored}
use Rattle.tx_exec_form.specs.Evaluated.{WideTrace, traced, evaluated_in}
use Rattle.tx_parts.specs.Composed.{evaluates}
use Rattle.tx_parts.specs.Parts.{Part, part_trace, parts, parts_by}
use Rattle.tx_parts.proofs.Running.{fresh}

abbrev cost_in : Option WideTrace → Option ℕ
cost_in o = option_map (λ t. t.cost) o

-- (assign "v" "x")
assign_costs : (e : Before) →
    cost_in (evaluates 9 100 (node (codes "assign") (forest (leaf (codes "v") ∷ leaf (codes "x") ∷ []))) e) ≡ Some 7
unfolding evaluated_in ex row node_run leaf_run assigned stored pay need
assign_costs e = refl

-- v is "x" before it
v_is_x : Before
v_is_x x = if bytes_eq x (codes "v") then Some (leaf (codes "x")) else None

-- (value "v")
value_costs : cost_in (evaluates 9 100 (node (codes "value") (forest (leaf (codes "v") ∷ []))) v_is_x) ≡ Some 5
unfolding v_is_x evaluated_in ex row node_run leaf_run only_child value_of taken pay need look
value_costs =
    ap (λ o. cost_in
    (traced 9 100 (on_done v_is_x (value_found 9 (codes "v")) (from_own (codes "v") o v_is_x (fresh 97 7)))))
    (get-empty (slice_cmp nat_cmp) (codes "v"))

-- (with "color" "red" (document "long text" "x"))
abbrev paragraph : WideTree
paragraph = node (codes "with") (forest (leaf (codes "color") ∷ leaf (codes "red")
    ∷ node (codes "document") (forest (leaf (codes "long text") ∷ leaf (codes "x") ∷ [])) ∷ []))

abbrev costs : List Part → List (List ℕ × Option ℕ)
costs ps = map {B = List ℕ × Option ℕ} (λ p. (p.path, cost_in (part_trace p))) ps

-- at the path 1
two_parts : (e : Before) →
    costs (parts 9 100 (1 ∷ []) paragraph e) ≡ ((1 ∷ 2 ∷ 0 ∷ []), Some 10) ∷ ((1 ∷ 2 ∷ 1 ∷ []), Some 2) ∷ []
unfolding parts_by evaluated_in ex leaf_run pay need
two_parts e = refl
