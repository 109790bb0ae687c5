-- Worked rows: the trace of a tree with two parts in a shell, from what is stored of them.
use Rattle.std.proofs.Common.{◌≡◌, ℕ, List, [], ◌∷◌, length, refl}
use Rattle.std.specs.Prelude.{Option, Some, None, codes, if◌then◌else◌}
use Rattle.std.specs.Option.{option_map}
use Rattle.std.specs.Str.{bytes_eq}
use Rattle.std.specs.FinMap.{empty}
use Rattle.tx_tree.specs.WideTree.{WideTree, leaf, node, forest}
use Rattle.tx_origin.specs.Values.{text}
use Rattle.tx_exec_form.specs.Runs.{Before, pay, need}
use Rattle.tx_exec_form.specs.Rows.{ex, leaf_run}
use Rattle.tx_exec_form.specs.Evaluated.{WideTrace, evaluated_in}
use Rattle.tx_parts.specs.Shells.{Opener}
use Rattle.tx_parts.specs.Opening.{shells_by}
use Rattle.tx_parts.specs.Parts.{Stored}
use Rattle.tx_parts.specs.Recomposed.{FromStored, recomposed_by}

-- (box (document "a" "b"))
abbrev boxed_document : WideTree
boxed_document = node (codes "box")
    (forest (node (codes "document") (forest (leaf (codes "a") ∷ leaf (codes "b") ∷ [])) ∷ []))

-- color is set to "red" round the child of a box
abbrev of_red_box : Opener
of_red_box t m = Some (record {
  layers = record { names = codes "color" ∷ []; trees = leaf (codes "red") ∷ [] } ∷ [];
  inner = 0;
})

box_named : Before
box_named x = if bytes_eq x (codes "box") then Some (leaf []) else None

abbrev plain_trace : ℕ → ℕ → WideTrace
plain_trace cost height = record {
  value = text (codes "kept") (Some []);
  looks = empty;
  writes = empty;
  cost = cost;
  height = height;
}

abbrev stored_part : ℕ → ℕ → Stored
stored_part cost height = record { path = []; trace = Some (plain_trace cost height) }

abbrev boxed_from : List Stored → FromStored WideTrace
boxed_from ps = recomposed_by (shells_by of_red_box) 9 100 boxed_document box_named ps

-- the cost, the height, and how many are left
abbrev measures_and_left : FromStored WideTrace → Option (List ℕ)
measures_and_left o = option_map (λ r. r.0.cost ∷ r.0.height ∷ length r.1 ∷ []) o

-- The document takes a step and a level, and round it there are 1 + 15 + 1 steps and 3 levels.
both_taken : measures_and_left (boxed_from (stored_part 10 1 ∷ stored_part 20 3 ∷ stored_part 5 5 ∷ [])) ≡
    Some (48 ∷ 7 ∷ 1 ∷ [])
unfolding recomposed_by box_named evaluated_in ex leaf_run pay need
both_taken = refl

one_missing : boxed_from (stored_part 10 1 ∷ []) ≡ None
unfolding recomposed_by box_named evaluated_in ex leaf_run pay need
one_missing = refl

one_over : boxed_from (stored_part 10 1 ∷ record { path = []; trace = None } ∷ []) ≡ None
unfolding recomposed_by box_named evaluated_in ex leaf_run pay need
one_over = refl
