-- Worked rows: a macro whose body is layers of `with` round an argument, and the shell of its call.
use Rattle.std.proofs.Common.{◌≡◌, ℕ, List, [], ◌∷◌, ap, refl, sym, ◌∙◌}
use Rattle.std.specs.Prelude.{Option, Some, None, codes, if◌then◌else◌, slice_get}
use Rattle.std.specs.Option.{option_map}
use Rattle.std.specs.Ordering.{nat_cmp}
use Rattle.std.specs.Cmp.Lexicographic.{slice_cmp}
use Rattle.std.specs.Str.{bytes_eq}
use Rattle.std.specs.FinMap.{get-empty}
use Rattle.tx_tree.specs.WideTree.{WideTree, Forest, leaf, node, forest}
use Rattle.tx_origin.specs.TaggedTrees.{kids_from}
use Rattle.tx_exec_form.specs.Runs.{Before, on_done, from_own, pay, need, look}
use Rattle.tx_exec_form.specs.Frames.{top}
use Rattle.tx_exec_form.specs.Rows.{ex, row, node_run, leaf_run, tag_run, tag_found, called, with_body, set_all, kept}
use Rattle.tx_exec_form.specs.Rows.{arg_of, arg_part, used}
use Rattle.tx_exec_form.specs.Evaluated.{WideTrace, start, evaluated_in}
use Rattle.tx_parts.specs.Shells.{Shell, Opener, in_layers, child_in, shell_run}
use Rattle.tx_parts.specs.Opening.{shells_by}
use Rattle.tx_parts.specs.Composed.{alone}
use Rattle.tx_parts.specs.Layered.{composed_by}
use Rattle.tx_parts.proofs.Running.{fresh}

-- (macro "x" (with "color" "red" (with "y" "bc" (arg "x"))))
abbrev box_macro : WideTree
box_macro = node (codes "macro") (forest (leaf (codes "x") ∷ node (codes "with") (forest (leaf (codes "color")
    ∷ leaf (codes "red") ∷ node (codes "with") (forest (leaf (codes "y") ∷ leaf (codes "bc")
    ∷ node (codes "arg") (forest (leaf (codes "x") ∷ [])) ∷ [])) ∷ [])) ∷ []))

abbrev content : Forest
content = forest (leaf (codes "a") ∷ [])

-- (box "a")
abbrev box : WideTree
box = node (codes "box") content

abbrev box_shell : Shell
box_shell = record {
  layers = record { names = codes "color" ∷ []; trees = leaf (codes "red") ∷ [] }
      ∷ record { names = codes "y" ∷ []; trees = leaf (codes "bc") ∷ [] } ∷ [];
  inner = 0;
}

boxed : Before
boxed x = if bytes_eq x (codes "box") then Some box_macro else None

-- the call does what the shell says
box_runs : ex 9 (alone box) top boxed (start 9 100) ≡ shell_run 9 box_shell box boxed (start 9 100)
unfolding boxed ex shell_run in_layers node_run leaf_run row tag_run called with_body set_all kept arg_of arg_part used
    pay need look
box_runs =
    ap (λ o. on_done boxed (tag_found 9 (ex 8) (codes "box") (Some []) (kids_from (Some []) 0 content) top)
    (from_own (codes "box") o boxed (fresh 99 8))) (get-empty (slice_cmp nat_cmp) (codes "box"))
    ∙ sym (ap (λ o. on_done boxed
    (λ _. child_in (in_layers 8 box_shell.layers) (slice_get (kids_from (Some []) 0 content) 0))
    (from_own (codes "box") o boxed (fresh 99 8))) (get-empty (slice_cmp nat_cmp) (codes "box")))

abbrev of_box : Opener
of_box t m = Some box_shell

abbrev measures : Option WideTrace → Option (List ℕ)
measures o = option_map (λ t. t.cost ∷ t.height ∷ []) o

-- (with "color" "red" (with "y" "bc" "a")) costs 26 and needs 3 levels
box_costs : measures (composed_by (shells_by of_box) 9 100 box boxed) ≡ Some (28 ∷ 5 ∷ [])
unfolding composed_by boxed evaluated_in ex leaf_run pay need
box_costs = refl
