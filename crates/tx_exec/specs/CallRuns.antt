-- What functions of the evaluator do with the operands of `map-args` and of a primitive.
use Rattle.std.specs.Prelude.{ℕ, ◌-◌, List, [], ◌∷◌, map, Option, Some, None, option_and_then, if◌then◌else◌, codes}
use Rattle.std.specs.List.{range_with_len}
use Rattle.std.specs.Option.{option_map}
use Rattle.tx_tree.specs.WideTree.{WideTree, text_of, total_nodes}
use Rattle.tx_origin.specs.Values.{WideValue, vals, plain, plains, whole}
use Rattle.tx_origin.specs.TaggedTrees.{TaggedTree, tagged_of}
use Rattle.tx_prim.specs.declared.names.Prim.{Prim}
use Rattle.tx_prim.specs.Table.{primitive_value}
use Rattle.tx_exec_form.specs.Runs.{Run, ◌>>=◌, ◌>>◌, pay}
use Rattle.tx_exec_form.specs.Frames.{Frame}
use Rattle.tx_exec_form.specs.Words.{is_label}
use Rattle.tx_exec_form.specs.Rows.{Eval, wrong, taken, map_args_run}
use Rattle.tx_exec.specs.declared.calls.MapWords.{MapWords}
use Rattle.tx_exec.specs.declared.calls.MapCall.{MapCall}
use Rattle.tx_exec.specs.declared.calls.MapCall.TheVariants as map_calls

-- the text of a leaf where it is a label
abbrev pub label_in : WideTree → Option (List ℕ)
label_in t = option_and_then (λ x. if is_label x then Some x else None) (text_of t)

-- two labels and a name, or an error
abbrev pub map_by : ℕ → Eval → Frame → List ℕ → List TaggedTree → Option MapWords → Run WideValue
map_by k below f label numbers None = wrong k (codes "bad") label
map_by k below f label numbers (Some w) = map_args_run k below f label w.foo w.root w.name numbers

-- from the one number to before the other
abbrev pub range_between : Option (ℕ × ℕ) → Option (List ℕ)
range_between = option_map (λ p. range_with_len p.0 (p.1 - p.0))

-- an error, or the call
abbrev pub map_made : ℕ → Eval → Frame → List ℕ → List ℕ → MapCall → Run WideValue
map_made k below f label x map_calls.Bad = wrong k (codes "bad") label
map_made k below f label x map_calls.NoPart = wrong k (codes "no-part") x
map_made k below f label x (map_calls.Call t) = below (tagged_of t) f

-- the table of the primitives on values
unfoldable pub computed : ℕ → Prim → List WideValue → Run WideValue
computed k which vs = do
  pay (total_nodes (plains (vals vs)))
  taken k (whole None (primitive_value which (map plain vs)))
