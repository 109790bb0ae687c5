-- The table: what each primitive makes of its operands.
use Rattle.std.specs.Prelude.{ℕ, Bool, true, false, not, nat_le, if◌then◌else◌, List, [], ◌∷◌, length}
use Rattle.std.specs.Prelude.{ℤ, pos, codes, is_some, Option, Some, None, slice_get, option_and_then}
use Rattle.std.specs.Fmt.{signed_decimal}
use Rattle.std.specs.Option.{option_map_or}
use Rattle.tx_tree.specs.declared.TheConstants.{MOST_ARITY}
use Rattle.tx_tree.specs.WideTree.{WideTree, Forest, leaf, node, nil, cons, forest, trees, text_of, children_of}
use Rattle.tx_prim.specs.declared.amounts.Amount.{Amount}
use Rattle.tx_prim.specs.declared.amounts.Amount.TheVariants.{Number as Count, Length as Distance}
use Rattle.tx_prim.specs.declared.amounts.ValueFault.{ValueFault}
use Rattle.tx_prim.specs.declared.amounts.ValueFault.TheVariants.{Bad, NoPart, Limit}
use Rattle.tx_prim.specs.declared.amounts.Answer.{Answer}
use Rattle.tx_prim.specs.declared.amounts.Answer.TheVariants.{Value, Truth, Failed}
use Rattle.tx_prim.specs.declared.names.Prim.{Prim}
use Rattle.tx_prim.specs.declared.names.Prim.TheVariants.{Plus, Minus, Times, Div, Mod, Equal, Unequal, Less}
use Rattle.tx_prim.specs.declared.names.Prim.TheVariants.{LessEq, Greater, GreaterEq, And, Or, Xor, Not, Merge}
use Rattle.tx_prim.specs.declared.names.Prim.TheVariants.{Length, Range, IsTuple, LookUp, GetLabel, GetArity}
use Rattle.tx_prim.specs.declared.comparing.Comparison.TheVariants.{Before, NotBehind, Behind, NotBefore}
use Rattle.tx_prim.specs.declared.table.Calculation.{Calculation}
use Rattle.tx_prim.specs.declared.table.Calculation.TheVariants.{Sum, Difference, Product, Quotient, Remainder}
use Rattle.tx_prim.specs.declared.table.Connective.{Connective}
use Rattle.tx_prim.specs.declared.table.Connective.TheVariants.{AllTrue, SomeTrue, OneTrue, NoneTrue}
use Rattle.tx_prim.specs.Lengths.{length_text}
use Rattle.tx_prim.specs.Items.{text_items, joined_lists}
use Rattle.tx_prim.specs.Operands.{every, integer_in, amount_in, truth_in, tuple_in, part}
use Rattle.tx_prim.specs.Arithmetic.{plus, minus, times, quotient, remainder, of_two, compared}
use Rattle.tx_prim.specs.Arithmetic.{sameness, all_true, some_true, one_true, none_true}
use Rattle.tx_prim.specs.Names.{name_of, fault_text}

-- ---- answers as trees

-- (error "kind" "detail")
abbrev pub error_node : List ℕ → List ℕ → WideTree
error_node kind detail = node (codes "error") (cons (leaf kind) (cons (leaf detail) nil))

abbrev pub failure : ValueFault → Prim → WideTree
failure fault which = error_node (fault_text fault) (name_of which)

abbrev pub tuple_node : List WideTree → WideTree
tuple_node ts = node (codes "tuple") (forest ts)

abbrev pub amount_text : Amount → List ℕ
amount_text (Count z) = signed_decimal z
amount_text (Distance z) = length_text z

abbrev pub truth_text : Bool → List ℕ
truth_text true = codes "true"
truth_text false = codes "false"

abbrev pub told : Prim → Answer → WideTree
told which (Value a) = leaf (amount_text a)
told which (Truth b) = leaf (truth_text b)
told which (Failed fault) = failure fault which

-- ---- the rows on trees

-- the row where all operands could be read, and else bad
abbrev pub on_all : {A : Type 0} → (List A → Answer) → Option (List A) → Answer
on_all row None = Failed Bad
on_all row (Some operands) = row operands

-- how many items a text has, or how many children a node has
abbrev pub length_in : WideTree → ℕ
length_in (leaf text) = length (text_items text)
length_in (node label ts) = length (trees ts)

abbrev pub count_answer : ℕ → Answer
count_answer n = Value (Count (pos n))

abbrev pub joined_texts : Option (List (List ℕ)) → Option (List (List WideTree)) → WideTree
joined_texts (Some texts) tuples = leaf (joined_lists texts)
joined_texts None (Some tuples) =
    if nat_le (length (joined_lists tuples)) MOST_ARITY then tuple_node (joined_lists tuples) else failure Limit Merge
joined_texts None None = failure Bad Merge

abbrev pub merged : List WideTree → WideTree
merged operands = joined_texts (every text_of operands) (every tuple_in operands)

abbrev pub text_part : Option (List (List ℕ)) → WideTree
text_part None = failure NoPart Range
text_part (Some items) = leaf (joined_lists items)

abbrev pub tuple_part : Option (List WideTree) → WideTree
tuple_part None = failure NoPart Range
tuple_part (Some ts) = tuple_node ts

abbrev pub tree_part : WideTree → ℤ → ℤ → WideTree
tree_part (leaf text) i j = text_part (part i j (text_items text))
tree_part (node label ts) i j =
    option_map_or (λ us. tuple_part (part i j us)) (tuple_in (node label ts)) (failure Bad Range)

abbrev pub ranged : List WideTree → WideTree
ranged (t ∷ i ∷ j ∷ []) =
    option_map_or (λ m. option_map_or (λ n. tree_part t m n) (integer_in j) (failure Bad Range))
    (integer_in i) (failure Bad Range)
ranged operands = failure Bad Range

-- the child of this number
abbrev pub child_numbered : List WideTree → ℤ → Option WideTree
child_numbered ts (pos n) = slice_get ts n
child_numbered ts z = None

abbrev pub looked_up : List WideTree → WideTree
looked_up (node label ts ∷ i ∷ []) =
    option_map_or (λ n. option_map_or (λ t. t) (child_numbered (trees ts) n) (failure NoPart LookUp))
    (integer_in i) (failure Bad LookUp)
looked_up operands = failure Bad LookUp

abbrev pub label_told : List WideTree → WideTree
label_told (node label ts ∷ []) = leaf label
label_told operands = failure Bad GetLabel

-- how many items the one operand has, or how many children
abbrev pub length_row : List WideTree → Answer
length_row (t ∷ []) = count_answer (length_in t)
length_row operands = Failed Bad

abbrev pub tuple_row : List WideTree → Answer
tuple_row (t ∷ []) = Truth (is_some (tuple_in t))
tuple_row operands = Failed Bad

abbrev pub arity_row : List WideTree → Answer
arity_row (t ∷ []) = count_answer (length (children_of t))
arity_row operands = Failed Bad

abbrev pub calculated : Calculation → List Amount → Answer
calculated Sum = plus
calculated Difference = minus
calculated Product = times
calculated Quotient = of_two quotient
calculated Remainder = of_two remainder

abbrev pub connected : Connective → List Bool → Answer
connected AllTrue = all_true
connected SomeTrue = some_true
connected OneTrue = one_true
connected NoneTrue = none_true

-- ---- a row for each name

abbrev pub primitive_value : Prim → List WideTree → WideTree
primitive_value Plus ts = told Plus (on_all (calculated Sum) (every amount_in ts))
primitive_value Minus ts = told Minus (on_all (calculated Difference) (every amount_in ts))
primitive_value Times ts = told Times (on_all (calculated Product) (every amount_in ts))
primitive_value Div ts = told Div (on_all (calculated Quotient) (every amount_in ts))
primitive_value Mod ts = told Mod (on_all (calculated Remainder) (every amount_in ts))
primitive_value Equal ts = told Equal (sameness true ts)
primitive_value Unequal ts = told Unequal (sameness false ts)
primitive_value Less ts = told Less (compared Before ts)
primitive_value LessEq ts = told LessEq (compared NotBehind ts)
primitive_value Greater ts = told Greater (compared Behind ts)
primitive_value GreaterEq ts = told GreaterEq (compared NotBefore ts)
primitive_value And ts = told And (on_all (connected AllTrue) (every truth_in ts))
primitive_value Or ts = told Or (on_all (connected SomeTrue) (every truth_in ts))
primitive_value Xor ts = told Xor (on_all (connected OneTrue) (every truth_in ts))
primitive_value Not ts = told Not (on_all (connected NoneTrue) (every truth_in ts))
primitive_value Merge ts = merged ts
primitive_value Length ts = told Length (length_row ts)
primitive_value Range ts = ranged ts
primitive_value IsTuple ts = told IsTuple (tuple_row ts)
primitive_value LookUp ts = looked_up ts
primitive_value GetLabel ts = label_told ts
primitive_value GetArity ts = told GetArity (arity_row ts)
