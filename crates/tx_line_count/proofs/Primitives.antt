-- What a primitive makes of labelled trees is labelled.
use Rattle.std.proofs.Common.{ℕ, ◌-◌, Bool, true, false, cond, List, [], ◌∷◌, Option, Some, None, ℤ, pos}
use Rattle.std.proofs.Common.{negsuc, length, codes, take, drop, nat_le, ◌&&◌}
use Rattle.std.specs.Prelude.{option_and_then}
use Rattle.std.specs.List.{AllByRecursion}
use Rattle.std.specs.Option.{option_map, option_map_or}
use Rattle.std.specs.Str.{bytes_eq}
use Rattle.tx_tree.specs.declared.TheConstants.{MOST_ARITY}
use Rattle.tx_tree.specs.WideTree.{WideTree, leaf, node, trees, text_of}
use Rattle.tx_prim.specs.declared.amounts.ValueFault.{ValueFault}
use Rattle.tx_prim.specs.declared.amounts.ValueFault.TheVariants.{Bad, NoPart, Limit}
use Rattle.tx_prim.specs.declared.amounts.Answer.{Answer}
use Rattle.tx_prim.specs.declared.amounts.Answer.TheVariants.{Value, Truth, Failed}
use Rattle.tx_prim.specs.declared.names.Prim.{Prim}
use Rattle.tx_prim.specs.declared.names.Prim.TheVariants.{Plus, Minus, Times, Div, Mod, Equal, Unequal, Less, LessEq}
use Rattle.tx_prim.specs.declared.names.Prim.TheVariants.{Greater, GreaterEq, And, Or, Xor, Not, Merge, Length, Range}
use Rattle.tx_prim.specs.declared.names.Prim.TheVariants.{IsTuple, LookUp, GetLabel, GetArity}
use Rattle.tx_prim.specs.declared.comparing.Comparison.TheVariants.{Before, NotBehind, Behind, NotBefore}
use Rattle.tx_prim.specs.declared.table.Calculation.TheVariants.{Sum, Difference, Product, Quotient, Remainder}
use Rattle.tx_prim.specs.declared.table.Connective.TheVariants.{AllTrue, SomeTrue, OneTrue, NoneTrue}
use Rattle.tx_prim.specs.Items.{joined_lists, text_items}
use Rattle.tx_prim.specs.Operands.{every, integer_in, amount_in, truth_in, tuple_in, part}
use Rattle.tx_prim.specs.Arithmetic.{compared, sameness}
use Rattle.tx_prim.specs.Table.{failure, told, tuple_node, joined_texts, merged, text_part, tuple_part, tree_part, ranged}
use Rattle.tx_prim.specs.Table.{child_numbered, looked_up, label_told, primitive_value, on_all, calculated, connected}
use Rattle.tx_prim.specs.Table.{length_row, tuple_row, arity_row}
use Rattle.tx_prim.proofs.Plain.{error_label, tuple_label}
use Rattle.tx_view_form.proofs.Labelled.{IsLabelled}
use Rattle.tx_line_count.proofs.Trees.{AllLabelled, IfLabelled, forest_labelled, trees_labelled, get_labelled}
use Rattle.tx_line_count.proofs.Trees.{both_labelled, front_labelled, rest_labelled}

failed : (fault : ValueFault) (which : Prim) → IsLabelled (failure fault which)
failed fault which = (error_label, (tt, (tt, tt)))

told_labelled : (which : Prim) (a : Answer) → IsLabelled (told which a)
told_labelled which (Value a) = tt
told_labelled which (Truth b) = tt
told_labelled which (Failed fault) = failed fault which

tuple_labelled : (ts : List WideTree) → AllLabelled ts → IsLabelled (tuple_node ts)
tuple_labelled ts h = (tuple_label, forest_labelled ts h)

-- ---- lists of operands

abbrev IfAll : Option (List WideTree) → Type 0
IfAll None = Unit {0}
IfAll (Some ts) = AllLabelled ts

abbrev IfEach : Option (List (List WideTree)) → Type 0
IfEach None = Unit {0}
IfEach (Some tss) = AllByRecursion AllLabelled tss

children_in : (t : WideTree) → IsLabelled t → IfAll (tuple_in t)
children_in (leaf words) h = tt
children_in (node label ts) h = by (bytes_eq label (codes "tuple"))
  where
    by : (b : Bool) → IfAll (cond b (Some (trees ts)) None)
    by true = trees_labelled ts h.1
    by false = tt

each_tuple : (ts : List WideTree) → AllLabelled ts → IfEach (every tuple_in ts)
each_tuple [] h = tt
each_tuple (t ∷ ts) h = by (tuple_in t) (every tuple_in ts) (children_in t h.0) (each_tuple ts h.1)
  where
    by : (o : Option (List WideTree)) (others : Option (List (List WideTree))) → IfAll o → IfEach others
        → IfEach (option_and_then (λ a. option_map (λ more. a ∷ more) others) o)
    by None others k l = tt
    by (Some a) None k l = tt
    by (Some a) (Some more) k l = (k, l)

joined_labelled : (tss : List (List WideTree)) → AllByRecursion AllLabelled tss → AllLabelled (joined_lists tss)
joined_labelled [] h = tt
joined_labelled (ts ∷ tss) h = both_labelled ts (joined_lists tss) h.0 (joined_labelled tss h.1)

-- ---- rows

merged_labelled : (ts : List WideTree) → AllLabelled ts → IsLabelled (merged ts)
merged_labelled ts h = by (every text_of ts) (every tuple_in ts) (each_tuple ts h)
  where
    few : (tss : List (List WideTree)) (b : Bool) → AllByRecursion AllLabelled tss
        → IsLabelled (cond b (tuple_node (joined_lists tss)) (failure Limit Merge))
    few tss true k = tuple_labelled (joined_lists tss) (joined_labelled tss k)
    few tss false k = failed Limit Merge

    by : (texts : Option (List (List ℕ))) (tuples : Option (List (List WideTree))) → IfEach tuples
        → IsLabelled (joined_texts texts tuples)
    by (Some texts) tuples k = tt
    by None (Some tuples) k = few tuples (nat_le (length (joined_lists tuples)) MOST_ARITY) k
    by None None k = failed Bad Merge

part_labelled : (i j : ℤ) (ts : List WideTree) → AllLabelled ts → IfAll (part i j ts)
part_labelled (pos i) (pos j) ts h = by (nat_le i j && nat_le j (length ts))
  where
    by : (b : Bool) → IfAll (cond b (Some (take (j - i) (drop i ts))) None)
    by true = front_labelled (j - i) (drop i ts) (rest_labelled i ts h)
    by false = tt
part_labelled (pos i) (negsuc j) ts h = tt
part_labelled (negsuc i) j ts h = tt

tree_part_labelled : (t : WideTree) (i j : ℤ) → IsLabelled t → IsLabelled (tree_part t i j)
tree_part_labelled (leaf words) i j h = by (part i j (text_items words))
  where
    by : (o : Option (List (List ℕ))) → IsLabelled (text_part o)
    by None = failed NoPart Range
    by (Some items) = tt
tree_part_labelled (node label ts) i j h = by (tuple_in (node label ts)) (children_in (node label ts) h)
  where
    cut : (o : Option (List WideTree)) → IfAll o → IsLabelled (tuple_part o)
    cut None k = failed NoPart Range
    cut (Some us) k = tuple_labelled us k

    by : (o : Option (List WideTree)) → IfAll o
        → IsLabelled (option_map_or (λ us. tuple_part (part i j us)) o (failure Bad Range))
    by None k = failed Bad Range
    by (Some us) k = cut (part i j us) (part_labelled i j us k)

ranged_labelled : (ts : List WideTree) → AllLabelled ts → IsLabelled (ranged ts)
ranged_labelled [] h = failed Bad Range
ranged_labelled (t ∷ []) h = failed Bad Range
ranged_labelled (t ∷ i ∷ []) h = failed Bad Range
ranged_labelled (t ∷ i ∷ j ∷ []) h = by (integer_in i) (integer_in j)
  where
    by : (m n : Option ℤ)
        → IsLabelled (option_map_or (λ x. option_map_or (λ y. tree_part t x y) n (failure Bad Range)) m
        (failure Bad Range))
    by None n = failed Bad Range
    by (Some x) None = failed Bad Range
    by (Some x) (Some y) = tree_part_labelled t x y h.0
ranged_labelled (t ∷ i ∷ j ∷ u ∷ ts) h = failed Bad Range

looked_labelled : (ts : List WideTree) → AllLabelled ts → IsLabelled (looked_up ts)
looked_labelled [] h = failed Bad LookUp
looked_labelled (leaf words ∷ ts) h = failed Bad LookUp
looked_labelled (node label us ∷ []) h = failed Bad LookUp
looked_labelled (node label us ∷ i ∷ []) h = by (integer_in i)
  where
    numbered : (z : ℤ) → IfLabelled (child_numbered (trees us) z)
    numbered (pos n) = get_labelled (trees us) n (trees_labelled us h.0.1)
    numbered (negsuc n) = tt

    taken : (o : Option WideTree) → IfLabelled o
        → IsLabelled (option_map_or (λ t. t) o (failure NoPart LookUp))
    taken None k = failed NoPart LookUp
    taken (Some t) k = k

    by : (m : Option ℤ)
        → IsLabelled (option_map_or (λ n. option_map_or (λ t. t) (child_numbered (trees us) n) (failure NoPart LookUp))
        m (failure Bad LookUp))
    by None = failed Bad LookUp
    by (Some z) = taken (child_numbered (trees us) z) (numbered z)
looked_labelled (node label us ∷ i ∷ u ∷ ts) h = failed Bad LookUp

label_labelled : (ts : List WideTree) → IsLabelled (label_told ts)
label_labelled [] = failed Bad GetLabel
label_labelled (leaf words ∷ ts) = failed Bad GetLabel
label_labelled (node label us ∷ []) = tt
label_labelled (node label us ∷ t ∷ ts) = failed Bad GetLabel

pub primitive_labelled : (which : Prim) (ts : List WideTree) → AllLabelled ts → IsLabelled (primitive_value which ts)
primitive_labelled Plus ts h = told_labelled Plus (on_all (calculated Sum) (every amount_in ts))
primitive_labelled Minus ts h = told_labelled Minus (on_all (calculated Difference) (every amount_in ts))
primitive_labelled Times ts h = told_labelled Times (on_all (calculated Product) (every amount_in ts))
primitive_labelled Div ts h = told_labelled Div (on_all (calculated Quotient) (every amount_in ts))
primitive_labelled Mod ts h = told_labelled Mod (on_all (calculated Remainder) (every amount_in ts))
primitive_labelled Equal ts h = told_labelled Equal (sameness true ts)
primitive_labelled Unequal ts h = told_labelled Unequal (sameness false ts)
primitive_labelled Less ts h = told_labelled Less (compared Before ts)
primitive_labelled LessEq ts h = told_labelled LessEq (compared NotBehind ts)
primitive_labelled Greater ts h = told_labelled Greater (compared Behind ts)
primitive_labelled GreaterEq ts h = told_labelled GreaterEq (compared NotBefore ts)
primitive_labelled And ts h = told_labelled And (on_all (connected AllTrue) (every truth_in ts))
primitive_labelled Or ts h = told_labelled Or (on_all (connected SomeTrue) (every truth_in ts))
primitive_labelled Xor ts h = told_labelled Xor (on_all (connected OneTrue) (every truth_in ts))
primitive_labelled Not ts h = told_labelled Not (on_all (connected NoneTrue) (every truth_in ts))
primitive_labelled Merge ts h = merged_labelled ts h
primitive_labelled Length ts h = told_labelled Length (length_row ts)
primitive_labelled Range ts h = ranged_labelled ts h
primitive_labelled IsTuple ts h = told_labelled IsTuple (tuple_row ts)
primitive_labelled LookUp ts h = looked_labelled ts h
primitive_labelled GetLabel ts h = label_labelled ts
primitive_labelled GetArity ts h = told_labelled GetArity (arity_row ts)
