-- Nodes that primitives make are within the limits.
use Rattle.std.proofs.Common.{◌≡◌, ℕ, zero, suc, ◌+◌, ◌≤◌, max, List, [], ◌∷◌, ◌++◌, length, take, drop, Option, Some}
use Rattle.std.proofs.Common.{None, refl, sym, ap, subst, ◌∙◌, codes, arith}
use Rattle.std.proofs.lemmas.List.{take-append-drop, length-append}
use Rattle.tx_tree.specs.Limits.{IsWithinLimits}
use Rattle.tx_tree.specs.WideTree.{WideTree, leaf, node, nil, cons, forest, trees, total_size, deepest, widest}
use Rattle.tx_tree.specs.WideTree.{longest_text}
use Rattle.tx_tree.proofs.Children.{count-forest, total_size-append, deepest-append, widest-append, longest_text-append}
use Rattle.tx_tree.proofs.Children.{forest_trees, trees_forest}
use Rattle.tx_prim.specs.declared.names.Prim.{Prim}
use Rattle.tx_prim.specs.declared.amounts.ValueFault.{ValueFault}
use Rattle.tx_prim.specs.Names.{name_of, fault_text}
use Rattle.std.specs.Option.{option_map}
use Rattle.std.specs.Str.{bytes_eq}
use Rattle.std.specs.Prelude.{Bool, true, false, if◌then◌else◌, option_and_then}
use Rattle.tx_tree.specs.WideTree.{Forest, text_of, children_of}
use Rattle.tx_prim.specs.Items.{joined_lists}
use Rattle.tx_prim.specs.Operands.{every, tuple_in, AreShallow}
use Rattle.tx_prim.specs.Table.{failure, tuple_node}
use Rattle.tx_prim.proofs.Plain.{name_short, fault_short}

pub failure_within : (fault : ValueFault) (which : Prim) → IsWithinLimits (failure fault which)
failure_within fault which =
    record {
      text = omega (arith, name_short which, fault_short fault);
      arity = omega arith;
      depth = omega arith;
      size = omega (arith, name_short which, fault_short fault);
    }

front_within : (xs ys : List WideTree) → IsWithinLimits (tuple_node (xs ++ ys)) → IsWithinLimits (tuple_node xs)
front_within xs ys h =
    record {
      text = omega (arith, h.text, longest_text-append xs ys);
      arity = omega (
        arith,
        h.arity,
        widest-append xs ys,
        count-forest xs,
        count-forest (xs ++ ys),
        length-append xs ys,
      );
      depth = omega (arith, h.depth, deepest-append xs ys);
      size = omega (arith, h.size, total_size-append xs ys);
    }

back_within : (xs ys : List WideTree) → IsWithinLimits (tuple_node (xs ++ ys)) → IsWithinLimits (tuple_node ys)
back_within xs ys h =
    record {
      text = omega (arith, h.text, longest_text-append xs ys);
      arity = omega (
        arith,
        h.arity,
        widest-append xs ys,
        count-forest ys,
        count-forest (xs ++ ys),
        length-append xs ys,
      );
      depth = omega (arith, h.depth, deepest-append xs ys);
      size = omega (arith, h.size, total_size-append xs ys);
    }

pub part_within : (xs : List WideTree) (i n : ℕ) → IsWithinLimits (tuple_node xs)
    → IsWithinLimits (tuple_node (take n (drop i xs)))
part_within xs i n h =
    let back : IsWithinLimits (tuple_node (drop i xs)) =
    back_within (take i xs) (drop i xs)
    (subst (λ z. IsWithinLimits (tuple_node z)) (sym (take-append-drop i xs)) h) in
    front_within (take n (drop i xs)) (drop n (drop i xs))
    (subst (λ z. IsWithinLimits (tuple_node z)) (sym (take-append-drop n (drop i xs))) back)

-- ---- what is joined

abbrev or_nothing : {A : Type 0} → Option (List (List A)) → List A
or_nothing None = []
or_nothing (Some lists) = joined_lists lists

text_step : (a : List ℕ) (n : ℕ) (o : Option (List (List ℕ))) → length (or_nothing o) ≤ n
    → length (or_nothing (option_map (λ r. a ∷ r) o)) ≤ (1 + length a) + n
text_step a n None h = omega arith
text_step a n (Some r) h = omega (arith, length-append a (joined_lists r))

texts_size : (ts : List WideTree) → length (or_nothing (every text_of ts)) ≤ total_size (forest ts)
texts_size [] = omega arith
texts_size (leaf a ∷ ts) = text_step a (total_size (forest ts)) (every text_of ts) (texts_size ts)
texts_size (node l us ∷ ts) = omega arith

given : {A : Type 0} (o : Option (List (List A))) (x : List A) → option_map joined_lists o ≡ Some x → or_nothing o ≡ x
given None x e = cc
given (Some r) x e = some_same (joined_lists r) x e
  where
    some_same : {A : Type 0} (x y : List A) → Some x ≡ Some y → x ≡ y
    some_same x y e = cc

pub joined_short : (ts : List WideTree) (bytes : List ℕ) → option_map joined_lists (every text_of ts) ≡ Some bytes
    → length bytes ≤ total_size (forest ts)
joined_short ts bytes e =
    subst (λ z. length z ≤ total_size (forest ts)) (given (every text_of ts) bytes e) (texts_size ts)

tuple_step : (a : List WideTree) (n m : ℕ) (o : Option (List (List WideTree))) → total_size (forest a) ≤ m
    → total_size (forest (or_nothing o)) ≤ n
    → total_size (forest (or_nothing (option_map (λ r. a ∷ r) o))) ≤ (1 + m) + n
tuple_step a n m None k h = omega arith
tuple_step a n m (Some r) k h = omega (arith, total_size-append a (joined_lists r))

tuple_case : (b : Bool) (us : Forest) (n : ℕ) (o : Option (List (List WideTree)))
    → total_size (forest (or_nothing o)) ≤ n
    → total_size
    (forest (or_nothing (option_and_then (λ a. option_map (λ r. a ∷ r) o) (if b then Some (trees us) else None))))
    ≤ (1 + total_size us) + n
tuple_case false us n o h = omega arith
tuple_case true us n o h = tuple_step (trees us) n (total_size us) o (omega (arith, ap total_size (forest_trees us))) h

tuples_size : (ts : List WideTree) → total_size (forest (or_nothing (every tuple_in ts))) ≤ total_size (forest ts)
tuples_size [] = omega arith
tuples_size (leaf a ∷ ts) = omega arith
tuples_size (node l us ∷ ts) =
    tuple_case (bytes_eq l (codes "tuple")) us (total_size (forest ts)) (every tuple_in ts) (tuples_size ts)

pub joined_small : (ts us : List WideTree) → option_map joined_lists (every tuple_in ts) ≡ Some us
    → total_size (forest us) ≤ total_size (forest ts)
joined_small ts us e =
    subst (λ z. total_size (forest z) ≤ total_size (forest ts)) (given (every tuple_in ts) us e) (tuples_size ts)

pub joined_within : (ts us : List WideTree) → option_map joined_lists (every tuple_in ts) ≡ Some us → AreShallow us
    → total_size (forest ts) ≤ 1000000 → length us ≤ 65535 → IsWithinLimits (tuple_node us)
joined_within ts us e h small narrow =
    record {
      text = omega (arith, h.text);
      arity = omega (arith, h.arity, count-forest us);
      depth = omega (arith, h.depth);
      size = omega (arith, joined_small ts us e);
    }

pub children_within : (t : WideTree) (ts : List WideTree) → IsWithinLimits t → ts ≡ children_of t
    → IsWithinLimits (tuple_node ts)
children_within (leaf a) ts h e =
    subst (λ z. IsWithinLimits (tuple_node z)) (sym e)
    (record { text = omega arith; arity = omega arith; depth = omega arith; size = omega arith })
children_within (node l us) ts h e =
    let back : us ≡ forest ts = sym (forest_trees us) ∙ ap forest (sym e) in
    subst (λ z. IsWithinLimits (node (codes "tuple") z)) back
    (record { text = h.text; arity = h.arity; depth = h.depth; size = h.size })

pub shallow_more : (us ts : List WideTree) → AreShallow us → IsWithinLimits (tuple_node ts) → AreShallow (us ++ ts)
shallow_more us ts h w =
    record {
      depth = omega (arith, h.depth, w.depth, deepest-append us ts);
      text = omega (arith, h.text, w.text, longest_text-append us ts);
      arity = omega (arith, h.arity, w.arity, widest-append us ts);
    }

pub shallow_none : AreShallow []
shallow_none = record { depth = omega arith; text = omega arith; arity = omega arith }

pub ruleset within =
    (failure_within, part_within, joined_short, joined_within, children_within, shallow_more, shallow_none)
