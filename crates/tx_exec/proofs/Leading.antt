-- Numbers, and the parts to which they lead.
use Rattle.std.proofs.Common.{◌≡◌, ℕ, zero, suc, ◌+◌, ◌-◌, ◌<◌, ◌≤◌, List, [], ◌∷◌, ◌++◌, length, take, drop, get_or}
use Rattle.std.proofs.Common.{drop-cons, append_assoc, refl, sym, ap, subst, ◌∙◌, add-one, arith}
use Rattle.std.proofs.lemmas.Int.{ints}
use Rattle.std.specs.Prelude.{ℤ, pos, negsuc, ◌<ℤ◌, Option, Some, None, option_and_then, slice_get}
use Rattle.std.specs.Option.{option_map}
use Rattle.std.proofs.lemmas.Grind.{common_steps}
use Rattle.tx_origin.specs.Values.{WideValue}
use Rattle.tx_origin.specs.TaggedTrees.{TaggedTree, kids_of}
use Rattle.tx_exec_form.specs.Numbers.{value_number, integers_of, kid_at, part_of}
use Rattle.tx_exec.proofs.Kids.{few_kids}

pub item_drop : (vs : List WideValue) (i : ℕ) (v : WideValue) → i < length vs → v ≡ get_or vs i v
    → drop i vs ≡ v ∷ drop (i + 1) vs
item_drop vs i v lt is = rw add-one (drop-cons vs i v lt ∙ ap (λ w. w ∷ drop (suc i) vs) (sym is))

behind : (ns : List ℤ) (n : ℤ) (o : Option (List ℤ))
    → option_map (λ ms. ns ++ ms) (option_map (λ ms. n ∷ ms) o) ≡ option_map (λ ms. (ns ++ n ∷ []) ++ ms) o
behind ns n None = refl
behind ns n (Some ms) = ap Some (sym (append_assoc ns (n ∷ []) ms))

-- what the numbers so far and the values left are together
pub numbers_next : (vs : List WideValue) (i : ℕ) (v : WideValue) (n : ℤ) (ns ms : List ℤ) (r : Option (List ℤ))
    → i < length vs → v ≡ get_or vs i v → value_number v ≡ Some n → ms ≡ ns ++ n ∷ []
    → option_map (λ xs. ns ++ xs) (integers_of (drop i vs)) ≡ r
    → option_map (λ xs. ms ++ xs) (integers_of (drop (i + 1) vs)) ≡ r
numbers_next vs i v n ns ms r lt is h e run =
    ap (λ xs. option_map (λ ys. xs ++ ys) (integers_of (drop (i + 1) vs))) e
    ∙ sym (behind ns n (integers_of (drop (i + 1) vs)))
    ∙ ap (λ o. option_map (λ xs. ns ++ xs)
    (option_and_then (λ m. option_map (λ xs. m ∷ xs) (integers_of (drop (i + 1) vs))) o)) (sym h)
    ∙ ap (λ us. option_map (λ xs. ns ++ xs) (integers_of us)) (sym (item_drop vs i v lt is)) ∙ run

pub numbers_none : (vs : List WideValue) (i : ℕ) (v : WideValue) (ns : List ℤ) (r : Option (List ℤ)) → i < length vs
    → v ≡ get_or vs i v → value_number v ≡ None
    → option_map (λ xs. ns ++ xs) (integers_of (drop i vs)) ≡ r → None ≡ r
numbers_none vs i v ns r lt is h run =
    ap (λ o. option_map (λ xs. ns ++ xs)
    (option_and_then (λ m. option_map (λ xs. m ∷ xs) (integers_of (drop (i + 1) vs))) o)) (sym h)
    ∙ ap (λ us. option_map (λ xs. ns ++ xs) (integers_of us)) (sym (item_drop vs i v lt is)) ∙ run

no_more : (ns : List ℤ) → ns ++ [] ≡ ns
no_more [] = refl
no_more (n ∷ ns) = ap (λ ms. n ∷ ms) (no_more ns)

pub numbers_end : (vs : List WideValue) (i : ℕ) (ns : List ℤ) (r : Option (List ℤ)) → length vs ≤ i
    → option_map (λ xs. ns ++ xs) (integers_of (drop i vs)) ≡ r → Some ns ≡ r
numbers_end vs i ns r le run =
    let end : drop i vs ≡ [] = grind (arith, common_steps, le) in
    ap Some (sym (no_more ns)) ∙ ap (λ us. option_map (λ xs. ns ++ xs) (integers_of us)) (sym end) ∙ run

no_front : (o : Option (List ℤ)) → option_map (λ xs. xs) o ≡ o
no_front None = refl
no_front (Some xs) = refl

pub numbers_start : (vs : List WideValue) → option_map (λ xs. [] ++ xs) (integers_of (drop 0 vs)) ≡ integers_of vs
numbers_start vs = no_front (integers_of vs)

pub ruleset number_rules = (numbers_start, numbers_none, numbers_end)

-- ---- parts

pub past : {A : Type 0} (xs : List A) (i : ℕ) → length xs ≤ i → slice_get xs i ≡ None
past [] i le = refl
past (x ∷ xs) zero le = absurd (omega (arith, le))
past (x ∷ xs) (suc i) le = past xs i (omega (arith, le))

pub kid_pos : (t : TaggedTree) (z : ℤ) (n : ℕ) → z ≡ pos n → kid_at t z ≡ slice_get (kids_of t) n
kid_pos t z n h = ap (kid_at t) h

kid_neg_of : (t : TaggedTree) (z : ℤ) → z <ℤ pos 0 → kid_at t z ≡ None
kid_neg_of t (pos i) h = absurd (omega (arith, ints, h))
kid_neg_of t (negsuc i) h = refl

pub kid_neg : (t : TaggedTree) (z : ℤ) → z <ℤ pos 0 → kid_at t z ≡ None
kid_neg t z h = kid_neg_of t z h

pub kid_far : (t : TaggedTree) (z : ℤ) → pos 4294967295 <ℤ z → length (kids_of t) ≤ 65535 → kid_at t z ≡ None
kid_far t (pos i) h few = past (kids_of t) i (omega (arith, ints, h, few))
kid_far t (negsuc i) h few = refl

pub ruleset kid_rules = (kid_pos, kid_neg, kid_far, few_kids, common_steps)

pub part_here : (t : TaggedTree) (ns : List ℤ) → ns ≡ [] → part_of t ns ≡ Some t
part_here t ns h = ap (part_of t) h

pub part_none : (t : TaggedTree) (ns ms : List ℤ) (n : ℤ) → ns ≡ n ∷ ms → kid_at t n ≡ None → part_of t ns ≡ None
part_none t ns ms n h g = ap (part_of t) h ∙ ap (option_and_then (λ u. part_of u ms)) g

pub part_some : (t u : TaggedTree) (ns ms : List ℤ) (n : ℤ) → ns ≡ n ∷ ms → kid_at t n ≡ Some u
    → part_of t ns ≡ part_of u ms
part_some t u ns ms n h g = ap (part_of t) h ∙ ap (option_and_then (λ w. part_of w ms)) g

pub ruleset part_rules = (part_here, part_none, part_some)
