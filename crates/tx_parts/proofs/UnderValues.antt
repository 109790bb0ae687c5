-- Trees, values and frames whose origins are under a path.
use Rattle.std.proofs.Common.{◌≡◌, ℕ, zero, suc, ◌+◌, List, [], ◌∷◌, ◌++◌, map, length, refl, ap, sym, ◌∙◌}
use Rattle.std.proofs.lemmas.List.{append_assoc}
use Rattle.std.specs.Prelude.{Bool, true, false, Option, Some, None, ℤ, pos, negsuc, slice_get, option_and_then}
use Rattle.std.specs.Prelude.{if◌then◌else◌}
use Rattle.std.specs.Option.{option_map}
use Rattle.std.specs.Str.{bytes_eq}
use Rattle.tx_tree.specs.WideTree.{WideTree, Forest, leaf, node, nil, cons}
use Rattle.tx_env.specs.Pairs.{Name}
use Rattle.tx_origin.specs.Values.{WideValue, text, made, also, value_text, plain}
use Rattle.tx_origin.specs.Values.{child_at, whole, wholes}
use Rattle.tx_origin.specs.TaggedTrees.{TaggedTree, kids_from, kids_at, kids_of}
use Rattle.tx_prim.specs.Numbers.{integer_of}
use Rattle.tx_prim.specs.Operands.{truth_of}
use Rattle.tx_exec_form.specs.Frames.{Frame, top, call, call_all, caller_of, Found, Unbound, Missing, Here, All}
use Rattle.tx_exec_form.specs.Frames.{argument, argument_in, first_argument, others_of}
use Rattle.tx_exec_form.specs.Numbers.{value_number, integers_of, tree_at, kid_at, part_of, part_among}
use Rattle.tx_exec_form.specs.Rows.{value_truth, is_odd}
use Rattle.tx_origin.specs.Under.{origin_under, tree_under, value_under, values_under}
use Rattle.tx_parts.specs.InFrames.{frame_under}
use Rattle.tx_origin.proofs.Under.{plain_under}

abbrev pub found_under : List ℕ → Found → Found
found_under base Unbound = Unbound
found_under base Missing = Missing
found_under base (Here t) = Here (tree_under base t)
found_under base (All ts) = All (map (tree_under base) ts)

module _ (base : List ℕ) where
  pub text_under : (v : WideValue) → value_text (value_under base v) ≡ value_text v
  text_under (text words at) = refl
  text_under (made label parts at) = refl

  pub more_under : (vs : List WideValue) (v : WideValue) →
      map (value_under base) (vs ++ v ∷ []) ≡ map (value_under base) vs ++ value_under base v ∷ []
  more_under [] v = refl
  more_under (u ∷ us) v = ap (λ ws. value_under base u ∷ ws) (more_under us v)

  pub two_under : (vs : List WideValue) (u v : WideValue) → map (value_under base) (vs ++ u ∷ v ∷ []) ≡
      map (value_under base) vs ++ value_under base u ∷ value_under base v ∷ []
  two_under [] u v = refl
  two_under (w ∷ ws) u v = ap (λ us. value_under base w ∷ us) (two_under ws u v)

  pub plain_all : (vs : List WideValue) → map plain (map (value_under base) vs) ≡ map plain vs
  plain_all [] = refl
  plain_all (v ∷ vs) =
      ap (λ t. t ∷ map plain (map (value_under base) vs)) (plain_under base v) ∙ ap (λ ts. plain v ∷ ts) (plain_all vs)

  pub child_under : (at : Option (List ℕ)) (i : ℕ) →
      child_at (origin_under base at) i ≡ origin_under base (child_at at i)
  child_under None i = refl
  child_under (Some p) i = ap Some (append_assoc base p (i ∷ []))

  mutual
    pub whole_under : (at : Option (List ℕ)) (t : WideTree) →
        value_under base (whole at t) ≡ whole (origin_under base at) t
    whole_under at (leaf words) = refl
    whole_under at (node label ts) = ap (λ vs. made label vs (origin_under base at)) (wholes_under at 0 ts)

    pub wholes_under : (at : Option (List ℕ)) (i : ℕ) (ts : Forest) →
        values_under base (wholes at i ts) ≡ wholes (origin_under base at) i ts
    wholes_under at i nil = refl
    wholes_under at i (cons t ts) =
        ap (λ v. also v (values_under base (wholes at (i + 1) ts)))
        (whole_under (child_at at i) t ∙ ap (λ a. whole a t) (sym (child_under at i)))
        ∙ ap (also (whole (child_at (origin_under base at) i) t)) (wholes_under at (i + 1) ts)

  pub kids_under : (at : Option (List ℕ)) (i : ℕ) (ts : Forest) →
      kids_from (origin_under base at) i ts ≡ map (tree_under base) (kids_from at i ts)
  kids_under at i nil = refl
  kids_under at i (cons t ts) =
      ap (λ a. record { tree = t; at = a } ∷ kids_from (origin_under base at) (i + 1) ts) (child_under at i)
      ∙ ap (λ us. record { tree = t; at = origin_under base (child_at at i) } ∷ us) (kids_under at (i + 1) ts)

  kids_at_under : (at : Option (List ℕ)) (t : WideTree) →
      kids_at (origin_under base at) t ≡ map (tree_under base) (kids_at at t)
  kids_at_under at (leaf words) = refl
  kids_at_under at (node label ts) = kids_under at 0 ts

  pub kids_of_under : (t : TaggedTree) → kids_of (tree_under base t) ≡ map (tree_under base) (kids_of t)
  kids_of_under t = kids_at_under t.at t.tree

  pub count_under : (ts : List TaggedTree) → length (map (tree_under base) ts) ≡ length ts
  count_under [] = refl
  count_under (t ∷ ts) = ap suc (count_under ts)

  pub odd_under : (ts : List TaggedTree) → is_odd (map (tree_under base) ts) ≡ is_odd ts
  odd_under [] = refl
  odd_under (t ∷ []) = refl
  odd_under (t ∷ u ∷ ts) = odd_under ts

  pub wholes_of_under : (ts : List TaggedTree) →
      map (value_under base) (map (λ t. whole t.at t.tree) ts) ≡ map (λ t. whole t.at t.tree) (map (tree_under base) ts)
  wholes_of_under [] = refl
  wholes_of_under (t ∷ ts) =
      ap (λ v. v ∷ map (value_under base) (map (λ t. whole t.at t.tree) ts)) (whole_under t.at t.tree)
      ∙ ap (λ vs. whole (origin_under base t.at) t.tree ∷ vs) (wholes_of_under ts)

  pub number_under : (v : WideValue) → value_number (value_under base v) ≡ value_number v
  number_under v = ap (option_and_then integer_of) (text_under v)

  pub numbers_under : (vs : List WideValue) → integers_of (map (value_under base) vs) ≡ integers_of vs
  numbers_under [] = refl
  numbers_under (v ∷ vs) =
      ap (λ o. option_and_then (λ n. option_map (λ ns. n ∷ ns) (integers_of (map (value_under base) vs))) o)
      (number_under v) ∙ ap (λ os. option_and_then (λ n. option_map (λ ns. n ∷ ns) os) (value_number v))
      (numbers_under vs)

  pub truth_under : (v : WideValue) → value_truth (value_under base v) ≡ value_truth v
  truth_under v = ap (option_and_then truth_of) (text_under v)

  got : (ts : List TaggedTree) (i : ℕ) →
      slice_get (map (tree_under base) ts) i ≡ option_map (tree_under base) (slice_get ts i)
  got [] i = refl
  got (t ∷ ts) zero = refl
  got (t ∷ ts) (suc i) = got ts i

  at_under : (ts : List TaggedTree) (n : ℤ) →
      tree_at (map (tree_under base) ts) n ≡ option_map (tree_under base) (tree_at ts n)
  at_under ts (pos i) = got ts i
  at_under ts (negsuc i) = refl

  kid_under : (t : TaggedTree) (n : ℤ) → kid_at (tree_under base t) n ≡ option_map (tree_under base) (kid_at t n)
  kid_under t n = ap (λ us. tree_at us n) (kids_of_under t) ∙ at_under (kids_of t) n

  onward : (ns : List ℤ) → ((t : TaggedTree) →
      part_of (tree_under base t) ns ≡ option_map (tree_under base) (part_of t ns)) → (o : Option TaggedTree) →
      option_and_then (λ u. part_of u ns) (option_map (tree_under base) o) ≡
      option_map (tree_under base) (option_and_then (λ u. part_of u ns) o)
  onward ns h None = refl
  onward ns h (Some t) = h t

  pub part_under : (ns : List ℤ) (t : TaggedTree) →
      part_of (tree_under base t) ns ≡ option_map (tree_under base) (part_of t ns)
  part_under [] t = refl
  part_under (n ∷ ns) t =
      ap (λ o. option_and_then (λ u. part_of u ns) o) (kid_under t n) ∙ onward ns (part_under ns) (kid_at t n)

  pub among_under : (ts : List TaggedTree) (n : ℤ) (ns : List ℤ) →
      part_among (map (tree_under base) ts) n ns ≡ option_map (tree_under base) (part_among ts n ns)
  among_under ts n ns =
      ap (λ o. option_and_then (λ u. part_of u ns) o) (at_under ts n) ∙ onward ns (part_under ns) (tree_at ts n)

  first_under : (ts : List TaggedTree)
      → first_argument (map (tree_under base) ts) ≡ found_under base (first_argument ts)
  first_under [] = refl
  first_under (t ∷ ts) = refl

  others_under : (ts : List TaggedTree) → others_of (map (tree_under base) ts) ≡ map (tree_under base) (others_of ts)
  others_under [] = refl
  others_under (t ∷ ts) = refl

  by_test : (b : Bool) (f g f' g' : Found) → f' ≡ found_under base f → g' ≡ found_under base g →
      (if b then f' else g') ≡ found_under base (if b then f else g)
  by_test true f g f' g' h k = h
  by_test false f g f' g' h k = k

  argument_under : (x : Name) (ps : List Name) (ts : List TaggedTree) →
      argument x ps (map (tree_under base) ts) ≡ found_under base (argument x ps ts)
  argument_under x [] ts = refl
  argument_under x (p ∷ ps) ts =
      by_test (bytes_eq p x) (first_argument ts) (argument x ps (others_of ts))
      (first_argument (map (tree_under base) ts))
      (argument x ps (others_of (map (tree_under base) ts))) (first_under ts)
      (ap (argument x ps) (others_under ts) ∙ argument_under x ps (others_of ts))

  pub found_in : (x : Name) (f : Frame) → argument_in x (frame_under base f) ≡ found_under base (argument_in x f)
  found_in x top = refl
  found_in x (call ps ts caller) = argument_under x ps ts
  found_in x (call_all p ts caller) = by_test (bytes_eq p x) (All ts) Unbound _ _ refl refl

  pub caller_under : (f : Frame) → caller_of (frame_under base f) ≡ frame_under base (caller_of f)
  caller_under top = refl
  caller_under (call ps ts caller) = refl
  caller_under (call_all p ts caller) = refl
