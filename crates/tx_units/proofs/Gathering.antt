-- Units that are gathered, one part of a list after the other.
use Rattle.std.proofs.Common.{◌≡◌, ℕ, ◌+◌, ◌<◌, ◌≤◌, List, [], ◌∷◌, ◌++◌, length, take, drop, get_or, sym, ap, subst}
use Rattle.std.proofs.Common.{arith, ◌∙◌}
use Rattle.std.specs.List.{flat_map}
use Rattle.std.proofs.lemmas.List.{take_more, flat_map_more, take-append-drop}
use Rattle.std.proofs.lemmas.List.Sums.{sum_by-append}
use Rattle.std.proofs.lemmas.Grind.{flat_map-append}
use Rattle.tx_units.specs.declared.kinds.Unit.{Unit as DocUnit}
use Rattle.tx_units.specs.Units.{made_as, nodes_made}

pub nodes_made-append : (us vs : List DocUnit) → nodes_made (us ++ vs) ≡ nodes_made us + nodes_made vs
nodes_made-append us vs = sum_by-append (λ u. made_as u.kind u.tagged.tree) us vs

module _ {X : Type 0} (g : X → List DocUnit) where
  -- one part more
  next : (xs : List X) (i : ℕ) (x : X) → i < length xs → x ≡ get_or xs i x → take (i + 1) xs ≡ take i xs ++ x ∷ []
  next xs i x lt is = take_more xs i x lt ∙ ap (λ y. take i xs ++ y ∷ []) (sym is)

  pub units_next : (xs : List X) (i : ℕ) (x : X) (start us vs : List DocUnit) → i < length xs → x ≡ get_or xs i x
      → us ≡ start ++ flat_map g (take i xs) → vs ≡ us ++ g x → vs ≡ start ++ flat_map g (take (i + 1) xs)
  units_next xs i x start us vs lt is so more =
      more ∙ ap (λ ws. ws ++ g x) so ∙ flat_map_more g start (take i xs) x
      ∙ ap (λ ys. start ++ flat_map g ys) (sym (next xs i x lt is))

  nodes_sum : (xs : List X) (i : ℕ) (x : X) → i < length xs → x ≡ get_or xs i x
      → nodes_made (flat_map g (take (i + 1) xs)) ≡ nodes_made (flat_map g (take i xs)) + nodes_made (g x)
  nodes_sum xs i x lt is =
      ap (λ us. nodes_made us) (ap (flat_map g) (next xs i x lt is) ∙ sym (flat_map_more g [] (take i xs) x))
      ∙ nodes_made-append (flat_map g (take i xs)) (g x)

  pub nodes_next : (xs : List X) (i : ℕ) (x : X) (from s n : ℕ) → i < length xs → x ≡ get_or xs i x
      → s ≤ from + nodes_made (flat_map g (take i xs)) → n ≤ s + nodes_made (g x)
      → n ≤ from + nodes_made (flat_map g (take (i + 1) xs))
  nodes_next xs i x from s n lt is so more = omega (arith, so, more, nodes_sum xs i x lt is)

  -- the first parts make no more than all of them
  pub nodes_first : (xs : List X) (i : ℕ) (from n : ℕ) → n ≤ from + nodes_made (flat_map g (take i xs))
      → n ≤ from + nodes_made (flat_map g xs)
  nodes_first xs i from n so =
      let all : nodes_made (flat_map g xs) ≡ nodes_made (flat_map g (take i xs)) + nodes_made (flat_map g (drop i xs))
      = ap (λ ys. nodes_made (flat_map g ys)) (sym (take-append-drop i xs))
      ∙ ap nodes_made (flat_map-append g (take i xs) (drop i xs))
      ∙ nodes_made-append (flat_map g (take i xs)) (flat_map g (drop i xs)) in
      omega (arith, so, all)

  -- where it ends at a part
  pub nodes_stop : (xs ys : List X) (i : ℕ) (x : X) (from s n : ℕ) → xs ≡ ys → i < length xs → x ≡ get_or xs i x
      → s ≤ from + nodes_made (flat_map g (take i xs)) → n ≤ s + nodes_made (g x)
      → n ≤ from + nodes_made (flat_map g ys)
  nodes_stop xs ys i x from s n same lt is so more =
      subst (λ zs. n ≤ from + nodes_made (flat_map g zs)) same
      (nodes_first xs (i + 1) from n (nodes_next xs i x from s n lt is so more))
