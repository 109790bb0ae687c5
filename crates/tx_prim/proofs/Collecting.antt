-- What operands are read as, one after the other.
use Rattle.std.proofs.Common.{◌≡◌, ℕ, ◌+◌, ◌<◌, ◌≤◌, List, [], ◌∷◌, ◌++◌, length, drop, get_or, Option, Some, None}
use Rattle.std.proofs.Common.{refl, sym, ap, ◌∙◌, append_assoc}
use Rattle.std.specs.Prelude.{option_and_then}
use Rattle.std.specs.Option.{option_map}
use Rattle.std.proofs.lemmas.List.{append-nil, at_drop_more, at_drop_all}
use Rattle.std.proofs.lemmas.List.Concat.{flat_map-append}
use Rattle.tx_tree.specs.WideTree.{WideTree}
use Rattle.tx_prim.specs.Operands.{every}
use Rattle.tx_prim.specs.Items.{joined_lists}

module _ {A : Type 0} where
  -- what is read so far and what is left to read are all
  abbrev pub Collects : (WideTree → Option A) → List WideTree → List A → List WideTree → Type 0
  Collects f whole so_far rest = every f whole ≡ option_map (λ r. so_far ++ r) (every f rest)

  fuse : (so_far : List A) (a : A) (o : Option (List A))
      → option_map (λ r. so_far ++ r) (option_map (λ r. a ∷ r) o) ≡ option_map (λ r. (so_far ++ a ∷ []) ++ r) o
  fuse so_far a None = refl
  fuse so_far a (Some r) = ap Some (sym (append_assoc so_far (a ∷ []) r))

  pub collects_more : (f : WideTree → Option A) (whole : List WideTree) (so_far : List A) (i : ℕ) (x : WideTree) (a : A)
      → i < length whole → x ≡ get_or whole i x → f x ≡ Some a
      → Collects f whole so_far (drop i whole) → Collects f whole (so_far ++ a ∷ []) (drop (i + 1) whole)
  collects_more f whole so_far i x a lt is e h =
      let rest = every f (drop (i + 1) whole) in
      h
      ∙ ap (option_map (λ r. so_far ++ r)) (at_drop_more (every f) whole i x lt
      ∙ ap (λ y. option_and_then (λ v. option_map (λ r. v ∷ r) rest) (f y)) (sym is)
      ∙ ap (option_and_then (λ v. option_map (λ r. v ∷ r) rest)) e)
      ∙ fuse so_far a rest

  pub collects_none : (f : WideTree → Option A) (whole : List WideTree) (so_far : List A) (i : ℕ) (x : WideTree)
      → i < length whole → x ≡ get_or whole i x → f x ≡ None
      → Collects f whole so_far (drop i whole) → every f whole ≡ None
  collects_none f whole so_far i x lt is e h =
      let rest = every f (drop (i + 1) whole) in
      h
      ∙ ap (option_map (λ r. so_far ++ r)) (at_drop_more (every f) whole i x lt
      ∙ ap (λ y. option_and_then (λ v. option_map (λ r. v ∷ r) rest) (f y)) (sym is)
      ∙ ap (option_and_then (λ v. option_map (λ r. v ∷ r) rest)) e)

  none_yet : (o : Option (List A)) → o ≡ option_map (λ r. [] ++ r) o
  none_yet None = refl
  none_yet (Some r) = refl

  pub collects_start : (f : WideTree → Option A) (whole : List WideTree) → Collects f whole [] (drop 0 whole)
  collects_start f whole = none_yet (every f whole)

  pub collects_all : (f : WideTree → Option A) (whole : List WideTree) (so_far : List A) (i : ℕ) → length whole ≤ i
      → Collects f whole so_far (drop i whole) → every f whole ≡ Some so_far
  collects_all f whole so_far i le h = h ∙ ap (option_map (λ r. so_far ++ r)) (at_drop_all (every f) whole i le)
      ∙ ap Some (append-nil so_far)

  -- the lists that are read so far and those left to read, each joined, are all
  abbrev pub Joins : (WideTree → Option (List A)) → List WideTree → List A → List WideTree → Type 0
  Joins f whole so_far rest =
      option_map joined_lists (every f whole) ≡ option_map (λ r. so_far ++ joined_lists r) (every f rest)

  fuse_joined : (so_far a : List A) (o : Option (List (List A)))
      → option_map (λ r. so_far ++ joined_lists r) (option_map (λ r. a ∷ r) o) ≡ option_map
      (λ r. (so_far ++ a) ++ joined_lists r) o
  fuse_joined so_far a None = refl
  fuse_joined so_far a (Some r) = ap Some (sym (append_assoc so_far a (joined_lists r)))

  pub joins_more : (f : WideTree → Option (List A)) (whole : List WideTree) (so_far : List A) (i : ℕ) (x : WideTree)
      (a : List A) → i < length whole → x ≡ get_or whole i x → f x ≡ Some a
      → Joins f whole so_far (drop i whole) → Joins f whole (so_far ++ a) (drop (i + 1) whole)
  joins_more f whole so_far i x a lt is e h =
      let rest = every f (drop (i + 1) whole) in
      h
      ∙ ap (option_map (λ r. so_far ++ joined_lists r)) (at_drop_more (every f) whole i x lt
      ∙ ap (λ y. option_and_then (λ v. option_map (λ r. v ∷ r) rest) (f y)) (sym is)
      ∙ ap (option_and_then (λ v. option_map (λ r. v ∷ r) rest)) e)
      ∙ fuse_joined so_far a rest

  none_of : (g : List (List A) → List A) (o : Option (List (List A))) → option_map g o ≡ None → o ≡ None
  none_of g None e = refl
  none_of g (Some r) e = cc

  pub joins_none : (f : WideTree → Option (List A)) (whole : List WideTree) (so_far : List A) (i : ℕ) (x : WideTree)
      → i < length whole → x ≡ get_or whole i x → f x ≡ None
      → Joins f whole so_far (drop i whole) → every f whole ≡ None
  joins_none f whole so_far i x lt is e h =
      let rest = every f (drop (i + 1) whole) in
      none_of joined_lists (every f whole)
      (h
      ∙ ap (option_map (λ r. so_far ++ joined_lists r)) (at_drop_more (every f) whole i x lt
      ∙ ap (λ y. option_and_then (λ v. option_map (λ r. v ∷ r) rest) (f y)) (sym is)
      ∙ ap (option_and_then (λ v. option_map (λ r. v ∷ r) rest)) e))

  pub joins_all : (f : WideTree → Option (List A)) (whole : List WideTree) (so_far : List A) (i : ℕ) → length whole ≤ i
      → Joins f whole so_far (drop i whole) → option_map joined_lists (every f whole) ≡ Some so_far
  joins_all f whole so_far i le h =
      h ∙ ap (option_map (λ r. so_far ++ joined_lists r)) (at_drop_all (every f) whole i le)
      ∙ ap Some (append-nil so_far)

pub ruleset collecting = (collects_more, collects_none, collects_start, collects_all, joins_more, joins_none, joins_all)
