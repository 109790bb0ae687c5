-- What is stored of a tree's parts is what its trace is put together from.
use Rattle.std.proofs.Common.{◌≡◌, ℕ, zero, suc, ◌+◌, ◌*◌, ◌-◌, List, [], ◌∷◌, ◌++◌, length, map, ap, refl, sym, ◌∙◌}
use Rattle.std.proofs.lemmas.List.{append_assoc, map-append}
use Rattle.std.specs.Prelude.{Bool, true, false, nat_le, if◌then◌else◌, Option, Some, None, option_and_then}
use Rattle.std.specs.Option.{option_map, option_map_or}
use Rattle.tx_tree.specs.WideTree.{WideTree}
use Rattle.tx_exec_form.specs.Runs.{Before}
use Rattle.tx_exec_form.specs.Evaluated.{WideTrace}
use Rattle.tx_parts.specs.Atop.{env_atop}
use Rattle.tx_parts.specs.Openness.{Openness, Document, With, Shut}
use Rattle.tx_parts.specs.Shells.{Layer}
use Rattle.tx_parts.specs.Opening.{Sheller, Opening, ByTree, ByShell, opening}
use Rattle.tx_parts.specs.Composed.{evaluates, SoFar, nothing_yet, with_child, children_from, document_trace, set_by}
use Rattle.tx_parts.specs.Composed.{settings_cost, with_trace, composed_as}
use Rattle.tx_parts.specs.Layered.{layer_values, layer_cost, inside_layer, layer_trace, child_trace, layer_composed}
use Rattle.tx_parts.specs.Layered.{composed_layers, evaluates_in, shell_trace, composed_opened}
use Rattle.tx_parts.specs.Shellers.{IsSheller}
use Rattle.tx_parts.specs.Parts.{Part, Stored, stored_part, Finder, parts_from, parts_as, LayerFinder, parts_layers}
use Rattle.tx_parts.specs.Parts.{parts_opened, parts_by, parts_in}
use Rattle.tx_parts.specs.Recomposed.{FromStored, Recomposer, in_whole, recomposed_from, recomposed_as}
use Rattle.tx_parts.specs.Recomposed.{LayerRecomposer, recomposed_layers, recomposed_opened, recomposed_by}
use Rattle.tx_parts.specs.Recomposed.{recomposed_in}
use Rattle.tx_parts.proofs.Opened.{none_inside, layers_are, opened_is}
use Rattle.tx_parts.proofs.Settings.{none_low}

-- with what is left of the list
abbrev leaving : {A : Type 0} → List Stored → Option A → FromStored A
leaving rest o = option_map (λ x. (x, rest)) o

-- what is stored of parts, and more
abbrev stored_before : List Part → List Stored → List Stored
stored_before ps rest = map stored_part ps ++ rest

stored_both : (ps qs : List Part) (rest : List Stored) →
    stored_before (ps ++ qs) rest ≡ stored_before ps (stored_before qs rest)
stored_both ps qs rest =
    ap (λ all. all ++ rest) (map-append stored_part ps qs) ∙ append_assoc (map stored_part ps) (map stored_part qs) rest

whole_leaves : {A : Type 0} → (n c : ℕ) (whole : A → WideTrace) (rest : List Stored) (o : Option A) →
    in_whole n c whole (leaving rest o) ≡ leaving rest (if nat_le n c then option_map whole o else None)
whole_leaves {A} n c whole rest o = by (nat_le n c) o
  where
    by : (b : Bool) (o : Option A) → (if b then option_map (λ r. (whole r.0, r.1)) (leaving rest o) else None) ≡
        leaving rest (if b then option_map whole o else None)
    by true None = refl
    by true (Some x) = refl
    by false o = refl

-- what finds the parts of a tree with k levels, and what puts its trace together from what is stored of them
abbrev pub RecomposesBelow : ℕ → Finder → Recomposer → Type 0
RecomposesBelow k finder recomposer = (c : ℕ) (path : List ℕ) (t : WideTree) (e : Before) (rest : List Stored) →
    recomposer c t e (stored_before (finder c path t e) rest) ≡ leaving rest (evaluates k c t e)

module _ (k : ℕ) (finder : Finder) (recomposer : Recomposer) (below : RecomposesBelow k finder recomposer) where
  children_recompose : (c : ℕ) (path : List ℕ) (i : ℕ) (a : SoFar) (ts : List WideTree) (e : Before)
      (rest : List Stored) →
      recomposed_from recomposer c i a ts e (stored_before (parts_from k finder c path i a ts e) rest) ≡
      leaving rest (children_from (evaluates k) c i a ts e)
  children_recompose c path i a [] e rest = refl
  children_recompose c path i a (t ∷ ts) e rest =
      let first : List Part = finder (c - a.cost) (path ++ i ∷ []) t (env_atop a.writes e) in
      let later : Option WideTrace → List Part = λ o.
      option_map_or (λ trace. parts_from k finder c path (i + 1) (with_child i a trace) ts e) o [] in
      let trace : Option WideTrace = evaluates k (c - a.cost) t (env_atop a.writes e) in
      ap (recomposed_from recomposer c i a (t ∷ ts) e) (stored_both first (later trace) rest)
      ∙ ap (option_and_then (λ r. recomposed_from recomposer c (i + 1) (with_child i a r.0) ts e r.1))
      (below (c - a.cost) (path ++ i ∷ []) t (env_atop a.writes e) (stored_before (later trace) rest))
      ∙ by trace (λ a'. children_recompose c path (i + 1) a' ts e rest)
    where
      by : (o : Option WideTrace) → ((a' : SoFar) → recomposed_from recomposer c (i + 1) a' ts e
          (stored_before (parts_from k finder c path (i + 1) a' ts e) rest) ≡
          leaving rest (children_from (evaluates k) c (i + 1) a' ts e)) →
          option_and_then (λ r. recomposed_from recomposer c (i + 1) (with_child i a r.0) ts e r.1)
          (leaving (stored_before
          (option_map_or (λ trace. parts_from k finder c path (i + 1) (with_child i a trace) ts e) o []) rest) o) ≡
          leaving rest (option_and_then (λ trace. children_from (evaluates k) c (i + 1) (with_child i a trace) ts e) o)
      by None go = refl
      by (Some trace) go = go (with_child i a trace)

  open_recomposes : (o : Openness) (c : ℕ) (path : List ℕ) (t : WideTree) (e : Before) (rest : List Stored) →
      recomposed_as o recomposer c t e (stored_before (parts_as o k finder c path t e) rest) ≡
      leaving rest (composed_as o k (evaluates k) c t e)
  open_recomposes (Document ts) c path t e rest =
      ap (in_whole 1 c document_trace) (children_recompose (c - 1) path 0 nothing_yet ts e rest)
      ∙ whole_leaves 1 c document_trace rest (children_from (evaluates k) (c - 1) 0 nothing_yet ts e)
  open_recomposes (With xs b) c path t e rest =
      ap (in_whole (1 + settings_cost xs) c (with_trace xs))
      (below (c - (1 + settings_cost xs)) (path ++ (2 * length xs) ∷ []) b (env_atop (set_by xs) e) rest)
      ∙ whole_leaves (1 + settings_cost xs) c (with_trace xs) rest
      (evaluates k (c - (1 + settings_cost xs)) b (env_atop (set_by xs) e))
  open_recomposes Shut c path t e rest = refl

-- ---- layers

abbrev pub RecomposesInside : ℕ → LayerFinder → LayerRecomposer → Type 0
RecomposesInside k finder recomposer = (ls : List Layer) (i c : ℕ) (path : List ℕ) (t : WideTree) (e : Before)
    (rest : List Stored) → recomposer ls i c t e (stored_before (finder ls i c path t e) rest) ≡
    leaving rest (evaluates_in k ls i c t e)

module _ (k : ℕ) (finder : Finder) (recomposer : Recomposer) (below : RecomposesBelow k finder recomposer)
    (inside : LayerFinder) (recomposer_in : LayerRecomposer)
    (within : RecomposesInside k inside recomposer_in) where
  layers_recompose : (ls : List Layer) (i c : ℕ) (path : List ℕ) (t : WideTree) (e : Before) (rest : List Stored) →
      recomposed_layers k recomposer recomposer_in ls i c t e
      (stored_before (parts_layers k finder inside ls i c path t e) rest) ≡
      leaving rest (composed_layers k (evaluates k) (evaluates_in k) ls i c t e)
  layers_recompose [] i c path t e rest =
      ap (in_whole 1 c (child_trace i)) (below (c - 1) (path ++ i ∷ []) t e rest)
      ∙ whole_leaves 1 c (child_trace i) rest (evaluates k (c - 1) t e)
  layers_recompose (l ∷ ls) i c path t e rest = by (layer_values k l c e)
    where
      by : (o : Option SoFar) → option_and_then (λ a. in_whole (layer_cost l.names a) c (layer_trace l.names a)
          (recomposer_in ls i (c - layer_cost l.names a) t (inside_layer l.names a e) (stored_before (option_map_or
          (λ a. inside ls i (c - layer_cost l.names a) path t (inside_layer l.names a e)) o []) rest))) o ≡
          leaving rest (option_and_then (λ a. layer_composed l.names a (evaluates_in k ls i) c t e) o)
      by None = refl
      by (Some a) =
          ap (in_whole (layer_cost l.names a) c (layer_trace l.names a))
          (within ls i (c - layer_cost l.names a) path t (inside_layer l.names a e) rest)
          ∙ whole_leaves (layer_cost l.names a) c (layer_trace l.names a) rest
          (evaluates_in k ls i (c - layer_cost l.names a) t (inside_layer l.names a e))

  opened_recomposes : (o : Opening) (c : ℕ) (path : List ℕ) (t : WideTree) (e : Before) (rest : List Stored) →
      recomposed_opened o recomposer recomposer_in c t e
      (stored_before (parts_opened o k finder inside c path t e) rest) ≡
      leaving rest (composed_opened o k (evaluates k) (evaluates_in k) c t e)
  opened_recomposes (ByTree o) c path t e rest = open_recomposes k finder recomposer below o c path t e rest
  opened_recomposes (ByShell shell u) c path t e rest =
      ap (in_whole 1 c (shell_trace t e)) (within shell.layers shell.inner (c - 1) path u e rest)
      ∙ whole_leaves 1 c (shell_trace t e) rest (evaluates_in k shell.layers shell.inner (c - 1) u e)

-- ---- any tree

module _ (sheller : Sheller) (sound : IsSheller sheller) where
  mutual
    unfolding parts_by parts_in recomposed_by recomposed_in

    pub recomposed_is : (k : ℕ) → RecomposesBelow k (parts_by sheller k) (recomposed_by sheller k)
    recomposed_is zero c path t e rest = ap (leaving rest) (sym (none_low c t e))
    recomposed_is (suc k) c path t e rest =
        opened_recomposes k (parts_by sheller k) (recomposed_by sheller k) (recomposed_is k) (parts_in sheller k)
        (recomposed_in sheller k) (recomposed_in_is k) (opening sheller t e) c path t e rest
        ∙ ap (leaving rest) (sym (opened_is sheller sound k c t e))

    pub recomposed_in_is : (k : ℕ) → RecomposesInside k (parts_in sheller k) (recomposed_in sheller k)
    recomposed_in_is zero ls i c path t e rest = ap (leaving rest) (sym (none_inside ls i c t e))
    recomposed_in_is (suc k) ls i c path t e rest =
        layers_recompose k (parts_by sheller k) (recomposed_by sheller k) (recomposed_is k) (parts_in sheller k)
        (recomposed_in sheller k) (recomposed_in_is k) ls i c path t e rest
        ∙ ap (leaving rest) (sym (layers_are k ls i c t e))

  pub whole_recomposed : (k c : ℕ) (path : List ℕ) (t : WideTree) (e : Before) (trace : WideTrace)
      (rest : List Stored) → evaluates k c t e ≡ Some trace →
      recomposed_by sheller k c t e (map stored_part (parts_by sheller k c path t e) ++ rest) ≡ Some (trace, rest)
  whole_recomposed k c path t e trace rest h = recomposed_is k c path t e rest ∙ ap (leaving rest) h

  pub over_recomposed : (k c : ℕ) (path : List ℕ) (t : WideTree) (e : Before) (rest : List Stored) →
      evaluates k c t e ≡ None →
      recomposed_by sheller k c t e (map stored_part (parts_by sheller k c path t e) ++ rest) ≡ None
  over_recomposed k c path t e rest h = recomposed_is k c path t e rest ∙ ap (leaving rest) h
