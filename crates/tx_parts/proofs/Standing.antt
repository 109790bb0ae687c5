-- Each part is in its tree, and no two parts have one path.
use Rattle.std.proofs.Common.{◌≡◌, ℕ, zero, suc, ◌+◌, ◌*◌, ◌-◌, ◌≤◌, List, [], ◌∷◌, ◌++◌, length, map, ap, subst, refl}
use Rattle.std.proofs.Common.{sym, ◌∙◌, arith}
use Rattle.std.proofs.lemmas.List.{append_assoc, append-nil}
use Rattle.std.proofs.lemmas.Slice.Eq.{bytes_eq-Decides}
use Rattle.std.specs.Prelude.{Bool, true, false, if◌then◌else◌, Option, Some, None, option_and_then, slice_get, codes}
use Rattle.std.specs.Option.{option_map_or}
use Rattle.std.specs.List.{AllByRecursion, IsDistinct}
use Rattle.std.specs.Str.{bytes_eq}
use Rattle.tx_tree.specs.WideTree.{WideTree, leaf, node, trees, children_of}
use Rattle.tx_tree.specs.Paths.{subtree}
use Rattle.tx_exec_form.specs.Runs.{Before}
use Rattle.tx_exec_form.specs.Evaluated.{WideTrace}
use Rattle.tx_parts.specs.Atop.{env_atop}
use Rattle.tx_parts.specs.Openness.{Settings, settings_in, Openness, Document, With, Shut, document_openness}
use Rattle.tx_parts.specs.Openness.{with_openness, openness}
use Rattle.tx_parts.specs.Composed.{evaluates, SoFar, nothing_yet, with_child, set_by, settings_cost}
use Rattle.tx_parts.specs.Shells.{Layer, Shell}
use Rattle.tx_parts.specs.Opening.{Sheller, no_shells, Opening, ByTree, ByShell, opening, opening_by, shell_opening}
use Rattle.tx_parts.specs.Layered.{layer_values, layer_cost, inside_layer}
use Rattle.tx_parts.specs.Parts.{Part, Finder, parts_from, parts_as, parts, LayerFinder, parts_layers, parts_opened}
use Rattle.tx_parts.specs.Parts.{parts_by, parts_in}
use Rattle.tx_parts.specs.Standing.{StandsIn}
use Rattle.tx_parts.proofs.Settings.{Behind, behind_first}

-- ---- the inner trees are children

document_children : (a b : Bool) (us : List WideTree) (o : Option (Settings × WideTree)) (ts : List WideTree) →
    (if a then document_openness us else if b then with_openness o else Shut) ≡ Document ts → us ≡ ts
document_children true b [] o ts h = cc
document_children true b (u ∷ us) o ts h = let same : u ∷ us ≡ ts = cc in same
document_children false true us None ts h = cc
document_children false true us (Some p) ts h = cc
document_children false false us o ts h = cc

with_settings : (a b : Bool) (us : List WideTree) (o : Option (Settings × WideTree)) (ps : Settings) (u : WideTree) →
    (if a then document_openness us else if b then with_openness o else Shut) ≡ With ps u → o ≡ Some (ps, u)
with_settings true b [] o ps u h = cc
with_settings true b (t ∷ us) o ps u h = cc
with_settings false true us None ps u h = cc
with_settings false true us (Some p) ps u h =
    let first : p.0 ≡ ps = cc in
    let second : p.1 ≡ u = cc in
    ap (λ x. Some (x, p.1)) first ∙ ap (λ y. Some (ps, y)) second
with_settings false false us o ps u h = cc

last_at : (us : List WideTree) (p : Settings × WideTree) → settings_in us ≡ Some p →
    slice_get us (2 * length p.0) ≡ Some p.1
last_at [] p h = cc
last_at (leaf x ∷ []) p h =
    let same : ([], leaf x) ≡ p = cc in
    subst (λ (q : Settings × WideTree). slice_get (leaf x ∷ []) (2 * length q.0) ≡ Some q.1) same refl
last_at (node l us ∷ []) p h =
    let same : ([], node l us) ≡ p = cc in
    subst (λ (q : Settings × WideTree). slice_get (node l us ∷ []) (2 * length q.0) ≡ Some q.1) same refl
last_at (leaf x ∷ node l us ∷ ts) p h = cc
last_at (node l us ∷ t ∷ ts) p h = cc
last_at (leaf x ∷ leaf words ∷ ts) p h = by (behind_first x words (settings_in ts) p h) (λ q g. last_at ts q g)
  where
    by : Behind x words (settings_in ts) p → ((q : Settings × WideTree) → settings_in ts ≡ Some q →
        slice_get ts (2 * length q.0) ≡ Some q.1) → slice_get (leaf x ∷ leaf words ∷ ts) (2 * length p.0) ≡ Some p.1
    by f go =
        let two : 2 * suc (length f.others.0) ≡ suc (suc (2 * length f.others.0)) = omega arith in
        subst (λ (q : Settings × WideTree). slice_get (leaf x ∷ leaf words ∷ ts) (2 * length q.0) ≡ Some q.1) f.is
        (ap (slice_get (leaf x ∷ leaf words ∷ ts)) two ∙ go f.others f.found)

document_opened : (t : WideTree) (ts : List WideTree) → openness t ≡ Document ts → children_of t ≡ ts
document_opened (leaf words) ts h = cc
document_opened (node label us) ts h =
    document_children (bytes_eq label (codes "document")) (bytes_eq label (codes "with")) (trees us)
    (settings_in (trees us)) ts h

with_opened : (t : WideTree) (ps : Settings) (u : WideTree) → openness t ≡ With ps u →
    slice_get (children_of t) (2 * length ps) ≡ Some u
with_opened (leaf words) ps u h = cc
with_opened (node label us) ps u h =
    last_at (trees us) (ps, u) (with_settings (bytes_eq label (codes "document")) (bytes_eq label (codes "with"))
    (trees us) (settings_in (trees us)) ps u h)

-- ---- each part is in its tree

abbrev pub AllStand : List ℕ → WideTree → List Part → Type 0
AllStand path t ps = AllByRecursion (StandsIn path t) ps

both_stand : (path : List ℕ) (t : WideTree) (ps qs : List Part) → AllStand path t ps → AllStand path t qs →
    AllStand path t (ps ++ qs)
both_stand path t [] qs h g = g
both_stand path t (p ∷ ps) qs h g = (h.0, both_stand path t ps qs h.1 g)

lifted_one : (path : List ℕ) (t : WideTree) (i : ℕ) (u : WideTree) (p : Part) → slice_get (children_of t) i ≡ Some u →
    StandsIn (path ++ i ∷ []) u p → StandsIn path t p
lifted_one path t i u p is h = record {
  below = i ∷ h.below;
  path_is = h.path_is ∙ append_assoc path (i ∷ []) h.below;
  leads = ap (option_and_then (λ w. subtree w h.below)) is ∙ h.leads;
}

lifted : (path : List ℕ) (t : WideTree) (i : ℕ) (u : WideTree) (ps : List Part) → slice_get (children_of t) i ≡ Some u →
    AllStand (path ++ i ∷ []) u ps → AllStand path t ps
lifted path t i u [] is h = tt
lifted path t i u (p ∷ ps) is h = (lifted_one path t i u p is h.0, lifted path t i u ps is h.1)

-- these are the children from number i on
abbrev AreFrom : WideTree → ℕ → List WideTree → Type 0
AreFrom t i ts = (n : ℕ) (u : WideTree) → slice_get ts n ≡ Some u → slice_get (children_of t) (i + n) ≡ Some u

abbrev pub StandBelow : Finder → Type 0
StandBelow finder = (c : ℕ) (path : List ℕ) (t : WideTree) (e : Before) → AllStand path t (finder c path t e)

module _ (k : ℕ) (finder : Finder) (below : StandBelow finder) where
  children_stand : (c : ℕ) (path : List ℕ) (t : WideTree) (i : ℕ) (a : SoFar) (ts : List WideTree) (e : Before) →
      AreFrom t i ts → AllStand path t (parts_from k finder c path i a ts e)
  children_stand c path t i a [] e h = tt
  children_stand c path t i a (u ∷ us) e h =
      let number : i ≡ i + 0 = omega arith in
      both_stand path t (finder (c - a.cost) (path ++ i ∷ []) u (env_atop a.writes e))
      (option_map_or (λ trace. parts_from k finder c path (i + 1) (with_child i a trace) us e)
      (evaluates k (c - a.cost) u (env_atop a.writes e)) [])
      (lifted path t i u (finder (c - a.cost) (path ++ i ∷ []) u (env_atop a.writes e))
      (ap (slice_get (children_of t)) number ∙ h 0 u refl)
      (below (c - a.cost) (path ++ i ∷ []) u (env_atop a.writes e)))
      (by (evaluates k (c - a.cost) u (env_atop a.writes e))
      (λ a' g. children_stand c path t (i + 1) a' us e g))
    where
      by : (o : Option WideTrace) → ((a' : SoFar) → AreFrom t (i + 1) us →
          AllStand path t (parts_from k finder c path (i + 1) a' us e)) →
          AllStand path t
          (option_map_or (λ trace. parts_from k finder c path (i + 1) (with_child i a trace) us e) o [])
      by None go = tt
      by (Some trace) go = go (with_child i a trace) (λ n w q.
          let number : (i + 1) + n ≡ i + suc n = omega arith in
          ap (slice_get (children_of t)) number ∙ h (suc n) w q)

  open_stands : (o : Openness) (c : ℕ) (path : List ℕ) (t : WideTree) (e : Before) → openness t ≡ o →
      AllStand path t (parts_as o k finder c path t e)
  open_stands (Document ts) c path t e h =
      children_stand (c - 1) path t 0 nothing_yet ts e (λ n u q.
      let number : 0 + n ≡ n = omega arith in
      ap (slice_get (children_of t)) number ∙ ap (λ us. slice_get us n) (document_opened t ts h) ∙ q)
  open_stands (With ps u) c path t e h =
      lifted path t (2 * length ps) u
      (finder (c - (1 + settings_cost ps)) (path ++ (2 * length ps) ∷ []) u (env_atop (set_by ps) e))
      (with_opened t ps u h)
      (below (c - (1 + settings_cost ps)) (path ++ (2 * length ps) ∷ []) u (env_atop (set_by ps) e))
  open_stands Shut c path t e h = (record { below = []; path_is = sym (append-nil path); leads = refl }, tt)

-- the parts of a child in layers are in the child
abbrev pub StandInside : LayerFinder → Type 0
StandInside inside = (ls : List Layer) (i c : ℕ) (path : List ℕ) (u : WideTree) (e : Before) →
    AllStand (path ++ i ∷ []) u (inside ls i c path u e)

module _ (k : ℕ) (finder : Finder) (below : StandBelow finder) (inside : LayerFinder)
    (within : StandInside inside) where
  layers_stand : StandInside (parts_layers k finder inside)
  layers_stand [] i c path u e = below (c - 1) (path ++ i ∷ []) u e
  layers_stand (l ∷ ls) i c path u e = by (layer_values k l c e)
    where
      by : (o : Option SoFar) → AllStand (path ++ i ∷ []) u (option_map_or
          (λ a. inside ls i (c - layer_cost l.names a) path u (inside_layer l.names a e)) o [])
      by None = tt
      by (Some a) = within ls i (c - layer_cost l.names a) path u (inside_layer l.names a e)

  opened_stands : (o : Option Shell) (c : ℕ) (path : List ℕ) (t : WideTree) (e : Before) →
      AllStand path t (parts_opened (opening_by o t) k finder inside c path t e)
  opened_stands None c path t e = open_stands k finder below (openness t) c path t e refl
  opened_stands (Some shell) c path t e = by (slice_get (children_of t) shell.inner) refl
    where
      by : (r : Option WideTree) → slice_get (children_of t) shell.inner ≡ r →
          AllStand path t (parts_opened (shell_opening shell r (openness t)) k finder inside c path t e)
      by None h = open_stands k finder below (openness t) c path t e refl
      by (Some u) h =
          lifted path t shell.inner u (inside shell.layers shell.inner (c - 1) path u e) h
          (within shell.layers shell.inner (c - 1) path u e)

module _ (sheller : Sheller) where
  mutual
    unfolding parts_by parts_in

    pub parts_by_stand : (k : ℕ) → StandBelow (parts_by sheller k)
    parts_by_stand zero c path t e = tt
    parts_by_stand (suc k) c path t e =
        opened_stands k (parts_by sheller k) (parts_by_stand k) (parts_in sheller k) (parts_in_stand k) (sheller t e) c
        path t e

    pub parts_in_stand : (k : ℕ) → StandInside (parts_in sheller k)
    parts_in_stand zero ls i c path u e = tt
    parts_in_stand (suc k) ls i c path u e =
        layers_stand k (parts_by sheller k) (parts_by_stand k) (parts_in sheller k) (parts_in_stand k) ls i c path u e

pub parts_stand : (k : ℕ) → StandBelow (parts k)
parts_stand k = parts_by_stand no_shells k

-- ---- no two have one path

abbrev NotIn : List ℕ → List Part → Type 0
NotIn path ps = AllByRecursion (λ (p : Part). bytes_eq path p.path ≡ false) ps

abbrev AllDiffer : List Part → Type 0
AllDiffer [] = Unit {0}
AllDiffer (p ∷ ps) = NotIn p.path ps × AllDiffer ps

-- it is under a child from number i on
record IsBeyond (path : List ℕ) (i : ℕ) (p : Part) : Type 0 where
  number : ℕ
  rest : List ℕ
  enough : i ≤ number
  is : p.path ≡ path ++ number ∷ rest

abbrev Beyond : List ℕ → ℕ → List Part → Type 0
Beyond path i ps = AllByRecursion (IsBeyond path i) ps

both_beyond : (path : List ℕ) (i : ℕ) (ps qs : List Part) → Beyond path i ps → Beyond path i qs →
    Beyond path i (ps ++ qs)
both_beyond path i [] qs h g = g
both_beyond path i (p ∷ ps) qs h g = (h.0, both_beyond path i ps qs h.1 g)

beyond_one : (path : List ℕ) (i : ℕ) (u : WideTree) (p : Part) → StandsIn (path ++ i ∷ []) u p → IsBeyond path i p
beyond_one path i u p h = record {
  number = i;
  rest = h.below;
  enough = omega arith;
  is = h.path_is ∙ append_assoc path (i ∷ []) h.below;
}

beyond : (path : List ℕ) (i : ℕ) (u : WideTree) (ps : List Part) → AllStand (path ++ i ∷ []) u ps → Beyond path i ps
beyond path i u [] h = tt
beyond path i u (p ∷ ps) h = (beyond_one path i u p h.0, beyond path i u ps h.1)

weaker_one : (path : List ℕ) (i : ℕ) (p : Part) → IsBeyond path (i + 1) p → IsBeyond path i p
weaker_one path i p h =
    let more : i + 1 ≤ h.number = h.enough in
    record { number = h.number; rest = h.rest; enough = omega (arith, more); is = h.is }

weaker : (path : List ℕ) (i : ℕ) (ps : List Part) → Beyond path (i + 1) ps → Beyond path i ps
weaker path i [] h = tt
weaker path i (p ∷ ps) h = (weaker_one path i p h.0, weaker path i ps h.1)

same_rest : (xs ys zs : List ℕ) → xs ++ ys ≡ xs ++ zs → ys ≡ zs
same_rest [] ys zs h = h
same_rest (x ∷ xs) ys zs h = let rest : xs ++ ys ≡ xs ++ zs = cc in same_rest xs ys zs rest

unlike : (p q : List ℕ) (b : Bool) → bytes_eq p q ≡ b → (p ≡ q → ⊥) → b ≡ false
unlike p q true h off = absurd (off ((bytes_eq-Decides p q).0 h))
unlike p q false h off = refl

apart_one : (path : List ℕ) (i : ℕ) (u : WideTree) (p q : Part) → StandsIn (path ++ i ∷ []) u p →
    IsBeyond path (i + 1) q → bytes_eq p.path q.path ≡ false
apart_one path i u p q h g = unlike p.path q.path (bytes_eq p.path q.path) refl (λ same.
    let first : p.path ≡ path ++ i ∷ h.below = h.path_is ∙ append_assoc path (i ∷ []) h.below in
    let rest : i ∷ h.below ≡ g.number ∷ g.rest =
    same_rest path (i ∷ h.below) (g.number ∷ g.rest) (sym first ∙ same ∙ g.is) in
    let number : i ≡ g.number = cc in
    let more : i + 1 ≤ g.number = g.enough in
    omega (arith, number, more))

not_beyond : (path : List ℕ) (i : ℕ) (u : WideTree) (p : Part) (qs : List Part) → StandsIn (path ++ i ∷ []) u p →
    Beyond path (i + 1) qs → NotIn p.path qs
not_beyond path i u p [] h g = tt
not_beyond path i u p (q ∷ qs) h g = (apart_one path i u p q h g.0, not_beyond path i u p qs h g.1)

not_both : (path : List ℕ) (ps qs : List Part) → NotIn path ps → NotIn path qs → NotIn path (ps ++ qs)
not_both path [] qs h g = g
not_both path (p ∷ ps) qs h g = (h.0, not_both path ps qs h.1 g)

both_differ : (path : List ℕ) (i : ℕ) (u : WideTree) (ps qs : List Part) → AllStand (path ++ i ∷ []) u ps →
    AllDiffer ps → Beyond path (i + 1) qs → AllDiffer qs → AllDiffer (ps ++ qs)
both_differ path i u [] qs stand h far g = g
both_differ path i u (p ∷ ps) qs stand h far g =
    (not_both p.path ps qs h.0 (not_beyond path i u p qs stand.0 far), both_differ path i u ps qs stand.1 h.1 far g)

abbrev DifferBelow : Finder → Type 0
DifferBelow finder = (c : ℕ) (path : List ℕ) (t : WideTree) (e : Before) → AllDiffer (finder c path t e)

module _ (k : ℕ) (finder : Finder) (stand : StandBelow finder) (below : DifferBelow finder) where
  behind_beyond : (c : ℕ) (path : List ℕ) (i : ℕ) (a : SoFar) (ts : List WideTree) (e : Before) (o : Option WideTrace) →
      ((a' : SoFar) → Beyond path (i + 1) (parts_from k finder c path (i + 1) a' ts e)) → Beyond path (i + 1)
      (option_map_or (λ trace. parts_from k finder c path (i + 1) (with_child i a trace) ts e) o [])
  behind_beyond c path i a ts e None go = tt
  behind_beyond c path i a ts e (Some trace) go = go (with_child i a trace)

  children_beyond : (c : ℕ) (path : List ℕ) (i : ℕ) (a : SoFar) (ts : List WideTree) (e : Before) →
      Beyond path i (parts_from k finder c path i a ts e)
  children_beyond c path i a [] e = tt
  children_beyond c path i a (u ∷ us) e =
      let behind : List Part = option_map_or (λ trace. parts_from k finder c path (i + 1) (with_child i a trace) us e)
      (evaluates k (c - a.cost) u (env_atop a.writes e)) [] in
      both_beyond path i (finder (c - a.cost) (path ++ i ∷ []) u (env_atop a.writes e)) behind
      (beyond path i u (finder (c - a.cost) (path ++ i ∷ []) u (env_atop a.writes e))
      (stand (c - a.cost) (path ++ i ∷ []) u (env_atop a.writes e)))
      (weaker path i behind (behind_beyond c path i a us e (evaluates k (c - a.cost) u (env_atop a.writes e))
      (λ a'. children_beyond c path (i + 1) a' us e)))

  behind_differ : (c : ℕ) (path : List ℕ) (i : ℕ) (a : SoFar) (ts : List WideTree) (e : Before) (o : Option WideTrace) →
      ((a' : SoFar) → AllDiffer (parts_from k finder c path (i + 1) a' ts e)) →
      AllDiffer (option_map_or (λ trace. parts_from k finder c path (i + 1) (with_child i a trace) ts e) o [])
  behind_differ c path i a ts e None go = tt
  behind_differ c path i a ts e (Some trace) go = go (with_child i a trace)

  children_differ : (c : ℕ) (path : List ℕ) (i : ℕ) (a : SoFar) (ts : List WideTree) (e : Before) →
      AllDiffer (parts_from k finder c path i a ts e)
  children_differ c path i a [] e = tt
  children_differ c path i a (u ∷ us) e =
      both_differ path i u (finder (c - a.cost) (path ++ i ∷ []) u (env_atop a.writes e))
      (option_map_or (λ trace. parts_from k finder c path (i + 1) (with_child i a trace) us e)
      (evaluates k (c - a.cost) u (env_atop a.writes e)) [])
      (stand (c - a.cost) (path ++ i ∷ []) u (env_atop a.writes e))
      (below (c - a.cost) (path ++ i ∷ []) u (env_atop a.writes e))
      (behind_beyond c path i a us e (evaluates k (c - a.cost) u (env_atop a.writes e))
      (λ a'. children_beyond c path (i + 1) a' us e))
      (behind_differ c path i a us e (evaluates k (c - a.cost) u (env_atop a.writes e))
      (λ a'. children_differ c path (i + 1) a' us e))

  open_differ : (o : Openness) (c : ℕ) (path : List ℕ) (t : WideTree) (e : Before) →
      AllDiffer (parts_as o k finder c path t e)
  open_differ (Document ts) c path t e = children_differ (c - 1) path 0 nothing_yet ts e
  open_differ (With ps u) c path t e =
      below (c - (1 + settings_cost ps)) (path ++ (2 * length ps) ∷ []) u (env_atop (set_by ps) e)
  open_differ Shut c path t e = (tt, tt)

abbrev DifferInside : LayerFinder → Type 0
DifferInside inside = (ls : List Layer) (i c : ℕ) (path : List ℕ) (u : WideTree) (e : Before) →
    AllDiffer (inside ls i c path u e)

module _ (k : ℕ) (finder : Finder) (stand : StandBelow finder) (below : DifferBelow finder) (inside : LayerFinder)
    (within : DifferInside inside) where
  layers_differ : DifferInside (parts_layers k finder inside)
  layers_differ [] i c path u e = below (c - 1) (path ++ i ∷ []) u e
  layers_differ (l ∷ ls) i c path u e = by (layer_values k l c e)
    where
      by : (o : Option SoFar) → AllDiffer (option_map_or
          (λ a. inside ls i (c - layer_cost l.names a) path u (inside_layer l.names a e)) o [])
      by None = tt
      by (Some a) = within ls i (c - layer_cost l.names a) path u (inside_layer l.names a e)

  opened_differ : (o : Opening) (c : ℕ) (path : List ℕ) (t : WideTree) (e : Before) →
      AllDiffer (parts_opened o k finder inside c path t e)
  opened_differ (ByTree o) c path t e = open_differ k finder stand below o c path t e
  opened_differ (ByShell shell u) c path t e = within shell.layers shell.inner (c - 1) path u e

module _ (sheller : Sheller) where
  mutual
    unfolding parts_by parts_in

    differing : (k : ℕ) → DifferBelow (parts_by sheller k)
    differing zero c path t e = tt
    differing (suc k) c path t e =
        opened_differ k (parts_by sheller k) (parts_by_stand sheller k) (differing k) (parts_in sheller k)
        (differing_in k) (opening sheller t e) c path t e

    differing_in : (k : ℕ) → DifferInside (parts_in sheller k)
    differing_in zero ls i c path u e = tt
    differing_in (suc k) ls i c path u e =
        layers_differ k (parts_by sheller k) (parts_by_stand sheller k) (differing k) (parts_in sheller k)
        (differing_in k) ls i c path u e

not_paths : (path : List ℕ) (ps : List Part) → NotIn path ps →
    AllByRecursion (λ q. bytes_eq path q ≡ false) (map (λ p. p.path) ps)
not_paths path [] h = tt
not_paths path (p ∷ ps) h = (h.0, not_paths path ps h.1)

distinct : (ps : List Part) → AllDiffer ps → IsDistinct bytes_eq (map (λ p. p.path) ps)
unfolding IsDistinct
distinct [] h = tt
distinct (p ∷ ps) h = (not_paths p.path ps h.0, distinct ps h.1)

pub parts_by_differ : (sheller : Sheller) (k c : ℕ) (path : List ℕ) (t : WideTree) (e : Before) →
    IsDistinct bytes_eq (map (λ p. p.path) (parts_by sheller k c path t e))
parts_by_differ sheller k c path t e = distinct (parts_by sheller k c path t e) (differing sheller k c path t e)

pub parts_differ : (k c : ℕ) (path : List ℕ) (t : WideTree) (e : Before) →
    IsDistinct bytes_eq (map (λ p. p.path) (parts k c path t e))
parts_differ k c path t e = parts_by_differ no_shells k c path t e
