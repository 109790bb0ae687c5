-- The children of a `document`, in order.
use Rattle.std.proofs.Common.{◌≡◌, ℕ, zero, suc, ◌+◌, ◌-◌, ◌≤◌, max, List, [], ◌∷◌, ◌++◌, map, length, drop, refl}
use Rattle.std.proofs.Common.{ap, sym, subst, ◌∙◌, append_assoc, length-append, arith}
use mathlib.Core.Path.{fun_ext}
use Rattle.std.proofs.lemmas.List.{drop_all, map-append}
use Rattle.std.proofs.lemmas.List.Sums.{sum_by-append}
use Rattle.std.specs.Prelude.{Bool, true, false, Option, Some, None, option_and_then, slice_get}
use Rattle.std.specs.Option.{option_map, option_map_or, option_or}
use Rattle.std.specs.Ordering.{nat_cmp}
use Rattle.std.specs.Cmp.Lexicographic.{slice_cmp}
use Rattle.std.specs.FinMap.{empty, get-empty}
use Rattle.tx_tree.specs.WideTree.{WideTree}
use Rattle.tx_tree.proofs.Walks.{drop_item}
use Rattle.tx_origin.specs.Values.{WideValue}
use Rattle.tx_origin.specs.Under.{value_under}
use Rattle.tx_origin.proofs.Under.{under_nested}
use Rattle.tx_exec_form.specs.Runs.{Before}
use Rattle.tx_exec_form.specs.Evaluated.{WideTrace}
use Rattle.tx_exec_form.proofs.Tracing.{allowed}
use Rattle.tx_parts.specs.Atop.{atop, env_atop, both_looks}
use Rattle.tx_parts.specs.Composed.{alone, evaluates, SoFar, nothing_yet, with_child, children_from}
use Rattle.tx_parts.specs.Parts.{Part, parts_from, parts_by}
use Rattle.tx_parts.specs.LayerCosts.{Holder, HoldsMore, counts_from, layer_costs_by}
use Rattle.tx_parts.proofs.PartRuns.{atop_twice}
use Rattle.tx_walk.specs.declared.part.Part.{Part as DonePart}
use Rattle.tx_walk.specs.Held.{charge_of, charges}
use Rattle.tx_walk.specs.Guides.{Guide, charged, charged_from}
use Rattle.tx_walk.specs.LayerTraces.{TreeTrace, holds_in, LayersKnown, AreKnownBy}
use Rattle.tx_walk.specs.Walked.{seen, seen_in}
use Rattle.tx_walk.specs.Steps.{trace_under, IsBehind, IsAdded, joined_with, IsJoined, below, Stage, ChildDone}
use Rattle.tx_walk.specs.Steps.{ChildOver}
use Rattle.tx_walk.specs.Steps.{ChildComes, ChildrenDone, ChildrenOver}

-- ---- one child

module _ (guide : Guide) (k c : ℕ) (path : List ℕ) (i : ℕ) (t : WideTree) (a b : SoFar) (names names1 : Before)
    (old new : List DonePart) (before after : ℕ) (kept kept1 : List TreeTrace) where
  abbrev first : Stage
  first = record { joined = a; names = names; done = map seen old; count = before; layers = kept }

  abbrev last : Stage
  last = record { joined = b; names = names1; done = map seen new; count = after; layers = kept1 }

  by_comes : (o : Option WideTrace) (went : Bool) (r : Option WideTrace) →
      evaluates k (c - a.cost) t names ≡ r → o ≡ option_map (trace_under (path ++ i ∷ [])) r →
      IsBehind names names1 o → IsAdded guide.stores (parts_by guide.sheller k (c - a.cost) (path ++ i ∷ []) t names)
      old new o →
      after ≡ before + charged guide k (c - a.cost) (path ++ i ∷ []) t names →
      AreKnownBy guide.sheller k (c - a.cost) t names kept kept1 o → IsJoined a b o went →
      ChildComes guide k c path i t first last went
  by_comes None true None q e behind is_added counted known joined = let off : true ≡ false = joined in cc
  by_comes None false None q e behind is_added counted known joined = record { comes = q; count = counted }
  by_comes None went (Some w) q e behind is_added counted known joined = cc
  by_comes (Some u) went None q e behind is_added counted known joined = cc
  by_comes (Some u) false (Some w) q e behind is_added counted known joined = let off : false ≡ true = joined.0 in cc
  by_comes (Some u) true (Some w) q e behind is_added counted known joined =
      let same : u ≡ trace_under (path ++ i ∷ []) w = cc in
      let writes : u.writes ≡ w.writes = ap (λ (v : WideTrace). v.writes) same in
      record {
        trace = w;
        comes = q;
        joined = joined.1 ∙ ap (joined_with a) same;
        names = behind ∙ ap (λ m. env_atop m names) writes;
        done = is_added;
        count = counted;
        known = known;
      }

  pub child_comes : (at : List ℕ) (rest : ℕ) (o : Option WideTrace) (went : Bool) → at ≡ path ++ i ∷ [] →
      rest ≡ c - a.cost → o ≡ option_map (trace_under at) (evaluates k rest t names) →
      IsBehind names names1 o → IsAdded guide.stores (parts_by guide.sheller k rest at t names) old new o →
      after ≡ before + charged guide k rest at t names → AreKnownBy guide.sheller k rest t names kept kept1 o →
      IsJoined a b o went → ChildComes guide k c path i t first last went
  child_comes at rest o went is_at is_rest e behind is_added counted known joined =
      by_comes o went (evaluates k (c - a.cost) t names) refl
      (e ∙ ap (λ p. option_map (trace_under p) (evaluates k rest t names)) is_at
      ∙ ap (λ n. option_map (trace_under (path ++ i ∷ [])) (evaluates k n t names)) is_rest)
      behind
      (subst (λ p. IsAdded guide.stores (parts_by guide.sheller k (c - a.cost) p t names) old new o) is_at
      (subst (λ n. IsAdded guide.stores (parts_by guide.sheller k n at t names) old new o) is_rest is_added))
      (counted ∙ ap (λ n. before + charged guide k n at t names) is_rest
      ∙ ap (λ p. before + charged guide k (c - a.cost) p t names) is_at)
      (subst (λ n. AreKnownBy guide.sheller k n t names kept kept1 o) is_rest known)
      joined

-- ---- the loop

-- After i children.
pub record Going (guide : Guide) (k c : ℕ) (path : List ℕ) (kids : List WideTree) (s : Stage) (i : ℕ) (s1 : Stage) :
    Type 0 where
  pub so_far : SoFar
  pub run : children_from (evaluates k) c 0 nothing_yet kids s.names ≡
      children_from (evaluates k) c i so_far (drop i kids) s.names
  pub joined : s1.joined ≡ below path so_far
  pub names : s1.names ≡ env_atop so_far.writes s.names
  pub earlier : List Part
  pub parts_are : parts_from k (parts_by guide.sheller k) c path 0 nothing_yet kids s.names ≡
      earlier ++ parts_from k (parts_by guide.sheller k) c path i so_far (drop i kids) s.names
  pub done : s1.done ≡ s.done ++ map (seen_in guide.stores) earlier
  pub spent : ℕ
  pub count : s1.count ≡ s.count + spent
  pub charged_are : charged_from guide k c path 0 nothing_yet kids s.names ≡
      spent + charged_from guide k c path i so_far (drop i kids) s.names
  pub more : HoldsMore (holds_in s.layers) (holds_in s1.layers)
  pub layers_are : (held : Holder) → HoldsMore (holds_in s1.layers) held →
      counts_from k (layer_costs_by held guide.sheller k) c 0 nothing_yet kids s.names ≡
      counts_from k (layer_costs_by held guide.sheller k) c i so_far (drop i kids) s.names
  pub cost : so_far.cost ≤ c
  pub many : length so_far.values ≡ i

atop_empty : (e : Before) → e ≡ env_atop empty e
atop_empty e = fun_ext (λ x. ap (λ o. option_or o (e x)) (sym (get-empty (slice_cmp nat_cmp) x)))

pub append_none : {X : Type 0} (xs : List X) → xs ++ [] ≡ xs
append_none [] = refl
append_none (x ∷ xs) = ap (λ ys. x ∷ ys) (append_none xs)

pub begins : (guide : Guide) (k c : ℕ) (path : List ℕ) (kids : List WideTree) (s : Stage) →
    s.joined ≡ nothing_yet → Going guide k c path kids s 0 s
begins guide k c path kids s h =
    record {
      so_far = nothing_yet;
      run = refl;
      joined = h;
      names = atop_empty s.names;
      earlier = [];
      parts_are = refl;
      done = sym (append_none s.done);
      spent = 0;
      count = omega arith;
      charged_are = omega arith;
      more = λ t e h. h;
      layers_are = λ held h. refl;
      cost = omega arith;
      many = refl;
    }

-- what a child is charged, and those after it
module _ (guide : Guide) (k c : ℕ) (path : List ℕ) (i : ℕ) (a : SoFar) (t : WideTree) (ts : List WideTree)
    (e : Before) where
  abbrev parts_here : List Part
  parts_here = parts_by guide.sheller k (c - a.cost) (path ++ i ∷ []) t (env_atop a.writes e)

  abbrev costs_here : ℕ
  costs_here = layer_costs_by guide.holder guide.sheller k (c - a.cost) t (env_atop a.writes e)

  abbrev parts_behind : Option WideTrace → List Part
  parts_behind o = option_map_or
      (λ trace. parts_from k (parts_by guide.sheller k) c path (i + 1) (with_child i a trace) ts e) o []

  abbrev costs_behind : Option WideTrace → ℕ
  costs_behind o = option_map_or
      (λ trace. counts_from k (layer_costs_by guide.holder guide.sheller k) c (i + 1) (with_child i a trace) ts e) o 0

  by_behind : (o : Option WideTrace) →
      charges guide.stores (parts_here ++ parts_behind o) + (costs_here + costs_behind o) ≡
      (charges guide.stores parts_here + costs_here)
      + option_map_or (λ trace. charged_from guide k c path (i + 1) (with_child i a trace) ts e) o 0
  by_behind None =
      let both : charges guide.stores (parts_here ++ []) ≡ charges guide.stores parts_here =
      ap (charges guide.stores) (append_none parts_here) in
      omega (arith, both)
  by_behind (Some trace) =
      let both : charges guide.stores (parts_here ++ parts_behind (Some trace)) ≡
      charges guide.stores parts_here + charges guide.stores (parts_behind (Some trace)) =
      sum_by-append (charge_of guide.stores) parts_here (parts_behind (Some trace)) in
      omega (arith, both)

  charged_behind : (o : Option WideTrace) → evaluates k (c - a.cost) t (env_atop a.writes e) ≡ o →
      charged_from guide k c path i a (t ∷ ts) e ≡
      charged guide k (c - a.cost) (path ++ i ∷ []) t (env_atop a.writes e)
      + option_map_or (λ trace. charged_from guide k c path (i + 1) (with_child i a trace) ts e) o 0
  charged_behind o q =
      ap (λ x. charges guide.stores (parts_here ++ parts_behind x) + (costs_here + costs_behind x)) q ∙ by_behind o

-- the values under the path, with one more
pub values_more : (base : List ℕ) (i : ℕ) (vs : List WideValue) (v : WideValue) →
    map (value_under base) vs ++ value_under (base ++ i ∷ []) v ∷ [] ≡
    map (value_under base) (vs ++ value_under (i ∷ []) v ∷ [])
values_more base i vs v =
    ap (λ u. map (value_under base) vs ++ u ∷ []) (under_nested base (i ∷ []) v)
    ∙ sym (map-append (value_under base) vs (value_under (i ∷ []) v ∷ []))

below_more : (base : List ℕ) (i : ℕ) (a : SoFar) (w : WideTrace) →
    joined_with (below base a) (trace_under (base ++ i ∷ []) w) ≡ below base (with_child i a w)
below_more base i a w =
    ap (λ vs. record {
      values = vs;
      looks = both_looks a.looks a.writes w.looks;
      writes = atop w.writes a.writes;
      cost = a.cost + w.cost;
      height = max a.height w.height;
    }) (values_more base i a.values w.value)

none_more : (n : ℕ) → 0 + n ≡ n
none_more n = omega arith

stopped : (a b n m x y spent : ℕ) → a ≡ b + n → n ≡ m → b ≡ x + spent → y ≡ spent + (m + 0) → a ≡ x + y
stopped a b n m x y spent h is so all = omega (arith, h, is, so, all)

ended : (a x spent y : ℕ) → a ≡ x + spent → y ≡ spent + (0 + 0) → a ≡ x + y
ended a x spent y h all = omega (arith, h, all)

module _ (guide : Guide) (k c : ℕ) (path : List ℕ) (kids : List WideTree) (s : Stage) (i : ℕ) (s1 : Stage)
    (g : Going guide k c path kids s i s1) (t : WideTree) (there : slice_get kids i ≡ Some t) where
  pub cost_is : s1.joined.cost ≡ g.so_far.cost
  cost_is = ap (λ (a : SoFar). a.cost) g.joined

  -- what the child evaluates to
  at_child : evaluates k (c - s1.joined.cost) t s1.names ≡
      evaluates k (c - g.so_far.cost) t (env_atop g.so_far.writes s.names)
  at_child =
      ap (λ n. evaluates k (c - n) t s1.names) cost_is
      ∙ ap (evaluates k (c - g.so_far.cost) t) g.names

  parts_at : parts_by guide.sheller k (c - s1.joined.cost) (path ++ i ∷ []) t s1.names ≡
      parts_by guide.sheller k (c - g.so_far.cost) (path ++ i ∷ []) t (env_atop g.so_far.writes s.names)
  parts_at =
      ap (λ n. parts_by guide.sheller k (c - n) (path ++ i ∷ []) t s1.names) cost_is
      ∙ ap (parts_by guide.sheller k (c - g.so_far.cost) (path ++ i ∷ []) t) g.names

  charged_at : charged guide k (c - s1.joined.cost) (path ++ i ∷ []) t s1.names ≡
      charged guide k (c - g.so_far.cost) (path ++ i ∷ []) t (env_atop g.so_far.writes s.names)
  charged_at =
      ap (λ n. charged guide k (c - n) (path ++ i ∷ []) t s1.names) cost_is
      ∙ ap (charged guide k (c - g.so_far.cost) (path ++ i ∷ []) t) g.names

  charged_so : (o : Option WideTrace) →
      evaluates k (c - g.so_far.cost) t (env_atop g.so_far.writes s.names) ≡ o →
      charged_from guide k c path i g.so_far (drop i kids) s.names ≡
      charged guide k (c - g.so_far.cost) (path ++ i ∷ []) t (env_atop g.so_far.writes s.names)
      + option_map_or (λ trace. charged_from guide k c path (i + 1) (with_child i g.so_far trace) (drop (i + 1) kids)
      s.names) o 0
  charged_so o q =
      ap (λ ts. charged_from guide k c path i g.so_far ts s.names) (drop_item kids i t there)
      ∙ charged_behind guide k c path i g.so_far t (drop (i + 1) kids) s.names o q

  run_at : children_from (evaluates k) c 0 nothing_yet kids s.names ≡
      option_and_then (λ trace. children_from (evaluates k) c (i + 1) (with_child i g.so_far trace) (drop (i + 1) kids)
      s.names) (evaluates k (c - g.so_far.cost) t (env_atop g.so_far.writes s.names))
  run_at =
      g.run ∙ ap (λ ts. children_from (evaluates k) c i g.so_far ts s.names) (drop_item kids i t there)

  -- the child costs nothing of layers
  layers_next : (held : Holder) (trace : WideTrace) →
      evaluates k (c - g.so_far.cost) t (env_atop g.so_far.writes s.names) ≡ Some trace →
      layer_costs_by held guide.sheller k (c - s1.joined.cost) t s1.names ≡ 0 →
      counts_from k (layer_costs_by held guide.sheller k) c i g.so_far (drop i kids) s.names ≡
      counts_from k (layer_costs_by held guide.sheller k) c (i + 1) (with_child i g.so_far trace) (drop (i + 1) kids)
      s.names
  layers_next held trace comes none =
      let rest : ℕ = counts_from k (layer_costs_by held guide.sheller k) c (i + 1) (with_child i g.so_far trace)
      (drop (i + 1) kids) s.names in
      let here : layer_costs_by held guide.sheller k (c - g.so_far.cost) t (env_atop g.so_far.writes s.names) ≡ 0 =
      sym (ap (λ n. layer_costs_by held guide.sheller k (c - n) t s1.names) cost_is
      ∙ ap (layer_costs_by held guide.sheller k (c - g.so_far.cost) t) g.names) ∙ none in
      ap (λ ts. counts_from k (layer_costs_by held guide.sheller k) c i g.so_far ts s.names) (drop_item kids i t there)
      ∙ ap (λ o. layer_costs_by held guide.sheller k (c - g.so_far.cost) t (env_atop g.so_far.writes s.names)
      + option_map_or (λ w. counts_from k (layer_costs_by held guide.sheller k) c (i + 1) (with_child i g.so_far w)
      (drop (i + 1) kids) s.names) o 0) comes
      ∙ ap (λ n. n + rest) here ∙ none_more rest

  pub next : (s2 : Stage) → ChildDone guide k c path i t s1 s2 → Going guide k c path kids s (i + 1) s2
  next s2 d =
      let comes : evaluates k (c - g.so_far.cost) t (env_atop g.so_far.writes s.names) ≡ Some d.trace =
      sym at_child ∙ d.comes in
      let here : List Part = parts_by guide.sheller k (c - g.so_far.cost) (path ++ i ∷ []) t (env_atop g.so_far.writes
      s.names) in
      let bounds : (d.trace.cost ≤ c - g.so_far.cost) × (d.trace.height ≤ k) =
      allowed k (c - g.so_far.cost) (alone t) (env_atop g.so_far.writes s.names) d.trace comes in
      let cost : g.so_far.cost ≤ c = g.cost in
      let mine : ℕ = charged guide k (c - g.so_far.cost) (path ++ i ∷ []) t (env_atop g.so_far.writes s.names) in
      let many : length g.so_far.values ≡ i = g.many in
      record {
        so_far = with_child i g.so_far d.trace;
        run = run_at ∙ ap (option_and_then (λ trace. children_from (evaluates k) c (i + 1)
            (with_child i g.so_far trace) (drop (i + 1) kids) s.names)) comes;
        joined = d.joined ∙ ap (λ a. joined_with a (trace_under (path ++ i ∷ []) d.trace)) g.joined
            ∙ below_more path i g.so_far d.trace;
        names = d.names ∙ ap (env_atop d.trace.writes) g.names
            ∙ sym (atop_twice d.trace.writes g.so_far.writes s.names);
        earlier = g.earlier ++ here;
        parts_are = g.parts_are
            ∙ ap (λ ts. g.earlier ++ parts_from k (parts_by guide.sheller k) c path i g.so_far ts s.names) (drop_item
            kids i t there)
            ∙ ap (λ o. g.earlier ++ (here ++ option_map_or
            (λ trace. parts_from k (parts_by guide.sheller k) c path (i + 1) (with_child i g.so_far trace) (drop (i + 1)
            kids) s.names)
            o [])) comes
            ∙ sym (append_assoc g.earlier here (parts_from k (parts_by guide.sheller k) c path (i + 1) (with_child i
            g.so_far d.trace)
            (drop (i + 1) kids) s.names));
        done = d.done ∙ ap (λ ps. s1.done ++ map (seen_in guide.stores) ps) parts_at
            ∙ ap (λ xs. xs ++ map (seen_in guide.stores) here) g.done
            ∙ append_assoc s.done (map (seen_in guide.stores) g.earlier) (map (seen_in guide.stores) here)
            ∙ ap (λ xs. s.done ++ xs) (sym (map-append (seen_in guide.stores) g.earlier here));
        spent = g.spent + mine;
        count = d.count ∙ ap (λ n. s1.count + n) charged_at ∙ ap (λ n. n + mine) g.count ∙ omega arith;
        charged_are = g.charged_are ∙ ap (λ n. g.spent + n) (charged_so (Some d.trace) comes) ∙ omega arith;
        more = λ u e h. d.known.more u e (g.more u e h);
        layers_are = λ held h. g.layers_are held (λ u e p. h u e (d.known.more u e p))
            ∙ layers_next held d.trace comes (d.known.nothing held h);
        cost = omega (arith, cost, bounds.0);
        many = length-append g.so_far.values (value_under (i ∷ []) d.trace.value ∷ []) ∙ ap (λ n. n + 1) many;
      }

  pub stops : (s2 : Stage) → ChildOver guide k c path i t s1 s2 → ChildrenOver guide k c path kids s s2
  stops s2 d =
      let comes : evaluates k (c - g.so_far.cost) t (env_atop g.so_far.writes s.names) ≡ None =
      sym at_child ∙ d.comes in
      record {
        comes = run_at ∙ ap (option_and_then (λ trace. children_from (evaluates k) c (i + 1)
            (with_child i g.so_far trace) (drop (i + 1) kids) s.names)) comes;
        count = stopped _ _ _ _ _ _ g.spent d.count charged_at g.count (g.charged_are ∙ ap (λ n. g.spent + n)
            (charged_so None comes));
      }

pub ends : (guide : Guide) (k c : ℕ) (path : List ℕ) (kids : List WideTree) (s : Stage) (i : ℕ) (s1 : Stage) →
    Going guide k c path kids s i s1 → i ≡ length kids → ChildrenDone guide k c path kids s s1
ends guide k c path kids s i s1 g h =
    let all : parts_from k (parts_by guide.sheller k) c path 0 nothing_yet kids s.names ≡ g.earlier =
    g.parts_are ∙ ap (λ ts. g.earlier ++ parts_from k (parts_by guide.sheller k) c path i g.so_far ts s.names)
    (drop_all i kids (omega (arith, h))) ∙ append_none g.earlier in
    record {
      so_far = g.so_far;
      comes = g.run ∙ ap (λ ts. children_from (evaluates k) c i g.so_far ts s.names) (drop_all i kids (omega (
        arith,
        h,
      )));
      joined = g.joined;
      names = g.names;
      done = g.done ∙ ap (λ ps. s.done ++ map (seen_in guide.stores) ps) (sym all);
      count = ended _ _ g.spent _ g.count (g.charged_are ∙ ap (λ ts. g.spent + charged_from guide k c path i g.so_far ts
          s.names)
          (drop_all i kids (omega (arith, h))));
      known = record {
        more = g.more;
        nothing = λ held p. g.layers_are held p
            ∙ ap (λ ts. counts_from k (layer_costs_by held guide.sheller k) c i g.so_far ts s.names)
            (drop_all i kids (omega (arith, h)));
      };
      many = g.many ∙ h;
    }
