-- A `with` by its last child.
use Rattle.std.proofs.Common.{◌≡◌, ℕ, suc, ◌+◌, ◌*◌, ◌-◌, ◌<◌, ◌≤◌, List, [], ◌∷◌, ◌++◌, map, length, refl}
use Rattle.std.proofs.Common.{ap, sym}
use Rattle.std.proofs.Common.{subst, ◌∙◌, arith}
use mathlib.Core.Path.{fun_ext}
use Rattle.std.proofs.lemmas.Grind.{common_steps}
use Rattle.std.proofs.lemmas.List.{length-map}
use Rattle.std.proofs.lemmas.Slice.Eq.{bytes_eq-Decides}
use Rattle.std.specs.Prelude.{Bool, true, false, nat_le, Option, Some, None, codes, if◌then◌else◌, IfSome, MatchOption}
use Rattle.std.specs.Prelude.{slice_get}
use Rattle.std.specs.Option.{option_map}
use Rattle.std.specs.Str.{bytes_eq}
use Rattle.std.specs.FinMap.{get, empty, insert}
use Rattle.tx_tree.specs.WideTree.{WideTree, leaf, node, trees, children_of, label_of, total_size}
use Rattle.tx_tree.specs.WideTree.{deepest}
use Rattle.tx_tree.specs.Limits.{IsWithinLimits}
use Rattle.tx_env.specs.Environments.{NameMap, overlaid}
use Rattle.tx_env.specs.Pairs.{Name}
use Rattle.tx_origin.specs.Values.{WideValue, made, vals, plains}
use Rattle.tx_origin.specs.Under.{value_under, values_under}
use Rattle.tx_origin.proofs.Under.{vals_under, plains_moved}
use Rattle.tx_exec_form.specs.Runs.{Before}
use Rattle.tx_exec_form.specs.Evaluated.{WideTrace}
use Rattle.tx_exec_form.proofs.Tracing.{allowed, small}
use Rattle.tx_parts.specs.Openness.{Settings as TextSettings, Openness, Document, With, Shut, settings_in}
use Rattle.tx_parts.specs.Openness.{document_openness, with_openness, openness}
use Rattle.tx_parts.specs.Atop.{atop, env_atop, past}
use Rattle.tx_parts.specs.Composed.{alone, evaluates, set_by, settings_cost, setting_values, with_trace, composed_as}
use Rattle.tx_parts.specs.Shellers.{IsSheller}
use Rattle.tx_parts.specs.Parts.{parts_by}
use Rattle.tx_parts.proofs.Maps.{get_atop, atop_nothing, atop_set}
use Rattle.tx_parts.proofs.Composing.{inner_are}
use Rattle.tx_walk.specs.declared.part.Part.{Part as DonePart}
use Rattle.tx_walk.specs.declared.settings.Settings.{Settings}
use Rattle.tx_parts.specs.LayerCosts.{Holder, layer_costs_by}
use Rattle.tx_walk.specs.LayerTraces.{TreeTrace, AreKnownBy}
use Rattle.tx_walk.proofs.Known.{known_as}
use Rattle.tx_walk.specs.Guides.{Guide, charged}
use Rattle.tx_walk.proofs.Unshelled.{parts_are, costs_are, charged_are}
use Rattle.tx_walk.specs.Walked.{seen, seen_in}
use Rattle.tx_walk.specs.Steps.{trace_under, IsAdded}
use Rattle.tx_walk.specs.Descent.{pairs_of, AreSettings}
use Rattle.tx_walk.specs.Scopes.{with_at, FitsWith, IsScope}
use Rattle.tx_walk.proofs.Charging.{none_charged}
use Rattle.tx_walk.proofs.Going.{append_none, values_more}
use Rattle.tx_walk.proofs.Document.{few_children}
use Rattle.tx_walk.proofs.Texts.{settings_count, inner_at}

-- ---- the tree

opened_with : (o : Option (TextSettings × WideTree)) (ps : TextSettings) (b : WideTree) → with_openness o ≡ With ps b →
    o ≡ Some (ps, b)
opened_with None ps b h = let off : Shut ≡ With ps b = h in cc
opened_with (Some p) ps b h =
    let same : With p.0 p.1 ≡ With ps b = h in
    let first : p.0 ≡ ps = ap texts_of same in
    let second : p.1 ≡ b = ap (inner_of b) same in
    ap (λ qs. Some (qs, p.1)) first ∙ ap (λ u. Some (ps, u)) second
  where
    texts_of : Openness → TextSettings
    texts_of (Document ts) = []
    texts_of (With qs u) = qs
    texts_of Shut = []

    inner_of : WideTree → Openness → WideTree
    inner_of d (Document ts) = d
    inner_of d (With qs u) = u
    inner_of d Shut = d

document_none : (ts : List WideTree) (ps : TextSettings) (b : WideTree) → document_openness ts ≡ With ps b → ⊥
document_none [] ps b h = let off : Shut ≡ With ps b = h in cc
document_none (t ∷ ts) ps b h = let off : Document (t ∷ ts) ≡ With ps b = h in cc

-- label and children of a tree that opens so
pub record Named (t : WideTree) (ps : TextSettings) (b : WideTree) : Type 0 where
  pub label : label_of t ≡ Some (codes "with")
  pub texts : settings_in (children_of t) ≡ Some (ps, b)

pub named : (t : WideTree) (ps : TextSettings) (b : WideTree) → openness t ≡ With ps b → Named t ps b
named (leaf words) ps b h = let off : Shut ≡ With ps b = h in absurd cc
named (node l ts) ps b h = by (bytes_eq l (codes "document")) (bytes_eq l (codes "with")) refl refl h
  where
    by : (x y : Bool) → bytes_eq l (codes "document") ≡ x → bytes_eq l (codes "with") ≡ y →
        (if x then document_openness (trees ts) else if y then with_openness (settings_in (trees ts)) else Shut) ≡
        With ps b → Named (node l ts) ps b
    by true y p q g = absurd (document_none (trees ts) ps b g)
    by false true p q g =
        record {
          label = ap Some ((bytes_eq-Decides l (codes "with")).0 q);
          texts = opened_with (settings_in (trees ts)) ps b g;
        }
    by false false p q g = let off : Shut ≡ With ps b = g in absurd cc

-- ---- what names have inside

pub set_atop : (n m : NameMap) (ws : List (Name × WideTree)) → overlaid (atop n m) ws ≡ atop (overlaid n ws) m
set_atop n m [] = refl
set_atop n m (w ∷ ws) =
    ap (λ x. overlaid x ws) (sym (atop_set n m w.0 w.1)) ∙ set_atop (insert n w.0 w.1) m ws

pub set_inside : (m : NameMap) (ps : TextSettings) (pairs : List (Name × WideTree)) → pairs ≡ pairs_of ps →
    get (overlaid m pairs) ≡ env_atop (set_by ps) (get m)
set_inside m ps pairs h =
    ap (λ ws. get (overlaid m ws)) h
    ∙ ap (λ x. get (overlaid x (pairs_of ps))) (sym (atop_nothing m))
    ∙ ap get (set_atop empty m (pairs_of ps))
    ∙ fun_ext (λ q. get_atop (set_by ps) m q)

-- ---- the trace

count_values : (n : ℕ) (ps : TextSettings) → length (setting_values n ps) ≡ 2 * length ps
count_values n [] = refl
count_values n (p ∷ ps) = omega (arith, count_values (n + 2) ps)

module _ (base : List ℕ) (ps : TextSettings) (w : WideTrace) where
  abbrev inner_values : List WideValue
  inner_values = setting_values 0 ps ++ value_under ((2 * length ps) ∷ []) w.value ∷ []

  pub with_under : with_at base (set_by ps) (map (value_under base) (setting_values 0 ps)) (settings_cost ps)
      (trace_under (base ++ (2 * length ps) ∷ []) w) ≡ trace_under base (with_trace ps w)
  with_under =
      ap (λ vs. record {
        value = made (codes "with") (vals vs) (Some base);
        looks = past (set_by ps) w.looks;
        writes = past (set_by ps) w.writes;
        cost = 1 + settings_cost ps + w.cost;
        height = 1 + w.height;
      }) (values_more base (2 * length ps) (setting_values 0 ps) w.value)
      ∙ ap (λ vs. record {
        value = made (codes "with") vs (Some base);
        looks = past (set_by ps) w.looks;
        writes = past (set_by ps) w.writes;
        cost = 1 + settings_cost ps + w.cost;
        height = 1 + w.height;
      }) (sym (vals_under base inner_values))
      ∙ ap (λ p. record {
        value = made (codes "with") (values_under base (vals inner_values)) (Some p);
        looks = past (set_by ps) w.looks;
        writes = past (set_by ps) w.writes;
        cost = 1 + settings_cost ps + w.cost;
        height = 1 + w.height;
      }) (sym (append_none base))

  pub with_fits : (k c : ℕ) (t : WideTree) (e : Before) → evaluates k c t e ≡ Some (with_trace ps w) → k ≤ 400 →
      c ≤ 1000000 → 2 * length ps < 65535 →
      FitsWith (map (value_under base) (setting_values 0 ps)) (settings_cost ps)
      (trace_under (base ++ (2 * length ps) ∷ []) w)
  with_fits k c t e comes low few arity =
      let bounds : (1 + settings_cost ps + w.cost ≤ c) × (1 + w.height ≤ k) =
      allowed k c (alone t) e (with_trace ps w) comes in
      let sizes : (1 + total_size (plains (vals inner_values)) ≤ 1 + settings_cost ps + w.cost)
      × (1 + deepest (plains (vals inner_values)) ≤ 1 + w.height) = small k c (alone t) e (with_trace ps w) comes in
      let moved : plains (vals (map (value_under base) (setting_values 0 ps)
      ++ value_under (base ++ (2 * length ps) ∷ []) w.value ∷ [])) ≡ plains (vals inner_values) =
      ap (λ vs. plains (vals vs)) (values_more base (2 * length ps) (setting_values 0 ps) w.value)
      ∙ plains_moved base inner_values in
      let size : total_size (plains (vals (map (value_under base) (setting_values 0 ps)
      ++ value_under (base ++ (2 * length ps) ∷ []) w.value ∷ []))) ≡ total_size (plains (vals inner_values)) =
      ap total_size moved in
      let depth : deepest (plains (vals (map (value_under base) (setting_values 0 ps)
      ++ value_under (base ++ (2 * length ps) ∷ []) w.value ∷ []))) ≡ deepest (plains (vals inner_values)) =
      ap deepest moved in
      let many : length (map (value_under base) (setting_values 0 ps)) ≡ 2 * length ps =
      length-map (setting_values 0 ps) (value_under base) ∙ count_values 0 ps in
      record {
        arity = omega (arith, many, arity);
        size = omega (arith, size, sizes.0, bounds.0, few);
        depth = omega (arith, depth, sizes.1, bounds.1, low);
        cost = omega (arith, bounds.0, few);
        height = omega (arith, bounds.1, low);
      }

-- ---- the whole

module _ (k c : ℕ) (path : List ℕ) (t : WideTree) (ps : TextSettings) (b : WideTree) (e : Before)
    (opens : openness t ≡ With ps b) (some : 0 < k) where
  upper : suc (k - 1) ≡ k
  upper = omega (arith, some)

  whole_is : evaluates k c t e ≡ (if nat_le (1 + settings_cost ps) c then option_map (with_trace ps)
      (evaluates (k - 1) (c - (1 + settings_cost ps)) b (env_atop (set_by ps) e)) else None)
  whole_is =
      ap (λ n. evaluates n c t e) (sym upper) ∙ inner_are (k - 1) c t e
      ∙ ap (λ o. composed_as o (k - 1) (evaluates (k - 1)) c t e) opens

  pub with_is : settings_cost ps < c → evaluates k c t e ≡ option_map (with_trace ps)
      (evaluates (k - 1) (c - (1 + settings_cost ps)) b (env_atop (set_by ps) e))
  with_is left =
      let one : nat_le (1 + settings_cost ps) c ≡ true = grind (arith, common_steps, left) in
      whole_is ∙ ap (λ x. if x then option_map (with_trace ps)
      (evaluates (k - 1) (c - (1 + settings_cost ps)) b (env_atop (set_by ps) e)) else None) one

  pub with_over : c ≤ settings_cost ps → evaluates k c t e ≡ None
  with_over few =
      let none : nat_le (1 + settings_cost ps) c ≡ false = grind (arith, common_steps, few) in
      whole_is ∙ ap (λ x. if x then option_map (with_trace ps)
      (evaluates (k - 1) (c - (1 + settings_cost ps)) b (env_atop (set_by ps) e)) else None) none

  pub with_parts : (guide : Guide) → guide.sheller t e ≡ None → parts_by guide.sheller k c path t e ≡
      parts_by guide.sheller (k - 1) (c - (1 + settings_cost ps)) (path ++ (2 * length ps) ∷ []) b
      (env_atop (set_by ps) e)
  with_parts guide unshelled =
      ap (λ n. parts_by guide.sheller n c path t e) (sym upper)
      ∙ parts_are guide c path t e (With ps b) unshelled opens (k - 1)

  pub with_charged : (guide : Guide) → guide.sheller t e ≡ None → charged guide k c path t e ≡
      charged guide (k - 1) (c - (1 + settings_cost ps)) (path ++ (2 * length ps) ∷ []) b (env_atop (set_by ps) e)
  with_charged guide unshelled =
      ap (λ n. charged guide n c path t e) (sym upper)
      ∙ charged_are guide c path t e (With ps b) unshelled opens (k - 1)

  with_costs : (guide : Guide) → guide.sheller t e ≡ None → (held : Holder) →
      layer_costs_by held guide.sheller k c t e ≡
      layer_costs_by held guide.sheller (k - 1) (c - (1 + settings_cost ps)) b (env_atop (set_by ps) e)
  with_costs guide unshelled held =
      ap (λ n. layer_costs_by held guide.sheller n c t e) (sym upper)
      ∙ costs_are (record guide { holder = held }) c path t e (With ps b) unshelled opens (k - 1)

-- where no step is left for the last child nothing is charged
pub dear_charged : (guide : Guide) → IsSheller guide.sheller → (k c : ℕ) (path : List ℕ) (t : WideTree)
    (ps : TextSettings) (b : WideTree) (e : Before) → guide.sheller t e ≡ None → openness t ≡ With ps b → 0 < k →
    c ≤ settings_cost ps → charged guide k c path t e ≡ 0
dear_charged guide sound k c path t ps b e unshelled opens some dear =
    with_charged k c path t ps b e opens some guide unshelled
    ∙ none_charged guide sound (k - 1) (c - (1 + settings_cost ps)) (path ++ (2 * length ps) ∷ []) b
    (env_atop (set_by ps) e) (omega (arith, dear))

module _ (guide : Guide) (k c : ℕ) (path : List ℕ) (t : WideTree) (ps : TextSettings) (b : WideTree) (e e1 : Before)
    (opens : openness t ≡ With ps b) (some : 0 < k) (left : settings_cost ps < c) (s : Settings)
    (are : AreSettings path ps s) (rest i : ℕ) (is_e : e1 ≡ env_atop (set_by ps) e)
    (is_rest : rest ≡ c - (1 + settings_cost ps)) (is_i : i ≡ 2 * length ps) (o r : Option WideTrace)
    (unshelled : guide.sheller t e ≡ None) where
  abbrev below : ℕ → ℕ → Before → Option WideTrace
  below n j d = option_map (trace_under (path ++ j ∷ [])) (evaluates (k - 1) n b d)

  moved : below rest i e1 ≡ below (c - (1 + settings_cost ps)) (2 * length ps) (env_atop (set_by ps) e)
  moved =
      ap (λ n. below n i e1) is_rest ∙ ap (λ j. below (c - (1 + settings_cost ps)) j e1) is_i
      ∙ ap (below (c - (1 + settings_cost ps)) (2 * length ps)) is_e

  -- the trace, by the names and texts of the tree
  with_at_is : (w : WideTrace) → with_at path (overlaid empty s.pairs.items) s.values.items s.cost w ≡
      with_at path (set_by ps) (map (value_under path) (setting_values 0 ps)) (settings_cost ps) w
  with_at_is w =
      ap (λ ws. with_at path (overlaid empty ws) s.values.items s.cost w) are.pairs
      ∙ ap (λ vs. with_at path (set_by ps) vs s.cost w) are.values
      ∙ ap (λ n. with_at path (set_by ps) (map (value_under path) (setting_values 0 ps)) n w) are.cost

  by_exact : (x : Option WideTrace) → evaluates (k - 1) (c - (1 + settings_cost ps)) b (env_atop (set_by ps) e) ≡ x →
      option_map (with_at path (overlaid empty s.pairs.items) s.values.items s.cost)
      (option_map (trace_under (path ++ (2 * length ps) ∷ [])) x) ≡
      option_map (trace_under path) (option_map (with_trace ps) x)
  by_exact None q = refl
  by_exact (Some w) q =
      ap Some (with_at_is (trace_under (path ++ (2 * length ps) ∷ []) w) ∙ with_under path ps w)

  pub scope_exact : o ≡ below rest i e1 →
      r ≡ option_map (with_at path (overlaid empty s.pairs.items) s.values.items s.cost) o →
      r ≡ option_map (trace_under path) (evaluates k c t e)
  scope_exact h g =
      g ∙ ap (option_map (with_at path (overlaid empty s.pairs.items) s.values.items s.cost)) (h ∙ moved)
      ∙ by_exact (evaluates (k - 1) (c - (1 + settings_cost ps)) b (env_atop (set_by ps) e)) refl
      ∙ ap (option_map (trace_under path)) (sym (with_is k c path t ps b e opens some left))

  by_fits : (x u : Option WideTrace) →
      evaluates (k - 1) (c - (1 + settings_cost ps)) b (env_atop (set_by ps) e) ≡ x →
      u ≡ option_map (trace_under (path ++ (2 * length ps) ∷ [])) x → k ≤ 400 → c ≤ 1000000 → IsWithinLimits t →
      IfSome u (λ w. FitsWith s.values.items s.cost w)
  by_fits x None q h low few within = tt
  by_fits None (Some u) q h low few within = cc
  by_fits (Some w) (Some u) q h low few within =
      let same : trace_under (path ++ (2 * length ps) ∷ []) w ≡ u = sym cc in
      let count : length (children_of t) ≡ suc (2 * length ps) =
      settings_count (children_of t) ps b (named t ps b opens).texts in
      subst (λ v. FitsWith s.values.items s.cost v) same
      (subst (λ n. FitsWith s.values.items n (trace_under (path ++ (2 * length ps) ∷ []) w)) (sym are.cost)
      (subst (λ vs. FitsWith vs (settings_cost ps) (trace_under (path ++ (2 * length ps) ∷ []) w)) (sym are.values)
      (with_fits path ps w k c t e
      (with_is k c path t ps b e opens some left ∙ ap (option_map (with_trace ps)) q) low few
      (omega (arith, count, few_children t within)))))

  pub scope_fits : o ≡ below rest i e1 → k ≤ 400 → c ≤ 1000000 → IsWithinLimits t →
      IfSome o (λ w. FitsWith s.values.items s.cost w)
  scope_fits h low few within =
      by_fits (evaluates (k - 1) (c - (1 + settings_cost ps)) b (env_atop (set_by ps) e)) o refl (h ∙ moved)
      low few within

  parts_moved : parts_by guide.sheller (k - 1) rest (path ++ i ∷ []) b e1 ≡ parts_by guide.sheller k c path t e
  parts_moved =
      ap (λ n. parts_by guide.sheller (k - 1) n (path ++ i ∷ []) b e1) is_rest
      ∙ ap (λ j. parts_by guide.sheller (k - 1) (c - (1 + settings_cost ps)) (path ++ j ∷ []) b e1) is_i
      ∙ ap (parts_by guide.sheller (k - 1) (c - (1 + settings_cost ps)) (path ++ (2 * length ps) ∷ []) b) is_e
      ∙ sym (with_parts k c path t ps b e opens some guide unshelled)

  charged_moved : charged guide (k - 1) rest (path ++ i ∷ []) b e1 ≡ charged guide k c path t e
  charged_moved =
      ap (λ n. charged guide (k - 1) n (path ++ i ∷ []) b e1) is_rest
      ∙ ap (λ j. charged guide (k - 1) (c - (1 + settings_cost ps)) (path ++ j ∷ []) b e1) is_i
      ∙ ap (charged guide (k - 1) (c - (1 + settings_cost ps)) (path ++ (2 * length ps) ∷ []) b) is_e
      ∙ sym (with_charged k c path t ps b e opens some guide unshelled)

  pub scope_added : (old new : List DonePart) →
      r ≡ option_map (with_at path (overlaid empty s.pairs.items) s.values.items s.cost) o →
      IsAdded guide.stores (parts_by guide.sheller (k - 1) rest (path ++ i ∷ []) b e1) old new o →
      IsAdded guide.stores (parts_by guide.sheller k c path t e) old new r
  scope_added old new g h = by o r g h
    where
      by : (o r : Option WideTrace) →
          r ≡ option_map (with_at path (overlaid empty s.pairs.items) s.values.items s.cost) o →
          IsAdded guide.stores (parts_by guide.sheller (k - 1) rest (path ++ i ∷ []) b e1) old new o →
          IsAdded guide.stores (parts_by guide.sheller k c path t e) old new r
      by o None g h = tt
      by None (Some u) g h = cc
      by (Some w) (Some u) g h = h ∙ ap (λ qs. map seen old ++ map (seen_in guide.stores) qs) parts_moved

  pub scope_counted : (before after : ℕ) →
      after ≡ before + charged guide (k - 1) rest (path ++ i ∷ []) b e1 →
      after ≡ before + charged guide k c path t e
  scope_counted before after h = h ∙ ap (λ n. before + n) charged_moved

  costs_moved : (held : Holder) → layer_costs_by held guide.sheller k c t e ≡
      layer_costs_by held guide.sheller (k - 1) rest b e1
  costs_moved held =
      with_costs k c path t ps b e opens some guide unshelled held
      ∙ ap (layer_costs_by held guide.sheller (k - 1) (c - (1 + settings_cost ps)) b) (sym is_e)
      ∙ ap (λ n. layer_costs_by held guide.sheller (k - 1) n b e1) (sym is_rest)

  pub scope_known : (old new : List TreeTrace) →
      r ≡ option_map (with_at path (overlaid empty s.pairs.items) s.values.items s.cost) o →
      AreKnownBy guide.sheller (k - 1) rest b e1 old new o → AreKnownBy guide.sheller k c t e old new r
  scope_known old new g h =
      known_as (λ held. layer_costs_by held guide.sheller (k - 1) rest b e1)
      (λ held. layer_costs_by held guide.sheller k c t e)
      (with_at path (overlaid empty s.pairs.items) s.values.items s.cost) old new o r costs_moved g h

-- ---- as the walk goes

inner_same : (ts : List WideTree) (ps : TextSettings) (b u : WideTree) (i : ℕ) → settings_in ts ≡ Some (ps, b) →
    i ≡ 2 * length ps → slice_get ts i ≡ Some u → b ≡ u
inner_same ts ps b u i h e there =
    let both : Some b ≡ Some u = sym (inner_at ts ps b i h e) ∙ there in
    cc

-- the names and texts that were found are those of the `with`
pub scope_is : (t : WideTree) (base : List ℕ) (left : ℕ) (r : Option Settings) (s : Settings)
    (opens : (ps : TextSettings) × (b : WideTree) × (openness t ≡ With ps b)) →
    ((ps : TextSettings) (b : WideTree) → settings_in (children_of t) ≡ Some (ps, b) →
    MatchOption r (left < settings_cost ps) (λ x. AreSettings base ps x)) → r ≡ Some s → IsScope t base s
scope_is t base left r s opens f is =
    record {
      texts = opens.0;
      inner = opens.1;
      opens = opens.2;
      are = subst (λ o. MatchOption o (left < settings_cost opens.0) (λ x. AreSettings base opens.0 x)) is
          (f opens.0 opens.1 (named t opens.0 opens.1 opens.2).texts);
    }

pub scope_over : (k c : ℕ) (path : List ℕ) (t : WideTree) (e : Before) (r : Option Settings)
    (opens : (ps : TextSettings) × (b : WideTree) × (openness t ≡ With ps b)) → 0 < k →
    ((ps : TextSettings) (b : WideTree) → settings_in (children_of t) ≡ Some (ps, b) →
    MatchOption r (c < settings_cost ps) (λ x. AreSettings path ps x)) → r ≡ None → evaluates k c t e ≡ None
scope_over k c path t e r opens some f is =
    let dear : c < settings_cost opens.0 =
    subst (λ o. MatchOption o (c < settings_cost opens.0) (λ x. AreSettings path opens.0 x)) is
    (f opens.0 opens.1 (named t opens.0 opens.1 opens.2).texts) in
    with_over k c path t opens.0 opens.1 e opens.2 some (omega (arith, dear))

pub scope_charged : (guide : Guide) → IsSheller guide.sheller → (k c : ℕ) (path : List ℕ) (t : WideTree) (e : Before)
    (r : Option Settings) → guide.sheller t e ≡ None →
    (opens : (ps : TextSettings) × (b : WideTree) × (openness t ≡ With ps b)) → 0 < k →
    ((ps : TextSettings) (b : WideTree) → settings_in (children_of t) ≡ Some (ps, b) →
    MatchOption r (c < settings_cost ps) (λ x. AreSettings path ps x)) → r ≡ None →
    charged guide k c path t e ≡ 0
scope_charged guide sound k c path t e r unshelled opens some f is =
    let dear : c < settings_cost opens.0 =
    subst (λ o. MatchOption o (c < settings_cost opens.0) (λ x. AreSettings path opens.0 x)) is
    (f opens.0 opens.1 (named t opens.0 opens.1 opens.2).texts) in
    dear_charged guide sound k c path t opens.0 opens.1 e unshelled opens.2 some (omega (arith, dear))

module _ (k c : ℕ) (path : List ℕ) (t : WideTree) (s : Settings) (sc : IsScope t path s) (some : 0 < k) where
  pub too_dear : (e : Before) → c ≤ s.cost → evaluates k c t e ≡ None
  too_dear e h =
      let cost : s.cost ≡ settings_cost sc.texts = sc.are.cost in
      with_over k c path t sc.texts sc.inner e sc.opens some (omega (arith, h, cost))

  pub dear_with : (guide : Guide) → IsSheller guide.sheller → (e : Before) → guide.sheller t e ≡ None → c ≤ s.cost →
      charged guide k c path t e ≡ 0
  dear_with guide sound e unshelled h =
      let cost : s.cost ≡ settings_cost sc.texts = sc.are.cost in
      dear_charged guide sound k c path t sc.texts sc.inner e unshelled sc.opens some (omega (arith, h, cost))

  module _ (guide : Guide) (less : s.cost < c) (u : WideTree) (i n : ℕ) (is_n : n ≡ length (children_of t))
      (is_i : i ≡ n - 1) (there : slice_get (children_of t) i ≡ Some u) (rest : ℕ) (is_rest : rest ≡ c - 1 - s.cost)
      (m : NameMap) (pairs : List (Name × WideTree)) (is_pairs : pairs ≡ s.pairs.items) (o r : Option WideTrace)
      (unshelled : guide.sheller t (get m) ≡ None) where
    cost_is : s.cost ≡ settings_cost sc.texts
    cost_is = sc.are.cost

    texts_in : settings_in (children_of t) ≡ Some (sc.texts, sc.inner)
    texts_in = (named t sc.texts sc.inner sc.opens).texts

    last_is : i ≡ 2 * length sc.texts
    last_is = omega (arith, is_n, is_i, settings_count (children_of t) sc.texts sc.inner texts_in)

    opens_so : openness t ≡ With sc.texts u
    opens_so =
        sc.opens ∙ ap (λ v. With sc.texts v) (inner_same (children_of t) sc.texts sc.inner u i texts_in last_is there)

    left_so : settings_cost sc.texts < c
    left_so = omega (arith, less, cost_is)

    rest_so : rest ≡ c - (1 + settings_cost sc.texts)
    rest_so = omega (arith, is_rest, cost_is)

    inside_so : get (overlaid m pairs) ≡ env_atop (set_by sc.texts) (get m)
    inside_so = set_inside m sc.texts pairs (is_pairs ∙ sc.are.pairs)

    pub closed_exact :
        o ≡ option_map (trace_under (path ++ i ∷ [])) (evaluates (k - 1) rest u (get (overlaid m pairs))) →
        r ≡ option_map (with_at path (overlaid empty s.pairs.items) s.values.items s.cost) o →
        r ≡ option_map (trace_under path) (evaluates k c t (get m))
    closed_exact h g =
        scope_exact guide k c path t sc.texts u (get m) (get (overlaid m pairs)) opens_so some left_so s sc.are
        rest i inside_so rest_so last_is o r unshelled h g

    pub closed_fits :
        o ≡ option_map (trace_under (path ++ i ∷ [])) (evaluates (k - 1) rest u (get (overlaid m pairs))) →
        k ≤ 400 → c ≤ 1000000 → IsWithinLimits t → IfSome o (λ w. FitsWith s.values.items s.cost w)
    closed_fits h low few within =
        scope_fits guide k c path t sc.texts u (get m) (get (overlaid m pairs)) opens_so some left_so s sc.are
        rest i inside_so rest_so last_is o r unshelled h low few within

    pub closed_added : (old new : List DonePart) →
        r ≡ option_map (with_at path (overlaid empty s.pairs.items) s.values.items s.cost) o →
        IsAdded guide.stores (parts_by guide.sheller (k - 1) rest (path ++ i ∷ []) u (get (overlaid m pairs))) old new o
        →
        IsAdded guide.stores (parts_by guide.sheller k c path t (get m)) old new r
    closed_added old new g h =
        scope_added guide k c path t sc.texts u (get m) (get (overlaid m pairs)) opens_so some left_so s sc.are
        rest i inside_so rest_so last_is o r unshelled old new g h

    pub closed_counted : (before after : ℕ) →
        after ≡ before + charged guide (k - 1) rest (path ++ i ∷ []) u (get (overlaid m pairs)) →
        after ≡ before + charged guide k c path t (get m)
    closed_counted before after h =
        scope_counted guide k c path t sc.texts u (get m) (get (overlaid m pairs)) opens_so some left_so s sc.are
        rest i inside_so rest_so last_is o r unshelled before after h

    pub closed_known : (old new : List TreeTrace) →
        r ≡ option_map (with_at path (overlaid empty s.pairs.items) s.values.items s.cost) o →
        AreKnownBy guide.sheller (k - 1) rest u (get (overlaid m pairs)) old new o →
        AreKnownBy guide.sheller k c t (get m) old new r
    closed_known old new g h =
        scope_known guide k c path t sc.texts u (get m) (get (overlaid m pairs)) opens_so some left_so s sc.are
        rest i inside_so rest_so last_is o r unshelled old new g h
