-- A `document` by its children.
use Rattle.std.proofs.Common.{◌≡◌, ℕ, suc, ◌+◌, ◌-◌, ◌<◌, ◌≤◌, List, [], ◌++◌, map, length, refl, ap, sym}
use Rattle.std.proofs.Common.{subst, ◌∙◌, arith}
use Rattle.std.proofs.lemmas.Grind.{common_steps}
use Rattle.std.proofs.lemmas.List.{length-map}
use Rattle.std.proofs.lemmas.Slice.Eq.{bytes_eq-Decides}
use Rattle.std.specs.Prelude.{Bool, true, false, nat_le, Option, Some, None, codes, if◌then◌else◌}
use Rattle.std.specs.Option.{option_map}
use Rattle.std.specs.Str.{bytes_eq}
use Rattle.tx_tree.specs.WideTree.{WideTree, leaf, node, trees, children_of, label_of, total_size}
use Rattle.tx_tree.specs.WideTree.{deepest}
use Rattle.tx_tree.specs.Limits.{IsWithinLimits}
use Rattle.tx_tree.proofs.Children.{arity_le}
use Rattle.tx_origin.specs.Values.{made, vals, plains}
use Rattle.tx_origin.specs.Under.{value_under}
use Rattle.tx_origin.proofs.Under.{vals_under, plains_moved}
use Rattle.tx_exec_form.specs.Runs.{Before}
use Rattle.tx_exec_form.proofs.Tracing.{allowed, small}
use Rattle.tx_parts.specs.Openness.{Openness, Document, With, Shut, settings_in, document_openness, with_openness}
use Rattle.tx_parts.specs.Openness.{openness}
use Rattle.tx_parts.specs.Atop.{env_atop}
use Rattle.tx_parts.specs.Composed.{alone, evaluates, SoFar, nothing_yet, children_from, document_trace, composed_as}
use Rattle.tx_parts.specs.Parts.{parts_from, parts_by}
use Rattle.tx_parts.proofs.Composing.{inner_are}
use Rattle.tx_walk.specs.declared.part.Part.{Part as DonePart}
use Rattle.tx_parts.specs.LayerCosts.{Holder, counts_from, layer_costs_by}
use Rattle.tx_walk.specs.LayerTraces.{TreeTrace, AreKnownBy}
use Rattle.tx_walk.specs.Guides.{Guide, charged, charged_from}
use Rattle.tx_walk.proofs.Unshelled.{parts_are, costs_are, charged_are}
use Rattle.tx_walk.specs.Walked.{seen, seen_in}
use Rattle.tx_walk.specs.Steps.{trace_under, IsBehind, IsAdded, below, document_at, FitsNode, Stage, ChildrenDone}
use Rattle.tx_walk.specs.Steps.{ChildrenCome}
use Rattle.tx_walk.proofs.Going.{append_none}

-- the label of a tree that opens so
label_by : (l : List ℕ) (ts : List WideTree) (o : Openness) (a b : Bool) → bytes_eq l (codes "document") ≡ a →
    (if a then document_openness ts else if b then o else Shut) ≡ Document ts →
    ((q : b ≡ true) → o ≡ Document ts → ⊥) → l ≡ codes "document"
label_by l ts o true b p h off = (bytes_eq-Decides l (codes "document")).0 p
label_by l ts o false true p h off = absurd (off refl h)
label_by l ts o false false p h off = let no_such : Shut ≡ Document ts = h in cc

with_none : (o : Option (List (List ℕ × List ℕ) × WideTree)) (ts : List WideTree) → with_openness o ≡ Document ts → ⊥
with_none None ts h = let off : Shut ≡ Document ts = h in cc
with_none (Some p) ts h = let off : With p.0 p.1 ≡ Document ts = h in cc

pub document_label : (t : WideTree) → openness t ≡ Document (children_of t) → label_of t ≡ Some (codes "document")
document_label (leaf words) h = let off : Shut ≡ Document [] = h in absurd cc
document_label (node l ts) h =
    ap Some (label_by l (trees ts) (with_openness (settings_in (trees ts))) (bytes_eq l (codes "document"))
    (bytes_eq l (codes "with")) refl h (λ _ g. with_none (settings_in (trees ts)) (trees ts) g))

pub few_children : (t : WideTree) → IsWithinLimits t → length (children_of t) ≤ 65535
few_children (leaf words) w = omega arith
few_children (node label ts) w = omega (arith, arity_le label ts, w.arity)

below_trace : (base : List ℕ) (a : SoFar) → trace_under base (document_trace a) ≡ document_at base (below base a)
below_trace base a =
    ap (λ vs. record {
      value = made (codes "document") vs (Some (base ++ []));
      looks = a.looks;
      writes = a.writes;
      cost = 1 + a.cost;
      height = 1 + a.height;
    }) (vals_under base a.values)
    ∙ ap (λ p. record {
      value = made (codes "document") (vals (map (value_under base) a.values)) (Some p);
      looks = a.looks;
      writes = a.writes;
      cost = 1 + a.cost;
      height = 1 + a.height;
    }) (append_none base)

module _ (k c : ℕ) (path : List ℕ) (t : WideTree) (e : Before) (opens : openness t ≡ Document (children_of t))
    (some : 0 < k) where
  upper : suc (k - 1) ≡ k
  upper = omega (arith, some)

  whole_is : evaluates k c t e ≡
      (if nat_le 1 c then option_map document_trace (children_from (evaluates (k - 1)) (c - 1) 0 nothing_yet
      (children_of t) e) else None)
  whole_is =
      ap (λ n. evaluates n c t e) (sym upper) ∙ inner_are (k - 1) c t e
      ∙ ap (λ o. composed_as o (k - 1) (evaluates (k - 1)) c t e) opens

  pub document_is : 0 < c → evaluates k c t e ≡ option_map document_trace
      (children_from (evaluates (k - 1)) (c - 1) 0 nothing_yet (children_of t) e)
  document_is left =
      let one : nat_le 1 c ≡ true = grind (arith, common_steps, left) in
      whole_is ∙ ap (λ b. if b then option_map document_trace (children_from (evaluates (k - 1)) (c - 1) 0 nothing_yet
      (children_of t) e) else None) one

  pub document_over : c ≡ 0 → evaluates k c t e ≡ None
  document_over none =
      let few : nat_le 1 c ≡ false = grind (arith, common_steps, none) in
      whole_is ∙ ap (λ b. if b then option_map document_trace (children_from (evaluates (k - 1)) (c - 1) 0 nothing_yet
      (children_of t) e) else None) few

  pub document_parts : (guide : Guide) → guide.sheller t e ≡ None → parts_by guide.sheller k c path t e ≡
      parts_from (k - 1) (parts_by guide.sheller (k - 1)) (c - 1) path 0 nothing_yet (children_of t) e
  document_parts guide unshelled =
      ap (λ n. parts_by guide.sheller n c path t e) (sym upper)
      ∙ parts_are guide c path t e (Document (children_of t)) unshelled opens (k - 1)

  pub document_charged : (guide : Guide) → guide.sheller t e ≡ None → charged guide k c path t e ≡
      charged_from guide (k - 1) (c - 1) path 0 nothing_yet (children_of t) e
  document_charged guide unshelled =
      ap (λ n. charged guide n c path t e) (sym upper)
      ∙ charged_are guide c path t e (Document (children_of t)) unshelled opens (k - 1)

  document_costs : (guide : Guide) → guide.sheller t e ≡ None → (held : Holder) →
      layer_costs_by held guide.sheller k c t e ≡ counts_from (k - 1) (layer_costs_by held guide.sheller (k - 1))
      (c - 1) 0 nothing_yet (children_of t) e
  document_costs guide unshelled held =
      ap (λ n. layer_costs_by held guide.sheller n c t e) (sym upper)
      ∙ costs_are (record guide { holder = held }) c path t e (Document (children_of t)) unshelled opens (k - 1)

module _ (guide : Guide) (k c : ℕ) (path : List ℕ) (t : WideTree) (opens : openness t ≡ Document (children_of t))
    (some : 0 < k) (left : 0 < c) (a b : SoFar) (names names1 : Before) (old new : List DonePart) (before after : ℕ)
    (kept kept1 : List TreeTrace) (unshelled : guide.sheller t names ≡ None) where
  abbrev first : Stage
  first = record { joined = a; names = names; done = map seen old; count = before; layers = kept }

  abbrev last : Stage
  last = record { joined = b; names = names1; done = map seen new; count = after; layers = kept1 }

  module _ (d : ChildrenDone guide (k - 1) (c - 1) path (children_of t) first last) where
    done_is : evaluates k c t names ≡ Some (document_trace d.so_far)
    done_is = document_is k c path t names opens some left ∙ ap (option_map document_trace) d.comes

    pub done_exact : Some (document_at path b) ≡ option_map (trace_under path) (evaluates k c t names)
    done_exact =
        ap (λ (x : SoFar). Some (document_at path x)) d.joined ∙ ap Some (sym (below_trace path d.so_far))
        ∙ ap (option_map (trace_under path)) (sym done_is)

    pub done_fits : k ≤ 400 → c ≤ 1000000 → IsWithinLimits t → FitsNode b
    done_fits low few within =
        let bounds : (1 + d.so_far.cost ≤ c) × (1 + d.so_far.height ≤ k) =
        allowed k c (alone t) names (document_trace d.so_far) done_is in
        let sizes : (1 + total_size (plains (vals d.so_far.values)) ≤ 1 + d.so_far.cost)
        × (1 + deepest (plains (vals d.so_far.values)) ≤ 1 + d.so_far.height) =
        small k c (alone t) names (document_trace d.so_far) done_is in
        let moved : plains (vals (map (value_under path) d.so_far.values)) ≡ plains (vals d.so_far.values) =
        plains_moved path d.so_far.values in
        let size : total_size (plains (vals (map (value_under path) d.so_far.values))) ≡
        total_size (plains (vals d.so_far.values)) = ap total_size moved in
        let depth : deepest (plains (vals (map (value_under path) d.so_far.values))) ≡
        deepest (plains (vals d.so_far.values)) = ap deepest moved in
        let arity : length (map (value_under path) d.so_far.values) ≡ length d.so_far.values =
        length-map d.so_far.values (value_under path) in
        let many : length d.so_far.values ≡ length (children_of t) = d.many in
        subst FitsNode (sym d.joined) (record {
          arity = omega (arith, arity, many, few_children t within);
          size = omega (arith, size, sizes.0, bounds.0, few);
          depth = omega (arith, depth, sizes.1, bounds.1, low);
          cost = omega (arith, bounds.0, few);
          height = omega (arith, bounds.1, low);
        })

  pub comes_exact : (went : Bool) → ChildrenCome guide (k - 1) (c - 1) path (children_of t) first last went →
      (if went then Some (document_at path b) else None) ≡ option_map (trace_under path) (evaluates k c t names)
  comes_exact true d = done_exact d
  comes_exact false d =
      sym (ap (option_map (trace_under path)) (document_is k c path t names opens some left
      ∙ ap (option_map document_trace) d.comes))

  pub comes_fits : (went : Bool) → ChildrenCome guide (k - 1) (c - 1) path (children_of t) first last went →
      k ≤ 400 → c ≤ 1000000 → IsWithinLimits t → went ≡ true → FitsNode b
  comes_fits true d low few within h = done_fits d low few within
  comes_fits false d low few within h = cc

  pub comes_behind : (went : Bool) → ChildrenCome guide (k - 1) (c - 1) path (children_of t) first last went →
      IsBehind names names1 (if went then Some (document_at path b) else None)
  comes_behind true d =
      d.names ∙ ap (λ m. env_atop m names) (sym (ap (λ (x : SoFar). x.writes) d.joined))
  comes_behind false d = tt

  pub comes_added : (went : Bool) → ChildrenCome guide (k - 1) (c - 1) path (children_of t) first last went →
      IsAdded guide.stores (parts_by guide.sheller k c path t names) old new
      (if went then Some (document_at path b) else None)
  comes_added true d =
      d.done ∙ ap (λ ps. map seen old ++ map (seen_in guide.stores) ps)
      (sym (document_parts k c path t names opens some guide unshelled))
  comes_added false d = tt

  pub comes_counted : (went : Bool) → ChildrenCome guide (k - 1) (c - 1) path (children_of t) first last went →
      after ≡ before + charged guide k c path t names
  comes_counted true d =
      d.count ∙ ap (λ n. before + n) (sym (document_charged k c path t names opens some guide unshelled))
  comes_counted false d =
      d.count ∙ ap (λ n. before + n) (sym (document_charged k c path t names opens some guide unshelled))

  pub comes_known : (went : Bool) → ChildrenCome guide (k - 1) (c - 1) path (children_of t) first last went →
      AreKnownBy guide.sheller k c t names kept kept1 (if went then Some (document_at path b) else None)
  comes_known true d =
      record {
        more = d.known.more;
        nothing = λ held h. document_costs k c path t names opens some guide unshelled held ∙ d.known.nothing held h;
      }
  comes_known false d = tt
