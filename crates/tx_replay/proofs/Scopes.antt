-- Labels and children of trees that are gone into, and sizes of their values.
use Rattle.std.proofs.Common.{◌≡◌, ℕ, ◌+◌, ◌*◌, ◌≤◌, max, List, [], ◌∷◌, ◌++◌, length, refl, ap}
use Rattle.std.proofs.Common.{◌∙◌, arith}
use Rattle.std.proofs.lemmas.List.{length-map}
use Rattle.std.proofs.lemmas.Slice.Eq.{bytes_eq-Decides}
use Rattle.std.specs.Prelude.{Bool, true, false, Option, Some, None, codes, if◌then◌else◌}
use Rattle.std.specs.Str.{bytes_eq}
use Rattle.tx_tree.specs.WideTree.{WideTree, leaf, node, trees, children_of, label_of, size_of, depth_of, total_size}
use Rattle.tx_tree.specs.WideTree.{deepest}
use Rattle.tx_tree.specs.Limits.{IsWithinLimits}
use Rattle.tx_tree.proofs.Children.{arity_le}
use Rattle.tx_origin.specs.Values.{WideValue, plain, plains, vals}
use Rattle.tx_origin.specs.Under.{value_under}
use Rattle.tx_origin.proofs.Under.{plains_moved}
use Rattle.tx_parts.specs.Openness.{Settings, Openness, Document, With, Shut, settings_in}
use Rattle.tx_parts.specs.Openness.{document_openness, with_openness, openness}
use Rattle.tx_parts.specs.Composed.{settings_cost, setting_values}
use Rattle.tx_replay.specs.Walks.{settings_under}

-- ---- a `with`

opened_with : (o : Option (Settings × WideTree)) (ps : Settings) (b : WideTree) → with_openness o ≡ With ps b →
    o ≡ Some (ps, b)
opened_with None ps b h = let off : Shut ≡ With ps b = h in cc
opened_with (Some p) ps b h =
    let same : With p.0 p.1 ≡ With ps b = h in
    let first : p.0 ≡ ps = ap texts_of same in
    let second : p.1 ≡ b = ap (inner_of b) same in
    ap (λ qs. Some (qs, p.1)) first ∙ ap (λ u. Some (ps, u)) second
  where
    texts_of : Openness → Settings
    texts_of (Document ts) = []
    texts_of (With qs u) = qs
    texts_of Shut = []

    inner_of : WideTree → Openness → WideTree
    inner_of d (Document ts) = d
    inner_of d (With qs u) = u
    inner_of d Shut = d

document_none : (ts : List WideTree) (ps : Settings) (b : WideTree) → document_openness ts ≡ With ps b → ⊥
document_none [] ps b h = let off : Shut ≡ With ps b = h in cc
document_none (t ∷ ts) ps b h = let off : Document (t ∷ ts) ≡ With ps b = h in cc

-- label and children of a tree that opens so
pub record Named (t : WideTree) (ps : Settings) (b : WideTree) : Type 0 where
  pub label : label_of t ≡ Some (codes "with")
  pub texts : settings_in (children_of t) ≡ Some (ps, b)

pub named : (t : WideTree) (ps : Settings) (b : WideTree) → openness t ≡ With ps b → Named t ps b
named (leaf words) ps b h = let off : Shut ≡ With ps b = h in absurd cc
named (node l ts) ps b h = by (bytes_eq l (codes "document")) (bytes_eq l (codes "with")) refl refl h
  where
    by : (x y : Bool) → bytes_eq l (codes "document") ≡ x → bytes_eq l (codes "with") ≡ y →
        (if x then document_openness (trees ts) else if y then with_openness (settings_in (trees ts)) else Shut) ≡
        With ps b → Named (node l ts) ps b
    by true y p q g = absurd (document_none (trees ts) ps b g)
    by false true p q g =
        record {
          label = ap Some ((bytes_eq-Decides l (codes "with")).0 q);
          texts = opened_with (settings_in (trees ts)) ps b g;
        }
    by false false p q g = let off : Shut ≡ With ps b = g in absurd cc

-- ---- a `document`

label_by : (l : List ℕ) (ts : List WideTree) (o : Openness) (a b : Bool) → bytes_eq l (codes "document") ≡ a →
    (if a then document_openness ts else if b then o else Shut) ≡ Document ts →
    ((q : b ≡ true) → o ≡ Document ts → ⊥) → l ≡ codes "document"
label_by l ts o true b p h off = (bytes_eq-Decides l (codes "document")).0 p
label_by l ts o false true p h off = absurd (off refl h)
label_by l ts o false false p h off = let no_such : Shut ≡ Document ts = h in cc

with_none : (o : Option (Settings × WideTree)) (ts : List WideTree) → with_openness o ≡ Document ts → ⊥
with_none None ts h = let off : Shut ≡ Document ts = h in cc
with_none (Some p) ts h = let off : With p.0 p.1 ≡ Document ts = h in cc

pub document_label : (t : WideTree) → openness t ≡ Document (children_of t) → label_of t ≡ Some (codes "document")
document_label (leaf words) h = let off : Shut ≡ Document [] = h in absurd cc
document_label (node l ts) h =
    ap Some (label_by l (trees ts) (with_openness (settings_in (trees ts))) (bytes_eq l (codes "document"))
    (bytes_eq l (codes "with")) refl h (λ _ g. with_none (settings_in (trees ts)) (trees ts) g))

pub few_children : (t : WideTree) → IsWithinLimits t → length (children_of t) ≤ 65535
few_children (leaf words) w = omega arith
few_children (node label ts) w = omega (arith, arity_le label ts, w.arity)

-- ---- sizes

pub count_values : (n : ℕ) (ps : Settings) → length (setting_values n ps) ≡ 2 * length ps
count_values n [] = refl
count_values n (p ∷ ps) = omega (arith, count_values (n + 2) ps)

pub count_under : (path : List ℕ) (ps : Settings) → length (settings_under path ps) ≡ 2 * length ps
count_under path ps = length-map (setting_values 0 ps) (value_under path) ∙ count_values 0 ps

pub total_more : (vs : List WideValue) (u : WideValue) →
    total_size (plains (vals (vs ++ u ∷ []))) ≡ total_size (plains (vals vs)) + size_of (plain u)
total_more [] u = omega arith
total_more (v ∷ vs) u =
    let rest : total_size (plains (vals (vs ++ u ∷ []))) ≡ total_size (plains (vals vs)) + size_of (plain u) =
    total_more vs u in
    omega (arith, rest)

pub deep_more : (vs : List WideValue) (u : WideValue) →
    deepest (plains (vals (vs ++ u ∷ []))) ≡ max (deepest (plains (vals vs))) (depth_of (plain u))
deep_more [] u = omega arith
deep_more (v ∷ vs) u =
    let rest : deepest (plains (vals (vs ++ u ∷ []))) ≡ max (deepest (plains (vals vs))) (depth_of (plain u)) =
    deep_more vs u in
    omega (arith, rest)

-- texts are no larger than what they cost, and not deep
texts_small : (n : ℕ) (ps : Settings) → (total_size (plains (vals (setting_values n ps))) ≤ settings_cost ps)
    × (deepest (plains (vals (setting_values n ps))) ≤ 1)
texts_small n [] = (omega arith, omega arith)
texts_small n (p ∷ ps) =
    let rest : (total_size (plains (vals (setting_values (n + 2) ps))) ≤ settings_cost ps)
    × (deepest (plains (vals (setting_values (n + 2) ps))) ≤ 1) = texts_small (n + 2) ps in
    (omega (arith, rest.0), omega (arith, rest.1))

pub under_small : (path : List ℕ) (ps : Settings) →
    (total_size (plains (vals (settings_under path ps))) ≤ settings_cost ps)
    × (deepest (plains (vals (settings_under path ps))) ≤ 1)
under_small path ps =
    let moved : plains (vals (settings_under path ps)) ≡ plains (vals (setting_values 0 ps)) =
    plains_moved path (setting_values 0 ps) in
    let size : total_size (plains (vals (settings_under path ps))) ≡
    total_size (plains (vals (setting_values 0 ps))) = ap total_size moved in
    let depth : deepest (plains (vals (settings_under path ps))) ≡
    deepest (plains (vals (setting_values 0 ps))) = ap deepest moved in
    (omega (arith, size, (texts_small 0 ps).0), omega (arith, depth, (texts_small 0 ps).1))
