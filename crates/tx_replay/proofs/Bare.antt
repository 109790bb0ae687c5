-- Values of trees without origins, as those of layers are.
use Rattle.std.proofs.Common.{◌≡◌, ℕ, ◌+◌, ◌-◌, List, [], ◌∷◌, ◌++◌, map, refl, ap, sym, subst, ◌∙◌}
use Rattle.std.proofs.lemmas.List.{map-append}
use Rattle.std.specs.Prelude.{Option, Some, None}
use Rattle.tx_tree.specs.WideTree.{WideTree, leaf}
use Rattle.tx_origin.specs.Values.{WideValue, WideValues, text, made, none, also}
use Rattle.tx_origin.specs.Under.{origin_under, value_under, values_under}
use Rattle.tx_exec_form.specs.Runs.{Before}
use Rattle.tx_exec_form.specs.Evaluated.{WideTrace}
use Rattle.tx_exec_form.specs.Laws.{LeadsTo, ComesFrom, AllComeFrom}
use Rattle.tx_exec_form.proofs.Tracing.{comes}
use Rattle.tx_parts.specs.Atop.{env_atop}
use Rattle.tx_parts.specs.Shells.{bare}
use Rattle.tx_parts.specs.Composed.{SoFar, with_child, children_from}
use Rattle.tx_parts.specs.Layered.{evaluates_bare}
use Rattle.tx_parts.proofs.Children.{FirstDone, first_done}

-- an origin below nothing is none
no_origin : (t : WideTree) (at : Option (List ℕ)) (P : WideTree → Type 0) → LeadsTo (bare t) at P → at ≡ None
no_origin t None P h = refl
no_origin t (Some p) P h = let off : None ≡ Some h.base = h.is_base in cc

mutual
  bare_under : (path : List ℕ) (t : WideTree) (v : WideValue) → ComesFrom (bare t) v → value_under path v ≡ v
  bare_under path t (text words at) h =
      let gone : at ≡ None = no_origin t at (λ u. u ≡ leaf words) h in
      ap (λ o. text words (origin_under path o)) gone ∙ ap (text words) (sym gone)
  bare_under path t (made label parts at) h =
      let gone : at ≡ None = no_origin t at (λ u. Unit {0}) h.0 in
      ap (λ ps. made label ps (origin_under path at)) (all_under path t parts h.1)
      ∙ ap (λ o. made label parts (origin_under path o)) gone ∙ ap (made label parts) (sym gone)

  all_under : (path : List ℕ) (t : WideTree) (vs : WideValues) → AllComeFrom (bare t) vs → values_under path vs ≡ vs
  all_under path t none h = refl
  all_under path t (also v vs) h =
      ap (λ u. also u (values_under path vs)) (bare_under path t v h.0) ∙ ap (also v) (all_under path t vs h.1)

pub traced_bare : (path : List ℕ) (k c : ℕ) (t : WideTree) (e : Before) (trace : WideTrace) →
    evaluates_bare k c t e ≡ Some trace → value_under path trace.value ≡ trace.value
traced_bare path k c t e trace h = bare_under path t trace.value (comes k c (bare t) e trace h)

-- all values of trees in order
pub values_bare : (path : List ℕ) (k c i : ℕ) (a : SoFar) (ts : List WideTree) (e : Before) (b : SoFar) →
    map (value_under path) a.values ≡ a.values → children_from (evaluates_bare k) c i a ts e ≡ Some b →
    map (value_under path) b.values ≡ b.values
values_bare path k c i a [] e b h g =
    let same : a ≡ b = cc in
    subst (λ (x : SoFar). map (value_under path) x.values ≡ x.values) same h
values_bare path k c i a (t ∷ ts) e b h g =
    by (first_done (evaluates_bare k) c i a t ts e b g) (λ a' p q. values_bare path k c (i + 1) a' ts e b p q)
  where
    by : FirstDone (evaluates_bare k) c i a t ts e b → ((a' : SoFar) → map (value_under path) a'.values ≡ a'.values →
        children_from (evaluates_bare k) c (i + 1) a' ts e ≡ Some b → map (value_under path) b.values ≡ b.values) →
        map (value_under path) b.values ≡ b.values
    by f go =
        let one : value_under (i ∷ []) f.trace.value ≡ f.trace.value =
        traced_bare (i ∷ []) k (c - a.cost) t (env_atop a.writes e) f.trace f.first in
        let two : value_under path f.trace.value ≡ f.trace.value =
        traced_bare path k (c - a.cost) t (env_atop a.writes e) f.trace f.first in
        go (with_child i a f.trace)
        (map-append (value_under path) a.values (value_under (i ∷ []) f.trace.value ∷ [])
        ∙ ap (λ vs. vs ++ value_under path (value_under (i ∷ []) f.trace.value) ∷ []) h
        ∙ ap (λ v. a.values ++ v ∷ []) (ap (value_under path) one ∙ two ∙ sym one))
        f.others
