-- Maps that are made pair by pair.
use Rattle.std.proofs.Common.{◌≡◌, List, [], ◌∷◌, ◌++◌, ap, refl, sym, ◌∙◌}
use mathlib.Core.Path.{fun_ext}
use Rattle.std.proofs.lemmas.Slice.Eq.{bytes_eq-Decides}
use Rattle.std.specs.Prelude.{Bool, true, false, cond, Option, Some, None}
use Rattle.std.specs.Option.{option_or}
use Rattle.std.specs.List.{AllByRecursion, IsDistinct}
use Rattle.std.specs.Map.{keys_of}
use Rattle.std.specs.Ordering.{nat_cmp}
use Rattle.std.specs.Cmp.Lexicographic.{slice_cmp, nat_list_cmp_total}
use Rattle.std.specs.FinMap.{get, insert, find, from_entries, get-insert, get-from_entries}
use Rattle.std.specs.Str.{bytes_eq}
use Rattle.tx_tree.specs.WideTree.{WideTree}
use Rattle.tx_env.specs.Pairs.{Name}
use Rattle.tx_env.specs.Environments.{NameMap, overlaid}
use Rattle.tx_exec_form.specs.Maps.{noted}
use Rattle.tx_exec_form.proofs.Agreeing.{tied, same_name, same}
use Rattle.tx_parts.specs.Atop.{env_atop}
use Rattle.tx_parts.proofs.Maps.{find_both, get_noted}

-- one look more
pub look_more : (looks : List (Name × Option WideTree)) (x : Name) (t : Option WideTree) →
    from_entries {R = slice_cmp nat_cmp} (looks ++ (x, t) ∷ []) ≡ noted (from_entries looks) x t
look_more looks x t = same (from_entries (looks ++ (x, t) ∷ [])) (noted (from_entries looks) x t) (λ q.
    get-from_entries nat_list_cmp_total (looks ++ (x, t) ∷ []) q ∙ find_both looks ((x, t) ∷ []) q
    ∙ ap (λ o. option_or o (cond (tied q x) (Some t) None)) (sym (get-from_entries nat_list_cmp_total looks q))
    ∙ sym (get_noted (from_entries looks) x t q))

untied : (x y : Name) (b : Bool) → tied x y ≡ b → bytes_eq x y ≡ false → b ≡ false
untied x y true h off = let alike : bytes_eq x y ≡ true = (bytes_eq-Decides x y).1 (same_name x y h) in cc
untied x y false h off = refl

not_among : (x : Name) (ws : List (Name × WideTree)) → AllByRecursion (λ y. bytes_eq x y ≡ false) (keys_of ws) →
    find (slice_cmp nat_cmp) x ws ≡ None
not_among x [] h = refl
not_among x (w ∷ ws) h =
    ap (λ b. cond b (Some w.1) (find (slice_cmp nat_cmp) x ws)) (untied x w.0 (tied x w.0) refl h.0)
    ∙ not_among x ws h.1

set_first : (q x : Name) (t : WideTree) (f : Name → Option WideTree) (o : Option WideTree) (b : Bool) →
    tied q x ≡ b → f x ≡ None → option_or (f q) (cond b (Some t) o) ≡ option_or (cond b (Some t) (f q)) o
set_first q x t f o true h off = ap (λ u. option_or u (Some t)) (ap f (same_name q x h) ∙ off)
set_first q x t f o false h off = refl

set_is : (m : NameMap) (ws : List (Name × WideTree)) (q : Name) → IsDistinct bytes_eq (keys_of ws) →
    get (overlaid m ws) q ≡ option_or (find (slice_cmp nat_cmp) q ws) (get m q)
unfolding IsDistinct
set_is m [] q h = refl
set_is m (w ∷ ws) q h =
    set_is (insert m w.0 w.1) ws q h.1
    ∙ ap (option_or (find (slice_cmp nat_cmp) q ws)) (get-insert nat_list_cmp_total m w.0 w.1 q)
    ∙ set_first q w.0 w.1 (λ x. find (slice_cmp nat_cmp) x ws) (get m q) (tied q w.0) refl (not_among w.0 ws h.0)

-- pairs that are set in an environment override it
pub overlaid_is : (m : NameMap) (ws : List (Name × WideTree)) → IsDistinct bytes_eq (keys_of ws) →
    get (overlaid m ws) ≡ env_atop (from_entries ws) (get m)
overlaid_is m ws h = fun_ext (λ q.
    set_is m ws q h ∙ ap (λ o. option_or o (get m q)) (sym (get-from_entries nat_list_cmp_total ws q)))
