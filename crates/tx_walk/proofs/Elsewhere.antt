-- Entries at other names than those that are set.
use Rattle.std.proofs.Common.{◌≡◌, ℕ, ◌+◌, ◌<◌, List, [], ◌∷◌, ◌++◌, length, take, get_or, refl, ap, sym}
use Rattle.std.proofs.Common.{subst, ◌∙◌}
use Rattle.std.proofs.lemmas.List.{take_more}
use Rattle.std.proofs.lemmas.Slice.Eq.{bytes_eq-Decides}
use Rattle.std.specs.Prelude.{Bool, true, false, not, cond, ◌||◌, Option, Some, None, is_some, if◌then◌else◌}
use Rattle.std.specs.List.{IsDistinct, AllByRecursion}
use Rattle.std.specs.Map.{keys_of}
use Rattle.std.specs.Str.{bytes_eq}
use Rattle.std.specs.Ordering.{nat_cmp}
use Rattle.std.specs.Cmp.Lexicographic.{slice_cmp, nat_list_cmp_total}
use Rattle.std.specs.FinMap.{get, empty, insert, find, from_entries, get-empty, get-insert, get-from_entries}
use Rattle.tx_tree.specs.WideTree.{WideTree}
use Rattle.tx_env.specs.Pairs.{Name}
use Rattle.tx_env.specs.Environments.{NameMap, overlaid}
use Rattle.tx_exec_form.proofs.Agreeing.{tied, tied_self, same_name, same}
use Rattle.tx_parts.specs.Atop.{past}
use Rattle.tx_parts.proofs.Maps.{get_past}
use Rattle.tx_walk.specs.Outside.{is_among, outside}

-- ---- which names are set

or_true : (b : Bool) → b || true ≡ true
or_true true = refl
or_true false = refl

or_all : (a b c : Bool) → (a || b) || c ≡ a || (b || c)
or_all true b c = refl
or_all false b c = refl

-- a test of names by order and one of bytes
tied_is : (q x : Name) → tied q x ≡ bytes_eq x q
tied_is q x = by (tied q x) (bytes_eq x q) refl refl
  where
    by : (a b : Bool) → tied q x ≡ a → bytes_eq x q ≡ b → a ≡ b
    by true true h g = refl
    by false false h g = refl
    by true false h g =
        let alike : bytes_eq x q ≡ true = (bytes_eq-Decides x q).1 (sym (same_name q x h)) in
        let off : true ≡ false = sym alike ∙ g in
        cc
    by false true h g =
        let alike : x ≡ q = (bytes_eq-Decides x q).0 g in
        let off : false ≡ true = sym h ∙ ap (tied q) alike ∙ tied_self q in
        cc

set_or : (b : Bool) (t : WideTree) (o : Option WideTree) → is_some (cond b (Some t) o) ≡ is_some o || b
set_or true t o = sym (or_true (is_some o))
set_or false t None = refl
set_or false t (Some u) = refl

is_set : (m : NameMap) (ps : List (Name × WideTree)) (q : Name) →
    is_some (get (overlaid m ps) q) ≡ is_some (get m q) || is_among ps q
is_set m [] q = by (is_some (get m q))
  where
    by : (b : Bool) → b ≡ b || false
    by true = refl
    by false = refl
is_set m (p ∷ ps) q =
    is_set (insert m p.0 p.1) ps q
    ∙ ap (λ o. is_some o || is_among ps q) (get-insert nat_list_cmp_total m p.0 p.1 q)
    ∙ ap (λ b. b || is_among ps q) (set_or (tied q p.0) p.1 (get m q))
    ∙ or_all (is_some (get m q)) (tied q p.0) (is_among ps q)
    ∙ ap (λ b. is_some (get m q) || (b || is_among ps q)) (tied_is q p.0)

set_is : (ps : List (Name × WideTree)) (q : Name) → is_some (get (overlaid empty ps) q) ≡ is_among ps q
set_is ps q =
    is_set empty ps q
    ∙ ap (λ o. is_some o || is_among ps q) (get-empty (slice_cmp nat_cmp) q)

-- ---- what is found elsewhere

module _ {X : Type 0} (ps : List (Name × WideTree)) where
  found : (q : Name) (ws : List (Name × X)) → find (slice_cmp nat_cmp) q (outside ps ws) ≡
      cond (not (is_among ps q)) (find (slice_cmp nat_cmp) q ws) None
  found q [] = by (is_among ps q)
    where
      nothing : Option X
      nothing = None

      by : (b : Bool) → nothing ≡ cond (not b) nothing nothing
      by true = refl
      by false = refl
  found q (w ∷ ws) = by (is_among ps w.0) (tied q w.0) refl refl (found q ws)
    where
      by : (a b : Bool) → is_among ps w.0 ≡ a → tied q w.0 ≡ b →
          find (slice_cmp nat_cmp) q (outside ps ws) ≡
          cond (not (is_among ps q)) (find (slice_cmp nat_cmp) q ws) None →
          find (slice_cmp nat_cmp) q (if a then outside ps ws else w ∷ outside ps ws) ≡
          cond (not (is_among ps q)) (cond b (Some w.1) (find (slice_cmp nat_cmp) q ws)) None
      by true true h g r =
          let among : is_among ps q ≡ true = ap (is_among ps) (same_name q w.0 g) ∙ h in
          r ∙ ap (λ b. cond (not b) (find (slice_cmp nat_cmp) q ws) None) among
          ∙ ap (λ b. cond (not b) (Some w.1) None) (sym among)
      by true false h g r = r
      by false true h g r =
          let among : is_among ps q ≡ false = ap (is_among ps) (same_name q w.0 g) ∙ h in
          ap (λ b. cond b (Some w.1) (find (slice_cmp nat_cmp) q (outside ps ws))) g
          ∙ ap (λ b. cond (not b) (Some w.1) None) (sym among)
      by false false h g r =
          ap (λ b. cond b (Some w.1) (find (slice_cmp nat_cmp) q (outside ps ws))) g ∙ r

  not_among : (x : Name) (ws : List (Name × X)) → AllByRecursion (λ y. bytes_eq x y ≡ false) (keys_of ws) →
      AllByRecursion (λ y. bytes_eq x y ≡ false) (keys_of (outside ps ws))
  not_among x [] h = tt
  not_among x (w ∷ ws) h = by (is_among ps w.0) (not_among x ws h.1)
    where
      by : (a : Bool) → AllByRecursion (λ y. bytes_eq x y ≡ false) (keys_of (outside ps ws)) →
          AllByRecursion (λ y. bytes_eq x y ≡ false) (keys_of (if a then outside ps ws else w ∷ outside ps ws))
      by true r = r
      by false r = (h.0, r)

  pub outside_once : (ws : List (Name × X)) → IsDistinct bytes_eq (keys_of ws) →
      IsDistinct bytes_eq (keys_of (outside ps ws))
  unfolding IsDistinct
  outside_once [] h = tt
  outside_once (w ∷ ws) h = by (is_among ps w.0) (outside_once ws h.1)
    where
      by : (a : Bool) → IsDistinct bytes_eq (keys_of (outside ps ws)) →
          IsDistinct bytes_eq (keys_of (if a then outside ps ws else w ∷ outside ps ws))
      by true r = r
      by false r = (not_among w.0 ws h.0, r)

  -- as a map, these are the entries past the names that are set
  pub outside_is : (ws : List (Name × X)) →
      from_entries {R = slice_cmp nat_cmp} (outside ps ws) ≡ past (overlaid empty ps) (from_entries ws)
  outside_is ws = same (from_entries (outside ps ws)) (past (overlaid empty ps) (from_entries ws)) (λ q.
      get-from_entries nat_list_cmp_total (outside ps ws) q ∙ found q ws
      ∙ ap (λ b. cond (not b) (find (slice_cmp nat_cmp) q ws) None) (sym (set_is ps q))
      ∙ ap (λ o. cond (not (is_some (get (overlaid empty ps) q))) o None)
      (sym (get-from_entries nat_list_cmp_total ws q))
      ∙ sym (get_past (overlaid empty ps) (from_entries ws) q))

  -- ---- one by one

  push : (ws : List (Name × X)) (w : Name × X) → outside ps (ws ++ w ∷ []) ≡
      (if is_among ps w.0 then outside ps ws else outside ps ws ++ w ∷ [])
  push [] w = refl
  push (v ∷ ws) w = by (is_among ps v.0) (is_among ps w.0) (push ws w)
    where
      by : (a b : Bool) → outside ps (ws ++ w ∷ []) ≡ (if b then outside ps ws else outside ps ws ++ w ∷ []) →
          (if a then outside ps (ws ++ w ∷ []) else v ∷ outside ps (ws ++ w ∷ [])) ≡
          (if b then (if a then outside ps ws else v ∷ outside ps ws)
          else (if a then outside ps ws else v ∷ outside ps ws) ++ w ∷ [])
      by true b r = r
      by false true r = ap (λ us. v ∷ us) r
      by false false r = ap (λ us. v ∷ us) r

  pub outside_next : (before after ws : List (Name × X)) (i : ℕ) (w : Name × X) → i < length ws → w ≡ get_or ws i w →
      before ≡ outside ps (take i ws) → after ≡ (if is_among ps w.0 then before else before ++ w ∷ []) →
      after ≡ outside ps (take (i + 1) ws)
  outside_next before after ws i w lt is so_far step =
      let one : take (i + 1) ws ≡ take i ws ++ w ∷ [] =
      take_more ws i w lt ∙ ap (λ v. take i ws ++ v ∷ []) (sym is) in
      step ∙ ap (λ us. if is_among ps w.0 then us else us ++ w ∷ []) so_far ∙ sym (push (take i ws) w)
      ∙ ap (outside ps) (sym one)

pub once_as : {X : Type 0} (us ws : List (Name × X)) → us ≡ ws → IsDistinct bytes_eq (keys_of ws) →
    IsDistinct bytes_eq (keys_of us)
once_as us ws e h = subst (λ vs. IsDistinct bytes_eq (keys_of vs)) (sym e) h
