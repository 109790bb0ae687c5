-- Maps of a part in the whole.
use Rattle.std.proofs.Common.{◌≡◌, List, [], ◌∷◌, ◌++◌, refl, ap, sym, ◌∙◌}
use Rattle.std.specs.Prelude.{Bool, true, false, not, cond, is_some, Option, Some, None}
use Rattle.std.specs.Option.{option_or}
use Rattle.std.specs.declared.cmp.Ordering.TheVariants.{Equal}
use Rattle.std.specs.Ordering.{nat_cmp}
use Rattle.std.specs.Cmp.Lexicographic.{slice_cmp, nat_list_cmp_total}
use Rattle.std.specs.FinMap.{entries, get, contains_key, insert, empty, find, get-entries, get-empty, get-insert}
use Rattle.std.specs.FinMap.{get-remove, get-from_entries, get-retain_keys}
use Rattle.tx_tree.specs.WideTree.{WideTree}
use Rattle.tx_env.specs.Pairs.{Name}
use Rattle.tx_env.specs.Environments.{NameMap}
use Rattle.tx_env.specs.Changes.{with_pair}
use Rattle.tx_exec_form.specs.Maps.{Map, LookMap, noted}
use Rattle.tx_exec_form.proofs.Agreeing.{names_alike, tied, same_name, same}
use Rattle.tx_parts.specs.Atop.{atop, past, both_looks}

pub find_both : {X : Type 0} (es fs : List (Name × X)) (q : Name) → find (slice_cmp nat_cmp) q (es ++ fs) ≡
    option_or (find (slice_cmp nat_cmp) q es) (find (slice_cmp nat_cmp) q fs)
find_both [] fs q = refl
find_both (e ∷ es) fs q =
    ap (cond (tied q e.0) (Some e.1)) (find_both es fs q)
    ∙ by_test (tied q e.0) e.1 (find (slice_cmp nat_cmp) q es) (find (slice_cmp nat_cmp) q fs)
  where
    by_test : {X : Type 0} (b : Bool) (v : X) (r s : Option X) → cond b (Some v) (option_or r s) ≡
        option_or (cond b (Some v) r) s
    by_test true v r s = refl
    by_test false v r s = refl

pub get_atop : {X : Type 0} (a b : Map X) (q : Name) → get (atop a b) q ≡ option_or (get a q) (get b q)
unfolding atop
get_atop a b q =
    get-from_entries nat_list_cmp_total (entries a ++ entries b) q ∙ find_both (entries a) (entries b) q
    ∙ ap (λ r. option_or r (find (slice_cmp nat_cmp) q (entries b))) (sym (get-entries a q))
    ∙ ap (option_or (get a q)) (sym (get-entries b q))

same_tied : (q x : Name) → slice_cmp nat_cmp q x ≡ Equal → q ≡ x
same_tied q x h = names_alike q x h

-- a look at a name that has this before it
abbrev pub unless : Option WideTree → Option (Option WideTree) → Option (Option WideTree)
unless (Some t) v = None
unless None v = v

pub kept_unless : (w : Option WideTree) (k : Option (Option WideTree)) → cond (not (is_some w)) k None ≡ unless w k
kept_unless (Some t) k = refl
kept_unless None k = refl

pub get_past : {X : Type 0} (w : NameMap) (m : Map X) (q : Name) →
    get (past w m) q ≡ cond (not (is_some (get w q))) (get m q) None
unfolding past
get_past w m q =
    get-retain_keys m (λ x. not (contains_key w x)) q
    (λ x h. ap (λ y. not (contains_key w y)) (sym (same_tied q x h)))

pub get_both : (l : LookMap) (w : NameMap) (k : LookMap) (q : Name) → get (both_looks l w k) q ≡
    option_or (get l q) (unless (get w q) (get k q))
get_both l w k q =
    get_atop l (past w k) q
    ∙ ap (option_or (get l q)) (get_past w k q ∙ kept_unless (get w q) (get k q))

-- ---- with nothing set or looked up

pub or_none : {A : Type 0} (o : Option A) → option_or o None ≡ o
or_none (Some a) = refl
or_none None = refl

unless_none : (w : Option WideTree) → unless w None ≡ None
unless_none (Some t) = refl
unless_none None = refl

pub atop_nothing : (w : NameMap) → atop empty w ≡ w
atop_nothing w = same (atop empty w) w
    (λ q. get_atop empty w q ∙ ap (λ o. option_or o (get w q)) (get-empty (slice_cmp nat_cmp) q))

pub looks_nothing : (l : LookMap) (w : NameMap) → both_looks l w empty ≡ l
looks_nothing l w = same (both_looks l w empty) l
    (λ q. get_both l w empty q
    ∙ ap (λ o. option_or (get l q) (unless (get w q) o)) (get-empty (slice_cmp nat_cmp) q)
    ∙ ap (option_or (get l q)) (unless_none (get w q)) ∙ or_none (get l q))

-- ---- setting

pub get_pair : (x : Name) (t : Option WideTree) (m : NameMap) (q : Name) →
    get (with_pair x t m) q ≡ cond (tied q x) t (get m q)
get_pair x (Some t) m q = get-insert nat_list_cmp_total m x t q
get_pair x None m q = get-remove nat_list_cmp_total m x q

set_at : (b : Bool) (t o w_q w_x : Option WideTree) → (b ≡ true → w_q ≡ w_x) →
    option_or (cond b t o) w_q ≡ cond b (option_or t w_x) (option_or o w_q)
set_at true t o w_q w_x h = ap (option_or t) (h refl)
set_at false t o w_q w_x h = refl

-- what is unset in a part has in the whole what it had before the part
pub atop_pair : (x : Name) (t : Option WideTree) (own w : NameMap) →
    atop (with_pair x t own) w ≡ with_pair x (option_or t (get w x)) (atop own w)
atop_pair x t own w = same (atop (with_pair x t own) w) (with_pair x (option_or t (get w x)) (atop own w)) (λ q.
    get_atop (with_pair x t own) w q ∙ ap (λ r. option_or r (get w q)) (get_pair x t own q)
    ∙ set_at (tied q x) t (get own q) (get w q) (get w x) (λ h. ap (get w) (same_name q x h))
    ∙ ap (cond (tied q x) (option_or t (get w x))) (sym (get_atop own w q))
    ∙ sym (get_pair x (option_or t (get w x)) (atop own w) q))

-- ---- looking up

get_note : (l : LookMap) (x : Name) (v : Option WideTree) (q : Name) (m : Option (Option WideTree)) → get l x ≡ m →
    get (cond (is_some m) l (insert l x v)) q ≡ option_or (get l q) (cond (tied q x) (Some v) None)
get_note l x v q (Some u) e = there (tied q x) (get l q) (λ h. ap (get l) (same_name q x h) ∙ e)
  where
    there : (b : Bool) (r : Option (Option WideTree)) → (b ≡ true → r ≡ Some u) → r ≡ option_or r (cond b (Some v) None)
    there b (Some w) h = refl
    there true None h = let off : None ≡ Some u = h refl in cc
    there false None h = refl
get_note l x v q None e =
    get-insert nat_list_cmp_total l x v q ∙ fresh (tied q x) (get l q) (λ h. ap (get l) (same_name q x h) ∙ e)
  where
    fresh : (b : Bool) (r : Option (Option WideTree)) → (b ≡ true → r ≡ None) →
        cond b (Some v) r ≡ option_or r (cond b (Some v) None)
    fresh true (Some w) h = let off : Some w ≡ None = h refl in cc
    fresh true None h = refl
    fresh false (Some w) h = refl
    fresh false None h = refl

pub get_noted : (l : LookMap) (x : Name) (v : Option WideTree) (q : Name) →
    get (noted l x v) q ≡ option_or (get l q) (cond (tied q x) (Some v) None)
get_noted l x v q = get_note l x v q (get l x) refl

set_look : (b : Bool) (l k : Option (Option WideTree)) (w : Option WideTree) (t : WideTree) (v : Option WideTree) →
    (b ≡ true → w ≡ Some t) →
    option_or l (unless w (option_or k (cond b (Some v) None))) ≡ option_or l (unless w k)
set_look b (Some u) k w t v h = refl
set_look true None k (Some u) t v h = refl
set_look true None k None t v h = let off : None ≡ Some t = h refl in cc
set_look false None (Some u) w t v h = refl
set_look false None None w t v h = refl

-- a look of a part at a name that the whole has set is none of the whole
pub both_set : (l : LookMap) (w : NameMap) (k : LookMap) (x : Name) (t : WideTree) (v : Option WideTree) →
    get w x ≡ Some t → both_looks l w (noted k x v) ≡ both_looks l w k
both_set l w k x t v h = same (both_looks l w (noted k x v)) (both_looks l w k) (λ q.
    get_both l w (noted k x v) q ∙ ap (λ o. option_or (get l q) (unless (get w q) o)) (get_noted k x v q)
    ∙ set_look (tied q x) (get l q) (get k q) (get w q) t v (λ g. ap (get w) (same_name q x g) ∙ h)
    ∙ sym (get_both l w k q))

unset_look : (b : Bool) (l k : Option (Option WideTree)) (w : Option WideTree) (v : Option WideTree) →
    (b ≡ true → w ≡ None) → option_or l (unless w (option_or k (cond b (Some v) None))) ≡
    option_or (option_or l (unless w k)) (cond b (Some v) None)
unset_look b (Some u) k w v h = refl
unset_look true None k (Some u) v h = let off : Some u ≡ None = h refl in cc
unset_look true None (Some u) None v h = refl
unset_look true None None None v h = refl
unset_look false None (Some u) (Some t) v h = refl
unset_look false None None (Some t) v h = refl
unset_look false None (Some u) None v h = refl
unset_look false None None None v h = refl

-- at a name that it hasn't set, it is
pub both_unset : (l : LookMap) (w : NameMap) (k : LookMap) (x : Name) (v : Option WideTree) →
    get w x ≡ None → both_looks l w (noted k x v) ≡ noted (both_looks l w k) x v
both_unset l w k x v h = same (both_looks l w (noted k x v)) (noted (both_looks l w k) x v) (λ q.
    get_both l w (noted k x v) q ∙ ap (λ o. option_or (get l q) (unless (get w q) o)) (get_noted k x v q)
    ∙ unset_look (tied q x) (get l q) (get k q) (get w q) v (λ g. ap (get w) (same_name q x g) ∙ h)
    ∙ ap (λ o. option_or o (cond (tied q x) (Some v) None)) (sym (get_both l w k q))
    ∙ sym (get_noted (both_looks l w k) x v q))

pub atop_set : (later earlier : NameMap) (x : Name) (t : WideTree) →
    atop (insert later x t) earlier ≡ insert (atop later earlier) x t
atop_set later earlier x t = atop_pair x (Some t) later earlier

-- ---- what a map has at names that aren't set

pub past_nothing : (own : NameMap) → past own (empty {X = WideTree}) ≡ empty
past_nothing own = same (past own empty) empty (λ q.
    get_past own empty q ∙ ap (λ o. cond (not (is_some (get own q))) o None) (get-empty (slice_cmp nat_cmp) q)
    ∙ either (not (is_some (get own q))) ∙ sym (get-empty (slice_cmp nat_cmp) q))
  where
    nothing : Option WideTree
    nothing = None

    either : (b : Bool) → cond b nothing nothing ≡ nothing
    either true = refl
    either false = refl

past_at_set : (b : Bool) (o m : Option WideTree) (t v : WideTree) → (b ≡ true → o ≡ Some t) →
    cond (not (is_some o)) (cond b (Some v) m) None ≡ cond (not (is_some o)) m None
past_at_set b (Some u) m t v h = refl
past_at_set true None m t v h = let off : None ≡ Some t = h refl in cc
past_at_set false None m t v h = refl

pub past_set : (own m : NameMap) (x : Name) (t v : WideTree) → get own x ≡ Some t →
    past own (insert m x v) ≡ past own m
past_set own m x t v h = same (past own (insert m x v)) (past own m) (λ q.
    get_past own (insert m x v) q
    ∙ ap (λ o. cond (not (is_some (get own q))) o None) (get-insert nat_list_cmp_total m x v q)
    ∙ past_at_set (tied q x) (get own q) (get m q) t v (λ g. ap (get own) (same_name q x g) ∙ h)
    ∙ sym (get_past own m q))

past_at_unset : (b : Bool) (o m : Option WideTree) (v : WideTree) → (b ≡ true → o ≡ None) →
    cond (not (is_some o)) (cond b (Some v) m) None ≡ cond b (Some v) (cond (not (is_some o)) m None)
past_at_unset true (Some u) m v h = let off : Some u ≡ None = h refl in cc
past_at_unset false (Some u) m v h = refl
past_at_unset true None m v h = refl
past_at_unset false None m v h = refl

pub past_unset : (own m : NameMap) (x : Name) (v : WideTree) → get own x ≡ None →
    past own (insert m x v) ≡ insert (past own m) x v
past_unset own m x v h = same (past own (insert m x v)) (insert (past own m) x v) (λ q.
    get_past own (insert m x v) q
    ∙ ap (λ o. cond (not (is_some (get own q))) o None) (get-insert nat_list_cmp_total m x v q)
    ∙ past_at_unset (tied q x) (get own q) (get m q) v (λ g. ap (get own) (same_name q x g) ∙ h)
    ∙ ap (cond (tied q x) (Some v)) (sym (get_past own m q)) ∙ sym (get-insert nat_list_cmp_total (past own m) x v q))
