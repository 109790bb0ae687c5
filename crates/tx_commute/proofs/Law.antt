-- Where there is a pair, both orders make the same tree.
use Rattle.std.proofs.Common.{◌≡◌, ℕ, Bool, true, false, List, Option, Some, None, Ok, refl, sym, ap, subst, ◌∙◌}
use Rattle.std.specs.Prelude.{if◌then◌else◌, option_and_then, option_map}
use Rattle.std.specs.Str.{bytes_eq}
use Rattle.std.proofs.lemmas.Slice.Eq.{bytes_eq-Decides}
use Rattle.tx_tree.specs.Paths.{subtree}
use Rattle.tx_tree.specs.WideTree.{WideTree}
use Rattle.tx_mod.specs.declared.mods.Mod.{Mod}
use Rattle.tx_mod.specs.declared.mods.Mod.TheVariants.{Assign, Insert, Remove, Split, Join, AssignNode, InsertNode}
use Rattle.tx_mod.specs.declared.mods.Mod.TheVariants.{RemoveNode}
use Rattle.tx_mod.specs.Mods.{path_of, replaced}
use Rattle.tx_mod.specs.Changes.{changed_at}
use Rattle.tx_mod.specs.Inverses.{inverse_of}
use Rattle.tx_mod.specs.Moves.{carried_path}
use Rattle.tx_mod.specs.Sound.{IsSoundMod}
use Rattle.tx_mod.proofs.Cases.{by_test}
use Rattle.tx_mod.proofs.Replacing.{subtree_of_replaced, replaced_again, replaced_by_same}
use Rattle.tx_commute.specs.Free.{freely}
use Rattle.tx_commute.specs.Pasts.{Pair, at_path, or_else, by_table, past_from, past, MakeTogether, BothOrdersAgree}
use Rattle.tx_commute.proofs.Passing.{passing, came}
use Rattle.tx_commute.proofs.Routes.{freely_is, free_of}
use Rattle.tx_commute.proofs.Tables.{Both, table_rows}

pub path_of_at : (m : Mod) (q : List ℕ) → path_of (at_path m q) ≡ q
path_of_at (Assign p x) q = refl
path_of_at (Insert p i x) q = refl
path_of_at (Remove p i n) q = refl
path_of_at (Split p i j) q = refl
path_of_at (Join p i) q = refl
path_of_at (AssignNode p l) q = refl
path_of_at (InsertNode p i x) q = refl
path_of_at (RemoveNode p i) q = refl

pub same_change : (m : Mod) (q : List ℕ) (s : WideTree) → changed_at (at_path m q) s ≡ changed_at m s
same_change (Assign p x) q s = refl
same_change (Insert p i x) q s = refl
same_change (Remove p i n) q s = refl
same_change (Split p i j) q s = refl
same_change (Join p i) q s = refl
same_change (AssignNode p l) q s = refl
same_change (InsertNode p i x) q s = refl
same_change (RemoveNode p i) q s = refl

-- what a modification makes, whatever path it is known by
pub made_at : (m : Mod) (t s v : WideTree) (q : List ℕ) → path_of m ≡ q → subtree t q ≡ Some s → changed_at m s ≡ Ok v
    → freely m t ≡ Some (replaced t q v)
made_at m t s v q e f g =
    freely_is m t s v (ap (subtree t) e ∙ f) g ∙ ap (λ p. Some (replaced t p v)) e

-- each pair makes v of t
abbrev Good : WideTree → WideTree → Option Pair → Type 0
Good t v o = (b' a' : Mod) → o ≡ Some (b', a') → MakeTogether t b' a' v

good_none : (t v : WideTree) → Good t v None
good_none t v b' a' e = absurd (cc)

good_some : (t v : WideTree) (b a : Mod) → MakeTogether t b a v → Good t v (Some (b, a))
good_some t v b a h b' a' e =
    let pair : ◌≡◌ {A = Pair} (b, a) (b', a') = cc in
    subst (λ z. MakeTogether t z a' v) (ap (λ z. z.0) pair)
    (subst (λ z. MakeTogether t b z v) (ap (λ z. z.1) pair) h)

good_else : (t v : WideTree) (o o' : Option Pair) → Good t v o → Good t v o' → Good t v (or_else o o')
good_else t v None o' h h' = h'
good_else t v (Some (b, a)) o' h h' = h

good_map : (t v : WideTree) (f : List ℕ → Pair) (o : Option (List ℕ))
    → ((r : List ℕ) → o ≡ Some r → Good t v (Some (f r))) → Good t v (option_map f o)
good_map t v f None h = good_none t v
good_map t v f (Some r) h = h r refl

pub makes_together : (t u v : WideTree) (a b b' a' : Mod) → IsSoundMod a → IsSoundMod b → freely a t ≡ Some u
    → freely b u ≡ Some v → past t a b ≡ Some (b', a') → MakeTogether t b' a' v
makes_together t u v a b b' a' h h' e f g =
    let da = free_of a t u e in
    let db = free_of b u v f in
    let there : subtree u (path_of a) ≡ Some da.new =
    ap (λ w. subtree w (path_of a)) da.is ∙ subtree_of_replaced (path_of a) t da.old da.new da.found in
    let back : replaced u (path_of a) da.old ≡ t =
    ap (λ w. replaced w (path_of a) da.old) da.is ∙ replaced_again (path_of a) t da.old da.new da.old da.found
    ∙ replaced_by_same (path_of a) t da.old da.found in
    let from : past_from t u a b ≡ Some (b', a') = sym (ap (option_and_then (λ w. past_from t w a b)) e) ∙ g in
    good_else t v (option_map (λ p. (b, at_path a p)) (carried_path b u (path_of a)))
    (or_else (option_map (λ q. (at_path b q, a)) (carried_path (inverse_of a t) u (path_of b)))
    (if bytes_eq (path_of a) (path_of b) then by_table a b else None))
    (good_map t v (λ p. (b, at_path a p)) (carried_path b u (path_of a))
    (λ r k. good_some t v b (at_path a r) (carried da.old da.new r da.at there back k)))
    (good_else t v (option_map (λ q. (at_path b q, a)) (carried_path (inverse_of a t) u (path_of b)))
    (if bytes_eq (path_of a) (path_of b) then by_table a b else None)
    (good_map t v (λ q. (at_path b q, a)) (carried_path (inverse_of a t) u (path_of b))
    (λ r k. good_some t v (at_path b r) a (carried_back db.old db.new r db.found db.at db.is k)))
    (by_test (Good t v) (bytes_eq (path_of a) (path_of b)) (by_table a b) None
    (λ k. at_same da.old da.new db.old db.new ((bytes_eq-Decides (path_of a) (path_of b)).0 k) da.found da.at da.is there
    db.found db.at db.is)
    (λ k. good_none t v)))
    b' a' from
  where
    -- the path of a is carried through b
    carried : (s x : WideTree) (r : List ℕ) → changed_at a s ≡ Ok x → subtree u (path_of a) ≡ Some x
        → replaced u (path_of a) s ≡ t → carried_path b u (path_of a) ≡ Some r → MakeTogether t b (at_path a r) v
    carried s x r at there back k =
        let c = passing b u v x s (path_of a) r f there k in
        let middle : WideTree = replaced v r s in
        record {
          middle = middle;
          first = ap (freely b) (sym back) ∙ c.made;
          second = made_at (at_path a r) middle s x r (path_of_at a r) (subtree_of_replaced r v x s c.there)
              (same_change a r s ∙ at)
              ∙ ap (λ z. Some z) (replaced_again r v x s x c.there ∙ replaced_by_same r v x c.there);
        }

    -- the path of b is carried back through a
    carried_back : (z y : WideTree) (r : List ℕ) → subtree u (path_of b) ≡ Some z → changed_at b z ≡ Ok y
        → v ≡ replaced u (path_of b) y → carried_path (inverse_of a t) u (path_of b) ≡ Some r
        → MakeTogether t (at_path b r) a v
    carried_back z y r found at is k =
        let c = came a t u z (path_of b) r e found k in
        let d = passing a t u z y r (path_of b) e c.0 c.1 in
        record {
          middle = replaced t r y;
          first = made_at (at_path b r) t z y r (path_of_at b r) c.0 (same_change b r z ∙ at);
          second = d.made ∙ ap (λ w. Some w) (sym is);
        }

    same_some : (x y : WideTree) → ◌≡◌ {A = Option WideTree} (Some x) (Some y) → x ≡ y
    same_some x y k = cc

    -- both are at the same path
    at_same : (s x z y : WideTree) → path_of a ≡ path_of b → subtree t (path_of a) ≡ Some s → changed_at a s ≡ Ok x
        → u ≡ replaced t (path_of a) x → subtree u (path_of a) ≡ Some x → subtree u (path_of b) ≡ Some z
        → changed_at b z ≡ Ok y → v ≡ replaced u (path_of b) y → Good t v (by_table a b)
    at_same s x z y same found at is there found' at' is' b'' a'' k =
        let p : List ℕ = path_of a in
        let one : z ≡ x = same_some z x (sym found' ∙ ap (subtree u) (sym same) ∙ there) in
        let row = table_rows a b s x y h h' at (ap (changed_at b) (sym one) ∙ at') b'' a'' k in
        let both : Both s x a b b'' a'' y = row.0 in
        let middle : WideTree = replaced t p both.middle in
        let end : v ≡ replaced t p y =
        is' ∙ ap (λ w. replaced u w y) (sym same) ∙ ap (λ w. replaced w p y) is ∙ replaced_again p t s x y found in
        record {
          middle = middle;
          first = made_at b'' t s both.middle p (row.1 ∙ sym same) found both.first;
          second = made_at a'' middle both.middle y p row.2 (subtree_of_replaced p t s both.middle found) both.second
              ∙ ap (λ w. Some w) (replaced_again p t s both.middle y found ∙ sym end);
        }
