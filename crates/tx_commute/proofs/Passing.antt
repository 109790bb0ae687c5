-- A modification of a tree that has another subtree at a path that is carried.
use Rattle.std.proofs.Common.{◌≡◌, ℕ, List, ◌++◌, Option, Some, None, Ok, refl, sym, ap, subst, ◌∙◌}
use Rattle.std.specs.Option.{option_map_or}
use Rattle.tx_tree.specs.Paths.{subtree}
use Rattle.tx_tree.specs.WideTree.{WideTree}
use Rattle.tx_mod.specs.declared.mods.Mod.{Mod}
use Rattle.tx_mod.specs.Mods.{path_of, replaced}
use Rattle.tx_mod.specs.Changes.{changed_at}
use Rattle.tx_mod.specs.Inverses.{inverse_at, inverse_of}
use Rattle.tx_mod.specs.Moves.{rest_behind, carried_at, carried_path}
use Rattle.tx_mod.proofs.Back.{IsMadeOf, same_path}
use Rattle.tx_mod.proofs.Replacing.{subtree_of_replaced, replaced_again}
use Rattle.tx_mod.proofs.Kept.{parted, rest_is, subtree_behind}
use Rattle.tx_commute.specs.Free.{freely}
use Rattle.tx_commute.proofs.Came.{came_at, back_at}
use Rattle.tx_commute.proofs.Over.{over_at}
use Rattle.tx_commute.proofs.Routes.{freely_is, free_of, replaced_behind, replaced_apart, Route, below, aside, route}
use Rattle.tx_commute.proofs.Routes.{carried_below, carried_aside}

-- what is made of t with y at q is u with y at r, where z is in u
pub record Passes (m : Mod) (t u z y : WideTree) (q r : List ℕ) : Type 0 where
  pub made : freely m (replaced t q y) ≡ Some (replaced u r y)
  pub there : subtree u r ≡ Some z

pub passing : (m : Mod) (t u z y : WideTree) (q r : List ℕ) → freely m t ≡ Some u → subtree t q ≡ Some z
    → carried_path m t q ≡ Some r → Passes m t u z y q r
passing m t u z y q r e f g =
    let d = free_of m t u e in
    by_route d.old d.new d.found d.at d.is (route m t d.old q r d.found g)
  where
    p : List ℕ
    p = path_of m

    by_route : (s v : WideTree) → subtree t p ≡ Some s → changed_at m s ≡ Ok v → u ≡ replaced t p v
        → Route m s p q r → Passes m t u z y q r
    by_route s v found at is (below b c h k same) =
        let whole : q ≡ p ++ b = rest_is p q b h in
        let here : subtree s b ≡ Some z = sym (subtree_behind p b t s found) ∙ ap (subtree t) (sym whole) ∙ f in
        let over = over_at m s v y z b at here c k in
        let s' : WideTree = replaced s b y in
        let v' : WideTree = replaced v c y in
        let old : replaced t q y ≡ replaced t p s' =
        ap (λ w. replaced t w y) whole ∙ replaced_behind p b t s y found in
        let now : subtree u p ≡ Some v = ap (λ w. subtree w p) is ∙ subtree_of_replaced p t s v found in
        let new : replaced u r y ≡ replaced t p v' =
        ap (λ w. replaced u w y) same ∙ replaced_behind p c u v y now ∙ ap (λ w. replaced w p v') is
        ∙ replaced_again p t s v v' found in
        record {
          made = ap (freely m) old
              ∙ freely_is m (replaced t p s') s' v' (subtree_of_replaced p t s s' found) over.0
              ∙ ap (λ w. Some w) (replaced_again p t s s' v' found ∙ sym new);
          there = ap (subtree u) same ∙ subtree_behind p c u v now ∙ over.1;
        }
    by_route s v found at is (aside h h' same) =
        record {
          made = freely_is m (replaced t q y) s v (parted q p t z y h' h f ∙ found) at
              ∙ ap (λ w. Some w)
              (sym (replaced_apart p q t s z v y h h' found f) ∙ ap (λ w. replaced w q y) (sym is)
              ∙ ap (λ w. replaced u w y) (sym same));
          there = ap (subtree u) same ∙ ap (λ w. subtree w q) is ∙ parted p q t s v h h' found ∙ f;
        }

-- ---- a path that is carried back

pub came : (m : Mod) (t u z : WideTree) (q r : List ℕ) → freely m t ≡ Some u → subtree u q ≡ Some z
    → carried_path (inverse_of m t) u q ≡ Some r → (subtree t r ≡ Some z) × (carried_path m t r ≡ Some q)
came m t u z q r e f g =
    let d = free_of m t u e in
    let n : Mod = inverse_at m d.old in
    let is : inverse_of m t ≡ n = ap (λ o. option_map_or (inverse_at m) o m) d.found in
    let same : path_of n ≡ p = same_path m d.old in
    let there : subtree u p ≡ Some d.new =
    ap (λ w. subtree w p) d.is ∙ subtree_of_replaced p t d.old d.new d.found in
    by_route d.old d.new d.found d.at d.is there
    (subst (λ w. Route n d.new w q r) same
    (route n u d.new q r (ap (subtree u) same ∙ there) (ap (λ w. carried_path w u q) (sym is) ∙ g)))
  where
    p : List ℕ
    p = path_of m

    by_route : (s v : WideTree) → subtree t p ≡ Some s → changed_at m s ≡ Ok v → u ≡ replaced t p v
        → subtree u p ≡ Some v → Route (inverse_at m s) v p q r → (subtree t r ≡ Some z) × (carried_path m t r ≡ Some q)
    by_route s v found at is there (below b c h k same) =
        let whole : q ≡ p ++ b = rest_is p q b h in
        let here : subtree v b ≡ Some z = sym (subtree_behind p b u v there) ∙ ap (subtree u) (sym whole) ∙ f in
        let back = came_at m s v z b at here c k in (
          ap (subtree t) same ∙ subtree_behind p c t s found ∙ back.0,
          ap (carried_path m t) same ∙ carried_below m t s c b found back.1 ∙ ap (λ w. Some w) (sym whole),
        )
    by_route s v found at is there (aside h h' same) = (
      ap (subtree t) same ∙ sym (parted p q t s v h h' found) ∙ ap (λ w. subtree w q) (sym is) ∙ f,
      ap (carried_path m t) same ∙ carried_aside m t s q found h h',
    )

-- what is carried through m comes back through its inverse
pub comes_back : (m : Mod) (t u z : WideTree) (q r : List ℕ) → freely m t ≡ Some u → subtree t q ≡ Some z
    → carried_path m t q ≡ Some r → carried_path (inverse_of m t) u r ≡ Some q
comes_back m t u z q r e f g =
    let d = free_of m t u e in
    let n : Mod = inverse_at m d.old in
    let is : inverse_of m t ≡ n = ap (λ o. option_map_or (inverse_at m) o m) d.found in
    let same : path_of n ≡ path_of m = same_path m d.old in
    let there : subtree u (path_of m) ≡ Some d.new =
    ap (λ w. subtree w (path_of m)) d.is ∙ subtree_of_replaced (path_of m) t d.old d.new d.found in
    ap (λ w. carried_path w u r) is
    ∙ by_route n d.old d.new same d.found d.at (ap (subtree u) same ∙ there) refl (route m t d.old q r d.found g)
  where
    by_route : (n : Mod) (s v : WideTree) → path_of n ≡ path_of m → subtree t (path_of m) ≡ Some s
        → changed_at m s ≡ Ok v → subtree u (path_of n) ≡ Some v → n ≡ inverse_at m s
        → Route m s (path_of m) q r → carried_path n u r ≡ Some q
    by_route n s v same found at there is (below b c h k e') =
        let p : List ℕ = path_of m in
        let whole : q ≡ p ++ b = rest_is p q b h in
        let here : subtree s b ≡ Some z = sym (subtree_behind p b t s found) ∙ ap (subtree t) (sym whole) ∙ f in
        ap (carried_path n u) (e' ∙ ap (λ w. w ++ c) (sym same))
        ∙ carried_below n u v c b there (ap (λ w. carried_at w v c) is ∙ back_at m s v z b at here c k)
        ∙ ap (λ w. Some (w ++ b)) same ∙ ap (λ w. Some w) (sym whole)
    by_route n s v same found at there is (aside h h' e') =
        ap (carried_path n u) e'
        ∙ carried_aside n u v q there (ap (λ w. rest_behind w q) same ∙ h) (ap (rest_behind q) same ∙ h')
