-- Modifications in turn: that they apply unless a limit refuses one, and where a place is after them.
use Rattle.std.proofs.Common.{◌≡◌, ℕ, true, false, Bool, List, [], ◌∷◌, ◌++◌, Option, Some, None, Ok, Err, refl}
use Rattle.std.proofs.Common.{sym, ap, subst, ◌∙◌}
use Rattle.std.specs.Prelude.{if◌then◌else◌, IfErr, IsTrue, nat_le}
use Rattle.std.specs.Option.{option_map_or}
use Rattle.std.proofs.lemmas.Bool.{eq-eqb}
use Rattle.tx_tree.specs.declared.places.Place.{Place}
use Rattle.tx_tree.specs.declared.TheConstants.{MOST_TEXT, MOST_ARITY, MOST_DEPTH, MOST_SIZE}
use Rattle.tx_tree.specs.Limits.{IsWellFormed}
use Rattle.tx_tree.specs.Paths.{subtree}
use Rattle.tx_tree.specs.Places.{IsPlace}
use Rattle.tx_tree.specs.WideTree.{WideTree, size_of, depth_of, arity_of, text_length_of}
use Rattle.tx_mod.specs.declared.faults.ModFault.{ModFault}
use Rattle.tx_mod.specs.declared.faults.ModFault.TheVariants.{TooLong, TooWide, TooDeep, TooBig}
use Rattle.tx_mod.specs.declared.mods.Mod.{Mod}
use Rattle.tx_mod.specs.Changes.{Outcome, asking, changed_at, limited, changed}
use Rattle.tx_mod.specs.Followed.{outcome_tree}
use Rattle.tx_mod.specs.InTurn.{then_changed, changed_in_turn, moved_in_turn, AreSoundMods}
use Rattle.tx_mod.specs.Mods.{path_of, replaced}
use Rattle.tx_mod.specs.Moves.{rest_behind, place_from_above, moved_at, moved_place}
use Rattle.tx_mod.proofs.Back.{same_tree, made_of}
use Rattle.tx_mod.proofs.Formed.{stays_well_formed}
use Rattle.tx_mod.proofs.InTurn.{begun}
use Rattle.tx_mod.proofs.Standing.{stays_place}
use Rattle.tx_mod.proofs.Whole.{changed_is}
use Rattle.tx_edit.specs.Followed.{is_limit}

-- ---- that they apply

-- there is a tree, or a limit is the cause
abbrev pub IsLimited : Outcome → Type 0
IsLimited o = IfErr o (λ cause. IsTrue (is_limit cause))

asked : (b : Bool) (cause : ModFault) (o : Outcome) → IsTrue (is_limit cause) → IsLimited o
    → IsLimited (asking b cause o)
asked true cause o h k = k
asked false cause o h k = h

limited_alone : (u : WideTree) → IsLimited (limited u)
limited_alone u =
    let size : Outcome = asking (nat_le (size_of u) MOST_SIZE) (TooBig (size_of u)) (Ok u) in
    let depth : Outcome = asking (nat_le (depth_of u) MOST_DEPTH) (TooDeep (depth_of u)) size in
    let arity : Outcome = asking (nat_le (arity_of u) MOST_ARITY) (TooWide (arity_of u)) depth in
    asked (nat_le (text_length_of u) MOST_TEXT) (TooLong (text_length_of u)) arity refl
    (asked (nat_le (arity_of u) MOST_ARITY) (TooWide (arity_of u)) depth refl
    (asked (nat_le (depth_of u) MOST_DEPTH) (TooDeep (depth_of u)) size refl
    (asked (nat_le (size_of u) MOST_SIZE) (TooBig (size_of u)) (Ok u) refl (tt {0}))))

-- the tree that comes about has in it what the table makes
pub tree_made : (m : Mod) (t s v w : WideTree) → subtree t (path_of m) ≡ Some s → changed_at m s ≡ Ok v
    → changed m t ≡ Ok w → w ≡ replaced t (path_of m) v
tree_made m t s v w found made e =
    let d = made_of m t w e in
    let same : d.old ≡ s = cc in
    let new : d.new ≡ v = same_tree d.new v (sym d.at ∙ ap (changed_at m) same ∙ made) in
    d.is ∙ ap (replaced t (path_of m)) new

-- the first modification makes a tree by its table, and the others go on from the tree with this in it
pub one_applies : (m : Mod) (ms : List Mod) (t s v : WideTree) → subtree t (path_of m) ≡ Some s → changed_at m s ≡ Ok v
    → ((w : WideTree) → changed m t ≡ Ok w → w ≡ replaced t (path_of m) v → IsLimited (changed_in_turn ms w))
    → IsLimited (changed_in_turn (m ∷ ms) t)
one_applies m ms t s v found made next =
    from (changed m t) refl
    (subst IsLimited (sym (changed_is m t s v found made)) (limited_alone (replaced t (path_of m) v)))
  where
    from : (o : Outcome) → changed m t ≡ o → IsLimited o → IsLimited (then_changed (changed_in_turn ms) o)
    from (Ok w) e h = next w e (tree_made m t s v w found made e)
    from (Err cause) e h = h

-- ---- where a place is

pub moved_once : (m : Mod) (t : WideTree) (at : Place) → moved_in_turn (m ∷ []) t at ≡ moved_place m t at
moved_once m t at = from (outcome_tree (changed m t))
  where
    from : (o : Option WideTree)
        → option_map_or (λ u. moved_in_turn [] u (moved_place m t at)) o (moved_place m t at) ≡ moved_place m t at
    from None = refl
    from (Some u) = refl

pub moved_first : (m : Mod) (ms : List Mod) (t w : WideTree) (at : Place) → changed m t ≡ Ok w
    → moved_in_turn (m ∷ ms) t at ≡ moved_in_turn ms w (moved_place m t at)
moved_first m ms t w at e =
    ap (λ o. option_map_or (λ u. moved_in_turn ms u (moved_place m t at)) (outcome_tree o) (moved_place m t at)) e

rest_of : (p r : List ℕ) → rest_behind p (p ++ r) ≡ Some r
rest_of [] r = refl
rest_of (i ∷ p) r = ap (λ b. if b then rest_behind p (p ++ r) else None) (eq-eqb i i refl) ∙ rest_of p r

-- a place below the path of the modification moves by the table
pub moved_below : (m : Mod) (t s : WideTree) (at : Place) (r : List ℕ) → subtree t (path_of m) ≡ Some s
    → at.path ≡ path_of m ++ r → moved_place m t at ≡ place_from_above (path_of m) (moved_at m s r at.offset)
moved_below m t s at r found e =
    ap (λ o. option_map_or
    (λ x. option_map_or (λ q. place_from_above (path_of m) (moved_at m x q at.offset))
    (rest_behind (path_of m) at.path) at)
    o at) found
    ∙ ap (λ o. option_map_or (λ q. place_from_above (path_of m) (moved_at m s q at.offset)) o at)
    (ap (rest_behind (path_of m)) e ∙ rest_of (path_of m) r)

-- a moved place is a place of the changed tree
pub stays_in_turn : (ms : List Mod) (t u : WideTree) (at : Place) → AreSoundMods ms → IsWellFormed t
    → changed_in_turn ms t ≡ Ok u → IsPlace t at.path at.offset
    → IsPlace u (moved_in_turn ms t at).path (moved_in_turn ms t at).offset
stays_in_turn [] t u at sound formed e h = subst (λ z. IsPlace z at.path at.offset) (same_tree t u e) h
stays_in_turn (m ∷ ms) t u at sound formed e h =
    let b = begun m ms t u e in
    let next : WideTree = b.next in
    let to : Place = moved_place m t at in
    let there : IsPlace next to.path to.offset = stays_place m t at next sound.0 formed b.first h in
    let kept : IsWellFormed next = (stays_well_formed m t next sound.0 formed b.first).0 in
    subst (λ z. IsPlace u z.path z.offset) (sym (moved_first m ms t next at b.first))
    (stays_in_turn ms next u to sound.1 kept b.others there)
