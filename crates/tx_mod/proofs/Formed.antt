-- What a modification makes of a well formed tree is well formed.
use Rattle.std.proofs.Common.{◌≡◌, ℕ, zero, suc, ◌+◌, List, [], ◌∷◌, ◌++◌, length, take, drop, set, Some, Ok, Err, refl}
use Rattle.std.proofs.Common.{sym, ap, subst, ◌∙◌, true}
use Rattle.std.specs.Option.{option_map_or}
use Rattle.std.specs.Prelude.{slice_get, is_ok}
use Rattle.std.specs.Str.{bytes_eq}
use Rattle.tx_tree.specs.Cuts.{is_cut}
use Rattle.tx_tree.specs.Labels.{IsLabel}
use Rattle.tx_tree.specs.Limits.{IsWellFormed, AreWellFormed, IsWithinLimits}
use Rattle.tx_tree.specs.Paths.{subtree}
use Rattle.tx_tree.specs.WideTree.{WideTree, Forest, leaf, node, forest, trees, children_of}
use Rattle.tx_tree.proofs.Children.{forest_trees, AreWellFormed-append}
use Rattle.tx_mod.specs.declared.faults.ModFault.{ModFault}
use Rattle.tx_mod.specs.declared.faults.ModFault.TheVariants.{NotNode, BadPlace, CutsSymbol, Differ}
use Rattle.tx_mod.specs.declared.mods.Mod.{Mod}
use Rattle.tx_mod.specs.declared.mods.Mod.TheVariants.{Assign, Insert, Remove, Split, Join, AssignNode, InsertNode}
use Rattle.tx_mod.specs.declared.mods.Mod.TheVariants.{RemoveNode}
use Rattle.tx_mod.specs.Mods.{path_of, tuple, put_in, taken_out, is_clean, extent, tree_up_to, tree_from, with_child_at}
use Rattle.tx_mod.specs.Mods.{replaced}
use Rattle.tx_mod.specs.Changes.{inserted, removed, split, split_child, joined, joined_at, in_place_of_two, limited}
use Rattle.tx_mod.specs.Changes.{labelled, wrapped, unwrapped, changed_at, changed}
use Rattle.tx_mod.specs.Sound.{IsSoundMod, StaysWellFormed}
use Rattle.tx_mod.proofs.Back.{ok_asked, ok_got, ok_two, same_tree, child_well_formed, well_formed_at, made_of}
use Rattle.tx_mod.proofs.Remade.{texts_together, text_before, text_behind, text_put_in, text_taken_out}
use Rattle.tx_mod.proofs.Replacing.{down, replaced_down}
use Rattle.tx_mod.proofs.Shapes.{shape_unwrapped}
use Rattle.tx_mod.proofs.Whole.{changed_is, limited_within}

-- ---- lists of trees

abbrev All : List WideTree → Type 0
All ts = AreWellFormed (forest ts)

all_of : (ts : Forest) → AreWellFormed ts → All (trees ts)
all_of ts h = subst AreWellFormed (sym (forest_trees ts)) h

formed_take : (n : ℕ) (ts : List WideTree) → All ts → All (take n ts)
formed_take zero ts h = tt
formed_take (suc n) [] h = tt
formed_take (suc n) (t ∷ ts) h = (h.0, formed_take n ts h.1)

formed_drop : (n : ℕ) (ts : List WideTree) → All ts → All (drop n ts)
formed_drop zero ts h = h
formed_drop (suc n) [] h = tt
formed_drop (suc n) (t ∷ ts) h = formed_drop n ts h.1

formed_set : (ts : List WideTree) (i : ℕ) (v : WideTree) → All ts → IsWellFormed v → All (set ts i v)
formed_set [] i v h k = tt
formed_set (t ∷ ts) zero v h k = (k, h.1)
formed_set (t ∷ ts) (suc i) v h k = (h.0, formed_set ts i v h.1 k)

formed_put_in : (ts us : List WideTree) (i : ℕ) → All ts → All us → All (put_in ts i us)
formed_put_in ts us i h k =
    AreWellFormed-append (take i ts ++ us) (drop i ts) (AreWellFormed-append (take i ts) us (formed_take i ts h) k)
    (formed_drop i ts h)

formed_taken_out : (ts : List WideTree) (i n : ℕ) → All ts → All (taken_out ts i n)
formed_taken_out ts i n h =
    AreWellFormed-append (take i ts) (drop (i + n) ts) (formed_take i ts h) (formed_drop (i + n) ts h)

children_formed : (s : WideTree) → IsWellFormed s → All (children_of s)
children_formed (leaf text) h = tt
children_formed (node l ts) h = all_of ts h.1

child_formed : (s c : WideTree) (i : ℕ) → IsWellFormed s → slice_get (children_of s) i ≡ Some c → IsWellFormed c
child_formed (leaf text) c i h e = absurd (cc)
child_formed (node l ts) c i h e = child_well_formed ts i c h.1 e

-- ---- kinds

insert_formed : (s x v : WideTree) (i : ℕ) → IsWellFormed s → IsWellFormed x → inserted s i x ≡ Ok v → IsWellFormed v
insert_formed (leaf text) (leaf more) v i h k e =
    let a = ok_asked _ (BadPlace (length text)) _ v e in
    let b = ok_asked (is_cut text i) (CutsSymbol i) _ v a.1 in
    subst IsWellFormed (same_tree (leaf (put_in text i more)) v b.1)
    (text_put_in text more (put_in text i more) i h k b.0 refl)
insert_formed (leaf text) (node m us) v i h k e = absurd (cc)
insert_formed (node l ts) (leaf more) v i h k e = absurd (cc)
insert_formed (node l ts) (node m us) v i h k e =
    let a = ok_asked (bytes_eq m tuple) NotNode _ v e in
    let b = ok_asked _ (BadPlace (length (trees ts))) _ v a.1 in
    subst IsWellFormed (same_tree (node l (forest (put_in (trees ts) i (trees us)))) v b.1)
    (h.0, formed_put_in (trees ts) (trees us) i (all_of ts h.1) (all_of us k.1))

remove_formed : (s v : WideTree) (i n : ℕ) → IsWellFormed s → removed s i n ≡ Ok v → IsWellFormed v
remove_formed (leaf text) v i n h e =
    let a = ok_asked _ (BadPlace (length text)) _ v e in
    let b = ok_asked (is_cut text i) (CutsSymbol i) _ v a.1 in
    let c = ok_asked (is_cut text (i + n)) (CutsSymbol (i + n)) _ v b.1 in
    subst IsWellFormed (same_tree (leaf (taken_out text i n)) v c.1)
    (text_taken_out text (taken_out text i n) i n h b.0 c.0 refl)
remove_formed (node l ts) v i n h e =
    let a = ok_asked _ (BadPlace (length (trees ts))) _ v e in
    subst IsWellFormed (same_tree (node l (forest (taken_out (trees ts) i n))) v a.1)
    (h.0, formed_taken_out (trees ts) i n (all_of ts h.1))

before_formed : (c : WideTree) (j : ℕ) → IsWellFormed c → is_clean c j ≡ true → IsWellFormed (tree_up_to c j)
before_formed (leaf text) j h e = text_before text j h e
before_formed (node l ts) j h e = (h.0, formed_take j (trees ts) (all_of ts h.1))

behind_formed : (c : WideTree) (j : ℕ) → IsWellFormed c → is_clean c j ≡ true → IsWellFormed (tree_from c j)
behind_formed (leaf text) j h e = text_behind text j h e
behind_formed (node l ts) j h e = (h.0, formed_drop j (trees ts) (all_of ts h.1))

joined_formed : (a b c : WideTree) → IsWellFormed a → IsWellFormed b → joined a b ≡ Ok c → IsWellFormed c
joined_formed (leaf x) (leaf y) c h k e = subst IsWellFormed (same_tree (leaf (x ++ y)) c e) (texts_together x y h k)
joined_formed (leaf x) (node m us) c h k e = absurd (cc)
joined_formed (node l ts) (leaf y) c h k e = absurd (cc)
joined_formed (node l ts) (node m us) c h k e =
    let a = ok_asked (bytes_eq l m) Differ _ c e in
    subst IsWellFormed (same_tree (node l (forest (trees ts ++ trees us))) c a.1)
    (h.0, AreWellFormed-append (trees ts) (trees us) (all_of ts h.1) (all_of us k.1))

split_formed : (s v : WideTree) (i j : ℕ) → IsWellFormed s → split s i j ≡ Ok v → IsWellFormed v
split_formed (leaf text) v i j h e = absurd (cc)
split_formed (node l ts) v i j h e =
    let T : List WideTree = trees ts in
    let g = ok_got (split_child l T i j) (BadPlace (length T)) (slice_get T i) v e in
    let c : WideTree = g.0 in
    let a = ok_asked _ (BadPlace (extent c)) _ v g.2 in
    let b = ok_asked (is_clean c j) (CutsSymbol j) _ v a.1 in
    let k : IsWellFormed c = child_well_formed ts i c h.1 g.1 in
    let halves : List WideTree = tree_up_to c j ∷ tree_from c j ∷ drop (i + 1) T in
    subst IsWellFormed (same_tree (node l (forest (take i T ++ halves))) v b.1) (
      h.0,
      AreWellFormed-append (take i T) halves (formed_take i T (all_of ts h.1))
          (before_formed c j k b.0, (behind_formed c j k b.0, formed_drop (i + 1) T (all_of ts h.1))),
    )

join_formed : (s v : WideTree) (i : ℕ) → IsWellFormed s → joined_at s i ≡ Ok v → IsWellFormed v
join_formed (leaf text) v i h e = absurd (cc)
join_formed (node l ts) v i h e =
    let T : List WideTree = trees ts in
    let bad : ModFault = BadPlace (length T) in
    let g = ok_got (λ a. option_map_or (λ b. in_place_of_two l T i (joined a b)) (slice_get T (i + 1)) (Err bad)) bad
    (slice_get T i) v e in
    let k = ok_got (λ b. in_place_of_two l T i (joined g.0 b)) bad (slice_get T (i + 1)) v g.2 in
    let t = ok_two l T i (joined g.0 k.0) v k.2 in
    let one : IsWellFormed t.0 = joined_formed g.0 k.0 t.0 (child_well_formed ts i g.0 h.1 g.1)
    (child_well_formed ts (i + 1) k.0 h.1 k.1) t.1 in
    subst IsWellFormed t.2 (
      h.0,
      AreWellFormed-append (take i T) (t.0 ∷ drop (i + 2) T) (formed_take i T (all_of ts h.1))
          (one, formed_drop (i + 2) T (all_of ts h.1)),
    )

label_formed : (s v : WideTree) (l : List ℕ) → IsWellFormed s → IsLabel l → labelled s l ≡ Ok v → IsWellFormed v
label_formed (leaf text) v l h k e = absurd (cc)
label_formed (node m ts) v l h k e = subst IsWellFormed (same_tree (node l ts) v e) (k, h.1)

wrap_formed : (s x v : WideTree) (i : ℕ) → IsWellFormed s → IsWellFormed x → wrapped s i x ≡ Ok v → IsWellFormed v
wrap_formed s (leaf text) v i h k e = absurd (cc)
wrap_formed s (node l ts) v i h k e =
    let a = ok_asked _ (BadPlace (length (trees ts))) _ v e in
    subst IsWellFormed (same_tree (node l (forest (put_in (trees ts) i (s ∷ [])))) v a.1)
    (k.0, formed_put_in (trees ts) (s ∷ []) i (all_of ts k.1) (h, tt))

unwrap_formed : (s v : WideTree) (i : ℕ) → IsWellFormed s → unwrapped s i ≡ Ok v → IsWellFormed v
unwrap_formed s v i h e = child_formed s v i h (shape_unwrapped s v i e)

pub formed_at : (m : Mod) (s v : WideTree) → IsSoundMod m → IsWellFormed s → changed_at m s ≡ Ok v → IsWellFormed v
formed_at (Assign p x) s v h k e = subst IsWellFormed (same_tree x v e) h
formed_at (Insert p i x) s v h k e = insert_formed s x v i k h e
formed_at (Remove p i n) s v h k e = remove_formed s v i n k e
formed_at (Split p i j) s v h k e = split_formed s v i j k e
formed_at (Join p i) s v h k e = join_formed s v i k e
formed_at (AssignNode p l) s v h k e = label_formed s v l k h e
formed_at (InsertNode p i x) s v h k e = wrap_formed s x v i k h e
formed_at (RemoveNode p i) s v h k e = unwrap_formed s v i k e

-- ---- the whole tree

with_formed : (t v : WideTree) (i : ℕ) → IsWellFormed t → IsWellFormed v → IsWellFormed (with_child_at t i v)
with_formed (leaf text) v i h k = h
with_formed (node l ts) v i h k = (h.0, formed_set (trees ts) i v (all_of ts h.1) k)

pub replaced_formed : (path : List ℕ) (t s v : WideTree) → subtree t path ≡ Some s → IsWellFormed t → IsWellFormed v
    → IsWellFormed (replaced t path v)
replaced_formed [] t s v e h k = k
replaced_formed (i ∷ path) t s v e h k =
    let d = down t i path s e in
    subst IsWellFormed (sym (replaced_down t d.child i path v d.found))
    (with_formed t (replaced d.child path v) i h
    (replaced_formed path d.child s v d.further (child_formed t d.child i h d.found) k))

-- a changed tree is within the limits
pub change_limited : (m : Mod) (t u : WideTree) → changed m t ≡ Ok u → IsWithinLimits u
change_limited m t u e =
    let d = made_of m t u e in
    let is : changed m t ≡ limited u = changed_is m t d.old d.new d.found d.at ∙ ap limited (sym d.is) in
    limited_within u (ap is_ok (sym is ∙ e))

pub stays_well_formed : (m : Mod) (t : WideTree) → StaysWellFormed m t
stays_well_formed m t u sound formed e =
    let d = made_of m t u e in (
      subst IsWellFormed (sym d.is)
          (replaced_formed (path_of m) t d.old d.new d.found formed
          (formed_at m d.old d.new sound (well_formed_at (path_of m) t d.old d.found formed) d.at)),
      change_limited m t u e,
    )
