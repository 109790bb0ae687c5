-- Where a limit is passed, the state leads to no tree within the limits.
use Rattle.std.proofs.Common.{◌≡◌, ℕ, suc, ◌+◌, ◌<◌, ◌≤◌, Bool, true, false, ◌&&◌, if◌then◌else◌, List, [], ◌∷◌, ◌++◌}
use Rattle.std.proofs.Common.{length, Option, Some, None, Result, Ok, Err, IfOk, refl, sym, ap, subst, ◌∙◌, arith}
use Rattle.std.proofs.lemmas.List.{length-reverse, length-map}
use Rattle.tx_base.specs.declared.out_of_memory.Memory.{Memory}
use Rattle.tx_tree.specs.declared.TheConstants.{MOST_DEPTH}
use Rattle.tx_tree.specs.Limits.{IsWithinLimits}
use Rattle.tx_tree.specs.WideTree.{WideTree, node, forest, nodes_of}
use Rattle.tx_tm_form.specs.declared.places.TagPlace.{TagPlace}
use Rattle.tx_tm_form.specs.declared.places.TagPlace.TheVariants.{InShort, InHeader, InClosing}
use Rattle.tx_tm_form.specs.Parts.{ContentPart, gap, text, tag, same_bytes, none, collection_label}
use Rattle.tx_tm_form.specs.Growing.{Inline, grown, long_of, Content, inline, blocks, collecting}
use Rattle.tx_tm_form.specs.Growing.{no_tags, no_paragraphs, put_part, place_of, tree_as_block, block_behind}
use Rattle.tx_tm_form.specs.Growing.{opened_content}
use Rattle.tx_tm_form.specs.Machine.{Open, State, reading, go, open_tag, open_with_child, in_tag, closed, next_block}
use Rattle.tx_tm_form.specs.Machine.{last_block, last_argument}
use Rattle.tx_tm_read.specs.declared.tags.OpenTag.{OpenTag}
use Rattle.tx_tm_read.specs.declared.tags.Spot.{Spot}
use Rattle.tx_tm_content.specs.ContentFits.{IsSmallTree, RowFits}
use Rattle.tx_tm_read.specs.Fits.{ChildrenFit, StateFits}
use Rattle.tx_tm_content.specs.ContentNodes.{nodes_in, content_nodes}
use Rattle.tx_tm_read.specs.Nodes.{children_nodes, opens_nodes, open_nodes, state_nodes}
use Rattle.tx_tm_content.specs.Blocks.{IsBlockTree}
use Rattle.tx_tm_read.specs.Spots.{opens_of, behind_argument, state_of, IsState, StepsRose}
use Rattle.tx_tm_content.proofs.Fitting.{small_within, right_small, node_row, put_tag_fits, last_within}
use Rattle.tx_tm_content.proofs.Counts.{nodes_both}

-- ---- blocks of tags

not_none : (ks : List WideTree) (t : WideTree) → none (ks ++ t ∷ []) ≡ false
not_none [] t = refl
not_none (k ∷ ks) t = refl

and_false : (c : Bool) → (c && false) ≡ false
and_false true = refl
and_false false = refl

no_first : (l : List ℕ) (ks : List WideTree) (t : WideTree)
    → (same_bytes l collection_label && none (ks ++ t ∷ [])) ≡ false
no_first l ks t =
    elim (same_bytes l collection_label) as
    (λ z. (z && none (ks ++ t ∷ [])) ≡ false) [ true ↦ not_none ks t | false ↦ refl ]

pub block_after : (l : List ℕ) (ks : List WideTree) (t : WideTree)
    → block_behind l (ks ++ t ∷ []) ≡ blocks no_paragraphs
block_after l ks t = ap (λ z. if z then collecting no_tags else blocks no_paragraphs) (no_first l ks t)

pub first_block : (l : List ℕ) (ks : List WideTree) → ks ≡ [] → same_bytes l collection_label ≡ true
    → block_behind l ks ≡ collecting no_tags
first_block l ks e h = rw (e, h) refl

pub other_label : (l : List ℕ) (ks : List WideTree) → same_bytes l collection_label ≡ false
    → block_behind l ks ≡ blocks no_paragraphs
other_label l ks h = rw h refl

some_children : (ks : List WideTree) → 0 < length ks → none ks ≡ false
some_children [] h = absurd (omega arith)
some_children (k ∷ ks) h = refl

pub later_block : (l : List ℕ) (ks : List WideTree) → 0 < length ks → block_behind l ks ≡ blocks no_paragraphs
later_block l ks h =
    ap (λ z. if same_bytes l collection_label && z then collecting no_tags else blocks no_paragraphs)
    (some_children ks h)
    ∙ ap (λ z. if z then collecting no_tags else blocks no_paragraphs) (and_false (same_bytes l collection_label))

-- ---- limits

length_opens : (os : List OpenTag) → length (opens_of os) ≡ length os
length_opens os = simp (length-reverse, length-map) refl

pub too_deep : (os : List OpenTag) (w : Option TagPlace) (f : Open) → MOST_DEPTH ≤ length os
    → StateFits (in_tag w f (opens_of os)) → ⊥
too_deep os w f h i = omega (arith, i.1.3, length_opens os)

-- what is known of the tag round the content that has begun in it
pub children_there : (w : Option TagPlace) (k : ℕ) (l : List ℕ) (ks : List WideTree) (t : WideTree)
    → ChildrenFit k (opened_content w l (ks ++ t ∷ [])) (ks ++ t ∷ []) → RowFits k (ks ++ t ∷ [])
children_there (Some p) k l ks t h = h
children_there None k l ks t h = subst (λ c. ChildrenFit k c (ks ++ t ∷ [])) (block_after l ks t) h

opening_child : (w : Option TagPlace) (k : ℕ) (l : List ℕ) (ks : List WideTree) (t : WideTree)
    → ChildrenFit k (opened_content w l (ks ++ t ∷ [])) (ks ++ t ∷ []) → IsSmallTree k t
opening_child w k l ks t h = (right_small k ks (t ∷ []) (children_there w k l ks t h).each).0

pub child_stuck : (w : Option TagPlace) (f : Open) (t : WideTree) (fs : List Open) → (IsWithinLimits t → ⊥)
    → StateFits (in_tag w (open_with_child f t) fs) → ⊥
child_stuck w f t fs h i = h (small_within _ t (opening_child w (suc (length fs)) f.label f.children t i.1.1))

pub child_row_stuck : (w : Option TagPlace) (f : Open) (t : WideTree) (fs : List Open)
    → ((k : ℕ) → RowFits k (f.children ++ t ∷ []) → ⊥) → StateFits (in_tag w (open_with_child f t) fs) → ⊥
child_row_stuck w f t fs h i = h (suc (length fs)) (children_there w (suc (length fs)) f.label f.children t i.1.1)

pub row_stuck : (f : Open) (t : WideTree) (fs : List Open) → ((k : ℕ) → RowFits k (f.children ++ t ∷ []) → ⊥)
    → StateFits (closed (open_with_child f t) fs) → ⊥
row_stuck f t fs h i =
    h (suc (length fs))
    (node_row (length fs) f.label (f.children ++ t ∷ [])
    (put_tag_fits (length fs) f.before false (node f.label (forest (f.children ++ t ∷ []))) i.0))

pub tag_stuck_there : (c : Content) (e : Bool) (t : WideTree) (fs : List Open) → (IsWithinLimits t → ⊥)
    → StateFits (reading (put_part c (tag e t)) fs) → ⊥
tag_stuck_there c e t fs h i = h (small_within (length fs) t (put_tag_fits (length fs) c e t i.0))

-- ---- nodes

pub opens_put : (c : Content) (p : ContentPart) (fs : List Open) → opens_nodes c fs ≤ opens_nodes (put_part c p) fs
opens_put c p [] = omega arith
opens_put (inline q g) p (f ∷ fs) = omega arith
opens_put (blocks b) p (f ∷ fs) = omega arith
opens_put (collecting x) (gap w) (f ∷ fs) = omega arith
opens_put (collecting x) (text s) (f ∷ fs) = omega arith
opens_put (collecting x) (tag c t) (f ∷ fs) = omega arith

-- content with one part more, and what is round it
pub rises : (m n x : ℕ) (c d : Content) (p : ContentPart) (fs : List Open) → d ≡ put_part c p
    → m + x ≤ n + content_nodes d
    → m + (x + opens_nodes c fs) ≤ n + (content_nodes d + opens_nodes d fs)
rises m n x c d p fs e h =
    let o : opens_nodes c fs ≤ opens_nodes d fs =
    subst (λ z. opens_nodes c fs ≤ opens_nodes z fs) (sym e) (opens_put c p fs) in omega (arith, h, o)

block_nodes_behind : (l : List ℕ) (ks : List WideTree) (n : ℕ)
    → content_nodes (block_behind l ks) + (children_nodes (block_behind l ks) ks + n) ≡ nodes_in ks + n
block_nodes_behind l [] n =
    elim (same_bytes l collection_label && true) as
    (λ z. content_nodes (if z then collecting no_tags else blocks no_paragraphs)
    + (children_nodes (if z then collecting no_tags else blocks no_paragraphs) [] + n) ≡ 0 + n)
    [ true ↦ omega arith | false ↦ omega arith ]
block_nodes_behind l (k ∷ ks) n =
    ap (λ z. content_nodes (if z then collecting no_tags else blocks no_paragraphs)
    + (children_nodes (if z then collecting no_tags else blocks no_paragraphs) (k ∷ ks) + n))
    (and_false (same_bytes l collection_label)) ∙ omega arith

pub in_tag_nodes : (w : Option TagPlace) (f : Open) (fs : List Open) → state_nodes (in_tag w f fs) ≡ open_nodes f fs
in_tag_nodes (Some p) f fs = omega arith
in_tag_nodes None f fs =
    omega (arith, block_nodes_behind f.label f.children (content_nodes f.before + opens_nodes f.before fs))

-- ---- results of the steps

pub last_stuck : (p : TagPlace) (g : Inline) (f : Open) (fs : List Open) → (IsWithinLimits (grown g) → ⊥)
    → StateFits (last_argument (Some p) (inline p g) (f ∷ fs)) → ⊥
last_stuck InHeader g f fs h i = child_stuck None f (grown g) fs h i
last_stuck InShort g f fs h i =
    tag_stuck_there f.before false (node f.label (forest (f.children ++ grown g ∷ []))) fs
    (λ w. h (last_within f.label f.children (grown g) w)) i
last_stuck InClosing g f fs h i =
    tag_stuck_there f.before false (node f.label (forest (f.children ++ grown g ∷ []))) fs
    (λ w. h (last_within f.label f.children (grown g) w)) i

go_stuck : (c : Bool) (s : State) → (StateFits s → ⊥) → StateFits (go c s) → ⊥
go_stuck true s h i = h i
go_stuck false s h i = i

pub block_stuck : (c : Content) (l : List ℕ) (w : Option TagPlace) (f : Open) (fs : List Open) → IsBlockTree None c
    → StateFits (next_block (place_of c) l w c (f ∷ fs)) → ⊥
block_stuck (inline p g) l w f fs h i = i
block_stuck (blocks b) l w f fs h i =
    go_stuck (same_bytes l f.label) (in_tag w (open_with_child f (tree_as_block (blocks b))) fs)
    (child_stuck w f (tree_as_block (blocks b)) fs h) i
block_stuck (collecting x) l w f fs h i =
    go_stuck (same_bytes l f.label) (in_tag w (open_with_child f (tree_as_block (collecting x))) fs)
    (child_stuck w f (tree_as_block (collecting x)) fs h) i

pub closed_stuck : (f : Open) (t : WideTree) (fs : List Open) → (IsWithinLimits t → ⊥)
    → StateFits (closed (open_with_child f t) fs) → ⊥
closed_stuck f t fs h i =
    tag_stuck_there f.before false (node f.label (forest (f.children ++ t ∷ []))) fs
    (λ w. h (last_within f.label f.children t w)) i

pub no_next : (w : Option TagPlace) (l : List ℕ) (p : Option TagPlace) (c : Content) → StateFits (next_block w l p c [])
    → ⊥
no_next None l p c h = h
no_next (Some q) l p c h = h

pub no_last : (w : Option TagPlace) (l : List ℕ) (c : Content) → StateFits (last_block w l c []) → ⊥
no_last None l c h = h
no_last (Some q) l c h = h

pub other_next : (w : Option TagPlace) (l : List ℕ) (p : Option TagPlace) (c : Content) (f : Open) (fs : List Open)
    → same_bytes l f.label ≡ false → StateFits (next_block w l p c (f ∷ fs)) → ⊥
other_next None l p c f fs e h = let i : StateFits (go false (in_tag p (open_with_child f (tree_as_block c)) fs)) =
    subst (λ z. StateFits (go z (in_tag p (open_with_child f (tree_as_block c)) fs))) e h in i
other_next (Some q) l p c f fs e h = h

pub other_last : (w : Option TagPlace) (l : List ℕ) (c : Content) (f : Open) (fs : List Open)
    → same_bytes l f.label ≡ false
    → StateFits (last_block w l c (f ∷ fs)) → ⊥
other_last None l c f fs e h = let i : StateFits
    (go false (reading (put_part f.before (long_of f.label f.children c)) fs)) =
    subst (λ z. StateFits (go z (reading (put_part f.before (long_of f.label f.children c)) fs))) e h in i
other_last (Some q) l c f fs e h = h

-- ---- what the steps cost

pub tag_rose : (m n x : ℕ) (w : Option TagPlace) (f : Open) (t : WideTree) (fs : List Open) (g : Open)
    (r : Result (Option Spot) Memory) → g ≡ open_with_child f t → IfOk r (λ next. IsState next (in_tag w g fs))
    → m + x ≤ n + nodes_of t
    → IfOk r (StepsRose n m (x + open_nodes f fs))
tag_rose m n x w f t fs g (Ok None) e h i = tt
tag_rose m n x w f t fs g (Ok (Some s)) e h i =
    let all : state_nodes (state_of s) ≡ open_nodes (open_with_child f t) fs =
    ap state_nodes (h ∙ ap (λ z. in_tag w z fs) e)
    ∙ in_tag_nodes w (open_with_child f t) fs in
    omega (arith, all, i, nodes_both f.children (t ∷ []))
tag_rose m n x w f t fs g (Err y) e h i = tt

pub close_rose : (a m n x : ℕ) (f : Open) (t : WideTree) (fs : List Open) (g : Open) (r : Result (Option Spot) Memory)
    → g ≡ open_with_child f t → IfOk r (StepsRose m a (open_nodes g fs)) → m + x ≤ n + nodes_of t
    → IfOk r (StepsRose n a (x + open_nodes f fs))
close_rose a m n x f t fs g (Ok None) e h i = tt
close_rose a m n x f t fs g (Ok (Some s)) e h i =
    let all : open_nodes g fs ≡ open_nodes (open_with_child f t) fs = ap (λ z. open_nodes z fs) e in
    omega (arith, all, h, i, nodes_both f.children (t ∷ []))
close_rose a m n x f t fs g (Err y) e h i = tt

-- a smaller number of nodes
pub less_rose : (a n x y : ℕ) (r : Result (Option Spot) Memory) → y ≤ x → IfOk r (StepsRose n a x)
    → IfOk r (StepsRose n a y)
less_rose a n x y (Ok None) e h = tt
less_rose a n x y (Ok (Some s)) e h = omega (arith, e, h)
less_rose a n x y (Err z) e h = tt

children_less : (c : Content) (ks : List WideTree) → children_nodes c ks ≤ nodes_in ks
children_less (inline p g) ks = omega arith
children_less (blocks b) ks = omega arith
children_less (collecting x) ks = omega arith

rows : (c : Content) (f : Open) (fs : List Open) → opens_nodes c (f ∷ fs) ≡ children_nodes c f.children + content_nodes
    f.before + opens_nodes f.before fs
rows c f fs = refl

pub round_less : (c : Content) (f : Open) (fs : List Open)
    → content_nodes c + opens_nodes c (f ∷ fs) ≤ content_nodes c + open_nodes f fs
round_less c f fs =
    let k : opens_nodes c (f ∷ fs) ≡ children_nodes c f.children + content_nodes f.before + opens_nodes f.before fs =
    rows c f fs in
    omega (arith, children_less c f.children, k)

pub open_rose : (w : Option TagPlace) (here : Content) (l : List ℕ) (fs : List Open) (r : Result (Option Spot) Memory)
    → IfOk r (λ next. IsState next (in_tag w (open_tag here l []) fs))
    → IfOk r (StepsRose 0 0 (content_nodes here + opens_nodes here fs))
open_rose w here l fs (Ok None) h = tt
open_rose w here l fs (Ok (Some s)) h =
    let all : state_nodes (state_of s) ≡ open_nodes (open_tag here l []) fs = ap state_nodes h
    ∙ in_tag_nodes w (open_tag here l []) fs in
    omega (arith, all)
open_rose w here l fs (Err y) h = tt

pub in_tag_rose : (n : ℕ) (w : Option TagPlace) (f : Open) (fs : List Open) (r : Result (Option Spot) Memory)
    → IfOk r (λ next. IsState next (in_tag w f fs)) → IfOk r (StepsRose n n (open_nodes f fs))
in_tag_rose n w f fs (Ok None) h = tt
in_tag_rose n w f fs (Ok (Some s)) h = let all : state_nodes (state_of s) ≡ open_nodes f fs =
    ap state_nodes h ∙ in_tag_nodes w f fs in omega (arith, all)
in_tag_rose n w f fs (Err y) h = tt

-- ---- the end of an argument

pub argument_is_last : (p : TagPlace) (g : Inline) (f : Open) (fs : List Open)
    → behind_argument p (open_with_child f (grown g)) fs ≡ last_argument (Some p) (inline p g) (f ∷ fs)
argument_is_last InHeader g f fs = refl
argument_is_last InShort g f fs = refl
argument_is_last InClosing g f fs = refl

pub last_is : (p : TagPlace) (g : Inline) (f : Open) (fs : List Open) (t : WideTree) (r : Result (Option Spot) Memory)
    → t ≡ grown g → IfOk r (λ next. IsState next (behind_argument p (open_with_child f t) fs))
    → IfOk r (λ next. IsState next (last_argument (Some p) (inline p g) (f ∷ fs)))
last_is p g f fs t r e h =
    subst (λ m. IfOk r (λ next. IsState next m)) (ap (λ u. behind_argument p (open_with_child f u) fs) e
    ∙ argument_is_last p g f fs) h

pub ruleset start_rules = (first_block, other_label, later_block)
