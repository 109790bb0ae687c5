-- What grows from something too big is too big.
use mathlib.Core.Logic.{inl, inr}
use Rattle.std.proofs.Common.{◌≡◌, ℕ, suc, ◌+◌, ◌≤◌, Bool, true, false, if◌then◌else◌, List, [], ◌∷◌, ◌++◌, length, map}
use Rattle.std.proofs.Common.{Option, Some, None, refl, sym, subst, length-append, arith}
use Rattle.std.proofs.lemmas.List.{map-append}
use Rattle.tx_tree.specs.declared.TheConstants.{MOST_TEXT, MOST_ARITY, MOST_DEPTH, MOST_SIZE}
use Rattle.tx_tree.specs.Limits.{IsWithinLimits}
use Rattle.tx_tree.specs.WideTree.{WideTree, node, forest, longest_text, widest, deepest, size_of, total_size}
use Rattle.tx_tree.proofs.Children.{total_size-append}
use Rattle.tx_tm_form.specs.declared.bytes.White.{White}
use Rattle.tx_tm_form.specs.declared.bytes.White.TheVariants.{Spaces, Line, Break}
use Rattle.tx_tm_form.specs.declared.places.Stage.{Stage}
use Rattle.tx_tm_form.specs.declared.places.Stage.TheVariants.{Empty, Alone, Ordinary}
use Rattle.tx_tm_form.specs.Parts.{ContentPart, gap, text, tag, leaf_before, concat_of, concat_label, document_label}
use Rattle.tx_tm_form.specs.Growing.{Inline, no_parts, grow, grown, Block, no_paragraphs, longer, with_white, ended}
use Rattle.tx_tm_form.specs.Growing.{resumed, first_stage, with_part, widen, stage_tree, tree_of_block, CollectionEntry}
use Rattle.tx_tm_form.specs.Growing.{Tags}
use Rattle.tx_tm_form.specs.Growing.{tree_of_entry, behind_run, with_entries, as_block, Content, inline, blocks}
use Rattle.tx_tm_form.specs.Growing.{collecting, put_part}
use Rattle.tx_tm_form.proofs.Growth.{entries_append}
use Rattle.tx_tm_content.specs.ContentFits.{IsSmallTree, AreSmallTrees, RowFits, LineFits, BlockFitsAt, BlockFits}
use Rattle.tx_tm_content.specs.ContentFits.{TagRowFits}
use Rattle.tx_tm_content.specs.ContentFits.{TagsFit}
use Rattle.tx_tm_content.specs.ContentFits.{ContentFits}
use Rattle.tx_tm_content.proofs.Made.{arity_least}

-- ---- trees

pub small_within : (k : ℕ) (t : WideTree) → IsSmallTree k t → IsWithinLimits t
small_within k t h = record { text = h.text; arity = h.arity; depth = omega (arith, h.depth); size = h.size }

pub within_small : (t : WideTree) → IsWithinLimits t → IsSmallTree 0 t
within_small t h = record { text = h.text; arity = h.arity; depth = omega (arith, h.depth); size = h.size }

pub small_inside : (k : ℕ) (t : WideTree) → IsSmallTree (suc k) t → IsSmallTree k t
small_inside k t h = record { text = h.text; arity = h.arity; depth = omega (arith, h.depth); size = h.size }

pub all_inside : (k : ℕ) (ts : List WideTree) → AreSmallTrees (suc k) ts → AreSmallTrees k ts
all_inside k [] h = tt
all_inside k (t ∷ ts) h = (small_inside k t h.0, all_inside k ts h.1)

children_small : (k : ℕ) (ts : List WideTree) → longest_text (forest ts) ≤ MOST_TEXT → widest (forest ts) ≤ MOST_ARITY
    → deepest (forest ts) + suc k ≤ MOST_DEPTH → total_size (forest ts) ≤ MOST_SIZE → AreSmallTrees (suc k) ts
children_small k [] a b c d = tt
children_small k (t ∷ ts) a b c d = (
  record { text = omega (arith, a); arity = omega (arith, b); depth = omega (arith, c); size = omega (arith, d) },
  children_small k ts (omega (arith, a)) (omega (arith, b)) (omega (arith, c)) (omega (arith, d)),
)

pub node_small : (k : ℕ) (l : List ℕ) (ts : List WideTree) → IsSmallTree k (node l (forest ts))
    → AreSmallTrees (suc k) ts
node_small k l ts h =
    children_small k ts h.text (omega (arith, h.arity)) (omega (arith, h.depth)) (omega (arith, h.size))

pub left_small : (k : ℕ) (ts us : List WideTree) → AreSmallTrees k (ts ++ us) → AreSmallTrees k ts
left_small k [] us h = tt
left_small k (t ∷ ts) us h = (h.0, left_small k ts us h.1)

pub right_small : (k : ℕ) (ts us : List WideTree) → AreSmallTrees k (ts ++ us) → AreSmallTrees k us
right_small k [] us h = h
right_small k (t ∷ ts) us h = right_small k ts us h.1

pub last_small : (k : ℕ) (ts : List WideTree) (t : WideTree) → AreSmallTrees k (ts ++ t ∷ []) → IsWithinLimits t
last_small k ts t h = small_within k t (right_small k ts (t ∷ []) h).0

pub last_within : (l : List ℕ) (ts : List WideTree) (t : WideTree) → IsWithinLimits (node l (forest (ts ++ t ∷ [])))
    → IsWithinLimits t
last_within l ts t h =
    last_small 1 ts t (node_small 0 l (ts ++ t ∷ []) (within_small (node l (forest (ts ++ t ∷ []))) h))

-- ---- rows

pub node_row : (k : ℕ) (l : List ℕ) (ts : List WideTree) → IsSmallTree k (node l (forest ts)) → RowFits (suc k) ts
node_row k l ts h =
    record { each = node_small k l ts h; few = omega (arith, h.arity, arity_least l ts); light = omega (arith, h.size) }

pub row_inside : (k : ℕ) (ts : List WideTree) → RowFits (suc k) ts → RowFits k ts
row_inside k ts h = record { each = all_inside k ts h.each; few = h.few; light = h.light }

pub left_row : (k : ℕ) (ts us : List WideTree) → RowFits k (ts ++ us) → RowFits k ts
left_row k ts us h =
    record {
      each = left_small k ts us h.each;
      few = omega (arith, h.few, length-append ts us);
      light = omega (arith, h.light, total_size-append ts us);
    }

pub no_row : (k : ℕ) → RowFits k []
no_row k = record { each = tt; few = omega arith; light = omega arith }

one_row : (k : ℕ) (t : WideTree) → IsSmallTree k t → RowFits k (t ∷ [])
one_row k t h = record { each = (h, tt); few = omega arith; light = omega (arith, h.size) }

pub last_row : (l : List ℕ) (ts : List WideTree) → ((k : ℕ) → RowFits k ts → ⊥) → IsWithinLimits (node l (forest ts))
    → ⊥
last_row l ts h w = h 1 (node_row 0 l ts (within_small (node l (forest ts)) w))

-- ---- lines

pub concat_row : (k : ℕ) (ts : List WideTree) → IsSmallTree k (concat_of ts) → RowFits k ts
concat_row k [] h = no_row k
concat_row k (t ∷ []) h = one_row k t h
concat_row k (t ∷ u ∷ ts) h = row_inside k (t ∷ u ∷ ts) (node_row k concat_label (t ∷ u ∷ ts) h)

pub concat_too_long : (ts : List WideTree) → ((k : ℕ) → RowFits k ts → ⊥) → IsWithinLimits (concat_of ts) → ⊥
concat_too_long ts h w = h 0 (concat_row 0 ts (within_small (concat_of ts) w))

pub tagged_row : (g : Inline) (t : WideTree) (row : List WideTree) → row ≡ g.done ++ leaf_before g.bytes []
    → ((k : ℕ) → RowFits k (row ++ t ∷ []) → ⊥) → (k : ℕ) → LineFits k (grow g (tag false t)) → ⊥
tagged_row g t row e h k f = h k (subst (λ z. RowFits k (z ++ t ∷ [])) (sym e) f.done)

-- a paragraph that ends is one too many
pub full_row : (full : List WideTree) (now : Inline) (t : WideTree) → t ≡ grown now
    → ((k : ℕ) → RowFits k (full ++ t ∷ []) → ⊥) → (k : ℕ) → RowFits k (ended (Some Break) full now)
    → LineFits k (resumed (Some Break) now) → ⊥
full_row full now t e h k f i = h k (subst (λ z. RowFits k (full ++ z ∷ [])) (sym e) f)

pub whole_row : (l : List ℕ) (ts : List WideTree) (t u : WideTree) → u ≡ t → ((k : ℕ) → RowFits k (ts ++ u ∷ []) → ⊥)
    → IsWithinLimits (node l (forest (ts ++ t ∷ []))) → ⊥
whole_row l ts t u e h = last_row l (ts ++ t ∷ []) (λ k f. h k (subst (λ z. RowFits k (ts ++ z ∷ [])) (sym e) f))

pub tag_row : (g : Inline) (t : WideTree) → ((k : ℕ) → RowFits k (g.done ++ leaf_before g.bytes []) → ⊥) → (k : ℕ)
    → LineFits k (grow g (tag false t)) → ⊥
tag_row g t h k f = h k (left_row k (g.done ++ leaf_before g.bytes []) (t ∷ []) f.done)

bytes_short : (k : ℕ) (s : List ℕ) → AreSmallTrees k (leaf_before s []) → length s ≤ MOST_TEXT
bytes_short k [] h = omega arith
bytes_short k (b ∷ s) h = h.0.text

trees_fit : (k : ℕ) (g : Inline) → RowFits k (g.done ++ leaf_before g.bytes []) → LineFits k g
trees_fit k g h =
    record {
      done = left_row k g.done (leaf_before g.bytes []) h;
      short = bytes_short k g.bytes (right_small k g.done (leaf_before g.bytes []) h.each);
    }

pub grown_fits : (k : ℕ) (g : Inline) → IsSmallTree k (grown g) → LineFits k g
grown_fits k g h = trees_fit k g (concat_row k (g.done ++ leaf_before g.bytes []) h)

space_short : (r : Bool) (s : List ℕ) → length (if r then s else s ++ 32 ∷ []) ≤ MOST_TEXT → length s ≤ MOST_TEXT
space_short true s h = h
space_short false s h = omega (arith, length-append s (32 ∷ []))

-- a paragraph is as big as its trees
concat_light : (ts : List WideTree) → total_size (forest ts) ≤ size_of (concat_of ts)
concat_light [] = omega arith
concat_light (t ∷ []) = omega arith
concat_light (t ∷ u ∷ ts) = omega arith

pub grown_light : (g : Inline) → total_size (forest g.done) ≤ size_of (grown g)
grown_light g =
    omega (arith, concat_light (g.done ++ leaf_before g.bytes []), total_size-append g.done (leaf_before g.bytes []))

pub grow_light : (g : Inline) (p : ContentPart) → total_size (forest g.done) ≤ total_size (forest (grow g p).done)
grow_light g (gap w) = omega arith
grow_light g (text x) = omega arith
grow_light g (tag c t) =
    omega (
      arith,
      total_size-append (g.done ++ leaf_before g.bytes []) (t ∷ []),
      total_size-append g.done (leaf_before g.bytes []),
    )

pub grow_fits : (k : ℕ) (g : Inline) (p : ContentPart) → LineFits k (grow g p) → LineFits k g
grow_fits k g (gap w) h = record { done = h.done; short = space_short g.in_run g.bytes h.short }
grow_fits k g (text x) h = record { done = h.done; short = omega (arith, length-append g.bytes x, h.short) }
grow_fits k g (tag c t) h = trees_fit k g (left_row k (g.done ++ leaf_before g.bytes []) (t ∷ []) h.done)

-- ---- blocks

pub tree_fits : (k : ℕ) (b : Block) → IsSmallTree k (tree_of_block b) → BlockFits k b
tree_fits k b h =
    elim b.stage as (λ s. IsSmallTree k (stage_tree s b) → BlockFitsAt s k b) [
      | Empty ↦ λ i. tt
      | Alone ↦ λ i. grown_fits k b.now i
      | Ordinary ↦ λ i.
          let all : RowFits k (b.full ++ grown b.now ∷ []) =
          row_inside k (b.full ++ grown b.now ∷ []) (node_row k document_label (b.full ++ grown b.now ∷ []) i) in (
            left_row k b.full (grown b.now ∷ []) all,
            grown_fits k b.now (right_small k b.full (grown b.now ∷ []) all.each).0,
            omega (arith, all.light, total_size-append b.full (grown b.now ∷ []), grown_light b.now),
          )
    ] h

-- what an ordinary block has to be
abbrev Both : ℕ → List WideTree → Inline → Type 0
Both k full now =
    RowFits k full × LineFits k now × (total_size (forest full) + total_size (forest now.done) ≤ MOST_SIZE)

ended_fits : (k : ℕ) (r : Option White) (full : List WideTree) (now : Inline) (p : ContentPart)
    → Both k (ended r full now) (grow (resumed r now) p) → Both k full now
ended_fits k None full now p h = (h.0, grow_fits k now p h.1, omega (arith, h.2, grow_light now p))
ended_fits k (Some Spaces) full now p h = (
  h.0,
  grow_fits k now (gap Spaces) (grow_fits k (grow now (gap Spaces)) p h.1),
  omega (arith, h.2, grow_light (grow now (gap Spaces)) p),
)
ended_fits k (Some Line) full now p h = (
  h.0,
  grow_fits k now (gap Line) (grow_fits k (grow now (gap Line)) p h.1),
  omega (arith, h.2, grow_light (grow now (gap Line)) p),
)
ended_fits k (Some Break) full now p h = (
  left_row k full (grown now ∷ []) h.0,
  grown_fits k now (right_small k full (grown now ∷ []) h.0.each).0,
  omega (arith, h.0.light, total_size-append full (grown now ∷ []), grown_light now),
)

part_fits : (k : ℕ) (b : Block) (p : ContentPart) (s : Stage) → BlockFits k (with_part s b p) → BlockFitsAt s k b
part_fits k b p Empty h = tt
part_fits k b p Alone h = (ended_fits k b.run b.full b.now p h).1
part_fits k b p Ordinary h = ended_fits k b.run b.full b.now p h

white_fits : (k : ℕ) (s : Stage) (b : Block) (w : White) → b.stage ≡ s → BlockFits k (with_white s b w)
    → BlockFitsAt s k b
white_fits k Empty b w e h = tt
white_fits k Alone b w e h =
    subst (λ s. BlockFitsAt s k (record { full = b.full; now = b.now; run = Some (longer b.run w); stage = b.stage })) e
    h
white_fits k Ordinary b w e h =
    subst (λ s. BlockFitsAt s k (record { full = b.full; now = b.now; run = Some (longer b.run w); stage = b.stage })) e
    h

pub widen_fits : (k : ℕ) (b : Block) (p : ContentPart) → BlockFits k (widen b p) → BlockFits k b
widen_fits k b (gap w) h = white_fits k b.stage b w refl h
widen_fits k b (text x) h = part_fits k b (text x) b.stage h
widen_fits k b (tag c t) h = part_fits k b (tag c t) b.stage h

pub run_fits : (k : ℕ) (b : Block) (r : Option White) → BlockFits k (behind_run b r) → BlockFits k b
run_fits k b None h = h
run_fits k b (Some w) h = widen_fits k b (gap w) h

line_tag : (k : ℕ) (g : Inline) (c : Bool) (t : WideTree) → LineFits k (grow g (tag c t)) → IsSmallTree k t
line_tag k g c t h = (right_small k (g.done ++ leaf_before g.bytes []) (t ∷ []) h.done.each).0

first_tag : (k : ℕ) (f : List WideTree) (c : Bool) (t : WideTree) (n : Inline)
    → BlockFitsAt (first_stage (tag c t)) k
    (record { full = f; now = grow n (tag c t); run = None; stage = first_stage (tag c t) }) → IsSmallTree k t
first_tag k f true t n h = line_tag k n true t h
first_tag k f false t n h = line_tag k n false t h.1

block_tag : (k : ℕ) (b : Block) (c : Bool) (t : WideTree) (s : Stage) → BlockFits k (with_part s b (tag c t))
    → IsSmallTree k t
block_tag k b c t Empty h = first_tag k [] c t no_parts h
block_tag k b c t Alone h = line_tag k (resumed b.run b.now) c t h.1
block_tag k b c t Ordinary h = line_tag k (resumed b.run b.now) c t h.1

-- ---- tags and white

pub entries_fit : (k : ℕ) (es : List CollectionEntry) (b : Block) → BlockFits k (with_entries b es)
    → BlockFits k b × AreSmallTrees k (map tree_of_entry es)
entries_fit k [] b h = (h, tt)
entries_fit k (e ∷ es) b h =
    let i = entries_fit k es (widen (behind_run b e.before) (tag e.collects e.tree)) h in (
      run_fits k b e.before (widen_fits k (behind_run b e.before) (tag e.collects e.tree) i.0),
      (block_tag k (behind_run b e.before) e.collects e.tree (behind_run b e.before).stage i.0, i.1),
    )

pub tags_fit : (k : ℕ) (x : Tags) → BlockFits k (as_block x) → TagsFit k x
tags_fit k x h = inr (run_fits k (with_entries no_paragraphs x.entries) x.run h)

-- ---- content

abbrev Wider : Tags → Bool → WideTree → List CollectionEntry
Wider x c t = x.entries ++ record { before = x.run; collects = c; tree = t } ∷ []

wider_block : (k : ℕ) (x : Tags) (c : Bool) (t : WideTree) → BlockFits k (with_entries no_paragraphs (Wider x c t))
    → BlockFits k (widen (as_block x) (tag c t))
wider_block k x c t h =
    subst (BlockFits k)
    (entries_append x.entries (record { before = x.run; collects = c; tree = t } ∷ []) no_paragraphs) h

wider_row : (k : ℕ) (x : Tags) (c : Bool) (t : WideTree) → RowFits k (map tree_of_entry (Wider x c t))
    → RowFits k (map tree_of_entry x.entries ++ t ∷ [])
wider_row k x c t h =
    subst (RowFits k) (map-append tree_of_entry x.entries (record { before = x.run; collects = c; tree = t } ∷ [])) h

fewer_tags : (k : ℕ) (x : Tags) (c : Bool) (t : WideTree) → TagRowFits k (Wider x c t) → TagsFit k x
fewer_tags k x c t (inl h) = inl (left_row k (map tree_of_entry x.entries) (t ∷ []) (wider_row k x c t h))
fewer_tags k x c t (inr h) = tags_fit k x (widen_fits k (as_block x) (tag c t) (wider_block k x c t h))

last_tag : (k : ℕ) (x : Tags) (c : Bool) (t : WideTree) → TagRowFits k (Wider x c t) → IsSmallTree k t
last_tag k x c t (inl h) = (right_small k (map tree_of_entry x.entries) (t ∷ []) (wider_row k x c t h).each).0
last_tag k x c t (inr h) = block_tag k (as_block x) c t (as_block x).stage (wider_block k x c t h)

pub put_fits : (k : ℕ) (c : Content) (p : ContentPart) → ContentFits k (put_part c p) → ContentFits k c
put_fits k (inline q g) p h = grow_fits k g p h
put_fits k (blocks b) p h = widen_fits k b p h
put_fits k (collecting x) (gap w) h = h
put_fits k (collecting x) (text s) h = tags_fit k x (widen_fits k (as_block x) (text s) h)
put_fits k (collecting x) (tag c t) h = fewer_tags k x c t h

pub put_tag_fits : (k : ℕ) (c : Content) (e : Bool) (t : WideTree) → ContentFits k (put_part c (tag e t))
    → IsSmallTree k t
put_tag_fits k (inline q g) e t h = line_tag k g e t h
put_tag_fits k (blocks b) e t h = block_tag k b e t b.stage h
put_tag_fits k (collecting x) e t h = last_tag k x e t h
