-- What the machine feeds on only grows: what fits after a token fitted before it.
use mathlib.Core.Logic.{inl}
use Rattle.std.proofs.Common.{◌≡◌, ℕ, suc, ◌<◌, ◌≤◌, Bool, true, false, ◌&&◌, ◌||◌, ◌==◌, nat_lt, nat_le, if◌then◌else◌}
use Rattle.std.proofs.Common.{List, [], ◌∷◌, ◌++◌, length, map, Option, Some, None, sym, subst, length-append, arith}
use Rattle.tx_tree.specs.declared.TheConstants.{MOST_TEXT, MOST_DEPTH, MOST_NAME}
use Rattle.tx_tree.specs.Limits.{IsWithinLimits}
use Rattle.tx_tree.specs.Texts.{is_name_byte}
use Rattle.tx_tree.specs.WideTree.{WideTree, leaf, node, forest}
use Rattle.tx_tm_form.specs.declared.bytes.Escaped.{Escaped}
use Rattle.tx_tm_form.specs.declared.places.TagForm.{TagForm}
use Rattle.tx_tm_form.specs.declared.places.TagForm.TheVariants.{Short, Long, Middle, Closing}
use Rattle.tx_tm_form.specs.declared.places.TagPlace.{TagPlace}
use Rattle.tx_tm_form.specs.declared.places.TagPlace.TheVariants.{InShort, InHeader, InClosing}
use Rattle.tx_tm_form.specs.Bytes.{kind_of, escape_of, escaped_bytes, is_digit, white_of}
use Rattle.tx_tm_form.specs.Tokens.{Token, white, join, plain, escape, raw, head, bar, close, is_dropped}
use Rattle.tx_tm_form.specs.Parts.{ContentPart, gap, text, tag, raw_data_label, collection_label, same_bytes}
use Rattle.tx_tm_form.specs.Forms.{symbol_bytes}
use Rattle.tx_tm_form.specs.Growing.{Inline, grown, tree_of_block, as_block, tree_of_entry, Content, inline, blocks}
use Rattle.tx_tm_form.specs.Growing.{collecting, put_part, place_of, file_tree, long_of}
use Rattle.tx_tm_form.specs.Machine.{Open, State, reading, naming, counting, failed, go, open_with_child, in_tag}
use Rattle.tx_tm_form.specs.Machine.{closed}
use Rattle.tx_tm_form.specs.Machine.{next_argument, last_argument, next_block, last_block, header_place, begun}
use Rattle.tx_tm_form.specs.Machine.{by_escape, name_byte, name_end, feed_reading, feed_naming, feed_counting, feed}
use Rattle.tx_tm_form.specs.Machine.{ready, slashed, returned, angled, labelled, Lexed, within, done, bad, lex}
use Rattle.tx_tm_form.specs.Machine.{Bytewise, at, lost, after_lexed, step, run, Keeping, keep, state_tree, tree_in}
use Rattle.tx_tm_content.specs.ContentFits.{IsSmallTree, RowFits, ContentFits}
use Rattle.tx_tm_read.specs.Fits.{ChildrenFit, OpensFit, StateFits, ReaderFits}
use Rattle.tx_tm_content.proofs.Fitting.{within_small, left_row, right_small, node_small, node_row, grown_fits}
use Rattle.tx_tm_content.proofs.Fitting.{tree_fits}
use Rattle.tx_tm_content.proofs.Fitting.{tags_fit, put_fits, put_tag_fits}
use Rattle.tx_tm_read.proofs.Stuck.{children_there}

-- ---- one part more

opens_fit : (c : Content) (p : ContentPart) (fs : List Open) → OpensFit (put_part c p) fs → OpensFit c fs
opens_fit c p [] h = tt
opens_fit (inline q g) p (f ∷ fs) h = h
opens_fit (blocks b) p (f ∷ fs) h = h
opens_fit (collecting x) p (f ∷ fs) h = (h.0, tt, h.2, h.3)

abbrev Fit : Content → List Open → Type 0
Fit here fs = StateFits (reading here fs)

part_fit : (c : Content) (p : ContentPart) (fs : List Open) → Fit (put_part c p) fs → Fit c fs
part_fit c p fs h = (put_fits (length fs) c p h.0, opens_fit c p fs h.1)

go_fit : (c : Bool) (s : State) → StateFits (go c s) → StateFits s
go_fit true s h = h
go_fit false s h = absurd h

-- ---- tags

any_children : (c : Content) (k : ℕ) (ks : List WideTree) → RowFits k ks → ChildrenFit k c ks
any_children (inline p g) k ks h = h
any_children (blocks b) k ks h = h
any_children (collecting x) k ks h = tt

tag_fit : (w : Option TagPlace) (c : Content) (f : Open) (t : WideTree) (fs : List Open)
    → (IsSmallTree (suc (length fs)) t → ContentFits (suc (length fs)) c)
    → StateFits (in_tag w (open_with_child f t) fs)
    → Fit c (f ∷ fs)
tag_fit w c f t fs i h =
    let o = h.1 in
    let ts : RowFits (suc (length fs)) (f.children ++ t ∷ []) =
    children_there w (suc (length fs)) f.label f.children t o.1 in (
      i (right_small (suc (length fs)) f.children (t ∷ []) ts.each).0,
      (
        o.0,
        any_children c (suc (length fs)) f.children (left_row (suc (length fs)) f.children (t ∷ []) ts),
        o.2,
        o.3,
      ),
    )

depth_there : (k : ℕ) (l : List ℕ) (ts : List WideTree) → IsSmallTree k (node l (forest ts)) → k < MOST_DEPTH
depth_there k l ts h = omega (arith, h.depth)

node_fit : (c : Content) (f : Open) (t : WideTree) (fs : List Open)
    → (IsSmallTree (suc (length fs)) t → ContentFits (suc (length fs)) c) → StateFits (closed (open_with_child f t) fs)
    → Fit c (f ∷ fs)
node_fit c f t fs i h =
    let n : IsSmallTree (length fs) (node f.label (forest (f.children ++ t ∷ []))) =
    put_tag_fits (length fs) f.before false (node f.label (forest (f.children ++ t ∷ []))) h.0 in
    let ts : RowFits (suc (length fs)) (f.children ++ t ∷ []) = node_row (length fs) f.label (f.children ++ t ∷ []) n in
    let b = part_fit f.before (tag false (node f.label (forest (f.children ++ t ∷ [])))) fs h in (
      i (right_small (suc (length fs)) f.children (t ∷ []) ts.each).0,
      (
        b.0,
        any_children c (suc (length fs)) f.children (left_row (suc (length fs)) f.children (t ∷ []) ts),
        b.1,
        depth_there (length fs) f.label (f.children ++ t ∷ []) n,
      ),
    )

bar_fit : (c : Content) (fs : List Open) → StateFits (next_argument (place_of c) c fs) → Fit c fs
bar_fit (inline p g) [] h = absurd h
bar_fit (inline p g) (f ∷ fs) h = tag_fit (Some p) (inline p g) f (grown g) fs (grown_fits (suc (length fs)) g) h
bar_fit (blocks b) fs h = absurd h
bar_fit (collecting x) fs h = absurd h

close_there : (p : TagPlace) (g : Inline) (f : Open) (fs : List Open)
    → StateFits (last_argument (Some p) (inline p g) (f ∷ fs)) → Fit (inline p g) (f ∷ fs)
close_there InHeader g f fs h = tag_fit None (inline InHeader g) f (grown g) fs (grown_fits (suc (length fs)) g) h
close_there InShort g f fs h = node_fit (inline InShort g) f (grown g) fs (grown_fits (suc (length fs)) g) h
close_there InClosing g f fs h = node_fit (inline InClosing g) f (grown g) fs (grown_fits (suc (length fs)) g) h

no_close : (p : TagPlace) (c : Content) → StateFits (last_argument (Some p) c []) → ⊥
no_close InShort c h = h
no_close InHeader c h = h
no_close InClosing c h = h

close_fit : (c : Content) (fs : List Open) → StateFits (last_argument (place_of c) c fs) → Fit c fs
close_fit (inline p g) [] h = absurd (no_close p (inline p g) h)
close_fit (inline p g) (f ∷ fs) h = close_there p g f fs h
close_fit (blocks b) fs h = absurd h
close_fit (collecting x) fs h = absurd h

next_fit : (l : List ℕ) (w : Option TagPlace) (c : Content) (fs : List Open)
    → StateFits (next_block (place_of c) l w c fs) → Fit c fs
next_fit l w (inline p g) fs h = absurd h
next_fit l w (blocks b) [] h = absurd h
next_fit l w (collecting x) [] h = absurd h
next_fit l w (blocks b) (f ∷ fs) h =
    tag_fit w (blocks b) f (tree_of_block b) fs (tree_fits (suc (length fs)) b)
    (go_fit (same_bytes l f.label) (in_tag w (open_with_child f (tree_of_block b)) fs) h)
next_fit l w (collecting x) (f ∷ fs) h =
    tag_fit w (collecting x) f (tree_of_block (as_block x)) fs
    (λ i. tags_fit (suc (length fs)) x (tree_fits (suc (length fs)) (as_block x) i))
    (go_fit (same_bytes l f.label) (in_tag w (open_with_child f (tree_of_block (as_block x))) fs) h)

last_fit : (l : List ℕ) (c : Content) (fs : List Open) → StateFits (last_block (place_of c) l c fs) → Fit c fs
last_fit l (inline p g) fs h = absurd h
last_fit l (blocks b) [] h = absurd h
last_fit l (collecting x) [] h = absurd h
last_fit l (blocks b) (f ∷ fs) h =
    node_fit (blocks b) f (tree_of_block b) fs (tree_fits (suc (length fs)) b)
    (go_fit (same_bytes l f.label) (closed (open_with_child f (tree_of_block b)) fs) h)
last_fit l (collecting x) (f ∷ fs) h =
    let i = go_fit (same_bytes l f.label)
    (reading (put_part f.before (long_of f.label f.children (collecting x))) fs) h in
    let n : IsSmallTree (length fs) (node collection_label (forest (map tree_of_entry x.entries))) =
    put_tag_fits (length fs) f.before true (node collection_label (forest (map tree_of_entry x.entries))) i.0 in
    let b = part_fit f.before (tag true (node collection_label (forest (map tree_of_entry x.entries)))) fs i in (
      inl (node_row (length fs) collection_label (map tree_of_entry x.entries) n),
      (b.0, tt, b.1, depth_there (length fs) collection_label (map tree_of_entry x.entries) n),
    )

begun_fit : (form : TagForm) (more : Bool) (l : List ℕ) (c : Content) (fs : List Open)
    → StateFits (begun form more l c fs) → Fit c fs
begun_fit Short true l c fs h = (h.1.0, h.1.2)
begun_fit Short false l c fs h = part_fit c (tag false (node l (forest []))) fs h
begun_fit Long more l c fs h = (h.1.0, h.1.2)
begun_fit Middle more l c fs h = next_fit l (header_place more) c fs h
begun_fit Closing true l c fs h = next_fit l (Some InClosing) c fs h
begun_fit Closing false l c fs h = last_fit l c fs h

-- ---- one token more

escape_fit : (o : Option Escaped) (b : ℕ) (c : Content) (fs : List Open) → StateFits (by_escape o b c fs) → Fit c fs
escape_fit (Some e) b c fs h = part_fit c (text (escaped_bytes e)) fs h
escape_fit None b c fs h = go_fit (b == 60) (naming [] c fs) h

reading_fit : (t : Token) (c : Content) (fs : List Open) → StateFits (feed_reading c fs t) → Fit c fs
reading_fit (white b) c fs h = part_fit c (gap (white_of b)) fs h
reading_fit (join r) c fs h = absurd h
reading_fit (plain b) c fs h = part_fit c (text (b ∷ [])) fs h
reading_fit (escape b) c fs h = escape_fit (escape_of b) b c fs h
reading_fit raw c fs h = (h.1, h.2)
reading_fit (head form l more) c fs h = begun_fit form more l c fs h
reading_fit bar c fs h = bar_fit c fs h
reading_fit close c fs h = close_fit c fs h

naming_fit : (t : Token) (n : List ℕ) (c : Content) (fs : List Open) → StateFits (feed_naming n c fs t) → Fit c fs
naming_fit (plain b) n c fs h = go_fit (is_name_byte b && nat_lt (length n) MOST_NAME) (naming (n ++ b ∷ []) c fs) h
naming_fit (escape b) n c fs h =
    elim (b == 62) as (λ z. StateFits (if z then name_end n c fs else name_byte (b == 124 || b == 92) n b c fs)
    → Fit c fs) [
      | true ↦ λ i.
          part_fit c (text (symbol_bytes n)) fs
          (go_fit (nat_le 1 (length n)) (reading (put_part c (text (symbol_bytes n))) fs) i)
      | false ↦ λ i. go_fit ((b == 124 || b == 92) && nat_lt (length n) MOST_NAME) (naming (n ++ b ∷ []) c fs) i
    ] h
naming_fit _ n c fs h = absurd h

counting_fit : (t : Token) (ds : List ℕ) (c : Content) (fs : List Open) → StateFits (feed_counting ds c fs t)
    → (length ds ≤ MOST_TEXT) × ContentFits (length fs) c × OpensFit c fs
counting_fit (plain b) ds c fs h = let i = go_fit (is_digit b) (counting (ds ++ b ∷ []) c fs) h in
    (omega (arith, i.0, length-append ds (b ∷ [])), i.1, i.2)
counting_fit close ds c fs h =
    let b = part_fit c (tag false (node raw_data_label (forest (leaf ds ∷ [])))) fs h in
    let n : IsSmallTree (length fs) (node raw_data_label (forest (leaf ds ∷ []))) =
    put_tag_fits (length fs) c false (node raw_data_label (forest (leaf ds ∷ []))) h.0 in
    ((node_small (length fs) raw_data_label (leaf ds ∷ []) n).0.text, b.0, b.1)
counting_fit _ ds c fs h = absurd h

feed_fit : (s : State) (t : Token) → StateFits (feed s t) → StateFits s
unfolding feed
feed_fit (reading c fs) t h = reading_fit t c fs h
feed_fit (naming n c fs) t h = naming_fit t n c fs h
feed_fit (counting ds c fs) t h = counting_fit t ds c fs h
feed_fit failed t h = h

-- ---- bytes

abbrev state_in : Keeping → State
state_in k = k.state

keep_fit : (k : Keeping) (t : Token) → StateFits (keep k t).state → StateFits k.state
keep_fit k t h =
    elim (is_dropped k.behind_join t) as
    (λ z. StateFits
    (state_in (if z then record { behind_join = true; state = k.state } else record {
      behind_join = false;
      state = feed k.state t;
    })) → StateFits k.state) [
      | true ↦ λ i. i
      | false ↦ λ i. feed_fit k.state t i
    ] h

given_fit : (r : Lexed) (k : Keeping) → ReaderFits (after_lexed keep k r) → StateFits k.state
given_fit (within q) k h = h
given_fit (done t) k h = keep_fit k t h
given_fit bad k h = absurd h

step_fit : (w : Bytewise Keeping) (b : ℕ) → ReaderFits (step keep w b) → ReaderFits w
step_fit (at q k) b h = given_fit (lex q (kind_of b) b) k h
step_fit lost b h = h

run_fit : (y : List ℕ) (w : Bytewise Keeping) → ReaderFits (run keep w y) → ReaderFits w
run_fit [] w h = h
run_fit (b ∷ y) w h = step_fit w b (run_fit y (step keep w b) h)

file_fit : (c : Content) (t : WideTree) → file_tree c ≡ Some t → IsSmallTree 0 t → ContentFits 0 c
file_fit (inline p g) t e h = absurd cc
file_fit (blocks b) t e h = let same : tree_of_block b ≡ t = cc in tree_fits 0 b (subst (IsSmallTree 0) (sym same) h)
file_fit (collecting x) t e h = let same : tree_of_block (as_block x) ≡ t =
    cc in tags_fit 0 x (tree_fits 0 (as_block x) (subst (IsSmallTree 0) (sym same) h))

state_fit : (s : State) (t : WideTree) → state_tree s ≡ Some t → IsSmallTree 0 t → StateFits s
state_fit (reading c []) t e h = (file_fit c t e h, tt)
state_fit (reading c (f ∷ fs)) t e h = absurd cc
state_fit (naming n c fs) t e h = absurd cc
state_fit (counting ds c fs) t e h = absurd cc
state_fit failed t e h = absurd cc

whole_fit : (w : Bytewise Keeping) (t : WideTree) → tree_in w ≡ Some t → IsSmallTree 0 t → ReaderFits w
whole_fit (at ready k) t e h = state_fit k.state t e h
whole_fit (at slashed k) t e h = absurd cc
whole_fit (at returned k) t e h = absurd cc
whole_fit (at angled k) t e h = absurd cc
whole_fit (at (labelled form l) k) t e h = absurd cc
whole_fit lost t e h = absurd cc

-- where a tree within the limits is read in the end, the reader fits all the way
pub reader_fits : (w : Bytewise Keeping) (y : List ℕ) (t : WideTree) → tree_in (run keep w y) ≡ Some t
    → IsWithinLimits t → ReaderFits w
reader_fits w y t e h = run_fit y w (whole_fit (run keep w y) t e (within_small t h))
