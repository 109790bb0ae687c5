-- The machine with measures counts what the machine with trees makes.
use Rattle.std.proofs.Common.{◌≡◌, ℕ, ◌+◌, max, Bool, true, false, ◌==◌, ◌||◌, ◌&&◌, nat_lt, nat_le, if◌then◌else◌}
use Rattle.std.proofs.Common.{List, [], ◌∷◌, ◌++◌, length, map, Option, Some, None, refl, sym, ap, subst, ◌∙◌}
use Rattle.std.proofs.Common.{length-append, arith}
use Rattle.std.proofs.lemmas.List.{append-nil, map-append}
use Rattle.tx_tree.specs.declared.TheConstants.{MOST_NAME}
use Rattle.tx_tree.specs.Texts.{is_name_byte}
use Rattle.tx_tree.specs.WideTree.{WideTree, leaf, node, forest, longest_text, widest, deepest, count}
use Rattle.tx_tree.proofs.Children.{count-forest, total_size-append, deepest-append, widest-append, longest_text-append}
use Rattle.tx_tm_form.specs.declared.bytes.White.{White}
use Rattle.tx_tm_form.specs.declared.bytes.White.TheVariants.{Spaces, Line, Break}
use Rattle.tx_tm_form.specs.declared.bytes.Escaped.{Escaped}
use Rattle.tx_tm_form.specs.declared.places.TagForm.{TagForm}
use Rattle.tx_tm_form.specs.declared.places.TagForm.TheVariants.{Short, Long, Middle, Closing}
use Rattle.tx_tm_form.specs.declared.places.TagPlace.{TagPlace}
use Rattle.tx_tm_form.specs.declared.places.TagPlace.TheVariants.{InShort, InHeader, InClosing}
use Rattle.tx_tm_form.specs.declared.places.Stage.{Stage}
use Rattle.tx_tm_form.specs.declared.places.Stage.TheVariants.{Empty, Alone, Ordinary}
use Rattle.tx_tm_form.specs.declared.measures.Sums.{Sums}
use Rattle.tx_tm_form.specs.declared.measures.LineSums.{LineSums}
use Rattle.tx_tm_form.specs.declared.measures.BlockSums.{BlockSums}
use Rattle.tx_tm_form.specs.declared.measures.ContentSums.{ContentSums}
use Rattle.tx_tm_form.specs.declared.measures.ContentSums.TheVariants as of
use Rattle.tx_tm_form.specs.declared.measures.PartSums.{PartSums}
use Rattle.tx_tm_form.specs.declared.measures.PartSums.TheVariants.{Gap, Text, Tag}
use Rattle.tx_tm_form.specs.declared.measures.OpenSums.{OpenSums}
use Rattle.tx_tm_form.specs.declared.measures.Within.{Within}
use Rattle.tx_tm_form.specs.declared.measures.Within.TheVariants.{Parts, Symbol, Digits}
use Rattle.tx_tm_form.specs.Bytes.{kind_of, escape_of, escaped_bytes, is_digit, white_of}
use Rattle.tx_tm_form.specs.Tokens.{Token, white, join, plain, escape, raw, head, bar, close, is_dropped}
use Rattle.tx_tm_form.specs.Parts.{ContentPart, gap, text, tag, concat_label, leaf_before, concat_of, document_label}
use Rattle.tx_tm_form.specs.Parts.{collection_label, raw_data_label, same_bytes, none}
use Rattle.tx_tm_form.specs.Forms.{symbol_bytes, Spells}
use Rattle.tx_tm_form.specs.Growing.{Inline, no_parts, grow, grown, Block, no_paragraphs, with_white, ended, resumed}
use Rattle.tx_tm_form.specs.Growing.{first_stage, with_part, widen, stage_tree, tree_of_block, CollectionEntry, no_tags}
use Rattle.tx_tm_form.specs.Growing.{tree_of_entry, with_entries, as_block, Content, inline, blocks, collecting}
use Rattle.tx_tm_form.specs.Growing.{put_part}
use Rattle.tx_tm_form.specs.Growing.{place_of, tree_as_argument, tree_as_block, file_tree, long_of, opened_content}
use Rattle.tx_tm_form.specs.Machine.{Open, State, reading, naming, counting, failed, go, open_tag, open_with_child}
use Rattle.tx_tm_form.specs.Machine.{in_tag}
use Rattle.tx_tm_form.specs.Machine.{next_argument, last_argument, next_block, last_block, header_place, begun}
use Rattle.tx_tm_form.specs.Machine.{by_escape, name_byte, name_end, feed_reading, feed_naming, feed_counting, feed}
use Rattle.tx_tm_form.specs.Machine.{ready, slashed, returned, angled, labelled, Lexed, within, done, bad, lex}
use Rattle.tx_tm_form.specs.Machine.{Bytewise, at, lost, after_lexed, step, run, Keeping, keep, start, state_tree}
use Rattle.tx_tm_form.specs.Machine.{tree_in}
use Rattle.tx_tm_form.specs.Machine.{reads}
use Rattle.tx_tm_form.specs.Measures.{sums_of, no_sums, both, leaf_sums, node_sums, concat_sums, line_so_far, no_line}
use Rattle.tx_tm_form.specs.Measures.{ended_line, line_sums, grow_line, block_sums_of, no_block, first_stage_of}
use Rattle.tx_tm_form.specs.Measures.{ended_sums, resumed_line, white_block, part_block, widen_block, block_sums_at}
use Rattle.tx_tm_form.specs.Measures.{block_sums, put_sums, tag_place, argument_sums, body_sums, long_sums}
use Rattle.tx_tm_form.specs.Measures.{opening_sums}
use Rattle.tx_tm_form.specs.Measures.{Gauge, gauge_between, open_sums, in_open, with_child_sums, closed_open, bar_gauge}
use Rattle.tx_tm_form.specs.Measures.{close_gauge}
use Rattle.tx_tm_form.specs.Measures.{next_gauge, last_gauge, begun_gauge, escape_gauge, part_gauge, name_gauge}
use Rattle.tx_tm_form.specs.Measures.{symbol_gauge, digit_gauge, feed_gauge, Gauged, keep_gauge, start_gauge}
use Rattle.tx_tm_form.specs.Measures.{IsMeasured}
use Rattle.tx_tm_form.proofs.Growth.{longer_run, entries_append}
use Rattle.tx_tm_form.proofs.Words.{spelled_is_read}
use Rattle.tx_tm_form.proofs.Stops.{keeping}

-- ---- trees

same_sums : (a b : Sums) → a.count ≡ b.count → a.text ≡ b.text → a.arity ≡ b.arity → a.depth ≡ b.depth → a.size ≡ b.size
    → a ≡ b
same_sums a b h i j k l = rw (h, i, j, k, l) refl

max_zero : (n : ℕ) → max n 0 ≡ n
max_zero n = omega arith

sums_append : (us vs : List WideTree) → sums_of (us ++ vs) ≡ both (sums_of us) (sums_of vs)
sums_append us vs =
    same_sums (sums_of (us ++ vs)) (both (sums_of us) (sums_of vs)) (length-append us vs) (longest_text-append us vs)
    (widest-append us vs) (deepest-append us vs) (total_size-append us vs)

sums_leaf : (s : List ℕ) → sums_of (leaf s ∷ []) ≡ leaf_sums (length s)
sums_leaf s =
    same_sums (sums_of (leaf s ∷ [])) (leaf_sums (length s)) refl (max_zero (length s)) refl refl (omega arith)

sums_node : (l : List ℕ) (ts : List WideTree) → sums_of (node l (forest ts) ∷ []) ≡ node_sums (sums_of ts)
sums_node l ts =
    same_sums (sums_of (node l (forest ts) ∷ [])) (node_sums (sums_of ts)) refl (max_zero (longest_text (forest ts)))
    (max_zero (max (count (forest ts)) (widest (forest ts))) ∙ ap (λ n. max n (widest (forest ts))) (count-forest ts))
    (max_zero (1 + deepest (forest ts))) (omega arith)

more_than_one : (n : ℕ) (a b c : Sums) → c ≡ (if (n + 2) == 0 then a else if (n + 2) == 1 then b else c)
more_than_one n a b c = grind arith

sums_concat : (ts : List WideTree) → sums_of (concat_of ts ∷ []) ≡ concat_sums (sums_of ts)
sums_concat [] = sums_leaf []
sums_concat (t ∷ []) = refl
sums_concat (t ∷ u ∷ ts) =
    let n : length (t ∷ u ∷ ts) ≡ length ts + 2 = omega arith in
    let s = sums_of (t ∷ u ∷ ts) in
    sums_node concat_label (t ∷ u ∷ ts) ∙ more_than_one (length ts) (leaf_sums 0) s (node_sums s)
    ∙ ap (λ k. if k == 0 then leaf_sums 0 else if k == 1 then s else node_sums s) (sym n)

-- ---- lines

abbrev pub of_line : Inline → LineSums
of_line g = line_so_far (sums_of g.done) (length g.bytes) g.in_run

sums_ended : (ts : List WideTree) (s : List ℕ) (r : Bool)
    → sums_of (ts ++ leaf_before s []) ≡ ended_line (line_so_far (sums_of ts) (length s) r)
sums_ended ts [] r = ap sums_of (append-nil ts)
sums_ended ts (b ∷ s) r =
    sums_append ts (leaf (b ∷ s) ∷ [])
    ∙ ap (λ x. both (sums_of ts) x) (sums_leaf (b ∷ s))
    ∙ not_empty (length s) (length (b ∷ s)) (sums_of ts) (both (sums_of ts) (leaf_sums (length (b ∷ s)))) (omega arith)
  where
    not_empty : (n m : ℕ) (x y : Sums) → m ≡ n + 1 → y ≡ (if m == 0 then x else y)
    not_empty n m x y e = grind arith

line_is : (g : Inline) → sums_of (grown g ∷ []) ≡ line_sums (of_line g)
line_is g = sums_concat (g.done ++ leaf_before g.bytes []) ∙ ap concat_sums (sums_ended g.done g.bytes g.in_run)

abbrev pub of_part : ContentPart → PartSums
of_part (gap w) = Gap w
of_part (text x) = Text (length x)
of_part (tag c t) = Tag c (sums_of (t ∷ []))

spaced_length : (r : Bool) (s : List ℕ)
    → length (if r then s else s ++ 32 ∷ []) ≡ (if r then length s else length s + 1)
spaced_length true s = refl
spaced_length false s = length-append s (32 ∷ [])

grow_is : (g : Inline) (p : ContentPart) → of_line (grow g p) ≡ grow_line (of_line g) (of_part p)
grow_is g (gap w) = ap (λ n. line_so_far (sums_of g.done) n true) (spaced_length g.in_run g.bytes)
grow_is g (text x) = ap (λ n. line_so_far (sums_of g.done) n false) (length-append g.bytes x)
grow_is g (tag c t) =
    ap (λ s. line_so_far s 0 false) (sums_append (g.done ++ leaf_before g.bytes []) (t ∷ [])
    ∙ ap (λ s. both s (sums_of (t ∷ []))) (sums_ended g.done g.bytes g.in_run))

-- ---- blocks

abbrev pub of_block : Block → BlockSums
of_block b = block_sums_of (sums_of b.full) (of_line b.now) b.run b.stage

stage_is : (p : ContentPart) → first_stage p ≡ first_stage_of (of_part p)
stage_is (gap w) = refl
stage_is (text x) = refl
stage_is (tag true t) = refl
stage_is (tag false t) = refl

ended_is : (r : Option White) (full : List WideTree) (now : Inline)
    → sums_of (ended r full now) ≡ ended_sums r (sums_of full) (of_line now)
ended_is None full now = refl
ended_is (Some Spaces) full now = refl
ended_is (Some Line) full now = refl
ended_is (Some Break) full now = sums_append full (grown now ∷ []) ∙ ap (λ s. both (sums_of full) s) (line_is now)

resumed_is : (r : Option White) (now : Inline) → of_line (resumed r now) ≡ resumed_line r (of_line now)
resumed_is None now = refl
resumed_is (Some Spaces) now = grow_is now (gap Spaces)
resumed_is (Some Line) now = grow_is now (gap Line)
resumed_is (Some Break) now = refl

white_is : (s : Stage) (b : Block) (w : White) → of_block (with_white s b w) ≡ white_block s (of_block b) w
white_is Empty b w = refl
white_is Alone b w = refl
white_is Ordinary b w = refl

later_part : (b : Block) (p : ContentPart)
    → of_block (record {
      full = ended b.run b.full b.now;
      now = grow (resumed b.run b.now) p;
      run = None;
      stage = Ordinary;
    })
    ≡ block_sums_of (ended_sums b.run (sums_of b.full) (of_line b.now))
    (grow_line (resumed_line b.run (of_line b.now)) (of_part p)) None Ordinary
later_part b p =
    ap (λ s. block_sums_of s (of_line (grow (resumed b.run b.now) p)) None Ordinary) (ended_is b.run b.full b.now)
    ∙ ap (λ l. block_sums_of (ended_sums b.run (sums_of b.full) (of_line b.now)) l None Ordinary)
    (grow_is (resumed b.run b.now) p ∙ ap (λ l. grow_line l (of_part p)) (resumed_is b.run b.now))

part_is : (s : Stage) (b : Block) (p : ContentPart) → of_block (with_part s b p) ≡ part_block s (of_block b) (of_part p)
part_is Empty b p = ap (λ l. block_sums_of no_sums l None (first_stage p)) (grow_is no_parts p)
    ∙ ap (λ s. block_sums_of no_sums (grow_line no_line (of_part p)) None s) (stage_is p)
part_is Alone b p = later_part b p
part_is Ordinary b p = later_part b p

widen_is : (b : Block) (p : ContentPart) → of_block (widen b p) ≡ widen_block (of_block b) (of_part p)
widen_is b (gap w) = white_is b.stage b w
widen_is b (text x) = part_is b.stage b (text x)
widen_is b (tag c t) = part_is b.stage b (tag c t)

tree_at_is : (s : Stage) (b : Block) → sums_of (stage_tree s b ∷ []) ≡ block_sums_at s (of_block b)
tree_at_is Empty b = sums_node document_label (leaf [] ∷ []) ∙ ap node_sums (sums_leaf [])
tree_at_is Alone b = line_is b.now
tree_at_is Ordinary b = sums_node document_label (b.full ++ grown b.now ∷ [])
    ∙ ap node_sums (sums_append b.full (grown b.now ∷ []) ∙ ap (λ s. both (sums_of b.full) s) (line_is b.now))

block_sums_is : (b : Block) → sums_of (tree_of_block b ∷ []) ≡ block_sums (of_block b)
block_sums_is b = tree_at_is b.stage b

-- ---- content

abbrev pub of_content : Content → ContentSums
of_content (inline p g) = of.Argument p (of_line g)
of_content (blocks b) = of.Block (of_block b)
of_content (collecting x) = of.Tags (sums_of (map tree_of_entry x.entries)) (of_block (as_block x))

put_is : (c : Content) (p : ContentPart) → of_content (put_part c p) ≡ put_sums (of_content c) (of_part p)
put_is (inline q g) p = ap (of.Argument q) (grow_is g p)
put_is (blocks b) p = ap of.Block (widen_is b p)
put_is (collecting x) (gap w) =
    ap (of.Tags (sums_of (map tree_of_entry x.entries)))
    (ap of_block (longer_run (with_entries no_paragraphs x.entries) x.run w) ∙ widen_is (as_block x) (gap w))
put_is (collecting x) (tag c t) =
    let e : CollectionEntry = record { before = x.run; collects = c; tree = t } in
    ap (λ s. of.Tags s (of_block (with_entries no_paragraphs (x.entries ++ e ∷ []))))
    (ap sums_of (map-append tree_of_entry x.entries (e ∷ [])) ∙ sums_append (map tree_of_entry x.entries) (t ∷ []))
    ∙ ap (λ b. of.Tags (both (sums_of (map tree_of_entry x.entries)) (sums_of (t ∷ []))) b)
    (ap of_block (entries_append x.entries (e ∷ []) no_paragraphs) ∙ widen_is (as_block x) (tag c t))
put_is (collecting x) (text s) = ap of.Block (widen_is (as_block x) (text s))

place_is_in : (c : Content) → place_of c ≡ tag_place (of_content c)
place_is_in (inline p g) = refl
place_is_in (blocks b) = refl
place_is_in (collecting x) = refl

argument_is : (c : Content) → sums_of (tree_as_argument c ∷ []) ≡ argument_sums (of_content c)
argument_is (inline p g) = line_is g
argument_is (blocks b) = sums_leaf []
argument_is (collecting x) = sums_leaf []

body_is : (c : Content) → sums_of (tree_as_block c ∷ []) ≡ body_sums (of_content c)
body_is (inline p g) = sums_leaf []
body_is (blocks b) = block_sums_is b
body_is (collecting x) = block_sums_is (as_block x)

with_body : (l : List ℕ) (ks : List WideTree) (c : Content)
    → sums_of (node l (forest (ks ++ tree_as_block c ∷ [])) ∷ [])
    ≡ node_sums (both (sums_of ks) (body_sums (of_content c)))
with_body l ks c =
    sums_node l (ks ++ tree_as_block c ∷ [])
    ∙ ap node_sums (sums_append ks (tree_as_block c ∷ []) ∙ ap (λ s. both (sums_of ks) s) (body_is c))

long_is_of : (l : List ℕ) (ks : List WideTree) (c : Content)
    → of_part (long_of l ks c) ≡ long_sums (sums_of ks) (of_content c)
long_is_of l ks (collecting x) = ap (Tag true) (sums_node collection_label (map tree_of_entry x.entries))
long_is_of l ks (inline p g) = ap (Tag false) (with_body l ks (inline p g))
long_is_of l ks (blocks b) = ap (Tag false) (with_body l ks (blocks b))

none_counted : (ks : List WideTree) → none ks ≡ (length ks == 0)
none_counted [] = refl
none_counted (t ∷ ks) = not_zero (length ks) (length (t ∷ ks)) (omega arith)
  where
    not_zero : (n m : ℕ) → m ≡ n + 1 → false ≡ (m == 0)
    not_zero n m e = grind arith

chosen : (c : Bool)
    → of_content (if c then collecting no_tags else blocks no_paragraphs)
    ≡ (if c then of.Tags no_sums no_block else of.Block no_block)
chosen true = refl
chosen false = refl

opening_is : (w : Option TagPlace) (l : List ℕ) (ks : List WideTree)
    → of_content (opened_content w l ks) ≡ opening_sums w (same_bytes l collection_label) (sums_of ks)
opening_is (Some p) l ks = refl
opening_is None l ks =
    chosen (same_bytes l collection_label && none ks)
    ∙ ap (λ z. if same_bytes l collection_label && z then of.Tags no_sums no_block else of.Block no_block)
    (none_counted ks)

-- ---- states

abbrev pub of_open : Open → OpenSums
of_open f = open_sums (of_content f.before) (same_bytes f.label collection_label) (sums_of f.children)

abbrev pub gauge_at : Within → Content → List Open → Gauge
gauge_at w here fs = record { within = w; here = of_content here; opens = map of_open fs }

-- a state that failed is weighed as anything
abbrev pub IsWeighed : State → Gauge → Type 0
IsWeighed (reading here fs) g = g ≡ gauge_at Parts here fs
IsWeighed (naming n here fs) g = g ≡ gauge_at (Symbol (length n)) here fs
IsWeighed (counting ds here fs) g = g ≡ gauge_at (Digits (length ds)) here fs
IsWeighed failed g = Unit {0}

go_weighed : (c : Bool) (s : State) (g : Gauge) → IsWeighed s g → IsWeighed (go c s) g
go_weighed true s g h = h
go_weighed false s g h = tt

put_weighed : (here : Content) (fs : List Open) (p : ContentPart) (q : PartSums) → of_part p ≡ q
    → gauge_between (put_sums (of_content here) q) (map of_open fs) ≡ gauge_at Parts (put_part here p) fs
put_weighed here fs p q e =
    ap (λ c. gauge_between c (map of_open fs)) (ap (put_sums (of_content here)) (sym e) ∙ sym (put_is here p))

tag_weighed : (p : Option TagPlace) (f : Open) (o : OpenSums) (fs : List Open) → of_open f ≡ o
    → in_open p o (map of_open fs) ≡ gauge_at Parts (opened_content p f.label f.children) (f ∷ fs)
tag_weighed p f o fs e =
    ap (λ x. in_open p x (map of_open fs)) (sym e)
    ∙ ap (λ c. gauge_between c (of_open f ∷ map of_open fs)) (sym (opening_is p f.label f.children))

child_weighed : (f : Open) (t : WideTree) (s : Sums) → sums_of (t ∷ []) ≡ s
    → of_open (open_with_child f t) ≡ with_child_sums (of_open f) s
child_weighed f t s e =
    ap (λ z. open_sums (of_content f.before) (same_bytes f.label collection_label) z)
    (sums_append f.children (t ∷ []) ∙ ap (λ z. both (sums_of f.children) z) e)

closed_weighed : (f : Open) (t : WideTree) (s : Sums) (fs : List Open) → sums_of (t ∷ []) ≡ s
    → closed_open (with_child_sums (of_open f) s) (map of_open fs) ≡ gauge_at Parts
    (put_part f.before (tag false (node f.label (forest (f.children ++ t ∷ []))))) fs
closed_weighed f t s fs e =
    put_weighed f.before fs (tag false (node f.label (forest (f.children ++ t ∷ []))))
    (Tag false (node_sums (both (sums_of f.children) s)))
    (ap (Tag false) (sums_node f.label (f.children ++ t ∷ [])
    ∙ ap node_sums (sums_append f.children (t ∷ []) ∙ ap (λ z. both (sums_of f.children) z) e)))

bar_weighed : (here : Content) (fs : List Open)
    → IsWeighed (next_argument (place_of here) here fs) (bar_gauge (of_content here) (map of_open fs))
bar_weighed (inline p g) [] = tt
bar_weighed (inline p g) (f ∷ fs) =
    tag_weighed (Some p) (open_with_child f (grown g)) (with_child_sums (of_open f) (line_sums (of_line g))) fs
    (child_weighed f (grown g) (line_sums (of_line g)) (line_is g))
bar_weighed (blocks b) fs = tt
bar_weighed (collecting x) fs = tt

close_weighed : (here : Content) (fs : List Open)
    → IsWeighed (last_argument (place_of here) here fs) (close_gauge (of_content here) (map of_open fs))
close_weighed (inline InShort g) [] = tt
close_weighed (inline InHeader g) [] = tt
close_weighed (inline InClosing g) [] = tt
close_weighed (inline InHeader g) (f ∷ fs) =
    tag_weighed None (open_with_child f (grown g)) (with_child_sums (of_open f) (line_sums (of_line g))) fs
    (child_weighed f (grown g) (line_sums (of_line g)) (line_is g))
close_weighed (inline InShort g) (f ∷ fs) = closed_weighed f (grown g) (line_sums (of_line g)) fs (line_is g)
close_weighed (inline InClosing g) (f ∷ fs) = closed_weighed f (grown g) (line_sums (of_line g)) fs (line_is g)
close_weighed (blocks b) fs = tt
close_weighed (collecting x) fs = tt

next_weighed : (w : Option TagPlace) (l : List ℕ) (p : Option TagPlace) (here : Content) (fs : List Open)
    → IsWeighed (next_block w l p here fs) (next_gauge p (of_content here) (map of_open fs))
next_weighed (Some w) l p here fs = tt
next_weighed None l p here [] = tt
next_weighed None l p here (f ∷ fs) =
    go_weighed (same_bytes l f.label) (in_tag p (open_with_child f (tree_as_block here)) fs) _
    (tag_weighed p (open_with_child f (tree_as_block here))
    (with_child_sums (of_open f) (body_sums (of_content here))) fs
    (child_weighed f (tree_as_block here) (body_sums (of_content here)) (body_is here)))

last_weighed : (w : Option TagPlace) (l : List ℕ) (here : Content) (fs : List Open)
    → IsWeighed (last_block w l here fs) (last_gauge (of_content here) (map of_open fs))
last_weighed (Some w) l here fs = tt
last_weighed None l here [] = tt
last_weighed None l here (f ∷ fs) =
    go_weighed (same_bytes l f.label) (reading (put_part f.before (long_of f.label f.children here)) fs) _
    (put_weighed f.before fs (long_of f.label f.children here) (long_sums (sums_of f.children) (of_content here))
    (long_is_of f.label f.children here))

begun_weighed : (form : TagForm) (more : Bool) (l : List ℕ) (here : Content) (fs : List Open)
    → IsWeighed (begun form more l here fs) (begun_gauge form more l (of_content here) (map of_open fs))
begun_weighed Short true l here fs =
    tag_weighed (Some InShort) (open_tag here l []) (of_open (open_tag here l [])) fs refl
begun_weighed Short false l here fs =
    put_weighed here fs (tag false (node l (forest []))) (Tag false (node_sums no_sums))
    (ap (Tag false) (sums_node l []))
begun_weighed Long more l here fs =
    tag_weighed (header_place more) (open_tag here l []) (of_open (open_tag here l [])) fs refl
begun_weighed Middle more l here fs = next_weighed (place_of here) l (header_place more) here fs
begun_weighed Closing true l here fs = next_weighed (place_of here) l (Some InClosing) here fs
begun_weighed Closing false l here fs = last_weighed (place_of here) l here fs

escape_weighed : (o : Option Escaped) (b : ℕ) (here : Content) (fs : List Open)
    → IsWeighed (by_escape o b here fs) (escape_gauge o (of_content here) (map of_open fs))
escape_weighed (Some e) b here fs = put_weighed here fs (text (escaped_bytes e)) (Text (length (escaped_bytes e))) refl
escape_weighed None b here fs = go_weighed (b == 60) (naming [] here fs) _ refl

part_weighed : (t : Token) (here : Content) (fs : List Open)
    → IsWeighed (feed_reading here fs t) (part_gauge (of_content here) (map of_open fs) t)
part_weighed (white b) here fs = put_weighed here fs (gap (white_of b)) (Gap (white_of b)) refl
part_weighed (join r) here fs = tt
part_weighed (plain b) here fs = put_weighed here fs (text (b ∷ [])) (Text 1) refl
part_weighed (escape b) here fs = escape_weighed (escape_of b) b here fs
part_weighed raw here fs = refl
part_weighed (head form l more) here fs = begun_weighed form more l here fs
part_weighed bar here fs = bar_weighed here fs
part_weighed close here fs = close_weighed here fs

name_more : (good : Bool) (n : List ℕ) (b : ℕ) (here : Content) (fs : List Open)
    → IsWeighed (name_byte good n b here fs)
    (record { within = Symbol (length n + 1); here = of_content here; opens = map of_open fs })
name_more good n b here fs =
    go_weighed (good && nat_lt (length n) MOST_NAME) (naming (n ++ b ∷ []) here fs) _
    (ap (λ k. gauge_at (Symbol k) here fs) (sym (length-append n (b ∷ []))))

name_over : (n : List ℕ) (here : Content) (fs : List Open)
    → IsWeighed (name_end n here fs) (gauge_between (put_sums (of_content here) (Text (length n + 2))) (map of_open fs))
name_over n here fs =
    go_weighed (nat_le 1 (length n)) (reading (put_part here (text (symbol_bytes n))) fs) _
    (put_weighed here fs (text (symbol_bytes n)) (Text (length n + 2))
    (ap Text (omega (arith, length-append n (62 ∷ [])))))

symbol_weighed : (t : Token) (n : List ℕ) (here : Content) (fs : List Open)
    → IsWeighed (feed_naming n here fs t) (symbol_gauge (length n) (of_content here) (map of_open fs) t)
symbol_weighed (plain b) n here fs = name_more (is_name_byte b) n b here fs
symbol_weighed (escape b) n here fs =
    elim (b == 62) as
    (λ z. IsWeighed (if z then name_end n here fs else name_byte (b == 124 || b == 92) n b here fs)
    (name_gauge z (length n) (of_content here) (map of_open fs))) [
      | true ↦ name_over n here fs
      | false ↦ name_more (b == 124 || b == 92) n b here fs
    ]
symbol_weighed _ n here fs = tt

digit_weighed : (t : Token) (ds : List ℕ) (here : Content) (fs : List Open)
    → IsWeighed (feed_counting ds here fs t) (digit_gauge (length ds) (of_content here) (map of_open fs) t)
digit_weighed (plain b) ds here fs =
    go_weighed (is_digit b) (counting (ds ++ b ∷ []) here fs) _
    (ap (λ k. gauge_at (Digits k) here fs) (sym (length-append ds (b ∷ []))))
digit_weighed close ds here fs =
    put_weighed here fs (tag false (node raw_data_label (forest (leaf ds ∷ []))))
    (Tag false (node_sums (leaf_sums (length ds))))
    (ap (Tag false) (sums_node raw_data_label (leaf ds ∷ []) ∙ ap node_sums (sums_leaf ds)))
digit_weighed _ ds here fs = tt

feed_weighed : (s : State) (g : Gauge) (t : Token) → IsWeighed s g → IsWeighed (feed s t) (feed_gauge g t)
unfolding feed
feed_weighed (reading here fs) g t h =
    subst (λ z. IsWeighed (feed_reading here fs t) (feed_gauge z t)) (sym h) (part_weighed t here fs)
feed_weighed (naming n here fs) g t h =
    subst (λ z. IsWeighed (feed_naming n here fs t) (feed_gauge z t)) (sym h) (symbol_weighed t n here fs)
feed_weighed (counting ds here fs) g t h =
    subst (λ z. IsWeighed (feed_counting ds here fs t) (feed_gauge z t)) (sym h) (digit_weighed t ds here fs)
feed_weighed failed g t h = tt

-- ---- bytes

abbrev pub IsGauged : Keeping → Gauged → Type 0
IsGauged k m = (k.behind_join ≡ m.behind_join) × IsWeighed k.state m.gauge

keep_weighed : (k : Keeping) (m : Gauged) (t : Token) → IsGauged k m → IsGauged (keep k t) (keep_gauge m t)
keep_weighed k m t h =
    subst (λ j. IsGauged (keep k t) (keep_gauge (record { behind_join = j; gauge = m.gauge }) t)) h.0
    (elim (is_dropped k.behind_join t)
    as (λ z. IsGauged (if z then keeping true k.state else keeping false (feed k.state t))
    (if z then record { behind_join = true; gauge = m.gauge } else record {
      behind_join = false;
      gauge = feed_gauge m.gauge t;
    })) [
      | true ↦ (refl, h.1)
      | false ↦ (refl, feed_weighed k.state m.gauge t h.1)
    ])

abbrev pub AreGauged : Bytewise Keeping → Bytewise Gauged → Type 0
AreGauged (at q k) (at r m) = (q ≡ r) × IsGauged k m
AreGauged lost lost = Unit {0}
AreGauged (at q k) lost = ⊥
AreGauged lost (at r m) = ⊥

given_gauged : (r : Lexed) (k : Keeping) (m : Gauged) → IsGauged k m
    → AreGauged (after_lexed keep k r) (after_lexed keep_gauge m r)
given_gauged (within q) k m h = (refl, h)
given_gauged (done t) k m h = (refl, keep_weighed k m t h)
given_gauged bad k m h = tt

step_gauged : (w : Bytewise Keeping) (v : Bytewise Gauged) (b : ℕ) → AreGauged w v
    → AreGauged (step keep w b) (step keep_gauge v b)
step_gauged (at q k) (at r m) b h =
    subst (λ z. AreGauged (after_lexed keep k (lex q (kind_of b) b))
    (after_lexed keep_gauge m (lex z (kind_of b) b))) h.0
    (given_gauged (lex q (kind_of b) b) k m h.1)
step_gauged lost lost b h = tt
step_gauged (at q k) lost b h = absurd h
step_gauged lost (at r m) b h = absurd h

run_gauged : (x : List ℕ) (w : Bytewise Keeping) (v : Bytewise Gauged) → AreGauged w v
    → AreGauged (run keep w x) (run keep_gauge v x)
run_gauged [] w v h = h
run_gauged (b ∷ x) w v h = run_gauged x (step keep w b) (step keep_gauge v b) (step_gauged w v b h)

-- ---- the tree

some_tree : (t u : WideTree) → Some u ≡ Some t → u ≡ t
some_tree t u e = cc

file_weighed : (here : Content) (t : WideTree) → file_tree here ≡ Some t
    → body_sums (of_content here) ≡ sums_of (t ∷ [])
file_weighed (inline p g) t e = absurd cc
file_weighed (blocks b) t e = sym (block_sums_is b) ∙ ap (λ u. sums_of (u ∷ [])) (some_tree t (tree_of_block b) e)
file_weighed (collecting x) t e =
    sym (block_sums_is (as_block x)) ∙ ap (λ u. sums_of (u ∷ [])) (some_tree t (tree_of_block (as_block x)) e)

state_weighed : (s : State) (g : Gauge) (t : WideTree) → IsWeighed s g → state_tree s ≡ Some t
    → body_sums g.here ≡ sums_of (t ∷ [])
state_weighed (reading here []) g t h e = ap (λ z. body_sums z.here) h ∙ file_weighed here t e
state_weighed (reading here (f ∷ fs)) g t h e = absurd cc
state_weighed (naming n here fs) g t h e = absurd cc
state_weighed (counting ds here fs) g t h e = absurd cc
state_weighed failed g t h e = absurd cc

measured_at : (w : Bytewise Keeping) (v : Bytewise Gauged) (t : WideTree) → AreGauged w v → tree_in w ≡ Some t
    → IsMeasured v t
measured_at (at ready k) (at r m) t h e = state_weighed k.state m.gauge t h.1.1 e
measured_at (at slashed k) (at r m) t h e = absurd cc
measured_at (at returned k) (at r m) t h e = absurd cc
measured_at (at angled k) (at r m) t h e = absurd cc
measured_at (at (labelled form l) k) (at r m) t h e = absurd cc
measured_at lost v t h e = absurd cc
measured_at (at q k) lost t h e = absurd h

pub measured : (bytes : List ℕ) (t : WideTree) → Spells bytes t → IsMeasured (run keep_gauge start_gauge bytes) t
unfolding reads
measured bytes t h =
    measured_at (run keep start bytes) (run keep_gauge start_gauge bytes) t
    (run_gauged bytes start start_gauge (refl, (refl, refl))) (spelled_is_read bytes t h)
