-- What grows part by part is the content, the block or the long tag of the parts.
use Rattle.std.proofs.Common.{◌≡◌, ℕ, Bool, true, false, ◌&&◌, if◌then◌else◌, List, [], ◌∷◌, ◌++◌, map, Option, Some}
use Rattle.std.proofs.Common.{None, refl, sym, ap, ◌∙◌, append_assoc}
use Rattle.std.proofs.lemmas.List.{append-nil, map-append}
use Rattle.tx_tree.specs.WideTree.{WideTree, leaf, node, forest}
use Rattle.tx_tm_form.specs.declared.bytes.White.{White}
use Rattle.tx_tm_form.specs.declared.bytes.White.TheVariants.{Spaces, Line, Break}
use Rattle.tx_tm_form.specs.declared.places.TagPlace.{TagPlace}
use Rattle.tx_tm_form.specs.declared.places.Stage.{Stage}
use Rattle.tx_tm_form.specs.declared.places.Stage.TheVariants.{Empty, Alone, Ordinary}
use Rattle.tx_tm_form.specs.Bytes.{joint_run}
use Rattle.tx_tm_form.specs.Parts.{ContentPart, gap, text, tag, leaf_before, texts_and_tags, concat_of, content}
use Rattle.tx_tm_form.specs.Parts.{run_before}
use Rattle.tx_tm_form.specs.Parts.{with_runs, from_first, to_last, into_first, separate, parts_by_paragraph}
use Rattle.tx_tm_form.specs.Parts.{tree_of_document}
use Rattle.tx_tm_form.specs.Parts.{document_label, block, has_no_items, tag_trees, same_bytes, none, collection_label}
use Rattle.tx_tm_form.specs.Parts.{long_tag}
use Rattle.tx_tm_form.specs.Growing.{Inline, no_parts, grow, grown, Block, no_paragraphs, longer, with_white, ended}
use Rattle.tx_tm_form.specs.Growing.{resumed, first_stage, with_part, widen, stage_tree, tree_of_block, CollectionEntry}
use Rattle.tx_tm_form.specs.Growing.{Tags}
use Rattle.tx_tm_form.specs.Growing.{no_tags, tree_of_entry, behind_run, with_entries, as_block, Content, inline}
use Rattle.tx_tm_form.specs.Growing.{blocks, collecting, put_part, place_of, tree_as_block, file_tree, long_of}
use Rattle.tx_tm_form.specs.Growing.{block_behind}

abbrev pub grows : Inline → List ContentPart → Inline
grows g [] = g
grows g (p ∷ ps) = grows (grow g p) ps

abbrev pub widens : Block → List ContentPart → Block
widens b [] = b
widens b (p ∷ ps) = widens (widen b p) ps

abbrev pub puts : Content → List ContentPart → Content
puts c [] = c
puts c (p ∷ ps) = puts (put_part c p) ps

-- ---- content

abbrev line_of : List WideTree → List ℕ → Bool → Inline
line_of ts s r = record { done = ts; bytes = s; in_run = r }

one_tree_more : (ts : List WideTree) (s : List ℕ) (t : WideTree) (us : List WideTree)
    → ((ts ++ leaf_before s []) ++ t ∷ []) ++ us ≡ ts ++ leaf_before s (t ∷ us)
one_tree_more ts [] t us = append_assoc (ts ++ []) (t ∷ []) us ∙ ap (λ z. z ++ t ∷ us) (append-nil ts)
one_tree_more ts (b ∷ s) t us = append_assoc (ts ++ leaf (b ∷ s) ∷ []) (t ∷ []) us
    ∙ append_assoc ts (leaf (b ∷ s) ∷ []) (t ∷ us)

line_grows : (ps : List ContentPart) (ts : List WideTree) (s : List ℕ) (r : Bool)
    → (grows (line_of ts s r) ps).done ++ leaf_before (grows (line_of ts s r) ps).bytes [] ≡ ts ++ texts_and_tags r s ps
line_grows [] ts s r = refl
line_grows (gap w ∷ ps) ts s r = line_grows ps ts (if r then s else s ++ 32 ∷ []) true
line_grows (text x ∷ ps) ts s r = line_grows ps ts (s ++ x) false
line_grows (tag c t ∷ ps) ts s r = line_grows ps ((ts ++ leaf_before s []) ++ t ∷ []) [] false
    ∙ one_tree_more ts s t (texts_and_tags false [] ps)

pub grown_is_content : (ps : List ContentPart) → grown (grows no_parts ps) ≡ content ps
unfolding content
grown_is_content ps = ap concat_of (line_grows ps [] [] false)

pub grows_append : (ps qs : List ContentPart) (g : Inline) → grows g (ps ++ qs) ≡ grows (grows g ps) qs
grows_append [] qs g = refl
grows_append (p ∷ ps) qs g = grows_append ps qs (grow g p)

-- ---- runs

pub joint_run_assoc : (u v w : White) → joint_run (joint_run u v) w ≡ joint_run u (joint_run v w)
joint_run_assoc Spaces v w = refl
joint_run_assoc Line Spaces w = refl
joint_run_assoc Line Line Spaces = refl
joint_run_assoc Line Line Line = refl
joint_run_assoc Line Line Break = refl
joint_run_assoc Line Break w = refl
joint_run_assoc Break v w = refl

two_runs : (v w : White) (ps : List ContentPart)
    → run_before (gap v) (run_before (gap w) ps) ≡ run_before (gap (joint_run v w)) ps
two_runs v w [] = refl
two_runs v w (gap u ∷ ps) = ap (λ z. gap z ∷ ps) (sym (joint_run_assoc v w u))
two_runs v w (text x ∷ ps) = refl
two_runs v w (tag c t ∷ ps) = refl

first_run : (w : White) (ps : List ContentPart) → from_first (run_before (gap w) ps) ≡ from_first ps
first_run w [] = refl
first_run w (gap u ∷ ps) = refl
first_run w (text x ∷ ps) = refl
first_run w (tag c t ∷ ps) = refl

-- ---- blocks

-- a part that is no white
abbrev is_solid : ContentPart → Bool
is_solid (gap w) = false
is_solid (text x) = true
is_solid (tag c t) = true

-- which stage a block is at, by its paragraphs: those that have ended, and the one that is open
abbrev alone : List (List ContentPart) → List ContentPart → ContentPart → Stage
alone [] [] (tag true t) = Alone
alone f c p = Ordinary

abbrev block_with : List (List ContentPart) → ContentPart → List ContentPart → Option White → Block
block_with f p c r = record { full = map content f; now = grows no_parts (p ∷ c); run = r; stage = alone f c p }

-- the open paragraph goes on with the first of those that follow
abbrev joined : List ContentPart → List (List ContentPart) → List (List ContentPart)
joined c [] = c ∷ []
joined c (q ∷ qs) = (c ++ q) ∷ qs

joined_first : (c : List ContentPart) (p : ContentPart) (qs : List (List ContentPart))
    → joined c (into_first p qs) ≡ joined (c ++ p ∷ []) qs
joined_first c p [] = refl
joined_first c p (q ∷ qs) = ap (λ z. z ∷ qs) (sym (append_assoc c (p ∷ []) q))

joined_one : (p : ContentPart) (qs : List (List ContentPart)) → joined (p ∷ []) qs ≡ into_first p qs
joined_one p [] = refl
joined_one p (q ∷ qs) = refl

abbrev run_part : Option White → List ContentPart → List ContentPart
run_part None ps = ps
run_part (Some w) ps = gap w ∷ ps

-- the paragraphs of what follows
abbrev following : Option White → List ContentPart → List (List ContentPart)
following r ps = parts_by_paragraph (to_last (with_runs (run_part r ps)))

stage_aside : (f : List (List ContentPart)) (c : List ContentPart) (q : ContentPart) (b : Block) (p : ContentPart)
    → with_part (alone f c q) b p ≡ with_part Ordinary b p
stage_aside [] [] (gap w) b p = refl
stage_aside [] [] (text x) b p = refl
stage_aside [] [] (tag true t) b p = refl
stage_aside [] [] (tag false t) b p = refl
stage_aside [] (d ∷ c) q b p = refl
stage_aside (g ∷ f) c q b p = refl

white_aside : (f : List (List ContentPart)) (c : List ContentPart) (q : ContentPart) (b : Block) (w : White)
    → with_white (alone f c q) b w ≡ with_white Ordinary b w
white_aside [] [] (gap v) b w = refl
white_aside [] [] (text x) b w = refl
white_aside [] [] (tag true t) b w = refl
white_aside [] [] (tag false t) b w = refl
white_aside [] (d ∷ c) q b w = refl
white_aside (g ∷ f) c q b w = refl

widen_solid : (b : Block) (p : ContentPart) → is_solid p ≡ true → widen b p ≡ with_part b.stage b p
widen_solid b (gap w) h = absurd cc
widen_solid b (text x) h = refl
widen_solid b (tag c t) h = refl

longer_alone : (f : List (List ContentPart)) (c : List ContentPart) (p q : ContentPart)
    → alone f (c ++ p ∷ []) q ≡ Ordinary
longer_alone [] [] p q = refl
longer_alone [] (d ∷ c) p q = refl
longer_alone (g ∷ f) c p q = refl

more_alone : (f : List (List ContentPart)) (c d : List ContentPart) (q : ContentPart)
    → alone (f ++ c ∷ []) d q ≡ Ordinary
more_alone [] c d q = refl
more_alone (g ∷ f) c d q = refl

abbrev with_run : List (List ContentPart) → ContentPart → List ContentPart → Option White → ContentPart → Block
with_run f q c r p =
    record {
      full = ended r (map content f) (grows no_parts (q ∷ c));
      now = grow (resumed r (grows no_parts (q ∷ c))) p;
      run = None;
      stage = Ordinary;
    }

widen_run : (f : List (List ContentPart)) (q : ContentPart) (c : List ContentPart) (r : Option White) (p : ContentPart)
    → is_solid p ≡ true
    → widen (block_with f q c r) p ≡ with_run f q c r p
widen_run f q c r p h = widen_solid (block_with f q c r) p h ∙ stage_aside f c q (block_with f q c r) p

abbrev block_at : List WideTree → Inline → Stage → Block
block_at f g s = record { full = f; now = g; run = None; stage = s }

-- the same paragraph goes on with these parts
goes_on : (f : List (List ContentPart)) (q : ContentPart) (c : List ContentPart) (d : List ContentPart)
    (p : ContentPart)
    → block_at (map content f) (grow (grows (grows no_parts (q ∷ c)) d) p) Ordinary ≡ block_with f q
    (c ++ (d ++ p ∷ [])) None
goes_on f q c d p =
    ap (λ z. block_at (map content f) z Ordinary) (sym (grows_append d (p ∷ []) (grows no_parts (q ∷ c)))
    ∙ sym (grows_append (q ∷ c) (d ++ p ∷ []) no_parts))
    ∙ ap (block_at (map content f) (grows no_parts (q ∷ (c ++ (d ++ p ∷ []))))) (sym (longer_alone f (c ++ d) p q)
    ∙ ap (λ z. alone f z q) (append_assoc c d (p ∷ [])))

-- the next paragraph begins
begins_next : (f : List (List ContentPart)) (q : ContentPart) (c : List ContentPart) (p : ContentPart)
    → block_at (map content f ++ grown (grows no_parts (q ∷ c)) ∷ []) (grow no_parts p) Ordinary ≡ block_with
    (f ++ (q ∷ c) ∷ []) p [] None
begins_next f q c p =
    ap (λ z. block_at (map content f ++ z ∷ []) (grow no_parts p) Ordinary) (grown_is_content (q ∷ c))
    ∙ ap (λ z. block_at z (grow no_parts p) Ordinary) (sym (map-append content f ((q ∷ c) ∷ [])))
    ∙ ap (block_at (map content (f ++ (q ∷ c) ∷ [])) (grow no_parts p)) (sym (more_alone f (q ∷ c) [] p))

abbrev document : List WideTree → WideTree
document ts = node document_label (forest ts)

several : (f : List (List ContentPart)) (g c : List ContentPart)
    → tree_of_document (g ∷ (f ++ c ∷ [])) ≡ document (map content (g ∷ (f ++ c ∷ [])))
several [] [] c = refl
several [] (gap w ∷ g) c = refl
several [] (text x ∷ g) c = refl
several [] (tag true t ∷ []) c = refl
several [] (tag true t ∷ (p ∷ g)) c = refl
several [] (tag false t ∷ g) c = refl
several (h ∷ f) [] c = refl
several (h ∷ f) (gap w ∷ g) c = refl
several (h ∷ f) (text x ∷ g) c = refl
several (h ∷ f) (tag true t ∷ []) c = refl
several (h ∷ f) (tag true t ∷ (p ∷ g)) c = refl
several (h ∷ f) (tag false t ∷ g) c = refl

one_paragraph : (c : List ContentPart) (q : ContentPart)
    → stage_tree (alone [] c q) (block_with [] q c None) ≡ tree_of_document ((q ∷ c) ∷ [])
one_paragraph [] (tag true t) = refl
one_paragraph [] (tag false t) = ap (λ z. document (z ∷ [])) (grown_is_content (tag false t ∷ []))
one_paragraph [] (gap w) = ap (λ z. document (z ∷ [])) (grown_is_content (gap w ∷ []))
one_paragraph [] (text x) = ap (λ z. document (z ∷ [])) (grown_is_content (text x ∷ []))
one_paragraph (d ∷ c) (tag true t) = ap (λ z. document (z ∷ [])) (grown_is_content (tag true t ∷ (d ∷ c)))
one_paragraph (d ∷ c) (tag false t) = ap (λ z. document (z ∷ [])) (grown_is_content (tag false t ∷ (d ∷ c)))
one_paragraph (d ∷ c) (gap w) = ap (λ z. document (z ∷ [])) (grown_is_content (gap w ∷ (d ∷ c)))
one_paragraph (d ∷ c) (text x) = ap (λ z. document (z ∷ [])) (grown_is_content (text x ∷ (d ∷ c)))

run_aside : (s : Stage) (f : List WideTree) (g : Inline) (r : Option White)
    → stage_tree s (record { full = f; now = g; run = r; stage = s }) ≡ stage_tree s (block_at f g s)
run_aside Empty f g r = refl
run_aside Alone f g r = refl
run_aside Ordinary f g r = refl

block_ends : (f : List (List ContentPart)) (q : ContentPart) (c : List ContentPart) (r : Option White)
    → tree_of_block (block_with f q c r) ≡ tree_of_document (f ++ (q ∷ c) ∷ [])
block_ends [] q c r = run_aside (alone [] c q) [] (grows no_parts (q ∷ c)) r ∙ one_paragraph c q
block_ends (g ∷ f) q c r =
    ap (λ z. document ((content g ∷ map content f) ++ z ∷ [])) (grown_is_content (q ∷ c))
    ∙ ap document (sym (map-append content (g ∷ f) ((q ∷ c) ∷ [])))
    ∙ sym (several f g (q ∷ c))

-- what is left to show of a solid part after a run: either the paragraph goes on, or the next one begins
behind_part : (ps : List ContentPart) (f : List (List ContentPart)) (q : ContentPart) (c : List ContentPart)
    (p : ContentPart) (w : White)
    → ((d : List ContentPart) → tree_of_block (widens (block_with f q (c ++ (d ++ p ∷ [])) None) ps) ≡ tree_of_document
    (f ++ joined (q ∷ (c ++ (d ++ p ∷ []))) (following None ps)))
    → (tree_of_block (widens (block_with (f ++ (q ∷ c) ∷ []) p [] None) ps) ≡ tree_of_document
    ((f ++ (q ∷ c) ∷ []) ++ joined (p ∷ []) (following None ps)))
    → tree_of_block (widens (with_run f q c (Some w) p) ps) ≡ tree_of_document
    (f ++ joined (q ∷ c) (separate w (into_first p (following None ps))))
behind_part ps f q c p Break h k =
    ap (λ b. tree_of_block (widens b ps)) (begins_next f q c p)
    ∙ k
    ∙ ap tree_of_document (append_assoc f ((q ∷ c) ∷ []) (joined (p ∷ []) (following None ps))
    ∙ ap (λ z. f ++ (q ∷ c) ∷ z) (joined_one p (following None ps))
    ∙ ap (λ z. f ++ z ∷ into_first p (following None ps)) (sym (append-nil (q ∷ c))))
behind_part ps f q c p Spaces h k =
    ap (λ b. tree_of_block (widens b ps)) (goes_on f q c (gap Spaces ∷ []) p)
    ∙ h (gap Spaces ∷ [])
    ∙ ap (λ z. tree_of_document (f ++ z))
    (ap (λ z. joined z (following None ps)) (sym (append_assoc (q ∷ c) (gap Spaces ∷ []) (p ∷ [])))
    ∙ sym (joined_first ((q ∷ c) ++ gap Spaces ∷ []) p (following None ps))
    ∙ sym (joined_first (q ∷ c) (gap Spaces) (into_first p (following None ps))))
behind_part ps f q c p Line h k =
    ap (λ b. tree_of_block (widens b ps)) (goes_on f q c (gap Line ∷ []) p)
    ∙ h (gap Line ∷ [])
    ∙ ap (λ z. tree_of_document (f ++ z))
    (ap (λ z. joined z (following None ps)) (sym (append_assoc (q ∷ c) (gap Line ∷ []) (p ∷ [])))
    ∙ sym (joined_first ((q ∷ c) ++ gap Line ∷ []) p (following None ps))
    ∙ sym (joined_first (q ∷ c) (gap Line) (into_first p (following None ps))))

-- after no run
beside_part : (ps : List ContentPart) (f : List (List ContentPart)) (q : ContentPart) (c : List ContentPart)
    (p : ContentPart) → is_solid p ≡ true
    → tree_of_block (widens (block_with f q (c ++ p ∷ []) None) ps) ≡ tree_of_document
    (f ++ joined (q ∷ (c ++ p ∷ [])) (following None ps))
    → tree_of_block (widens (block_with f q c None) (p ∷ ps)) ≡ tree_of_document
    (f ++ joined (q ∷ c) (into_first p (following None ps)))
beside_part ps f q c p s h =
    ap (λ b. tree_of_block (widens b ps)) (widen_run f q c None p s ∙ goes_on f q c [] p)
    ∙ h
    ∙ ap (λ z. tree_of_document (f ++ z)) (sym (joined_first (q ∷ c) p (following None ps)))

abbrev Reaches : List ContentPart → List (List ContentPart) → ContentPart → List ContentPart → Option White → Type 0
Reaches ps f q c r = tree_of_block (widens (block_with f q c r) ps)
    ≡ tree_of_document (f ++ joined (q ∷ c) (following r ps))

block_grows : (ps : List ContentPart) (f : List (List ContentPart)) (q : ContentPart) (c : List ContentPart)
    (r : Option White) → Reaches ps f q c r
block_grows [] f q c None = block_ends f q c None
block_grows [] f q c (Some w) = block_ends f q c (Some w)
block_grows (gap w ∷ ps) f q c None =
    ap (λ b. tree_of_block (widens b ps)) (white_aside f c q (block_with f q c None) w) ∙ block_grows ps f q c (Some w)
block_grows (gap w ∷ ps) f q c (Some v) =
    ap (λ b. tree_of_block (widens b ps)) (white_aside f c q (block_with f q c (Some v)) w)
    ∙ block_grows ps f q c (Some (joint_run v w))
    ∙ ap (λ z. tree_of_document (f ++ joined (q ∷ c) (parts_by_paragraph (to_last z))))
    (sym (two_runs v w (with_runs ps)))
block_grows (text x ∷ ps) f q c None = beside_part ps f q c (text x) refl (block_grows ps f q (c ++ text x ∷ []) None)
block_grows (tag e t ∷ ps) f q c None =
    beside_part ps f q c (tag e t) refl (block_grows ps f q (c ++ tag e t ∷ []) None)
block_grows (text x ∷ ps) f q c (Some w) =
    ap (λ b. tree_of_block (widens b ps)) (widen_run f q c (Some w) (text x) refl)
    ∙ behind_part ps f q c (text x) w (λ d. block_grows ps f q (c ++ (d ++ text x ∷ [])) None)
    (block_grows ps (f ++ (q ∷ c) ∷ []) (text x) [] None)
block_grows (tag e t ∷ ps) f q c (Some w) =
    ap (λ b. tree_of_block (widens b ps)) (widen_run f q c (Some w) (tag e t) refl)
    ∙ behind_part ps f q c (tag e t) w (λ d. block_grows ps f q (c ++ (d ++ tag e t ∷ [])) None)
    (block_grows ps (f ++ (q ∷ c) ∷ []) (tag e t) [] None)

first_alone : (p : ContentPart) → first_stage p ≡ alone [] [] p
first_alone (gap w) = refl
first_alone (text x) = refl
first_alone (tag true t) = refl
first_alone (tag false t) = refl

block_begins : (ps : List ContentPart)
    → tree_of_block (widens no_paragraphs ps)
    ≡ tree_of_document (parts_by_paragraph (to_last (from_first (with_runs ps))))
block_begins [] = refl
block_begins (gap w ∷ ps) =
    block_begins ps ∙ ap (λ z. tree_of_document (parts_by_paragraph (to_last z))) (sym (first_run w (with_runs ps)))
block_begins (text x ∷ ps) =
    block_grows ps [] (text x) [] None ∙ ap tree_of_document (joined_one (text x) (following None ps))
block_begins (tag c t ∷ ps) =
    ap (λ s. tree_of_block (widens (block_at [] (grow no_parts (tag c t)) s) ps)) (first_alone (tag c t))
    ∙ block_grows ps [] (tag c t) [] None
    ∙ ap tree_of_document (joined_one (tag c t) (following None ps))

pub grown_is_block : (ps : List ContentPart) → tree_of_block (widens no_paragraphs ps) ≡ block ps
unfolding block
grown_is_block ps = block_begins ps

-- ---- but tags and white

abbrev gathers : Tags → List ContentPart → Tags
gathers x [] = x
gathers x (gap w ∷ ps) = gathers (record { entries = x.entries; run = Some (longer x.run w) }) ps
gathers x (tag c t ∷ ps) =
    gathers (record { entries = x.entries ++ record { before = x.run; collects = c; tree = t } ∷ []; run = None }) ps
gathers x (text s ∷ ps) = gathers x ps

longer_joint_run : (r : Option White) (v w : White) → longer r (joint_run v w) ≡ joint_run (longer r v) w
longer_joint_run None v w = refl
longer_joint_run (Some u) v w = sym (joint_run_assoc u v w)

two_whites : (s : Stage) (f : List WideTree) (g : Inline) (r : Option White) (v w : White)
    → with_white s (record { full = f; now = g; run = r; stage = s }) (joint_run v w) ≡ widen
    (with_white s (record { full = f; now = g; run = r; stage = s }) v) (gap w)
two_whites Empty f g r v w = refl
two_whites Alone f g r v w =
    ap (λ z. record { full = f; now = g; run = Some z; stage = Alone }) (longer_joint_run r v w)
two_whites Ordinary f g r v w =
    ap (λ z. record { full = f; now = g; run = Some z; stage = Ordinary }) (longer_joint_run r v w)

pub longer_run : (b : Block) (r : Option White) (w : White)
    → behind_run b (Some (longer r w)) ≡ widen (behind_run b r) (gap w)
longer_run b None w = refl
longer_run b (Some v) w = two_whites b.stage b.full b.now b.run v w

pub entries_append : (es fs : List CollectionEntry) (b : Block)
    → with_entries b (es ++ fs) ≡ with_entries (with_entries b es) fs
entries_append [] fs b = refl
entries_append (e ∷ es) fs b = entries_append es fs (widen (behind_run b e.before) (tag e.collects e.tree))

puts_blocks : (ps : List ContentPart) (b : Block) → puts (blocks b) ps ≡ blocks (widens b ps)
puts_blocks [] b = refl
puts_blocks (p ∷ ps) b = puts_blocks ps (widen b p)

abbrev gathered : Bool → Tags → Block → Content
gathered c x b = if c then collecting x else blocks b

puts_tags : (ps : List ContentPart) (x : Tags) → puts (collecting x) ps ≡ gathered (has_no_items ps) (gathers x ps)
    (widens (as_block x) ps)
puts_tags [] x = refl
puts_tags (gap w ∷ ps) x =
    puts_tags ps (record { entries = x.entries; run = Some (longer x.run w) })
    ∙ ap (λ b. gathered (has_no_items ps) (gathers x (gap w ∷ ps)) (widens b ps))
    (longer_run (with_entries no_paragraphs x.entries) x.run w)
puts_tags (tag c t ∷ ps) x =
    puts_tags ps (record { entries = x.entries ++ record { before = x.run; collects = c; tree = t } ∷ []; run = None })
    ∙ ap (λ b. gathered (has_no_items ps) (gathers x (tag c t ∷ ps)) (widens b ps))
    (entries_append x.entries (record { before = x.run; collects = c; tree = t } ∷ []) no_paragraphs)
puts_tags (text s ∷ ps) x = puts_blocks ps (widen (as_block x) (text s))

trees_gathered : (ps : List ContentPart) (x : Tags)
    → map tree_of_entry (gathers x ps).entries ≡ map tree_of_entry x.entries
    ++ tag_trees ps
trees_gathered [] x = sym (append-nil (map tree_of_entry x.entries))
trees_gathered (gap w ∷ ps) x = trees_gathered ps (record { entries = x.entries; run = Some (longer x.run w) })
trees_gathered (text s ∷ ps) x = trees_gathered ps x
trees_gathered (tag c t ∷ ps) x =
    trees_gathered ps
    (record { entries = x.entries ++ record { before = x.run; collects = c; tree = t } ∷ []; run = None })
    ∙ ap (λ z. z ++ tag_trees ps)
    (map-append tree_of_entry x.entries (record { before = x.run; collects = c; tree = t } ∷ []))
    ∙ append_assoc (map tree_of_entry x.entries) (t ∷ []) (tag_trees ps)

no_items_block : (ps : List ContentPart) (x : Tags) → has_no_items ps ≡ true
    → as_block (gathers x ps) ≡ widens (as_block x) ps
no_items_block [] x h = refl
no_items_block (gap w ∷ ps) x h =
    no_items_block ps (record { entries = x.entries; run = Some (longer x.run w) }) h
    ∙ ap (λ b. widens b ps) (longer_run (with_entries no_paragraphs x.entries) x.run w)
no_items_block (tag c t ∷ ps) x h =
    no_items_block ps
    (record { entries = x.entries ++ record { before = x.run; collects = c; tree = t } ∷ []; run = None }) h
    ∙ ap (λ b. widens b ps)
    (entries_append x.entries (record { before = x.run; collects = c; tree = t } ∷ []) no_paragraphs)
no_items_block (text s ∷ ps) x h = absurd cc

-- ---- content of either kind

pub puts_inline : (ps : List ContentPart) (p : TagPlace) (g : Inline) → puts (inline p g) ps ≡ inline p (grows g ps)
puts_inline [] p g = refl
puts_inline (q ∷ ps) p g = puts_inline ps p (grow g q)

pub puts_append : (ps qs : List ContentPart) (c : Content) → puts c (ps ++ qs) ≡ puts (puts c ps) qs
puts_append [] qs c = refl
puts_append (p ∷ ps) qs c = puts_append ps qs (put_part c p)

place_stays : (c : Content) (p : ContentPart) → place_of (put_part c p) ≡ place_of c
place_stays (inline q g) p = refl
place_stays (blocks b) p = refl
place_stays (collecting x) (gap w) = refl
place_stays (collecting x) (text s) = refl
place_stays (collecting x) (tag c t) = refl

pub place_is : (ps : List ContentPart) (c : Content) → place_of (puts c ps) ≡ place_of c
place_is [] c = refl
place_is (p ∷ ps) c = place_is ps (put_part c p) ∙ place_stays c p

pub no_place : (l : List ℕ) (ks : List WideTree) → place_of (block_behind l ks) ≡ None
no_place l ks =
    elim (same_bytes l collection_label && none ks) as
    (λ z. place_of (if z then collecting no_tags else blocks no_paragraphs) ≡ None) [ true ↦ refl | false ↦ refl ]

gathered_block : (c : Bool) (x : Tags) (b : Block) → (c ≡ true → as_block x ≡ b)
    → tree_as_block (gathered c x b) ≡ tree_of_block b
gathered_block true x b h = ap tree_of_block (h refl)
gathered_block false x b h = refl

started_block : (ps : List ContentPart) (c : Bool)
    → tree_as_block (puts (if c then collecting no_tags else blocks no_paragraphs) ps) ≡ block ps
started_block ps true =
    ap tree_as_block (puts_tags ps no_tags)
    ∙ gathered_block (has_no_items ps) (gathers no_tags ps) (widens no_paragraphs ps) (no_items_block ps no_tags)
    ∙ grown_is_block ps
started_block ps false = ap tree_as_block (puts_blocks ps no_paragraphs) ∙ grown_is_block ps

pub block_is : (l : List ℕ) (ks : List WideTree) (ps : List ContentPart)
    → tree_as_block (puts (block_behind l ks) ps) ≡ block ps
block_is l ks ps = started_block ps (same_bytes l collection_label && none ks)

pub file_is : (ps : List ContentPart) → file_tree (puts (blocks no_paragraphs) ps) ≡ Some (block ps)
file_is ps = ap file_tree (puts_blocks ps no_paragraphs) ∙ ap Some (grown_is_block ps)

started_long : (l : List ℕ) (ks : List WideTree) (ps : List ContentPart) (c : Bool)
    → long_of l ks (puts (if c then collecting no_tags else blocks no_paragraphs) ps)
    ≡ (if c && true && has_no_items ps then tag true (node collection_label (forest (tag_trees ps))) else tag false
    (node l (forest (ks ++ block ps ∷ []))))
started_long l ks ps true =
    ap (long_of l ks) (puts_tags ps no_tags)
    ∙ elim (has_no_items ps) as
    (λ z. long_of l ks (gathered z (gathers no_tags ps) (widens no_paragraphs ps))
    ≡ (if true && true && z then tag true (node collection_label (forest (tag_trees ps))) else tag false
    (node l (forest (ks ++ block ps ∷ []))))) [
      | true ↦ ap (λ z. tag true (node collection_label (forest z))) (trees_gathered ps no_tags)
      | false ↦ ap (λ z. tag false (node l (forest (ks ++ z ∷ [])))) (grown_is_block ps)
    ]
started_long l ks ps false =
    ap (long_of l ks) (puts_blocks ps no_paragraphs)
    ∙ ap (λ z. tag false (node l (forest (ks ++ z ∷ [])))) (grown_is_block ps)

pub long_is : (l : List ℕ) (ks : List WideTree) (ps : List ContentPart)
    → long_of l ks (puts (block_behind l ks) ps) ≡ long_tag l ks ps []
unfolding long_tag
long_is l ks ps = started_long l ks ps (same_bytes l collection_label && none ks)
