-- The canonical text of a block spells it.
use Rattle.std.proofs.Common.{◌≡◌, ℕ, Bool, true, false, ◌&&◌, ◌||◌, not, if◌then◌else◌, List, [], ◌∷◌, ◌++◌, map, Some}
use Rattle.std.proofs.Common.{refl, sym, ap, subst, ◌∙◌, append_assoc}
use Rattle.std.specs.List.{AllByRecursion}
use Rattle.std.proofs.lemmas.List.{append-nil}
use Rattle.tx_tree.specs.Labels.{IsLabel}
use Rattle.tx_tree.specs.Limits.{IsWellFormed, AreWellFormed}
use Rattle.tx_tree.specs.WideTree.{WideTree, Forest, leaf, node, nil, cons, forest, trees}
use Rattle.tx_tm_form.specs.declared.bytes.White.TheVariants.{Line}
use Rattle.tx_tm_form.specs.declared.bytes.Escaped.TheVariants.{Mark}
use Rattle.tx_tm_form.specs.Bytes.{escape_of, can_escape}
use Rattle.tx_tm_form.specs.Tokens.{escape}
use Rattle.tx_tm_form.specs.Parts.{ContentPart, gap, text, tag, content, block, tree_of_document, same_bytes}
use Rattle.tx_tm_form.specs.Parts.{document_label}
use Rattle.tx_tm_form.specs.Parts.{collection_label}
use Rattle.tx_tm_form.specs.Forms.{escaped, Spells}
use Rattle.tx_tm_form.proofs.Sound.{same_is}
use Rattle.tx_tm_form.proofs.Words.{one_tree}
use Rattle.tx_tm_write.specs.Shapes.{some, are_nodes, is_block, has_block, is_empty, stays_inline, is_raw, digits_of}
use Rattle.tx_tm_write.specs.Canonical.{items_text, opened, with_lines, or_mark, between, with_ends, tag_text}
use Rattle.tx_tm_write.specs.Canonical.{part_text, content_text, parts_text, arguments_text, long_text, block_text}
use Rattle.tx_tm_write.specs.Canonical.{paragraphs_text, tags_text, tm_text}
use Rattle.tx_tm_write.specs.Alone.{SpellsAlone}
use Rattle.tx_tm_write.proofs.Standing.{one_word, Stands, nothing_stands, both_stand, one_stands, spells_from}
use Rattle.tx_tm_write.proofs.TextItems.{item_parts, items_stand}
use Rattle.tx_tm_write.proofs.Contents.{parts_in, parts_side, content_parts, paragraph_parts, content_back}
use Rattle.tx_tm_write.proofs.Contents.{paragraph_back, paragraph_tight, paragraph_ordinary}
use Rattle.tx_tm_write.proofs.Paragraphs.{IsTight, behind_lines, block_behind, block_between, ordinary_document}
use Rattle.tx_tm_write.proofs.Tags.{raw_tag, Follows, no_more, one_more, short_stands, Continues, argument_before}
use Rattle.tx_tm_write.proofs.Tags.{block_last, block_before, long_stands, newline_stands, tag_lines, collection_stands}

-- ---- texts

text_stands : (before behind : Bool) (s : List ℕ) (h : IsWellFormed (leaf s))
    → Stands (items_text before behind s) (item_parts before behind h.0)
text_stands before behind s h =
    subst (λ z. Stands (items_text before behind z) (item_parts before behind h.0)) (sym h.2)
    (items_stand before behind h.0 h.1)

-- ---- paragraphs

mark_escape : escape_of 59 ≡ Some Mark
unfolding escape_of
mark_escape = refl

mark_can : can_escape 59 ≡ true
unfolding escape_of
mark_can = refl

mark_stands : Stands (92 ∷ 59 ∷ []) (text [] ∷ [])
mark_stands = one_stands (escaped 59 Mark mark_escape) (92 ∷ 59 ∷ []) (one_word (escape 59) mark_can)

paragraph_stands : (t : WideTree) (h : IsWellFormed t) → Stands (content_text t) (content_parts t h)
    → Stands (or_mark t (content_text t)) (paragraph_parts t h)
paragraph_stands t h k =
    elim (is_empty t) as
    (λ e. Stands (if e then 92 ∷ 59 ∷ [] else content_text t) (if e then text [] ∷ [] else content_parts t h))
    [ true ↦ mark_stands | false ↦ k ]

abbrev paragraphs_of : (ts : Forest) → AreWellFormed ts → List (List ContentPart)
paragraphs_of nil h = []
paragraphs_of (cons t ts) h = paragraph_parts t h.0 ∷ paragraphs_of ts h.1

paragraphs_tight : (ts : Forest) (h : AreWellFormed ts) → AllByRecursion IsTight (paragraphs_of ts h)
paragraphs_tight nil h = tt
paragraphs_tight (cons t ts) h = (paragraph_tight t h.0, paragraphs_tight ts h.1)

all_back : (ts : Forest) (h : AreWellFormed ts) → forest (map content (paragraphs_of ts h)) ≡ ts
all_back nil h = refl
all_back (cons t ts) h = ap (λ z. cons z (forest (map content (paragraphs_of ts h.1)))) (paragraph_back t h.0)
    ∙ ap (λ us. cons t us) (all_back ts h.1)

-- the bytes are those of paragraphs of which the tree is made, with an empty line between two of them
record StandsAsBlock (bytes : List ℕ) (t : WideTree) : Type 0 where
  first : List ContentPart
  others : List (List ContentPart)
  tight : IsTight first
  all_tight : AllByRecursion IsTight others
  stands : Stands bytes (first ++ behind_lines others)
  whole : tree_of_document (first ∷ others) ≡ t

document_block : (label : List ℕ) (t : WideTree) (ts : Forest) (h : AreWellFormed (cons t ts))
    → same_bytes label document_label ≡ true
    → Stands (paragraphs_text (cons t ts)) (paragraph_parts t h.0 ++ behind_lines (paragraphs_of ts h.1))
    → StandsAsBlock (paragraphs_text (cons t ts)) (node label (cons t ts))
document_block label t ts h e k =
    record {
      first = paragraph_parts t h.0;
      others = paragraphs_of ts h.1;
      tight = paragraph_tight t h.0;
      all_tight = paragraphs_tight ts h.1;
      stands = k;
      whole = ordinary_document (paragraph_parts t h.0) (paragraphs_of ts h.1) (paragraph_ordinary t h.0)
          ∙ ap (λ us. node document_label us) (all_back (cons t ts) h)
          ∙ ap (λ l. node l (cons t ts)) (sym (same_is label document_label e));
    }

collection_block : (label : List ℕ) (ts : Forest) → IsLabel label → same_bytes label collection_label ≡ true
    → Stands (tags_text ts) (tag_lines ts) → StandsAsBlock (with_ends (tags_text ts)) (node label ts)
collection_block label ts l e k =
    let is = same_is label collection_label e in
    record {
      first = tag true (node collection_label ts) ∷ [];
      others = [];
      tight = refl;
      all_tight = tt;
      stands = collection_stands (10 ∷ tags_text ts) ts (subst IsLabel is l)
          (both_stand (10 ∷ []) (tags_text ts) (gap Line ∷ []) (tag_lines ts) newline_stands k);
      whole = ap (λ l. node l ts) (sym is);
    }

-- a block on lines of its own
lines_stand : (bytes : List ℕ) (t : WideTree) (h : StandsAsBlock bytes t)
    → Stands (10 ∷ (bytes ++ 10 ∷ [])) (gap Line ∷ ((h.first ++ behind_lines h.others) ++ gap Line ∷ []))
lines_stand bytes t h =
    both_stand (10 ∷ []) (bytes ++ 10 ∷ []) (gap Line ∷ []) ((h.first ++ behind_lines h.others) ++ gap Line ∷ [])
    newline_stands
    (both_stand bytes (10 ∷ []) (h.first ++ behind_lines h.others) (gap Line ∷ []) h.stands newline_stands)

lines_block : (bytes : List ℕ) (t : WideTree) (h : StandsAsBlock bytes t)
    → block (gap Line ∷ ((h.first ++ behind_lines h.others) ++ gap Line ∷ [])) ≡ t
lines_block bytes t h = block_between Line h.first h.others (gap Line ∷ []) h.tight h.all_tight refl ∙ h.whole

-- ---- tags

-- what is after the label of a tag, with a block among the trees or without one
abbrev Goes : List ℕ → Bool → List ℕ → List WideTree → Type 0
Goes label true bytes ts = Continues label bytes ts
Goes label false bytes ts = Follows bytes ts

by_form : (label : List ℕ) (ts : Forest) (r c b : Bool) (long arguments : List ℕ) → IsLabel label → is_raw label ts ≡ r
    → same_bytes label collection_label ≡ c → Goes label b long (trees ts)
    → Follows (arguments ++ 62 ∷ []) (trees ts)
    → Stands (if r then 60 ∷ 35 ∷ (digits_of ts ++ 62 ∷ []) else if not c && b then opened 92 label ++ long else 60
    ∷ (label ++ (arguments ++ 62 ∷ []))) (tag false (node label ts) ∷ [])
by_form label ts true c b long arguments l e k g f = raw_tag label ts e
by_form label ts false true b long arguments l e k g f = short_stands label (arguments ++ 62 ∷ []) ts l f
by_form label ts false false true long arguments l e k g f = long_stands label long ts l k g
by_form label ts false false false long arguments l e k g f = short_stands label (arguments ++ 62 ∷ []) ts l f

tag_stands : (label : List ℕ) (ts : Forest) → IsLabel label → Goes label (has_block ts) (long_text label ts) (trees ts)
    → Follows (arguments_text ts ++ 62 ∷ []) (trees ts)
    → Stands (tag_text label ts (long_text label ts) (arguments_text ts)) (tag false (node label ts) ∷ [])
tag_stands label ts l g f =
    by_form label ts (is_raw label ts) (same_bytes label collection_label) (has_block ts) (long_text label ts)
    (arguments_text ts) l refl refl g f

either_stands : (i : Bool) (x y : List ℕ) (ps qs : List ContentPart) → Stands x ps → Stands y qs
    → Stands (if i then x else y) (if i then ps else qs)
either_stands true x y ps qs h k = h
either_stands false x y ps qs h k = k

-- a block and the beginning of the next tag, before what is after its label
lines_text : (label block rest : List ℕ) (mark : ℕ)
    → 62 ∷ ((10 ∷ (block ++ 10 ∷ [])) ++ 60 ∷ mark ∷ (label ++ rest)) ≡ (62 ∷ 10 ∷ (block ++ 10 ∷ opened mark label))
    ++ rest
lines_text label block rest mark =
    ap (λ z. 62 ∷ 10 ∷ z) (append_assoc block (10 ∷ []) (60 ∷ mark ∷ (label ++ rest))
    ∙ sym (append_assoc block (10 ∷ opened mark label) rest))

child_goes : (label : List ℕ) (t : WideTree) (ts : List WideTree) (ps : List ContentPart) (b more : Bool)
    (rest : List ℕ)
    → IsLabel label → Stands (content_text t) ps → content ps ≡ t
    → (b ≡ true → StandsAsBlock (block_text t) t) → Goes label more rest ts
    → Goes label (b || more) ((if b then with_lines label more (block_text t) else 124 ∷ content_text t) ++ rest)
    (t ∷ ts)
child_goes label t ts ps true true rest l h e k g =
    subst (λ z. Continues label z (t ∷ ts)) (lines_text label (block_text t) rest 124)
    (block_before label (10 ∷ (block_text t ++ 10 ∷ [])) rest
    (gap Line ∷ (((k refl).first ++ behind_lines (k refl).others) ++ gap Line ∷ [])) t ts l
    (lines_stand (block_text t) t (k refl)) (lines_block (block_text t) t (k refl)) g)
child_goes label t ts ps true false rest l h e k g =
    subst (λ z. Continues label z (t ∷ ts)) (lines_text label (block_text t) rest 47)
    (block_last label (10 ∷ (block_text t ++ 10 ∷ [])) rest
    (gap Line ∷ (((k refl).first ++ behind_lines (k refl).others) ++ gap Line ∷ [])) t ts l
    (lines_stand (block_text t) t (k refl)) (lines_block (block_text t) t (k refl)) g)
child_goes label t ts ps false true rest l h e k g = argument_before label (content_text t) rest ps t ts h e g
child_goes label t ts ps false false rest l h e k g = one_more (content_text t) rest ps t ts h e g

by_block : (label : List ℕ) (ts : Forest) (d c n : Bool) (bytes tags : List ℕ) (t : WideTree)
    → (d ≡ true → some ts ≡ true → StandsAsBlock bytes t) → (c ≡ true → n ≡ true → StandsAsBlock (with_ends tags) t)
    → (if d then some ts else c && n) ≡ true → StandsAsBlock (if d then bytes else with_ends tags) t
by_block label ts true c n bytes tags t h k e = h refl e
by_block label ts false true true bytes tags t h k e = k refl refl
by_block label ts false true false bytes tags t h k e = absurd cc
by_block label ts false false n bytes tags t h k e = absurd cc

-- ---- trees

mutual
  part_stands : (t : WideTree) (before behind : Bool) (h : IsWellFormed t)
      → Stands (part_text before behind t) (parts_in before behind t h)
  part_stands (leaf s) before behind h = text_stands before behind s h
  part_stands (node label ts) before behind h =
      tag_stands label ts h.0 (children_go ts label h.0 h.1) (children_follow ts h.1)

  content_stands : (t : WideTree) (h : IsWellFormed t) → Stands (content_text t) (content_parts t h)
  content_stands (leaf s) h = text_stands false false s h
  content_stands (node label ts) h =
      either_stands (stays_inline label ts) (parts_text false ts)
      (tag_text label ts (long_text label ts) (arguments_text ts)) (parts_side false ts h.1)
      (tag false (node label ts) ∷ [])
      (parts_stand ts false h.1) (tag_stands label ts h.0 (children_go ts label h.0 h.1) (children_follow ts h.1))

  parts_stand : (ts : Forest) (before : Bool) (h : AreWellFormed ts)
      → Stands (parts_text before ts) (parts_side before ts h)
  parts_stand nil before h = nothing_stands
  parts_stand (cons t ts) before h =
      both_stand (part_text before (some ts) t) (parts_text true ts) (parts_in before (some ts) t h.0)
      (parts_side true ts h.1) (part_stands t before (some ts) h.0) (parts_stand ts true h.1)

  children_follow : (ts : Forest) (h : AreWellFormed ts) → Follows (arguments_text ts ++ 62 ∷ []) (trees ts)
  children_follow nil h = no_more
  children_follow (cons t ts) h =
      subst (λ z. Follows (124 ∷ z) (t ∷ trees ts)) (sym (append_assoc (content_text t) (arguments_text ts) (62 ∷ [])))
      (one_more (content_text t) (arguments_text ts ++ 62 ∷ []) (content_parts t h.0) t (trees ts)
      (content_stands t h.0) (content_back t h.0) (children_follow ts h.1))

  children_go : (ts : Forest) (label : List ℕ) → IsLabel label → (h : AreWellFormed ts)
      → Goes label (has_block ts) (long_text label ts) (trees ts)
  children_go nil label l h = no_more
  children_go (cons t ts) label l h =
      child_goes label t (trees ts) (content_parts t h.0) (is_block t) (has_block ts) (long_text label ts) l
      (content_stands t h.0) (content_back t h.0) (λ e. block_stands t h.0 e) (children_go ts label l h.1)

  block_stands : (t : WideTree) (h : IsWellFormed t) → is_block t ≡ true → StandsAsBlock (block_text t) t
  block_stands (leaf s) h e = absurd cc
  block_stands (node label ts) h e =
      by_block label ts (same_bytes label document_label) (same_bytes label collection_label) (are_nodes ts)
      (paragraphs_text ts)
      (tags_text ts) (node label ts)
      (λ d s. document_stands ts label h.1 d s) (λ c n. collection_block label ts h.0 c (tags_stand ts h.1 n)) e

  document_stands : (ts : Forest) (label : List ℕ) (h : AreWellFormed ts) → same_bytes label document_label ≡ true
      → some ts ≡ true → StandsAsBlock (paragraphs_text ts) (node label ts)
  document_stands nil label h e k = absurd cc
  document_stands (cons t ts) label h e k =
      document_block label t ts h e
      (both_stand (or_mark t (content_text t)) (between (some ts) ++ paragraphs_text ts) (paragraph_parts t h.0)
      (behind_lines (paragraphs_of ts h.1))
      (paragraph_stands t h.0 (content_stands t h.0)) (paragraphs_stand ts h.1))

  paragraphs_stand : (ts : Forest) (h : AreWellFormed ts)
      → Stands (between (some ts) ++ paragraphs_text ts) (behind_lines (paragraphs_of ts h))
  paragraphs_stand nil h = nothing_stands
  paragraphs_stand (cons t ts) h =
      both_stand (10 ∷ 10 ∷ []) (or_mark t (content_text t) ++ (between (some ts) ++ paragraphs_text ts))
      (gap Line ∷ gap Line ∷ []) (paragraph_parts t h.0 ++ behind_lines (paragraphs_of ts h.1))
      (both_stand (10 ∷ []) (10 ∷ []) (gap Line ∷ []) (gap Line ∷ []) newline_stands newline_stands)
      (both_stand (or_mark t (content_text t)) (between (some ts) ++ paragraphs_text ts) (paragraph_parts t h.0)
      (behind_lines (paragraphs_of ts h.1))
      (paragraph_stands t h.0 (content_stands t h.0)) (paragraphs_stand ts h.1))

  tags_stand : (ts : Forest) (h : AreWellFormed ts) → are_nodes ts ≡ true → Stands (tags_text ts) (tag_lines ts)
  tags_stand nil h e = nothing_stands
  tags_stand (cons (leaf s) ts) h e = absurd cc
  tags_stand (cons (node label us) ts) h e =
      both_stand (part_text false false (node label us)) (10 ∷ tags_text ts) (tag false (node label us) ∷ [])
      (gap Line ∷ tag_lines ts) (part_stands (node label us) false false h.0)
      (both_stand (10 ∷ []) (tags_text ts) (gap Line ∷ []) (tag_lines ts) newline_stands (tags_stand ts h.1 e))

-- ---- the law

text_spells : (t : WideTree) (h : StandsAsBlock (tm_text t) t) → Spells (tm_text t) t
text_spells t h =
    spells_from (tm_text t) (h.first ++ behind_lines h.others) t h.stands
    (ap block (sym (append-nil (h.first ++ behind_lines h.others)))
    ∙ block_behind h.first h.others [] h.tight h.all_tight refl ∙ h.whole)

line_spells : (t : WideTree) (h : StandsAsBlock (tm_text t) t) → Spells (tm_text t ++ 10 ∷ []) t
line_spells t h =
    spells_from (tm_text t ++ 10 ∷ []) ((h.first ++ behind_lines h.others) ++ gap Line ∷ []) t
    (both_stand (tm_text t) (10 ∷ []) (h.first ++ behind_lines h.others) (gap Line ∷ []) h.stands newline_stands)
    (block_behind h.first h.others (gap Line ∷ []) h.tight h.all_tight refl ∙ h.whole)

alone : (bytes : List ℕ) (t : WideTree) → Spells bytes t → SpellsAlone bytes t
alone bytes t h = record { spelled = h; alone = λ u k. one_tree bytes u t k h }

pub text_alone : (t : WideTree) → IsWellFormed t → is_block t ≡ true → SpellsAlone (tm_text t) t
text_alone t h e = alone (tm_text t) t (text_spells t (block_stands t h e))

pub line_alone : (t : WideTree) → IsWellFormed t → is_block t ≡ true → SpellsAlone (tm_text t ++ 10 ∷ []) t
line_alone t h e = alone (tm_text t ++ 10 ∷ []) t (line_spells t (block_stands t h e))
