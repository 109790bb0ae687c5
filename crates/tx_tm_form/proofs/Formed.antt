-- The tree that a form stands for is well formed.
use Rattle.std.proofs.Common.{◌≡◌, ℕ, ◌-◌, Bool, true, false, ◌&&◌, ◌||◌, ◌==◌, nat_le, if◌then◌else◌, List, [], ◌∷◌}
use Rattle.std.proofs.Common.{◌++◌, map, Some, None, refl, sym, subst, arith}
use Rattle.std.specs.List.{AllByRecursion}
use Rattle.std.proofs.lemmas.List.{append-nil}
use Rattle.std.proofs.lemmas.List.Concat.{flat_map-append}
use Rattle.tx_tree.specs.Texts.{byte, symbol, is_item_byte, item_bytes, IsText, IsName}
use Rattle.tx_tree.specs.Labels.{is_label_byte, IsLabel}
use Rattle.tx_tree.specs.WideTree.{WideTree, node, forest}
use Rattle.tx_tree.specs.Limits.{IsWellFormed, AreWellFormed}
use Rattle.tx_tree.proofs.PlaceFaults.{items_append}
use Rattle.tx_tm_form.specs.declared.bytes.Escaped.{Escaped}
use Rattle.tx_tm_form.specs.declared.bytes.Escaped.TheVariants.{Mark, Byte}
use Rattle.tx_tm_form.specs.declared.bytes.White.{White}
use Rattle.tx_tm_form.specs.declared.bytes.White.TheVariants.{Spaces, Line, Break}
use Rattle.tx_tm_form.specs.Bytes.{kind_of, is_plain, escape_of, escaped_bytes, is_digit}
use Rattle.tx_tm_form.specs.Parts.{ContentPart, gap, text, tag, concat_label, document_label, collection_label}
use Rattle.tx_tm_form.specs.Parts.{raw_data_label}
use Rattle.tx_tm_form.specs.Parts.{leaf_before, texts_and_tags, concat_of, content, run_before, with_runs, from_first}
use Rattle.tx_tm_form.specs.Parts.{unless_last, to_last, into_first, separate, parts_by_paragraph, tree_of_document}
use Rattle.tx_tm_form.specs.Parts.{block}
use Rattle.tx_tm_form.specs.Parts.{has_no_items, tag_trees, same_bytes, none, long_tag}
use Rattle.tx_tm_form.specs.Forms.{AreDigits, Piece, Pieces, Arguments, Blocks, blank, letter, escaped}
use Rattle.tx_tm_form.specs.Forms.{symbol as symbol_piece, raw_data, short_tag, long_tag_of, nothing, piece}
use Rattle.tx_tm_form.specs.Forms.{no_argument, argument, no_block, middle_tag, piece_part, piece_parts, argument_trees}
use Rattle.tx_tm_form.specs.Forms.{children_of_blocks, symbol_bytes, Spells}

-- ---- texts

pub text_text : (a b : List ℕ) → IsText a → IsText b → IsText (a ++ b)
text_text a b h k = (h.0 ++ k.0, items_append h.0 k.0 h.1 k.1, rw (h.2, k.2) (sym (flat_map-append item_bytes h.0 k.0)))

pub no_text : IsText []
no_text = ([], tt, refl)

pub one_byte_text : (b : ℕ) → is_item_byte b ≡ true → IsText (b ∷ [])
one_byte_text b h = (byte b ∷ [], (h, tt), refl)

pub symbol_text : (n : List ℕ) → IsName n → IsText (symbol_bytes n)
symbol_text n h = (symbol n ∷ [], (h, tt), sym (append-nil (symbol_bytes n)))

pub is_same_number : (b c : ℕ) → (b == c) ≡ true → b ≡ c
is_same_number b c e = grind arith

pub other_byte : (b n : ℕ) → is_plain (kind_of n) ≡ false → is_plain (kind_of b) ≡ true → (b == n) ≡ false
other_byte b n h k =
    elim (b == n) as (λ z. (b == n) ≡ z → z ≡ false) [
      | true ↦ λ e. let g : is_plain (kind_of n) ≡ true =
          subst (λ m. is_plain (kind_of m) ≡ true) (is_same_number b n e) k in absurd cc
      | false ↦ λ e. refl
    ] refl

unplain : (is_plain (kind_of 9) ≡ false) × (is_plain (kind_of 10) ≡ false) × (is_plain (kind_of 13) ≡ false)
    × (is_plain (kind_of 60) ≡ false) × (is_plain (kind_of 62) ≡ false)
unfolding kind_of is_label_byte
unplain = (refl, refl, refl, refl, refl)

pub plain_item : (b : ℕ) → is_plain (kind_of b) ≡ true → is_item_byte b ≡ true
plain_item b h =
    rw (
      other_byte b 9 unplain.0 h,
      other_byte b 10 unplain.1 h,
      other_byte b 13 unplain.2 h,
      other_byte b 60 unplain.3 h,
      other_byte b 62 unplain.4 h,
    ) refl

same_byte_item : (b v : ℕ) → (b == 124 || b == 92 || b == 32) ≡ true → b ≡ v → is_item_byte v ≡ true
same_byte_item b v h e = grind arith

zero_item : (v : ℕ) → 0 ≡ v → is_item_byte v ≡ true
zero_item v e = rw (← e) refl

less_item : (b v : ℕ) → (b == 73 || b == 74 || b == 77) ≡ false → (nat_le 64 b && nat_le b 95) ≡ true → b - 64 ≡ v
    → is_item_byte v ≡ true
less_item b v h k e = grind arith

by_range : (b v : ℕ) (c : Bool) → (b == 73 || b == 74 || b == 77) ≡ false → (nat_le 64 b && nat_le b 95) ≡ c
    → (if c then Some (Byte (b - 64)) else None) ≡ Some (Byte v) → is_item_byte v ≡ true
by_range b v true h k e = less_item b v h k cc
by_range b v false h k e = absurd cc

by_refused : (b v : ℕ) (c : Bool) → (b == 73 || b == 74 || b == 77) ≡ c
    → (if c then None else if nat_le 64 b && nat_le b 95 then Some (Byte (b - 64)) else None) ≡ Some (Byte v)
    → is_item_byte v ≡ true
by_refused b v true h e = absurd cc
by_refused b v false h e = by_range b v (nat_le 64 b && nat_le b 95) h refl e

by_zero : (b v : ℕ) (c : Bool)
    → (if c then Some (Byte 0) else if b == 73 || b == 74 || b == 77 then None else if nat_le 64 b && nat_le b 95
    then Some (Byte (b - 64)) else None) ≡ Some (Byte v) → is_item_byte v ≡ true
by_zero b v true e = zero_item v cc
by_zero b v false e = by_refused b v (b == 73 || b == 74 || b == 77) refl e

by_itself : (b v : ℕ) (c : Bool) → (b == 124 || b == 92 || b == 32) ≡ c
    → (if c then Some (Byte b) else if b == 48 then Some (Byte 0) else if b == 73 || b == 74 || b == 77 then None
    else if nat_le 64 b && nat_le b 95 then Some (Byte (b - 64)) else None) ≡ Some (Byte v) → is_item_byte v ≡ true
by_itself b v true h e = same_byte_item b v h cc
by_itself b v false h e = by_zero b v (b == 48) e

by_mark : (b v : ℕ) (c : Bool)
    → (if c then Some Mark else if b == 124 || b == 92 || b == 32 then Some (Byte b) else if b == 48 then Some (Byte 0)
    else if b == 73 || b == 74 || b == 77 then None else if nat_le 64 b && nat_le b 95 then Some (Byte (b - 64))
    else None) ≡ Some (Byte v) → is_item_byte v ≡ true
by_mark b v true e = absurd cc
by_mark b v false e = by_itself b v (b == 124 || b == 92 || b == 32) refl e

escaped_item : (b v : ℕ) → escape_of b ≡ Some (Byte v) → is_item_byte v ≡ true
unfolding escape_of
escaped_item b v h = by_mark b v (b == 59) h

pub escaped_text : (b : ℕ) (e : Escaped) → escape_of b ≡ Some e → IsText (escaped_bytes e)
escaped_text b Mark h = no_text
escaped_text b (Byte v) h = one_byte_text v (escaped_item b v h)

pub digit_item : (b : ℕ) → is_digit b ≡ true → is_item_byte b ≡ true
digit_item b h = grind arith

pub digits_text : (ds : List ℕ) → AreDigits ds → IsText ds
digits_text [] h = no_text
digits_text (b ∷ ds) h = text_text (b ∷ []) ds (one_byte_text b (digit_item b h.0)) (digits_text ds h.1)

-- ---- labels

pub concat_is_label : IsLabel concat_label
unfolding is_label_byte
concat_is_label =
    record { each = (refl, (refl, (refl, (refl, (refl, (refl, tt)))))); some = omega arith; short = omega arith }

pub document_is_label : IsLabel document_label
unfolding is_label_byte
document_is_label =
    record {
      each = (refl, (refl, (refl, (refl, (refl, (refl, (refl, (refl, tt))))))));
      some = omega arith;
      short = omega arith;
    }

pub collection_is_label : IsLabel collection_label
unfolding is_label_byte
collection_is_label =
    record {
      each = (refl, (refl, (refl, (refl, (refl, (refl, (refl, (refl, (refl, (refl, tt))))))))));
      some = omega arith;
      short = omega arith;
    }

pub raw_data_is_label : IsLabel raw_data_label
unfolding is_label_byte
raw_data_is_label =
    record {
      each = (refl, (refl, (refl, (refl, (refl, (refl, (refl, (refl, tt))))))));
      some = omega arith;
      short = omega arith;
    }

-- ---- lists of trees

abbrev pub AreTrees : List WideTree → Type 0
AreTrees ts = AreWellFormed (forest ts)

pub trees_trees : (us vs : List WideTree) → AreTrees us → AreTrees vs → AreTrees (us ++ vs)
trees_trees [] vs h k = k
trees_trees (u ∷ us) vs h k = (h.0, trees_trees us vs h.1 k)

pub leaf_trees : (s : List ℕ) (ts : List WideTree) → IsText s → AreTrees ts → AreTrees (leaf_before s ts)
leaf_trees [] ts h k = k
leaf_trees (b ∷ s) ts h k = (h, k)

pub concat_tree : (ts : List WideTree) → AreTrees ts → IsWellFormed (concat_of ts)
concat_tree [] h = no_text
concat_tree (t ∷ []) h = h.0
concat_tree (t ∷ u ∷ ts) h = (concat_is_label, h)

-- ---- parts

abbrev pub IsPart : ContentPart → Type 0
IsPart (gap w) = Unit {0}
IsPart (text x) = IsText x
IsPart (tag c t) = IsWellFormed t

abbrev pub AreParts : List ContentPart → Type 0
AreParts = AllByRecursion IsPart

pub space_behind : (r : Bool) (s : List ℕ) → IsText s → IsText (if r then s else s ++ 32 ∷ [])
space_behind true s h = h
space_behind false s h = text_text s (32 ∷ []) h (one_byte_text 32 refl)

texts_trees : (ps : List ContentPart) (r : Bool) (s : List ℕ) → AreParts ps → IsText s
    → AreTrees (texts_and_tags r s ps)
texts_trees [] r s h k = leaf_trees s [] k tt
texts_trees (gap w ∷ ps) r s h k = texts_trees ps true (if r then s else s ++ 32 ∷ []) h.1 (space_behind r s k)
texts_trees (text x ∷ ps) r s h k = texts_trees ps false (s ++ x) h.1 (text_text s x k h.0)
texts_trees (tag c t ∷ ps) r s h k =
    leaf_trees s (t ∷ texts_and_tags false [] ps) k (h.0, texts_trees ps false [] h.1 no_text)

pub content_tree : (ps : List ContentPart) → AreParts ps → IsWellFormed (content ps)
unfolding content
content_tree ps h = concat_tree (texts_and_tags false [] ps) (texts_trees ps false [] h no_text)

run_parts : (p : ContentPart) (ps : List ContentPart) → IsPart p → AreParts ps → AreParts (run_before p ps)
run_parts (gap v) [] h k = (h, k)
run_parts (gap v) (gap w ∷ ps) h k = (tt, k.1)
run_parts (gap v) (text x ∷ ps) h k = (h, k)
run_parts (gap v) (tag c t ∷ ps) h k = (h, k)
run_parts (text x) ps h k = (h, k)
run_parts (tag c t) ps h k = (h, k)

runs_parts : (ps : List ContentPart) → AreParts ps → AreParts (with_runs ps)
runs_parts [] h = tt
runs_parts (p ∷ ps) h = run_parts p (with_runs ps) h.0 (runs_parts ps h.1)

first_parts : (ps : List ContentPart) → AreParts ps → AreParts (from_first ps)
first_parts [] h = tt
first_parts (gap w ∷ ps) h = h.1
first_parts (text x ∷ ps) h = h
first_parts (tag c t ∷ ps) h = h

unless_parts : (p : ContentPart) (ps : List ContentPart) → IsPart p → AreParts ps → AreParts (unless_last p ps)
unless_parts (gap w) [] h k = tt
unless_parts (gap w) (q ∷ ps) h k = (h, k)
unless_parts (text x) ps h k = (h, k)
unless_parts (tag c t) ps h k = (h, k)

last_parts : (ps : List ContentPart) → AreParts ps → AreParts (to_last ps)
last_parts [] h = tt
last_parts (p ∷ ps) h = unless_parts p (to_last ps) h.0 (last_parts ps h.1)

abbrev AreParagraphs : List (List ContentPart) → Type 0
AreParagraphs = AllByRecursion AreParts

into_parts : (p : ContentPart) (qs : List (List ContentPart)) → IsPart p → AreParagraphs qs
    → AreParagraphs (into_first p qs)
into_parts p [] h k = ((h, tt), tt)
into_parts p (q ∷ qs) h k = ((h, k.0), k.1)

separate_parts : (w : White) (qs : List (List ContentPart)) → AreParagraphs qs → AreParagraphs (separate w qs)
separate_parts Spaces qs k = into_parts (gap Spaces) qs tt k
separate_parts Line qs k = into_parts (gap Line) qs tt k
separate_parts Break qs k = (tt, k)

paragraph_parts : (ps : List ContentPart) → AreParts ps → AreParagraphs (parts_by_paragraph ps)
paragraph_parts [] h = tt
paragraph_parts (gap w ∷ ps) h = separate_parts w (parts_by_paragraph ps) (paragraph_parts ps h.1)
paragraph_parts (text x ∷ ps) h = into_parts (text x) (parts_by_paragraph ps) h.0 (paragraph_parts ps h.1)
paragraph_parts (tag c t ∷ ps) h = into_parts (tag c t) (parts_by_paragraph ps) h.0 (paragraph_parts ps h.1)

contents : (qs : List (List ContentPart)) → AreParagraphs qs → AreTrees (map content qs)
contents [] h = tt
contents (q ∷ qs) h = (content_tree q h.0, contents qs h.1)

document_tree : (qs : List (List ContentPart)) → AreParagraphs qs → IsWellFormed (tree_of_document qs)
document_tree [] h = (document_is_label, (no_text, tt))
document_tree ((tag true t ∷ []) ∷ []) h = h.0.0
document_tree ((tag true t ∷ (p ∷ q)) ∷ []) h = (document_is_label, contents ((tag true t ∷ (p ∷ q)) ∷ []) h)
document_tree ((tag false t ∷ q) ∷ []) h = (document_is_label, contents ((tag false t ∷ q) ∷ []) h)
document_tree ([] ∷ []) h = (document_is_label, contents ([] ∷ []) h)
document_tree ((gap w ∷ q) ∷ []) h = (document_is_label, contents ((gap w ∷ q) ∷ []) h)
document_tree ((text x ∷ q) ∷ []) h = (document_is_label, contents ((text x ∷ q) ∷ []) h)
document_tree ((tag true t ∷ []) ∷ (r ∷ qs)) h = (document_is_label, contents ((tag true t ∷ []) ∷ (r ∷ qs)) h)
document_tree ((tag true t ∷ (p ∷ q)) ∷ (r ∷ qs)) h =
    (document_is_label, contents ((tag true t ∷ (p ∷ q)) ∷ (r ∷ qs)) h)
document_tree ((tag false t ∷ q) ∷ (r ∷ qs)) h = (document_is_label, contents ((tag false t ∷ q) ∷ (r ∷ qs)) h)
document_tree ([] ∷ (r ∷ qs)) h = (document_is_label, contents ([] ∷ (r ∷ qs)) h)
document_tree ((gap w ∷ q) ∷ (r ∷ qs)) h = (document_is_label, contents ((gap w ∷ q) ∷ (r ∷ qs)) h)
document_tree ((text x ∷ q) ∷ (r ∷ qs)) h = (document_is_label, contents ((text x ∷ q) ∷ (r ∷ qs)) h)

pub block_tree : (ps : List ContentPart) → AreParts ps → IsWellFormed (block ps)
unfolding block
block_tree ps h =
    document_tree (parts_by_paragraph (to_last (from_first (with_runs ps))))
    (paragraph_parts (to_last (from_first (with_runs ps)))
    (last_parts (from_first (with_runs ps)) (first_parts (with_runs ps) (runs_parts ps h))))

tags_trees : (ps : List ContentPart) → AreParts ps → AreTrees (tag_trees ps)
tags_trees [] h = tt
tags_trees (gap w ∷ ps) h = tags_trees ps h.1
tags_trees (text x ∷ ps) h = tags_trees ps h.1
tags_trees (tag c t ∷ ps) h = (h.0, tags_trees ps h.1)

pub long_part : (l : List ℕ) (us : List WideTree) (ps : List ContentPart) (vs : List WideTree) → IsLabel l → AreTrees us
    → AreParts ps → AreTrees vs → IsPart (long_tag l us ps vs)
unfolding long_tag
long_part l us ps vs a h i k =
    elim (same_bytes l collection_label && none us && none vs && has_no_items ps)
    as (λ z. IsPart
    (if z then tag true (node collection_label (forest (tag_trees ps))) else tag false
    (node l (forest (us ++ block ps ∷ vs))))) [
      | true ↦ (collection_is_label, tags_trees ps i)
      | false ↦ (a, trees_trees us (block ps ∷ vs) h (block_tree ps i, k))
    ]

-- ---- forms

mutual
  part_tree : (p : Piece) → IsPart (piece_part p)
  part_tree (blank b) = tt
  part_tree (letter b h) = one_byte_text b (plain_item b h)
  part_tree (escaped b e h) = escaped_text b e h
  part_tree (symbol_piece n h) = symbol_text n h
  part_tree (raw_data ds h) = (raw_data_is_label, (digits_text ds h, tt))
  part_tree (short_tag l h xs) = (h, children_trees xs)
  part_tree (long_tag_of l h xs first others last) =
      long_part l (argument_trees xs) (piece_parts first) (children_of_blocks others (argument_trees last)) h
      (children_trees xs)
      (parts_trees first) (blocks_trees others (argument_trees last) (children_trees last))

  pub parts_trees : (c : Pieces) → AreParts (piece_parts c)
  parts_trees nothing = tt
  parts_trees (piece p ps) = (part_tree p, parts_trees ps)

  children_trees : (xs : Arguments) → AreTrees (argument_trees xs)
  children_trees no_argument = tt
  children_trees (argument x xs) = (content_tree (piece_parts x) (parts_trees x), children_trees xs)

  blocks_trees : (bs : Blocks) (ts : List WideTree) → AreTrees ts → AreTrees (children_of_blocks bs ts)
  blocks_trees no_block ts h = h
  blocks_trees (middle_tag xs b bs) ts h =
      trees_trees (argument_trees xs) (block (piece_parts b) ∷ children_of_blocks bs ts) (children_trees xs)
      (block_tree (piece_parts b) (parts_trees b), blocks_trees bs ts h)

pub spelled_tree : (bytes : List ℕ) (t : WideTree) → Spells bytes t → IsWellFormed t
spelled_tree bytes t h = subst IsWellFormed (sym h.meant) (block_tree (piece_parts h.file) (parts_trees h.file))
