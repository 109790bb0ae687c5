-- A tag, as it is written, stands for its node.
use Rattle.std.proofs.Common.{◌≡◌, ℕ, true, false, ◌==◌, List, [], ◌∷◌, ◌++◌, map, refl, sym, ap, subst, ◌∙◌}
use Rattle.std.proofs.Common.{append_assoc, arith}
use Rattle.std.specs.List.{flat_map}
use Rattle.std.proofs.lemmas.List.{append-nil}
use Rattle.std.proofs.lemmas.Bool.{and_parts}
use Rattle.tx_tree.specs.Labels.{is_label_byte, IsLabel}
use Rattle.tx_tree.specs.WideTree.{WideTree, Forest, leaf, node, nil, cons, forest, trees}
use Rattle.tx_tree.proofs.Children.{forest_trees}
use Rattle.tx_tm_form.specs.declared.places.TagForm.{TagForm}
use Rattle.tx_tm_form.specs.declared.places.TagForm.TheVariants.{Short, Long, Middle, Closing}
use Rattle.tx_tm_form.specs.declared.bytes.White.TheVariants.{Line}
use Rattle.tx_tm_form.specs.Bytes.{kind_of, is_white, is_plain, is_digit}
use Rattle.tx_tm_form.specs.Tokens.{Token, white, plain, raw, bar, close, form_mark, written}
use Rattle.tx_tm_form.specs.Parts.{ContentPart, gap, tag, content, block, long_tag, same_bytes, has_no_items, tag_trees}
use Rattle.tx_tm_form.specs.Parts.{collection_label, raw_data_label}
use Rattle.tx_tm_form.specs.Forms.{AreDigits, Pieces, Arguments, Blocks, blank, raw_data, short_tag, long_tag_of}
use Rattle.tx_tm_form.specs.Forms.{no_argument, argument, no_block, middle_tag, tokens_of, tag_beginning}
use Rattle.tx_tm_form.specs.Forms.{more_arguments}
use Rattle.tx_tm_form.specs.Forms.{tokens_of_blocks, piece_parts, argument_trees, children_of_blocks}
use Rattle.tx_tm_form.proofs.Sound.{same_is}
use Rattle.tx_tm_form.proofs.Formed.{digit_item}
use Rattle.tx_tm_write.specs.Shapes.{all_digits, is_one_of_digits, is_raw, digits_of}
use Rattle.tx_tm_write.specs.Canonical.{is_marked}
use Rattle.tx_tm_write.proofs.TextItems.{other_plain}
use Rattle.tx_tm_write.proofs.Standing.{AreWords, no_word, both_words, one_word, word_before, Stands, one_stands}

-- ---- raw data

digit_no_space : (b : ℕ) → is_digit b ≡ true → (b == 32) ≡ false
digit_no_space b h = grind arith

digit_unmarked : (b : ℕ) → is_digit b ≡ true → is_marked b ≡ false
digit_unmarked b h = grind arith

digit_plain : (b : ℕ) → is_digit b ≡ true → is_plain (kind_of b) ≡ true
digit_plain b h = other_plain b (digit_item b h) (digit_no_space b h) (digit_unmarked b h)

digit_words : (digits : List ℕ) → AreDigits digits → AreWords digits (map plain digits)
digit_words [] h = no_word
digit_words (b ∷ digits) h =
    word_before (plain b) digits (map plain digits) (digit_plain b h.0) (digit_words digits h.1)

raw_stands : (digits : List ℕ) → AreDigits digits
    → Stands (60 ∷ 35 ∷ (digits ++ 62 ∷ [])) (tag false (node raw_data_label (cons (leaf digits) nil)) ∷ [])
raw_stands digits h =
    one_stands (raw_data digits h) (60 ∷ 35 ∷ (digits ++ 62 ∷ []))
    (word_before raw (digits ++ 62 ∷ []) (map plain digits ++ close ∷ []) tt
    (both_words digits (62 ∷ []) (map plain digits) (close ∷ []) (digit_words digits h) (one_word close tt)))

are_digits : (digits : List ℕ) → all_digits digits ≡ true → AreDigits digits
are_digits [] h = tt
are_digits (b ∷ digits) h = let p = and_parts (is_digit b) (all_digits digits) h in (p.0, are_digits digits p.1)

raw_node : (label : List ℕ) (ts : Forest) → same_bytes label raw_data_label ≡ true → is_one_of_digits ts ≡ true
    → Stands (60 ∷ 35 ∷ (digits_of ts ++ 62 ∷ [])) (tag false (node label ts) ∷ [])
raw_node label nil e k = absurd cc
raw_node label (cons (leaf digits) nil) e k =
    subst (λ l. Stands (60 ∷ 35 ∷ (digits ++ 62 ∷ [])) (tag false (node l (cons (leaf digits) nil)) ∷ []))
    (sym (same_is label raw_data_label e))
    (raw_stands digits (are_digits digits (and_parts (all_digits digits) true k).0))
raw_node label (cons (leaf digits) (cons t ts)) e k = let p = and_parts (all_digits digits) false k in absurd cc
raw_node label (cons (node l us) ts) e k = absurd cc

-- a node that is written by its digits
pub raw_tag : (label : List ℕ) (ts : Forest) → is_raw label ts ≡ true
    → Stands (60 ∷ 35 ∷ (digits_of ts ++ 62 ∷ [])) (tag false (node label ts) ∷ [])
raw_tag label ts e = let p = and_parts (same_bytes label raw_data_label) (is_one_of_digits ts) e in
    raw_node label ts p.0 p.1

-- ---- beginnings of tags

-- after a label: arguments, the end of the tag, and more
begin : (form : TagForm) (label : List ℕ) (xs : Arguments) (y : List ℕ) (more : List Token) → IsLabel label
    → AreWords y (more_arguments xs ++ more)
    → AreWords (60 ∷ (form_mark form ++ (label ++ y))) (tag_beginning form label xs ++ more)
begin form label no_argument y more l h =
    record {
      each = (l, h.each.1);
      all = ap (λ z. 60 ∷ (form_mark form ++ (label ++ z))) h.all
          ∙ ap (λ z. 60 ∷ (form_mark form ++ z)) (sym (append_assoc label (62 ∷ []) (flat_map written more)))
          ∙ ap (λ z. 60 ∷ z) (sym (append_assoc (form_mark form) (label ++ 62 ∷ []) (flat_map written more)));
    }
begin form label (argument x xs) y more l h =
    let others = (tokens_of x ++ more_arguments xs) ++ more in
    record {
      each = (l, h.each.1);
      all = ap (λ z. 60 ∷ (form_mark form ++ (label ++ z))) h.all
          ∙ ap (λ z. 60 ∷ (form_mark form ++ z)) (sym (append_assoc label (124 ∷ []) (flat_map written others)))
          ∙ ap (λ z. 60 ∷ z) (sym (append_assoc (form_mark form) (label ++ 124 ∷ []) (flat_map written others)));
    }

-- what is after the label of a tag: arguments with these trees, and the end of the tag
pub record Follows (bytes : List ℕ) (ts : List WideTree) : Type 0 where
  pub arguments : Arguments
  pub words : AreWords bytes (more_arguments arguments)
  pub trees : argument_trees arguments ≡ ts

pub no_more : Follows (62 ∷ []) []
no_more = record { arguments = no_argument; words = one_word close tt; trees = refl }

pub one_more : (x y : List ℕ) (ps : List ContentPart) (t : WideTree) (ts : List WideTree) → Stands x ps → content ps ≡ t
    → Follows y ts → Follows (124 ∷ (x ++ y)) (t ∷ ts)
one_more x y ps t ts h e k =
    record {
      arguments = argument h.pieces k.arguments;
      words = word_before bar (x ++ y) (tokens_of h.pieces ++ more_arguments k.arguments) tt
          (both_words x y (tokens_of h.pieces) (more_arguments k.arguments) h.words k.words);
      trees = ap (λ z. z ∷ argument_trees k.arguments) (ap content h.parts ∙ e) ∙ ap (λ z. t ∷ z) k.trees;
    }

begun : (form : TagForm) (label : List ℕ) (xs : Arguments) (y : List ℕ) → IsLabel label → AreWords y (more_arguments xs)
    → AreWords (60 ∷ (form_mark form ++ (label ++ y))) (tag_beginning form label xs)
begun form label xs y l h =
    subst (AreWords (60 ∷ (form_mark form ++ (label ++ y)))) (append-nil (tag_beginning form label xs))
    (begin form label xs y [] l (subst (AreWords y) (sym (append-nil (more_arguments xs))) h))

pub short_stands : (label : List ℕ) (bytes : List ℕ) (ts : Forest) → IsLabel label → Follows bytes (trees ts)
    → Stands (60 ∷ (label ++ bytes)) (tag false (node label ts) ∷ [])
short_stands label bytes ts l h =
    subst (λ z. Stands (60 ∷ (label ++ bytes)) (tag false (node label z) ∷ [])) (ap forest h.trees ∙ forest_trees ts)
    (one_stands (short_tag label l h.arguments) (60 ∷ (label ++ bytes)) (begun Short label h.arguments bytes l h.words))

-- ---- long tags

-- what is after the label of a long or middle tag: arguments, a block, and the other tags, with these trees
pub record Continues (label bytes : List ℕ) (ts : List WideTree) : Type 0 where
  pub arguments : Arguments
  pub first : Pieces
  pub others : Blocks
  pub last : Arguments
  pub words : AreWords bytes
      (more_arguments arguments ++ (tokens_of first
      ++ (tokens_of_blocks label others ++ tag_beginning Closing label last)))
  pub trees : argument_trees arguments ++ block (piece_parts first) ∷ children_of_blocks others (argument_trees last)
      ≡ ts

pub argument_before : (label x y : List ℕ) (ps : List ContentPart) (t : WideTree) (ts : List WideTree) → Stands x ps
    → content ps ≡ t → Continues label y ts → Continues label (124 ∷ (x ++ y)) (t ∷ ts)
argument_before label x y ps t ts h e k =
    let behind = tokens_of k.first ++ (tokens_of_blocks label k.others ++ tag_beginning Closing label k.last) in
    record {
      arguments = argument h.pieces k.arguments;
      first = k.first;
      others = k.others;
      last = k.last;
      words = word_before bar (x ++ y) ((tokens_of h.pieces ++ more_arguments k.arguments) ++ behind) tt
          (subst (AreWords (x ++ y)) (sym (append_assoc (tokens_of h.pieces) (more_arguments k.arguments) behind))
          (both_words x y (tokens_of h.pieces) (more_arguments k.arguments ++ behind) h.words k.words));
      trees = ap (λ z.
          z ∷ (argument_trees k.arguments ++ block (piece_parts k.first)
          ∷ children_of_blocks k.others (argument_trees k.last)))
          (ap content h.parts ∙ e) ∙ ap (λ z. t ∷ z) k.trees;
    }

-- the last block
pub block_last : (label x y : List ℕ) (ps : List ContentPart) (t : WideTree) (ts : List WideTree) → IsLabel label
    → Stands x ps
    → block ps ≡ t → Follows y ts
    → Continues label (62 ∷ (x ++ 60 ∷ 47 ∷ (label ++ y))) (t ∷ ts)
block_last label x y ps t ts l h e k =
    record {
      arguments = no_argument;
      first = h.pieces;
      others = no_block;
      last = k.arguments;
      words = word_before close (x ++ 60 ∷ 47 ∷ (label ++ y))
          (tokens_of h.pieces ++ tag_beginning Closing label k.arguments) tt
          (both_words x (60 ∷ 47 ∷ (label ++ y)) (tokens_of h.pieces) (tag_beginning Closing label k.arguments) h.words
          (begun Closing label k.arguments y l k.words));
      trees = ap (λ z. z ∷ argument_trees k.arguments) (ap block h.parts ∙ e) ∙ ap (λ z. t ∷ z) k.trees;
    }

-- a block before another
pub block_before : (label x y : List ℕ) (ps : List ContentPart) (t : WideTree) (ts : List WideTree) → IsLabel label
    → Stands x ps → block ps ≡ t → Continues label y ts
    → Continues label (62 ∷ (x ++ 60 ∷ 124 ∷ (label ++ y))) (t ∷ ts)
block_before label x y ps t ts l h e k =
    let behind = tokens_of_blocks label k.others ++ tag_beginning Closing label k.last in
    record {
      arguments = no_argument;
      first = h.pieces;
      others = middle_tag k.arguments k.first k.others;
      last = k.last;
      words = word_before close (x ++ 60 ∷ 124 ∷ (label ++ y))
          (tokens_of h.pieces
          ++ ((tag_beginning Middle label k.arguments ++ (tokens_of k.first ++ tokens_of_blocks label k.others))
          ++ tag_beginning Closing label k.last)) tt
          (both_words x (60 ∷ 124 ∷ (label ++ y)) (tokens_of h.pieces)
          ((tag_beginning Middle label k.arguments ++ (tokens_of k.first ++ tokens_of_blocks label k.others))
          ++ tag_beginning Closing label k.last) h.words
          (subst (AreWords (60 ∷ 124 ∷ (label ++ y)))
          (regrouped (tag_beginning Middle label k.arguments) (tokens_of k.first) (tokens_of_blocks label k.others)
          (tag_beginning Closing label k.last))
          (begin Middle label k.arguments y (tokens_of k.first ++ behind) l k.words)));
      trees = ap (λ z.
          z ∷ (argument_trees k.arguments ++ block (piece_parts k.first)
          ∷ children_of_blocks k.others (argument_trees k.last)))
          (ap block h.parts ∙ e) ∙ ap (λ z. t ∷ z) k.trees;
    }
  where
    regrouped : (a b c d : List Token) → a ++ (b ++ (c ++ d)) ≡ (a ++ (b ++ c)) ++ d
    regrouped a b c d = simp append_assoc refl

ordinary_tag : (label : List ℕ) (us : List WideTree) (ps : List ContentPart) (vs : List WideTree)
    → same_bytes label collection_label ≡ false
    → long_tag label us ps vs ≡ tag false (node label (forest (us ++ block ps ∷ vs)))
unfolding long_tag
ordinary_tag label us ps vs e = rw e refl

pub long_stands : (label : List ℕ) (bytes : List ℕ) (ts : Forest) → IsLabel label
    → same_bytes label collection_label ≡ false
    → Continues label bytes (trees ts)
    → Stands (60 ∷ 92 ∷ (label ++ bytes)) (tag false (node label ts) ∷ [])
long_stands label bytes ts l e h =
    subst (λ z. Stands (60 ∷ 92 ∷ (label ++ bytes)) (z ∷ []))
    (ordinary_tag label (argument_trees h.arguments) (piece_parts h.first)
    (children_of_blocks h.others (argument_trees h.last))
    e ∙ ap (λ us. tag false (node label (forest us))) h.trees
    ∙ ap (λ us. tag false (node label us)) (forest_trees ts))
    (one_stands (long_tag_of label l h.arguments h.first h.others h.last) (60 ∷ 92 ∷ (label ++ bytes))
    (begin Long label h.arguments bytes
    (tokens_of h.first ++ (tokens_of_blocks label h.others ++ tag_beginning Closing label h.last)) l h.words))

-- ---- collections

white_newline : is_white (kind_of 10) ≡ true
unfolding kind_of is_label_byte
white_newline = refl

pub newline_stands : Stands (10 ∷ []) (gap Line ∷ [])
newline_stands = one_stands (blank 10) (10 ∷ []) (one_word (white 10) white_newline)

-- tags, with a newline after each
abbrev pub tag_lines : Forest → List ContentPart
tag_lines nil = []
tag_lines (cons t ts) = tag false t ∷ gap Line ∷ tag_lines ts

no_items : (ts : Forest) → has_no_items (tag_lines ts) ≡ true
no_items nil = refl
no_items (cons t ts) = no_items ts

all_tags : (ts : Forest) → tag_trees (tag_lines ts) ≡ trees ts
all_tags nil = refl
all_tags (cons t ts) = ap (λ z. t ∷ z) (all_tags ts)

collection_tag : (ps : List ContentPart) → has_no_items ps ≡ true
    → long_tag collection_label [] ps [] ≡ tag true (node collection_label (forest (tag_trees ps)))
unfolding long_tag
collection_tag ps h = rw h refl

pub collection_stands : (bytes : List ℕ) (ts : Forest) → IsLabel collection_label
    → Stands bytes (gap Line ∷ tag_lines ts)
    → Stands (60 ∷ 92 ∷ (collection_label ++ 62 ∷ (bytes ++ 60 ∷ 47 ∷ (collection_label ++ 62 ∷ []))))
    (tag true (node collection_label ts) ∷ [])
collection_stands bytes ts l h =
    let part : long_tag collection_label [] (piece_parts h.pieces) [] ≡ tag true (node collection_label ts)
    = ap (λ ps. long_tag collection_label [] ps []) h.parts ∙ collection_tag (gap Line ∷ tag_lines ts) (no_items ts)
    ∙ ap (λ us. tag true (node collection_label (forest us))) (all_tags ts)
    ∙ ap (λ us. tag true (node collection_label us)) (forest_trees ts) in
    let behind = tokens_of h.pieces ++ tag_beginning Closing collection_label no_argument in
    let end = bytes ++ 60 ∷ 47 ∷ (collection_label ++ 62 ∷ []) in
    subst (λ z. Stands (60 ∷ 92 ∷ (collection_label ++ 62 ∷ end)) (z ∷ [])) part
    (one_stands (long_tag_of collection_label l no_argument h.pieces no_block no_argument)
    (60 ∷ 92 ∷ (collection_label ++ 62 ∷ end))
    (begin Long collection_label no_argument (62 ∷ end) behind l
    (word_before close end behind tt
    (both_words bytes (60 ∷ 47 ∷ (collection_label ++ 62 ∷ [])) (tokens_of h.pieces)
    (tag_beginning Closing collection_label no_argument) h.words
    (begun Closing collection_label no_argument (62 ∷ []) l (one_word close tt))))))
