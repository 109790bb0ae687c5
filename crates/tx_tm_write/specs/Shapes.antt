-- Which form a tree has in the canonical TM text.
use Rattle.std.specs.Prelude.{◌≡◌, ℕ, Bool, true, false, ◌&&◌, ◌||◌, not, if◌then◌else◌, List, [], ◌∷◌}
use Rattle.tx_tree.specs.WideTree.{WideTree, Forest, leaf, node, nil, cons, is_leaf, forest}
use Rattle.tx_tm_form.specs.Bytes.{is_digit}
use Rattle.tx_tm_form.specs.Parts.{same_bytes, concat_label, document_label, collection_label, raw_data_label}

abbrev pub some : Forest → Bool
some nil = false
some (cons t ts) = true

abbrev pub are_nodes : Forest → Bool
are_nodes nil = true
are_nodes (cons t ts) = not (is_leaf t) && are_nodes ts

-- a document with a child, or a collection whose children are all nodes
abbrev pub is_block : WideTree → Bool
is_block (leaf text) = false
is_block (node label ts) = if same_bytes label document_label then some ts else same_bytes label collection_label
    && are_nodes ts

abbrev pub has_block : Forest → Bool
has_block nil = false
has_block (cons t ts) = is_block t || has_block ts

-- ---- content without a tag of its own

abbrev pub is_empty : WideTree → Bool
is_empty (leaf []) = true
is_empty (leaf (b ∷ text)) = false
is_empty (node label ts) = false

-- no child is the empty text, and no two texts are side by side; the test says whether there is a text before
abbrev pub are_apart : Bool → Forest → Bool
are_apart behind_text nil = true
are_apart behind_text (cons t ts) = not (is_empty t || (behind_text && is_leaf t)) && are_apart (is_leaf t) ts

abbrev pub has_two : Forest → Bool
has_two nil = false
has_two (cons t ts) = some ts

-- a concat that is written as the items of its texts and the tags of its nodes
abbrev pub stays_inline : List ℕ → Forest → Bool
stays_inline label ts = same_bytes label concat_label && has_two ts && are_apart false ts

-- ---- forms of tags

abbrev pub all_digits : List ℕ → Bool
all_digits [] = true
all_digits (b ∷ text) = is_digit b && all_digits text

abbrev pub is_digits : WideTree → Bool
is_digits (leaf text) = all_digits text
is_digits (node label ts) = false

abbrev pub is_one_of_digits : Forest → Bool
is_one_of_digits nil = false
is_one_of_digits (cons t ts) = is_digits t && not (some ts)

-- raw-data with one text of hexadecimal digits alone
abbrev pub is_raw : List ℕ → Forest → Bool
is_raw label ts = same_bytes label raw_data_label && is_one_of_digits ts

abbrev pub text_or_empty : WideTree → List ℕ
text_or_empty (leaf text) = text
text_or_empty (node label ts) = []

abbrev pub digits_of : Forest → List ℕ
digits_of nil = []
digits_of (cons t ts) = text_or_empty t

-- a node but a collection, with a block among its children
abbrev pub is_long : List ℕ → Forest → Bool
is_long label ts = not (same_bytes label collection_label) && has_block ts

-- the node is raw data with these digits
pub record IsRaw (label : List ℕ) (ts : List WideTree) (digits : List ℕ) : Type 0 where
  pub raw : is_raw label (forest ts) ≡ true
  pub are : digits_of (forest ts) ≡ digits
