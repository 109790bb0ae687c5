-- The canonical TM text of a block.
use Rattle.std.specs.Prelude.{ℕ, ◌+◌, Bool, true, false, ◌&&◌, ◌||◌, ◌==◌}
use Rattle.std.specs.Prelude.{not, nat_lt, if◌then◌else◌, List, [], ◌∷◌, ◌++◌}
use Rattle.tx_tree.specs.WideTree.{WideTree, Forest, leaf, node, nil, cons}
use Rattle.tx_tm_form.specs.Parts.{same_bytes, document_label, collection_label}
use Rattle.tx_tm_write.specs.Shapes.{some, is_block, has_block, is_empty, stays_inline, is_raw, is_long, digits_of}

-- ---- items
-- In a text, < and > are only round the name of a symbol, and a name has no spaces and no control bytes. So items can
-- be written byte by byte.

-- a byte that is written after a backslash as it is
abbrev pub is_marked : ℕ → Bool
is_marked b = b == 60 || b == 62 || b == 92 || b == 124

-- a control byte, 28 aside, is written after a backslash as the byte 64 more
abbrev pub is_control : ℕ → Bool
is_control b = nat_lt b 32 && not (b == 28)

-- a byte, where raw says how a space is written
abbrev pub byte_text : Bool → ℕ → List ℕ
byte_text raw b =
    if b == 32 then (if raw then 32 ∷ [] else 92 ∷ 32 ∷ [])
    else if is_marked b then 92 ∷ b ∷ []
    else if is_control b then 92 ∷ (b + 64) ∷ []
    else b ∷ []

-- whether a part that is no space is next: the next byte, or else what is after the text
abbrev pub is_held : Bool → List ℕ → Bool
is_held behind [] = behind
is_held behind (b ∷ text) = not (b == 32)

-- The items of a text. A space is raw where there is a part that is no space on both sides. The two tests say whether
-- there is one before and after the text.
abbrev pub items_text : Bool → Bool → List ℕ → List ℕ
items_text before behind [] = []
items_text before behind (b ∷ text) =
    byte_text (before && is_held behind text) b ++ items_text (not (b == 32)) behind text

-- ---- trees

-- the beginning of a long, middle or closing tag: <, a mark, and the label
abbrev pub opened : ℕ → List ℕ → List ℕ
opened mark label = 60 ∷ mark ∷ label

-- after a block there is a middle tag where a further block follows, else the closing tag
abbrev pub next_mark : Bool → ℕ
next_mark more = if more then 124 else 47

-- a block on lines of its own, and the beginning of the next tag
abbrev pub with_lines : List ℕ → Bool → List ℕ → List ℕ
with_lines label more block = 62 ∷ 10 ∷ (block ++ 10 ∷ opened (next_mark more) label)

-- the empty text as a paragraph is a mark
abbrev pub or_mark : WideTree → List ℕ → List ℕ
or_mark t content = if is_empty t then 92 ∷ 59 ∷ [] else content

-- an empty line is between two paragraphs
abbrev pub between : Bool → List ℕ
between more = if more then 10 ∷ 10 ∷ [] else []

-- the lines of a collection
abbrev pub with_ends : List ℕ → List ℕ
with_ends tags = opened 92 collection_label ++ 62 ∷ 10 ∷ (tags ++ (opened 47 collection_label ++ 62 ∷ []))

-- the tag of a node, by what is after the beginning of a long tag and by the arguments of a short one
abbrev pub tag_text : List ℕ → Forest → List ℕ → List ℕ → List ℕ
tag_text label ts long arguments =
    if is_raw label ts then 60 ∷ 35 ∷ (digits_of ts ++ 62 ∷ [])
    else if is_long label ts then opened 92 label ++ long
    else 60 ∷ (label ++ (arguments ++ 62 ∷ []))

abbrev mutual
  -- The items of a text or the tag of a node. The tests say whether there are parts on both sides, as for items.
  pub part_text : Bool → Bool → WideTree → List ℕ
  part_text before behind (leaf text) = items_text before behind text
  part_text before behind (node label ts) = tag_text label ts (long_text label ts) (arguments_text ts)

  pub content_text : WideTree → List ℕ
  content_text (leaf text) = items_text false false text
  content_text (node label ts) =
      if stays_inline label ts then parts_text false ts else tag_text label ts (long_text label ts) (arguments_text ts)

  -- parts side by side
  pub parts_text : Bool → Forest → List ℕ
  parts_text before nil = []
  parts_text before (cons t ts) = part_text before (some ts) t ++ parts_text true ts

  -- content after | each
  pub arguments_text : Forest → List ℕ
  arguments_text nil = []
  arguments_text (cons t ts) = 124 ∷ (content_text t ++ arguments_text ts)

  -- after the beginning of a long tag: its arguments, its blocks, and its other tags
  pub long_text : List ℕ → Forest → List ℕ
  long_text label nil = 62 ∷ []
  long_text label (cons t ts) =
      (if is_block t then with_lines label (has_block ts) (block_text t) else 124 ∷ content_text t)
      ++ long_text label ts

  -- the text of a block
  pub block_text : WideTree → List ℕ
  block_text (leaf text) = []
  block_text (node label ts) = if same_bytes label document_label then paragraphs_text ts else with_ends (tags_text ts)

  pub paragraphs_text : Forest → List ℕ
  paragraphs_text nil = []
  paragraphs_text (cons t ts) = or_mark t (content_text t) ++ (between (some ts) ++ paragraphs_text ts)

  -- the tags of a collection, each on a line of its own
  pub tags_text : Forest → List ℕ
  tags_text nil = []
  tags_text (cons t ts) = part_text false false t ++ 10 ∷ tags_text ts

-- a child of a long tag before these others
abbrev pub long_part : List ℕ → Forest → WideTree → List ℕ
long_part label ts t = if is_block t then with_lines label (has_block ts) (block_text t) else 124 ∷ content_text t

abbrev pub paragraph_text : WideTree → List ℕ
paragraph_text t = or_mark t (content_text t)

-- the canonical text of a block
abbrev pub tm_text : WideTree → List ℕ
tm_text = block_text
