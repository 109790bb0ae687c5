-- Content and blocks that grow by a part at a time.
use Rattle.std.specs.Prelude.{ℕ, Bool, true, false, ◌&&◌, if◌then◌else◌, List, [], ◌∷◌, ◌++◌, map, Option, Some, None}
use Rattle.tx_tree.specs.WideTree.{WideTree, leaf, node, forest}
use Rattle.tx_tm_form.specs.declared.bytes.White.{White}
use Rattle.tx_tm_form.specs.declared.bytes.White.TheVariants.{Break}
use Rattle.tx_tm_form.specs.declared.places.TagPlace.{TagPlace}
use Rattle.tx_tm_form.specs.declared.places.Stage.{Stage}
use Rattle.tx_tm_form.specs.declared.places.Stage.TheVariants.{Empty, Alone, Ordinary}
use Rattle.tx_tm_form.specs.Bytes.{joint_run}
use Rattle.tx_tm_form.specs.Parts.{ContentPart, gap, text, tag, leaf_before, concat_of}
use Rattle.tx_tm_form.specs.Parts.{document_label, collection_label, same_bytes, none}

-- ---- an argument, or a paragraph

-- the trees so far, the text after them, and whether a run ends that
pub record Inline : Type 0 where
  pub done : List WideTree
  pub bytes : List ℕ
  pub in_run : Bool

abbrev pub no_parts : Inline
no_parts = record { done = []; bytes = []; in_run = false }

abbrev pub grow : Inline → ContentPart → Inline
grow g (gap w) = record { done = g.done; bytes = if g.in_run then g.bytes else g.bytes ++ 32 ∷ []; in_run = true }
grow g (text x) = record { done = g.done; bytes = g.bytes ++ x; in_run = false }
grow g (tag c t) = record { done = (g.done ++ leaf_before g.bytes []) ++ t ∷ []; bytes = []; in_run = false }

abbrev pub grown : Inline → WideTree
grown g = concat_of (g.done ++ leaf_before g.bytes [])

-- ---- a block

-- the paragraphs that have ended, the one that is open, and the run after it
pub record Block : Type 0 where
  pub full : List WideTree
  pub now : Inline
  pub run : Option White
  pub stage : Stage

abbrev pub no_paragraphs : Block
no_paragraphs = record { full = []; now = no_parts; run = None; stage = Empty }

abbrev pub longer : Option White → White → White
longer None w = w
longer (Some v) w = joint_run v w

abbrev pub with_white : Stage → Block → White → Block
with_white Empty b w = b
with_white s b w = record { full = b.full; now = b.now; run = Some (longer b.run w); stage = b.stage }

-- the paragraphs that have ended before a part that is after a run
abbrev pub ended : Option White → List WideTree → Inline → List WideTree
ended (Some Break) full now = full ++ grown now ∷ []
ended r full now = full

-- what that part continues
abbrev pub resumed : Option White → Inline → Inline
resumed None now = now
resumed (Some Break) now = no_parts
resumed (Some w) now = grow now (gap w)

abbrev pub first_stage : ContentPart → Stage
first_stage (tag true t) = Alone
first_stage p = Ordinary

abbrev pub with_part : Stage → Block → ContentPart → Block
with_part Empty b p = record { full = []; now = grow no_parts p; run = None; stage = first_stage p }
with_part s b p =
    record { full = ended b.run b.full b.now; now = grow (resumed b.run b.now) p; run = None; stage = Ordinary }

abbrev pub widen : Block → ContentPart → Block
widen b (gap w) = with_white b.stage b w
widen b (text x) = with_part b.stage b (text x)
widen b (tag c t) = with_part b.stage b (tag c t)

abbrev pub stage_tree : Stage → Block → WideTree
stage_tree Empty b = node document_label (forest (leaf [] ∷ []))
stage_tree Alone b = grown b.now
stage_tree Ordinary b = node document_label (forest (b.full ++ grown b.now ∷ []))

abbrev pub tree_of_block : Block → WideTree
tree_of_block b = stage_tree b.stage b

-- ---- the block of what may be a collection tag

-- a tag, and the run before it
pub record CollectionEntry : Type 0 where
  pub before : Option White
  pub collects : Bool
  pub tree : WideTree

-- but tags and white so far
pub record Tags : Type 0 where
  pub entries : List CollectionEntry
  pub run : Option White

abbrev pub no_tags : Tags
no_tags = record { entries = []; run = None }

abbrev pub tree_of_entry : CollectionEntry → WideTree
tree_of_entry e = e.tree

abbrev pub behind_run : Block → Option White → Block
behind_run b None = b
behind_run b (Some w) = widen b (gap w)

abbrev pub with_entries : Block → List CollectionEntry → Block
with_entries b [] = b
with_entries b (e ∷ es) = with_entries (widen (behind_run b e.before) (tag e.collects e.tree)) es

-- the tags as an ordinary block
abbrev pub as_block : Tags → Block
as_block x = behind_run (with_entries no_paragraphs x.entries) x.run

-- ---- either

pub data Content : Type 0 where
  inline : (place : TagPlace) (line : Inline) → Content
  blocks : (block : Block) → Content
  collecting : (tags : Tags) → Content

abbrev pub put_part : Content → ContentPart → Content
put_part (inline place g) p = inline place (grow g p)
put_part (blocks b) p = blocks (widen b p)
put_part (collecting x) (gap w) = collecting (record { entries = x.entries; run = Some (longer x.run w) })
put_part (collecting x) (tag c t) =
    collecting (record { entries = x.entries ++ record { before = x.run; collects = c; tree = t } ∷ []; run = None })
put_part (collecting x) (text s) = blocks (widen (as_block x) (text s))

-- the argument's place, or none for a block
abbrev pub place_of : Content → Option TagPlace
place_of (inline place g) = Some place
place_of (blocks b) = None
place_of (collecting x) = None

-- the tree of an argument
abbrev pub tree_as_argument : Content → WideTree
tree_as_argument (inline place g) = grown g
tree_as_argument _ = leaf []

-- the tree of a block
abbrev pub tree_as_block : Content → WideTree
tree_as_block (inline place g) = leaf []
tree_as_block (blocks b) = tree_of_block b
tree_as_block (collecting x) = tree_of_block (as_block x)

-- the tree of a file
abbrev pub file_tree : Content → Option WideTree
file_tree (inline place g) = None
file_tree (blocks b) = Some (tree_of_block b)
file_tree (collecting x) = Some (tree_of_block (as_block x))

-- a long tag with one block, by its label and the arguments before the block
abbrev pub long_of : List ℕ → List WideTree → Content → ContentPart
long_of label before (collecting x) = tag true (node collection_label (forest (map tree_of_entry x.entries)))
long_of label before c = tag false (node label (forest (before ++ tree_as_block c ∷ [])))

-- a block that follows these children of a long tag
abbrev pub block_behind : List ℕ → List WideTree → Content
block_behind label before =
    if same_bytes label collection_label && none before then collecting no_tags else blocks no_paragraphs

abbrev pub opened_content : Option TagPlace → List ℕ → List WideTree → Content
opened_content (Some place) label before = inline place no_parts
opened_content None label before = block_behind label before
