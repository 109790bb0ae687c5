-- A block of the program.
use Rattle.std.specs.Prelude.{◌≡◌, ℕ, Bool, true, false, List, [], map, Option, Some, None}
use Rattle.tx_tree.specs.WideTree.{WideTree}
use Rattle.tx_tm_form.specs.declared.places.Stage.{Stage}
use Rattle.tx_tm_form.specs.declared.places.Stage.TheVariants.{Empty, Alone, Ordinary}
use Rattle.tx_tm_form.specs.Growing.{Inline, Block, no_parts, ended, resumed, Tags, Content, inline, blocks, collecting}
use Rattle.tx_tm_form.specs.Growing as growing
use Rattle.tx_tm_content.specs.Lines.{IsMade}
use Rattle.tx_tm_content.specs.TagRows.{entry_of}
use Rattle.tx_tm_content.specs.ContentFits.{RowFits, LineFits, BlockFits, ContentFits}
use Rattle.tx_tm_content.specs.declared.blocks.Paragraphs.{Paragraphs}
use Rattle.tx_tm_content.specs.declared.blocks.Resumed.{Resumed}
use Rattle.tx_tm_content.specs.declared.blocks.TagList.{TagList}
use Rattle.tx_tm_content.specs.declared.blocks.Body.{Body}
use Rattle.tx_tm_content.specs.declared.blocks.Body.TheVariants as bodies

abbrev pub block_of : Paragraphs → Block
block_of p = record { full = p.full; now = p.now; run = p.run; stage = p.stage }

abbrev pub tags_of : TagList → Tags
tags_of x = record { entries = map entry_of x.entries; run = x.run }

abbrev pub content_of : Body → Content
content_of (bodies.Argument p g) = inline p g
content_of (bodies.Block b) = blocks (block_of b)
content_of (bodies.Tags x) = collecting (tags_of x)

-- what a part that is no white finds: the paragraphs that have ended, and the one that goes on
abbrev pub full_at : Stage → Block → List WideTree
full_at Empty b = []
full_at Alone b = ended b.run b.full b.now
full_at Ordinary b = ended b.run b.full b.now

abbrev pub now_at : Stage → Block → Inline
now_at Empty b = no_parts
now_at Alone b = resumed b.run b.now
now_at Ordinary b = resumed b.run b.now

abbrev pub full_behind : Block → List WideTree
full_behind b = full_at b.stage b

abbrev pub now_behind : Block → Inline
now_behind b = now_at b.stage b

-- the stage after a tag
abbrev pub tag_stage : Stage → Bool → Stage
tag_stage Empty true = Alone
tag_stage Empty false = Ordinary
tag_stage Alone c = Ordinary
tag_stage Ordinary c = Ordinary

-- a block without white at its end
abbrev pub block_at : Stage → List WideTree → Inline → Block
block_at s full now = record { full = full; now = now; run = None; stage = s }

pub record IsResumedWith (r : Resumed) (full : List WideTree) (now : Inline) : Type 0 where
  pub full_is : r.full ≡ full
  pub now_is : r.now ≡ now

-- these, or else they lead to no tree within the limits
abbrev pub IsGoing : Option Resumed → List WideTree → Inline → Type 0
IsGoing None full now = (around : ℕ) → RowFits around full → LineFits around now → ⊥
IsGoing (Some r) full now = IsResumedWith r full now

abbrev pub IsResumed : Option Resumed → Block → Type 0
IsResumed next b = IsGoing next (full_behind b) (now_behind b)

-- grown, or else it leads to no tree within the limits
abbrev pub IsBlock : Option Paragraphs → Block → Type 0
IsBlock None b = (around : ℕ) → BlockFits around b → ⊥
IsBlock (Some p) b = block_of p ≡ b

-- with a line that has grown by a tag, or else the line fits nowhere
abbrev pub IsTagged : Option Paragraphs → Stage → List WideTree → Inline → Type 0
IsTagged None s full now = (around : ℕ) → LineFits around now → ⊥
IsTagged (Some p) s full now = block_of p ≡ block_at s full now

-- with a tag more, or else it leads to no tree within the limits
abbrev pub IsTagList : Option TagList → Content → Type 0
IsTagList None c = (around : ℕ) → ContentFits around c → ⊥
IsTagList (Some x) c = collecting (tags_of x) ≡ c

abbrev pub IsContent : Option Body → Content → Type 0
IsContent None c = (around : ℕ) → ContentFits around c → ⊥
IsContent (Some b) c = content_of b ≡ c

-- the tree of a block, or none for an argument or past a limit
abbrev pub IsBlockTree : Option WideTree → Content → Type 0
IsBlockTree made (inline p g) = made ≡ None
IsBlockTree made (blocks b) = IsMade made (growing.tree_as_block (blocks b))
IsBlockTree made (collecting x) = IsMade made (growing.tree_as_block (collecting x))
