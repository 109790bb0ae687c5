-- The state of the reader, as a state of the machine.
use Rattle.std.specs.Prelude.{◌≡◌, ◌≤◌, ◌+◌, ℕ, List, map, reverse, Option, Some, None}
use Rattle.tx_tm_form.specs.Machine as machine
use Rattle.tx_tm_form.specs.declared.places.TagPlace.{TagPlace}
use Rattle.tx_tm_form.specs.declared.places.TagPlace.TheVariants.{InHeader}
use Rattle.tx_tm_form.specs.Machine.{Open, in_tag, closed, reading, naming, counting}
use Rattle.tx_tm_read.specs.declared.tags.OpenTag.{OpenTag}
use Rattle.tx_tm_read.specs.declared.tags.Spot.{Spot}
use Rattle.tx_tm_read.specs.declared.tags.Spot.TheVariants as spots
use Rattle.tx_tm_content.specs.Blocks.{content_of}
use Rattle.tx_tm_content.specs.ContentFits.{RowFits}
use Rattle.tx_tm_read.specs.Fits.{StateFits}
use Rattle.tx_tm_read.specs.Nodes.{state_nodes}

abbrev pub open_of : OpenTag → Open
open_of o = record { before = content_of o.before; label = o.label; children = o.children }

-- this open tag, or else its children are no children of a node within the limits
abbrev pub IsOpen : Option OpenTag → Open → Type 0
IsOpen None f = (around : ℕ) → RowFits around f.children → ⊥
IsOpen (Some o) f = open_of o ≡ f

-- the innermost first
abbrev pub opens_of : List OpenTag → List Open
opens_of os = reverse (map open_of os)

abbrev pub state_of : Spot → machine.State
state_of (spots.Reading here os) = reading (content_of here) (opens_of os.items)
state_of (spots.Naming name here os) = naming name (content_of here) (opens_of os.items)
state_of (spots.Counting digits here os) = counting digits (content_of here) (opens_of os.items)

-- after > in an argument of a tag that has this child, too
abbrev pub behind_argument : TagPlace → Open → List Open → machine.State
behind_argument InHeader f fs = in_tag None f fs
behind_argument p f fs = closed f fs

-- this state, or else it leads to no tree within the limits
abbrev pub IsState : Option Spot → machine.State → Type 0
IsState None m = StateFits m → ⊥
IsState (Some s) m = state_of s ≡ m

-- the steps rose by no more than the nodes that were made, from so many nodes
abbrev pub StepsRose : ℕ → ℕ → ℕ → Option Spot → Type 0
StepsRose before after nodes None = Unit {0}
StepsRose before after nodes (Some s) = after + nodes ≤ before + state_nodes (state_of s)
