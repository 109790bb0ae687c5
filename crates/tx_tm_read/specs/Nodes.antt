-- The nodes that have been made.
use Rattle.std.specs.Prelude.{ℕ, ◌+◌, List, [], ◌∷◌}
use Rattle.tx_tree.specs.WideTree.{WideTree}
use Rattle.tx_tm_form.specs.Growing.{Content, inline, blocks, collecting}
use Rattle.tx_tm_content.specs.ContentNodes.{nodes_in, content_nodes}
use Rattle.tx_tm_form.specs.Machine.{Open, State, reading, naming, counting, failed}

-- the children of the open tag round the content, of which a collection tag has none
abbrev pub children_nodes : Content → List WideTree → ℕ
children_nodes (inline p g) ts = nodes_in ts
children_nodes (blocks b) ts = nodes_in ts
children_nodes (collecting x) ts = 0

abbrev pub opens_nodes : Content → List Open → ℕ
opens_nodes here [] = 0
opens_nodes here (f ∷ fs) = children_nodes here f.children + content_nodes f.before + opens_nodes f.before fs

abbrev pub state_nodes : State → ℕ
state_nodes (reading here fs) = content_nodes here + opens_nodes here fs
state_nodes (naming name here fs) = content_nodes here + opens_nodes here fs
state_nodes (counting digits here fs) = content_nodes here + opens_nodes here fs
state_nodes failed = 0

-- the nodes of a tag, with all round it
abbrev pub open_nodes : Open → List Open → ℕ
open_nodes f fs = nodes_in f.children + content_nodes f.before + opens_nodes f.before fs
