-- What can still become a tree within the limits.
use Rattle.std.specs.Prelude.{◌≤◌, ◌<◌, ℕ, suc, List, [], ◌∷◌, length}
use Rattle.tx_tree.specs.declared.TheConstants.{MOST_TEXT, MOST_DEPTH}
use Rattle.tx_tree.specs.WideTree.{WideTree}
use Rattle.tx_tm_form.specs.Growing.{Content, inline, blocks, collecting}
use Rattle.tx_tm_content.specs.ContentFits.{RowFits, ContentFits}
use Rattle.tx_tm_form.specs.Machine.{Open, State, reading, naming, counting, failed, Bytewise, at, lost, Keeping}

-- the children of the open tag round the content, of which a collection tag has none
abbrev pub ChildrenFit : ℕ → Content → List WideTree → Type 0
ChildrenFit around (inline p g) ts = RowFits around ts
ChildrenFit around (blocks b) ts = RowFits around ts
ChildrenFit around (collecting x) ts = Unit {0}

abbrev pub OpensFit : Content → List Open → Type 0
OpensFit here [] = Unit {0}
OpensFit here (f ∷ fs) = ContentFits (length fs) f.before × ChildrenFit (suc (length fs)) here f.children
    × OpensFit f.before fs × (length fs < MOST_DEPTH)

abbrev pub StateFits : State → Type 0
StateFits (reading here fs) = ContentFits (length fs) here × OpensFit here fs
StateFits (naming name here fs) = ContentFits (length fs) here × OpensFit here fs
StateFits (counting digits here fs) = (length digits ≤ MOST_TEXT) × ContentFits (length fs) here × OpensFit here fs
StateFits failed = ⊥

abbrev pub ReaderFits : Bytewise Keeping → Type 0
ReaderFits (at q k) = StateFits k.state
ReaderFits lost = ⊥
