-- Open trees. A `document` is open where it has a child, and then its children are its inner trees. A `with` is open
-- where its children are names and texts in turn and a last child, which is its inner tree.
use Rattle.std.specs.Prelude.{ℕ, List, [], ◌∷◌, Option, Some, None, codes, if◌then◌else◌}
use Rattle.std.specs.Str.{bytes_eq}
use Rattle.tx_tree.specs.WideTree.{WideTree, leaf, node, trees}
use Rattle.tx_env.specs.Pairs.{Name}

-- names with the texts that they are to have
abbrev pub Settings : Type 0
Settings = List (Name × List ℕ)

pub data Openness : Type 0 where
  Document : (children : List WideTree) → Openness
  With : (settings : Settings) → (inner : WideTree) → Openness
  Shut : Openness

abbrev pub and_setting : Name → List ℕ → Option (Settings × WideTree) → Option (Settings × WideTree)
and_setting x words None = None
and_setting x words (Some p) = Some ((x, words) ∷ p.0, p.1)

abbrev pub settings_in : List WideTree → Option (Settings × WideTree)
settings_in [] = None
settings_in (b ∷ []) = Some ([], b)
settings_in (leaf x ∷ leaf words ∷ ts) = and_setting x words (settings_in ts)
settings_in (leaf x ∷ node l us ∷ ts) = None
settings_in (node l us ∷ t ∷ ts) = None

abbrev pub document_openness : List WideTree → Openness
document_openness [] = Shut
document_openness (t ∷ ts) = Document (t ∷ ts)

abbrev pub with_openness : Option (Settings × WideTree) → Openness
with_openness None = Shut
with_openness (Some p) = With p.0 p.1

abbrev pub openness : WideTree → Openness
openness (leaf words) = Shut
openness (node label ts) =
    if bytes_eq label (codes "document") then document_openness (trees ts) else
    if bytes_eq label (codes "with") then with_openness (settings_in (trees ts)) else Shut
