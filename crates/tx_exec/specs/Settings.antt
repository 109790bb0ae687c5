-- The names of a `with`.
use Rattle.std.specs.Prelude.{ℕ, ◌+◌, List, [], ◌∷◌, Option, Some}
use Rattle.tx_tree.specs.WideTree.{nodes_of}
use Rattle.tx_origin.specs.Values.{plain}
use Rattle.tx_exec_form.specs.Rows.{Sets}
use Rattle.tx_exec.specs.declared.withs.Setting.{Setting}
use Rattle.tx_exec.specs.declared.withs.Held.{Held}

abbrev pub sets_of : List Setting → Sets
sets_of [] = []
sets_of (s ∷ ss) = (s.name, Some (plain s.value)) ∷ sets_of ss

abbrev pub held_of : List Held → Sets
held_of [] = []
held_of (h ∷ hs) = (h.name, h.tree) ∷ held_of hs

-- the nodes of all values
abbrev pub nodes_in : List Setting → ℕ
nodes_in [] = 0
nodes_in (s ∷ ss) = nodes_of (plain s.value) + nodes_in ss
