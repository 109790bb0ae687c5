-- Shells, as contracts see them.
use Rattle.std.specs.Prelude.{◌≡◌, ℕ, true, List, map, Some}
use Rattle.tx_tree.specs.WideTree.{WideTree, label_of}
use Rattle.tx_parts.specs.Shells.{Layer, Shell, is_other_tag}
use Rattle.tx_walk.specs.declared.shells.Layer.{Layer as SetLayer}
use Rattle.tx_walk.specs.declared.shells.Shell.{Shell as SetShell}

abbrev pub wide_layer : SetLayer → Layer
wide_layer l = record { names = l.names.items; trees = l.values.items }

abbrev pub wide_layers : List SetLayer → List Layer
wide_layers ls = map wide_layer ls

abbrev pub wide_shell : SetShell → Shell
wide_shell s = record { layers = wide_layers s.layers.items; inner = s.inner }

-- any other tag, as the table of evaluation says
pub record IsOtherTag (t : WideTree) : Type 0 where
  pub label : List ℕ
  pub named : label_of t ≡ Some label
  pub other : is_other_tag label ≡ true
