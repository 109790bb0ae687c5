-- The attributes at the start of a unit, by what the variables are set to.
use Rattle.std.specs.Prelude.{ℕ, List, Option, option_and_then, codes}
use Rattle.std.specs.FinMap.{get}
use Rattle.tx_tree.specs.WideTree.{text_of}
use Rattle.tx_env.specs.Environments.{NameMap}
use Rattle.tx_items.specs.Attributes.{text_in, length_or_zero}
use Rattle.tx_items.specs.declared.attributes.Attrs.{Attrs}

-- the text that a variable is set to
abbrev pub set_to : NameMap → List ℕ → Option (List ℕ)
set_to env name = option_and_then text_of (get env name)

abbrev pub attributes_of : NameMap → Attrs
attributes_of env = record {
  series = text_in (codes "medium") (set_to env (codes "font-series"));
  shape = text_in (codes "right") (set_to env (codes "font-shape"));
  color = text_in (codes "black") (set_to env (codes "color"));
  mode = text_in (codes "left") (set_to env (codes "par-mode"));
  left = length_or_zero (set_to env (codes "par-left"));
  right = length_or_zero (set_to env (codes "par-right"));
  first = length_or_zero (set_to env (codes "par-first"));
}
