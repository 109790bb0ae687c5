-- The names of the seven variables.
use Rattle.std.specs.Prelude.{◌≡◌, codes}
use Rattle.tx_items.specs.Attributes.{initial}
use Rattle.tx_view.specs.declared.starts.Variables.{Variables}

pub record AreVariables (v : Variables) : Type 0 where
  pub series : v.series ≡ codes "font-series"
  pub shape : v.shape ≡ codes "font-shape"
  pub color : v.color ≡ codes "color"
  pub mode : v.mode ≡ codes "par-mode"
  pub left : v.left ≡ codes "par-left"
  pub right : v.right ≡ codes "par-right"
  pub first : v.first ≡ codes "par-first"
  pub unset : v.unset ≡ initial
