-- What is known of a text that grows.
use Rattle.std.specs.Prelude.{◌≡◌, ◌≤◌, length, Some}
use Rattle.tx_tree.specs.declared.TheConstants.{MOST_TEXT}
use Rattle.tx_tree.specs.declared.texts.TextPlace.TheVariants.{Between}
use Rattle.tx_tree.specs.declared.building.TextBuilder.TheInside.{Inside}
use Rattle.tx_tree.specs.TextScan.{text_run}

-- the bytes were read up to the place
pub record IsRead (b : Inside) : Type 0 where
  pub place : text_run (Some Between) b.bytes.items ≡ Some b.place
  pub short : length b.bytes.items ≤ MOST_TEXT
