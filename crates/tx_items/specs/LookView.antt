-- A look of the program.
use Rattle.tx_items.specs.declared.drawing.Source.{Source}
use Rattle.tx_items.specs.Looks.{WideLook}

abbrev pub wide_look : Source → WideLook
wide_look s = record { at = s.at; series = s.series; shape = s.shape; color = s.color }
