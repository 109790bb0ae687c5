-- Attributes as the code numbers them.
use Rattle.tx_items.specs.Attributes as attributes
use Rattle.tx_items.specs.declared.attributes.Field.{Field}
use Rattle.tx_items.specs.declared.attributes.Field.TheVariants.{Series, Shape, Color, Mode, Left, Right, First}

abbrev pub attribute_of : Field → attributes.Attribute
attribute_of Series = attributes.Series
attribute_of Shape = attributes.Shape
attribute_of Color = attributes.Color
attribute_of Mode = attributes.Mode
attribute_of Left = attributes.Left
attribute_of Right = attributes.Right
attribute_of First = attributes.First
