-- How characters are shown.
use Rattle.std.specs.Prelude.{ℕ, ◌==◌, ◌&&◌, Bool, true, false, List, [], ◌∷◌, Option, Some, None}
use Rattle.std.proofs.Math.Bool.{beq}
use Rattle.tx_terminal.specs.declared.inks.Color.{Color}
use Rattle.tx_terminal.specs.declared.inks.Color.TheVariants.{Black, Red, Green, Yellow, Blue, Magenta, Cyan, White}
use Rattle.tx_terminal.specs.declared.inks.Ink.{Ink}

abbrev pub plain : Ink
plain = record { bold = false; italic = false; reverse = false; color = None }

-- the colors by their numbers
abbrev pub colors : List Color
colors = Black ∷ Red ∷ Green ∷ Yellow ∷ Blue ∷ Magenta ∷ Cyan ∷ White ∷ []

abbrev pub color_number : Color → ℕ
color_number Black = 0
color_number Red = 1
color_number Green = 2
color_number Yellow = 3
color_number Blue = 4
color_number Magenta = 5
color_number Cyan = 6
color_number White = 7

abbrev pub is_same_color : Option Color → Option Color → Bool
is_same_color None None = true
is_same_color None (Some d) = false
is_same_color (Some c) None = false
is_same_color (Some c) (Some d) = color_number c == color_number d

abbrev pub is_same_ink : Ink → Ink → Bool
is_same_ink a b =
    beq a.bold b.bold && (beq a.italic b.italic && (beq a.reverse b.reverse && is_same_color a.color b.color))
