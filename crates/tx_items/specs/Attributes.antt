-- Attributes: the variables that set them, and what they are set to.
use Rattle.std.specs.Prelude.{ℕ, List, Option, Some, None, ℤ, pos, if◌then◌else◌, codes}
use Rattle.std.specs.Str.{bytes_eq}
use Rattle.tx_prim.specs.Lengths.{length_of}
use Rattle.tx_items.specs.declared.attributes.Attrs.{Attrs}

pub data Attribute : Type 0 where
  Series : Attribute
  Shape : Attribute
  Color : Attribute
  Mode : Attribute
  Left : Attribute
  Right : Attribute
  First : Attribute

-- the attribute of a variable
unfoldable pub attribute_named : List ℕ → Option Attribute
attribute_named name =
    if bytes_eq name (codes "font-series") then Some Series
    else if bytes_eq name (codes "font-shape") then Some Shape
    else if bytes_eq name (codes "color") then Some Color
    else if bytes_eq name (codes "par-mode") then Some Mode
    else if bytes_eq name (codes "par-left") then Some Left
    else if bytes_eq name (codes "par-right") then Some Right
    else if bytes_eq name (codes "par-first") then Some First
    else None

-- the attributes where no variable is set
abbrev pub initial : Attrs
initial = record {
  series = codes "medium";
  shape = codes "right";
  color = codes "black";
  mode = codes "left";
  left = pos 0;
  right = pos 0;
  first = pos 0;
}

-- a text, or another one where there is none
abbrev pub text_in : List ℕ → Option (List ℕ) → List ℕ
text_in otherwise None = otherwise
text_in otherwise (Some words) = words

-- a length, or 0 where there is none
abbrev pub length_or : Option ℤ → ℤ
length_or None = pos 0
length_or (Some z) = z

-- the length that a text writes, or 0
abbrev pub length_or_zero : Option (List ℕ) → ℤ
length_or_zero None = pos 0
length_or_zero (Some words) = length_or (length_of words)

-- an attribute is set to a text, or to what is none
abbrev pub with_value : Attribute → Option (List ℕ) → Attrs → Attrs
with_value Series value a = record a { series = text_in (codes "medium") value }
with_value Shape value a = record a { shape = text_in (codes "right") value }
with_value Color value a = record a { color = text_in (codes "black") value }
with_value Mode value a = record a { mode = text_in (codes "left") value }
with_value Left value a = record a { left = length_or_zero value }
with_value Right value a = record a { right = length_or_zero value }
with_value First value a = record a { first = length_or_zero value }

-- the named attribute is set, or nothing where none is named
abbrev pub with_named : Option Attribute → Option (List ℕ) → Attrs → Attrs
with_named None value a = a
with_named (Some which) value a = with_value which value a

-- an attribute is again what it was before
abbrev pub with_former : Attribute → Attrs → Attrs → Attrs
with_former Series before a = record a { series = before.series }
with_former Shape before a = record a { shape = before.shape }
with_former Color before a = record a { color = before.color }
with_former Mode before a = record a { mode = before.mode }
with_former Left before a = record a { left = before.left }
with_former Right before a = record a { right = before.right }
with_former First before a = record a { first = before.first }

abbrev pub given_back : Option Attribute → Attrs → Attrs → Attrs
given_back None before a = a
given_back (Some which) before a = with_former which before a

-- what a name that may be no text names
abbrev pub attribute_in : Option (List ℕ) → Option Attribute
attribute_in None = None
attribute_in (Some name) = attribute_named name
