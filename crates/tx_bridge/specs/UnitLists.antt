-- Lists of units as documents have them.
use Rattle.std.specs.Prelude.{◌≡◌, Bool, true, false, [], List, is_some}
use Rattle.std.specs.Option.{option_map}
use Rattle.std.specs.List.{AllByRecursion}
use Rattle.tx_units.specs.declared.kinds.Unit.{Unit as DocUnit}
use Rattle.tx_units.specs.declared.kinds.UnitKind.{UnitKind}
use Rattle.tx_units.specs.declared.kinds.UnitKind.TheVariants.{Base, Style, Absent, Initial, Body}
use Rattle.tx_units.specs.Places.{NoneBegins}

abbrev pub is_body_unit : UnitKind → Bool
is_body_unit Base = false
is_body_unit (Style k) = false
is_body_unit Absent = false
is_body_unit Initial = false
is_body_unit Body = true

-- A paragraph of the body has a path, and the root is its origin. No other unit has a path or an origin.
pub record HasPathIfBody (u : DocUnit) : Type 0 where
  pub path : is_some u.path ≡ is_body_unit u.kind
  pub origin : u.tagged.at ≡ option_map (λ _. []) u.path

-- a paragraph of the body, and no other unit, has a path and an origin; no path is another's or begins it
pub record AreUnits (us : List DocUnit) : Type 0 where
  pub placed : AllByRecursion HasPathIfBody us
  pub apart : NoneBegins us
