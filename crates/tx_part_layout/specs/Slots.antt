-- The layouts of the parts of a unit, of which some are former ones.
use Rattle.std.specs.Prelude.{ℕ, ◌+◌, ◌≤◌, ◌<◌, List, [], ◌∷◌, Option, Some, slice_get}
use Rattle.std.specs.List.{filter_map}
use Rattle.std.specs.Option.{option_map}
use Rattle.tx_part_layout.specs.declared.laid.PlacedPart.{PlacedPart}
use Rattle.tx_part_layout.specs.declared.slots.Slot.{Slot}
use Rattle.tx_part_layout.specs.declared.slots.Slot.TheVariants.{Again, Anew}

-- the part below so many lines of its unit
abbrev pub put_below : ℕ → PlacedPart → PlacedPart
put_below n p = record p { above = n }

-- the layout of the part, where these are the former ones
abbrev pub slot_part : List PlacedPart → Slot → Option PlacedPart
slot_part old (Again i above) = option_map (put_below above) (slice_get old i)
slot_part old (Anew p) = Some p.value

abbrev pub placed_by : List PlacedPart → List Slot → List PlacedPart
placed_by old ss = filter_map (slot_part old) ss

-- the numbers of reused layouts rise, from j on, and are below n
abbrev pub AreRising : ℕ → ℕ → List Slot → Type 0
AreRising n j [] = Unit {0}
AreRising n j (Again i above ∷ ss) = (j ≤ i) × (i < n) × AreRising n (i + 1) ss
AreRising n j (Anew p ∷ ss) = AreRising n j ss

-- a reused layout has a number from j on, and below n
abbrev pub IsBetween : ℕ → ℕ → Slot → Type 0
IsBetween j n (Again i above) = (j ≤ i) × (i < n)
IsBetween j n (Anew p) = Unit {0}

-- the number after the reused layouts, where j is the one after those before
abbrev pub number_behind : ℕ → Slot → ℕ
number_behind j (Again i above) = i + 1
number_behind j (Anew p) = j
