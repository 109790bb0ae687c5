-- Parts of a unit, by their numbers, in the places of which others are put.
use Rattle.std.specs.Prelude.{ℕ, ◌+◌, ◌==◌, if◌then◌else◌, List, [], ◌∷◌, ◌++◌, map, Option, Some, None}
use Rattle.std.specs.Prelude.{option_and_then, option_map, slice_get}
use Rattle.std.specs.Option.{option_map_or}
use Rattle.tx_mod.specs.declared.mods.Mod.{Mod}
use Rattle.tx_parts.specs.Parts.{Stored}
use Rattle.tx_walk.specs.declared.part.Part.{Part as DonePart}
use Rattle.tx_bridge.specs.declared.bridge.Bridge.{Bridge}
use Rattle.tx_bridge.specs.CarryingParts.{part_at}
use Rattle.tx_bridge.specs.HeldParts.{kept_part}
use Rattle.tx_bridge.specs.Keeping.{all_keep_place}

-- ---- which ones they are

-- the numbers, from i on, of the parts of the unit at p that aren't found to keep their places
abbrev pub others_from : List Mod → List ℕ → ℕ → List DonePart → List ℕ
others_from ms p i [] = []
others_from ms p i (q ∷ qs) =
    if all_keep_place ms (p ++ q.path) then others_from ms p (i + 1) qs else i ∷ others_from ms p (i + 1) qs

-- the path in the document of the part of this number, if there is one
abbrev pub path_of_part : List ℕ → List DonePart → ℕ → Option (List ℕ)
path_of_part p ps n = option_map (λ q. p ++ q.path) (slice_get ps n)

-- what is cached of the part of this number, if there is one, which is at this place in the document afterwards
abbrev pub kept_there : List ℕ → List DonePart → ℕ → Option (List ℕ) → Option Stored
kept_there p ps n place = option_and_then (λ q. part_at p place (kept_part q)) (slice_get ps n)

-- what is cached of the part of each of these numbers
abbrev pub kept_others : List ℕ → List DonePart → List ℕ → List (Option (List ℕ)) → List (ℕ × Option Stored)
kept_others p ps [] places = []
kept_others p ps (n ∷ ns) [] = []
kept_others p ps (n ∷ ns) (place ∷ places) = (n, kept_there p ps n place) ∷ kept_others p ps ns places

abbrev pub stored_of : List (ℕ × Option DonePart) → List (ℕ × Option Stored)
stored_of os = map (λ o. (o.0, option_map kept_part o.1)) os

-- ---- others are put in their places

abbrev pub and_some : {A : Type 0} → Option A → List A → List A
and_some None xs = xs
and_some (Some x) xs = x ∷ xs

-- The list, whose numbers begin with i, where those of these numbers are replaced or dropped. The numbers are in order.
abbrev pub put_from : {A : Type 0} → ℕ → List (ℕ × Option A) → List A → List A
put_from i [] xs = xs
put_from i (o ∷ os) [] = []
put_from i (o ∷ os) (x ∷ xs) =
    if o.0 == i then and_some o.1 (put_from (i + 1) os xs) else x ∷ put_from (i + 1) (o ∷ os) xs

-- what is cached of the parts of the entry of number i, and none past the last one
abbrev pub done_parts_of : ℕ → List Bridge → List DonePart
done_parts_of i bs = option_map_or (λ b. b.parts) (slice_get bs i) []
