-- The bytes that a value of Glyphs holds.
use Rattle.std.specs.Prelude.{ℕ, ◌≤◌, List, take}
use Rattle.tx_text.specs.declared.glyphs.Kept.{Kept}
use Rattle.tx_text.specs.declared.glyphs.Kept.TheVariants.{Here, Shared}

abbrev pub kept_bytes : Kept → List ℕ
kept_bytes (Here len bytes) = take len bytes
kept_bytes (Shared bytes) = bytes.value.items

abbrev pub IsKept : Kept → Type 0
IsKept (Here len bytes) = len ≤ 14
IsKept (Shared bytes) = Unit {0}
