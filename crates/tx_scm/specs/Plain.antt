-- Bytes that stand for themselves in a string.
use Rattle.std.specs.Prelude.{◌≡◌, ℕ}

-- neither a quote nor a backslash
abbrev pub IsPlain : ℕ → Type 0
IsPlain b = (b ≡ 34 → ⊥) × (b ≡ 92 → ⊥)
