-- A test of the cuts of a text.
use Rattle.std.specs.Prelude.{ℕ, Bool, ◌&&◌, nat_le, List, length, take}
use Rattle.tx_tree.specs.TextScan.{is_text}

-- place n of a text is a cut: it is within the text, and the bytes before it are a text
unfoldable pub is_cut : List ℕ → ℕ → Bool
is_cut bytes n = nat_le n (length bytes) && is_text (take n bytes)
