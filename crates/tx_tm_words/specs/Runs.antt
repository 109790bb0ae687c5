-- Bytes at the front that the reader takes at once.
use Rattle.std.specs.Prelude.{◌≡◌, ℕ, true, List, [], ◌∷◌, ◌++◌}
use Rattle.tx_tm_form.specs.declared.bytes.White.{White}
use Rattle.tx_tm_form.specs.declared.bytes.White.TheVariants.{Spaces}
use Rattle.tx_tm_form.specs.Bytes.{kind_of, is_plain, is_white, white_of, joint_run}

-- bytes that stand for themselves, with single spaces between some of them
pub data AreWords : List ℕ → Type 0 where
  one_byte : (b : ℕ) → is_plain (kind_of b) ≡ true → AreWords (b ∷ [])
  byte_more : (x : List ℕ) (b : ℕ) → AreWords x → is_plain (kind_of b) ≡ true → AreWords (x ++ b ∷ [])
  space_and_byte : (x : List ℕ) (b : ℕ) → AreWords x → is_plain (kind_of b) ≡ true → AreWords (x ++ 32 ∷ b ∷ [])

-- bytes of white, and the run that they are
pub data IsWhiteRun : List ℕ → White → Type 0 where
  no_white : IsWhiteRun [] Spaces
  white_more : (x : List ℕ) (v : White) (b : ℕ) → IsWhiteRun x v → is_white (kind_of b) ≡ true
      → IsWhiteRun (x ++ b ∷ []) (joint_run v (white_of b))
