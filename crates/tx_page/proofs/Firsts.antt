-- The first character of a text.
use Rattle.std.proofs.Common.{◌≡◌, ℕ, true, false, List, None, refl}
use Rattle.std.specs.Prelude.{chars, slice_get}
use Rattle.std.specs.Str.{is_utf8}
use Rattle.tx_page.specs.Clusters.{if_narrow, narrow_first}

pub narrow_in : (bytes : List ℕ) → is_utf8 bytes ≡ true → narrow_first bytes ≡ if_narrow (slice_get (chars bytes) 0)
narrow_in bytes e = rw e refl

pub narrow_none : (bytes : List ℕ) → is_utf8 bytes ≡ false → narrow_first bytes ≡ None
narrow_none bytes e = rw e refl
