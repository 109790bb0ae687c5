-- How a string is closed by numbers below 256.
use Rattle.std.proofs.Common.{ℕ, ◌<◌, Bool, true, false, List, [], ◌∷◌, ◌++◌, sym, subst, append_assoc, arith, ◌==◌}
use Rattle.std.proofs.Common.{◌||◌}
use Rattle.std.specs.Prelude.{if◌then◌else◌}
use Rattle.std.specs.List.{flat_map}
use Rattle.tx_tree.proofs.FrontBytes.{AreBytes, bytes_together}
use Rattle.tx_scm.specs.Spelling.{escaped}

escaped_bytes : (b : ℕ) → b < 256 → AreBytes (escaped b)
escaped_bytes b h = by_test (b == 34 || b == 92)
  where
    by_test : (c : Bool) → AreBytes (if c then 92 ∷ b ∷ [] else b ∷ [])
    by_test true = (omega arith, (h, tt))
    by_test false = (h, tt)

-- the bytes of a string, and the quote that ends it
pub string_end : (text : List ℕ) → AreBytes text → AreBytes (flat_map escaped text ++ 34 ∷ [])
string_end [] h = (omega arith, tt)
string_end (b ∷ text) h =
    subst AreBytes (sym (append_assoc (escaped b) (flat_map escaped text) (34 ∷ [])))
    (bytes_together (escaped b) (flat_map escaped text ++ 34 ∷ []) (escaped_bytes b h.0) (string_end text h.1))
