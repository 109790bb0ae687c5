-- Known bytes that grow at their end or are taken from their front, piece by piece.
use Rattle.std.proofs.Common.{arith, ◌-◌, ◌≡◌, ℕ, ◌+◌, List, [], ◌++◌, length, take, drop, refl, ap, sym, ◌∙◌}
use Rattle.std.proofs.Common.{append_assoc, Option, Some, None}
use Rattle.std.proofs.Math.Seq.{take-add}
use Rattle.std.proofs.lemmas.Grind.{common_steps}
use Rattle.std.proofs.lemmas.List.{append-nil}
use Rattle.std.specs.Io.KnownBytes.{append_known, prepend_known}

-- two pieces appended
append_known-append_known : (known : Option (List ℕ)) (a b : List ℕ)
    → append_known (append_known known a) b ≡ append_known known (a ++ b)
append_known-append_known None a b = refl
append_known-append_known (Some bytes) a b = ap Some (append_assoc bytes a b)

-- one call that appends after another
pub append_known-then : (first second third : Option (List ℕ)) (a b : List ℕ) → second ≡ append_known first a
    → third ≡ append_known second b → third ≡ append_known first (a ++ b)
append_known-then first second third a b once again =
    again ∙ ap (λ known. append_known known b) once ∙ append_known-append_known first a b

-- nothing appended
pub append_known-nil : (known : Option (List ℕ)) → append_known known [] ≡ known
append_known-nil None = refl
append_known-nil (Some bytes) = ap Some (append-nil bytes)

-- two pieces in front
prepend_known-prepend_known : (known : Option (List ℕ)) (a b : List ℕ)
    → prepend_known a (prepend_known b known) ≡ prepend_known (a ++ b) known
prepend_known-prepend_known None a b = refl
prepend_known-prepend_known (Some bytes) a b = ap Some (sym (append_assoc a b bytes))

-- one call that takes from the front after another
pub prepend_known-then : (first second third : Option (List ℕ)) (a b : List ℕ) → first ≡ prepend_known a second
    → second ≡ prepend_known b third → first ≡ prepend_known (a ++ b) third
prepend_known-then first second third a b once again =
    once ∙ ap (prepend_known a) again ∙ prepend_known-prepend_known third a b

-- nothing in front
pub prepend_known-nil : (known : Option (List ℕ)) → prepend_known [] known ≡ known
prepend_known-nil None = refl
prepend_known-nil (Some bytes) = refl

-- the whole rest of a list
take-all_left : (piece : List ℕ) (done : ℕ) → take (length piece - done) (drop done piece) ≡ drop done piece
take-all_left piece done = grind (arith, common_steps)

-- the first bytes of a piece are appended, and then the first n of the rest
pub append_known-more : (start before after : Option (List ℕ)) (piece : List ℕ) (done n : ℕ)
    → before ≡ append_known start (take done piece)
    → after ≡ append_known before (take n (take (length piece - done) (drop done piece)))
    → after ≡ append_known start (take (done + n) piece)
append_known-more start before after piece done n first second =
    append_known-then start before after (take done piece) (take n (drop done piece)) first
    (second ∙ ap (λ rest. append_known before (take n rest)) (take-all_left piece done))
    ∙ ap (append_known start) (sym (take-add done n piece))
