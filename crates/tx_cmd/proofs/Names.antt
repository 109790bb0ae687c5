-- How far bytes begin a name.
use Rattle.std.proofs.Common.{◌≡◌, ℕ, ◌+◌, ◌<◌, ◌≤◌, true, refl, List, [], ◌∷◌, ◌++◌, length, take, get_or, sym, ap}
use Rattle.std.proofs.Common.{subst, ◌∙◌, append_assoc, length-append, arith}
use Rattle.std.specs.List.{AllByRecursion}
use Rattle.std.proofs.lemmas.List.{append-nil, take_more, length-take-le}
use Rattle.tx_base.specs.Fronts.{IsLongestFront}
use Rattle.tx_cmd.specs.Words.{HasNoSpace, is_file_name_byte, IsFileName}
use Rattle.tx_base.proofs.Fronts.{ends_before, ends_behind}

-- bytes of a name that aren't too many
pub record AreRead (bytes : List ℕ) : Type 0 where
  pub each : AllByRecursion (λ b. is_file_name_byte b ≡ true) bytes
  pub short : length bytes ≤ 255

pub none_read : AreRead []
none_read = record { each = tt; short = omega arith }

bytes_snoc : (x : List ℕ) (b : ℕ) → AllByRecursion (λ b. is_file_name_byte b ≡ true) x → is_file_name_byte b ≡ true
    → AllByRecursion (λ b. is_file_name_byte b ≡ true) (x ++ b ∷ [])
bytes_snoc [] b h k = (k, tt)
bytes_snoc (y ∷ x) b h k = (h.0, bytes_snoc x b h.1 k)

pub read_more : (bytes : List ℕ) (i : ℕ) → i < length bytes → AreRead (take i bytes)
    → is_file_name_byte (get_or bytes i 0) ≡ true → i < 255 → AreRead (take (i + 1) bytes)
read_more bytes i lt h k few =
    let b = get_or bytes i 0 in
    rw (take_more bytes i 0 lt)
    (record {
      each = bytes_snoc (take i bytes) b h.each k;
      short = omega (arith, length-append (take i bytes) (b ∷ []), length-take-le i bytes (omega arith));
    })

-- these are a name, if there are some
pub read_name : (bytes : List ℕ) → AreRead bytes → 1 ≤ length bytes → IsFileName bytes
read_name bytes h some = record { each = h.each; some = some; short = h.short }

pub some_name : IsFileName (97 ∷ [])
some_name = record { each = (refl, tt); some = omega arith; short = omega arith }

begins : (x : List ℕ) → AreRead x → (more : List ℕ) × IsFileName (x ++ more)
begins [] h = (97 ∷ [], some_name)
begins (b ∷ x) h = ([], subst IsFileName (sym (append-nil (b ∷ x))) (read_name (b ∷ x) h (omega arith)))

byte_there : (x : List ℕ) (b : ℕ) (more : List ℕ) → AllByRecursion (λ b. is_file_name_byte b ≡ true) (x ++ b ∷ more)
    → is_file_name_byte b ≡ true
byte_there [] b more h = h.0
byte_there (y ∷ x) b more h = byte_there x b more h.1

-- where the next byte is one too many, or none of a name, the longest front ends
pub name_stops : (bytes : List ℕ) (i : ℕ) → i < length bytes → AreRead (take i bytes)
    → (is_file_name_byte (get_or bytes i 0) ≡ true → i < 255 → ⊥)
    → IsLongestFront IsFileName bytes i × (IsFileName bytes → ⊥)
name_stops bytes i lt h bad =
    ends_before IsFileName bytes i lt (begins (take i bytes) h) (λ more k.
    let b = get_or bytes i 0 in
    let e : take (i + 1) bytes ++ more ≡ take i bytes ++ b ∷ more = ap (λ x. x ++ more) (take_more bytes i 0 lt)
    ∙ append_assoc (take i bytes) (b ∷ []) more in
    let name = subst IsFileName e k in
    let short = name.short in
    bad (byte_there (take i bytes) b more name.each)
    (omega (arith, length-append (take i bytes) (b ∷ more), length-take-le i bytes (omega arith))))

pub no_name : (bytes : List ℕ) → length bytes ≡ 0 → IsLongestFront IsFileName bytes 0 × (IsFileName bytes → ⊥)
no_name [] e = ends_behind IsFileName [] (97 ∷ [], some_name) (λ h. absurd (omega (arith, h.some)))
no_name (b ∷ bytes) e = absurd (omega arith)

-- a name has no space
no_space_each : (name : List ℕ) → AllByRecursion (λ b. is_file_name_byte b ≡ true) name → HasNoSpace name
no_space_each [] h = tt
no_space_each (b ∷ name) h =
    ((λ e. let at_space = subst (λ x. is_file_name_byte x ≡ true) e h.0 in cc), no_space_each name h.1)

pub name_no_space : (piece : List ℕ) → IsFileName piece → HasNoSpace piece
name_no_space piece h = no_space_each piece h.each
