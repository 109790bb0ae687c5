-- How far bytes begin a number, and what is in numbers, labels and paths.
use Rattle.std.proofs.Common.{◌≡◌, ◌≢◌, ℕ, ◌+◌, ◌-◌, ◌*◌, ◌<◌, ◌≤◌, true, false, List, [], ◌∷◌, ◌++◌, length, take}
use Rattle.std.proofs.Common.{get_or, nat_le, cond, Some, None, refl, sym, ap, subst, ◌∙◌, append_assoc, length-append}
use Rattle.std.proofs.Common.{arith}
use Rattle.std.specs.List.{AllByRecursion}
use Rattle.std.proofs.lemmas.List.{append-nil, take_more, length-take-le}
use Rattle.std.proofs.lemmas.Bool.{leb-true}
use borrow.Author.Tests.{leb-false}
use Rattle.tx_base.specs.Fronts.{IsLongestFront}
use Rattle.tx_tree.specs.Labels.{is_label_byte, IsLabel}
use Rattle.tx_tree.specs.PathSpelling.{is_digit, number_after, IsNumber, AreNumbers, SpellsPath}
use Rattle.tx_tree.proofs.PathReading.{number_grows, number_after-append}
use Rattle.tx_tree.proofs.Scanning.{all_snoc}
use Rattle.tx_cmd.specs.Words.{HasNoSpace, IsNumeral}
use Rattle.tx_cmd.specs.Pieces.{next_number}
use Rattle.tx_base.proofs.Fronts.{ends_before, ends_behind}

abbrev AreDigits : List ℕ → Type 0
AreDigits = AllByRecursion (λ b. is_digit b ≡ true)

-- ---- reading a number

-- digits whose number isn't too great, and that aren't too many
pub record AreRead (digits : List ℕ) (v : ℕ) : Type 0 where
  pub each : AllByRecursion (λ b. is_digit b ≡ true) digits
  pub short : length digits ≤ 10
  pub value : v ≡ number_after 0 digits
  pub fits : v ≤ 4294967295

pub none_read : AreRead [] 0
none_read = record { each = tt; short = omega arith; value = refl; fits = omega arith }

read_more : (bytes : List ℕ) (i v : ℕ) → i < length bytes → AreRead (take i bytes) v
    → is_digit (get_or bytes i 0) ≡ true → i < 10
    → v * 10 + (get_or bytes i 0 - 48) ≤ 4294967295 → AreRead (take (i + 1) bytes) (v * 10 + (get_or bytes i 0 - 48))
read_more bytes i v lt h d few fits =
    let b = get_or bytes i 0 in
    rw (take_more bytes i 0 lt) (record {
      each = all_snoc _ (take i bytes) b h.each d;
      short = omega (arith, length-append (take i bytes) (b ∷ []), length-take-le i bytes (omega arith));
      value = ap (λ n. n * 10 + (b - 48)) h.value ∙ sym (number_after-append 0 (take i bytes) (b ∷ []));
      fits = fits;
    })

-- digits are a number, if there are some
pub read_number : (bytes : List ℕ) (v : ℕ) → AreRead bytes v → 1 ≤ length bytes → IsNumber bytes v
read_number bytes v h some = record { each = h.each; some = some; short = h.short; value = h.value; fits = h.fits }

naught : IsNumeral (48 ∷ [])
naught = (0, record { each = (refl, tt); some = omega arith; short = omega arith; value = refl; fits = omega arith })

begins : (x : List ℕ) (v : ℕ) → AreRead x v → (more : List ℕ) × IsNumeral (x ++ more)
begins [] v h = (48 ∷ [], naught)
begins (b ∷ x) v h =
    ([], (v, subst (λ y. IsNumber y v) (sym (append-nil (b ∷ x))) (read_number (b ∷ x) v h (omega arith))))

-- how a number can go on
abbrev TakesDigit : List ℕ → ℕ → Type 0
TakesDigit x b = (is_digit b ≡ true) × (length x + 1 ≤ 10) × (number_after 0 x * 10 + (b - 48) ≤ 4294967295)

digit_there : (x : List ℕ) (b : ℕ) (more : List ℕ) → AreDigits (x ++ b ∷ more) → is_digit b ≡ true
digit_there [] b more h = h.0
digit_there (y ∷ x) b more h = digit_there x b more h.1

goes_on : (x : List ℕ) (b : ℕ) (more : List ℕ) → IsNumeral (x ++ b ∷ more) → TakesDigit x b
goes_on x b more h =
    let n = h.1 in
    let value = n.value in
    let short = n.short in
    let fits = n.fits in
    let split = number_after-append 0 x (b ∷ more) in
    let grows = number_grows (number_after 0 x * 10 + (b - 48)) more in
    (digit_there x b more n.each, omega (arith, length-append x (b ∷ more)), omega arith)

-- where the next byte is no digit more, the longest front ends
pub number_stops : (bytes : List ℕ) (i v : ℕ) → i < length bytes → AreRead (take i bytes) v
    → (is_digit (get_or bytes i 0) ≡ true → i < 10 → 4294967295 < v * 10 + (get_or bytes i 0 - 48))
    → IsLongestFront IsNumeral bytes i × (IsNumeral bytes → ⊥)
number_stops bytes i v lt h bad =
    ends_before IsNumeral bytes i lt (begins (take i bytes) v h) (λ more k.
    let b = get_or bytes i 0 in
    let e : take (i + 1) bytes ++ more ≡ take i bytes ++ b ∷ more = ap (λ x. x ++ more) (take_more bytes i 0 lt)
    ∙ append_assoc (take i bytes) (b ∷ []) more in
    let w = goes_on (take i bytes) b more (subst IsNumeral e k) in
    let value = h.value in
    let great = bad w.0 (omega (arith, w.1, length-take-le i bytes (omega arith))) in
    let fits = w.2 in
    absurd (omega (arith, ap (λ n. n * 10 + (b - 48)) value)))

-- what one digit more makes of the number
next_cases : (v b w : ℕ) → next_number v b ≡ Some w → (is_digit b ≡ true) × (v * 10 + (b - 48) ≤ 4294967295)
    × (w ≡ v * 10 + (b - 48))
unfolding next_number
next_cases v b w e =
    elim (is_digit b) as
    (λ c. is_digit b ≡ c → cond c (cond (nat_le (v * 10 + (b - 48)) 4294967295) (Some (v * 10 + (b - 48))) None)
    None ≡ Some w → (is_digit b ≡ true) × (v * 10 + (b - 48) ≤ 4294967295) × (w ≡ v * 10 + (b - 48))) [
      | true ↦ λ d.
          elim (nat_le (v * 10 + (b - 48)) 4294967295) as
          (λ c. nat_le (v * 10 + (b - 48)) 4294967295 ≡ c → cond c (Some (v * 10 + (b - 48))) None ≡ Some w
          → (is_digit b ≡ true) × (v * 10 + (b - 48) ≤ 4294967295) × (w ≡ v * 10 + (b - 48))) [
            | true ↦ λ t f. (d, leb-true (v * 10 + (b - 48)) 4294967295 t, some_is _ _ f)
            | false ↦ λ t f. absurd cc
          ] refl
      | false ↦ λ d f. absurd cc
    ] refl e
  where
    some_is : (x y : ℕ) → Some x ≡ Some y → y ≡ x
    some_is x y e = cc

pub no_next : (v b : ℕ) → next_number v b ≡ None → is_digit b ≡ true → 4294967295 < v * 10 + (b - 48)
unfolding next_number
no_next v b e d =
    let f : cond (nat_le (v * 10 + (b - 48)) 4294967295) (Some (v * 10 + (b - 48))) None ≡ None =
    ap (λ c. cond c (cond (nat_le (v * 10 + (b - 48)) 4294967295) (Some (v * 10 + (b - 48))) None) None) (sym d)
    ∙ e in
    too_great (v * 10 + (b - 48)) f
  where
    too_great : (n : ℕ) → cond (nat_le n 4294967295) (Some n) None ≡ None → 4294967295 < n
    too_great n f =
        elim (nat_le n 4294967295) as (λ c. nat_le n 4294967295 ≡ c → cond c (Some n) None ≡ None → 4294967295 < n) [
          | true ↦ λ t g. absurd cc
          | false ↦ λ t g. leb-false n 4294967295 t
        ] refl f

-- one digit more
pub read_next : (bytes : List ℕ) (i v w : ℕ) → i < length bytes → AreRead (take i bytes) v → i < 10
    → next_number v (get_or bytes i 0) ≡ Some w → AreRead (take (i + 1) bytes) w
read_next bytes i v w lt h few e =
    let k = next_cases v (get_or bytes i 0) w e in
    subst (AreRead (take (i + 1) bytes)) (sym k.2) (read_more bytes i v lt h k.0 few k.1)

pub no_number : (bytes : List ℕ) → length bytes ≡ 0 → IsLongestFront IsNumeral bytes 0 × (IsNumeral bytes → ⊥)
no_number [] e = ends_behind IsNumeral [] (48 ∷ [], naught) (λ h. absurd (omega (arith, h.1.some)))
no_number (b ∷ bytes) e = absurd (omega arith)

-- ---- no spaces

digits_no_space : (digits : List ℕ) → AreDigits digits → HasNoSpace digits
digits_no_space [] h = tt
digits_no_space (b ∷ digits) h =
    ((λ e. let at_space = subst (λ x. is_digit x ≡ true) e h.0 in cc), digits_no_space digits h.1)

pub numeral_no_space : (piece : List ℕ) → IsNumeral piece → HasNoSpace piece
numeral_no_space piece h = digits_no_space piece h.1.each

space_is_none : is_label_byte 32 ≡ false
unfolding is_label_byte
space_is_none = refl

label_no_space_each : (label : List ℕ) → AllByRecursion (λ b. is_label_byte b ≡ true) label → HasNoSpace label
label_no_space_each [] h = tt
label_no_space_each (b ∷ label) h = (
  (λ e. let at_space = subst (λ x. is_label_byte x ≡ true) e h.0 in let none = space_is_none in cc),
  label_no_space_each label h.1,
)

pub label_no_space : (piece : List ℕ) → IsLabel piece → HasNoSpace piece
label_no_space piece h = label_no_space_each piece h.each

append_no_space : (x y : List ℕ) → HasNoSpace x → HasNoSpace y → HasNoSpace (x ++ y)
append_no_space [] y h k = k
append_no_space (b ∷ x) y h k = (h.0, append_no_space x y h.1 k)

slash : (b : ℕ) → b ≡ 47 → b ≢ 32
slash b e f = absurd (omega arith)

numbers_no_space : (path bytes : List ℕ) → AreNumbers bytes path → HasNoSpace bytes
numbers_no_space [] bytes h = subst HasNoSpace (sym h) tt
numbers_no_space (n ∷ path) bytes h =
    subst HasNoSpace (sym h.3)
    (slash 47 refl, append_no_space h.0 h.1 (digits_no_space h.0 h.2.each) (numbers_no_space path h.1 h.4))

pub path_no_space : (path bytes : List ℕ) → SpellsPath bytes path → HasNoSpace bytes
path_no_space [] bytes h = subst HasNoSpace (sym h) (slash 47 refl, tt)
path_no_space (n ∷ path) bytes h = numbers_no_space (n ∷ path) bytes h.0

-- ---- some piece

letter : is_label_byte 97 ≡ true
unfolding is_label_byte
letter = refl

pub some_numeral : IsNumeral (48 ∷ [])
some_numeral = naught

pub some_label : IsLabel (97 ∷ [])
some_label = record { each = (letter, tt); some = omega arith; short = omega arith }
