-- Bytes without symbols are texts: names, words, labels and numbers.
use Rattle.std.proofs.Common.{◌≡◌, ℕ, zero, suc, ◌+◌, ◌%◌, ◌^◌, ◌<◌, ◌≤◌, Bool, true, false, not, ◌&&◌, ◌||◌, eqb, leb}
use Rattle.std.proofs.Common.{◌==◌, nat_le, nat_lt, List, [], ◌∷◌, ◌++◌, length, map, ℤ, pos, negsuc, refl, sym, ap}
use Rattle.std.proofs.Common.{subst, ◌∙◌, codes, decimal, arith, FitsSigned}
use Rattle.std.specs.Int.{w64}
use Rattle.std.specs.List.{AllByRecursion, list_all, flat_map}
use Rattle.std.specs.Fmt.{signed_decimal}
use Rattle.std.proofs.lemmas.Bool.{and_parts, and_from, eqb-true, cases_Bool, false_from_ne_true, leb-true, ltb-true}
use Rattle.std.proofs.lemmas.Bool.{lt-ltb, le-leb}
use Rattle.std.proofs.lemmas.List.{length-append}
use Rattle.std.proofs.lemmas.List.Folds.{list_all-append}
use Rattle.std.proofs.lemmas.Fmt.{decimal_by_steps, length_signed_le}
use Rattle.tx_tree.specs.Texts.{Item, byte, is_item_byte, IsItem, item_bytes, IsText}
use Rattle.tx_tree.specs.Labels.{is_label_byte, IsLabel}
use Rattle.tx_tree.specs.PathSpelling.{is_digit}
use Rattle.tx_prim.specs.declared.names.Prim.{Prim}
use Rattle.tx_prim.specs.declared.names.Prim.TheVariants.{Plus, Minus, Times, Div, Mod, Equal, Unequal, Less, LessEq}
use Rattle.tx_prim.specs.declared.names.Prim.TheVariants.{Greater, GreaterEq, And, Or, Xor, Not, Merge, Length, Range}
use Rattle.tx_prim.specs.declared.names.Prim.TheVariants.{IsTuple, LookUp, GetLabel, GetArity}
use Rattle.tx_prim.specs.declared.amounts.ValueFault.{ValueFault}
use Rattle.tx_prim.specs.declared.amounts.ValueFault.TheVariants.{Bad, Overflow, Zero, NoPart, Limit}
use Rattle.tx_prim.specs.Names.{name_of, fault_text}
use Rattle.tx_prim.specs.Lengths.{length_text}

all_bytes : (bytes : List ℕ) → list_all is_item_byte bytes ≡ true → AllByRecursion IsItem (map byte bytes)
all_bytes [] h = tt
all_bytes (b ∷ bytes) h = let p = and_parts (is_item_byte b) (list_all is_item_byte bytes) h in
    (p.0, all_bytes bytes p.1)

are_bytes : (bytes : List ℕ) → bytes ≡ flat_map item_bytes (map byte bytes)
are_bytes [] = refl
are_bytes (b ∷ bytes) = ap (λ z. b ∷ z) (are_bytes bytes)

pub plain_text : (bytes : List ℕ) → list_all is_item_byte bytes ≡ true → IsText bytes
plain_text bytes h = (map byte bytes, all_bytes bytes h, are_bytes bytes)

-- ---- names and words

pub name_plain : (p : Prim) → list_all is_item_byte (name_of p) ≡ true
name_plain Plus = refl
name_plain Minus = refl
name_plain Times = refl
name_plain Div = refl
name_plain Mod = refl
name_plain Equal = refl
name_plain Unequal = refl
name_plain Less = refl
name_plain LessEq = refl
name_plain Greater = refl
name_plain GreaterEq = refl
name_plain And = refl
name_plain Or = refl
name_plain Xor = refl
name_plain Not = refl
name_plain Merge = refl
name_plain Length = refl
name_plain Range = refl
name_plain IsTuple = refl
name_plain LookUp = refl
name_plain GetLabel = refl
name_plain GetArity = refl

name_short_test : (p : Prim) → nat_le (length (name_of p)) 9 ≡ true
name_short_test Plus = refl
name_short_test Minus = refl
name_short_test Times = refl
name_short_test Div = refl
name_short_test Mod = refl
name_short_test Equal = refl
name_short_test Unequal = refl
name_short_test Less = refl
name_short_test LessEq = refl
name_short_test Greater = refl
name_short_test GreaterEq = refl
name_short_test And = refl
name_short_test Or = refl
name_short_test Xor = refl
name_short_test Not = refl
name_short_test Merge = refl
name_short_test Length = refl
name_short_test Range = refl
name_short_test IsTuple = refl
name_short_test LookUp = refl
name_short_test GetLabel = refl
name_short_test GetArity = refl

pub name_short : (p : Prim) → length (name_of p) ≤ 9
name_short p = leb-true (length (name_of p)) 9 (name_short_test p)

pub name_text : (p : Prim) → IsText (name_of p)
name_text p = plain_text (name_of p) (name_plain p)

fault_plain : (f : ValueFault) → list_all is_item_byte (fault_text f) ≡ true
fault_plain Bad = refl
fault_plain Overflow = refl
fault_plain Zero = refl
fault_plain NoPart = refl
fault_plain Limit = refl

fault_short_test : (f : ValueFault) → nat_le (length (fault_text f)) 9 ≡ true
fault_short_test Bad = refl
fault_short_test Overflow = refl
fault_short_test Zero = refl
fault_short_test NoPart = refl
fault_short_test Limit = refl

pub fault_short : (f : ValueFault) → length (fault_text f) ≤ 9
fault_short f = leb-true (length (fault_text f)) 9 (fault_short_test f)

pub fault_is_text : (f : ValueFault) → IsText (fault_text f)
fault_is_text f = plain_text (fault_text f) (fault_plain f)

-- ---- numbers

digit_item : (b : ℕ) → is_digit b ≡ true → is_item_byte b ≡ true
digit_item b h = grind arith

pub digits_plain : (bytes : List ℕ) → list_all is_digit bytes ≡ true → list_all is_item_byte bytes ≡ true
digits_plain [] h = refl
digits_plain (b ∷ bytes) h =
    let p = and_parts (is_digit b) (list_all is_digit bytes) h in
    and_from (is_item_byte b) (list_all is_item_byte bytes) (digit_item b p.0) (digits_plain bytes p.1)

one_digit : (n : ℕ) → n < 10 → list_all is_digit ((48 + n) ∷ []) ≡ true
one_digit n lt = grind arith

pub decimal_digits : (n : ℕ) → n < 2 ^ 64 → list_all is_digit (decimal n) ≡ true
decimal_digits n lt =
    decimal_by_steps (λ _ ds. list_all is_digit ds ≡ true) one_digit
    (λ n ds le h. list_all-append is_digit ds ((48 + n % 10) ∷ [])
    ∙ and_from (list_all is_digit ds) (list_all is_digit ((48 + n % 10) ∷ [])) h (one_digit (n % 10) (omega arith)))
    n lt

pub signed_plain : (z : ℤ) → FitsSigned w64 z → list_all is_item_byte (signed_decimal z) ≡ true
signed_plain (pos n) f = digits_plain (decimal n) (decimal_digits n (omega (arith, f.sfits)))
signed_plain (negsuc n) f = digits_plain (decimal (suc n)) (decimal_digits (suc n) (omega (arith, f.sfits)))

pub signed_text : (z : ℤ) → FitsSigned w64 z → IsText (signed_decimal z)
signed_text z f = plain_text (signed_decimal z) (signed_plain z f)

pub signed_short : (z : ℤ) → FitsSigned w64 z → length (signed_decimal z) ≤ 20
signed_short z f = length_signed_le 19 z (omega (arith, f.sfits)) (omega (arith, f.sfits))

pub length_is_text : (z : ℤ) → FitsSigned w64 z → IsText (length_text z)
length_is_text z f =
    plain_text (length_text z) (list_all-append is_item_byte (signed_decimal z) (codes "mcell")
    ∙ and_from (list_all is_item_byte (signed_decimal z)) true (signed_plain z f) refl)

pub length_short : (z : ℤ) → FitsSigned w64 z → length (length_text z) ≤ 25
length_short z f = omega (arith, length-append (signed_decimal z) (codes "mcell"), signed_short z f)

-- ---- labels

no_label : (n b : ℕ) → is_label_byte n ≡ false → is_label_byte b ≡ true → (b == n) ≡ false
no_label n b is_none h =
    false_from_ne_true (b == n)
    (λ e. (let same : true ≡ false = sym h ∙ ap is_label_byte (eqb-true b n e) ∙ is_none in cc))

all_false : (p q r s t : Bool) → p ≡ false → q ≡ false → r ≡ false → s ≡ false → t ≡ false
    → not (p || q || r || s || t) ≡ true
all_false p q r s t a b c d e = rw (a, b, c, d, e) refl

label_item : (b : ℕ) → is_label_byte b ≡ true → is_item_byte b ≡ true
unfolding is_label_byte
label_item b h =
    all_false (b == 9) (b == 10) (b == 13) (b == 60) (b == 62) (no_label 9 b refl h) (no_label 10 b refl h)
    (no_label 13 b refl h) (no_label 60 b refl h) (no_label 62 b refl h)

label_plain : (label : List ℕ) → AllByRecursion (λ b. is_label_byte b ≡ true) label → list_all is_item_byte label ≡ true
label_plain [] h = refl
label_plain (b ∷ label) h =
    and_from (is_item_byte b) (list_all is_item_byte label) (label_item b h.0) (label_plain label h.1)

pub label_text : (label : List ℕ) → IsLabel label → IsText label
label_text label h = plain_text label (label_plain label h.each)

pub tuple_label : IsLabel (codes "tuple")
unfolding is_label_byte
tuple_label = record { each = (refl, (refl, (refl, (refl, (refl, tt))))); some = omega arith; short = omega arith }

pub error_label : IsLabel (codes "error")
unfolding is_label_byte
error_label = record { each = (refl, (refl, (refl, (refl, (refl, tt))))); some = omega arith; short = omega arith }

pub ruleset plain = (
  name_short,
  name_text,
  fault_short,
  fault_is_text,
  signed_text,
  signed_short,
  length_is_text,
  length_short,
  label_text,
  tuple_label,
  error_label,
)
