-- Bytes that show a code point, and the item that is typed.
use Rattle.std.proofs.Common.{◌≡◌, ◌≢◌, ℕ, ◌<◌, Bool, true, false, not, ◌&&◌, ◌||◌, ◌==◌, cond}
use Rattle.std.proofs.Common.{List, [], ◌∷◌, Option, Some, None, inl, inr, refl, sym, ap, subst, ◌∙◌, arith}
use Rattle.std.specs.Prelude.{codes, nat_le}
use Rattle.std.specs.List.{AllByRecursion, list_all}
use Rattle.std.specs.Option.{is_some}
use Rattle.std.proofs.lemmas.Bool.{agree_below_at, eqb-true, cases_Bool, and_parts, true≢false, false≢true}
use Rattle.std.proofs.lemmas.Bool.Decides.{nat_tests}
use Rattle.tx_tree.specs.Texts.{Item, byte, symbol, IsItem, IsName, is_item_byte}
use Rattle.tx_text.specs.Tables.{byte_code, named_code}
use Rattle.tx_text.specs.Displays.{is_shown_code, symbol_code, item_codes}
use Rattle.tx_keys.specs.declared.typing.TheConstants.{SHOWN_BYTES}
use Rattle.tx_keys.specs.Typing.{IsTyped, byte_among, byte_of, is_own, hex_name}
use Rattle.tx_keys.proofs.Hex.{hex_name_is, hex_shows}

abbrev Shows : ℕ → ℕ → Type 0
Shows b code = (byte_code b ≡ code) × (is_item_byte b ≡ true)

-- ---- what is found is right

abbrev is_right_row : ℕ × ℕ → Bool
is_right_row row = (byte_code row.1 == row.0) && is_item_byte row.1

among_shows : (rows : List (ℕ × ℕ)) → list_all is_right_row rows ≡ true → (code b : ℕ)
    → byte_among rows code ≡ Some b → Shows b code
among_shows [] all code b found = absurd (false≢true (ap is_some found))
among_shows (row ∷ rows) all code b found =
    let both = and_parts (is_right_row row) (list_all is_right_row rows) all in
    elim (cases_Bool (row.0 == code)) [
      | inl is ↦
          let same : row.0 ≡ code = eqb-true row.0 code is in
          let here : Some row.1 ≡ Some b = ap (λ t. cond t (Some row.1) (byte_among rows code)) (sym is) ∙ found in
          let byte_is : row.1 ≡ b = ap (λ o. from_some o) here in
          let right = and_parts (byte_code row.1 == row.0) (is_item_byte row.1) both.0 in
          let shown : byte_code row.1 ≡ row.0 = eqb-true (byte_code row.1) row.0 right.0 in
          subst (λ x. Shows x code) byte_is (shown ∙ same, right.1)
      | inr other ↦
          among_shows rows both.1 code b (ap (λ t. cond t (Some row.1) (byte_among rows code)) (sym other) ∙ found)
    ]
  where
    from_some : Option ℕ → ℕ
    from_some (Some n) = n
    from_some None = 0

rows_are_right : list_all is_right_row SHOWN_BYTES ≡ true
unfolding byte_code
rows_are_right = refl

abbrev is_right_own : ℕ → Bool
is_right_own b = not (is_own b) || ((byte_code b == b) && is_item_byte b || (b == 60 || b == 62))

abbrev always : ℕ → Bool
always n = true

owns_are_right : (b : ℕ) → b < 256 → is_right_own b ≡ true
unfolding byte_code
owns_are_right b small = agree_below_at is_right_own always 256 b refl small

own_small : (b : ℕ) → is_own b ≡ true → b < 256
own_small b own = grind (arith, nat_tests)

own_shows : (b : ℕ) → (b == 60 || b == 62) ≡ false → is_own b ≡ true → Shows b b
own_shows b other own =
    let all : is_right_own b ≡ true = owns_are_right b (own_small b own) in
    let both : ((byte_code b == b) && is_item_byte b) ≡ true
    = right (is_own b) ((byte_code b == b) && is_item_byte b) (b == 60 || b == 62) own other all in
    let two = and_parts (byte_code b == b) (is_item_byte b) both in
    (eqb-true (byte_code b) b two.0, two.1)
  where
    right : (x y z : Bool) → x ≡ true → z ≡ false → (not x || (y || z)) ≡ true → y ≡ true
    right true true false is no_other all = refl
    right true false false is no_other all = all
    right true y true is no_other all = absurd (true≢false no_other)
    right false y z is no_other all = absurd (false≢true is)

-- the byte of another code point than that of < and >
abbrev later_byte_of : ℕ → Option ℕ
later_byte_of code = cond (is_own code) (Some code) (byte_among SHOWN_BYTES code)

pub byte_shows : (code b : ℕ) → byte_of code ≡ Some b → Shows b code
byte_shows code b found =
    elim (cases_Bool (code == 60 || code == 62)) [
      | inl is ↦ absurd (false≢true (ap is_some (ap (λ t. cond t None (later_byte_of code)) (sym is) ∙ found)))
      | inr other ↦
          let later : later_byte_of code ≡ Some b = ap (λ t. cond t None (later_byte_of code)) (sym other) ∙ found in
          elim (cases_Bool (is_own code)) [
            | inl own ↦
                let here : Some code ≡ Some b
                = ap (λ t. cond t (Some code) (byte_among SHOWN_BYTES code)) (sym own) ∙ later in
                subst (λ x. Shows x code) (ap (λ o. from_some o) here) (own_shows code other own)
            | inr not_own ↦
                among_shows SHOWN_BYTES rows_are_right code b
                (ap (λ t. cond t (Some code) (byte_among SHOWN_BYTES code)) (sym not_own) ∙ later)
          ]
    ]
  where
    from_some : Option ℕ → ℕ
    from_some (Some n) = n
    from_some None = 0

-- ---- what a byte shows is found

abbrev is_found : ℕ → Bool
is_found b = not (is_item_byte b) || is_some (byte_of (byte_code b))

all_found : (b : ℕ) → b < 256 → is_found b ≡ true
unfolding byte_code
all_found b small = agree_below_at is_found always 256 b refl small

none_shows : (code : ℕ) → byte_of code ≡ None → (b : ℕ) → b < 256 → is_item_byte b ≡ true → byte_code b ≢ code
none_shows code none b small item e =
    let found : is_some (byte_of (byte_code b)) ≡ true =
    ap (λ t. not t || is_some (byte_of (byte_code b))) (sym item) ∙ all_found b small in
    let lost : is_some (byte_of (byte_code b)) ≡ false = ap (λ c. is_some (byte_of c)) e ∙ ap is_some none in
    absurd (false≢true (sym lost ∙ found))

-- ---- the item

pub typed_byte : (code b : ℕ) → byte_of code ≡ Some b → IsTyped code (byte b)
typed_byte code b found =
    let shown = byte_shows code b found in
    record {
      is_item = shown.1;
      shows = ap (λ c. c ∷ []) shown.0;
      by_byte = λ d small item e. (b, refl);
      no_break = λ e. absurd (true≢false (ap is_some (sym found ∙ ap byte_of e)));
    }

-- a symbol that shows it, where no byte does
typed_symbol : (code : ℕ) (name : List ℕ) → byte_of code ≡ None → IsName name → item_codes (symbol name) ≡ code ∷ []
    → (code ≡ 0xA0 → name ≡ codes "nbsp") → IsTyped code (symbol name)
typed_symbol code name none is shown break =
    record {
      is_item = is;
      shows = shown;
      by_byte = λ d small item e. absurd (none_shows code none d small item e);
      no_break = λ e. ap symbol (break e);
    }

name_less : IsName (codes "less")
name_less = record { each = (refl, (refl, (refl, (refl, tt)))); some = omega arith; short = omega arith }

name_gtr : IsName (codes "gtr")
name_gtr = record { each = (refl, (refl, (refl, tt))); some = omega arith; short = omega arith }

name_nbsp : IsName (codes "nbsp")
name_nbsp = record { each = (refl, (refl, (refl, (refl, tt)))); some = omega arith; short = omega arith }

pub typed_less : IsTyped 0x3C (symbol (codes "less"))
unfolding named_code
typed_less = typed_symbol 0x3C (codes "less") refl name_less refl (λ e. absurd (omega (arith, e)))

pub typed_gtr : IsTyped 0x3E (symbol (codes "gtr"))
unfolding named_code
typed_gtr = typed_symbol 0x3E (codes "gtr") refl name_gtr refl (λ e. absurd (omega (arith, e)))

pub typed_nbsp : IsTyped 0xA0 (symbol (codes "nbsp"))
unfolding named_code
typed_nbsp = typed_symbol 0xA0 (codes "nbsp") refl name_nbsp refl (λ e. refl)

pub typed_number : (code : ℕ) → is_shown_code code ≡ true → byte_of code ≡ None → code ≢ 0xA0
    → IsTyped code (symbol (hex_name code))
typed_number code shown none other =
    typed_symbol code (hex_name code) none (hex_name_is code)
    (hex_shows code shown (positive code shown) (small code shown)) (λ e. absurd (other e))
  where
    positive : (code : ℕ) → is_shown_code code ≡ true → 0 < code
    positive code shown = grind (arith, nat_tests)

    small : (code : ℕ) → is_shown_code code ≡ true → code < 0x1000000
    small code shown = grind (arith, nat_tests)
