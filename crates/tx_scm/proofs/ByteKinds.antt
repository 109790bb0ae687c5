-- Which byte is of which kind.
use Rattle.std.proofs.Common.{◌≡◌, ℕ, true, false, eqb, List, [], ◌∷◌, refl, arith}
use Rattle.std.proofs.lemmas.Bool.{eqb-true}
use Rattle.tx_tree.specs.Labels.{is_label_byte}
use Rattle.tx_scm.specs.declared.kinds.Kind.{Kind}
use Rattle.tx_scm.specs.declared.kinds.Kind.TheVariants.{White, Opens, Closes, Quote, Backslash, Letter}
use Rattle.tx_scm.specs.Spelling.{is_white, escaped}
use Rattle.tx_scm.specs.Kinds.{kind_of}

pub white_kind : (b : ℕ) → is_white b ≡ true → kind_of b ≡ White
unfolding kind_of
white_kind b h = rw h refl

pub opens_kind : kind_of 40 ≡ Opens
unfolding kind_of
opens_kind = refl

pub closes_kind : kind_of 41 ≡ Closes
unfolding kind_of
closes_kind = refl

pub quote_kind : kind_of 34 ≡ Quote
unfolding kind_of
quote_kind = refl

pub backslash_kind : kind_of 92 ≡ Backslash
unfolding kind_of
backslash_kind = refl

-- a byte of a label differs from each that is none
differs : (b c : ℕ) → is_label_byte b ≡ true → is_label_byte c ≡ false → eqb b c ≡ false
differs b c h n =
    elim (eqb b c) as (λ e. eqb b c ≡ e → e ≡ false) [
      | true ↦ λ e. let same : b ≡ c = eqb-true b c e in absurd (cc)
      | false ↦ λ e. refl
    ] refl

in_no_label : is_label_byte 9 ≡ false × is_label_byte 10 ≡ false × is_label_byte 13 ≡ false × is_label_byte 32 ≡ false
    × is_label_byte 40 ≡ false × is_label_byte 41 ≡ false × is_label_byte 34 ≡ false × is_label_byte 92 ≡ false
unfolding is_label_byte
in_no_label = (refl, refl, refl, refl, refl, refl, refl, refl)

pub letter_kind : (b : ℕ) → is_label_byte b ≡ true → kind_of b ≡ Letter
unfolding kind_of
letter_kind b h =
    let n = in_no_label in
    rw (
      differs b 9 h n.0,
      differs b 10 h n.1,
      differs b 13 h n.2,
      differs b 32 h n.3,
      differs b 40 h n.4,
      differs b 41 h n.5,
      differs b 34 h n.6,
      differs b 92 h n.7,
      h,
    ) refl

-- ---- and back

pub is_white_kind : (b : ℕ) → kind_of b ≡ White → is_white b ≡ true
unfolding kind_of
is_white_kind b e = grind arith

pub is_letter_kind : (b : ℕ) → kind_of b ≡ Letter → is_label_byte b ≡ true
unfolding kind_of
is_letter_kind b e = grind arith

pub is_opens_kind : (b : ℕ) → kind_of b ≡ Opens → b ≡ 40
unfolding kind_of
is_opens_kind b e = grind arith

pub is_closes_kind : (b : ℕ) → kind_of b ≡ Closes → b ≡ 41
unfolding kind_of
is_closes_kind b e = grind arith

pub is_quote_kind : (b : ℕ) → kind_of b ≡ Quote → b ≡ 34
unfolding kind_of
is_quote_kind b e = grind arith

pub is_backslash_kind : (b : ℕ) → kind_of b ≡ Backslash → b ≡ 92
unfolding kind_of
is_backslash_kind b e = grind arith

-- ---- how a byte of a text is written in a string

abbrev pub EscapedAs : Kind → ℕ → List ℕ → Type 0
EscapedAs Quote b e = e ≡ 92 ∷ b ∷ []
EscapedAs Backslash b e = e ≡ 92 ∷ b ∷ []
EscapedAs _ b e = e ≡ b ∷ []

plain : (b : ℕ) → (kind_of b ≡ Quote → ⊥) → (kind_of b ≡ Backslash → ⊥) → escaped b ≡ b ∷ []
unfolding kind_of
plain b q s = grind arith

pub escaped_as : (k : Kind) (b : ℕ) → kind_of b ≡ k → EscapedAs k b (escaped b)
escaped_as Quote b e = rw (is_quote_kind b e) refl
escaped_as Backslash b e = rw (is_backslash_kind b e) refl
escaped_as _ b e = plain b (λ f. cc) (λ f. cc)
