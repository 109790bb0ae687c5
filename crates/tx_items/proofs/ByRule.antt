-- What a value shows, by the rule of its label.
use Rattle.std.proofs.Common.{◌≡◌, ◌≢◌, ℕ, List, [], ◌∷◌, length, get_or, Option, Some}
use Rattle.std.proofs.Common.{None, refl, sym, ap, ap₂, ◌∙◌, arith}
use Rattle.std.specs.Prelude.{MatchOption, option_and_then}
use Rattle.std.specs.Option.{option_copied}
use Rattle.std.specs.Borrow.{Bor}
use Rattle.tx_prim.specs.Lengths.{length_of}
use Rattle.tx_origin.specs.Values.{WideValue, WideValues, text, made, none, also, vals, value_parts, value_text}
use Rattle.tx_origin.specs.Values.{value_label, value_origin}
use Rattle.tx_origin.proofs.Parts.{vals_each}
use Rattle.tx_items.specs.declared.attributes.Attrs.{Attrs}
use Rattle.tx_items.specs.declared.drawing.Item.{Item}
use Rattle.tx_items.specs.Attributes.{with_named, attribute_in}
use Rattle.tx_items.specs.Drawing.{drawn}
use Rattle.tx_items.specs.Rules.{Rule, rule_of}
use Rattle.tx_items.specs.Shows.{Shown, empty, inline, in_line, bad, assign_shown, space_by, space_shown}
use Rattle.tx_items.specs.Shows.{error_by, error_shown, rule_shown, show, show_all, show_with}
use Rattle.tx_items.specs.Running.{length_alone, table_shown}

pub show_text : (a : Attrs) (v : WideValue) (words : List ℕ) (at : Option (List ℕ)) → value_text v ≡ Some words
    → at ≡ value_origin v → show a v ≡ in_line a (drawn a at words)
unfolding show
show_text a (text s p) words at e f =
    let same : s ≡ words = cc in
    ap₂ (λ q t. in_line a (drawn a q t)) (sym f) same
show_text a (made label vs p) words at e f = absurd cc

pub show_row : (a : Attrs) (v : WideValue) (label : List ℕ) (r : Rule) → value_label v ≡ Some label → r ≡ rule_of label
    → show a v ≡ rule_shown r a label (vals (value_parts v)) (λ barred. show_all barred a (vals (value_parts v)))
    (show_with a a (vals (value_parts v))) (table_shown a label v)
unfolding show
show_row a (text words at) label r e f = absurd cc
show_row a (made l vs at) label r e f =
    let same : l ≡ label = cc in
    let table : List ℕ → Shown = λ m. table_shown a m (made l vs at) in
    ap (λ m. rule_shown (rule_of m) a m vs (λ barred. show_all barred a vs) (show_with a a vs) (table m)) same
    ∙ ap (λ q. rule_shown q a label vs (λ barred. show_all barred a vs) (show_with a a vs) (table label)) (sym f)
    ∙ ap (λ us. rule_shown r a label us (λ barred. show_all barred a us) (show_with a a us) (table label))
    (sym (vals_each vs))

pub copied_origin : (v : WideValue) (r : Option (Bor (List ℕ)))
    → MatchOption r (value_origin v ≡ None) (λ p. value_origin v ≡ Some p.now) → option_copied r ≡ value_origin v
copied_origin v None h = sym h
copied_origin v (Some p) h = sym h

pub copied_text : (v : WideValue) (r : Option (Bor (List ℕ)))
    → MatchOption r (value_text v ≡ None) (λ p. value_text v ≡ Some p.now) → option_copied r ≡ value_text v
copied_text v None h = sym h
copied_text v (Some p) h = sym h

-- ---- rules of two parts

pub assign_bad : (a : Attrs) (label : List ℕ) (vs : List WideValue) → length vs ≢ 2
    → assign_shown a label (vals vs) ≡ bad a label
assign_bad a label [] h = refl
assign_bad a label (x ∷ []) h = refl
assign_bad a label (x ∷ (v ∷ [])) h = absurd (h refl)
assign_bad a label (x ∷ (v ∷ (w ∷ vs))) h = refl

pub assign_two : (a : Attrs) (label : List ℕ) (vs : List WideValue) (d e : WideValue) → length vs ≡ 2
    → assign_shown a label (vals vs)
    ≡ record {
      form = inline empty;
      after = with_named (attribute_in (value_text (get_or vs 0 d))) (value_text (get_or vs 1 e)) a;
      errors = [];
    }
assign_two a label [] d e h = absurd (omega arith)
assign_two a label (x ∷ []) d e h = absurd (omega arith)
assign_two a label (x ∷ (v ∷ [])) d e h = refl
assign_two a label (x ∷ (v ∷ (w ∷ vs))) d e h = absurd (omega arith)

pub error_bad : (a : Attrs) (label : List ℕ) (vs : List WideValue) → length vs ≢ 2
    → error_shown a label (vals vs) ≡ bad a label
error_bad a label [] h = refl
error_bad a label (x ∷ []) h = refl
error_bad a label (x ∷ (v ∷ [])) h = absurd (h refl)
error_bad a label (x ∷ (v ∷ (w ∷ vs))) h = refl

pub error_two : (a : Attrs) (label : List ℕ) (vs : List WideValue) (d e : WideValue) → length vs ≡ 2
    → error_shown a label (vals vs) ≡ error_by a label (value_text (get_or vs 0 d)) (value_text (get_or vs 1 e))
error_two a label [] d e h = absurd (omega arith)
error_two a label (x ∷ []) d e h = absurd (omega arith)
error_two a label (x ∷ (v ∷ [])) d e h = refl
error_two a label (x ∷ (v ∷ (w ∷ vs))) d e h = absurd (omega arith)

pub ruleset two_parts = (assign_bad, assign_two, error_bad, error_two)

-- ---- spaces

pub space_alone : (item : ℕ → Item) (a : Attrs) (label : List ℕ) (vs : WideValues)
    → space_shown item a label vs ≡ space_by item a label (length_alone vs)
space_alone item a label none = refl
space_alone item a label (also v none) = refl
space_alone item a label (also v (also w vs)) = refl

pub alone_not : (vs : List WideValue) → length vs ≢ 1 → length_alone (vals vs) ≡ None
alone_not [] h = refl
alone_not (v ∷ []) h = absurd (h refl)
alone_not (v ∷ (w ∷ vs)) h = refl

pub alone_one : (vs : List WideValue) (d : WideValue) → length vs ≡ 1
    → length_alone (vals vs) ≡ option_and_then length_of (value_text (get_or vs 0 d))
alone_one [] d h = absurd (omega arith)
alone_one (v ∷ []) d h = refl
alone_one (v ∷ (w ∷ vs)) d h = absurd (omega arith)

pub ruleset alone = (alone_not, alone_one)
