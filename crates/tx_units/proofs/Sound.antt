-- The labels and the text that units are made with.
use Rattle.std.proofs.Common.{◌≡◌, ℕ, Bool, true, List, [], ◌∷◌, length, refl}
use Rattle.std.specs.Prelude.{codes, ◌&&◌, nat_le}
use Rattle.std.specs.List.{AllByRecursion, list_all}
use Rattle.std.proofs.lemmas.Bool.{leb-true, and_parts}
use Rattle.tx_tree.specs.Labels.{IsLabel, is_label_byte}
use Rattle.tx_tree.specs.Texts.{IsText}
use Rattle.tx_tree.specs.TextScan.{is_text, text_step}
use Rattle.tx_tree.proofs.Scanning.{text_test}

abbrev pub is_label : List ℕ → Bool
is_label label = list_all is_label_byte label && (nat_le 1 (length label) && nat_le (length label) 64)

each_byte : (bytes : List ℕ) → list_all is_label_byte bytes ≡ true → AllByRecursion (λ b. is_label_byte b ≡ true) bytes
each_byte [] e = tt
each_byte (b ∷ bytes) e = let p = and_parts _ _ e in (p.0, each_byte bytes p.1)

pub label_by : (label : List ℕ) → is_label label ≡ true → IsLabel label
label_by label e =
    let p = and_parts _ _ e in
    let q = and_parts _ _ p.1 in
    record { each = each_byte label p.0; some = leb-true _ _ q.0; short = leb-true _ _ q.1 }

pub assign_label : IsLabel (codes "assign")
unfolding is_label_byte
assign_label = label_by (codes "assign") refl

pub quote_label : IsLabel (codes "quote")
unfolding is_label_byte
quote_label = label_by (codes "quote") refl

pub error_label : IsLabel (codes "error")
unfolding is_label_byte
error_label = label_by (codes "error") refl

pub undefined_style_text : IsText (codes "undefined-style")
unfolding is_text text_step
undefined_style_text = text_test (codes "undefined-style") refl
