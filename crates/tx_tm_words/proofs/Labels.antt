-- Labels that grow.
use Rattle.std.proofs.Common.{◌≡◌, ℕ, ◌<◌, ◌≤◌, true, List, [], ◌∷◌, ◌++◌, length, length-append, arith}
use Rattle.tx_tree.specs.declared.TheConstants.{MOST_LABEL}
use Rattle.tx_tree.specs.Labels.{is_label_byte, IsLabel}
use Rattle.tx_tree.proofs.Scanning.{all_snoc}
use Rattle.tx_tm_form.specs.declared.bytes.ByteKind.TheVariants.{Name}
use Rattle.tx_tm_form.specs.Bytes.{kind_of}
use Rattle.tx_tm_words.specs.LabelFronts.{IsLabelFront}

pub one_more : (l : List ℕ) (b : ℕ) → IsLabelFront l → is_label_byte b ≡ true → length l < MOST_LABEL
    → IsLabelFront (l ++ b ∷ [])
one_more l b h k n = record { each = all_snoc _ l b h.each k; short = omega (arith, length-append l (b ∷ [])) }

pub no_fault : (l : List ℕ) → IsLabelFront l → 1 ≤ length l → IsLabel l
no_fault l h n = record { each = h.each; some = n; short = h.short }

pub is_name : (b : ℕ) → kind_of b ≡ Name → is_label_byte b ≡ true
unfolding kind_of
is_name b e = grind arith

pub most_one : length {A = ℕ} [] < MOST_LABEL
most_one = omega arith

pub ruleset name_rules = (is_name, most_one)
