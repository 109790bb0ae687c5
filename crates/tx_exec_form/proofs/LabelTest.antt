-- The test of labels.
use Rattle.std.proofs.Common.{◌≡◌, ℕ, true, ◌&&◌, nat_le, nat_lt, List, [], ◌∷◌, length, refl, arith}
use Rattle.std.specs.Prelude.{◌↔◌}
use Rattle.std.specs.List.{AllByRecursion, list_all}
use Rattle.std.proofs.lemmas.Bool.{and_parts, and_from, leb-true, ltb-true, lt-ltb, le-leb}
use Rattle.tx_tree.specs.declared.TheConstants.{MOST_LABEL}
use Rattle.tx_tree.specs.Labels.{is_label_byte, IsLabel}
use Rattle.tx_exec_form.specs.Words.{is_label}

each_passes : (l : List ℕ) → list_all is_label_byte l ≡ true → AllByRecursion (λ b. is_label_byte b ≡ true) l
each_passes [] h = tt
each_passes (b ∷ l) h =
    let p = and_parts (is_label_byte b) (list_all is_label_byte l) h in
    (p.0, each_passes l p.1)

all_pass : (l : List ℕ) → AllByRecursion (λ b. is_label_byte b ≡ true) l → list_all is_label_byte l ≡ true
all_pass [] h = refl
all_pass (b ∷ l) h = and_from (is_label_byte b) (list_all is_label_byte l) h.0 (all_pass l h.1)

passes : (l : List ℕ) → is_label l ≡ true → IsLabel l
passes l h =
    let p = and_parts (nat_lt 0 (length l) && nat_le (length l) MOST_LABEL) (list_all is_label_byte l) h in
    let q = and_parts (nat_lt 0 (length l)) (nat_le (length l) MOST_LABEL) p.0 in
    record {
      each = each_passes l p.1;
      some = omega (arith, ltb-true 0 (length l) q.0);
      short = leb-true (length l) MOST_LABEL q.1;
    }

is_passed : (l : List ℕ) → IsLabel l → is_label l ≡ true
is_passed l h =
    let more = lt-ltb 0 (length l) (omega (arith, h.some)) in
    let few = le-leb (length l) MOST_LABEL h.short in
    and_from (nat_lt 0 (length l) && nat_le (length l) MOST_LABEL) (list_all is_label_byte l)
    (and_from (nat_lt 0 (length l)) (nat_le (length l) MOST_LABEL) more few) (all_pass l h.each)

pub label_tested : (l : List ℕ) → (is_label l ≡ true) ↔ IsLabel l
label_tested l = (passes l, is_passed l)
