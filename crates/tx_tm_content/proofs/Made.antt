-- What makes no leaf and no node.
use Rattle.std.proofs.Common.{◌≡◌, ℕ, ◌<◌, ◌≤◌, List, [], ◌∷◌, length, take, refl, sym, ap, subst, ◌∙◌, arith}
use Rattle.std.proofs.lemmas.List.{append-nil, take_all}
use Rattle.std.proofs.Math.Nat.{le-max_left}
use Rattle.tx_base.specs.Fronts.{IsFront, IsLongestFront}
use Rattle.tx_tree.specs.Texts.{IsText}
use Rattle.tx_tree.specs.WideTree.{WideTree, leaf, node, forest, count, widest, arity_of}
use Rattle.tx_tree.proofs.Children.{count-forest}
use Rattle.tx_tree.specs.Labels.{IsLabel}
use Rattle.tx_tm_form.specs.Parts.{concat_label, document_label, collection_label, raw_data_label, concat_of}
use Rattle.tx_tm_form.proofs.Formed.{concat_is_label, document_is_label, collection_is_label, raw_data_is_label}

pub no_bad_byte : (bytes : List ℕ) (n : ℕ) → IsText bytes → IsLongestFront IsText bytes n → n < length bytes → ⊥
no_bad_byte bytes n h k i =
    let whole : IsFront IsText bytes (length bytes) = (
      omega arith,
      (
        [],
        subst IsText (sym (append-nil (take (length bytes) bytes) ∙ take_all (length bytes) bytes (omega arith)))
            h,
      ),
    ) in
    omega (arith, k.longest (length bytes) whole, i)

pub no_bad_symbol : (bytes : List ℕ) (n : ℕ) → IsText bytes → IsLongestFront IsText bytes n
    → (IsText (take n bytes) → ⊥) → ⊥
no_bad_symbol bytes n h k i =
    let whole : IsFront IsText bytes (length bytes) = (
      omega arith,
      (
        [],
        subst IsText (sym (append-nil (take (length bytes) bytes) ∙ take_all (length bytes) bytes (omega arith)))
            h,
      ),
    ) in
    let e : n ≡ length bytes = omega (arith, k.longest (length bytes) whole, k.front.0) in
    i (subst IsText (sym (take_all n bytes (omega (arith, e)))) h)

pub arity_least : (label : List ℕ) (ts : List WideTree) → length ts ≤ arity_of (node label (forest ts))
arity_least label ts = omega (arith, count-forest ts, le-max_left (count (forest ts)) (widest (forest ts)))

pub concat_none : (ts : List WideTree) → [] ≡ ts → concat_of ts ≡ leaf []
concat_none ts e = ap concat_of (sym e)

pub concat_one : (ts : List WideTree) (t : WideTree) → ts ≡ t ∷ [] → concat_of ts ≡ t
concat_one ts t e = ap concat_of e

pub concat_many : (ts : List WideTree) → 2 ≤ length ts → concat_of ts ≡ node concat_label (forest ts)
concat_many [] h = absurd (omega arith)
concat_many (t ∷ []) h = absurd (omega arith)
concat_many (t ∷ u ∷ ts) h = refl

pub concat_there : IsLabel concat_label
concat_there = concat_is_label

pub document_there : IsLabel document_label
document_there = document_is_label

pub collection_there : IsLabel collection_label
collection_there = collection_is_label

pub raw_data_there : IsLabel raw_data_label
raw_data_there = raw_data_is_label

pub ruleset concat_rules = (concat_there, concat_none, concat_one, concat_many)
