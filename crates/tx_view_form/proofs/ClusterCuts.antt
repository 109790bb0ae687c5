-- A cluster begins and ends at cuts of its text.
use Rattle.std.proofs.Common.{◌≡◌, ℕ, ◌+◌, ◌-◌, Bool, true, false, cond, inl, inr, List, [], ◌∷◌, ◌++◌, length}
use Rattle.std.proofs.Common.{refl, sym, ap, ◌∙◌, subst, arith, append_assoc, length-append, append-nil}
use Rattle.std.specs.Prelude.{nat_lt}
use Rattle.std.specs.List.{AllByRecursion, flat_map}
use Rattle.std.proofs.lemmas.Bool.{cases_lt}
use Rattle.std.proofs.lemmas.List.Concat.{flat_map-append}
use Rattle.tx_tree.specs.Texts.{Item, item_bytes, IsItem, IsText, IsCut}
use Rattle.tx_tree.proofs.PlaceFaults.{items_append}
use Rattle.tx_text.specs.Displays.{item_text}
use Rattle.tx_text.specs.Clusters.{items_of, item_start, item_end}
use Rattle.tx_text.proofs.Reading.{items_again}

-- what holds for both values of a test
either : (P : ℕ → Type 0) (b : Bool) (x y : ℕ) → P x → P y → P (cond b x y)
either P true x y p q = p
either P false x y p q = q

-- a place, with these items before it and these after it
record IsSeam (whole front items : List Item) (n : ℕ) : Type 0 where
  parts : whole ≡ front ++ items
  place : n ≡ length (flat_map item_bytes front)
  before : AllByRecursion IsItem front
  behind : AllByRecursion IsItem items

cut_there : (whole front items : List Item) (n : ℕ) → IsSeam whole front items n
    → IsCut (flat_map item_bytes whole) n
cut_there whole front items n h = (
  front,
  items,
  h.before,
  h.behind,
  ap (flat_map item_bytes) h.parts ∙ flat_map-append item_bytes front items,
  h.place,
)

-- after one item more
next_seam : (whole front items : List Item) (item : Item) (n : ℕ) → IsSeam whole front (item ∷ items) n
    → IsSeam whole (front ++ item ∷ []) items (n + length (item_bytes item))
next_seam whole front items item n h =
    let joined : flat_map item_bytes (front ++ item ∷ []) ≡ flat_map item_bytes front ++ item_bytes item =
    flat_map-append item_bytes front (item ∷ [])
    ∙ ap (λ z. flat_map item_bytes front ++ z) (append-nil (item_bytes item)) in
    record {
      parts = h.parts ∙ sym (append_assoc front (item ∷ []) items);
      place = ap (λ k. k + length (item_bytes item)) h.place
          ∙ sym (length-append (flat_map item_bytes front) (item_bytes item)) ∙ sym (ap length joined);
      before = items_append front (item ∷ []) h.before (h.behind.0, tt);
      behind = h.behind.1;
    }

start_cut : (whole front items : List Item) (from n : ℕ) → IsSeam whole front items from
    → IsCut (flat_map item_bytes whole) (item_start from items n)
start_cut whole front [] from n h = cut_there whole front [] from h
start_cut whole front (item ∷ items) from n h =
    let next : ℕ = from + length (item_bytes item) in
    let k : ℕ = n - length (item_text item) in
    either (IsCut (flat_map item_bytes whole)) (nat_lt n (length (item_text item))) from (item_start next items k)
    (cut_there whole front (item ∷ items) from h)
    (start_cut whole (front ++ item ∷ []) items next k (next_seam whole front items item from h))

end_cut : (whole front items : List Item) (from n : ℕ) → IsSeam whole front items from
    → IsCut (flat_map item_bytes whole) (item_end from items n)
end_cut whole front [] from n h = cut_there whole front [] from h
end_cut whole front (item ∷ items) from n h =
    let next : ℕ = from + length (item_bytes item) in
    let k : ℕ = n - length (item_text item) in
    let later = next_seam whole front items item from h in
    either (IsCut (flat_map item_bytes whole)) (nat_lt n (length (item_text item))) next (item_end next items k)
    (cut_there whole (front ++ item ∷ []) items next later)
    (end_cut whole (front ++ item ∷ []) items next k later)

-- a place found in the items of a text
in_text : (words : List ℕ) (t : IsText words) (place : List Item → ℕ) → IsCut (flat_map item_bytes t.0) (place t.0)
    → IsCut words (place (items_of words))
in_text words t place h =
    let same : items_of words ≡ t.0 = ap items_of t.2 ∙ items_again t.0 t.1 in
    subst (λ items. IsCut words (place items)) (sym same) (subst (λ bytes. IsCut bytes (place t.0)) (sym t.2) h)

at_start : (items : List Item) → AllByRecursion IsItem items → IsSeam items [] items 0
at_start items h = record { parts = refl; place = refl; before = tt; behind = h }

pub begins_at_cut : (words : List ℕ) (n : ℕ) → IsText words → IsCut words (item_start 0 (items_of words) n)
begins_at_cut words n t =
    in_text words t (λ items. item_start 0 items n) (start_cut t.0 [] t.0 0 n (at_start t.0 t.1))

ends_at_cut : (words : List ℕ) (n : ℕ) → IsText words → IsCut words (item_end 0 (items_of words) n)
ends_at_cut words n t = in_text words t (λ items. item_end 0 items n) (end_cut t.0 [] t.0 0 n (at_start t.0 t.1))

longer : (words : List ℕ) (from to : ℕ) → IsCut words from → IsCut words to → IsCut words (from + (to - from))
longer words from to h k =
    elim (cases_lt to from) [
      | inl less ↦ let same : from ≡ from + (to - from) = omega arith in subst (IsCut words) same h
      | inr more ↦ let same : to ≡ from + (to - from) = omega arith in subst (IsCut words) same k
    ]

pub stops_at_cut : (words : List ℕ) (n last : ℕ) → IsText words
    → IsCut words (item_start 0 (items_of words) n
    + (item_end 0 (items_of words) last - item_start 0 (items_of words) n))
stops_at_cut words n last t =
    longer words (item_start 0 (items_of words) n) (item_end 0 (items_of words) last) (begins_at_cut words n t)
    (ends_at_cut words last t)
