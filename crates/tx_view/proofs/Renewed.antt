-- The items of the units that are laid out anew.
use Rattle.std.proofs.Common.{◌≡◌, ℕ, suc, ◌+◌, List, [], ◌∷◌, length, map, Bool, true, false, Option, None, refl, ap}
use Rattle.std.proofs.Common.{sym, ◌∙◌, ◌<◌, inl, inr, Some, arith}
use Rattle.std.proofs.lemmas.Bool.{cases_lt, false_from_ne_true}
use Rattle.std.proofs.lemmas.Bool.Decides.{Decides-eqb}
use Rattle.std.proofs.lemmas.Option.{slice_get-get_or, slice_get_past, unwrap_or-slice_get}
use Rattle.std.proofs.lemmas.List.{length-map}
use Rattle.std.specs.Option.{unwrap_or}
use Rattle.std.specs.Prelude.{drop, not, ◌||◌, ◌==◌, if◌then◌else◌, slice_get}
use Rattle.tx_items.specs.declared.attributes.Attrs.{Attrs}
use Rattle.tx_view_form.specs.Outcomes.{Moment, beginning, behind}
use Rattle.tx_view_form.specs.Started.{attributes_of}
use Rattle.tx_bridge.specs.Entries.{Entry, Kept, units_of, outcome_of}
use Rattle.tx_bridge.specs.PartsKept.{KeptParts, part_flags, part_flags_from}
use Rattle.tx_bridge.specs.Reached.{unit_stays, reached_from}
use Rattle.tx_part_layout.specs.LaidParts.{is_before}
use Rattle.tx_unit_layout.specs.LaidAts.{LaidAt, laid_at}
use Rattle.tx_unit_layout.specs.declared.shown.Shown.{Shown}
use Rattle.tx_view.specs.Costs.{items_at, items_relaid, items_relaid_from}
use Rattle.tx_view.specs.Laid.{laid_in, laid_parts_in, items_unlaid_from, without}
use Rattle.tx_view.specs.Lone.{IsAlone}

relaid_one : (b : Bool) (laid : Option Attrs) (a : Attrs) (n : ℕ)
    → (if is_before (if not b then None else laid) a then 0 else n)
    ≡ (if not b || not (is_before laid a) then n else 0)
relaid_one true laid a n = by (is_before laid a)
  where
    by : (c : Bool) → (if c then 0 else n) ≡ (if not c then n else 0)
    by true = refl
    by false = refl
relaid_one false laid a n = refl

-- the flags of parts are those by what was cached of them before
pub unlaid_is : (m : Moment) (kept : Kept) (pss : List KeptParts) (xs : List Shown)
    → items_unlaid_from m (units_of kept) (part_flags_from m kept pss) (without (reached_from m kept pss) xs)
    ≡ items_relaid_from m kept pss (laid_in xs) (laid_parts_in xs)
unlaid_is m [] pss xs = refl
unlaid_is m (e ∷ es) [] xs = refl
unlaid_is m (e ∷ es) (ks ∷ pss) [] = refl
unlaid_is m (e ∷ es) (ks ∷ pss) (x ∷ xs) =
    let next : Moment = behind m (outcome_of m e.unit) in
    let ls : List LaidAt = map laid_at x.parts in
    ap (λ n. n + items_unlaid_from next (units_of es) (part_flags_from next es pss)
    (without (reached_from next es pss) xs))
    (relaid_one (unit_stays m e ks) x.laid (attributes_of m.env) (items_at m e.unit (part_flags m e.unit ks) ls))
    ∙ ap (λ n. items_relaid m e ks x.laid ls + n) (unlaid_is next es pss xs)

pub reached_many : (m : Moment) (kept : Kept) (pss : List KeptParts) → length (reached_from m kept pss) ≡ length kept
reached_many m [] pss = refl
reached_many m (e ∷ es) pss = ap suc (reached_many (behind m (outcome_of m e.unit)) es (drop 1 pss))

pub same_many : (old new : Kept) → units_of new ≡ units_of old → length old ≡ length new
same_many old new e =
    sym (length-map old (λ (k : Entry). k.unit)) ∙ ap length (sym e) ∙ length-map new (λ (k : Entry). k.unit)

-- the items that are laid out anew, with flags as a refresh leaves them
pub relaid_is : (old new : Kept) (olds : List KeptParts) (flags : List Bool) (marks : List (List Bool))
    (xs ys : List Shown) → flags ≡ reached_from beginning old olds → marks ≡ part_flags_from beginning old olds
    → units_of new ≡ units_of old → ys ≡ without flags xs
    → items_unlaid_from beginning (units_of new) marks ys
    ≡ items_relaid_from beginning old olds (laid_in xs) (laid_parts_in xs)
relaid_is old new olds flags marks xs ys e p f g =
    ap (λ us. items_unlaid_from beginning us marks ys) f ∙ ap (λ ms. items_unlaid_from beginning (units_of old) ms ys) p
    ∙ ap (items_unlaid_from beginning (units_of old) (part_flags_from beginning old olds))
    (g ∙ ap (λ fs. without fs xs) e) ∙ unlaid_is beginning old olds xs

-- ---- none but one

not_equal : (k i : ℕ) → (k ≡ i → ⊥) → k == i ≡ false
not_equal k i h = false_from_ne_true (k == i) (λ e. absurd (h ((Decides-eqb k i).0 e)))

pub alone_next : (lone i : ℕ) (flags : List Bool) (alone next reached : Bool)
    → (alone ≡ true → (k : ℕ) → k < i → (k ≡ lone → ⊥) → unwrap_or (slice_get flags k) false ≡ false)
    → (next ≡ true → alone ≡ true) → (next ≡ true → i == lone ≡ false → reached ≡ false)
    → reached ≡ unwrap_or (slice_get flags i) false
    → next ≡ true → (k : ℕ) → k < i + 1 → (k ≡ lone → ⊥) → unwrap_or (slice_get flags k) false ≡ false
alone_next lone i flags alone next reached before on here is = λ yes k less other.
    elim (cases_lt k i) [
      | inl early ↦ before (on yes) k early other
      | inr late ↦
          let same : k ≡ i = omega (arith, less, late) in
          ap (λ n. unwrap_or (slice_get flags n) false) same ∙ sym is
          ∙ here yes (not_equal i lone (λ e. other (same ∙ e)))
    ]

-- what was cached of those that were not evaluated anew is unchanged
pub alone_is : (lone n : ℕ) (old new : Kept) (olds : List KeptParts) (flags : List Bool)
    → flags ≡ reached_from beginning old olds → units_of new ≡ units_of old
    → ((i : ℕ) → slice_get flags i ≡ Some false → slice_get new i ≡ slice_get old i)
    → ((k : ℕ) → k < n → (k ≡ lone → ⊥) → unwrap_or (slice_get flags k) false ≡ false) → IsAlone lone n old new flags
alone_is lone n old new olds flags is same stays off = record {
  no_flag = off;
  stays = λ k less other.
      elim (cases_lt k (length flags)) [
        | inl within ↦
            stays k (slice_get-get_or flags k false within
            ∙ ap Some (sym (unwrap_or-slice_get flags k false) ∙ off k less other))
        | inr past ↦
            let many : length flags ≡ length old = ap length is ∙ reached_many beginning old olds in
            slice_get_past new k (omega (arith, past, many, same_many old new same))
            ∙ sym (slice_get_past old k (omega (arith, past, many)))
      ];
}
