-- Items that are narrow enough are cut into pieces.
use Rattle.std.proofs.Common.{◌≡◌, ℕ, zero, suc, ◌+◌, ◌-◌, ◌<◌, ◌≤◌, inl, inr, List, [], ◌∷◌, length, drop, get_or}
use Rattle.std.proofs.Common.{refl, sym, ap, subst, arith}
use Rattle.std.specs.Prelude.{slice_range, All, ◌⊎◌}
use Rattle.std.proofs.lemmas.Bool.{cases_lt, cases_Bool}
use Rattle.std.proofs.lemmas.List.{length-drop, take_all, drop_all}
use Rattle.std.proofs.lemmas.List.Elements.{All-nil}
use Rattle.tx_items.specs.declared.drawing.Item.{Item}
use Rattle.tx_items.specs.declared.drawing.Item.TheVariants.{Break}
use Rattle.tx_items.specs.Cells.{cells_across}
use Rattle.tx_layout.specs.declared.pieces.Span.{Span}
use Rattle.tx_layout.specs.Words.{is_blank_item, is_chance_item, Solid, Blank, Breakable, Unbreakable, IsSpan}
use Rattle.tx_layout.specs.Words.{SpansFrom}
use Rattle.tx_layout.specs.Rows.{Narrow}
use Rattle.tx_existence.proofs.Slices.{slice_one, all_none, all_more, all_one}

abbrev item_at : List Item → ℕ → Item
item_at items at = get_or items at Break

-- spaces from a place on end at another
record AreSpaces (items : List Item) (at from : ℕ) : Type 0 where
  onward : at ≤ from
  within : from ≤ length items
  blank : All Blank (slice_range items at from)
  stops : from < length items → Solid (item_at items from)

spaces : (left : ℕ) (items : List Item) (at from : ℕ) → from + left ≡ length items → at ≤ from
    → All Blank (slice_range items at from) → (end : ℕ) × AreSpaces items at end
spaces zero items at from e on blank =
    (from, record { onward = on; within = omega arith; blank = blank; stops = λ more. absurd (omega arith) })
spaces (suc left) items at from e on blank =
    let more : from < length items = omega arith in
    elim (cases_Bool (is_blank_item (item_at items from))) [
      | inl is ↦
          spaces left items at (from + 1) (omega arith) (omega arith)
          (all_more Blank items at from Break on more blank is)
      | inr solid ↦ (from, record { onward = on; within = omega arith; blank = blank; stops = λ lt. solid })
    ]

-- the piece that begins at a place ends at another
record IsEnd (least : ℕ) (items : List Item) (from to : ℕ) : Type 0 where
  some : from < to
  within : to ≤ length items
  solid : All Solid (slice_range items from to)
  unbroken : All Unbreakable (slice_range items from (to - 1))
  narrow : cells_across (slice_range items from to) ≤ least
  greatest : to < length items →
      All Blank (slice_range items to (to + 1)) ⊎ All Breakable (slice_range items (to - 1) to)
      ⊎ (least < cells_across (slice_range items from (to + 1)))

after_chance : (items : List Item) (to : ℕ) → 0 < to → to ≤ length items → Breakable (item_at items (to - 1))
    → All Breakable (slice_range items (to - 1) to)
after_chance items to some within is =
    let there : to - 1 < length items = omega arith in
    let end : to - 1 + 1 ≡ to = omega arith in
    subst (λ n. All Breakable (slice_range items (to - 1) n)) end
    (all_one Breakable items (to - 1) Break there is)

no_chance_yet : (items : List Item) (from to : ℕ) → from < to → to ≤ length items
    → All Unbreakable (slice_range items from (to - 1)) → Unbreakable (item_at items (to - 1))
    → All Unbreakable (slice_range items from (to + 1 - 1))
no_chance_yet items from to some within so_far is =
    let there : to - 1 < length items = omega arith in
    let end : to - 1 + 1 ≡ to + 1 - 1 = omega arith in
    subst (λ n. All Unbreakable (slice_range items from n)) end
    (all_more Unbreakable items from (to - 1) Break (omega arith) there so_far is)

ends : (left least : ℕ) (items : List Item) (from to : ℕ) → to + left ≡ length items → from < to
    → All Solid (slice_range items from to) → All Unbreakable (slice_range items from (to - 1))
    → cells_across (slice_range items from to) ≤ least → (end : ℕ) × IsEnd least items from end
ends zero least items from to e some solid unbroken narrow = (
  to,
  record {
    some = some;
    within = omega arith;
    solid = solid;
    unbroken = unbroken;
    narrow = narrow;
    greatest = λ more. absurd (omega arith);
  },
)
ends (suc left) least items from to e some solid unbroken narrow =
    let more : to < length items = omega arith in
    elim (cases_Bool (is_blank_item (item_at items to))) [
      | inl blank ↦ (
        to,
        record {
          some = some;
          within = omega arith;
          solid = solid;
          unbroken = unbroken;
          narrow = narrow;
          greatest = λ lt. inl (all_one Blank items to Break more blank);
        },
      )
      | inr no_space ↦ elim (cases_Bool (is_chance_item (item_at items (to - 1)))) [
        | inl chance ↦ (
          to,
          record {
            some = some;
            within = omega arith;
            solid = solid;
            unbroken = unbroken;
            narrow = narrow;
            greatest = λ lt. inr (inl (after_chance items to (omega arith) (omega arith) chance));
          },
        )
        | inr no_chance ↦ elim (cases_lt least (cells_across (slice_range items from (to + 1)))) [
          | inl wide ↦ (
            to,
            record {
              some = some;
              within = omega arith;
              solid = solid;
              unbroken = unbroken;
              narrow = narrow;
              greatest = λ lt. inr (inr wide);
            },
          )
          | inr room ↦
              ends left least items from (to + 1) (omega arith) (omega arith)
              (all_more Solid items from to Break (omega arith) more solid no_space)
              (no_chance_yet items from to some (omega arith) unbroken no_chance) room
        ]
      ]
    ]

-- a piece begins at each item but a space
piece : (least : ℕ) (items : List Item) (from : ℕ) → All (Narrow least) items → from < length items
    → Solid (item_at items from) → (end : ℕ) × IsEnd least items from end
piece least items from narrow more solid =
    let none : from ≡ from + 1 - 1 = omega arith in
    let own : Narrow least (item_at items from) = narrow from Break more in
    let cells = ap cells_across (slice_one items from Break more) in
    let left : from + 1 + (length items - (from + 1)) ≡ length items = omega arith in
    ends (length items - (from + 1)) least items from (from + 1) left (omega arith)
    (all_one Solid items from Break more solid)
    (subst (λ n. All Unbreakable (slice_range items from n)) none (all_none Unbreakable items from)) (omega arith)

spans_from : (left least : ℕ) (items : List Item) (at : ℕ) → All (Narrow least) items → at ≤ length items
    → length items ≤ at + left → (ss : List Span) × SpansFrom least items at ss
spans_from zero least items at narrow within few =
    ([], subst (All Blank) (sym (drop_all at items (omega arith))) (All-nil Blank))
spans_from (suc left) least items at narrow within few =
    let rest : at + (length items - at) ≡ length items = omega arith in
    let before = spaces (length items - at) items at at rest (omega arith) (all_none Blank items at) in
    let from : ℕ = before.0 in
    let are : AreSpaces items at from = before.1 in
    let on = are.onward in
    let there = are.within in
    elim (cases_lt from (length items)) [
      | inl more ↦
          let end = piece least items from narrow more (are.stops more) in
          let is : IsEnd least items from end.0 = end.1 in
          let some = is.some in
          let others = spans_from left least items end.0 narrow is.within (omega arith) in
          let s : Span = record { spaces = at; from = from; to = end.0 } in
          let own : IsSpan least items s = record {
            onward = on;
            some = is.some;
            within = is.within;
            blank = are.blank;
            solid = is.solid;
            unbroken = is.unbroken;
            narrow = is.narrow;
            greatest = is.greatest;
          } in
          (s ∷ others.0, (refl, own, others.1))
      | inr past ↦
          let whole : slice_range items at from ≡ drop at items =
          take_all (from - at) (drop at items) (omega (arith, length-drop at items)) in
          ([], subst (All Blank) whole are.blank)
    ]

pub some_spans : (least : ℕ) (items : List Item) → All (Narrow least) items
    → (ss : List Span) × SpansFrom least items 0 ss
some_spans least items narrow = spans_from (length items) least items 0 narrow (omega arith) (omega arith)
