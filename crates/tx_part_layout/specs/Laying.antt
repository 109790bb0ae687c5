-- How a unit is laid out part by part.
use Rattle.std.specs.Prelude.{◌≡◌, ℕ, ◌+◌, ◌*◌, ◌≤◌, Bool, true, false, List, [], ◌∷◌, ◌++◌, map, length, drop}
use Rattle.std.specs.Prelude.{Some, if◌then◌else◌, ◌||◌, not, ◌==◌}
use Rattle.std.specs.List.{All, flat_map, sum_by}
use Rattle.tx_walk.specs.declared.part.Part.{Part as DonePart}
use Rattle.tx_items.specs.declared.attributes.Attrs.{Attrs}
use Rattle.tx_items.specs.declared.drawing.Paragraph.{Paragraph}
use Rattle.tx_items.specs.Shows.{show, part_paragraphs}
use Rattle.tx_part_items.specs.ShownParts.{PartValue, PartsShown, own_paragraphs, part_errors, settings_given_back}
use Rattle.tx_part_layout.specs.declared.laid.LaidPart.{LaidPart}
use Rattle.tx_part_layout.specs.declared.laid.PlacedPart.{PlacedPart}
use Rattle.tx_part_layout.specs.declared.laying.Laying.{Laying}
use Rattle.tx_part_layout.specs.declared.settings.Frame.{Frame}
use Rattle.tx_part_layout.specs.declared.slots.Slot.{Slot}
use Rattle.tx_part_layout.specs.LaidParts.{IsLaidPart, AreBelow, laid_from, shown_from, laid_paragraphs}
use Rattle.tx_part_layout.specs.LaidParts.{done_value, is_reused, items_in, items_anew}
use Rattle.tx_part_layout.specs.Slots.{slot_part, placed_by, AreRising, IsBetween, number_behind}

-- what the `with`s round a part give back at the end of a paragraph, the outer last
abbrev pub given_back_by : List Frame → Attrs → Attrs
given_back_by [] a = a
given_back_by (f ∷ fs) a = settings_given_back f.settings.items f.before (given_back_by fs a)

-- this layout is new at the path, below so many lines of its unit
pub record IsNewSlot (old : List PlacedPart) (path : List ℕ) (above : ℕ) (laid : LaidPart) (s : Slot)
    : Type 0 where
  pub between : (j : ℕ) → IsBetween j (length old) s
  pub part : PlacedPart
  pub there : slot_part old s ≡ Some part
  pub path_is : part.path ≡ path
  pub above_is : part.above ≡ above
  pub laid_is : part.laid.value ≡ laid

-- The layout of the part, below so many lines of its unit, with these attributes before it, inside these `with`s. A
-- former layout is moved only if its number is j or above. So many items were laid out anew.
pub record IsSlotOf (width : ℕ) (old : List PlacedPart) (d : DonePart) (a : Attrs) (fs : List Frame) (above j : ℕ)
    (s : Slot) (n : ℕ) : Type 0 where
  pub between : IsBetween j (length old) s
  pub part : PlacedPart
  pub there : slot_part old s ≡ Some part
  pub laid : IsLaidPart width part.laid.value
  pub path : part.path ≡ d.path
  pub above_is : part.above ≡ above
  pub value : part.laid.value.value ≡ d.trace.value
  pub before : part.laid.value.before ≡ a
  pub own : laid_paragraphs part ≡ part_paragraphs (show a d.trace.value).form
      (given_back_by fs (show a d.trace.value).after)
  pub anew : n ≡ if is_reused old d a then 0 else items_in (laid_paragraphs part)
  pub few : n ≤ 242000000

-- what is laid out so far
abbrev pub so_far : List PlacedPart → Laying → List PlacedPart
so_far old x = placed_by old x.slots.items

-- the values of the parts that are left
abbrev pub left_values : List DonePart → ℕ → List PartValue
left_values parts n = map done_value (drop n parts)

-- how many lines parts have
abbrev pub lines_in : List PlacedPart → ℕ
lines_in ps = sum_by (λ p. length p.laid.value.lines) ps

-- One part more is laid out.
pub record IsAdded (s : Slot) (q : PlacedPart) (x y : Laying) : Type 0 where
  pub slots : y.slots.items ≡ x.slots.items ++ s ∷ []
  pub free : y.free ≡ number_behind x.free s
  pub errors : y.unit.errors.items ≡ x.unit.errors.items ++ q.laid.value.errors.items
  pub rows : y.rows ≡ x.rows + length q.laid.value.lines
  pub some : y.some ≡ (x.some || not (length q.laid.value.paragraphs.items == 0))
  pub attrs : y.attrs ≡ q.laid.value.after
  pub frames : y.frames ≡ x.frames
  pub next : y.next ≡ x.next
  pub rest : y.unit.paragraphs ≡ x.unit.paragraphs
  pub rest_lines : y.unit.lines ≡ x.unit.lines
  pub items : y.unit.items ≡ x.unit.items

-- Parts that show this were laid out, inside the same `with`s.
pub record HasLaid (old : List PlacedPart) (parts : List DonePart) (s : PartsShown) (x y : Laying) : Type 0 where
  pub next : y.next ≡ x.next + length s.each
  pub left : left_values parts y.next ≡ s.left
  pub attrs : y.attrs ≡ s.after
  pub frames : y.frames.items ≡ x.frames.items
  pub laid : map laid_from (so_far old y) ≡ map laid_from (so_far old x) ++ map shown_from s.each
  pub paragraphs : map laid_paragraphs (so_far old y) ≡ map laid_paragraphs (so_far old x) ++ map own_paragraphs s.each
  pub errors : y.unit.errors.items ≡ x.unit.errors.items ++ flat_map part_errors s.each
  pub rest : y.unit.paragraphs.items ≡ x.unit.paragraphs.items
  pub rest_lines : y.unit.lines ≡ x.unit.lines
  pub items : y.unit.items ≡ x.unit.items + items_anew old (drop x.next parts) s.each

-- whether parts have a paragraph
abbrev pub IsSome : Bool → List Paragraph → Type 0
IsSome false ps = ps ≡ []
IsSome true ps = (p : Paragraph) × (qs : List Paragraph) × (ps ≡ p ∷ qs)

-- What is laid out so far is right, and has few items and lines.
pub record IsRightSoFar (width : ℕ) (old : List PlacedPart) (x : Laying) : Type 0 where
  pub rising : AreRising x.free 0 x.slots.items
  pub within : x.free ≤ length old
  pub each : All (λ p. IsLaidPart width p.laid.value) (so_far old x)
  pub below : AreBelow 0 (so_far old x)
  pub rows : x.rows ≡ lines_in (so_far old x)
  pub some : IsSome x.some (flat_map laid_paragraphs (so_far old x))
  pub few : x.unit.items ≤ 242000000 * x.next
  pub few_rows : x.rows ≤ 242000000 * x.next
