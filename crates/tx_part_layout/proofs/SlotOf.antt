-- The layout of a part, new or former.
use Rattle.std.proofs.Common.{◌≡◌, ℕ, ◌≤◌, ◌<◌, List, length, refl, ap, sym, subst, ◌∙◌, arith}
use Rattle.std.specs.Prelude.{Some, slice_get, if◌then◌else◌}
use Rattle.std.specs.List.{All}
use Rattle.std.specs.Option.{option_map}
use Rattle.tx_origin.specs.Values.{WideValue}
use Rattle.tx_walk.specs.declared.part.Part.{Part as DonePart}
use Rattle.tx_items.specs.declared.attributes.Attrs.{Attrs}
use Rattle.tx_items.specs.declared.drawing.Paragraph.{Paragraph}
use Rattle.tx_items.specs.Shows.{show, part_paragraphs}
use Rattle.tx_part_layout.specs.declared.laid.LaidPart.{LaidPart}
use Rattle.tx_part_layout.specs.declared.laid.PlacedPart.{PlacedPart}
use Rattle.tx_part_layout.specs.declared.settings.Frame.{Frame}
use Rattle.tx_part_layout.specs.declared.slots.Slot.{Slot}
use Rattle.tx_part_layout.specs.declared.slots.Slot.TheVariants.{Again}
use Rattle.tx_part_layout.specs.LaidParts.{IsLaidPart, IsOfValue, is_reused, items_in}
use Rattle.tx_part_layout.specs.Finding.{IsReused}
use Rattle.tx_part_layout.specs.Laying.{IsNewSlot, IsSlotOf, given_back_by}
use Rattle.tx_part_layout.specs.Slots.{put_below}
use Rattle.tx_part_layout.proofs.Reusing.{all_there, some_same}

-- what a part shows inside these `with`s
abbrev pub shown_in : List Frame → Attrs → WideValue → List Paragraph
shown_in fs a v = part_paragraphs (show a v).form (given_back_by fs (show a v).after)

pub own_is : (fs : List Frame) (ps : List Paragraph) (a b : Attrs) (v w : WideValue) → ps ≡ shown_in fs a v → a ≡ b →
    v ≡ w → ps ≡ shown_in fs b w
own_is fs ps a b v w e f g = e ∙ ap (λ c. shown_in fs c v) f ∙ ap (shown_in fs b) g

pub new_is : (width : ℕ) (old : List PlacedPart) (d : DonePart) (a : Attrs) (fs : List Frame) (above j : ℕ) (s : Slot)
    (n : ℕ) (p : LaidPart) → IsNewSlot old d.path above p s → IsLaidPart width p → p.value ≡ d.trace.value →
    p.before ≡ a → p.paragraphs.items ≡ shown_in fs a d.trace.value →
    n ≡ (if is_reused old d a then 0 else items_in p.paragraphs.items) → n ≤ 242000000 →
    IsSlotOf width old d a fs above j s n
new_is width old d a fs above j s n p h laid value before own anew few =
    record {
      between = h.between j;
      part = h.part;
      there = h.there;
      laid = subst (IsLaidPart width) (sym h.laid_is) laid;
      path = h.path_is;
      above_is = h.above_is;
      value = ap (λ (q : LaidPart). q.value) h.laid_is ∙ value;
      before = ap (λ (q : LaidPart). q.before) h.laid_is ∙ before;
      own = ap (λ (q : LaidPart). q.paragraphs.items) h.laid_is ∙ own;
      anew =
          anew
          ∙ ap (λ (q : LaidPart). if is_reused old d a then 0 else items_in q.paragraphs.items) (sym h.laid_is);
      few = few;
    }

-- none of the items of a part that is reused
pub none_of : (old : List PlacedPart) (d : DonePart) (a : Attrs) (i n : ℕ) → IsReused old d a i →
    0 ≡ (if is_reused old d a then 0 else n)
none_of old d a i n r = ap (λ b. if b then 0 else n) (sym r.is)

-- what is known of the part that is reused
pub record IsFormer (width : ℕ) (d : DonePart) (a : Attrs) (p : PlacedPart) : Type 0 where
  pub laid : IsLaidPart width p.laid.value
  pub path : p.path ≡ d.path
  pub value : p.laid.value.value ≡ d.trace.value
  pub before : p.laid.value.before ≡ a

pub former_is : (width : ℕ) (old : List PlacedPart) (d : DonePart) (a : Attrs) (i : ℕ) (p : PlacedPart) →
    slice_get old i ≡ Some p → All (λ q. IsLaidPart width q.laid.value) old → All (λ q. IsOfValue q d) old →
    IsReused old d a i → IsFormer width d a p
former_is width old d a i p at laid same r =
    let is : r.part ≡ p = some_same r.part p (sym r.there ∙ at) in
    let path : p.path ≡ d.path = ap (λ (q : PlacedPart). q.path) (sym is) ∙ r.stands in
    record {
      laid = all_there (λ (q : PlacedPart). IsLaidPart width q.laid.value) old i p laid at;
      path = path;
      value = all_there (λ (q : PlacedPart). IsOfValue q d) old i p same at path r.kept;
      before = ap (λ (q : PlacedPart). q.laid.value.before) (sym is) ∙ r.before;
    }

pub again_is : (width : ℕ) (old : List PlacedPart) (d : DonePart) (a : Attrs) (fs : List Frame) (above j i : ℕ)
    (p : PlacedPart) → slice_get old i ≡ Some p → i < length old → j ≤ i → IsReused old d a i →
    IsFormer width d a p → p.laid.value.paragraphs.items ≡ shown_in fs p.laid.value.before p.laid.value.value →
    IsSlotOf width old d a fs above j (Again i above) 0
again_is width old d a fs above j i p at few free r f own =
    record {
      between = (free, few);
      part = put_below above p;
      there = ap (option_map (put_below above)) at;
      laid = f.laid;
      path = f.path;
      above_is = refl;
      value = f.value;
      before = f.before;
      own = own_is fs p.laid.value.paragraphs.items p.laid.value.before a p.laid.value.value d.trace.value own f.before
          f.value;
      anew = none_of old d a i _ r;
      few = omega arith;
    }
