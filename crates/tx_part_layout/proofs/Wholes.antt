-- A whole unit, and what its value shows.
use Rattle.std.proofs.Common.{◌≡◌, ℕ, ◌+◌, List, [], ◌∷◌, ◌++◌, map, drop, refl, ap, sym, subst, arith, ◌∙◌}
use Rattle.std.specs.List.{flat_map, All}
use Rattle.tx_tree.specs.WideTree.{WideTree}
use Rattle.tx_origin.specs.Values.{WideValue}
use Rattle.tx_parts.specs.Parts.{Stored}
use Rattle.tx_walk.specs.declared.part.Part.{Part as DonePart}
use Rattle.tx_items.specs.declared.attributes.Attrs.{Attrs}
use Rattle.tx_items.specs.Shows.{show, or_one, shown_paragraphs}
use Rattle.tx_view_form.specs.Views.{AreLines}
use Rattle.tx_exec_form.specs.declared.TheConstants.{MOST_LEVELS}
use Rattle.tx_part_items.specs.ItemsUnder.{paragraph_under}
use Rattle.tx_part_items.specs.ShownParts.{PartValue, ShownPart, PartsShown, kept_values, own_value, tree_shown}
use Rattle.tx_part_items.specs.ShownParts.{own_paragraphs, paragraphs_in_tree, part_errors, parts_shown}
use Rattle.tx_part_items.specs.ShownParts.{paragraphs_by_parts, errors_by_parts}
use Rattle.tx_part_layout.specs.declared.laid.PlacedPart.{PlacedPart}
use Rattle.tx_part_layout.specs.declared.laying.Laying.{Laying}
use Rattle.tx_part_layout.specs.LaidParts.{IsLaidPart, AreBelow, LaidFrom, laid_from, shown_from, laid_paragraphs}
use Rattle.tx_part_layout.specs.LaidParts.{placed_paragraphs, done_value, items_anew}
use Rattle.tx_part_layout.specs.LaidParts.{whole_shown, IsLaidUnit, ShowsValue}
use Rattle.tx_part_layout.specs.declared.laid.LaidUnit.{LaidUnit}
use Rattle.tx_part_layout.specs.Laying.{HasLaid, IsRightSoFar, left_values, given_back_by, so_far}
use Rattle.tx_part_layout.specs.Slots.{placed_by}
use Rattle.tx_part_layout.proofs.Lining.{Deeper, both_lines, lines_in_place}

-- at the start nothing is laid out
pub record Starts (a : Attrs) (x : Laying) : Type 0 where
  pub attrs : x.attrs ≡ a
  pub frames : x.frames.items ≡ []
  pub next : x.next ≡ 0
  pub slots : x.slots.items ≡ []
  pub errors : x.unit.errors.items ≡ []
  pub items : x.unit.items ≡ 0

-- at the end of a unit
pub record Ends (width : ℕ) (old : List PlacedPart) (y : Laying) (u : LaidUnit) : Type 0 where
  pub right : IsRightSoFar width old y
  pub paragraphs : placed_paragraphs (so_far old y) ++ u.paragraphs.items
      ≡ or_one y.attrs (placed_paragraphs (so_far old y))
  pub lines : AreLines width u.paragraphs.items u.lines
  pub parts : u.parts.items ≡ so_far old y
  pub errors : u.errors ≡ y.unit.errors
  pub items : u.items ≡ y.unit.items

-- parts that are laid out have the paragraphs of those that are shown, with their origins in the tree
in_tree : (ps : List PlacedPart) (qs : List ShownPart) → map laid_from ps ≡ map shown_from qs →
    map laid_paragraphs ps ≡ map own_paragraphs qs → placed_paragraphs ps ≡ flat_map paragraphs_in_tree qs
in_tree [] [] e f = refl
in_tree [] (q ∷ qs) e f = cc
in_tree (p ∷ ps) [] e f = cc
in_tree (p ∷ ps) (q ∷ qs) e f =
    let from : laid_from p ≡ shown_from q = cc in
    let own : laid_paragraphs p ≡ own_paragraphs q = cc in
    let froms : map laid_from ps ≡ map shown_from qs = cc in
    let owns : map laid_paragraphs ps ≡ map own_paragraphs qs = cc in
    ap (λ (g : LaidFrom). map (paragraph_under g.path) (laid_paragraphs p) ++ placed_paragraphs ps) from
    ∙ ap (λ us. map (paragraph_under q.path) us ++ placed_paragraphs ps) own
    ∙ ap (λ us. paragraphs_in_tree q ++ us) (in_tree ps qs froms owns)

module _ (width : ℕ) (old : List PlacedPart) (ds : List DonePart) (a : Attrs) (t : WideTree) (x y : Laying)
    (u : LaidUnit) (start : Starts a x)
    (h : HasLaid old ds (parts_shown MOST_LEVELS (given_back_by x.frames.items) x.attrs (left_values ds x.next) t) x y)
    (end : Ends width old y u) where
  abbrev s : PartsShown
  s = whole_shown a ds t

  from_start : HasLaid old ds s x y
  from_start =
      subst (λ (n : ℕ). HasLaid old ds (parts_shown MOST_LEVELS (λ b. b) a (left_values ds n) t) x y) start.next
      (subst (λ (b : Attrs). HasLaid old ds (parts_shown MOST_LEVELS (λ c. c) b (left_values ds x.next) t) x y)
      start.attrs
      (subst (λ fs. HasLaid old ds (parts_shown MOST_LEVELS (given_back_by fs) x.attrs (left_values ds x.next) t) x y)
      start.frames h))

  froms : map laid_from (so_far old y) ≡ map shown_from s.each
  froms = from_start.laid ∙ ap (λ ss. map laid_from (placed_by old ss) ++ map shown_from s.each) start.slots

  owns : map laid_paragraphs (so_far old y) ≡ map own_paragraphs s.each
  owns =
      from_start.paragraphs
      ∙ ap (λ ss. map laid_paragraphs (placed_by old ss) ++ map own_paragraphs s.each) start.slots

  pub whole_laid : (deeper : Deeper) → IsLaidUnit width (whole_shown a ds t) u
  whole_laid deeper =
      let g = from_start in
      let same : u.parts.items ≡ so_far old y = end.parts in
      let each = subst (All (λ p. IsLaidPart width p.laid.value)) (sym same) end.right.each in
      record {
        parts = ap (map laid_from) same ∙ froms;
        each = each;
        below = subst (AreBelow 0) (sym same) end.right.below;
        paragraphs =
            ap (λ ps. placed_paragraphs ps ++ u.paragraphs.items) same ∙ end.paragraphs
            ∙ ap (or_one y.attrs) (in_tree (so_far old y) s.each froms owns)
            ∙ ap (λ b. or_one b (flat_map paragraphs_in_tree s.each)) g.attrs;
        errors =
            ap (λ es. es.items) end.errors ∙ g.errors ∙ ap (λ es. es ++ flat_map part_errors s.each) start.errors;
        lines = both_lines (lines_in_place deeper width u.parts.items each) end.lines;
      }

  pub whole_items : u.items ≡ items_anew old ds (whole_shown a ds t).each
  whole_items =
      let g = from_start in
      end.items ∙ g.items ∙ ap (λ n. n + items_anew old (drop x.next ds) s.each) start.items
      ∙ ap (λ n. 0 + items_anew old (drop n ds) s.each) start.next
      ∙ omega arith

-- ---- what the value of the unit shows

map_two : {X Y Z : Type 0} (f : X → Y) (g : Y → Z) (xs : List X) → map (λ x. g (f x)) xs ≡ map g (map f xs)
map_two f g [] = refl
map_two f g (x ∷ xs) = ap (λ ys. g (f x) ∷ ys) (map_two f g xs)

-- the laws of what the parts of a tree show, at one trace of it
pub record ShownBy (a : Attrs) (v : WideValue) (s : PartsShown) (vs : List PartValue) : Type 0 where
  pub each : map own_value s.each ≡ vs
  pub paragraphs : shown_paragraphs a v ≡ paragraphs_by_parts s
  pub errors : (show a v).errors ≡ errors_by_parts s

pub shown_by : (a : Attrs) (v : WideValue) (ds : List DonePart) (ps : List Stored) (t : WideTree) →
    map own_value (tree_shown MOST_LEVELS a ps t).each ≡ kept_values ps →
    shown_paragraphs a v ≡ paragraphs_by_parts (tree_shown MOST_LEVELS a ps t) →
    (show a v).errors ≡ errors_by_parts (tree_shown MOST_LEVELS a ps t) →
    kept_values ps ≡ map done_value ds → ShownBy a v (whole_shown a ds t) (map done_value ds)
shown_by a v ds ps t each paragraphs errors same =
    subst (λ (vs : List PartValue). ShownBy a v (parts_shown MOST_LEVELS (λ b. b) a vs t) vs) same
    (record { each = each; paragraphs = paragraphs; errors = errors })

pub shows_value : (width : ℕ) (a : Attrs) (v : WideValue) (ds : List DonePart) (t : WideTree) (w : LaidUnit) →
    IsLaidUnit width (whole_shown a ds t) w → ShownBy a v (whole_shown a ds t) (map done_value ds) →
    ShowsValue width a v ds w
shows_value width a v ds t w u h =
    let qs = (whole_shown a ds t).each in
    let laid = w.parts.items in
    record {
      paths =
          map_two laid_from (λ (f : LaidFrom). f.path) laid
          ∙ ap (map (λ (f : LaidFrom). f.path)) u.parts
          ∙ sym (map_two shown_from (λ (f : LaidFrom). f.path) qs)
          ∙ map_two own_value (λ (q : PartValue). q.path) qs
          ∙ ap (map (λ (q : PartValue). q.path)) h.each
          ∙ sym (map_two done_value (λ (q : PartValue). q.path) ds);
      values =
          map_two laid_from (λ (f : LaidFrom). f.value) laid
          ∙ ap (map (λ (f : LaidFrom). f.value)) u.parts
          ∙ sym (map_two shown_from (λ (f : LaidFrom). f.value) qs)
          ∙ map_two own_value (λ (q : PartValue). q.value) qs
          ∙ ap (map (λ (q : PartValue). q.value)) h.each
          ∙ sym (map_two done_value (λ (q : PartValue). q.value) ds);
      paragraphs = u.paragraphs ∙ sym h.paragraphs;
      errors = u.errors ∙ sym h.errors;
      lines = u.lines;
    }
