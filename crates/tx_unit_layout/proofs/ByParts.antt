-- A unit that is laid out by its parts.
use Rattle.std.proofs.Common.{◌≡◌, ℕ, ◌≤◌, List, [], ◌++◌, map, length, ap, ap₂, sym, ◌∙◌, subst, arith}
use Rattle.std.proofs.lemmas.Simd.{map-map}
use Rattle.std.specs.Prelude.{true, ◌&&◌, is_some, if◌then◌else◌, Option, Some, None}
use Rattle.std.specs.List.{All, IsDistinct}
use Rattle.std.specs.Str.{bytes_eq}
use Rattle.tx_tree.specs.WideTree.{size_of}
use Rattle.tx_origin.specs.Values.{WideValue, plain}
use Rattle.tx_exec_form.specs.declared.TheConstants.{MOST_LEVELS}
use Rattle.tx_exec_form.specs.Evaluated.{WideTrace}
use Rattle.tx_walk.specs.declared.part.Part.{Part as DonePart}
use Rattle.tx_walk.specs.Walked.{paths_of}
use Rattle.tx_units.specs.declared.kinds.Unit.{Unit as DocUnit}
use Rattle.tx_items.specs.declared.attributes.Attrs.{Attrs}
use Rattle.tx_items.specs.declared.drawing.ErrorAt.{ErrorAt}
use Rattle.tx_items.specs.declared.drawing.Paragraph.{Paragraph}
use Rattle.tx_items.specs.Shows.{show, shown_paragraphs}
use Rattle.tx_layout.specs.declared.layout.Line.{Line}
use Rattle.tx_view_form.specs.Positions.{IsShort}
use Rattle.tx_view_form.specs.Views.{AreLines, paragraphs_at}
use Rattle.tx_view_form.specs.Weights.{weight_of}
use Rattle.tx_part_items.specs.ShownParts.{ShownPart, PartValue, parts_shown}
use Rattle.tx_part_layout.specs.declared.laid.PlacedPart.{PlacedPart}
use Rattle.tx_part_layout.specs.declared.laid.LaidUnit.{LaidUnit}
use Rattle.tx_part_layout.specs.LaidParts.{LaidFrom, laid_from, shown_from, laid_paths, whole_shown, items_in}
use Rattle.tx_part_layout.specs.LaidParts.{items_anew as part_items_anew, IsLaidUnit, ShowsValue}
use Rattle.tx_part_layout.specs.LaidParts.{placed_paragraphs, placed_lines, AreBelow}
use Rattle.tx_bridge.specs.Entries.{Entry}
use Rattle.tx_bridge.specs.HeldParts.{kept_parts, flags_of_parts}
use Rattle.tx_bridge.specs.PartsKept.{has_parts}
use Rattle.tx_unit_layout.specs.LaidAts.{LaidAt, laid_at, laid_ats, shown_at, shown_parts_of, is_by_parts}
use Rattle.tx_unit_layout.specs.LaidAts.{items_by_parts, unit_items_anew}
use Rattle.tx_unit_layout.specs.LaidUnits.{IsLaidOut, AreOf, AreLaidParts}
use Rattle.tx_unit_layout.specs.Views.{unit_view, IsReadable}
use Rattle.tx_unit_layout.specs.declared.shown.Shown.{Shown}
use Rattle.tx_unit_layout.proofs.DoneParts.{values_are}
use Rattle.tx_unit_layout.proofs.Renewed.{are_of, laid_parts}
use Rattle.tx_unit_layout.proofs.Reusing.{anew_alike, anew_within, at_some}

-- what the parts show, by what is cached of them
parts_are : (a : Attrs) (e : Entry) (ds : List DonePart)
    → shown_parts_of a e (kept_parts ds) ≡ (whole_shown a ds e.unit.tagged.tree).each
parts_are a e ds =
    ap (λ (vs : List PartValue). (parts_shown MOST_LEVELS (λ b. b) a vs e.unit.tagged.tree).each) (values_are ds)

abbrev from_at : LaidFrom → LaidAt
from_at f = record { path = f.path; before = f.before }

-- the laid parts are of what these show
ats_are : (ps : List PlacedPart) (qs : List ShownPart) → map laid_from ps ≡ map shown_from qs
    → map laid_at ps ≡ map shown_at qs
ats_are ps qs h = sym (map-map from_at laid_from ps) ∙ ap (map from_at) h ∙ map-map from_at shown_from qs

paths_are : (ps : List PlacedPart) (qs : List ShownPart) → map laid_from ps ≡ map shown_from qs
    → laid_paths ps ≡ map (λ q. q.path) qs
paths_are ps qs h =
    sym (map-map (λ (f : LaidFrom). f.path) laid_from ps) ∙ ap (map (λ (f : LaidFrom). f.path)) h
    ∙ map-map (λ (f : LaidFrom). f.path) shown_from qs

laid_ats_are : (a : Attrs) (e : Entry) (ds : List DonePart) (ps : List PlacedPart) → is_by_parts e ≡ true
    → map laid_from ps ≡ map shown_from (whole_shown a ds e.unit.tagged.tree).each
    → map laid_at ps ≡ laid_ats a e (kept_parts ds)
laid_ats_are a e ds ps by h =
    ats_are ps (whole_shown a ds e.unit.tagged.tree).each h
    ∙ ap (map shown_at) (sym (parts_are a e ds))
    ∙ sym (ap (λ b. if b then map shown_at (shown_parts_of a e (kept_parts ds)) else []) by)

-- ---- what is shown

-- this is shown of a unit with this path that has this layout
pub record IsMade (path : Option (List ℕ)) (l : LaidUnit) (x : Shown) : Type 0 where
  pub path_is : x.path ≡ path
  pub errors : x.errors.items ≡ l.errors.items
  pub paragraphs : x.paragraphs.items ≡ l.paragraphs.items
  pub lines : x.lines ≡ l.lines
  pub parts : x.parts ≡ l.parts.items

-- laws, as the calls state them
abbrev pub AllLined : Type 0
AllLined = (width : ℕ) (ps : List Paragraph) (lines : List Line) → AreLines width ps lines → length lines ≤ weight_of ps

abbrev pub AllFewErrors : Type 0
AllFewErrors = (a : Attrs) (v : WideValue) → length (show a v).errors ≤ size_of (plain v)

abbrev pub AllShort : Type 0
AllShort = (width : ℕ) (ps : List Paragraph) (lines : List Line) → AreLines width ps lines
    → All (λ p. All IsShort p.items) ps → All (λ line. All IsShort line.items) lines

module _ (width : ℕ) (a : Attrs) (u : DocUnit) (trace : WideTrace) (ds : List DonePart) (l : LaidUnit)
    (body : has_parts u ≡ true) (laid : IsLaidUnit width (whole_shown a ds u.tagged.tree) l)
    (shows : ShowsValue width a trace.value ds l) where
  abbrev e : Entry
  e = record { unit = u; trace = Some trace }

  has_path : is_some u.path ≡ true
  has_path = body

  by_parts : is_by_parts e ≡ true
  by_parts = ap (λ b. b && true) body

  shown_paths : map (λ p. p.path) (whole_shown a ds u.tagged.tree).each ≡ map (λ d. d.path) ds
  shown_paths = sym (paths_are l.parts.items (whole_shown a ds u.tagged.tree).each laid.parts) ∙ shows.paths

  module _ (x : Shown) (is : IsMade u.path l x) where
    x_paragraphs : (unit_view x).paragraphs ≡ placed_paragraphs l.parts.items ++ l.paragraphs.items
    x_paragraphs = ap₂ (λ ps own. placed_paragraphs ps ++ own) is.parts is.paragraphs

    x_lines : AreLines width (unit_view x).paragraphs (unit_view x).lines
    x_lines =
        subst (λ (ls : List Line). AreLines width (unit_view x).paragraphs ls)
        (sym (ap₂ (λ ps own. placed_lines ps ++ own) is.parts is.lines))
        (subst (λ (ps : List Paragraph). AreLines width ps (placed_lines l.parts.items ++ l.lines)) (sym x_paragraphs)
        shows.lines)

    -- it is laid out as its value shows
    pub out_by_parts : AllLined → AllFewErrors → IsLaidOut width a trace.value u.path x
    out_by_parts lined errors =
        let weight : weight_of (unit_view x).paragraphs ≡ weight_of (shown_paragraphs a trace.value) =
        ap weight_of (x_paragraphs ∙ shows.paragraphs) in
        let lines : length (unit_view x).lines ≤ weight_of (unit_view x).paragraphs =
        lined width (unit_view x).paragraphs (unit_view x).lines x_lines in
        let count : length x.errors.items ≡ length (show a trace.value).errors =
        ap (λ (es : List ErrorAt). length es) (is.errors ∙ shows.errors) in
        let few : length (show a trace.value).errors ≤ size_of (plain trace.value) = errors a trace.value in
        record {
          shown = record {
            path_is = is.path_is;
            errors = is.errors ∙ shows.errors;
            paragraphs = x_paragraphs ∙ shows.paragraphs ∙ sym (at_some u.path a trace.value has_path);
            lines = x_lines;
          };
          few_lines = omega (arith, weight, lines);
          few_errors = omega (arith, count, few);
        }

    pub readable_by_parts : AllShort → All (λ p. All IsShort p.items) (shown_paragraphs a trace.value) → IsReadable x
    readable_by_parts short items =
        let own : All (λ p. All IsShort p.items) (unit_view x).paragraphs =
        subst (λ (ps : List Paragraph). All (λ p. All IsShort p.items) ps) (sym (x_paragraphs ∙ shows.paragraphs))
        items in
        record {
          placed = λ none.
              pathless x.path (unit_view x).lines none (ap (λ (p : Option (List ℕ)). is_some p) is.path_is ∙ has_path);
          short = short width (unit_view x).paragraphs (unit_view x).lines x_lines own;
          short_items = own;
          below = λ b for. subst (AreBelow 0) (sym is.parts) laid.below;
        }
      where
        pathless : (path : Option (List ℕ)) (ls : List Line) → path ≡ None → is_some path ≡ true → ls ≡ []
        pathless None ls none h = cc
        pathless (Some p) ls none h = cc

    -- the paths of its parts and the attributes for which they are laid out
    pub ats_by_parts : map laid_at x.parts ≡ laid_ats a e (kept_parts ds)
    ats_by_parts = ap (map laid_at) is.parts ∙ laid_ats_are a e ds l.parts.items by_parts laid.parts

    pub of_by_parts : AreOf (kept_parts ds) x.parts
    of_by_parts = subst (AreOf (kept_parts ds)) (sym is.parts) (are_of l.parts.items ds shows.paths shows.values)

    pub parts_by_parts : IsDistinct bytes_eq (paths_of ds) → AreLaidParts width (kept_parts ds) x.parts
    parts_by_parts distinct =
        subst (AreLaidParts width (kept_parts ds)) (sym is.parts)
        (laid_parts width l.parts.items ds laid.each distinct shows.paths shows.values)

  -- ---- how many items are laid out

  module _ (was old : List PlacedPart) (same : was ≡ old) (n : ℕ)
      (is : n ≡ part_items_anew was ds (whole_shown a ds u.tagged.tree).each) where
    anew_is : n ≡ items_by_parts (map laid_at old) (flags_of_parts ds) (whole_shown a ds u.tagged.tree).each
    anew_is =
        is
        ∙ ap (λ ps. part_items_anew ps ds (whole_shown a ds u.tagged.tree).each) same
        ∙ anew_alike old ds (whole_shown a ds u.tagged.tree).each shown_paths

    pub items_anew_is : n ≡ unit_items_anew a e (kept_parts ds) (flags_of_parts ds) (map laid_at old)
    items_anew_is =
        anew_is
        ∙ ap (items_by_parts (map laid_at old) (flags_of_parts ds)) (sym (parts_are a e ds))
        ∙ sym (ap (λ b. if b
        then items_by_parts (map laid_at old) (flags_of_parts ds) (shown_parts_of a e (kept_parts ds))
        else items_in (paragraphs_at u.path a trace.value)) by_parts)

    pub items_within : n ≤ items_in (paragraphs_at u.path a trace.value)
    items_within =
        anew_within (map laid_at old) (flags_of_parts ds) (whole_shown a ds u.tagged.tree) u.path a trace.value n
        anew_is has_path (sym shows.paragraphs ∙ laid.paragraphs)
