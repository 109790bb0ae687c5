-- A unit that is laid out, with what is cached of it.
use Rattle.std.specs.Prelude.{◌≡◌, ℕ, ◌≤◌, ◌⊎◌, Bool, false, List, [], ◌∷◌, map, length, Option, Some, slice_get}
use Rattle.std.specs.List.{All, IsDistinct}
use Rattle.std.specs.Str.{bytes_eq}
use Rattle.tx_tree.specs.WideTree.{size_of}
use Rattle.tx_origin.specs.Values.{WideValue, plain}
use Rattle.tx_exec_form.specs.Evaluated.{WideTrace}
use Rattle.tx_parts.specs.Parts.{Stored}
use Rattle.tx_items.specs.declared.attributes.Attrs.{Attrs}
use Rattle.tx_items.specs.Shows.{shown_paragraphs}
use Rattle.tx_view_form.specs.Outcomes.{unit_value}
use Rattle.tx_view_form.specs.Views.{IsShown}
use Rattle.tx_view_form.specs.Weights.{weight_of}
use Rattle.tx_part_layout.specs.declared.laid.PlacedPart.{PlacedPart}
use Rattle.tx_part_layout.specs.LaidParts.{IsLaidPart, laid_paths}
use Rattle.tx_bridge.specs.Entries.{Entry}
use Rattle.tx_bridge.specs.PartsKept.{KeptParts, kept_at}
use Rattle.tx_unit_layout.specs.LaidAts.{laid_at, laid_ats}
use Rattle.tx_unit_layout.specs.Views.{unit_view}
use Rattle.tx_unit_layout.specs.declared.shown.Shown.{Shown}

-- this is shown of a unit with this path, where these are the attributes before it and this is its value
pub record IsLaidOut (width : ℕ) (a : Attrs) (v : WideValue) (path : Option (List ℕ)) (x : Shown) : Type 0 where
  pub shown : IsShown width a v path (unit_view x)
  pub few_lines : length (unit_view x).lines ≤ weight_of (shown_paragraphs a v)
  pub few_errors : length x.errors.items ≤ size_of (plain v)

-- ---- parts

-- the layout of a part is of the trace that is cached of it
pub record IsLaidOfKept (k : Stored) (p : PlacedPart) : Type 0 where
  pub path : p.path ≡ k.path
  pub trace : WideTrace
  pub kept : k.trace ≡ Some trace
  pub value : p.laid.value.value ≡ trace.value

-- the layouts are those of all cached parts, in order
abbrev pub AreOf : KeptParts → List PlacedPart → Type 0
AreOf [] [] = Unit {0}
AreOf [] (p ∷ ps) = ⊥
AreOf (k ∷ ks) [] = ⊥
AreOf (k ∷ ks) (p ∷ ps) = IsLaidOfKept k p × AreOf ks ps

-- No part has a layout, or each cached part has one, in their order. No two have one path.
pub record AreLaidParts (width : ℕ) (ks : KeptParts) (ps : List PlacedPart) : Type 0 where
  pub each : All (λ p. IsLaidPart width p.laid.value) ps
  pub distinct : IsDistinct bytes_eq (laid_paths ps)
  pub of_kept : (ps ≡ []) ⊎ AreOf ks ps

-- What is cached now of a part whose flag is down was held at its path.
abbrev pub Stays : KeptParts → KeptParts → List Bool → Type 0
Stays held ks fs = (k : ℕ) (s : Stored) → slice_get ks k ≡ Some s → slice_get fs k ≡ Some false
    → kept_at held s.path ≡ s.trace

-- ---- a unit

-- What is shown has the unit's path. Where the unit is laid out for some attributes, it shows what its trace shows
-- after these, each of its parts is laid out for the attributes before it, and the layouts are those of the cached
-- parts. In any case, the layout of a part is of what was held of it.
pub record IsLaid (width : ℕ) (e : Entry) (ks held : KeptParts) (x : Shown) : Type 0 where
  pub path : x.path ≡ e.unit.path
  pub laid : (a : Attrs) → x.laid ≡ Some a → IsLaidOut width a (unit_value e.trace) e.unit.path x
  pub by_parts : (a : Attrs) → x.laid ≡ Some a → map laid_at x.parts ≡ laid_ats a e ks
  pub of_kept : (a : Attrs) → x.laid ≡ Some a → AreOf ks x.parts
  pub same : (a : Attrs) → x.laid ≡ Some a → ks ≡ held
  pub parts : AreLaidParts width held x.parts

-- It was laid out with some parts that were held. What is cached now of the parts without a flag is what was held.
pub record WasLaid (width : ℕ) (e : Entry) (ks : KeptParts) (fs : List Bool) (x : Shown) : Type 0 where
  pub held : KeptParts
  pub stays : Stays held ks fs
  pub laid : IsLaid width e ks held x
