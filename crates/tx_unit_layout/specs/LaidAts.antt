-- Where the parts of a unit are laid out, for which attributes, and how many items laying the unit out anew takes.
use Rattle.std.specs.Prelude.{ℕ, ◌+◌, Bool, not, ◌&&◌, is_some, if◌then◌else◌, List, [], ◌∷◌, map}
use Rattle.std.specs.Prelude.{Option, Some, None, refl}
use Rattle.std.specs.Coded.{Coded, code_by, coded×, coded_list, coded_ℕ}
use Rattle.std.specs.Str.{bytes_eq}
use Rattle.tx_exec_form.specs.declared.TheConstants.{MOST_LEVELS}
use Rattle.tx_items.specs.contracts.attributes.Attrs as one_attrs
use Rattle.tx_items.specs.declared.attributes.Attrs.{Attrs}
use Rattle.tx_view_form.specs.Outcomes.{unit_value}
use Rattle.tx_view_form.specs.Views.{paragraphs_at}
use Rattle.tx_part_items.specs.ShownParts.{ShownPart, own_paragraphs, tree_shown}
use Rattle.tx_part_layout.specs.declared.laid.PlacedPart.{PlacedPart}
use Rattle.tx_part_layout.specs.LaidParts.{is_before, items_in}
use Rattle.tx_bridge.specs.Entries.{Entry}
use Rattle.tx_bridge.specs.PartsKept.{KeptParts, has_parts}

-- where a part is in its unit, and the attributes before it for which it was laid out
pub record LaidAt : Type 0 where
  pub path : List ℕ
  pub before : Attrs

abbrev pub laid_at : PlacedPart → LaidAt
laid_at p = record { path = p.path; before = p.laid.value.before }

abbrev pub shown_at : ShownPart → LaidAt
shown_at p = record { path = p.path; before = p.before }

-- ---- a unit

-- a paragraph of the body that doesn't run out of steps or levels is laid out by its parts
abbrev pub is_by_parts : Entry → Bool
is_by_parts e = has_parts e.unit && is_some e.trace

-- what the parts of a unit show, where these are the attributes before it and this is cached of its parts
abbrev pub shown_parts_of : Attrs → Entry → KeptParts → List ShownPart
shown_parts_of a e ks = (tree_shown MOST_LEVELS a ks e.unit.tagged.tree).each

-- where the parts of a unit are, and the attributes before each, if it is laid out by its parts
abbrev pub laid_ats : Attrs → Entry → KeptParts → List LaidAt
laid_ats a e ks = if is_by_parts e then map shown_at (shown_parts_of a e ks) else []

-- ---- what laying out anew takes

-- the attributes before the first that was laid out at the path
abbrev pub laid_before : List LaidAt → List ℕ → Option Attrs
laid_before [] path = None
laid_before (l ∷ ls) path = if bytes_eq l.path path then Some l.before else laid_before ls path

-- the former layout of a part is used again where it has no flag and these are the attributes before it
abbrev pub stays_laid : List LaidAt → Bool → ShownPart → Bool
stays_laid ls flag p = not flag && is_before (laid_before ls p.path) p.before

-- the items of the parts that are laid out anew
abbrev pub items_by_parts : List LaidAt → List Bool → List ShownPart → ℕ
items_by_parts ls [] ps = 0
items_by_parts ls (f ∷ fs) [] = 0
items_by_parts ls (f ∷ fs) (p ∷ ps) =
    (if stays_laid ls f p then 0 else items_in (own_paragraphs p)) + items_by_parts ls fs ps

-- The items that are laid out anew of a unit after these attributes: those of the parts whose layouts aren't used
-- again, or all. These are the flags of its parts, and these are their former layouts.
abbrev pub unit_items_anew : Attrs → Entry → KeptParts → List Bool → List LaidAt → ℕ
unit_items_anew a e ks fs ls =
    if is_by_parts e then items_by_parts ls fs (shown_parts_of a e ks)
    else items_in (paragraphs_at e.unit.path a (unit_value e.trace))

-- ---- the code by which proofs tell them apart

abbrev pub coded_laid_ats : Coded (List LaidAt)
coded_laid_ats =
    coded_list (code_by (List ℕ × Attrs) (coded× (coded_list coded_ℕ) one_attrs.the_row.coded)
    (λ l. (l.path, l.before)) (λ p. record { path = p.0; before = p.1 }) (λ _. refl))
