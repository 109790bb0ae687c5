-- What the parts of a tree show, each by itself.
use Rattle.std.specs.Prelude.{ℕ, zero, suc, List, [], ◌∷◌, ◌++◌, map, Option, Some}
use Rattle.std.specs.List.{flat_map, filter_map}
use Rattle.std.specs.Option.{option_map}
use Rattle.tx_tree.specs.WideTree.{WideTree}
use Rattle.tx_origin.specs.Values.{WideValue}
use Rattle.tx_parts.specs.Openness.{Settings, Openness, Document, With, Shut, openness}
use Rattle.tx_parts.specs.Parts.{Stored}
use Rattle.tx_items.specs.declared.attributes.Attrs.{Attrs}
use Rattle.tx_items.specs.declared.drawing.Paragraph.{Paragraph}
use Rattle.tx_items.specs.declared.drawing.ErrorAt.{ErrorAt}
use Rattle.tx_items.specs.Attributes.{attribute_named, with_named, given_back}
use Rattle.tx_items.specs.Shows.{Shown, show, or_one, part_paragraphs}
use Rattle.tx_part_items.specs.ItemsUnder.{paragraph_under}

-- ---- values of parts

-- a part's path, and its value alone
pub record PartValue : Type 0 where
  pub path : List ℕ
  pub value : WideValue

-- the path and the value of a part that has a trace
abbrev pub kept_value : Stored → Option PartValue
kept_value p = option_map (λ trace. record { path = p.path; value = trace.value }) p.trace

abbrev pub kept_values : List Stored → List PartValue
kept_values ps = filter_map kept_value ps

-- ---- what a part shows

-- its path and its value, the attributes before it, and those that it has as a paragraph without an item
pub record ShownPart : Type 0 where
  pub path : List ℕ
  pub value : WideValue
  pub before : Attrs
  pub end : Attrs

abbrev pub own_value : ShownPart → PartValue
own_value p = record { path = p.path; value = p.value }

abbrev pub show_part : ShownPart → Shown
show_part p = show p.before p.value

-- In a line it is one paragraph, also without an item.
abbrev pub own_paragraphs : ShownPart → List Paragraph
own_paragraphs p = part_paragraphs (show_part p).form p.end

-- with their origins in the tree
abbrev pub paragraphs_in_tree : ShownPart → List Paragraph
paragraphs_in_tree p = map (paragraph_under p.path) (own_paragraphs p)

abbrev pub part_errors : ShownPart → List ErrorAt
part_errors p = (show_part p).errors

-- ---- what the parts of a tree show

-- the parts, the attributes after them, and the values that are left
pub record PartsShown : Type 0 where
  pub each : List ShownPart
  pub after : Attrs
  pub left : List PartValue

-- the attributes that settings set
abbrev pub settings_set : Settings → Attrs → Attrs
settings_set [] a = a
settings_set (p ∷ ps) a = settings_set ps (with_named (attribute_named p.0) (Some p.1) a)

-- those that they name are again what they were before
abbrev pub settings_given_back : Settings → Attrs → Attrs → Attrs
settings_given_back [] before a = a
settings_given_back (p ∷ ps) before a = given_back (attribute_named p.0) before (settings_given_back ps before a)

-- What the parts of a tree show, by what the `with`s round it give back at the end of a paragraph, by the attributes
-- before it, and by values of which the first are those of its parts.
abbrev pub Shower : Type 0
Shower = (Attrs → Attrs) → Attrs → List PartValue → WideTree → PartsShown

-- a tree that isn't open is one part
abbrev pub shut_shown : Shower
shut_shown back a [] t = record { each = []; after = a; left = [] }
shut_shown back a (p ∷ ps) t = record {
  each = record { path = p.path; value = p.value; before = a; end = back (show a p.value).after } ∷ [];
  after = (show a p.value).after;
  left = ps;
}

-- children in order; a paragraph ends within the child
abbrev pub children_shown : Shower → Attrs → List PartValue → List WideTree → PartsShown
children_shown shower a ps [] = record { each = []; after = a; left = ps }
children_shown shower a ps (t ∷ ts) =
    let first = shower (λ b. b) a ps t in
    let others = children_shown shower first.after first.left ts in
    record { each = first.each ++ others.each; after = others.after; left = others.left }

abbrev pub shown_as : Openness → Shower → Shower
shown_as (Document ts) shower back a ps t = children_shown shower a ps ts
shown_as (With settings b) shower back a ps t =
    let inner = shower (λ c. back (settings_given_back settings a c)) (settings_set settings a) ps b in
    record inner { after = settings_given_back settings a inner.after }
shown_as Shut shower back a ps t = shut_shown back a ps t

-- what the parts of a tree show, with k levels
unfoldable pub parts_shown : ℕ → Shower
parts_shown zero back a ps t = record { each = []; after = a; left = ps }
parts_shown (suc k) back a ps t = shown_as (openness t) (parts_shown k) back a ps t

-- ---- a whole tree

-- no `with` is round it
abbrev pub tree_shown : ℕ → Attrs → List Stored → WideTree → PartsShown
tree_shown k a ps t = parts_shown k (λ b. b) a (kept_values ps) t

-- Where no part has a paragraph, there is an empty one.
abbrev pub paragraphs_by_parts : PartsShown → List Paragraph
paragraphs_by_parts s = or_one s.after (flat_map paragraphs_in_tree s.each)

abbrev pub errors_by_parts : PartsShown → List ErrorAt
errors_by_parts s = flat_map part_errors s.each
