-- Which parts are laid out anew, and how many items they have at most.
use Rattle.std.proofs.Common.{◌≡◌, ℕ, ◌+◌, ◌≤◌, List, [], ◌∷◌, map, length, refl, ap, sym, ◌∙◌, arith}
use Rattle.std.specs.Prelude.{Bool, true, false, not, ◌&&◌, if◌then◌else◌, Option, Some, None, is_some}
use Rattle.std.specs.List.{flat_map}
use Rattle.std.specs.Str.{bytes_eq}
use Rattle.std.proofs.lemmas.List.{length-map}
use Rattle.std.proofs.lemmas.List.Sums.{sum_by-cons, sum_by-append}
use Rattle.tx_origin.specs.Values.{WideValue}
use Rattle.tx_items.specs.declared.attributes.Attrs.{Attrs}
use Rattle.tx_items.specs.declared.drawing.Paragraph.{Paragraph}
use Rattle.tx_items.specs.Shows.{or_one, shown_paragraphs}
use Rattle.tx_view_form.specs.Views.{paragraphs_at}
use Rattle.tx_walk.specs.declared.part.Part.{Part as DonePart}
use Rattle.tx_part_items.specs.ItemsUnder.{item_under, paragraph_under}
use Rattle.tx_part_items.specs.ShownParts.{ShownPart, own_paragraphs, paragraphs_in_tree}
use Rattle.tx_part_items.specs.ShownParts.{PartsShown, paragraphs_by_parts}
use Rattle.tx_part_layout.specs.declared.laid.PlacedPart.{PlacedPart}
use Rattle.tx_part_layout.specs.LaidParts.{before_at, is_before, items_in, items_anew}
use Rattle.tx_unit_layout.specs.LaidAts.{LaidAt, laid_at, laid_before, stays_laid, items_by_parts}
use Rattle.tx_unit_layout.proofs.Heads.{first_same, others_same}

-- ---- which parts

before_alike : (old : List PlacedPart) (path : List ℕ) → laid_before (map laid_at old) path ≡ before_at old path
before_alike [] path = refl
before_alike (p ∷ ps) path =
    ap (λ o. if bytes_eq p.path path then Some p.laid.value.before else o) (before_alike ps path)

-- so many items, where shown parts are at the paths of the parts
pub anew_alike : (old : List PlacedPart) (ds : List DonePart) (ps : List ShownPart)
    → map (λ p. p.path) ps ≡ map (λ d. d.path) ds
    → items_anew old ds ps ≡ items_by_parts (map laid_at old) (map (λ d. d.renewed) ds) ps
anew_alike old [] ps h = refl
anew_alike old (d ∷ ds) [] h = refl
anew_alike old (d ∷ ds) (p ∷ ps) h =
    ap (λ n. (if not d.renewed && is_before (before_at old d.path) p.before then 0 else items_in (own_paragraphs p))
    + n)
    (anew_alike old ds ps
    (others_same p.path d.path (map (λ q. q.path) ps) (map (λ q. q.path) ds) h))
    ∙ ap (λ o. (if not d.renewed && is_before o p.before then 0 else items_in (own_paragraphs p))
    + items_by_parts (map laid_at old) (map (λ d. d.renewed) ds) ps)
    (sym (before_alike old d.path) ∙ ap (laid_before (map laid_at old)) (sym
    (first_same p.path d.path (map (λ q. q.path) ps) (map (λ q. q.path) ds) h)))

-- ---- how many items

items_under : (base : List ℕ) (ps : List Paragraph) → items_in (map (paragraph_under base) ps) ≡ items_in ps
items_under base [] = refl
items_under base (p ∷ ps) =
    sum_by-cons (λ (q : Paragraph). length q.items) (paragraph_under base p) (map (paragraph_under base) ps)
    ∙ ap (λ n. n + items_in (map (paragraph_under base) ps)) (length-map p.items (item_under base))
    ∙ ap (λ n. length p.items + n) (items_under base ps)
    ∙ sym (sum_by-cons (λ (q : Paragraph). length q.items) p ps)

one_most : (b : Bool) (n : ℕ) → (if b then 0 else n) ≤ n
one_most true n = omega arith
one_most false n = omega arith

anew_most : (ls : List LaidAt) (fs : List Bool) (ps : List ShownPart)
    → items_by_parts ls fs ps ≤ items_in (flat_map paragraphs_in_tree ps)
anew_most ls [] ps = omega arith
anew_most ls (f ∷ fs) [] = omega arith
anew_most ls (f ∷ fs) (p ∷ ps) =
    let own : (if stays_laid ls f p then 0 else items_in (own_paragraphs p)) ≤ items_in (own_paragraphs p) =
    one_most (stays_laid ls f p) (items_in (own_paragraphs p)) in
    let under : items_in (paragraphs_in_tree p) ≡ items_in (own_paragraphs p) =
    items_under p.path (own_paragraphs p) in
    let all : items_in (flat_map paragraphs_in_tree (p ∷ ps))
    ≡ items_in (paragraphs_in_tree p) + items_in (flat_map paragraphs_in_tree ps) =
    sum_by-append (λ (q : Paragraph). length q.items) (paragraphs_in_tree p) (flat_map paragraphs_in_tree ps) in
    let others : items_by_parts ls fs ps ≤ items_in (flat_map paragraphs_in_tree ps) = anew_most ls fs ps in
    omega (arith, own, under, all, others)

or_one_most : (end : Attrs) (ps : List Paragraph) → items_in ps ≤ items_in (or_one end ps)
or_one_most end [] = omega arith
or_one_most end (p ∷ ps) = omega arith

pub at_some : (path : Option (List ℕ)) (a : Attrs) (v : WideValue) → is_some path ≡ true
    → paragraphs_at path a v ≡ shown_paragraphs a v
at_some None a v h = cc
at_some (Some p) a v h = refl

-- the items that are laid out anew are at most those of all paragraphs of the unit
pub anew_within : (ls : List LaidAt) (fs : List Bool) (s : PartsShown) (path : Option (List ℕ)) (a : Attrs)
    (v : WideValue) (n : ℕ) → n ≡ items_by_parts ls fs s.each → is_some path ≡ true
    → shown_paragraphs a v ≡ paragraphs_by_parts s → n ≤ items_in (paragraphs_at path a v)
anew_within ls fs s path a v n is placed shown =
    let some : items_by_parts ls fs s.each ≤ items_in (flat_map paragraphs_in_tree s.each) =
    anew_most ls fs s.each in
    let one : items_in (flat_map paragraphs_in_tree s.each) ≤ items_in (paragraphs_by_parts s) =
    or_one_most s.after (flat_map paragraphs_in_tree s.each) in
    let same : items_in (paragraphs_at path a v) ≡ items_in (paragraphs_by_parts s) =
    ap items_in (at_some path a v placed ∙ shown) in
    omega (arith, some, one, same, is)
