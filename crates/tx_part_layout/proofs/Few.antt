-- How many items and lines parts have.
use Rattle.std.proofs.Common.{◌≡◌, ℕ, ◌+◌, ◌<◌, List, [], ◌∷◌, length, take, get_or, ap, ◌∙◌, refl, sym}
use Rattle.std.proofs.Common.{arith, length-append}
use Rattle.std.specs.Prelude.{◌≤◌, ◌*◌}
use Rattle.std.specs.List.{flat_map, All}
use Rattle.std.proofs.lemmas.List.{append-nil}
use Rattle.std.proofs.lemmas.List.Elements.{All-nil, All-cons}
use Rattle.std.proofs.lemmas.List.Sums.{sum_by_more, sum_by-cons}
use Rattle.tx_origin.specs.Values.{WideValue}
use Rattle.tx_items.specs.declared.attributes.Attrs.{Attrs}
use Rattle.tx_items.specs.declared.drawing.Paragraph.{Paragraph}
use Rattle.tx_items.specs.Shows.{Form, inline, listed, empty, begun}
use Rattle.tx_items.specs.Shows.{show, part_paragraphs, unit_paragraphs, shown_paragraphs}
use Rattle.tx_layout.specs.declared.layout.Line.{Line}
use Rattle.tx_view_form.specs.Views.{AreLines}
use Rattle.tx_view_form.specs.Weights.{weight_of}
use Rattle.tx_part_layout.specs.declared.laid.LaidPart.{LaidPart}
use Rattle.tx_part_layout.specs.LaidParts.{IsLaidPart, items_in}

-- the items of one paragraph more
pub items_next : (ps : List Paragraph) (i : ℕ) (p : Paragraph) → i < length ps → p ≡ get_or ps i p
    → items_in (take (i + 1) ps) ≡ items_in (take i ps) + length p.items
items_next ps i p lt is =
    sum_by_more (λ q. length q.items) ps i p lt ∙ ap (λ q. items_in (take i ps) + length q.items) (sym is)

items_then : (p : Paragraph) (ps : List Paragraph) → items_in (p ∷ ps) ≡ length p.items + items_in ps
items_then p ps = sum_by-cons (λ q. length q.items) p ps

items_length : (ps : List Paragraph) → items_in ps ≡ length (flat_map (λ p. p.items) ps)
items_length [] = refl
items_length (p ∷ ps) =
    omega (arith, items_then p ps, items_length ps, length-append p.items (flat_map (λ q. q.items) ps))

pub each_few : (ps : List Paragraph) (n : ℕ) → items_in ps < n → All (λ p. length p.items < n) ps
each_few [] n h = All-nil (λ p. length p.items < n)
each_few (p ∷ ps) n h =
    All-cons (λ q. length q.items < n) p ps (omega (arith, items_then p ps, h))
    (each_few ps n (omega (arith, items_then p ps, h)))

-- ---- a part beside a unit with its value

-- it has the same items, whatever its attributes as a paragraph without one are
same_items : (x : Form) (end after : Attrs) → items_in (part_paragraphs x end) ≡ items_in (unit_paragraphs x after)
same_items (inline empty) end after = refl
same_items (inline (begun a items)) end after = refl
same_items (listed []) end after = refl
same_items (listed (p ∷ ps)) end after = ap items_in (append-nil (p ∷ ps))

-- it weighs no more
most_weight : (x : Form) (end after : Attrs) →
    weight_of (part_paragraphs x end) ≤ weight_of (unit_paragraphs x after)
most_weight (inline empty) end after = omega arith
most_weight (inline (begun a items)) end after = omega arith
most_weight (listed []) end after = omega arith
most_weight (listed (p ∷ ps)) end after =
    let same : weight_of (part_paragraphs (listed (p ∷ ps)) end) ≡ weight_of (p ∷ ps) =
    ap weight_of (append-nil (p ∷ ps)) in omega (arith, same)

pub few_items : (a end : Attrs) (v : WideValue) (n : ℕ) → ((ps : List Paragraph) →
    length (flat_map (λ p. p.items) ps) ≤ weight_of ps) → weight_of (shown_paragraphs a v) ≤ 242 * n → n ≤ 1000000 →
    items_in (part_paragraphs (show a v).form end) ≤ 242000000
few_items a end v n counted w small =
    omega (
      arith,
      same_items (show a v).form end (show a v).after,
      items_length (shown_paragraphs a v),
      counted (shown_paragraphs a v),
      w,
      small,
    )

pub few_lines : (width n : ℕ) (p : LaidPart) → IsLaidPart width p → ((width : ℕ) (ps : List Paragraph)
    (lines : List Line) → AreLines width ps lines → length lines ≤ weight_of ps) →
    weight_of (shown_paragraphs p.before p.value) ≤ 242 * n → n ≤ 1000000 → length p.lines ≤ 242000000
few_lines width n p h counted w small =
    let lines = counted width p.paragraphs.items p.lines h.lines in
    let same = ap weight_of h.paragraphs in
    let most = most_weight (show p.before p.value).form h.end (show p.before p.value).after in
    omega (arith, lines, same, most, w, small)
