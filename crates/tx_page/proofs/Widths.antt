-- How many cells rows of characters take.
use Rattle.std.proofs.Common.{◌≡◌, ℕ, zero, suc, ◌+◌, ◌-◌, ◌≤◌, List, [], ◌∷◌, ◌++◌, length, map}
use Rattle.std.proofs.Common.{Option, Some, None, refl, sym, ap, ◌∙◌, arith}
use Rattle.std.specs.Prelude.{All, chars, codes, encode_utf8, nat_le, ◌==◌, if◌then◌else◌}
use Rattle.std.specs.List.{flat_map}
use Rattle.std.proofs.lemmas.Bool.{cond_both, le-leb, leb-true, eqb-true, eqb-false}
use Rattle.std.proofs.lemmas.List.{length-append, length-replicate}
use Rattle.std.proofs.lemmas.List.Concat.{flat_map-append}
use Rattle.std.proofs.lemmas.List.Elements.{All-weaker}
use Rattle.std.proofs.lemmas.List.Sums.{sum_by-cons}
use Rattle.tx_items.specs.declared.drawing.Item.{Item}
use Rattle.tx_items.specs.declared.drawing.Item.TheVariants.{Glyph, Space, Chance, Gap, Break, PageEnd, Down}
use Rattle.tx_items.specs.Cells.{cells_across, item_cells}
use Rattle.tx_layout.specs.declared.layout.Line.{Line}
use Rattle.tx_terminal.specs.declared.inks.Ink.{Ink}
use Rattle.tx_terminal.specs.Inks.{plain}
use Rattle.tx_terminal.specs.Characters.{Shown, is_character}
use Rattle.tx_terminal.specs.Terminals.{Cell}
use Rattle.tx_terminal.specs.Painting.{shown_cells, row_cells}
use Rattle.tx_page.specs.Inks.{ink_of}
use Rattle.tx_page.specs.Clusters.{shown, blanks, cells_alone, narrow_first, replaced, several_characters}
use Rattle.tx_page.specs.Clusters.{cluster_characters}
use Rattle.tx_page.specs.Lines.{item_characters, line_characters, line_cells, row_width}
use Rattle.tx_page.specs.Texts.{code_cells, code_character, fitting, all_characters, text_characters}

-- ---- one character, and one after another

one : (s : Shown) → 1 ≤ s.cells → length (shown_cells s) ≡ s.cells
one s some =
    let other : Cell = record { glyphs = []; ink = s.ink } in
    let rest = length-replicate (s.cells - 1) other in
    omega (arith, rest, some)

single : (s : Shown) → 1 ≤ s.cells → row_width (s ∷ []) ≡ s.cells
single s some = length-append (shown_cells s) [] ∙ let own = one s some in omega (arith, own)

both : (a b : List Shown) → row_width (a ++ b) ≡ row_width a + row_width b
both a b = ap length (flat_map-append shown_cells a b) ∙ length-append (row_cells a) (row_cells b)

more : (s : Shown) (row : List Shown) → 1 ≤ s.cells → row_width (s ∷ row) ≡ s.cells + row_width row
more s row some = length-append (shown_cells s) (row_cells row) ∙ ap (λ n. n + row_width row) (one s some)

pub blank_cells : (n : ℕ) (ink : Ink) → row_width (blanks n ink) ≡ n
blank_cells zero ink = refl
blank_cells (suc n) ink =
    let rest = blank_cells n ink in
    more (shown (codes " ") 1 ink) (blanks n ink) (omega arith) ∙ omega (arith, rest)

-- ---- clusters and items

replaced_cells : (n : ℕ) (ink : Ink) → 1 ≤ n → row_width (replaced n ink) ≡ n
replaced_cells n ink some =
    more (shown (0xEF ∷ 0xBF ∷ 0xBD ∷ []) 1 ink) (blanks (n - 1) ink) (omega arith)
    ∙ let rest = blank_cells (n - 1) ink in omega (arith, rest, some)

several_cells : (first : Option ℕ) (n : ℕ) (ink : Ink) → 1 ≤ n → row_width (several_characters first n ink) ≡ n
several_cells None n ink some = replaced_cells n ink some
several_cells (Some code) n ink some =
    let base : Shown = shown (encode_utf8 code) 1 ink in
    cond_both (n == 1) (base ∷ []) (replaced n ink) (λ row. row_width row ≡ n)
    (λ e. single base (omega arith) ∙ sym (eqb-true n 1 e))
    (λ _. replaced_cells n ink some)

cluster_cells : (glyphs : List ℕ) (n : ℕ) (ink : Ink) → row_width (cluster_characters glyphs n ink) ≡ n
cluster_cells glyphs n ink =
    let several : List Shown = several_characters (narrow_first glyphs) n ink in
    cond_both (n == 0) [] (if is_character glyphs then shown glyphs n ink ∷ [] else several) (λ row. row_width row ≡ n)
    (λ e. sym (eqb-true n 0 e))
    (λ e. let some : 1 ≤ n = omega (arith, eqb-false n 0 e) in
    cond_both (is_character glyphs) (shown glyphs n ink ∷ []) several (λ row. row_width row ≡ n)
    (λ _. single (shown glyphs n ink) some)
    (λ _. several_cells (narrow_first glyphs) n ink some))

item_width : (item : Item) → row_width (item_characters item) ≡ item_cells item
item_width (Glyph d) = cluster_cells d.cluster.glyphs d.cluster.cells (ink_of d.look)
item_width (Space d) = cluster_cells d.cluster.glyphs d.cluster.cells (ink_of d.look)
item_width (Chance d) = refl
item_width (Gap n) = blank_cells n plain
item_width Break = refl
item_width PageEnd = refl
item_width (Down n) = refl

-- ---- lines

items_width : (items : List Item) → row_width (flat_map item_characters items) ≡ cells_across items
items_width [] = refl
items_width (item ∷ items) =
    let first = item_width item in
    let rest = items_width items in
    let all = sum_by-cons item_cells item items in
    both (item_characters item) (flat_map item_characters items) ∙ omega (arith, first, rest, all)

pub line_width : (line : Line) → row_width (line_characters line) ≡ line_cells line
line_width line =
    let before = blank_cells line.indent plain in
    let items = items_width line.items in
    both (blanks line.indent plain) (flat_map item_characters line.items) ∙ omega (arith, before, items)

pub lines_within : (width : ℕ) (lines : List Line) → All (λ line. line_cells line ≤ width) lines
    → All (λ line. row_width (line_characters line) ≤ width) lines
lines_within width lines all =
    All-weaker (λ line. line_cells line ≤ width) (λ line. row_width (line_characters line) ≤ width)
    (λ line fits. let same = line_width line in omega (arith, fits, same)) lines all

-- ---- texts

some_cells : (code : ℕ) → 1 ≤ code_cells code
some_cells code =
    cond_both (cells_alone code == 2) 2 1 (λ n. 1 ≤ n) (λ _. omega arith) (λ _. omega arith)

codes_fit : (ink : Ink) (cs : List ℕ) (width : ℕ) → row_width (fitting width (map (code_character ink) cs)) ≤ width
codes_fit ink [] width = omega arith
codes_fit ink (c ∷ cs) width =
    let first : Shown = code_character ink c in
    let rest : List Shown = fitting (width - code_cells c) (map (code_character ink) cs) in
    cond_both (nat_le (code_cells c) width) (first ∷ rest) [] (λ row. row_width row ≤ width)
    (λ e. let room = leb-true (code_cells c) width e in
    let all = more first rest (some_cells c) in
    let others = codes_fit ink cs (width - code_cells c) in
    omega (arith, room, all, others))
    (λ _. omega arith)

pub text_fits : (text : List ℕ) (width : ℕ) (ink : Ink) → row_width (text_characters text width ink) ≤ width
text_fits text width ink = codes_fit ink (chars text) width

codes_whole : (ink : Ink) (cs : List ℕ) (width : ℕ) → row_width (map (code_character ink) cs) ≤ width
    → fitting width (map (code_character ink) cs) ≡ map (code_character ink) cs
codes_whole ink [] width room = refl
codes_whole ink (c ∷ cs) width room =
    let first : Shown = code_character ink c in
    let rest : List Shown = map (code_character ink) cs in
    let all = more first rest (some_cells c) in
    rw (le-leb (code_cells c) width (omega (arith, room, all)))
    (ap (λ row. first ∷ row) (codes_whole ink cs (width - code_cells c) (omega (arith, room, all))))

pub text_whole : (text : List ℕ) (width : ℕ) (ink : Ink) → row_width (all_characters text ink) ≤ width
    → text_characters text width ink ≡ all_characters text ink
text_whole text width ink room = codes_whole ink (chars text) width room
