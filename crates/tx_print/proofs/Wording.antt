-- Texts, as they are put together.
use Rattle.std.proofs.Common.{◌≡◌, ◌≢◌, ℕ, ◌+◌, ◌<◌, Bool, true, false, ◌==◌, List, [], ◌∷◌, ◌++◌, length, take, drop}
use Rattle.std.proofs.Common.{get_or, refl, sym, ap, ◌∙◌, append_assoc, arith}
use Rattle.std.specs.Prelude.{Some, None, codes, decimal}
use Rattle.std.specs.List.{flat_map}
use Rattle.std.proofs.lemmas.List.{append-nil, drop_all, drop_more, flat_map_more, take_at, take_more}
use Rattle.std.proofs.lemmas.Bool.{eqb-true, eqb-false}
use Rattle.std.proofs.lemmas.List.Concat.{flat_map-append}
use Rattle.tx_tree.specs.PathSpelling.{numbers_text, path_text, place_text}
use Rattle.tx_tree.specs.Texts.{IsText, IsCut}
use Rattle.tx_text.specs.Clusters.{item_beginning_at, items_of}
use Rattle.tx_text.specs.Displays.{display_text, item_text}
use Rattle.tx_origin.specs.RelativePlaces.{BasedPlace, path_below}
use Rattle.tx_layout.specs.declared.layout.Line.{Line}
use Rattle.tx_lines.specs.declared.cut.Cut.{Cut}
use Rattle.tx_view_form.specs.Positions.{whole_path}
use Rattle.tx_print.specs.Lines.{line, shown}
use Rattle.tx_print.specs.Pages.{page_text, pages_text}
use Rattle.tx_outside.specs.Outside.{SinkSeen}
use Rattle.tx_print.specs.declared.printer.Printer.{Printer}
use Rattle.tx_print.specs.Printers.{PrinterAdds}
use Rattle.tx_print.proofs.Adding.{adds_then, adds_also, adds_nothing}

-- ---- what is left of a text

pub record Leaves (rest whole : List ℕ) (p : Printer) (w : SinkSeen) (q : Printer) (x : SinkSeen) : Type 0 where
  pub said : List ℕ
  pub adds : PrinterAdds said p w q x
  pub are : said ++ rest ≡ whole

pub leaves_all : {p : Printer} {w : SinkSeen} (whole : List ℕ) → Leaves whole whole p w p w
leaves_all whole = record { said = []; adds = adds_nothing; are = refl }

pub leaves_less : {p q r : Printer} {w x y : SinkSeen} (rest a b whole : List ℕ) → rest ≡ a ++ b
    → Leaves rest whole p w q x → PrinterAdds a q x r y → Leaves b whole p w r y
leaves_less rest a b whole e leaves adds =
    record {
      said = leaves.said ++ a;
      adds = adds_then leaves.adds adds;
      are = append_assoc leaves.said a b ∙ ap (λ t. leaves.said ++ t) (sym e) ∙ leaves.are;
    }

pub leaves_none : {p q : Printer} {w x : SinkSeen} (rest whole : List ℕ) → rest ≡ []
    → Leaves rest whole p w q x → PrinterAdds whole p w q x
leaves_none rest whole e leaves =
    adds_also (sym (append-nil leaves.said) ∙ ap (λ t. leaves.said ++ t) (sym e) ∙ leaves.are) leaves.adds

-- ---- one element more

pub flat_more : {X : Type 0} (f : X → List ℕ) (xs : List X) (x : X) → flat_map f xs ++ f x ≡ flat_map f (xs ++ x ∷ [])
flat_more f xs x = flat_map_more f [] xs x

pub flat_at : {X : Type 0} (f : X → List ℕ) (xs : List X) (i : ℕ) (x : X) → i < length xs → x ≡ get_or xs i x
    → flat_map f (take i xs) ++ f x ≡ flat_map f (take (i + 1) xs)
flat_at f xs i x lt is =
    flat_more f (take i xs) x
    ∙ ap (flat_map f) (ap (λ y. take i xs ++ y ∷ []) is ∙ sym (take_more xs i x lt))

-- ---- lists that are empty, by a test

pub empty_length : (path numbers : List ℕ) (b : Bool) → b ≡ (length numbers == 0) → numbers ≡ path → b ≡ true
    → length path ≡ 0
empty_length path numbers b is same empty = ap length (sym same) ∙ eqb-true (length numbers) 0 (sym is ∙ empty)

pub some_length : (path numbers : List ℕ) (b : Bool) → b ≡ (length numbers == 0) → numbers ≡ path → b ≡ false
    → 0 < length path
some_length path numbers b is same full =
    let h : length numbers ≢ 0 = eqb-false (length numbers) 0 (sym is ∙ full) in
    let e : length numbers ≡ length path = ap length same in omega arith

-- ---- words

pub counts_words : (a b c d e : List ℕ) → (a ++ b) ++ ((c ++ d) ++ e) ≡ ((a ++ b ++ c) ++ d) ++ e
counts_words a b c d e =
    sym (append_assoc (a ++ b) (c ++ d) e) ∙ ap (λ t. t ++ e) (sym (append_assoc (a ++ b) c d))

pub place_words : (path : List ℕ) (o : ℕ) → numbers_text path ++ line (47 ∷ decimal o) ≡ line (place_text path o)
place_words path o =
    sym (ap (λ t. t ++ 10 ∷ []) (flat_map-append (λ i. 47 ∷ decimal i) path (o ∷ [])
    ∙ ap (λ t. numbers_text path ++ t) (append-nil (47 ∷ decimal o)))
    ∙ append_assoc (numbers_text path) (47 ∷ decimal o) (10 ∷ []))

pub spot_words : (base origin : List ℕ) (o : ℕ)
    → numbers_text base ++ numbers_text origin ++ line (47 ∷ decimal o) ≡ line (place_text (base ++ origin) o)
spot_words base origin o =
    ap (λ t. t ++ line (47 ∷ decimal o)) (sym (flat_map-append (λ i. 47 ∷ decimal i) base origin))
    ∙ place_words (base ++ origin) o

pub spot_text : (p : BasedPlace) (base origin : List ℕ) (o : ℕ) → base ≡ p.base → p.origin ≡ Some origin
    → o ≡ p.offset
    → numbers_text base ++ numbers_text origin ++ line (47 ∷ decimal o) ≡ line (place_text (whole_path p) p.offset)
spot_text p base origin o e is f =
    spot_words base origin o ∙ ap (λ b. line (place_text (b ++ origin) o)) e
    ∙ ap (λ k. line (place_text (p.base ++ origin) k)) f
    ∙ ap (λ q. line (place_text (path_below p.base q) p.offset)) (sym is)

pub base_text : (p : BasedPlace) (base : List ℕ) (o : ℕ) → base ≡ p.base → p.origin ≡ None → o ≡ p.offset
    → numbers_text base ++ line (47 ∷ decimal o) ≡ line (place_text (whole_path p) p.offset)
base_text p base o e is f =
    place_words base o ∙ ap (λ b. line (place_text b o)) e ∙ ap (λ k. line (place_text p.base k)) f
    ∙ ap (λ q. line (place_text (path_below p.base q) p.offset)) (sym is)

pub no_cell_words : (rows width all whole : ℕ) → rows ≡ all → width ≡ whole
    → (codes "no cell " ++ decimal rows) ++ line (codes " " ++ decimal width)
    ≡ line (codes "no cell " ++ decimal all ++ 32 ∷ decimal whole)
no_cell_words rows width all whole e f =
    sym (append_assoc (codes "no cell " ++ decimal rows) (32 ∷ decimal width) (10 ∷ []))
    ∙ ap (λ k. line (codes "no cell " ++ decimal k ++ 32 ∷ decimal width)) e
    ∙ ap (λ k. line (codes "no cell " ++ decimal all ++ 32 ∷ decimal k)) f

pub shown_counts : (pages rows count all : ℕ) → pages ≡ count → rows ≡ all
    → (codes "pages " ++ decimal pages) ++ line (codes " rows " ++ decimal rows)
    ≡ line (codes "pages " ++ decimal count ++ codes " rows " ++ decimal all)
shown_counts pages rows count all e f =
    counts_words (codes "pages ") (decimal pages) (codes " rows ") (decimal rows) (10 ∷ [])
    ∙ ap (λ k. line (codes "pages " ++ decimal k ++ codes " rows " ++ decimal rows)) e
    ∙ ap (λ k. line (codes "pages " ++ decimal count ++ codes " rows " ++ decimal k)) f

pub pages_less : (lines : List Line) (pages items : List Cut) (i : ℕ) (d : Cut) → items ≡ pages → i < length items
    → pages_text lines (i + 1) (drop i pages)
    ≡ page_text lines (i + 1) (get_or items i d) ++ pages_text lines (i + 1 + 1) (drop (i + 1) pages)
pages_less lines pages items i d same lt =
    ap (pages_text lines (i + 1))
    (ap (drop i) (sym same) ∙ drop_more items i d lt ∙ ap (λ ps. get_or items i d ∷ drop (i + 1) ps) same)

pub root_words : (path : List ℕ) → length path ≡ 0 → 47 ∷ [] ≡ path_text path
root_words [] e = refl
root_words (n ∷ path) e = absurd (omega arith)

pub steps_words : (path : List ℕ) → 0 < length path → numbers_text path ≡ path_text path
steps_words [] e = absurd (omega arith)
steps_words (n ∷ path) e = refl

-- ---- display texts

pub shown_less : (text : List ℕ) (at next : ℕ)
    → items_of (drop at text) ≡ item_beginning_at text at ++ items_of (drop next text)
    → shown (drop at text) ≡ display_text (item_beginning_at text at) ++ shown (drop next text)
shown_less text at next e =
    ap display_text e ∙ flat_map-append item_text (item_beginning_at text at) (items_of (drop next text))

pub shown_end : (text : List ℕ) (at : ℕ) → at ≡ length text → shown (drop at text) ≡ []
shown_end text at e = ap shown (drop_all at text (omega arith))

pub shown_empty : (text : List ℕ) → length text ≡ 0 → [] ≡ shown text
shown_empty text e = sym (shown_end text 0 (sym e))

pub front_of : (front rest glyphs : List ℕ) (count : ℕ) → glyphs ≡ front ++ rest → count ≡ length front
    → take count glyphs ≡ front
front_of front rest glyphs count is long = ap (take count) is ∙ take_at front rest count (sym long)

-- every text has a cut at its start
pub first_cut : (bytes : List ℕ) → IsText bytes → IsCut bytes 0
first_cut bytes text = ([], text.0, tt, text.1, text.2, refl)
