-- Lines that are deeper by a path are printed alike.
use Rattle.std.proofs.Common.{◌≡◌, ℕ, List, [], ◌∷◌, ◌++◌, map, refl, ap, sym, ◌∙◌}
use Rattle.std.specs.Prelude.{Option, Some, None, replicate}
use Rattle.std.specs.List.{flat_map}
use Rattle.tx_items.specs.declared.drawing.Item.{Item}
use Rattle.tx_items.specs.declared.drawing.Item.TheVariants.{Glyph, Space, Chance, Gap, Break, PageEnd, Down}
use Rattle.tx_layout.specs.declared.layout.Line.{Line}
use Rattle.tx_part_items.specs.ItemsUnder.{item_under}
use Rattle.tx_part_layout.specs.LinesUnder.{line_under}
use Rattle.tx_print.specs.Lines.{line, spaces, printed_item, line_text}
use Rattle.tx_print.specs.Runs.{CellLook, item_looks, looks_on, runs_from, run_text, runs_or}

printed_under : (base : List ℕ) (x : Item) → printed_item (item_under base x) ≡ printed_item x
printed_under base (Glyph d) = refl
printed_under base (Space d) = refl
printed_under base (Chance d) = refl
printed_under base (Gap n) = refl
printed_under base Break = refl
printed_under base PageEnd = refl
printed_under base (Down n) = refl

looks_under : (base : List ℕ) (x : Item) → item_looks (item_under base x) ≡ item_looks x
looks_under base (Glyph d) = refl
looks_under base (Space d) = refl
looks_under base (Chance d) = refl
looks_under base (Gap n) = refl
looks_under base Break = refl
looks_under base PageEnd = refl
looks_under base (Down n) = refl

-- what is made of items alike is made of all of them alike
flat_under : {X : Type 0} (f : Item → List X) (base : List ℕ) → ((x : Item) → f (item_under base x) ≡ f x)
    → (xs : List Item) → flat_map f (map (item_under base) xs) ≡ flat_map f xs
flat_under f base h [] = refl
flat_under f base h (x ∷ xs) =
    ap (λ ys. ys ++ flat_map f (map (item_under base) xs)) (h x) ∙ ap (λ ys. f x ++ ys) (flat_under f base h xs)

pub text_under : (base : List ℕ) (l : Line) → line_text (line_under base l) ≡ line_text l
text_under base l = ap (λ t. line (spaces l.indent ++ t)) (flat_under printed_item base (printed_under base) l.items)

pub runs_under : (base : List ℕ) (l : Line) (otherwise : List ℕ)
    → runs_or otherwise (Some (line_under base l)) ≡ runs_or otherwise (Some l)
runs_under base l otherwise =
    ap (λ cells. flat_map run_text (runs_from 0 (replicate l.indent None ++ cells)))
    (flat_under item_looks base (looks_under base) l.items)
