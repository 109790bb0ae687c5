-- Lines and clusters as views return them: each from the path of the part that shows it.
use Rattle.std.proofs.Common.{◌≡◌, ℕ, ◌<◌, ◌≤◌, List, length, get_or, refl, sym, ap, ◌∙◌, subst, Bor}
use Rattle.std.specs.Prelude.{Option, Some, None, MatchOption, IfSome, slice_get, option_and_then}
use Rattle.std.specs.Option.{option_map}
use Rattle.std.proofs.lemmas.Option.{slice_get_past, slice_get_read}
use Rattle.tx_items.specs.declared.drawing.Drawn.{Drawn}
use Rattle.tx_layout.specs.declared.layout.Line.{Line}
use Rattle.tx_part_layout.specs.LinesUnder.{line_under}
use Rattle.tx_unit_layout.specs.Rows.{IsLineOf}
use Rattle.tx_unit_layout.specs.Stretches.{WideStretch, stretches}
use Rattle.tx_unit_layout.specs.declared.shown.Shown.{Shown}
use Rattle.tx_view_form.specs.Cells.{drawn_at}
use Rattle.tx_view_form.specs.Views.{lines_of}
use Rattle.tx_view.specs.InUnits.{drawn_under}
use Rattle.tx_view.specs.Rows.{HasRow, row_parts}
use Rattle.tx_view.specs.Units.{unit_views}
use Rattle.tx_view.specs.WholeViews.{WholeView}
use Rattle.tx_view.proofs.Deeper.{drawn_at_under}

-- a line that was got from a stretch, where these are the stretch's line, the part and the line of all units
pub line_told : (o : Option (Bor Line)) (own found : Option Line) (part : Option (List ℕ)) (p : List ℕ)
    → MatchOption o (own ≡ None) (λ l. own ≡ Some l.now) → found ≡ option_map (line_under p) own → part ≡ Some p
    → MatchOption o (found ≡ None) (λ l. (x : List ℕ) × (part ≡ Some x) × (found ≡ Some (line_under x l.now)))
line_told None own found part p h f e = f ∙ ap (option_map (line_under p)) h
line_told (Some l) own found part p h f e = (p, e, f ∙ ap (option_map (line_under p)) h)

-- the cluster that covers a column of such a line
pub drawn_told : (o : Option (Bor Drawn)) (found : Option Line) (part : Option (List ℕ)) (l : Line) (c : ℕ)
    → MatchOption o (drawn_at l c ≡ None) (λ d. drawn_at l c ≡ Some d.now)
    → ((x : List ℕ) × (part ≡ Some x) × (found ≡ Some (line_under x l)))
    → MatchOption o (option_and_then (λ line. drawn_at line c) found ≡ None)
    (λ d. (x : List ℕ) × (part ≡ Some x)
    × (option_and_then (λ line. drawn_at line c) found ≡ Some (drawn_under x d.now)))
drawn_told None found part l c h so =
    ap (option_and_then (λ line. drawn_at line c)) so.2 ∙ drawn_at_under so.0 l c ∙ ap (option_map (drawn_under so.0)) h
drawn_told (Some d) found part l c h so = (
  so.0,
  so.1,
  ap (option_and_then (λ line. drawn_at line c)) so.2 ∙ drawn_at_under so.0 l c
      ∙ ap (option_map (drawn_under so.0)) h,
)

got : (o : Option (Bor Line)) (ls : List Line) (i : ℕ) (P : Bor Line → Type 0)
    → MatchOption o (length ls ≤ i) (λ l. (i < length ls) × P l) → IfSome o (λ l. l.now ≡ get_or ls i l.now)
    → MatchOption o (slice_get ls i ≡ None) (λ l. slice_get ls i ≡ Some l.now)
got None ls i P h e = slice_get_past ls i h
got (Some l) ls i P h e = slice_get_read ls (length ls) i l.now refl h.0 e

abbrev pub IsLine : WholeView → ℕ → Option (Bor Line) → Type 0
IsLine v r o =
    MatchOption o (slice_get (lines_of v.shown.units) r ≡ None)
    (λ l. (x : List ℕ) × (slice_get v.row_parts r ≡ Some x)
    × (slice_get (lines_of v.shown.units) r ≡ Some (line_under x l.now)))

-- a line that was got from its stretch, in a view that shows these units
pub line_read : (v : WholeView) (xs : List Shown) (r u k : ℕ) (x : Shown) (p : ℕ × ℕ) (w : WideStretch)
    (o : Option (Bor Line)) (P : Bor Line → Type 0) → v.shown.units ≡ unit_views xs → v.row_parts ≡ row_parts xs
    → x ≡ get_or xs u x → HasRow xs r (get_or xs u x) k → IsLineOf x k p → slice_get (stretches x) p.0 ≡ Some w
    → MatchOption o (length w.lines ≤ p.1) (λ l. (p.1 < length w.lines) × P l)
    → IfSome o (λ l. l.now ≡ get_or w.lines p.1 l.now) → IsLine v r o
line_read v xs r u k x p w o P shows parts is row at there h e =
    let has : HasRow xs r x k = subst (λ y. HasRow xs r y k) (sym is) row in
    let same : at.stretch ≡ w = cc in
    line_told o (slice_get w.lines p.1) (slice_get (lines_of v.shown.units) r) (slice_get v.row_parts r) w.part
    (got o w.lines p.1 P h e)
    (ap (λ us. slice_get (lines_of us) r) shows ∙ has.line ∙ at.is
    ∙ ap (λ t. option_map (line_under t.part) (slice_get t.lines p.1)) same)
    (ap (λ ps. slice_get ps r) parts ∙ has.part ∙ at.part ∙ ap (λ (t : WideStretch). Some t.part) same)
