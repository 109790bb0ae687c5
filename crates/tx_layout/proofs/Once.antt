-- A paragraph has one list of lines.
use Rattle.std.proofs.Common.{◌≡◌, ℕ, ◌+◌, ◌-◌, ◌≤◌, inl, inr, List, [], ◌∷◌, ◌++◌, map}
use Rattle.std.proofs.Common.{drop, get_or, refl, sym, ap, ap₂, ◌∙◌, subst, arith, Bool, true, false}
use Rattle.std.specs.Prelude.{slice_range, All}
use Rattle.std.proofs.lemmas.Bool.{cases_lt}
use Rattle.std.proofs.lemmas.List.Elements.{All-head, All-tail}
use Rattle.tx_lines.proofs.Filling.{one_way}
use Rattle.tx_lines.specs.FirstFit.{IsFirstFit}
use Rattle.tx_items.specs.declared.drawing.Item.{Item}
use Rattle.tx_items.specs.declared.drawing.Item.TheVariants.{Break}
use Rattle.tx_layout.specs.declared.measures.Frame.{Frame}
use Rattle.tx_layout.specs.declared.pieces.Span.{Span}
use Rattle.tx_layout.specs.declared.layout.Line.{Line}
use Rattle.tx_layout.specs.Frames.{least_width}
use Rattle.tx_items.specs.Cells.{cells_across}
use Rattle.tx_layout.specs.Words.{Solid, Blank, Breakable, Unbreakable, IsSpan, SpansFrom}
use Rattle.tx_layout.specs.Segments.{piece_of, width_at, lines_of, HasWords}
use Rattle.tx_layout.specs.Shapes.{Whole, is_break, behind_cut, or_empty, HasLines, last_segment, then_cut}
use Rattle.tx_layout.proofs.Slices.{at_slice, at_drop, cells_le}

no_chance : (i : Item) → Breakable i → Unbreakable i → ⊥
no_chance i a b = let e : true ≡ false = sym a ∙ b in cc

pub no_both : (i : Item) → Blank i → Solid i → ⊥
no_both i a b = let e : true ≡ false = sym a ∙ b in cc

-- a piece doesn't begin before another one that is after the same place
no_earlier : (least : ℕ) (items : List Item) (x y : Span) → x.spaces ≡ y.spaces → IsSpan least items x
    → IsSpan least items y → y.from ≤ x.from
no_earlier least items x y e p q =
    elim (cases_lt x.from y.from) [
      | inl less ↦
          let a = p.onward in let b = p.some in let c = q.some in let w = q.within in
          let blank : Blank (get_or items x.from Break) =
          at_slice Blank items y.spaces y.from x.from Break q.blank (omega arith) less (omega arith) in
          let solid : Solid (get_or items x.from Break) =
          at_slice Solid items x.from x.to x.from Break p.solid (omega arith) b p.within in
          absurd (no_both (get_or items x.from Break) blank solid)
      | inr more ↦ more
    ]

-- a piece doesn't end before another one that begins at the same place
no_shorter : (least : ℕ) (items : List Item) (x y : Span) → x.from ≡ y.from → IsSpan least items x
    → IsSpan least items y → y.to ≤ x.to
no_shorter least items x y e p q =
    elim (cases_lt x.to y.to) [
      | inl less ↦
          let b = p.some in let w = q.within in
          elim (p.greatest (omega arith)) [
            | inl blanks ↦
                let blank : Blank (get_or items x.to Break) =
                at_slice Blank items x.to (x.to + 1) x.to Break blanks (omega arith) (omega arith) (omega arith) in
                let solid : Solid (get_or items x.to Break) =
                at_slice Solid items y.from y.to x.to Break q.solid (omega arith) less w in
                absurd (no_both (get_or items x.to Break) blank solid)
            | inr other ↦ elim other [
              | inl loose ↦
                  let there : Breakable (get_or items (x.to - 1) Break) =
                  at_slice Breakable items (x.to - 1) x.to (x.to - 1) Break loose (omega arith) (omega arith)
                  (omega arith) in
                  let whole : Unbreakable (get_or items (x.to - 1) Break) =
                  at_slice Unbreakable items y.from (y.to - 1) (x.to - 1) Break q.unbroken (omega arith) (omega arith)
                  (omega arith) in
                  absurd (no_chance (get_or items (x.to - 1) Break) there whole)
              | inr wide ↦
                  let more : cells_across (slice_range items x.from (x.to + 1))
                  ≤ cells_across (slice_range items x.from y.to) =
                  cells_le items x.from (x.to + 1) y.to (omega arith) in
                  let same : cells_across (slice_range items x.from y.to)
                  ≡ cells_across (slice_range items y.from y.to) =
                  ap (λ i. cells_across (slice_range items i y.to)) e in
                  let fits = q.narrow in
                  absurd (omega arith)
            ]
          ]
      | inr more ↦ more
    ]

same_span : (x y : Span) → x.spaces ≡ y.spaces → x.from ≡ y.from → x.to ≡ y.to → x ≡ y
same_span x y e f g =
    let at : ℕ → ℕ → ℕ → Span = λ a b c. record { spaces = a; from = b; to = c } in
    ap (λ a. at a x.from x.to) e ∙ ap (λ b. at y.spaces b x.to) f ∙ ap (λ c. at y.spaces y.from c) g

no_more : (least : ℕ) (items : List Item) (at : ℕ) (y : Span) → All Blank (drop at items) → y.spaces ≡ at
    → IsSpan least items y → ⊥
no_more least items at y h e q =
    let a = q.onward in let b = q.some in let w = q.within in
    no_both (get_or items y.from Break) (at_drop Blank items at y.from Break h (omega arith) (omega arith))
    (at_slice Solid items y.from y.to y.from Break q.solid (omega arith) b w)

-- items are cut into pieces in one way
spans_once : (least : ℕ) (items : List Item) (at : ℕ) (xs ys : List Span) → SpansFrom least items at xs
    → SpansFrom least items at ys → xs ≡ ys
spans_once least items at [] [] h k = refl
spans_once least items at [] (y ∷ ys) h k = absurd (no_more least items at y h k.0 k.1)
spans_once least items at (x ∷ xs) [] h k = absurd (no_more least items at x k h.0 h.1)
spans_once least items at (x ∷ xs) (y ∷ ys) h k =
    let starts : x.spaces ≡ y.spaces = h.0 ∙ sym k.0 in
    let a = no_earlier least items x y starts h.1 k.1 in
    let b = no_earlier least items y x (sym starts) k.1 h.1 in
    let begins : x.from ≡ y.from = omega arith in
    let c = no_shorter least items x y begins h.1 k.1 in
    let d = no_shorter least items y x (sym begins) k.1 h.1 in
    let finish : x.to ≡ y.to = omega arith in
    let rest : xs ≡ ys = spans_once least items x.to xs ys h.2
    (subst (λ (n : ℕ). SpansFrom least items n ys) (sym finish) k.2) in
    ap₂ (λ s ss. s ∷ ss) (same_span x y starts begins finish) rest

words_once : (frame : Frame) (b : Bool) (items : List Item) (lines others : List Line) → HasWords frame b items lines
    → HasWords frame b items others → lines ≡ others
words_once frame b items lines others h k =
    let spans : h.spans ≡ k.spans = spans_once (least_width frame) items 0 h.spans k.spans h.spelled k.spelled in
    let P : List Span → Type 0 =
    λ ss. IsFirstFit (map (piece_of items) ss) (width_at frame b) frame.later_width k.cuts in
    let cuts : h.cuts ≡ k.cuts =
    one_way (map (piece_of items) h.spans) (width_at frame b) frame.later_width h.cuts k.cuts h.filled
    (subst P (sym spans) k.filled) in
    h.made ∙ ap₂ (λ ss cs. lines_of frame b items ss cs) spans cuts ∙ sym k.made

-- ---- segments

unlike : (i j : Item) → i ≡ j → is_break i ≡ true → is_break j ≡ false → ⊥
unlike i j e t f = let no : true ≡ false = sym t ∙ ap is_break e ∙ f in cc

-- a list without a cut has none in it
pub none_inside : (segment : List Item) (cut : Item) (rest : List Item) → is_break cut ≡ true
    → All Whole (segment ++ cut ∷ rest) → ⊥
none_inside [] cut rest is h = unlike cut cut refl is (All-head Whole cut rest h)
none_inside (x ∷ xs) cut rest is h = none_inside xs cut rest is (All-tail Whole x (xs ++ cut ∷ rest) h)

-- the first cut is in one place
record SameCut (x y : List Item) (a b : Item) (s t : List Item) : Type 0 where
  before : x ≡ y
  here : a ≡ b
  behind : s ≡ t

same_cut : (x y : List Item) (a b : Item) (s t : List Item) → x ++ a ∷ s ≡ y ++ b ∷ t → All Whole x → All Whole y
    → is_break a ≡ true → is_break b ≡ true → SameCut x y a b s t
same_cut [] [] a b s t e h k p q = record { before = refl; here = cc; behind = cc }
same_cut [] (j ∷ y) a b s t e h k p q =
    let first : a ≡ j = cc in
    absurd (unlike a j first p (All-head Whole j y k))
same_cut (i ∷ x) [] a b s t e h k p q =
    let first : b ≡ i = cc in
    absurd (unlike b i first q (All-head Whole i x h))
same_cut (i ∷ x) (j ∷ y) a b s t e h k p q =
    let first : i ≡ j = cc in
    let others : x ++ a ∷ s ≡ y ++ b ∷ t = cc in
    let rest = same_cut x y a b s t others (All-tail Whole i x h) (All-tail Whole j y k) p q in
    record {
      before = ap (λ l. i ∷ l) rest.before ∙ ap (λ l. l ∷ y) first;
      here = rest.here;
      behind = rest.behind;
    }

pub shape_once : (frame : Frame) (b : Bool) (items : List Item) (lines others : List Line)
    → HasLines frame b items lines
    → HasLines frame b items others → lines ≡ others
shape_once frame b items lines others (last_segment b' is words w h) (last_segment b'' is' words' w' h') =
    ap (or_empty b true) (words_once frame b items words words' h h')
shape_once frame b items lines others (last_segment b' is words w h)
    (then_cut b'' is' segment cut rest words' others' parts w' cuts h' more) =
    absurd (none_inside segment cut rest cuts (subst (All Whole) parts w))
shape_once frame b items lines others (then_cut b' is segment cut rest words others' parts w cuts h more)
    (last_segment b'' is' words' w' h') =
    absurd (none_inside segment cut rest cuts (subst (All Whole) parts w'))
shape_once frame b items lines others (then_cut b' is segment cut rest words next parts w cuts h more)
    (then_cut b'' is' segment' cut' rest' words' next' parts' w' cuts' h' more') =
    let same = same_cut segment segment' cut cut' rest rest' (sym parts ∙ parts') w w' cuts cuts' in
    let P : List Item → Type 0 = λ l. HasWords frame b l words' in
    let Q : List Item → Type 0 = λ l. HasLines frame false l next' in
    let owns : words ≡ words' = words_once frame b segment words words' h (subst P (sym same.before) h') in
    let rests : next ≡ next' = shape_once frame false rest next next' more (subst Q (sym same.behind) more') in
    ap₂ (λ c o. behind_cut c (or_empty b false o) ++ next) same.here owns
    ∙ ap (λ r. behind_cut cut' (or_empty b false words') ++ r) rests
