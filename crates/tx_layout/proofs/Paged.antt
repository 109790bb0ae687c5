-- Pages in order, and that there is one list of them.
use Rattle.std.proofs.Common.{◌≡◌, ℕ, ◌-◌, ◌≤◌, inl, inr, List, [], ◌∷◌, length, get_or}
use Rattle.std.proofs.Common.{refl, sym, ap₂, ◌∙◌, subst, arith, true, false}
use Rattle.std.specs.Prelude.{slice_range}
use Rattle.std.specs.List.{flat_map}
use Rattle.std.proofs.lemmas.Bool.{cases_lt}
use Rattle.tx_lines.specs.declared.cut.Cut.{Cut}
use Rattle.tx_lines.specs.Cuts.{Partitions}
use Rattle.tx_lines.proofs.Places.{same_cut, parts_of_cuts}
use Rattle.tx_layout.specs.declared.layout.Line.{Line}
use Rattle.tx_layout.specs.Shapes.{empty_line}
use Rattle.tx_layout.specs.Paging.{EndsPage, Unmarked, IsPage, PagesFrom}
use Rattle.tx_layout.proofs.Slices.{at_slice}

-- pages lead from a place to the end
leads : (lines : List Line) (height at : ℕ) (pages : List Cut) → PagesFrom lines height at pages
    → Partitions pages at (length lines)
leads lines height at [] h = h
leads lines height at (page ∷ pages) h =
    let begins = h.0 in
    let some = h.1.some in
    (h.0, omega arith, leads lines height page.to pages h.2)

pub all_lines : (lines : List Line) (height : ℕ) (pages : List Cut) → PagesFrom lines height 0 pages
    → flat_map (λ page. slice_range lines page.from page.to) pages ≡ lines
all_lines lines height pages h = parts_of_cuts lines pages 0 (leads lines height 0 pages h)

not_both : (line : Line) → EndsPage line → Unmarked line → ⊥
not_both line a b = let e : true ≡ false = sym a ∙ b in cc

-- a page doesn't end before another one that begins there
no_shorter : (lines : List Line) (height : ℕ) (x y : Cut) → x.from ≡ y.from → IsPage lines height x
    → IsPage lines height y → y.to ≤ x.to
no_shorter lines height x y e p q =
    elim (cases_lt x.to y.to) [
      | inl less ↦
          let some = p.some in let within = q.within in let fits = q.fits in
          elim (p.full (omega arith)) [
            | inl full ↦ absurd (omega arith)
            | inr ends ↦
                let last : EndsPage (get_or lines (x.to - 1) empty_line) =
                at_slice EndsPage lines (x.to - 1) x.to (x.to - 1) empty_line ends (omega arith) (omega arith)
                (omega arith) in
                let none : Unmarked (get_or lines (x.to - 1) empty_line) =
                at_slice Unmarked lines y.from (y.to - 1) (x.to - 1) empty_line q.unmarked (omega arith) (omega arith)
                (omega arith) in
                absurd (not_both (get_or lines (x.to - 1) empty_line) last none)
          ]
      | inr more ↦ more
    ]

no_page : (lines : List Line) (height at : ℕ) (page : Cut) → at ≡ length lines → page.from ≡ at
    → IsPage lines height page → ⊥
no_page lines height at page e f p =
    let some = p.some in let within = p.within in
    omega arith

pub pages_once : (lines : List Line) (height at : ℕ) (xs ys : List Cut) → PagesFrom lines height at xs
    → PagesFrom lines height at ys → xs ≡ ys
pages_once lines height at [] [] h k = refl
pages_once lines height at [] (y ∷ ys) h k = absurd (no_page lines height at y h k.0 k.1)
pages_once lines height at (x ∷ xs) [] h k = absurd (no_page lines height at x k h.0 h.1)
pages_once lines height at (x ∷ xs) (y ∷ ys) h k =
    let begins : x.from ≡ y.from = h.0 ∙ sym k.0 in
    let a = no_shorter lines height x y begins h.1 k.1 in
    let b = no_shorter lines height y x (sym begins) k.1 h.1 in
    let finish : x.to ≡ y.to = omega arith in
    let rest : xs ≡ ys = pages_once lines height x.to xs ys h.2
    (subst (λ (n : ℕ). PagesFrom lines height n ys) (sym finish) k.2) in
    ap₂ (λ s ss. s ∷ ss) (same_cut x y begins finish) rest
