-- Pages of other lines with the same page ends, and the lines that a paginator was given.
use Rattle.std.proofs.Common.{◌≡◌, ℕ, ◌-◌, ◌∙◌, inl, inr, Bool, true, false, List, [], ◌∷◌, ◌++◌, length, map, take}
use Rattle.std.proofs.Common.{drop, get_or, refl, ap, sym, arith}
use Rattle.std.specs.Prelude.{slice_range, All}
use Rattle.std.proofs.Math.ListN.{get_or-map}
use Rattle.std.proofs.lemmas.List.{take-map, length-map, map-append}
use Rattle.std.specs.List.{drop-map}
use Rattle.tx_layout.specs.declared.layout.Line.{Line}
use Rattle.tx_layout.specs.declared.paging.Paginator.{Paginator}
use Rattle.tx_layout.specs.Paging.{IsPage, PagesFrom}
use Rattle.tx_layout.specs.Told.{HasTold}
use Rattle.tx_part_layout.specs.LinesUnder.{line_under}

abbrev ends : Line → Bool
ends line = line.page_end

-- for each line, whether it is the last of its page
abbrev pub page_ends : List Line → List Bool
page_ends lines = map ends lines

as_many : (xs ys : List Line) → page_ends xs ≡ page_ends ys → length xs ≡ length ys
as_many xs ys e = sym (length-map xs ends) ∙ ap length e ∙ length-map ys ends

all_so : (b : Bool) (xs ys : List Line) → page_ends xs ≡ page_ends ys → All (λ line. line.page_end ≡ b) xs
    → All (λ line. line.page_end ≡ b) ys
all_so b xs ys e h = λ k d within.
    sym (get_or-map ends ys k d) ∙ ap (λ bs. get_or bs k (ends d)) (sym e) ∙ get_or-map ends xs k d
    ∙ h k d (omega (arith, within, as_many xs ys e))

behind : (xs ys : List Line) (from : ℕ) → page_ends xs ≡ page_ends ys
    → page_ends (drop from xs) ≡ page_ends (drop from ys)
behind xs ys from e = sym (drop-map ends from xs) ∙ ap (drop from) e ∙ drop-map ends from ys

in_slice : (xs ys : List Line) (from to : ℕ) → page_ends xs ≡ page_ends ys
    → page_ends (slice_range xs from to) ≡ page_ends (slice_range ys from to)
in_slice xs ys from to e =
    sym (take-map ends (to - from) (drop from xs)) ∙ ap (take (to - from)) (behind xs ys from e)
    ∙ take-map ends (to - from) (drop from ys)

-- A page is a cut of tx_lines. This crate doesn't use it, so its type isn't named.
same_page : (xs ys : List Line) (height : ℕ) (page : _) → page_ends xs ≡ page_ends ys → IsPage xs height page
    → IsPage ys height page
same_page xs ys height page e p = record {
  some = p.some;
  within = omega (arith, p.within, as_many xs ys e);
  fits = p.fits;
  unmarked =
      all_so false (slice_range xs page.from (page.to - 1)) (slice_range ys page.from (page.to - 1))
      (in_slice xs ys page.from (page.to - 1) e) p.unmarked;
  full = λ later.
      elim (p.full (omega (arith, later, as_many xs ys e))) [
        | inl high ↦ inl high
        | inr marked ↦
            inr (all_so true (slice_range xs (page.to - 1) page.to) (slice_range ys (page.to - 1) page.to)
            (in_slice xs ys (page.to - 1) page.to e) marked)
      ];
}

pub same_pages : (xs ys : List Line) (height at : ℕ) (pages : List _) → page_ends xs ≡ page_ends ys
    → PagesFrom xs height at pages → PagesFrom ys height at pages
same_pages xs ys height at [] e h = h ∙ as_many xs ys e
same_pages xs ys height at (page ∷ pages) e h =
    (h.0, same_page xs ys height page e h.1, same_pages xs ys height page.to pages e h.2)

-- ---- lines that were given

side_by_side : (xs ys more : List Line) → page_ends xs ≡ page_ends ys → page_ends (xs ++ more) ≡ page_ends (ys ++ more)
side_by_side xs ys more e =
    map-append ends xs more ∙ ap (λ bs. bs ++ page_ends more) e ∙ sym (map-append ends ys more)

pub same_told : (xs ys : List Line) (height : ℕ) (p : Paginator) → page_ends xs ≡ page_ends ys
    → HasTold xs height p → HasTold ys height p
same_told xs ys height p e h = record {
  number = h.number ∙ as_many xs ys e;
  height_is = h.height_is;
  begun = omega (arith, h.begun, as_many xs ys e);
  short = omega (arith, h.short, as_many xs ys e);
  unmarked = all_so false (drop p.from xs) (drop p.from ys) (behind xs ys p.from e) h.unmarked;
  ended = λ more later paged.
      let same : page_ends (xs ++ more) ≡ page_ends (ys ++ more) = side_by_side xs ys more e in
      same_pages (xs ++ more) (ys ++ more) height 0 (p.ended.items ++ later) same
      (h.ended more later (same_pages (ys ++ more) (xs ++ more) height p.from later (sym same) paged));
}

-- ---- lines under a path

ends_under : (base : List ℕ) (lines : List Line) → page_ends lines ≡ page_ends (map (line_under base) lines)
ends_under base [] = refl
ends_under base (line ∷ lines) = ap (λ bs. line.page_end ∷ bs) (ends_under base lines)

pub told_under : (base : List ℕ) (before own : List Line) (height : ℕ) (p : Paginator)
    → HasTold (before ++ own) height p → HasTold (before ++ map (line_under base) own) height p
told_under base before own height p h =
    same_told (before ++ own) (before ++ map (line_under base) own) height p
    (map-append ends before own ∙ ap (λ bs. page_ends before ++ bs) (ends_under base own)
    ∙ sym (map-append ends before (map (line_under base) own))) h
