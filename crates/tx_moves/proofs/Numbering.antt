-- A row is on one page.
use Rattle.std.proofs.Common.{◌≡◌, ℕ, zero, suc, ◌+◌, ◌<◌, ◌≤◌, ◌↔◌, true, false, cond, List, [], ◌∷◌, length}
use Rattle.std.proofs.Common.{get_or, Option, Some, None, refl, sym, ap, ◌∙◌, subst, arith, inl, inr}
use Rattle.std.specs.Prelude.{slice_get, nat_le, nat_lt, IsSome}
use Rattle.std.specs.Option.{is_some}
use Rattle.std.specs.List.{position_from}
use Rattle.std.proofs.lemmas.Bool.{ltb-true, leb-true, lt-ltb, le-ltb, le-leb, and_parts, and_from, and_right, cases_lt}
use Rattle.std.proofs.lemmas.Option.{same_Some, slice_get-get_or}
use Rattle.std.proofs.lemmas.List.Quantifiers.{position-Some}
use Rattle.std.proofs.lemmas.Iterator.Adapters.{position_from-zero}
use Rattle.tx_lines.specs.declared.cut.Cut.{Cut}
use Rattle.tx_layout.specs.declared.layout.Line.{Line}
use Rattle.tx_layout.specs.Paging.{PagesFrom}
use Rattle.tx_moves.specs.PageNumbers.{holds_row, page_of, IsOnPage}

pub on_page : (pages : List Cut) (r k : ℕ) → page_of pages r ≡ Some k → IsOnPage pages r k
on_page pages r k e =
    let d : Cut = record { from = 0; to = 0 } in
    let found = position-Some (holds_row r) pages k d e in
    let page : Cut = get_or pages k d in
    let parts = and_parts (nat_le page.from r) (nat_lt r page.to) found.1 in
    record {
      page = page;
      there = slice_get-get_or pages k d found.0;
      from = leb-true page.from r parts.0;
      before = ltb-true r page.to parts.1;
    }

holds : (r : ℕ) (page : Cut) → page.from ≤ r → r < page.to → holds_row r page ≡ true
holds r page from before =
    and_from (nat_le page.from r) (nat_lt r page.to) (le-leb page.from r from) (lt-ltb r page.to before)

holds_not : (r : ℕ) (page : Cut) → page.to ≤ r → holds_row r page ≡ false
holds_not r page after = and_right (nat_le page.from r) (nat_lt r page.to) (le-ltb r page.to after)

-- pages from a place on are after it, and within the lines
within : (lines : List Line) (height at : ℕ) (pages : List Cut) (k : ℕ) (page : Cut) → PagesFrom lines height at pages
    → slice_get pages k ≡ Some page → (at ≤ page.from) × (page.to ≤ length lines)
within lines height at [] k page h e = absurd cc
within lines height at (x ∷ xs) zero page h e =
    let same : x ≡ page = same_Some x page e in
    subst (λ p. (at ≤ p.from) × (p.to ≤ length lines)) same (let first = h.0 in omega arith, h.1.within)
within lines height at (x ∷ xs) (suc k) page h e =
    let rest = within lines height x.to xs k page h.2 e in
    let first = h.0 in
    let some = h.1.some in
    let later = rest.0 in
    (omega arith, rest.1)

number_from : (lines : List Line) (height at n : ℕ) (pages : List Cut) (r k : ℕ) (page : Cut)
    → PagesFrom lines height at pages → slice_get pages k ≡ Some page → page.from ≤ r → r < page.to
    → position_from (holds_row r) n pages ≡ Some (n + k)
number_from lines height at n [] r k page h e from before = absurd cc
number_from lines height at n (x ∷ xs) r zero page h e from before =
    let same : page ≡ x = sym (same_Some x page e) in
    let here : holds_row r x ≡ true = subst (λ p. holds_row r p ≡ true) same (holds r page from before) in
    let number : n ≡ n + zero = omega arith in
    ap (λ b. cond b (Some n) (position_from (holds_row r) (n + 1) xs)) here ∙ ap Some number
number_from lines height at n (x ∷ xs) r (suc k) page h e from before =
    let later = (within lines height x.to xs k page h.2 e).0 in
    let number : (n + 1) + k ≡ n + suc k = omega arith in
    ap (λ b. cond b (Some n) (position_from (holds_row r) (n + 1) xs)) (holds_not r x (omega arith))
    ∙ number_from lines height x.to (n + 1) xs r k page h.2 e from before ∙ ap Some number

pub only_page : (lines : List Line) (height : ℕ) (pages : List Cut) (r k : ℕ) → PagesFrom lines height 0 pages
    → IsOnPage pages r k → page_of pages r ≡ Some k
only_page lines height pages r k h on =
    let number : 0 + k ≡ k = omega arith in
    position_from-zero (holds_row r) pages
    ∙ number_from lines height 0 0 pages r k on.page h on.there on.from on.before ∙ ap Some number

found_from : (lines : List Line) (height at n : ℕ) (pages : List Cut) (r : ℕ) → PagesFrom lines height at pages
    → at ≤ r → r < length lines → is_some (position_from (holds_row r) n pages) ≡ true
found_from lines height at n [] r h low high = let end : at ≡ length lines = h in absurd (omega arith)
found_from lines height at n (x ∷ xs) r h low high =
    let rest = position_from (holds_row r) (n + 1) xs in
    let first = h.0 in
    elim (cases_lt r x.to) [
      | inl less ↦ ap (λ b. is_some (cond b (Some n) rest)) (holds r x (omega arith) less)
      | inr more ↦
          ap (λ b. is_some (cond b (Some n) rest)) (holds_not r x more)
          ∙ found_from lines height x.to (n + 1) xs r h.2 more high
    ]

some_row : (lines : List Line) (height : ℕ) (pages : List Cut) (r : ℕ) → PagesFrom lines height 0 pages
    → (o : Option ℕ) → page_of pages r ≡ o → is_some o ≡ true → r < length lines
some_row lines height pages r h None e some = absurd cc
some_row lines height pages r h (Some k) e some =
    let on : IsOnPage pages r k = on_page pages r k e in
    let end = (within lines height 0 pages k on.page h on.there).1 in
    let before = on.before in
    omega arith

pub page_rows : (lines : List Line) (height : ℕ) (pages : List Cut) (r : ℕ) → PagesFrom lines height 0 pages
    → IsSome (page_of pages r) ↔ (r < length lines)
page_rows lines height pages r h = (
  some_row lines height pages r h (page_of pages r) refl,
  (λ high. ap is_some (position_from-zero (holds_row r) pages)
      ∙ found_from lines height 0 0 pages r h (omega arith) high),
)
