-- Lines that are filled one by one, and why there is one way to fill them.
use Rattle.std.proofs.Common.{◌≡◌, ℕ, zero, suc, ◌+◌, ◌<◌, ◌≤◌, min, List, [], ◌∷◌, ◌++◌, length, Some, refl, sym, ap}
use Rattle.std.proofs.Common.{◌∙◌, subst, inl, inr, arith, add-one}
use Rattle.std.specs.Prelude.{slice_get}
use Rattle.std.proofs.lemmas.Bool.{cases_lt}
use Rattle.tx_lines.specs.declared.cut.Cut.{Cut}
use Rattle.tx_lines.specs.declared.first_fit.Piece.{Piece}
use Rattle.tx_lines.specs.Cuts.{Partitions}
use Rattle.tx_lines.specs.FirstFit.{line_cells, width_of, IsFirstFit}
use Rattle.tx_lines.proofs.Cells.{cells_of_le}
use Rattle.tx_lines.proofs.Places.{slice_get-push, same_cut, forward, Partitions-push, meets}

-- lines of the pieces before a place, of which none has room for the piece after it
pub record FillsTo (pieces : List Piece) (first later end : ℕ) (lines : List Cut) : Type 0 where
  pub in_order : Partitions lines 0 end
  pub fits : (k : ℕ) (line : Cut) → slice_get lines k ≡ Some line
      → line_cells pieces line.from line.to ≤ width_of first later k
  pub full : (k : ℕ) (line : Cut) → slice_get lines k ≡ Some line → line.to < length pieces
      → width_of first later k < line_cells pieces line.from (line.to + 1)

-- each line has at least the narrower width
pub min_width : (first later k : ℕ) → min first later ≤ width_of first later k
min_width first later zero = omega arith
min_width first later (suc k) = omega arith

-- after any line a line has the later width
pub later_behind : (first later : ℕ) (lines : List Cut) (line : Cut)
    → later ≡ width_of first later (length (lines ++ line ∷ []))
later_behind first later [] line = refl
later_behind first later (x ∷ xs) line = refl

-- one more line
pub fills_more : (pieces : List Piece) (first later width : ℕ) (lines : List Cut) (line : Cut)
    → FillsTo pieces first later line.from lines → width ≡ width_of first later (length lines) → line.from < line.to
    → line_cells pieces line.from line.to ≤ width
    → (line.to < length pieces → width < line_cells pieces line.from (line.to + 1))
    → FillsTo pieces first later line.to (lines ++ line ∷ [])
fills_more pieces first later width lines line before is_width some fits full = record {
  in_order = Partitions-push lines line 0 before.in_order some;
  fits = λ k at e. elim (slice_get-push lines line k at e) [
    | inl there ↦ before.fits k at there
    | inr last ↦
        let P : Cut → Type 0 = λ c. line_cells pieces c.from c.to ≤ width_of first later k in
        subst P last.1 (omega (arith, ap (width_of first later) last.0))
  ];
  full = λ k at e. elim (slice_get-push lines line k at e) [
    | inl there ↦ before.full k at there
    | inr last ↦
        let P : Cut → Type 0 = λ c. c.to < length pieces
        → width_of first later k < line_cells pieces c.from (c.to + 1) in
        subst P last.1 (λ more. omega (arith, full more, ap (width_of first later) last.0))
  ];
}

-- lines of all the pieces
pub fills_all : (pieces : List Piece) (first later : ℕ) (lines : List Cut)
    → FillsTo pieces first later (length pieces) lines → IsFirstFit pieces first later lines
fills_all pieces first later lines h = record {
  in_order = h.in_order;
  fits = h.fits;
  full = λ k line next e f.
      let on = meets lines 0 (length pieces) k line next h.in_order e (rw add-one at f) in
      let P : ℕ → Type 0 = λ to. width_of first later k < line_cells pieces line.from (to + 1) in
      subst P on.0 (h.full k line e (omega arith));
}

-- what first-fit says of the lines from the piece at a place on
record FillsFrom (pieces : List Piece) (from first later : ℕ) (lines : List Cut) : Type 0 where
  in_order : Partitions lines from (length pieces)
  fits : (k : ℕ) (line : Cut) → slice_get lines k ≡ Some line
      → line_cells pieces line.from line.to ≤ width_of first later k
  full : (k : ℕ) (line next : Cut) → slice_get lines k ≡ Some line → slice_get lines (suc k) ≡ Some next
      → width_of first later k < line_cells pieces line.from (next.from + 1)

later_width : (later k : ℕ) → width_of later later k ≡ later
later_width later zero = refl
later_width later (suc k) = refl

rest_fills : (pieces : List Piece) (from first later : ℕ) (line : Cut) (rest : List Cut)
    → FillsFrom pieces from first later (line ∷ rest) → FillsFrom pieces line.to later later rest
rest_fills pieces from first later line rest h = record {
  in_order = h.in_order.2;
  fits = λ k at e. rw later_width (h.fits (suc k) at e);
  full = λ k at next e f. rw later_width (h.full (suc k) at next e f);
}

-- the first of the lines ends no earlier than the first of others
no_shorter : (pieces : List Piece) (from first later : ℕ) (x y : Cut) (xs ys : List Cut)
    → FillsFrom pieces from first later (x ∷ xs) → FillsFrom pieces from first later (y ∷ ys) → y.to ≤ x.to
no_shorter pieces from first later x y [] ys a b = let on : y.to ≤ length pieces =
    forward ys y.to (length pieces) b.in_order.2 in omega arith
no_shorter pieces from first later x y (z ∷ xs) ys a b =
    elim (cases_lt x.to y.to) [
      | inl shorter ↦
          let over : first < line_cells pieces x.from (z.from + 1) = a.full 0 x z refl refl in
          let fits : line_cells pieces y.from y.to ≤ first = b.fits 0 y refl in
          let less : line_cells pieces x.from (z.from + 1) ≤ line_cells pieces x.from y.to =
          cells_of_le pieces x.from (z.from + 1) y.to (omega arith) in
          let same : line_cells pieces x.from y.to ≡ line_cells pieces y.from y.to =
          ap (λ i. line_cells pieces i y.to) (a.in_order.0 ∙ sym b.in_order.0) in
          absurd (omega arith)
      | inr longer ↦ longer
    ]

one_from : (pieces : List Piece) (from first later : ℕ) (xs ys : List Cut) → FillsFrom pieces from first later xs
    → FillsFrom pieces from first later ys → xs ≡ ys
one_from pieces from first later [] [] a b = refl
one_from pieces from first later [] (y ∷ ys) a b = let on : y.to ≤ length pieces =
    forward ys y.to (length pieces) b.in_order.2 in absurd (omega arith)
one_from pieces from first later (x ∷ xs) [] a b = let on : x.to ≤ length pieces =
    forward xs x.to (length pieces) a.in_order.2 in absurd (omega arith)
one_from pieces from first later (x ∷ xs) (y ∷ ys) a b =
    let end : x.to ≡ y.to =
    omega (
      arith,
      no_shorter pieces from first later x y xs ys a b,
      no_shorter pieces from first later y x ys xs b a,
    ) in
    let here : x ≡ y = same_cut x y (a.in_order.0 ∙ sym b.in_order.0) end in
    let P : ℕ → Type 0 = λ at. FillsFrom pieces at later later ys in
    let after : xs ≡ ys = one_from pieces x.to later later xs ys (rest_fills pieces from first later x xs a)
    (subst P (sym end) (rest_fills pieces from first later y ys b)) in
    cc

from_start : (pieces : List Piece) (first later : ℕ) (lines : List Cut) → IsFirstFit pieces first later lines
    → FillsFrom pieces 0 first later lines
from_start pieces first later lines h = record {
  in_order = h.in_order;
  fits = h.fits;
  full = λ k line next e f. h.full k line next e (rw add-one f);
}

-- two lists of lines that are first-fit are one
pub one_way : (pieces : List Piece) (first later : ℕ) (lines others : List Cut) → IsFirstFit pieces first later lines
    → IsFirstFit pieces first later others → lines ≡ others
one_way pieces first later lines others a b =
    one_from pieces 0 first later lines others (from_start pieces first later lines a)
    (from_start pieces first later others b)
