-- How many lines of a unit are above a part, and in which stretch a line is.
use Rattle.std.proofs.Common.{◌≡◌, ℕ, zero, suc, ◌+◌, ◌≤◌, ◌<◌, List, [], ◌∷◌, ◌++◌, map, length, take, get_or}
use Rattle.std.proofs.Common.{refl, ap, sym, ◌∙◌, subst, arith, length-append}
use Rattle.std.specs.Prelude.{Some, None, slice_get}
use Rattle.std.specs.List.{flat_map}
use Rattle.std.proofs.lemmas.List.{length-map, take_more, append-nil}
use Rattle.std.proofs.lemmas.List.Concat.{flat_map-append}
use Rattle.std.proofs.lemmas.Option.{slice_get-map, slice_get_past}
use Rattle.tx_part_layout.specs.LaidParts.{AreBelow, placed_lines, lines_placed}
use Rattle.tx_part_layout.specs.LinesUnder.{line_under}
use Rattle.tx_part_layout.specs.declared.laid.PlacedPart.{PlacedPart}
use Rattle.tx_unit_layout.specs.Rows.{IsLineOf}
use Rattle.tx_unit_layout.specs.Stretches.{WideStretch, part_stretch, own_stretch, stretches, stretch_lines, line_parts}
use Rattle.tx_unit_layout.specs.Views.{unit_view}
use Rattle.tx_unit_layout.specs.declared.shown.Shown.{Shown}
use Rattle.tx_unit_layout.proofs.Stretching.{unit_lines}

-- ---- the lines of one part more

pub placed_more : (ps : List PlacedPart) (i : ℕ) (p : PlacedPart) → i < length ps → p ≡ get_or ps i p
    → placed_lines (take (i + 1) ps) ≡ placed_lines (take i ps) ++ lines_placed p
placed_more ps i p lt is =
    ap placed_lines (take_more ps i p lt ∙ ap (λ q. take i ps ++ q ∷ []) (sym is))
    ∙ flat_map-append lines_placed (take i ps) (p ∷ [])
    ∙ ap (λ ls. placed_lines (take i ps) ++ ls) (append-nil (lines_placed p))

-- so many parts have no more lines than all
pub placed_fit : (ps : List PlacedPart) (i : ℕ) (p : PlacedPart) → i < length ps → p ≡ get_or ps i p
    → length (placed_lines (take i ps)) + length p.laid.value.lines ≤ length (placed_lines ps)
placed_fit [] i p lt is = absurd (omega arith)
placed_fit (q ∷ ps) zero p lt is =
    omega (
      arith,
      ap (λ (r : PlacedPart). length r.laid.value.lines) is,
      length-map q.laid.value.lines (line_under q.path),
      length-append (lines_placed q) (placed_lines ps),
    )
placed_fit (q ∷ ps) (suc i) p lt is =
    omega (
      arith,
      placed_fit ps i p (omega arith) is,
      length-append (lines_placed q) (placed_lines ps),
      length-append (lines_placed q) (placed_lines (take i ps)),
    )

-- ---- parts above each other

-- nothing is above the first
pub first_above : (ps : List PlacedPart) (line : ℕ) → AreBelow 0 ps → (p : PlacedPart) → slice_get ps 0 ≡ Some p
    → p.above ≤ line
first_above [] line below p is = cc
first_above (q ∷ ps) line below p is =
    let same : q ≡ p = cc in omega (arith, below.0, ap (λ (r : PlacedPart). r.above) same)

-- the lines of a part are the last of all where the next one would begin after a line that is below it
pub last_above : (ps : List PlacedPart) (n k j line : ℕ) (p : PlacedPart) → AreBelow n ps → slice_get ps k ≡ Some p
    → j ≡ k + 1 → ((q : PlacedPart) → slice_get ps j ≡ Some q → line < q.above)
    → p.above + length p.laid.value.lines ≤ line → n + length (placed_lines ps) ≡ p.above + length p.laid.value.lines
last_above ps n k zero line p below is at next own = absurd (omega (arith, at))
last_above [] n k (suc j) line p below is at next own = cc
last_above (q ∷ []) n zero (suc j) line p below is at next own =
    let same : q ≡ p = cc in
    omega (
      arith,
      below.0,
      ap (λ (r : PlacedPart). r.above) same,
      ap (λ (r : PlacedPart). length r.laid.value.lines) same,
      length-map q.laid.value.lines (line_under q.path),
      length-append (lines_placed q) [],
    )
last_above (q ∷ (r ∷ ps)) n zero (suc zero) line p below is at next own =
    let same : q ≡ p = cc in
    absurd (omega (
      arith,
      below.0,
      below.1.0,
      ap (λ (r : PlacedPart). r.above) same,
      ap (λ (r : PlacedPart). length r.laid.value.lines) same,
      next r refl,
      own,
    ))
last_above (q ∷ (r ∷ ps)) n zero (suc (suc j)) line p below is at next own = absurd (omega (arith, at))
last_above (q ∷ ps) n (suc k) (suc j) line p below is at next own =
    omega (
      arith,
      last_above ps (n + length q.laid.value.lines) k j line p below.1 is (omega (arith, at)) next own,
      length-map q.laid.value.lines (line_under q.path),
      length-append (lines_placed q) (placed_lines ps),
    )

-- where there is none there is no line
pub none_above : (ps : List PlacedPart) → length ps ≡ 0 → length (placed_lines ps) ≡ 0
none_above [] h = refl
none_above (p ∷ ps) h = absurd (omega (arith, h))

-- the last part
pub all_above : (ps : List PlacedPart) (n k : ℕ) (p : PlacedPart) → AreBelow n ps → slice_get ps k ≡ Some p
    → length ps ≡ k + 1 → n + length (placed_lines ps) ≡ p.above + length p.laid.value.lines
all_above ps n k p below is end =
    last_above ps n k (length ps) (p.above + length p.laid.value.lines) p below is end
    (λ q there. absurd (none_behind q there)) (omega arith)
  where
    none_behind : (q : PlacedPart) → slice_get ps (length ps) ≡ Some q → ⊥
    none_behind q there = let past : slice_get ps (length ps) ≡ None = slice_get_past ps (length ps) (omega arith) in cc

-- ---- stretches

part_there : (ps : List PlacedPart) (own : WideStretch) (k : ℕ) (p : PlacedPart) → slice_get ps k ≡ Some p
    → slice_get (map part_stretch ps ++ own ∷ []) k ≡ Some (part_stretch p)
part_there [] own k p is = cc
part_there (q ∷ ps) own zero p is = let same : q ≡ p = cc in ap (λ r. Some (part_stretch r)) same
part_there (q ∷ ps) own (suc k) p is = part_there ps own k p is

own_there : (ps : List PlacedPart) (own : WideStretch)
    → slice_get (map part_stretch ps ++ own ∷ []) (length ps) ≡ Some own
own_there [] own = refl
own_there (p ∷ ps) own = own_there ps own

above_part : (ps : List PlacedPart) (own : WideStretch) (n k : ℕ) (p : PlacedPart) → AreBelow n ps
    → slice_get ps k ≡ Some p
    → p.above ≡ n + length (flat_map stretch_lines (take k (map part_stretch ps ++ own ∷ [])))
above_part [] own n k p below is = cc
above_part (q ∷ ps) own n zero p below is =
    let same : q ≡ p = cc in omega (arith, below.0, ap (λ (r : PlacedPart). r.above) same)
above_part (q ∷ ps) own n (suc k) p below is =
    let rest : List WideStretch = take k (map part_stretch ps ++ own ∷ []) in
    omega (
      arith,
      above_part ps own (n + length q.laid.value.lines) k p below.1 is,
      length-map q.laid.value.lines (line_under q.path),
      length-append (stretch_lines (part_stretch q)) (flat_map stretch_lines rest),
    )

above_own : (ps : List PlacedPart) (own : WideStretch)
    → flat_map stretch_lines (take (length ps) (map part_stretch ps ++ own ∷ [])) ≡ placed_lines ps
above_own [] own = refl
above_own (p ∷ ps) own = ap (λ ls. lines_placed p ++ ls) (above_own ps own)

-- ---- lines of stretches

front_same : {A : Type 0} (xs ys : List A) (k : ℕ) → k < length xs → slice_get (xs ++ ys) k ≡ slice_get xs k
front_same [] ys k lt = absurd (omega arith)
front_same (x ∷ xs) ys zero lt = refl
front_same (x ∷ xs) ys (suc k) lt = front_same xs ys k (omega arith)

behind_same : {A : Type 0} (xs ys : List A) (n k : ℕ) → n ≡ length xs + k → slice_get (xs ++ ys) n ≡ slice_get ys k
behind_same [] ys n k is = ap (λ i. slice_get ys i) (omega (arith, is))
behind_same (x ∷ xs) ys zero k is = absurd (omega (arith, is))
behind_same (x ∷ xs) ys (suc n) k is = behind_same xs ys n k (omega (arith, is))

-- what is at a place in one of some lists
found_in : {A : Type 0} (f : WideStretch → List A) (ss : List WideStretch) (k n m : ℕ) (s : WideStretch)
    → slice_get ss k ≡ Some s → n < length (f s) → m ≡ length (flat_map f (take k ss)) + n
    → slice_get (flat_map f ss) m ≡ slice_get (f s) n
found_in f [] k n m s is lt at = cc
found_in f (t ∷ ss) zero n m s is lt at =
    let same : t ≡ s = cc in
    behind_same [] (f t ++ flat_map f ss) m n (omega (arith, at))
    ∙ front_same (f t) (flat_map f ss) n (omega (arith, lt, ap (λ r. length (f r)) same))
    ∙ ap (λ r. slice_get (f r) n) same
found_in f (t ∷ ss) (suc k) n m s is lt at =
    let d : ℕ = length (flat_map f (take k ss)) + n in
    behind_same (f t) (flat_map f ss) m d (omega (arith, at, length-append (f t) (flat_map f (take k ss))))
    ∙ found_in f ss k n d s is lt refl

as_many : (ss : List WideStretch) → length (flat_map line_parts ss) ≡ length (flat_map stretch_lines ss)
as_many [] = refl
as_many (s ∷ ss) =
    omega (
      arith,
      as_many ss,
      length-append (line_parts s) (flat_map line_parts ss),
      length-append (stretch_lines s) (flat_map stretch_lines ss),
      length-map s.lines (line_under s.part),
      length-map s.lines (λ line. s.part),
    )

copies_at : {A B : Type 0} (xs : List A) (b : B) (n : ℕ) → n < length xs → slice_get (map (λ x. b) xs) n ≡ Some b
copies_at [] b n lt = absurd (omega arith)
copies_at (x ∷ xs) b zero lt = refl
copies_at (x ∷ xs) b (suc n) lt = copies_at xs b n (omega arith)

line_of_stretch : (x : Shown) (k n line : ℕ) (s : WideStretch) → slice_get (stretches x) k ≡ Some s
    → n < length s.lines → line ≡ length (flat_map stretch_lines (take k (stretches x))) + n → IsLineOf x line (k, n)
line_of_stretch x k n line s there within number = record {
  stretch = s;
  there = there;
  within = within;
  number = number;
  is =
      ap (λ ls. slice_get ls line) (unit_lines x)
      ∙ found_in stretch_lines (stretches x) k n line s there
      (omega (arith, within, length-map s.lines (line_under s.part))) number
      ∙ slice_get-map (line_under s.part) s.lines n;
  part =
      found_in line_parts (stretches x) k n line s there
      (omega (arith, within, length-map s.lines (λ l. s.part)))
      (omega (arith, number, as_many (take k (stretches x))))
      ∙ copies_at s.lines s.part n within;
}

-- a line of a part
pub line_of_part : (x : Shown) (ps : List PlacedPart) (k n line : ℕ) (p : PlacedPart) → ps ≡ x.parts → AreBelow 0 ps
    → slice_get ps k ≡ Some p → n < length p.laid.value.lines → line ≡ p.above + n → IsLineOf x line (k, n)
line_of_part x ps k n line p same below is within number =
    let there : slice_get x.parts k ≡ Some p = ap (λ qs. slice_get qs k) (sym same) ∙ is in
    line_of_stretch x k n line (part_stretch p) (part_there x.parts (own_stretch x) k p there) within
    (omega (arith, number, above_part x.parts (own_stretch x) 0 k p (subst (AreBelow 0) same below) there))

-- a line that the unit has besides
pub line_besides : (x : Shown) (k n line : ℕ) → k ≡ length x.parts → line ≡ length (placed_lines x.parts) + n
    → line < length (unit_view x).lines → IsLineOf x line (k, n)
line_besides x k n line last number there =
    line_of_stretch x k n line (own_stretch x)
    (ap (λ i. slice_get (stretches x) i) last ∙ own_there x.parts (own_stretch x))
    (omega (arith, number, there, length-append (placed_lines x.parts) x.lines))
    (omega (
      arith,
      number,
      ap (λ i. length (flat_map stretch_lines (take i (stretches x)))) last,
      ap (λ (ls : List _). length ls) (above_own x.parts (own_stretch x)),
    ))
