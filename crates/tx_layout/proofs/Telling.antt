-- One line more is given to a paginator, and the end.
use Rattle.std.proofs.Common.{◌≡◌, ℕ, ◌+◌, ◌-◌, ◌<◌, ◌≤◌, ◌⊎◌, inl, inr, List, [], ◌∷◌, ◌++◌, length, take, drop}
use Rattle.std.proofs.Common.{get_or, refl, sym, ap, ◌∙◌, subst, arith, append_assoc, append-nil, length-append}
use Rattle.std.specs.Prelude.{slice_range, All}
use Rattle.std.proofs.lemmas.List.{drop-append-le, take_at, length-drop, drop_all, get_or-append_right, take_more}
use Rattle.std.proofs.lemmas.List.{take-take, length-take}
use Rattle.std.proofs.lemmas.List.Elements.{All-nil, All-push, All-take}
use Rattle.tx_lines.specs.declared.cut.Cut.{Cut}
use Rattle.tx_layout.specs.declared.layout.Line.{Line}
use Rattle.tx_layout.specs.declared.paging.Paginator.{Paginator}
use Rattle.tx_layout.specs.Paging.{EndsPage, Unmarked, IsPage, PagesFrom}
use Rattle.tx_layout.specs.Told.{HasTold}
use Rattle.tx_layout.proofs.Slices.{all_one}

pub nothing_told : (height : ℕ) (p : Paginator) → 5 ≤ height → p.height ≡ height → p.from ≡ 0 → p.count ≡ 0
    → p.ended.items ≡ [] → HasTold [] height p
nothing_told height p some h f c e = record {
  number = c;
  height_is = h;
  begun = omega arith;
  short = omega arith;
  unmarked = subst (All Unmarked) (sym (drop_all p.from [] (omega arith))) (All-nil Unmarked);
  ended = λ more later t.
      subst (λ (cs : List Cut). PagesFrom more height 0 (cs ++ later)) (sym e)
      (subst (λ (n : ℕ). PagesFrom more height n later) f t);
}

-- where the fields are unchanged, the same lines were given
pub still_told : (lines : List Line) (height : ℕ) (p q : Paginator) → HasTold lines height p → q.height ≡ p.height
    → q.from ≡ p.from → q.count ≡ p.count → q.ended.items ≡ p.ended.items → HasTold lines height q
still_told lines height p q told h f c e = record {
  number = c ∙ told.number;
  height_is = h ∙ told.height_is;
  begun = omega (arith, told.begun, f);
  short = omega (arith, told.short, f);
  unmarked = subst (λ (n : ℕ). All Unmarked (drop n lines)) (sym f) told.unmarked;
  ended = λ more later t.
      subst (λ (cs : List Cut). PagesFrom (lines ++ more) height 0 (cs ++ later)) (sym e)
      (told.ended more later (subst (λ (n : ℕ). PagesFrom (lines ++ more) height n later) f t));
}

one_more : (lines : List Line) (line : Line) → length (lines ++ line ∷ []) ≡ length lines + 1
one_more lines line = length-append lines (line ∷ [])

-- one line more, after which its page goes on
pub goes_on : (lines : List Line) (line : Line) (height : ℕ) (p q : Paginator) → HasTold lines height p
    → q.height ≡ p.height → q.from ≡ p.from → q.count ≡ p.count + 1 → q.ended.items ≡ p.ended.items → Unmarked line
    → p.count + 1 < p.from + p.height → HasTold (lines ++ line ∷ []) height q
goes_on lines line height p q told h f c e plain room =
    let many : length (lines ++ line ∷ []) ≡ length lines + 1 = one_more lines line in
    let rest : drop p.from (lines ++ line ∷ []) ≡ drop p.from lines ++ line ∷ [] =
    drop-append-le p.from lines (line ∷ []) told.begun in
    record {
      number = omega (arith, many, told.number, c);
      height_is = h ∙ told.height_is;
      begun = omega (arith, many, told.begun, f);
      short = omega (arith, many, told.number, told.height_is, room, f);
      unmarked =
          subst (λ (n : ℕ). All Unmarked (drop n (lines ++ line ∷ []))) (sym f)
          (subst (All Unmarked) (sym rest) (All-push Unmarked (drop p.from lines) line told.unmarked plain));
      ended = λ more later t.
          let whole : lines ++ line ∷ [] ++ more ≡ lines ++ line ∷ more = append_assoc lines (line ∷ []) more in
          subst (λ (ls : List Line). PagesFrom ls height 0 (q.ended.items ++ later)) (sym whole)
          (subst (λ (cs : List Cut). PagesFrom (lines ++ line ∷ more) height 0 (cs ++ later)) (sym e)
          (told.ended (line ∷ more) later
          (subst (λ (n : ℕ). PagesFrom (lines ++ line ∷ more) height n later) f
          (subst (λ (ls : List Line). PagesFrom ls height q.from later) whole t))));
    }

-- what is after a place, where others follow
front : {X : Type 0} (xs ys : List X) (from : ℕ) → from ≤ length xs
    → slice_range (xs ++ ys) from (length xs) ≡ drop from xs
front xs ys from le =
    ap (take (length xs - from)) (drop-append-le from xs ys le)
    ∙ take_at (drop from xs) ys (length xs - from) (length-drop from xs)

-- the page that a line ends
page_ended : (lines : List Line) (line : Line) (height : ℕ) (p : Paginator) (more : List Line) → HasTold lines height p
    → EndsPage line ⊎ (p.from + p.height ≤ p.count + 1)
    → IsPage (lines ++ line ∷ more) height (record { from = p.from; to = p.count + 1 })
page_ended lines line height p more told ends =
    let all : List Line = lines ++ line ∷ more in
    let many : length all ≡ length lines + (length more + 1) = omega (arith, length-append lines (line ∷ more)) in
    let last : p.count + 1 - 1 ≡ length lines = omega (arith, told.number) in
    let back : p.count + 1 - 1 ≡ p.count = omega arith in
    let none : p.count - p.count ≡ 0 = omega arith in
    let here : line ≡ get_or all p.count line =
    sym (get_or-append_right lines (line ∷ more) p.count p.count line (sym told.number) (omega arith)
    ∙ ap (λ k. get_or (line ∷ more) k line) none) in
    record {
      some = omega (arith, told.begun, told.number);
      within = omega (arith, many, told.number);
      fits = omega (arith, told.short, told.number);
      unmarked =
          subst (All Unmarked)
          (sym (ap (λ n. slice_range all p.from n) last ∙ front lines (line ∷ more) p.from told.begun)) told.unmarked;
      full = λ later.
          elim ends [
            | inl marked ↦
                inr (subst (λ (n : ℕ). All EndsPage (slice_range all n (p.count + 1))) (sym back)
                (all_one EndsPage all p.count line (omega (arith, many, told.number)) here marked))
            | inr high ↦ inl (omega (arith, high, told.short, told.number, told.height_is))
          ];
    }

-- one line more, after which a page ends
pub ends_page : (lines : List Line) (line : Line) (height : ℕ) (p q : Paginator) → HasTold lines height p
    → q.height ≡ p.height → q.from ≡ p.count + 1 → q.count ≡ p.count + 1
    → q.ended.items ≡ p.ended.items ++ record { from = p.from; to = p.count + 1 } ∷ []
    → EndsPage line ⊎ (p.from + p.height ≤ p.count + 1) → HasTold (lines ++ line ∷ []) height q
ends_page lines line height p q told h f c e ends =
    let many : length (lines ++ line ∷ []) ≡ length lines + 1 = one_more lines line in
    let page : Cut = record { from = p.from; to = p.count + 1 } in
    record {
      number = omega (arith, many, told.number, c);
      height_is = h ∙ told.height_is;
      begun = omega (arith, many, told.number, f);
      short = omega (arith, many, told.number, told.begun, told.short, f);
      unmarked =
          subst (All Unmarked) (sym (drop_all q.from (lines ++ line ∷ []) (omega (arith, many, told.number, f))))
          (All-nil Unmarked);
      ended = λ more later t.
          let whole : lines ++ line ∷ [] ++ more ≡ lines ++ line ∷ more = append_assoc lines (line ∷ []) more in
          let cuts : q.ended.items ++ later ≡ p.ended.items ++ page ∷ later =
          ap (λ cs. cs ++ later) e ∙ append_assoc p.ended.items (page ∷ []) later in
          subst (λ (ls : List Line). PagesFrom ls height 0 (q.ended.items ++ later)) (sym whole)
          (subst (λ (cs : List Cut). PagesFrom (lines ++ line ∷ more) height 0 cs) (sym cuts)
          (told.ended (line ∷ more) (page ∷ later) (
            refl,
            page_ended lines line height p more told ends,
            subst (λ (n : ℕ). PagesFrom (lines ++ line ∷ more) height n later) f
                (subst (λ (ls : List Line). PagesFrom ls height q.from later) whole t),
          )));
    }

-- ---- several lines

-- the lines of a slice up to one more
pub more_lines : (before lines : List Line) (i : ℕ) (line : Line) → i < length lines → line ≡ get_or lines i line
    → before ++ take i lines ++ line ∷ [] ≡ before ++ take (i + 1) lines
more_lines before lines i line lt is =
    append_assoc before (take i lines) (line ∷ [])
    ∙ ap (λ ls. before ++ ls) (sym (take_more lines i line lt ∙ ap (λ l. take i lines ++ l ∷ []) (sym is)))

-- what begins with a list that begins with another begins with this one
pub begins_still : {X : Type 0} (xs ys zs : List X) → take (length xs) ys ≡ xs → take (length ys) zs ≡ ys
    → take (length xs) zs ≡ xs
begins_still xs ys zs h k =
    let short : length xs ≤ length ys = omega (arith, sym (length-take (length xs) ys) ∙ ap length h) in
    sym (take-take (length xs) (length ys) zs short) ∙ ap (take (length xs)) k ∙ h

-- ---- the end

all_told : (lines : List Line) (height : ℕ) (p : Paginator) (later : List Cut) → HasTold lines height p
    → PagesFrom lines height p.from later → PagesFrom lines height 0 (p.ended.items ++ later)
all_told lines height p later told t =
    subst (λ (ls : List Line). PagesFrom ls height 0 (p.ended.items ++ later)) (append-nil lines)
    (told.ended [] later (subst (λ (ls : List Line). PagesFrom ls height p.from later) (sym (append-nil lines)) t))

pub finished : (lines : List Line) (height : ℕ) (p : Paginator) (pages : List Cut) → HasTold lines height p
    → pages ≡ p.ended.items → p.count ≤ p.from → PagesFrom lines height 0 pages
finished lines height p pages told e past =
    subst (λ (cs : List Cut). PagesFrom lines height 0 cs) (append-nil p.ended.items ∙ sym e)
    (all_told lines height p [] told (omega (arith, told.begun, told.number)))

pub finished_with : (lines : List Line) (height : ℕ) (p : Paginator) (pages : List Cut) → HasTold lines height p
    → pages ≡ p.ended.items ++ record { from = p.from; to = p.count } ∷ [] → p.from < p.count
    → PagesFrom lines height 0 pages
finished_with lines height p pages told e some =
    let page : Cut = record { from = p.from; to = p.count } in
    subst (λ (cs : List Cut). PagesFrom lines height 0 cs) (sym e)
    (all_told lines height p (page ∷ []) told (
      refl,
      record {
        some = some;
        within = omega (arith, told.number);
        fits = omega (arith, told.short, told.number);
        unmarked = All-take Unmarked (p.count - 1 - p.from) (drop p.from lines) told.unmarked;
        full = λ later. absurd (omega (arith, later, told.number));
      },
      told.number,
    ))
