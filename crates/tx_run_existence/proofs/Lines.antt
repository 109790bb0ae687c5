-- Bytes have lines, and lines before `quit` are none.
use Rattle.std.proofs.Common.{◌≡◌, ◌≢◌, ℕ, ◌+◌, Bool, true, false, not, cond, List, [], ◌∷◌, take, inl, inr, refl, ap}
use Rattle.std.proofs.Common.{ap₂, subst, arith, suc}
use Rattle.std.specs.List.{AllByRecursion, prefix_len}
use Rattle.std.proofs.lemmas.Bool.{cases_eq}
use Rattle.std.proofs.lemmas.List.Elements.{All-nil, All-cons, All-head, All-tail}
use Rattle.tx_session.specs.Scripts.{IsOneLine, HasEndedLines, is_quit, before_quit}

pub record HasLines (bytes : List ℕ) : Type 0 where
  pub ended : List (List ℕ)
  pub rest : List ℕ
  pub lines : HasEndedLines bytes ended rest

abbrev Plain : ℕ → Type 0
Plain b = b ≢ 10

-- one byte more at the front that ends no line
longer : (b : ℕ) (bs : List ℕ) (ended : List (List ℕ)) (rest : List ℕ) → Plain b → HasEndedLines bs ended rest
    → HasLines (b ∷ bs)
longer b bs [] rest other h = record {
  ended = [];
  rest = b ∷ rest;
  lines = record {
    whole = ap (λ z. b ∷ z) h.whole;
    each = h.each;
    last = All-cons Plain b rest other h.last;
  };
}
longer b bs (first ∷ ended) rest other h = record {
  ended = (b ∷ first) ∷ ended;
  rest = rest;
  lines = record {
    whole = ap (λ z. b ∷ z) h.whole;
    each = All-cons IsOneLine (b ∷ first) ended (All-cons Plain b first other (All-head IsOneLine first ended h.each))
        (All-tail IsOneLine first ended h.each);
    last = h.last;
  };
}

pub has_lines : (bytes : List ℕ) → HasLines bytes
has_lines [] = record {
  ended = [];
  rest = [];
  lines = record { whole = refl; each = All-nil IsOneLine; last = All-nil Plain };
}
has_lines (b ∷ bs) =
    let more = has_lines bs in
    elim (cases_eq b 10) [
      | inl ends ↦ record {
        ended = [] ∷ more.ended;
        rest = more.rest;
        lines = record {
          whole = ap₂ (λ c cs. c ∷ cs) ends more.lines.whole;
          each = All-cons IsOneLine [] more.ended (All-nil Plain) more.lines.each;
          last = more.lines.last;
        };
      }
      | inr other ↦ longer b bs more.ended more.rest other more.lines
    ]

abbrev pub IsNoQuit : List ℕ → Type 0
IsNoQuit text = is_quit text ≡ false

pub none_quits : (lines : List (List ℕ)) → AllByRecursion IsNoQuit (before_quit lines)
none_quits [] = tt
none_quits (x ∷ lines) = by_test (is_quit x) refl (none_quits lines)
  where
    front : ℕ
    front = prefix_len (λ l. not (is_quit l)) lines

    by_test : (b : Bool) → is_quit x ≡ b → AllByRecursion IsNoQuit (before_quit lines)
        → AllByRecursion IsNoQuit (take (cond (not b) (1 + front) 0) (x ∷ lines))
    by_test true e later = tt
    by_test false e later =
        let more : suc front ≡ 1 + front = omega arith in
        subst (λ n. AllByRecursion IsNoQuit (take n (x ∷ lines))) more (e, later)
