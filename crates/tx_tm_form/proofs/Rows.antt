-- The byte at which the machine with marks stops is the fault that it finds.
use Rattle.std.proofs.Common.{◌≡◌, ◌⊎◌, inl, inr, ℕ, Bool, true, false, ◌==◌, ◌||◌, if◌then◌else◌, List, refl, sym, ap}
use Rattle.std.proofs.Common.{subst}
use Rattle.std.proofs.lemmas.Bool.{and_parts}
use Rattle.tx_tree.specs.declared.faults.ReadFault.TheVariants.{Stray, BadEscape, BadLabel, BadText}
use Rattle.tx_tm_form.specs.declared.places.TagForm.TheVariants.{Short, Long, Middle, Closing}
use Rattle.tx_tm_form.specs.declared.marks.Inside.{Inside}
use Rattle.tx_tm_form.specs.declared.marks.Inside.TheVariants.{Parts, Symbol, Digits}
use Rattle.tx_tm_form.specs.Tokens.{Token}
use Rattle.tx_tm_form.specs.Machine.{Lex, ready, slashed, returned, angled, labelled}
use Rattle.tx_tm_form.specs.Marks.{Standing, is_symbol, is_parts, begins_marks, lex_goes_on, mismatch, fault_by}
use Rattle.tx_tm_form.specs.Faults.{IsInSymbol, IsInRepeated, IsInLabel, IsNoForm, IsEscapeOpen, IsJoinOpen}
use Rattle.tx_tm_form.specs.Faults.{IsSymbolOpen, IsByteFault}
use Rattle.tx_tm_form.proofs.Standing.{IsTaken, HasTag}

-- ---- rows that do not hold

abbrev Repeated : List ℕ → Type 0
Repeated x = (tokens : List Token) × IsInRepeated x tokens

no_repeated : (x : List ℕ) (q : Lex) (z : Standing) → IsTaken x q z → ((l : List ℕ) → q ≡ labelled Middle l → ⊥)
    → ((l : List ℕ) → q ≡ labelled Closing l → ⊥) → Repeated x → ⊥
no_repeated x q z h a b (ts, (l, inl s)) = a l (h.once (labelled Middle l) ts s).0
no_repeated x q z h a b (ts, (l, inr s)) = b l (h.once (labelled Closing l) ts s).0

no_label : (x : List ℕ) (q : Lex) (z : Standing) → IsTaken x q z → ((l : List ℕ) → q ≡ labelled Short l → ⊥)
    → ((l : List ℕ) → q ≡ labelled Long l → ⊥) → IsInLabel x → ⊥
no_label x q z h a b (ts, l, inl s) = a l (h.once (labelled Short l) ts s).0
no_label x q z h a b (ts, l, inr s) = b l (h.once (labelled Long l) ts s).0

no_form : (x : List ℕ) (q : Lex) (z : Standing) (b : ℕ) → IsTaken x q z → (q ≡ angled → ⊥) → IsNoForm x b → ⊥
no_form x q z b h a k = a (h.once angled k.0 k.1).0

no_escape : (x : List ℕ) (q : Lex) (z : Standing) → IsTaken x q z → (q ≡ slashed → ⊥) → IsEscapeOpen x → ⊥
no_escape x q z h a k = a (h.once slashed k.0 k.1).0

no_join : (x : List ℕ) (q : Lex) (z : Standing) → IsTaken x q z → (q ≡ returned → ⊥) → IsJoinOpen x → ⊥
no_join x q z h a k = a (h.once returned k.0 k.1).0

no_symbol : (x : List ℕ) (q : Lex) (z : Standing) → IsTaken x q z → is_symbol z.inside ≡ false → IsSymbolOpen x → ⊥
no_symbol x q z h e k = h.no_symbol e (subst IsInSymbol (sym (h.once k.1 k.0 k.2).1) k.3)

-- a backslash in a symbol is none outside
not_outside : (x : List ℕ) (q : Lex) (z : Standing) → IsTaken x q z → is_symbol z.inside ≡ true → IsEscapeOpen x → ⊥
not_outside x q z h e k = k.2 (subst IsInSymbol (h.once slashed k.0 k.1).1 (h.symbol e))

is_outside : (x : List ℕ) (z : Standing) → IsTaken x slashed z → is_symbol z.inside ≡ false → IsEscapeOpen x
is_outside x z h e = (h.tokens, h.scanned, h.no_symbol e)

in_symbol : (x : List ℕ) (q : Lex) (z : Standing) → IsTaken x q z → is_symbol z.inside ≡ true → IsSymbolOpen x
in_symbol x q z h e = (h.tokens, q, h.scanned, h.symbol e)

either : (A B : Type 0) → (A → ⊥) → (B → ⊥) → A ⊎ B → ⊥
either A B a b (inl x) = a x
either A B a b (inr x) = b x

unlike : (b c : Bool) → b ≡ true → b ≡ false → ⊥
unlike b c e g = cc

-- ---- the rows

at_ready : (c : Bool) (x : List ℕ) (z : Standing) (b n : ℕ) → IsTaken x ready z → is_symbol z.inside ≡ c
    → IsByteFault x b n (if c then BadText n else Stray n)
at_ready c x z b n h e =
    inr (
      no_repeated x ready z h (λ l k. cc) (λ l k. cc),
      inr (
        either _ _ (no_label x ready z h (λ l k. cc) (λ l k. cc)) (no_form x ready z b h (λ k. cc)),
        inr (either _ _ (λ k. no_escape x ready z h (λ g. cc) k.0) (no_join x ready z h (λ g. cc)), last c e),
      ),
    )
  where
    last : (c : Bool) → is_symbol z.inside ≡ c
        → ((IsSymbolOpen x ⊎ (IsEscapeOpen x × ((b == 62) ≡ true))) × ((if c then BadText n else Stray n) ≡ BadText n))
        ⊎ ((IsSymbolOpen x ⊎ (IsEscapeOpen x × ((b == 62) ≡ true)) → ⊥)
        × ((if c then BadText n else Stray n) ≡ Stray n))
    last true e = inl (inl (in_symbol x ready z h e), refl)
    last false e = inr (either _ _ (no_symbol x ready z h e) (λ k. no_escape x ready z h (λ g. cc) k.0), refl)

at_slashed : (c d : Bool) (x : List ℕ) (z : Standing) (b n : ℕ) → IsTaken x slashed z → is_symbol z.inside ≡ c
    → (b == 62) ≡ d → IsByteFault x b n (if c || d then BadText n else BadEscape n)
at_slashed c d x z b n h e g =
    inr (
      no_repeated x slashed z h (λ l k. cc) (λ l k. cc),
      inr (
        either _ _ (no_label x slashed z h (λ l k. cc) (λ l k. cc)) (no_form x slashed z b h (λ k. cc)),
        last c d e g,
      ),
    )
  where
    last : (c d : Bool) → is_symbol z.inside ≡ c → (b == 62) ≡ d
        → (((IsEscapeOpen x × ((b == 62) ≡ false)) ⊎ IsJoinOpen x)
        × ((if c || d then BadText n else BadEscape n) ≡ BadEscape n))
        ⊎ (((IsEscapeOpen x × ((b == 62) ≡ false)) ⊎ IsJoinOpen x → ⊥)
        × (((IsSymbolOpen x ⊎ (IsEscapeOpen x × ((b == 62) ≡ true)))
        × ((if c || d then BadText n else BadEscape n) ≡ BadText n))
        ⊎ ((IsSymbolOpen x ⊎ (IsEscapeOpen x × ((b == 62) ≡ true)) → ⊥)
        × ((if c || d then BadText n else BadEscape n) ≡ Stray n))))
    last true d e g =
        inr (
          either _ _ (λ k. not_outside x slashed z h e k.0) (no_join x slashed z h (λ k. cc)),
          inl (inl (in_symbol x slashed z h e), refl),
        )
    last false true e g =
        inr (
          either _ _ (λ k. unlike (b == 62) true g k.1) (no_join x slashed z h (λ k. cc)),
          inl (inr (is_outside x z h e, g), refl),
        )
    last false false e g = inl (inl (is_outside x z h e, g), refl)

at_returned : (x : List ℕ) (z : Standing) (b n : ℕ) → IsTaken x returned z → IsByteFault x b n (BadEscape n)
at_returned x z b n h =
    inr (
      no_repeated x returned z h (λ l k. cc) (λ l k. cc),
      inr (
        either _ _ (no_label x returned z h (λ l k. cc) (λ l k. cc)) (no_form x returned z b h (λ k. cc)),
        inl (inr (h.tokens, h.scanned), refl),
      ),
    )

parts_no_symbol : (inside : Inside) → is_parts inside ≡ true → is_symbol inside ≡ false
parts_no_symbol Parts e = refl
parts_no_symbol (Symbol n) e = absurd cc
parts_no_symbol Digits e = refl

at_angled : (d : Bool) (x : List ℕ) (z : Standing) (b n : ℕ) → IsTaken x angled z → is_parts z.inside ≡ true
    → (b == 124 || b == 47) ≡ d → IsByteFault x b n (if d then Stray n else BadLabel n)
at_angled true x z b n h e g =
    inr (
      no_repeated x angled z h (λ l k. cc) (λ l k. cc),
      inr (
        either _ _ (no_label x angled z h (λ l k. cc) (λ l k. cc)) (λ k. unlike (b == 124 || b == 47) true g k.2),
        inr (
          either _ _ (λ k. no_escape x angled z h (λ y. cc) k.0) (no_join x angled z h (λ y. cc)),
          inr (
            either _ _ (no_symbol x angled z h (parts_no_symbol z.inside e))
                (λ k. no_escape x angled z h (λ y. cc) k.0),
            refl,
          ),
        ),
      ),
    )
at_angled false x z b n h e g =
    inr (no_repeated x angled z h (λ l k. cc) (λ l k. cc), inl (inr (h.tokens, h.scanned, g), refl))

in_short : (l x : List ℕ) (z : Standing) (b n : ℕ) → IsTaken x (labelled Short l) z → IsByteFault x b n (BadLabel n)
in_short l x z b n h =
    inr (no_repeated x (labelled Short l) z h (λ l k. cc) (λ l k. cc), inl (inl (h.tokens, l, inl h.scanned), refl))

in_long : (l x : List ℕ) (z : Standing) (b n : ℕ) → IsTaken x (labelled Long l) z → IsByteFault x b n (BadLabel n)
in_long l x z b n h =
    inr (no_repeated x (labelled Long l) z h (λ l k. cc) (λ l k. cc), inl (inl (h.tokens, l, inr h.scanned), refl))

in_repeated : (x : List ℕ) (q : Lex) (z : Standing) (b n : ℕ) (h : IsTaken x q z) → IsInRepeated x h.tokens
    → HasTag h.tokens z.marks → IsByteFault x b n (mismatch z.marks n)
in_repeated x q z b n h k t = inl ((h.tokens, k), (t.0.at, (h.tokens, k, t.3), ap (λ ms. mismatch ms n) t.2))

pub kind_there : (q : Lex) (x : List ℕ) (z : Standing) (b n : ℕ) → IsTaken x q z → lex_goes_on q z.inside z.marks ≡ true
    → IsByteFault x b n (fault_by q z.inside z.marks b n)
kind_there ready x z b n h e = at_ready (is_symbol z.inside) x z b n h refl
kind_there slashed x z b n h e = at_slashed (is_symbol z.inside) (b == 62) x z b n h refl refl
kind_there returned x z b n h e = at_returned x z b n h
kind_there angled x z b n h e = at_angled (b == 124 || b == 47) x z b n h e refl
kind_there (labelled Short l) x z b n h e = in_short l x z b n h
kind_there (labelled Long l) x z b n h e = in_long l x z b n h
kind_there (labelled Middle l) x z b n h e = let p = and_parts (is_parts z.inside) (begins_marks l z.marks) e in
    in_repeated x (labelled Middle l) z b n h (l, inl h.scanned) (h.tag l p.0 p.1)
kind_there (labelled Closing l) x z b n h e = let p = and_parts (is_parts z.inside) (begins_marks l z.marks) e in
    in_repeated x (labelled Closing l) z b n h (l, inr h.scanned) (h.tag l p.0 p.1)
