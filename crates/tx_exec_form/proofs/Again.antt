-- What does the same again where its looks agree has one trace there.
use Rattle.std.proofs.Common.{◌≡◌, ℕ, ◌-◌, ◌<◌, ◌≤◌, max, ◌⊎◌, inl, inr, ap, refl, sym, subst, ◌∙◌, arith}
use Rattle.std.specs.Prelude.{Option, Some, None}
use Rattle.std.proofs.lemmas.Bool.{cases_lt}
use Rattle.tx_exec_form.specs.Maps.{LookMap}
use Rattle.tx_exec_form.specs.Runs.{Before, State, Done, Run}
use Rattle.tx_exec_form.specs.Evaluated.{start}
use Rattle.tx_exec_form.specs.Laws.{Agrees}
use Rattle.tx_exec_form.proofs.Agreeing.{agrees_nothing}
use Rattle.tx_exec_form.proofs.Follows.{Held, Holds, Follows}

-- ---- from the start

module _ {A : Type 0} (m : ℕ → Run A) (follows : (k k' : ℕ) → Follows k k' (m k) (m k')) where
  -- with nothing looked up yet
  pub held : (k k' c : ℕ) (e : Before) (a : A) (s : State) → m k e (start k c) ≡ Done a s →
      Held k k' (m k') e (start k c) a s
  held k k' c e a s q =
      subst (Holds k k' (m k') e (start k c)) q ((follows k k').runs e (start k c) (agrees_nothing e))

  -- wherever the steps and the levels that it took are allowed
  pub again : (k c : ℕ) (e : Before) (a : A) (s : State) → m k e (start k c) ≡ Done a s →
      (k' c' : ℕ) (e' : Before) → Agrees e' s.looks → c - s.left ≤ c' → k - s.slack ≤ k' →
      m k' e' (start k' c') ≡
      Done a (record s { left = c' - (c - s.left); slack = k' - (k - s.slack) })
  again k c e a s q k' c' e' agrees enough high = by (held k k' c e a s q)
    where
      by : Held k k' (m k') e (start k c) a s → m k' e' (start k' c') ≡
          Done a (record s { left = c' - (c - s.left); slack = k' - (k - s.slack) })
      by h =
          let fewer : s.left ≤ c = h.fewer in
          let tighter : s.slack ≤ k = h.tighter in
          h.again e' c' (c' - (c - s.left)) k' (k' - (k - s.slack)) agrees
          (omega (arith, enough, fewer)) (omega arith) (omega (arith, high, tighter))

  pub left_fits : (k c : ℕ) (e : Before) (a : A) (s : State) → m k e (start k c) ≡ Done a s →
      (s.left ≤ c) × (s.slack ≤ k)
  left_fits k c e a s q = let h : Held k k (m k) e (start k c) a s = held k k c e a s q in (h.fewer, h.tighter)

-- the steps and levels that were taken, of others
pub taken_again : (c c' left : ℕ) → left ≤ c → c - left ≤ c' → c' - (c' - (c - left)) ≡ c - left
taken_again c c' left p q = omega (arith, p, q)

-- ---- traces

module _ {T : Type 0} (looks : T → LookMap) (cost height : T → ℕ) (evaluated : ℕ → ℕ → Before → Option T) where
  -- in every environment that agrees with its looks
  abbrev pub Backs : T → Type 0
  Backs trace = (k c : ℕ) (e : Before) → Agrees e (looks trace) → cost trace ≤ c → height trace ≤ k →
      evaluated k c e ≡ Some trace

  abbrev pub Passes : ℕ → ℕ → Before → Type 0
  Passes k c e = (trace : T) → Backs trace → Agrees e (looks trace) → (c < cost trace) ⊎ (k < height trace)

  module _ (backs : (k c : ℕ) (e : Before) (trace : T) → evaluated k c e ≡ Some trace → Backs trace)
      (agrees : (k c : ℕ) (e : Before) (trace : T) → evaluated k c e ≡ Some trace → Agrees e (looks trace))
      (allowed : (k c : ℕ) (e : Before) (trace : T) → evaluated k c e ≡ Some trace →
      (cost trace ≤ c) × (height trace ≤ k)) where
    -- two traces in environments that agree with the looks of both are one
    one_trace : (a b : T) (k c : ℕ) (e : Before) → Backs a → Backs b → Agrees e (looks a) → Agrees e (looks b) →
        cost a ≤ c → cost b ≤ c → height a ≤ k → height b ≤ k → a ≡ b
    one_trace a b k c e h g p q r s u v =
        let first : evaluated k c e ≡ Some a = h k c e p r u in
        let second : evaluated k c e ≡ Some b = g k c e q s v in
        let same : Some a ≡ Some b = sym first ∙ second in
        cc

    over_of : (trace : T) (k c : ℕ) (e : Before) (o : Option T) → evaluated k c e ≡ o → Backs trace →
        Agrees e (looks trace) → (c < cost trace) ⊎ (k < height trace) → o ≡ None
    over_of trace k c e None q h p few = refl
    over_of trace k c e (Some found) q h p few =
        let bounds : (cost found ≤ c) × (height found ≤ k) = allowed k c e found q in
        let same : trace ≡ found =
        one_trace trace found (max k (height trace)) (max c (cost trace)) e h (backs k c e found q) p
        (agrees k c e found q) (omega arith) (omega (arith, bounds.0)) (omega arith) (omega (arith, bounds.1)) in
        let costs : cost trace ≡ cost found = ap cost same in
        let heights : height trace ≡ height found = ap height same in
        elim few as (λ _. Some found ≡ None) [
          | inl less ↦ absurd (omega (
            arith,
            less,
            costs,
            bounds.0,
          ))
          | inr less ↦ absurd (omega (arith, less, heights, bounds.1))
        ]

    -- with fewer steps or levels it runs out
    pub over_past : (trace : T) (k c : ℕ) (e : Before) → Backs trace → Agrees e (looks trace) →
        (c < cost trace) ⊎ (k < height trace) → evaluated k c e ≡ None
    over_past trace k c e h p few = over_of trace k c e (evaluated k c e) refl h p few

    -- a trace that costs no more and is no higher would be there
    past_by : (k c : ℕ) (e : Before) (trace : T) → evaluated k c e ≡ None → Backs trace → Agrees e (looks trace) →
        (c < cost trace) ⊎ (cost trace ≤ c) → (k < height trace) ⊎ (height trace ≤ k) →
        (c < cost trace) ⊎ (k < height trace)
    past_by k c e trace none h g (inl few) q = inl few
    past_by k c e trace none h g (inr enough) (inl low) = inr low
    past_by k c e trace none h g (inr enough) (inr high) = let off : None ≡ Some trace =
        sym none ∙ h k c e g enough high in absurd cc

    pub none_passes : (k c : ℕ) (e : Before) → evaluated k c e ≡ None → Passes k c e
    none_passes k c e none =
        λ trace h g. past_by k c e trace none h g (cases_lt c (cost trace)) (cases_lt k (height trace))

    passes_by : (k c : ℕ) (e : Before) (o : Option T) → evaluated k c e ≡ o → Passes k c e → o ≡ None
    passes_by k c e None q h = refl
    passes_by k c e (Some trace) q h =
        let bounds : (cost trace ≤ c) × (height trace ≤ k) = allowed k c e trace q in
        elim (h trace (backs k c e trace q) (agrees k c e trace q)) as
        (λ _. Some trace ≡ None) [
          | inl few ↦ absurd (omega (arith, few, bounds.0))
          | inr low ↦ absurd (omega (
            arith,
            low,
            bounds.1,
          ))
        ]

    pub passes_none : (k c : ℕ) (e : Before) → Passes k c e → evaluated k c e ≡ None
    passes_none k c e h = passes_by k c e (evaluated k c e) refl h
