use Rattle.std.proofs.Common.{◌≡◌, ℕ, ◌+◌, ◌-◌, ◌<◌, ◌≤◌, Bool, true, false, not, List, ◌∷◌, length, drop, get_or}
use Rattle.std.proofs.Common.{Option, Some, None, refl, sym, ap, ap₂, ◌∙◌, arith, eqb}
use Rattle.std.specs.Prelude.{slice_get}
use Rattle.std.specs.Option.{option_eq}
use Rattle.std.specs.Str.{bytes_eq}
use Rattle.std.proofs.lemmas.Bool.Decides.{Decides-eqb}
use Rattle.std.proofs.lemmas.List.{drop_more}
use Rattle.std.proofs.lemmas.Option.{slice_get_within, slice_get-get_or, get_or_from_slice_get}
use Rattle.std.proofs.lemmas.Slice.Eq.{bytes_eq-Decides}
use Rattle.tx_view.proofs.ends.is_origin.Goals as goal

-- whether this is the step
is_step : (o : Option ℕ) (v : ℕ) (b : Bool) → b ≡ not (option_eq eqb o (Some v)) → b ≡ false → o ≡ Some v
is_step None v b e f = absurd cc
is_step (Some w) v b e f = by (eqb w v) refl (sym e ∙ f)
  where
    by : (t : Bool) → eqb w v ≡ t → not t ≡ false → Some w ≡ Some v
    by true g h = ap Some ((Decides-eqb w v).0 g)
    by false g h = absurd cc

isnt_step : (o : Option ℕ) (v : ℕ) (b : Bool) → b ≡ not (option_eq eqb o (Some v)) → b ≡ true → o ≡ Some v → ⊥
isnt_step o v b e f g =
    let same : option_eq eqb o (Some v) ≡ true = ap (λ p. option_eq eqb p (Some v)) g ∙ (Decides-eqb v v).1 refl in
    let both : true ≡ false = sym f ∙ e ∙ ap not same in
    absurd cc

differ_at : (xs ys : List ℕ) (i : ℕ) → i < length xs → (slice_get ys i ≡ Some (get_or xs i 0) → ⊥)
    → false ≡ bytes_eq xs ys
differ_at xs ys i lt other = by (bytes_eq xs ys) refl
  where
    by : (b : Bool) → bytes_eq xs ys ≡ b → false ≡ b
    by false e = refl
    by true e =
        absurd (other (ap (λ zs. slice_get zs i) (sym ((bytes_eq-Decides xs ys).0 e)) ∙ slice_get-get_or xs i 0 lt))

one_more : (xs ys : List ℕ) (i : ℕ) → i < length xs → slice_get ys i ≡ Some (get_or xs i 0)
    → drop (i + 1) xs ≡ drop (i + 1) ys → drop i xs ≡ drop i ys
one_more xs ys i lt e same =
    drop_more xs i 0 lt
    ∙ ap₂ (λ z zs. z ∷ zs) (sym (get_or_from_slice_get ys i (get_or xs i 0) 0 e)) same
    ∙ sym (drop_more ys i 0 (slice_get_within ys i (get_or xs i 0) e))

pub returns-then-ne : goal.returns-then-ne
returns-then-ne c =
    differ_at c.args.steps.now c.args.origin.now (c.loop-end.end - 1)
    (omega (arith, c.loop-end-test.true, c.loop-end.invariant.within))
    (λ e. isnt_step c.step.result (get_or c.args.steps.now (c.loop-end.end - 1) 0) c.ne.result c.ne.ensures
    c.if-ne.true (c.step.ensures ∙ e))

pub loop-end-preserved : goal.loop-end-preserved
loop-end-preserved c =
    let next : c.loop-end.end ≡ c.loop-end.end - 1 + 1 = omega (arith, c.loop-end-test.true) in record {
      within = omega (arith, c.loop-end.invariant.within);
      same =
          one_more c.args.steps.now c.args.origin.now (c.loop-end.end - 1)
          (omega (arith, c.loop-end-test.true, c.loop-end.invariant.within))
          (sym c.step.ensures
          ∙ is_step c.step.result (get_or c.args.steps.now (c.loop-end.end - 1) 0) c.ne.result c.ne.ensures
          c.if-ne.false)
          (ap (λ n. drop n c.args.steps.now) (sym next) ∙ c.loop-end.invariant.same
          ∙ ap (λ n. drop n c.args.origin.now) next);
    }
