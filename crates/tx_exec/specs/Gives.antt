-- What a function of the evaluator returns is what the definition gives.
use Rattle.std.specs.Prelude.{◌≡◌, ℕ, ◌+◌, Option, Some, None, Result, Ok, Err}
use Rattle.tx_exec_form.specs.Runs.{State, Ran, Over, Done}
use Rattle.tx_exec.specs.declared.stop.Stop.{Stop}
use Rattle.tx_exec.specs.declared.stop.Stop.TheVariants as stops

abbrev pub Fails : {A : Type 0} → Stop → Ran A → Type 0
Fails stops.Memory r = Unit {0}
Fails stops.Over r = r ≡ Over

-- unless memory ran out
abbrev pub Gives : {X A : Type 0} → (X → A) → Result X Stop → Ran A → State → Type 0
Gives view (Ok x) r s = r ≡ Done (view x) s
Gives view (Err e) r s = Fails e r

-- the whole goes on with the rest where there is no value yet
abbrev pub GoesOn : {X : Type 0} → Result (Option X) Stop → Ran X → Ran X → State → Type 0
GoesOn (Ok None) whole rest s = whole ≡ rest
GoesOn (Ok (Some x)) whole rest s = whole ≡ Done x s
GoesOn (Err e) whole rest s = Fails e whole

-- the whole goes on as what was found says
abbrev pub LeadsOn : {X A : Type 0} → Result X Stop → Ran A → (X → Ran A) → Type 0
LeadsOn (Ok x) whole rest = whole ≡ rest x
LeadsOn (Err e) whole rest = Fails e whole

abbrev pub CountsAtStop : Stop → ℕ → ℕ → Type 0
CountsAtStop stops.Memory a b = Unit {0}
CountsAtStop stops.Over a b = b ≡ a

-- the steps taken and those that are left are as many as before, unless memory ran out
abbrev pub Counts : {X : Type 0} → Result X Stop → ℕ → ℕ → Type 0
Counts (Ok x) a b = b ≡ a
Counts (Err e) a b = CountsAtStop e a b

-- as `Counts`, where so many steps are counted later
abbrev pub CountsBut : {X : Type 0} → ℕ → Result X Stop → ℕ → ℕ → Type 0
CountsBut later (Ok x) a b = b + later ≡ a
CountsBut later (Err e) a b = CountsAtStop e a b
