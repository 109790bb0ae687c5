-- Results of a last call, which are returned as they are.
use Rattle.std.specs.Prelude.{OnOk, OnErr, IfOk}
use Rattle.std.specs.declared.result.Result.{Result}
use Rattle.std.specs.declared.result.Result.TheVariants.{Ok, Err}

-- what holds after either end holds
pub on_either : {T E P Q R : Type 0} (r : Result T E) → (P → R) → (Q → R) → OnOk r P → OnErr r Q → R
on_either (Ok x) f g h k = f h
on_either (Err e) f g h k = g k

-- what follows from both, where it ends well
pub if_ok_both : {T E P : Type 0} (r : Result T E) (Q R : T → Type 0) → ((x : T) → P → Q x → R x) → OnOk r P
    → IfOk r Q → IfOk r R
if_ok_both (Ok x) Q R f h k = f x h k
if_ok_both (Err e) Q R f h k = tt

pub if_ok_on : {T E P : Type 0} (r : Result T E) (R : T → Type 0) → ((x : T) → P → R x) → OnOk r P → IfOk r R
if_ok_on (Ok x) R f h = f x h
if_ok_on (Err e) R f h = tt

pub if_ok_each : {T E : Type 0} (r : Result T E) (R : T → Type 0) → ((x : T) → R x) → IfOk r R
if_ok_each (Ok x) R f = f x
if_ok_each (Err e) R f = tt
