-- The stops near a place lead left and right as all stops do.
use Rattle.std.proofs.Common.{◌≡◌, ◌≢◌, ℕ, zero, suc, List, Option, Some, None, Result, Ok, Err, refl, ap, sym, ◌∙◌}
use Rattle.std.proofs.Common.{subst}
use Rattle.std.specs.Prelude.{IfOk, IfErr}
use Rattle.std.specs.Option.{option_map_or}
use Rattle.tx_tree.specs.declared.places.Place.{Place}
use Rattle.tx_edit.specs.declared.faults.EditFault.{EditFault}
use Rattle.tx_edit.specs.declared.faults.EditFault.TheVariants.{AtStart, AtEnd, Memory}
use Rattle.tx_edit.specs.declared.moves.Move.{Move}
use Rattle.tx_edit.specs.declared.moves.Move.TheVariants.{Go}
use Rattle.tx_edit.specs.Stops.{to_left_of, to_left, to_right_of, to_right}
use Rattle.tx_tree.specs.SamePlaces.{stop_number}
use Rattle.tx_view.specs.Near.{AreNear}
use Rattle.tx_view.proofs.Near.{stop_before, stop_behind, same_before, same_behind}
use Rattle.tx_session.specs.Asking.{Makes}
use Rattle.tx_session.proofs.Answered.{makes}

-- to a stop, if there is one
abbrev going : EditFault → Option Place → Result Move EditFault
going cause o = option_map_or (λ stop. Ok (Go stop)) o (Err cause)

left_by : (ps : List Place) (n : Option ℕ) → to_left_of ps n ≡ going AtStart (stop_before ps n)
left_by ps None = refl
left_by ps (Some zero) = refl
left_by ps (Some (suc k)) = refl

right_by : (ps : List Place) (n : Option ℕ) → to_right_of ps n ≡ going AtEnd (stop_behind ps n)
right_by ps None = refl
right_by ps (Some k) = refl

left_nearby : (all near : List Place) (at : Place) → AreNear all near at → to_left near at ≡ to_left all at
left_nearby all near at h =
    left_by near (stop_number near at) ∙ ap (going AtStart) (same_before all near at h)
    ∙ sym (left_by all (stop_number all at))

right_nearby : (all near : List Place) (at : Place) → AreNear all near at → to_right near at ≡ to_right all at
right_nearby all near at h =
    right_by near (stop_number near at) ∙ ap (going AtEnd) (same_behind all near at h)
    ∙ sym (right_by all (stop_number all at))

-- what a key that leads to the same stop makes of the stops near the cursor, as it finds both
nearby : (key : List Place → Place → Result Move EditFault)
    → ((all near : List Place) (at : Place) → AreNear all near at → key near at ≡ key all at)
    → (all near found : List Place) (at to : Place) (made : Result Move EditFault) → AreNear all near at
    → found ≡ near → at ≡ to → IfOk made (λ m. key found at ≡ Ok m)
    → IfErr made (λ e. e ≢ Memory → key found at ≡ Err e) → Makes made (key all to)
nearby key same all near found at to made h e f done refused =
    subst (Makes made) (same all near to (subst (AreNear all near) f h))
    (makes key found near at to made e f done refused)

pub makes_left : (all near found : List Place) (at to : Place) (made : Result Move EditFault) → AreNear all near at
    → found ≡ near → at ≡ to → IfOk made (λ m. to_left found at ≡ Ok m)
    → IfErr made (λ e. e ≢ Memory → to_left found at ≡ Err e) → Makes made (to_left all to)
makes_left = nearby to_left left_nearby

pub makes_right : (all near found : List Place) (at to : Place) (made : Result Move EditFault) → AreNear all near at
    → found ≡ near → at ≡ to → IfOk made (λ m. to_right found at ≡ Ok m)
    → IfErr made (λ e. e ≢ Memory → to_right found at ≡ Err e) → Makes made (to_right all to)
makes_right = nearby to_right right_nearby
