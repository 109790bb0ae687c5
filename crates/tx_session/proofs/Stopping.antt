-- Left and right lead to stops.
use Rattle.std.proofs.Common.{◌≡◌, ◌+◌, ℕ, zero, suc, List, [], ◌∷◌, Option, Some, None, Result, Ok, Err, refl, subst}
use Rattle.std.specs.Prelude.{slice_get, IfOk}
use Rattle.std.specs.List.{AllByRecursion}
use Rattle.std.specs.Option.{option_map_or}
use Rattle.tx_tree.specs.Places.{IsPlace}
use Rattle.tx_tree.specs.WideTree.{WideTree}
use Rattle.tx_tree.specs.declared.places.Place.{Place}
use Rattle.tx_edit.specs.declared.faults.EditFault.{EditFault}
use Rattle.tx_edit.specs.declared.faults.EditFault.TheVariants.{AtStart, AtEnd}
use Rattle.tx_edit.specs.declared.moves.Move.{Move}
use Rattle.tx_edit.specs.declared.moves.Move.TheVariants.{Go}
use Rattle.tx_edit.specs.Stops.{to_left_of, to_left, to_right_of, to_right}
use Rattle.tx_tree.specs.SamePlaces.{stop_number}
use Rattle.tx_session.specs.Asking.{GoesIn}

-- each is a place of the tree
abbrev pub ArePlaces : WideTree → List Place → Type 0
ArePlaces t = AllByRecursion (λ p. IsPlace t p.path p.offset)

abbrev LeadsIn : WideTree → Result Move EditFault → Type 0
LeadsIn t (Ok m) = GoesIn t m
LeadsIn t (Err fault) = Unit {0}

place_there : (t : WideTree) (stops : List Place) (k : ℕ) (p : Place) → ArePlaces t stops
    → slice_get stops k ≡ Some p → IsPlace t p.path p.offset
place_there t [] zero p h e = absurd cc
place_there t [] (suc k) p h e = absurd cc
place_there t (q ∷ stops) zero p h e =
    let same : q ≡ p = cc in subst (λ z. IsPlace t z.path z.offset) same h.0
place_there t (q ∷ stops) (suc k) p h e = place_there t stops k p h.1 e

stop_leads : (t : WideTree) (stops : List Place) (k : ℕ) (cause : EditFault) (o : Option Place) → ArePlaces t stops
    → slice_get stops k ≡ o → LeadsIn t (option_map_or (λ stop. Ok (Go stop)) o (Err cause))
stop_leads t stops k cause None h e = tt
stop_leads t stops k cause (Some p) h e = place_there t stops k p h e

left_leads : (t : WideTree) (stops : List Place) (o : Option ℕ) → ArePlaces t stops → LeadsIn t (to_left_of stops o)
left_leads t stops None h = stop_leads t stops 0 AtStart (slice_get stops 0) h refl
left_leads t stops (Some zero) h = tt
left_leads t stops (Some (suc k)) h = stop_leads t stops k AtStart (slice_get stops k) h refl

right_leads : (t : WideTree) (stops : List Place) (o : Option ℕ) → ArePlaces t stops
    → LeadsIn t (to_right_of stops o)
right_leads t stops None h = stop_leads t stops 0 AtEnd (slice_get stops 0) h refl
right_leads t stops (Some k) h = stop_leads t stops (k + 1) AtEnd (slice_get stops (k + 1)) h refl

goes_by : (t : WideTree) (outcome made : Result Move EditFault) → LeadsIn t outcome
    → IfOk made (λ m. outcome ≡ Ok m) → IfOk made (GoesIn t)
goes_by t outcome (Ok m) h e = subst (LeadsIn t) e h
goes_by t outcome (Err fault) h e = tt

pub left_goes : (t : WideTree) (stops : List Place) (at : Place) (made : Result Move EditFault) → ArePlaces t stops
    → IfOk made (λ m. to_left stops at ≡ Ok m) → IfOk made (GoesIn t)
left_goes t stops at made h e = goes_by t (to_left stops at) made (left_leads t stops (stop_number stops at) h) e

pub right_goes : (t : WideTree) (stops : List Place) (at : Place) (made : Result Move EditFault) → ArePlaces t stops
    → IfOk made (λ m. to_right stops at ≡ Ok m) → IfOk made (GoesIn t)
right_goes t stops at made h e = goes_by t (to_right stops at) made (right_leads t stops (stop_number stops at) h) e
