-- Reading a path byte by byte.
use Rattle.std.specs.Prelude.{ℕ, ◌+◌, ◌-◌, ◌*◌, Bool, ◌==◌, ◌&&◌, nat_lt, nat_le, if◌then◌else◌, List, [], ◌∷◌, ◌++◌}
use Rattle.std.specs.Prelude.{length, Option, Some, None}
use Rattle.tx_tree.specs.declared.TheConstants.{MOST_STEPS, MOST_DIGITS, MOST_NUMBER}
use Rattle.tx_tree.specs.declared.paths.PathPlace.{PathPlace}
use Rattle.tx_tree.specs.declared.paths.PathPlace.TheVariants.{Start, Number}
use Rattle.tx_tree.specs.PathSpelling.{is_digit}

-- Where the reading is: before all bytes, where no number is finished, or after finished numbers, a / and so many
-- digits of the next number.
pub data PathState : Type 0 where
  start : (finished : List ℕ) → PathState
  reading : (finished : List ℕ) → (digits : ℕ) → (value : ℕ) → PathState

abbrev pub path_state : List ℕ → PathPlace → PathState
path_state finished Start = start finished
path_state finished (Number digits value) = reading finished digits value

-- a number ends here, and another may follow
abbrev pub ends_number : List ℕ → ℕ → Bool
ends_number finished digits = nat_lt 0 digits && nat_lt (length finished + 1) MOST_STEPS

-- the byte is one digit more of the number
abbrev pub takes_digit : ℕ → ℕ → ℕ → Bool
takes_digit digits value b = is_digit b && (nat_lt digits MOST_DIGITS && nat_le (value * 10 + (b - 48)) MOST_NUMBER)

-- the state after one more byte, if a path can go on with it
unfoldable pub path_step : PathState → ℕ → Option PathState
path_step (start finished) b = if b == 47 then Some (reading finished 0 0) else None
path_step (reading finished digits value) b =
    if b == 47
    then (if ends_number finished digits then Some (reading (finished ++ value ∷ []) 0 0) else None)
    else (if takes_digit digits value b then Some (reading finished (digits + 1) (value * 10 + (b - 48))) else None)

-- the state after more bytes
abbrev pub path_run : Option PathState → List ℕ → Option PathState
path_run None bytes = None
path_run (Some s) [] = Some s
path_run (Some s) (b ∷ bytes) = path_run (path_step s b) bytes
