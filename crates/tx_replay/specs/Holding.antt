-- Names with what they had before others were set.
use Rattle.std.specs.Prelude.{◌≡◌, List, [], ◌∷◌}
use Rattle.std.specs.Option.{option_or}
use Rattle.std.specs.List.{AllByRecursion}
use Rattle.tx_exec_form.specs.Rows.{Sets}
use Rattle.tx_exec_form.specs.Runs.{Before}
use Rattle.tx_replay.specs.declared.holding.Held.{Held}

abbrev pub held_of : List Held → Sets
held_of [] = []
held_of (h ∷ hs) = (h.name, h.own) ∷ held_of hs

-- the name had this where names have that before the evaluation
abbrev pub IsHeldFor : Before → Held → Type 0
IsHeldFor e h = h.names ≡ option_or h.own (e h.name)

abbrev pub AreHeldFor : Before → List Held → Type 0
AreHeldFor e hs = AllByRecursion (IsHeldFor e) hs
