-- The fields of an evaluation that goes on.
use Rattle.std.specs.Prelude.{◌≡◌}
use Rattle.std.specs.FinMap.{from_entries}
use Rattle.tx_env.specs.Changes.{map_of}
use Rattle.tx_parts.specs.Atop.{atop}
use Rattle.tx_replay.specs.Going.{Going, last_map}
use Rattle.tx_replay.specs.declared.progress.Progress.TheInside.{Inside}

abbrev pub going_of : Inside → Going
going_of p = record {
  scopes = p.env.scopes;
  state = record { own = map_of p.own; looks = from_entries p.looks; left = p.left; slack = p.slack };
}

-- names have what the evaluation has set, and else what they had before
pub record IsInStep (p : Inside) : Type 0 where
  pub map : p.env.map ≡ atop (map_of p.own) (last_map p.env.scopes)
