use Rattle.std.proofs.Common.{◌≡◌, ◌≤◌, ◌+◌, ◌++◌, drop, take, reverse}
use Rattle.std.specs.Prelude.{option_map}
use Rattle.tx_mod.specs.InTurn.{changed_in_turn, inverses_of, moved_in_turn, AreSoundMods}
use Rattle.tx_state.specs.Changing.{IsPlaceIn}
use Rattle.tx_state.specs.Ready.{cost_both_ways}
use Rattle.tx_state.proofs.changing.change_in_turn.Given as goal

abbrev pub invariant-loop-m : goal.invariant-loop-m
invariant-loop-m g l =
    record {
      tree : changed_in_turn l.fn.mods l.fn.t ≡ changed_in_turn (drop l.m-index l.mods) l.now.tree;
      back : inverses_of l.fn.mods l.fn.t ≡ inverses_of (drop l.m-index l.mods) l.now.tree ++ reverse l.now.back.items;
      place : option_map (moved_in_turn l.fn.mods l.fn.t) l.fn.place ≡ option_map
          (moved_in_turn (drop l.m-index l.mods) l.now.tree) l.now.place;
      valid : IsPlaceIn l.now.tree l.now.place;
      sound : AreSoundMods (take l.m-index l.mods);
      counted : l.steps + cost_both_ways (drop l.m-index l.mods) ≤ l.fn.steps + cost_both_ways l.fn.mods;
    }
