use Rattle.std.proofs.Common.{ap, sym, ◌∙◌}
use Rattle.tx_env.specs.Changes.{map_of}
use Rattle.tx_parts.specs.Atop.{atop}
use Rattle.tx_replay.specs.Going.{last_map}
use Rattle.tx_replay.proofs.Stepping.{step_begun}
use Rattle.tx_replay.proofs.progress.Progress.begin.Goals as goal

pub invariant_of-result : goal.invariant_of-result
invariant_of-result c =
    record {
      map = step_begun c.args.env.map (last_map c.args.env.scopes) c.requires
          ∙ ap (λ ps. atop (map_of ps) (last_map c.args.env.scopes)) (sym c.new.ensures);
    }
