use Rattle.std.proofs.Common.{ap, sym, ◌∙◌}
use Rattle.std.specs.Option.{option_or}
use Rattle.tx_env.specs.Changes.{map_of}
use Rattle.tx_replay.specs.Going.{Going, names_of}
use Rattle.tx_replay.proofs.Stepping.{step_either}
use Rattle.tx_replay.proofs.progress.Progress.change.Goals as goal

pub invariant_of-self : goal.invariant_of-self
invariant_of-self c =
    record {
      map = step_either c.put_both.result c.args.name c.args.tree c.args.names c.self.inside.env c.put_both.new.env
          (map_of c.self.inside.own) (map_of c.put_both.new.own) c.self.invariant.map
          (c.requires ∙ ap (λ (g : Going). option_or c.args.tree (names_of g c.args.name)) (sym c.self.view_is))
          c.put_both.ensures.own c.put_both.ensures.map c.put_both.ensures.own_err c.put_both.ensures.err
          c.put_both.ensures.scopes;
    }
