use Rattle.std.proofs.Common.{ap, ◌∙◌}
use Rattle.tx_env.specs.Changes.{map_of}
use Rattle.tx_exec_form.specs.Runs.{Before}
use Rattle.tx_parts.specs.Atop.{env_atop}
use Rattle.tx_replay.specs.Going.{Going, last_map, names_of}
use Rattle.tx_replay.specs.Held.{agrees}
use Rattle.tx_replay.proofs.Stepping.{all_names_now}
use Rattle.tx_replay.proofs.progress.Progress.fits.Goals as goal

pub returns : goal.returns
returns c =
    let p = c.self.inside in
    c.trace_fits.ensures
    ∙ ap (λ (e : Before). agrees e c.args.trace.now.looks)
    (all_names_now p.env.map (map_of p.own) (last_map p.env.scopes) c.self.invariant.map)
    ∙ ap (λ (g : Going). agrees (env_atop g.state.own (names_of g)) c.args.trace.now.looks) c.self.view_is
