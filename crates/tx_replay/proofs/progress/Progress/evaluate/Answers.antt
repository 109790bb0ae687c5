use Rattle.std.proofs.Common.{ap, ◌∙◌}
use Rattle.std.proofs.lemmas.Result.{IfOk-weaker}
use Rattle.tx_env.specs.Changes.{map_of}
use Rattle.tx_exec_form.specs.Runs.{Before}
use Rattle.tx_exec_form.specs.Evaluated.{evaluated_in}
use Rattle.tx_parts.specs.Atop.{env_atop}
use Rattle.tx_replay.specs.Going.{Going, last_map, names_of}
use Rattle.tx_replay.proofs.Stepping.{all_names_now}
use Rattle.tx_replay.proofs.progress.Progress.evaluate.Goals as goal

pub returns-clause-exact : goal.returns-clause-exact
returns-clause-exact g c =
    let p = c.self.inside in
    IfOk-weaker c.eval_within.result _ _
    (λ o h. h
    ∙ ap (λ (e : Before). evaluated_in c.args.levels p.left (record { tree = c.args.t.now; at = c.args.at }) e)
    (all_names_now p.env.map (map_of p.own) (last_map p.env.scopes) c.self.invariant.map)
    ∙ ap (λ (s : Going). evaluated_in c.args.levels s.state.left (record { tree = c.args.t.now; at = c.args.at })
    (env_atop s.state.own (names_of s))) c.self.view_is)
    c.eval_within.ensures.exact
