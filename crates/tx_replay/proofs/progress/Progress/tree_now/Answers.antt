use Rattle.std.proofs.Common.{ap, sym, ◌∙◌}
use Rattle.std.specs.Prelude.{Some}
use Rattle.tx_env.specs.Changes.{map_of}
use Rattle.tx_parts.specs.Atop.{env_atop}
use Rattle.tx_replay.specs.Going.{Going, last_map, names_of}
use Rattle.tx_replay.proofs.Stepping.{names_now}
use Rattle.tx_replay.proofs.progress.Progress.tree_now.Goals as goal

pub returns-in-None : goal.returns-in-None
returns-in-None c =
    let p = c.self.inside in
    sym c.in-None.ensures
    ∙ names_now p.env.map (map_of p.own) (last_map p.env.scopes) c.self.invariant.map c.args.name.now
    ∙ ap (λ (s : Going). env_atop s.state.own (names_of s) c.args.name.now) c.self.view_is

pub returns-in_ok-share-in-Some : goal.returns-in_ok-share-in-Some
returns-in_ok-share-in-Some c =
    let p = c.self.inside in
    ap (λ t. Some t) c.in_ok-share-in-Some.ensures ∙ sym c.in-Some.ensures
    ∙ names_now p.env.map (map_of p.own) (last_map p.env.scopes) c.self.invariant.map c.args.name.now
    ∙ ap (λ (s : Going). env_atop s.state.own (names_of s) c.args.name.now) c.self.view_is
