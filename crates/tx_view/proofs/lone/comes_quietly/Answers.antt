use Rattle.std.proofs.Common.{◌∙◌, Some, ap, subst}
use Rattle.std.proofs.lemmas.Option.{slice_get-map}
use Rattle.tx_bridge.specs.Entries.{Entry}
use Rattle.tx_bridge.specs.Settled.{IsSilent}
use Rattle.tx_view.proofs.lone.comes_quietly.Goals as goal

pub returns-in-Some : goal.returns-in-Some
returns-in-Some c on =
    let quiet = c.is_quiet.ensures on in (
      quiet.0,
      slice_get-map (λ (e : Entry). e.trace) c.args.bridges.now.kept c.args.unit ∙ c.in-Some.ensures.found
          ∙ ap Some quiet.1,
      subst IsSilent quiet.1 quiet.2,
    )
