use Rattle.std.proofs.Common.{◌++◌, [], refl}
use Rattle.tx_outside.proofs.GoingOn.{sink_goes_on_refl, sink_goes_on_then, source_goes_on_refl, source_goes_on_then}
use Rattle.tx_screen.proofs.Endings.{caused_later}
use Rattle.tx_screen.proofs.Executing.{told_both}
use Rattle.tx_screen.proofs.run.serve.Goals as goal

pub loop-init : goal.loop-init
loop-init g c = (source_goes_on_refl _, sink_goes_on_refl _, ([], refl))

pub loop-preserved : goal.loop-preserved
loop-preserved g c =
    let before = c.loop.invariant in
    let lines = before.2 in
    let told = c.serve_once.ensures.told in (
      source_goes_on_then _ _ _ before.0 c.serve_once.ensures.input_goes_on,
      sink_goes_on_then _ _ _ before.1 c.serve_once.ensures.output_goes_on,
      (lines.0 ++ told.0, told_both lines.0 told.0 _ _ _ lines.1 told.1),
    )

pub returns-in-Some-clause-told : goal.returns-in-Some-clause-told
returns-in-Some-clause-told g c =
    let before = c.loop.invariant in
    let lines = before.2 in
    let told = c.serve_once.ensures.told in
    (lines.0 ++ told.0, told_both lines.0 told.0 _ _ _ lines.1 told.1)

pub returns-in-Some-clause-caused : goal.returns-in-Some-clause-caused
returns-in-Some-clause-caused g c =
    caused_later c.in-Some.ending _ _ _ _ _ _ c.loop.invariant.0 c.loop.invariant.1 c.in-Some.ensures.caused

pub returns-in-Some-clause-input_goes_on : goal.returns-in-Some-clause-input_goes_on
returns-in-Some-clause-input_goes_on g c =
    source_goes_on_then _ _ _ c.loop.invariant.0 c.serve_once.ensures.input_goes_on

pub returns-in-Some-clause-output_goes_on : goal.returns-in-Some-clause-output_goes_on
returns-in-Some-clause-output_goes_on g c =
    sink_goes_on_then _ _ _ c.loop.invariant.1 c.serve_once.ensures.output_goes_on
