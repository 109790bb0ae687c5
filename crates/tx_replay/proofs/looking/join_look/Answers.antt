use Rattle.std.proofs.Common.{◌∙◌}
use Rattle.std.specs.FinMap.{from_entries}
use Rattle.std.proofs.lemmas.Result.{on_ok_weaker}
use Rattle.tx_replay.proofs.Joining.{behind_set, behind_unset}
use Rattle.tx_replay.proofs.looking.join_look.Goals as goal

pub returns-in-Some : goal.returns-in-Some
returns-in-Some c =
    behind_set c.args.own.now (from_entries c.args.looks.now) c.args.name.now c.in-Some.field-0.now c.args.found.now
    c.in-Some.ensures

pub returns-in-None : goal.returns-in-None
returns-in-None c =
    on_ok_weaker c.note_look.result
    (λ e. e ∙ behind_unset c.args.own.now (from_entries c.args.looks.now) c.args.name.now c.args.found.now
    c.in-None.ensures)
    c.note_look.ensures
