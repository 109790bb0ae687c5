use Rattle.std.proofs.Common.{◌∙◌, ap, sym, subst, slice_index_or}
use Rattle.std.proofs.lemmas.Option.{slice_get-get_or}
use Rattle.tx_exec.specs.Outcomes.{wide_outcome}
use Rattle.tx_bridge.specs.declared.bridge.Bridge.{Bridge}
use Rattle.tx_bridge.specs.Settled.{IsSilent}
use Rattle.tx_bridge.specs.Sound.{changed_bridge}
use Rattle.tx_bridge.specs.Others.{put_from, done_parts_of}
use Rattle.tx_bridge.proofs.ChangedParts.{parts_there}
use Rattle.tx_bridge.proofs.Changing.{set_changed}
use Rattle.tx_bridge.proofs.Slotting.{some_once}
use Rattle.std.specs.Prelude.{slice_get}
use Rattle.tx_bridge.proofs.in_place.change_one.Goals as goal

pub returns-clause-changed : goal.returns-clause-changed
returns-clause-changed c =
    let at = slice_get-get_or c.args.bridges.now c.args.changed c.index-bridges-changed.result c.requires in
    set_changed c.args.bridges.now c.args.changed c.args.tree
    (put_from 0 c.args.others.items (done_parts_of c.args.changed c.args.bridges.now)) c.index-bridges-changed.result
    c.change.new.self c.requires
    (c.change.ensures.changed
    ∙ ap (λ ps. changed_bridge c.args.tree (put_from 0 c.args.others.items ps)
    (slice_index_or c.args.bridges.now c.args.changed c.index-bridges-changed.result))
    (sym (parts_there c.args.bridges.now c.args.changed
    (slice_index_or c.args.bridges.now c.args.changed c.index-bridges-changed.result) at)))

pub returns-clause-silent : goal.returns-clause-silent
returns-clause-silent c = λ h b at.
    subst (λ (x : Bridge). IsSilent (wide_outcome x.kept))
    (some_once (slice_get c.args.bridges.now c.args.changed)
    (slice_index_or c.args.bridges.now c.args.changed c.index-bridges-changed.result) b
    (slice_get-get_or c.args.bridges.now c.args.changed c.index-bridges-changed.result c.requires) at)
    (c.change.ensures.silent h)
