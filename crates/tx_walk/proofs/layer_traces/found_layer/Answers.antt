use Rattle.std.proofs.Common.{sym, refl, length, ◌∙◌}
use Rattle.std.proofs.lemmas.Option.{slice_get_read}
use Rattle.tx_exec.specs.States.{before_of}
use Rattle.tx_walk.proofs.Listing.{held_there}
use Rattle.tx_walk.proofs.layer_traces.found_layer.Goals as goal

pub returns-then-serves : goal.returns-then-serves
returns-then-serves c =
    let serves = sym c.serves.ensures ∙ c.if-serves.true in (
      serves,
      held_there c.args.all.now c.args.t.now (before_of c.args.env.now) c.args.next.now c.index-all-hint.result
          (slice_get_read c.args.all.now (length c.args.all.now) c.args.next.now c.index-all-hint.result refl
          c.if-hint-all.true c.index-all-hint.is) serves,
    )
