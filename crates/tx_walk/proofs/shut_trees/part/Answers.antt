use Rattle.std.proofs.Common.{refl, ◌∙◌}
use Rattle.std.proofs.lemmas.Result.{IfOk-weaker}
use Rattle.std.specs.Prelude.{Some}
use Rattle.tx_origin.specs.Under.{value_under}
use Rattle.tx_exec.specs.States.{before_of}
use Rattle.tx_exec.specs.Outcomes.{wide_trace, wide_outcome}
use Rattle.tx_walk.specs.Prior.{stores_of}
use Rattle.tx_walk.specs.Guides.{guide_of}
use Rattle.tx_walk.proofs.Settled.{settled_exact, held_settles, own_fits, held_added, held_counted, new_added}
use Rattle.tx_walk.proofs.Listing.{always_ok}
use Rattle.tx_walk.proofs.Settled.{shut_known, new_counted, any_ok, on_ok, both_ok, settles_as}
use Rattle.tx_walk.proofs.shut_trees.part.Goals as goal

pub returns-in-Some-clause-exact : goal.returns-in-Some-clause-exact
returns-in-Some-clause-exact g c =
    IfOk-weaker c.held_part.result _ _
    (λ o h. h ∙ settled_exact c.args.levels c.args.left c.args.path c.args.t.now (before_of c.args.env.now)
    (wide_trace c.in-Some.held.part.now.trace) _
    (held_settles (stores_of c.args.kept.now) c.args.levels c.args.left c.args.path c.args.t.now
    (before_of c.args.env.now) c.in-Some.held.part.now c.in-Some.held.renewed c.requires.sound c.in-Some.ensures))
    c.held_part.ensures.settled

pub returns-in-Some-clause-added : goal.returns-in-Some-clause-added
returns-in-Some-clause-added g c =
    both_ok c.held_part.result _ _ _
    (λ o h p. held_added (guide_of (g.O.Opener.opens c.args.opener.now) c.args.kept.now) c.args.levels c.args.left
    c.args.path c.args.t.now
    (before_of c.args.env.now) c.requires.shut c.requires.some c.requires.unshelled c.args.done.now.items
    c.held_part.new.done.items
    (record {
      path = c.args.path;
      trace = c.in-Some.held.part.now.trace;
      renewed = c.in-Some.held.renewed;
      placed = Some (value_under c.args.path c.in-Some.held.part.now.trace.value);
    }) (wide_outcome o)
    (settles_as c.args.levels c.args.left c.args.path c.args.t.now (before_of c.args.env.now)
    (wide_trace c.in-Some.held.part.now.trace) (wide_outcome o) h
    (held_settles (stores_of c.args.kept.now) c.args.levels c.args.left c.args.path c.args.t.now
    (before_of c.args.env.now) c.in-Some.held.part.now c.in-Some.held.renewed c.requires.sound c.in-Some.ensures))
    refl (own_fits (before_of c.args.env.now) c.args.path (stores_of c.args.kept.now) c.in-Some.held.part.now
    c.in-Some.held.renewed c.in-Some.ensures) p)
    c.held_part.ensures.settled c.held_part.ensures.pushed

pub returns-in-Some-clause-layers : goal.returns-in-Some-clause-layers
returns-in-Some-clause-layers g c =
    always_ok c.held_part.result _
    (λ o. shut_known (guide_of (g.O.Opener.opens c.args.opener.now) c.args.kept.now) c.args.levels c.args.left
    c.args.t.now (before_of c.args.env.now) c.requires.unshelled c.requires.shut c.requires.some _ _ (wide_outcome o)
    refl)

pub returns-in-None-clause-layers : goal.returns-in-None-clause-layers
returns-in-None-clause-layers g c =
    always_ok c.new_part.result _
    (λ o. shut_known (guide_of (g.O.Opener.opens c.args.opener.now) c.args.kept.now) c.args.levels c.args.left
    c.args.t.now (before_of c.args.env.now) c.requires.unshelled c.requires.shut c.requires.some
    c.args.progress.now.layers.items c.new_part.new.progress.layers.items (wide_outcome o)
    (rw c.new_part.ensures.layers refl))

pub returns-in-Some-clause-counted : goal.returns-in-Some-clause-counted
returns-in-Some-clause-counted g c =
    any_ok c.held_part.result _
    (held_counted (guide_of (g.O.Opener.opens c.args.opener.now) c.args.kept.now) c.args.levels c.args.left c.args.path
    c.args.t.now
    (before_of c.args.env.now) c.requires.shut c.requires.some c.requires.unshelled c.args.steps.now
    c.in-Some.held.part.now
    c.in-Some.held.renewed c.in-Some.ensures)

pub returns-in-None-clause-added : goal.returns-in-None-clause-added
returns-in-None-clause-added g c =
    IfOk-weaker c.new_part.result _ _
    (λ o h. new_added (guide_of (g.O.Opener.opens c.args.opener.now) c.args.kept.now) c.args.levels c.args.left
    c.args.path c.args.t.now
    (before_of c.args.env.now) c.requires.shut c.requires.some c.requires.unshelled c.args.done.now.items
    c.new_part.new.done.items
    (wide_outcome o) c.in-None.ensures.own h)
    c.new_part.ensures.pushed

pub returns-in-None-clause-counted : goal.returns-in-None-clause-counted
returns-in-None-clause-counted g c =
    on_ok c.new_part.result _ _
    (new_counted (guide_of (g.O.Opener.opens c.args.opener.now) c.args.kept.now) c.args.levels c.args.left c.args.path
    c.args.t.now
    (before_of c.args.env.now) c.requires.shut c.requires.some c.requires.unshelled c.args.steps.now
    c.new_part.new.steps c.in-None.ensures)
    c.new_part.ensures.counted
