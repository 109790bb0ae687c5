use Rattle.std.proofs.Common.{rules, length, ◌≡◌, [], ◌∷◌, ◌++◌, sym, ap, ◌∙◌}
use Rattle.std.specs.Prelude.{option_map}
use Rattle.std.proofs.lemmas.List.{nil_from_length}
use Rattle.tx_commute.specs.Leaving.{past_all_known}
use Rattle.tx_commute.proofs.Loops.{put_all, all_starts, all_next, all_stops, all_ends}
use Rattle.tx_commute.proofs.many.past_all.Goals as goal

pub loop-a-init : goal.loop-a-init
loop-a-init c =
    all_starts c.args.known.items c.args.b
    ∙ ap (λ ks. option_map (put_all []) (past_all_known ks c.args.b))
    (sym c.into_iter-a-iterator.ensures.into_iter_gives.0)
    ∙ ap (λ xs. option_map (put_all xs) (past_all_known c.into_iter-a-iterator.result.rest.items c.args.b))
    (sym c.new-left.ensures.items)

pub returns-in_default : goal.returns-in_default
returns-in_default c =
    sym (all_stops (past_all_known c.args.known.items c.args.b) c.loop-a.left.items c.next.new.self.rest.items
    c.in-Some.a c.loop-a.now
    (c.loop-a.invariant
    ∙ ap (λ ks. option_map (put_all c.loop-a.left.items) (past_all_known ks c.loop-a.now)) c.in-Some.ensures.steps.0)
    (sym c.in_default.is ∙ c.in_ok-later.ensures))

pub loop-a-preserved : goal.loop-a-preserved
loop-a-preserved c =
    all_next (past_all_known c.args.known.items c.args.b) c.loop-a.left.items c.next.new.self.rest.items
    c.in-Some.a c.loop-a.now c.in-Some-2.later c.in-Some-2.earlier
    (c.loop-a.invariant
    ∙ ap (λ ks. option_map (put_all c.loop-a.left.items) (past_all_known ks c.loop-a.now)) c.in-Some.ensures.steps.0)
    (sym c.in-Some-2.is ∙ c.in_ok-later.ensures)
    ∙ ap (λ xs. option_map (put_all xs) (past_all_known c.next.new.self.rest.items c.in-Some-2.later))
    (sym c.in_ok-push.ensures.items)

pub returns : goal.returns
returns c =
    let none : length c.loop-a.a-iterator.rest.items ≡ 0 = search rules in
    sym (all_ends (past_all_known c.args.known.items c.args.b) c.loop-a.left.items c.loop-a.now
    (c.loop-a.invariant
    ∙ ap (λ ks. option_map (put_all c.loop-a.left.items) (past_all_known ks c.loop-a.now))
    (nil_from_length c.loop-a.a-iterator.rest.items none)))
