use Rattle.std.proofs.Common.{sym, ap, ◌∙◌}
use Rattle.std.specs.Prelude.{option_map}
use Rattle.tx_commute.proofs.OnePast.{moved_cost, stuck_at, put_past}
use Rattle.tx_commute.proofs.midway.past_between.Goals as goal

pub put_out-requires : goal.put_out-requires
put_out-requires g c =
    let l = c.in_ok-next.ensures in
    moved_cost (record { known = c.args.known; present = c.args.present.now; out = c.args.out.now }) c.args.b.now
    c.in_ok-next.later c.in_ok-next.next c.in-Some.moved c.in-Some.left.items c.requires.midway
    (record { does = l.does; undoes = l.undoes; sound = l.sound; made = l.made })
    (sym c.in_ok-moved.ensures ∙ ap (λ o. option_map (λ r. (r.0, r.1.items)) o) c.in-Some.is)
    c.size-size.ensures.within

pub returns-in_default-clause-passed : goal.returns-in_default-clause-passed
returns-in_default-clause-passed g c =
    let l = c.in_ok-next.ensures in
    stuck_at (record { known = c.args.known; present = c.args.present.now; out = c.args.out.now }) c.args.b.now
    c.in_ok-next.later c.in_ok-next.next c.requires.midway
    (record { does = l.does; undoes = l.undoes; sound = l.sound; made = l.made })
    (sym c.in_ok-moved.ensures ∙ ap (λ o. option_map (λ r. (r.0, r.1.items)) o) c.in_default.is)

pub returns-clause-passed : goal.returns-clause-passed
returns-clause-passed g c =
    let l = c.in_ok-next.ensures in
    put_past (record { known = c.args.known; present = c.args.present.now; out = c.args.out.now }) c.args.b.now
    c.in_ok-next.later c.in_ok-next.next c.in-Some.moved c.in-Some.left.items c.in_ok-passed.passed c.requires.midway
    (record { does = l.does; undoes = l.undoes; sound = l.sound; made = l.made })
    (sym c.in_ok-moved.ensures ∙ ap (λ o. option_map (λ r. (r.0, r.1.items)) o) c.in-Some.is)
    c.in_ok-passed.ensures.put
