use Rattle.std.proofs.Common.{sym, ap, ◌∙◌}
use Rattle.std.specs.Prelude.{option_map}
use Rattle.tx_commute.proofs.Knowing.{pair_of}
use Rattle.tx_commute.proofs.pairs.past_of.Goals as goal

pub returns-clause-pair : goal.returns-clause-pair
returns-clause-pair g c =
    c.mods_of_pair.ensures ∙ ap (λ o. option_map (λ r. (r.0.does, r.1.does)) o) c.in_ok-pair.ensures
    ∙ pair_of c.args.t.now c.in_ok-u.u c.in_ok-_v._v c.args.a.now c.args.b.now c.in_ok-u.earlier c.in_ok-_v.later
    c.in_ok-u.ensures.made c.in_ok-_v.ensures.made c.in_ok-u.ensures.sound c.in_ok-_v.ensures.sound
    c.in_ok-u.ensures.does c.in_ok-_v.ensures.does c.in_ok-u.ensures.undoes c.in_ok-_v.ensures.undoes
