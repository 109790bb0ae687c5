use Rattle.std.proofs.Common.{◌≡◌, ◌∙◌, ap, sym, subst, length}
use Rattle.tx_view_form.specs.Outcomes.{beginning}
use Rattle.tx_view.specs.Laid.{without_parts}
use Rattle.tx_bridge.specs.Names.{FreshTraces, FreshParts, PartFlags}
use Rattle.tx_view.proofs.Partly.{dropped_all, left_laid}
use Rattle.tx_view.proofs.Forgetting.{AllReadable, readable_without, readable_dropped, all_stay}
use Rattle.tx_view.proofs.Keeping.{behind_evaluation, behind_refusal}
use Rattle.tx_view.proofs.Renewed.{reached_many, same_many, alone_is}
use Rattle.tx_view.proofs.evaluating.evaluate.Goals as goal

pub returns-in-Ok-clause-laid : goal.returns-in-Ok-clause-laid
unfolding FreshParts PartFlags
returns-in-Ok-clause-laid g c width h =
    behind_evaluation width c.args.bridges.now c.refresh.new.self c.args.units.now c.forget_reached-alone.new.units h
    c.in-Ok.ensures.units c.in-Ok.ensures.reached c.in-Ok.ensures.parts c.in-Ok.ensures.parts_renewed
    c.in-Ok.ensures.stays c.in-Ok.ensures.parts_same c.in-Ok.ensures.parts_stay c.forget_reached-alone.ensures.shown

pub returns-in-Ok-clause-readable : goal.returns-in-Ok-clause-readable
returns-in-Ok-clause-readable g c h =
    subst AllReadable (sym c.forget_reached-alone.ensures.shown)
    (readable_without c.refresh.new.self.reached c.args.units.now h)

pub returns-in-Err-clause-dropped : goal.returns-in-Err-clause-dropped
unfolding FreshParts
returns-in-Err-clause-dropped g c width h =
    let r = c.in-Err.ensures.refused in
    behind_refusal width c.args.bridges.now c.refresh.new.self c.args.units.now c.forget_all.new.units r.0 h
    c.in-Err.ensures.units r.2 c.forget_all.ensures

pub returns-in-Err-clause-no_parts : goal.returns-in-Err-clause-no_parts
returns-in-Err-clause-no_parts g c =
    ap without_parts c.forget_all.ensures ∙ all_stay c.args.units.now ∙ sym c.forget_all.ensures

pub returns-in-Err-clause-readable : goal.returns-in-Err-clause-readable
returns-in-Err-clause-readable g c h =
    subst AllReadable (sym c.forget_all.ensures) (readable_dropped c.args.units.now h)

pub returns-in-Ok-clause-alone : goal.returns-in-Ok-clause-alone
returns-in-Ok-clause-alone g c = λ yes.
    alone_is c.args.lone (length c.args.units.now) c.args.bridges.now.kept c.refresh.new.self.kept
    c.args.bridges.now.parts
    c.refresh.new.self.reached c.in-Ok.ensures.reached c.in-Ok.ensures.units c.in-Ok.ensures.stays
    (c.forget_reached-alone.ensures.alone yes)

pub returns-in-Ok-clause-left : goal.returns-in-Ok-clause-left
returns-in-Ok-clause-left g c =
    let many : length c.refresh.new.self.reached ≡ length c.refresh.new.self.kept =
    ap length c.in-Ok.ensures.reached ∙ reached_many beginning c.args.bridges.now.kept c.args.bridges.now.parts
    ∙ same_many c.args.bridges.now.kept c.refresh.new.self.kept c.in-Ok.ensures.units in
    left_laid c.args.bridges.now c.refresh.new.self c.args.units.now c.forget_reached-alone.new.units
    c.requires.as_many c.in-Ok.ensures.units many c.in-Ok.ensures.stays c.forget_reached-alone.ensures.shown

pub returns-in-Err-clause-refused : goal.returns-in-Err-clause-refused
unfolding FreshTraces FreshParts
returns-in-Err-clause-refused g c =
    let r = c.in-Err.ensures.refused in
    dropped_all c.args.bridges.now c.refresh.new.self c.args.units.now c.forget_all.new.units r.0 c.requires.as_many
    c.in-Err.ensures.units r.1 r.2 c.in-Err.ensures.strays_stay c.forget_all.ensures
