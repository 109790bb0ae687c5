use Rattle.std.proofs.Common.{◌∙◌, ap, subst, sym}
use Rattle.std.specs.List.{AllByRecursion}
use Rattle.tx_bridge.specs.Carrying.{AllStand}
use Rattle.tx_bridge.specs.Strays.{AreTidy, HoldsStray, StandAside, strays_in}
use Rattle.tx_bridge.proofs.Received.{all_ok, bodies_kept, is_course}
use Rattle.tx_bridge.proofs.bridges.Bridges.course.Goals as goal

pub edit_course-requires-clause-stand : goal.edit_course-requires-clause-stand
edit_course-requires-clause-stand g c = λ e.
    subst (AllStand c.args.before.now)
    (sym (bodies_kept c.args.self.now.kept c.self.inside.bridges.items c.deref.result.now
    (ap (λ b. b.kept) c.self.view_is) c.deref.ensures.value)) (c.requires.old e)

pub edit_course-requires-clause-aside : goal.edit_course-requires-clause-aside
edit_course-requires-clause-aside g c = λ e.
    subst (StandAside c.args.before.now)
    (sym (ap strays_in c.deref-2.ensures.value ∙ ap (λ b. b.strays) c.self.view_is)) (c.requires.strays e)

pub edit_course-requires-clause-hold : goal.edit_course-requires-clause-hold
edit_course-requires-clause-hold g c =
    subst (λ ss. AllByRecursion HoldsStray (strays_in ss)) (sym c.deref-2.ensures.value)
    c.self.invariant.strays.hold

pub edit_course-requires-clause-tidy : goal.edit_course-requires-clause-tidy
edit_course-requires-clause-tidy g c = subst AreTidy (sym c.deref-2.ensures.value) c.self.invariant.tidy

pub returns-clause-course : goal.returns-clause-course
returns-clause-course g c =
    all_ok c.edit_course.result _ _ _ _
    (λ x places moves trees.
    is_course c.args.buffer c.args.mods.now c.args.before.now c.args.self.now.kept c.args.self.now.parts
    c.args.self.now.strays c.args.units.now c.self.inside.bridges.items c.deref.result.now c.deref-2.result.now x
    (ap (λ b. b.kept) c.self.view_is) (ap (λ b. b.parts) c.self.view_is) c.deref.ensures.value
    (ap strays_in c.deref-2.ensures.value ∙ ap (λ b. b.strays) c.self.view_is) places moves trees)
    c.edit_course.ensures.places c.edit_course.ensures.moves c.edit_course.ensures.trees
