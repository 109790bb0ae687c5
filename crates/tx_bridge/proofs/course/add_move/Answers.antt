use Rattle.std.proofs.Common.{◌≡◌, ◌∙◌, sym, ap, subst, map, length, Some}
use Rattle.std.proofs.lemmas.List.Elements.{All-push}
use Rattle.std.specs.List.{All}
use Rattle.tx_exec.specs.Outcomes.{wide_trace}
use Rattle.tx_exec_form.specs.Laws.{Supports}
use Rattle.tx_mod.specs.Followed.{changed_by_all}
use Rattle.tx_parts.specs.Composed.{alone}
use Rattle.tx_walk.specs.Walked.{IsTidy}
use Rattle.tx_bridge.specs.declared.course.PartMove.{PartMove}
use Rattle.tx_bridge.specs.Courses.{HasTree}
use Rattle.tx_bridge.specs.HeldParts.{kept_part}
use Rattle.tx_bridge.specs.PartMoves.{move_from, seen_move}
use Rattle.tx_bridge.proofs.Gathering.{no_more, one_more, goes_nowhere, goes_to, is_seen, has_tree}
use Rattle.tx_bridge.proofs.course.add_move.Goals as goal

pub returns-in_default-clause-moves : goal.returns-in_default-clause-moves
returns-in_default-clause-moves c = λ t h at.
    no_more _ _
    (goes_nowhere c.args.mods.now t c.args.units.now c.args.i c.args.k c.args.path (kept_part c.args.part.now)
    (sym (c.in_ok-place.ensures t h (c.args.tree.now, at)) ∙ c.in_default.is))

pub returns-clause-moves : goal.returns-clause-moves
returns-clause-moves c = λ t h at.
    ap (map seen_move) c.in_ok-push.ensures.items
    ∙ one_more c.args.moves.now.items _
    (move_from c.args.mods.now t c.args.units.now c.args.i c.args.k c.args.path (kept_part c.args.part.now))
    (goes_to c.args.mods.now t c.args.units.now c.args.i c.args.k c.args.path (kept_part c.args.part.now)
    c.in-Some.place (c.in_ok-to.to, c.in_ok-to.rest)
    (sym (c.in_ok-place.ensures t h (c.args.tree.now, at)) ∙ c.in-Some.is) c.in_ok-to.ensures
    ∙ ap (λ z. Some z)
    (is_seen c.args.i c.args.k c.in_ok-to.to c.args.part.now c.in_ok-moved.field-0 c.in_ok-to.rest
    c.in_ok-share.field-0 c.in_ok-moved.ensures.path c.in_ok-moved.ensures.trace))

pub returns-clause-tidy : goal.returns-clause-tidy
returns-clause-tidy c = λ all.
    subst (All (λ (m : PartMove). IsTidy m.part)) (sym c.in_ok-push.ensures.items)
    (All-push (λ (m : PartMove). IsTidy m.part) c.args.moves.now.items _ all c.in_ok-moved.ensures.tidy)

pub returns-clause-trees : goal.returns-clause-trees
returns-clause-trees c = λ t h at all.
    subst (All (HasTree (λ u. changed_by_all c.args.mods.now t ≡ Some u) (length c.args.units.now)))
    (sym c.in_ok-push.ensures.items)
    (All-push (HasTree (λ u. changed_by_all c.args.mods.now t ≡ Some u) (length c.args.units.now))
    c.args.moves.now.items _ all
    (has_tree c.args.mods.now t c.args.tree.now c.args.units.now c.args.path c.in-Some.place _ c.in_ok-to.rest
    (λ q. c.carried_list_law.ensures.same c.args.mods.now t q) at
    (sym (c.in_ok-place.ensures t h (c.args.tree.now, at)) ∙ c.in-Some.is) c.in_ok-to.ensures
    c.in_ok-moved.ensures.path
    (subst (λ x. Supports (wide_trace c.in_ok-moved.field-0.trace) (alone x)) (sym c.in_ok-share.ensures)
    (subst (λ r. Supports (wide_trace r) (alone c.args.tree.now)) (sym c.in_ok-moved.ensures.trace)
    c.requires.supports)) c.in_ok-share.ensures))
