use Rattle.std.proofs.Common.{◌≡◌, ◌++◌, sym, ap, ◌∙◌, [], ◌∷◌, arith, rules, refl, length}
use Rattle.std.proofs.lemmas.List.{append_assoc, append-nil, nil_from_length}
use Rattle.tx_bridge.specs.Courses.{stray_left, strays_left, with_arrived}
use Rattle.tx_bridge.proofs.Coming.{arrived_none, arrived_twice}
use Rattle.tx_bridge.proofs.Gathering.{cons_onto}
use Rattle.tx_bridge.proofs.arriving.put_moves.Goals as goal

pub loop-part_move-init : goal.loop-part_move-init
loop-part_move-init c =
    let same : c.into_iter-part_move-iterator.result.rest.items ≡ c.args.moves.items = search rules in (
      ap (λ ms. with_arrived ms 0 c.args.new.now) same,
      ap (λ ms. c.args.strays.now.items ++ strays_left ms (length c.args.new.now)) same,
      refl,
    )

pub loop-part_move-preserved : goal.loop-part_move-preserved
loop-part_move-preserved c = (
  ap (with_arrived c.next.new.self.rest.items 0) c.in_ok-put_move.ensures.units
      ∙ arrived_twice (c.in-Some.part_move ∷ []) c.next.new.self.rest.items 0 c.loop-part_move.new
      ∙ ap (λ ms. with_arrived ms 0 c.loop-part_move.new) (sym c.in-Some.ensures.steps.0)
      ∙ c.loop-part_move.invariant.0,
  ap (λ xs. xs ++ strays_left c.next.new.self.rest.items (length c.args.new.now))
      (c.in_ok-put_move.ensures.strays
      ∙ ap (λ n. c.loop-part_move.strays.items ++ strays_left (c.in-Some.part_move ∷ []) n)
      c.loop-part_move.invariant.2)
      ∙ append_assoc c.loop-part_move.strays.items
      (strays_left (c.in-Some.part_move ∷ []) (length c.args.new.now))
      (strays_left c.next.new.self.rest.items (length c.args.new.now))
      ∙ ap (λ xs. c.loop-part_move.strays.items ++ xs)
      (cons_onto (stray_left (length c.args.new.now) c.in-Some.part_move)
      (strays_left c.next.new.self.rest.items (length c.args.new.now)))
      ∙ ap (λ ms. c.loop-part_move.strays.items ++ strays_left ms (length c.args.new.now))
      (sym c.in-Some.ensures.steps.0)
      ∙ c.loop-part_move.invariant.1,
  omega (arith, c.loop-part_move.invariant.2),
)

pub returns-clause-units : goal.returns-clause-units
returns-clause-units c =
    let none : length c.loop-part_move.part_move-iterator.rest.items ≡ 0 = search rules in
    sym (arrived_none 0 c.loop-part_move.new)
    ∙ ap (λ ms. with_arrived ms 0 c.loop-part_move.new)
    (sym (nil_from_length c.loop-part_move.part_move-iterator.rest.items none))
    ∙ c.loop-part_move.invariant.0

pub returns-clause-strays : goal.returns-clause-strays
returns-clause-strays c =
    let none : length c.loop-part_move.part_move-iterator.rest.items ≡ 0 = search rules in
    sym (append-nil c.loop-part_move.strays.items)
    ∙ ap (λ ms. c.loop-part_move.strays.items ++ strays_left ms (length c.args.new.now))
    (sym (nil_from_length c.loop-part_move.part_move-iterator.rest.items none))
    ∙ c.loop-part_move.invariant.1
