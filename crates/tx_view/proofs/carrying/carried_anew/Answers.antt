use Rattle.std.proofs.Common.{◌≡◌, ◌∙◌, List, ap, arith, length, rules, subst, sym, map, if◌then◌else◌}
use Rattle.tx_units.specs.declared.kinds.Unit.{Unit as DocUnit}
use Rattle.tx_units.specs.Units.{units}
use Rattle.tx_part_layout.specs.declared.laid.PlacedPart.{PlacedPart}
use Rattle.tx_bridge.specs.Carrying.{HaveSameTrees}
use Rattle.tx_bridge.specs.Entries.{units_of}
use Rattle.tx_bridge.specs.Names.{PartMoves}
use Rattle.tx_bridge.specs.PartMoves.{Move, seen_move}
use Rattle.tx_bridge.specs.Strays.{kept_strays}
use Rattle.tx_unit_layout.specs.declared.shown.Shown.{Shown}
use Rattle.tx_view.specs.Laid.{PlacedLists, AreBlank, HaveArrived, going, placed_in}
use Rattle.tx_view.proofs.Adding.{written}
use Rattle.tx_view.proofs.Blank.{arrived_many}
use Rattle.tx_view.proofs.carrying.carried_anew.Goals as goal

pub returns-clause-arrived : goal.returns-clause-arrived
returns-clause-arrived g c =
    let xs : List Shown = if c.args.fresh then c.args.shown.now else c.args.hidden.now in
    let old : PlacedLists = placed_in xs c.args.strays.now in
    let us : List DocUnit = units c.args.after.now in
    let blank : AreBlank us c.deref_mut.result.now =
    subst (λ (ys : List Shown). AreBlank us ys) (sym c.deref_mut.ensures.value)
    (subst (λ (vs : List DocUnit). AreBlank vs c.in_ok-new.new.items)
    (c.deref.ensures.value ∙ c.in_ok-made.ensures.units) c.in_ok-new.ensures) in
    let moves : map seen_move c.deref-3.result.now ≡ PartMoves c.args.buffer c.args.mods.now c.args.before.now
    (units_of c.args.bridges.now.kept) c.args.bridges.now.parts (kept_strays c.args.bridges.now.strays) us =
    ap (map seen_move) c.deref-3.ensures.value ∙ c.in_ok-course.ensures.course.moves.all
    ∙ ap (PartMoves c.args.buffer c.args.mods.now c.args.before.now (units_of c.args.bridges.now.kept)
    c.args.bridges.now.parts (kept_strays c.args.bridges.now.strays))
    (c.deref-2.ensures.value ∙ c.in_ok-made.ensures.units) in
    subst (λ (ys : List Shown). HaveArrived old (going old (PartMoves c.args.buffer c.args.mods.now c.args.before.now
    (units_of c.args.bridges.now.kept) c.args.bridges.now.parts (kept_strays c.args.bridges.now.strays) us)) us ys
    c.put_either.new.new_strays)
    (sym (written c.in_ok-new.new.len c.put_either.new.new c.in_ok-new.new.items (search rules) (search rules)))
    (subst (λ (ms : List Move). HaveArrived old (going old ms) us c.put_either.new.new c.put_either.new.new_strays)
    moves
    (subst (λ (ps : List PlacedPart). HaveArrived (placed_in xs ps)
    (going (placed_in xs ps) (map seen_move c.deref-3.result.now)) us c.put_either.new.new c.put_either.new.new_strays)
    c.all.ensures (c.in_ok-put_either.ensures us blank c.none-new_strays.ensures)))

pub returns-clause-few : goal.returns-clause-few
returns-clause-few g c =
    let xs : List Shown = if c.args.fresh then c.args.shown.now else c.args.hidden.now in
    let old : PlacedLists = placed_in xs c.all.result.now in
    let us : List DocUnit = units c.args.after.now in
    let blank : AreBlank us c.deref_mut.result.now =
    subst (λ (ys : List Shown). AreBlank us ys) (sym c.deref_mut.ensures.value)
    (subst (λ (vs : List DocUnit). AreBlank vs c.in_ok-new.new.items)
    (c.deref.ensures.value ∙ c.in_ok-made.ensures.units) c.in_ok-new.ensures) in
    omega (
      arith,
      ap length
          (written c.in_ok-new.new.len c.put_either.new.new c.in_ok-new.new.items (search rules) (search rules)),
      arrived_many old (going old (map seen_move c.deref-3.result.now)) 0 us c.put_either.new.new
          (c.in_ok-put_either.ensures us blank c.none-new_strays.ensures).0,
      c.unit_count_law.ensures,
    )

pub returns-clause-same_trees : goal.returns-clause-same_trees
returns-clause-same_trees g c =
    subst (λ (us : List DocUnit). HaveSameTrees (units_of c.args.bridges.now.kept) us c.carry_along.new.self.sources)
    c.in_ok-made.ensures.units c.in_ok-carry_along.ensures.same_trees
