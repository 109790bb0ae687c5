use Rattle.std.proofs.Common.{◌<◌, ◌∙◌, length, refl, ap, sym, arith}
use Rattle.std.proofs.lemmas.List.Elements.{All-set}
use Rattle.tx_view_form.specs.Outcomes.{Moment, beginning, env_behind}
use Rattle.tx_view_form.specs.Started.{attributes_of}
use Rattle.tx_bridge.specs.Entries.{units_of}
use Rattle.tx_unit_layout.specs.Views.{IsReadable}
use Rattle.tx_view.specs.Laid.{laid_in}
use Rattle.tx_view.specs.Stores.{attributes_from}
use Rattle.tx_view.proofs.Onward.{begun, ended, HasUnit, inside_kept, laid_here, laid_many, next_all, parts_are}
use Rattle.tx_view.proofs.Onward.{right_there, same_entry, trace_is, unit_here}
use Rattle.tx_view.proofs.Partly.{laid_again, laid_more, laid_none}
use Rattle.tx_view.proofs.laying.lay_each.Goals as goal

pub loop-i-init : goal.loop-i-init
loop-i-init g c = record {
  onward =
      begun c.args.width c.args.bridges.now c.args.units.now c.args.moment.now c.args.steps.now c.requires.start
      c.requires.fresh c.requires.fresh_parts c.requires.laid c.requires.readable;
  attributes = c.requires.attributes;
  still =
      laid_none (laid_in c.args.units.now) (attributes_from beginning (units_of c.args.bridges.now.kept))
      (laid_in c.args.units.now) refl;
}

pub overflow_cast-i : goal.overflow_cast-i
overflow_cast-i g c =
    omega (
      arith,
      laid_many c.args.width c.args.bridges.now.kept c.args.bridges.now.parts c.args.bridges.now.part_flags
          c.args.units.now c.requires.laid,
      c.requires.few,
    )

pub lay_next-requires-clause-there : goal.lay_next-requires-clause-there
lay_next-requires-clause-there g c = inside_kept c.loop-i.invariant.onward (omega arith) c.index-units-i.result

pub lay_next-requires-clause-fresh : goal.lay_next-requires-clause-fresh
lay_next-requires-clause-fresh g c e ks fs at = (
  trace_is c.args.width c.args.bridges.now c.args.units.now c.loop-i.units c.loop-i.i c.loop-i.moment c.loop-i.items
      c.args.steps.now c.loop-i.steps c.loop-i.invariant.onward (omega arith) c.index-units-i.result e ks fs at,
  parts_are c.args.width c.args.bridges.now c.args.units.now c.loop-i.units c.loop-i.i c.loop-i.moment c.loop-i.items
      c.args.steps.now c.loop-i.steps c.loop-i.invariant.onward (omega arith) c.index-units-i.result e ks fs at,
)

pub lay_next-requires-clause-was_laid : goal.lay_next-requires-clause-was_laid
lay_next-requires-clause-was_laid g c e ks fs at =
    laid_here c.args.width c.args.bridges.now c.args.units.now c.loop-i.units c.loop-i.i c.loop-i.moment c.loop-i.items
    c.args.steps.now c.loop-i.steps c.loop-i.invariant.onward (omega arith) c.index-units-i.result e ks fs at

pub lay_next-requires-clause-few : goal.lay_next-requires-clause-few
lay_next-requires-clause-few g c =
    omega (arith, c.loop-i.invariant.onward.most, c.loop-i.invariant.onward.within, c.requires.few)

pub returns-in_err-more-clause-readable : goal.returns-in_err-more-clause-readable
returns-in_err-more-clause-readable g c =
    All-set IsReadable c.loop-i.units c.loop-i.i c.lay_next.new.shown
    c.in_err-more.ensures.readable c.loop-i.invariant.onward.readable

pub overflow_add-items : goal.overflow_add-items
overflow_add-items g c =
    let inside : c.loop-i.i < length c.args.bridges.now.kept =
    inside_kept c.loop-i.invariant.onward (omega arith) c.index-units-i.result in
    let u : HasUnit c.args.bridges.now c.loop-i.i =
    unit_here c.loop-i.invariant.onward (omega arith) c.index-units-i.result in
    omega (
      arith,
      (c.in_ok-more.ensures.next u.entry u.parts u.flags u.is).most,
      c.loop-i.invariant.onward.most,
      inside,
      c.requires.few,
    )

pub pass_attributes-requires-clause-there : goal.pass_attributes-requires-clause-there
pass_attributes-requires-clause-there g c = inside_kept c.loop-i.invariant.onward (omega arith) c.index-units-i.result

pub pass_attributes-requires-clause-before : goal.pass_attributes-requires-clause-before
pass_attributes-requires-clause-before g c e at =
    let u : HasUnit c.args.bridges.now c.loop-i.i =
    unit_here c.loop-i.invariant.onward (omega arith) c.index-units-i.result in
    let here = same_entry u e at in
    let trace = trace_is c.args.width c.args.bridges.now c.args.units.now c.loop-i.units c.loop-i.i c.loop-i.moment
    c.loop-i.items c.args.steps.now c.loop-i.steps c.loop-i.invariant.onward (omega arith) c.index-units-i.result e
    u.parts u.flags here in (
      c.loop-i.moment.env,
      c.loop-i.invariant.attributes,
      ap (λ (k : Moment). k.env) (c.in_ok-more.ensures.next e u.parts u.flags here).behind_is
          ∙ ap (env_behind c.loop-i.moment.env) (sym trace),
    )

pub loop-i-preserved : goal.loop-i-preserved
loop-i-preserved g c =
    let u : HasUnit c.args.bridges.now c.loop-i.i =
    unit_here c.loop-i.invariant.onward (omega arith) c.index-units-i.result in
    record {
      onward =
          next_all c.loop-i.invariant.onward (omega arith) c.index-units-i.result c.in_ok-more.ensures.next
          c.in_ok-more.ensures.counted c.in_ok-more.ensures.readable;
      attributes = c.in_ok-pass_attributes.ensures;
      still =
          laid_more (laid_in c.args.units.now) (attributes_from beginning (units_of c.args.bridges.now.kept))
          c.loop-i.units c.loop-i.i c.lay_next.new.shown (attributes_of c.loop-i.moment.env) c.loop-i.invariant.still
          (right_there c.loop-i.invariant.onward (omega arith) c.index-units-i.result)
          (c.in_ok-more.ensures.next u.entry u.parts u.flags u.is).attributes;
    }

pub returns-in_err-pass_attributes-clause-laid : goal.returns-in_err-pass_attributes-clause-laid
returns-in_err-pass_attributes-clause-laid g c =
    (next_all c.loop-i.invariant.onward (omega arith) c.index-units-i.result c.in_ok-more.ensures.next
    c.in_ok-more.ensures.counted c.in_ok-more.ensures.readable).laid

pub returns-in_err-pass_attributes-clause-readable : goal.returns-in_err-pass_attributes-clause-readable
returns-in_err-pass_attributes-clause-readable g c =
    (next_all c.loop-i.invariant.onward (omega arith) c.index-units-i.result c.in_ok-more.ensures.next
    c.in_ok-more.ensures.counted c.in_ok-more.ensures.readable).readable

pub returns-clause-shown : goal.returns-clause-shown
returns-clause-shown g c =
    (ended c.args.width c.args.bridges.now c.args.units.now c.loop-i.units c.loop-i.i c.loop-i.moment c.loop-i.items
    c.args.steps.now c.loop-i.steps c.loop-i.invariant.onward (omega arith) c.requires.few).shown

pub returns-clause-attributes : goal.returns-clause-attributes
returns-clause-attributes g c =
    (ended c.args.width c.args.bridges.now c.args.units.now c.loop-i.units c.loop-i.i c.loop-i.moment c.loop-i.items
    c.args.steps.now c.loop-i.steps c.loop-i.invariant.onward (omega arith) c.requires.few).attributes

pub returns-clause-lines : goal.returns-clause-lines
returns-clause-lines g c =
    (ended c.args.width c.args.bridges.now c.args.units.now c.loop-i.units c.loop-i.i c.loop-i.moment c.loop-i.items
    c.args.steps.now c.loop-i.steps c.loop-i.invariant.onward (omega arith) c.requires.few).lines

pub returns-clause-errors : goal.returns-clause-errors
returns-clause-errors g c =
    (ended c.args.width c.args.bridges.now c.args.units.now c.loop-i.units c.loop-i.i c.loop-i.moment c.loop-i.items
    c.args.steps.now c.loop-i.steps c.loop-i.invariant.onward (omega arith) c.requires.few).errors

pub returns-clause-counted : goal.returns-clause-counted
returns-clause-counted g c =
    (ended c.args.width c.args.bridges.now c.args.units.now c.loop-i.units c.loop-i.i c.loop-i.moment c.loop-i.items
    c.args.steps.now c.loop-i.steps c.loop-i.invariant.onward (omega arith) c.requires.few).steps

pub returns-clause-items : goal.returns-clause-items
returns-clause-items g c =
    (ended c.args.width c.args.bridges.now c.args.units.now c.loop-i.units c.loop-i.i c.loop-i.moment c.loop-i.items
    c.args.steps.now c.loop-i.steps c.loop-i.invariant.onward (omega arith) c.requires.few).items_is

pub returns-clause-most : goal.returns-clause-most
returns-clause-most g c =
    (ended c.args.width c.args.bridges.now c.args.units.now c.loop-i.units c.loop-i.i c.loop-i.moment c.loop-i.items
    c.args.steps.now c.loop-i.steps c.loop-i.invariant.onward (omega arith) c.requires.few).most

pub returns-in_err-more-clause-still : goal.returns-in_err-more-clause-still
returns-in_err-more-clause-still g c =
    laid_again (laid_in c.args.units.now) (attributes_from beginning (units_of c.args.bridges.now.kept)) c.loop-i.units
    c.loop-i.i c.lay_next.new.shown c.index-units-i.result c.loop-i.invariant.still c.in_err-more.ensures.err

pub returns-in_err-pass_attributes-clause-still : goal.returns-in_err-pass_attributes-clause-still
returns-in_err-pass_attributes-clause-still g c =
    let u : HasUnit c.args.bridges.now c.loop-i.i =
    unit_here c.loop-i.invariant.onward (omega arith) c.index-units-i.result in
    laid_more (laid_in c.args.units.now) (attributes_from beginning (units_of c.args.bridges.now.kept))
    c.loop-i.units c.loop-i.i c.lay_next.new.shown (attributes_of c.loop-i.moment.env) c.loop-i.invariant.still
    (right_there c.loop-i.invariant.onward (omega arith) c.index-units-i.result)
    (c.in_ok-more.ensures.next u.entry u.parts u.flags u.is).attributes
