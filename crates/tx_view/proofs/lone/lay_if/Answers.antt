use Rattle.std.proofs.Common.{◌≡◌, ◌+◌, true, arith, refl, ap}
use Rattle.tx_view_form.specs.Outcomes.{beginning}
use Rattle.tx_bridge.specs.Entries.{units_of}
use Rattle.tx_view.specs.Laid.{laid_in, items_unlaid_from}
use Rattle.tx_view.specs.Stores.{attributes_from}
use Rattle.tx_view.proofs.Alone.{all_laid}
use Rattle.tx_view.proofs.Endings.{on_either, if_ok_both, if_ok_on, if_ok_each}
use Rattle.tx_view.proofs.Partly.{laid_none, laid_fresh}
use Rattle.tx_view.proofs.lone.lay_if.Goals as goal

pub returns-clause-left : goal.returns-clause-left
returns-clause-left g c =
    let us = units_of c.args.bridges.now.kept in
    let fss = c.args.bridges.now.part_flags in
    if_ok_both c.lay_only.result _ (λ p. p.0 + items_unlaid_from beginning us fss c.lay_only.new.units
    ≡ items_unlaid_from beginning us fss c.args.units.now)
    (λ p laid is. omega (arith, is, all_laid beginning us fss c.lay_only.new.units laid))
    c.lay_only.ensures.attributes c.lay_only.ensures.items

pub returns-clause-quiet : goal.returns-clause-quiet
returns-clause-quiet g c =
    if_ok_each c.lay_only.result (λ p. p.1 ≡ true → c.args.quiet ≡ true) (λ p yes. c.if-not-quiet.false)

pub returns-clause-attributes : goal.returns-clause-attributes
returns-clause-attributes g c =
    let fresh = attributes_from beginning (units_of c.args.bridges.now.kept) in
    if_ok_on c.lay_only.result (λ p. p.1 ≡ true → laid_in c.lay_only.new.units ≡ fresh) (λ p is yes. is)
    c.lay_only.ensures.attributes

pub returns-then-not-quiet-clause-still : goal.returns-then-not-quiet-clause-still
returns-then-not-quiet-clause-still g c =
    laid_none (laid_in c.args.units.now) (attributes_from beginning (units_of c.args.bridges.now.kept))
    (laid_in c.args.units.now) refl

pub returns-clause-still : goal.returns-clause-still
returns-clause-still g c =
    let fresh = attributes_from beginning (units_of c.args.bridges.now.kept) in
    on_either c.lay_only.result
    (λ is. laid_fresh (laid_in c.args.units.now) fresh (laid_in c.lay_only.new.units) is)
    (λ same. laid_none (laid_in c.args.units.now) fresh (laid_in c.lay_only.new.units) (ap laid_in same))
    c.lay_only.ensures.attributes c.lay_only.ensures.err
