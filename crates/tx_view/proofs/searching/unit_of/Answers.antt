use Rattle.std.proofs.Common.{◌-◌, length, refl, arith}
use Rattle.tx_view.proofs.Numbering.{found_at, found_none, apart_first}
use Rattle.tx_view.proofs.searching.unit_of.Goals as goal

pub returns-then-number-firsts : goal.returns-then-number-firsts
returns-then-number-firsts c =
    λ counts e. found_none c.args.firsts.now counts c.args.number (length c.args.firsts.now - 1) e refl
    c.if-number-firsts.true

pub loop-high-init : goal.loop-high-init
loop-high-init c = record {
  apart = apart_first c.args.firsts.now (length c.args.firsts.now - 1) c.args.number c.requires.first
      c.if-number-firsts.false;
  within = omega (arith, c.requires.some);
  from = omega (arith, c.requires.first);
  to = c.if-number-firsts.false;
}

pub returns : goal.returns
returns c =
    λ counts e. found_at c.args.firsts.now counts c.args.number c.loop-high.low c.loop-high.high e
    c.loop-high.invariant.apart (omega arith)
    c.loop-high.invariant.within c.loop-high.invariant.from c.loop-high.invariant.to
