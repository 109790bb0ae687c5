use Rattle.std.proofs.Common.{rules, arith, ap, ◌∙◌, ◌≡◌, ◌++◌, [], replicate}
use Rattle.tx_screen.proofs.Shown.{pad_none, pad_one}
use Rattle.tx_screen.proofs.frames.pad_rows.Goals as goal

pub loop-init : goal.loop-init
loop-init c = pad_none c.args.rows.items

pub loop-preserved : goal.loop-preserved
loop-preserved c = let more = pad_one c.args.rows.items c.loop.rows.items c.loop.counter c.loop.invariant in search (rules, more)

pub returns : goal.returns
returns c =
    let all : c.loop.counter ≡ c.saturating_sub-missing.result = omega (arith, c.loop-test.false, c.loop.auto.counter-end) in
    c.loop.invariant ∙ ap (λ n. c.args.rows.items ++ replicate n []) all ∙ search (rules, c.saturating_sub-missing.ensures, c.len.ensures)
