use Rattle.std.proofs.Common.{◌≡◌, Some, sym, subst, ◌∙◌, ap, arith}
use Rattle.std.proofs.lemmas.List.{take_all}
use Rattle.tx_tree.specs.declared.texts.TextPlace.TheVariants.{Between, InSymbol}
use Rattle.tx_tree.specs.Texts.{IsText}
use Rattle.tx_tree.specs.TextScan.{text_run}
use Rattle.tx_tree.proofs.Scanning.{fault_there, run_more, ends_at, in_symbol, between_text}
use Rattle.tx_tree.proofs.texts.scan.Goals as goal

pub returns-in-None-clause-refused : goal.returns-in-None-clause-refused
returns-in-None-clause-refused c =
    fault_there _ _ _ _ c.requires c.loop-i-test.true c.loop-i.invariant (sym c.step.ensures ∙ c.in-None.is)
    c.fault.ensures

pub loop-i-preserved : goal.loop-i-preserved
loop-i-preserved c = run_more _ _ _ c.loop-i-test.true c.loop-i.invariant ∙ sym c.step.ensures ∙ c.in-Some.is

pub returns-in-Between-clause-text : goal.returns-in-Between-clause-text
returns-in-Between-clause-text c =
    between_text c.args.bytes.now (ap (λ x. text_run (Some Between) x) (sym (take_all _ _ c.loop-i-test.false))
    ∙ c.loop-i.invariant ∙ ap (λ p. Some p) c.in-Between.is)

pub returns-in-InSymbol-clause-refused : goal.returns-in-InSymbol-clause-refused
returns-in-InSymbol-clause-refused c =
    let bytes = c.args.bytes.now in
    let whole : text_run (Some Between) bytes ≡ Some (InSymbol c.in-InSymbol.field-0) =
    ap (λ x. text_run (Some Between) x) (sym (take_all _ _ c.loop-i-test.false)) ∙ c.loop-i.invariant
    ∙ ap (λ p. Some p) c.in-InSymbol.is in
    (c.requires, ends_at bytes _ whole, λ h. in_symbol bytes _ whole (subst IsText (take_all _ bytes (omega arith)) h))
