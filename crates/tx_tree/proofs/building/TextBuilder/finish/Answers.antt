use Rattle.std.proofs.Common.{Some, subst, sym, ◌∙◌, ap}
use Rattle.tx_tree.specs.Texts.{IsText}
use Rattle.tx_tree.proofs.Scanning.{in_symbol, between_text}
use Rattle.tx_tree.proofs.building.TextBuilder.finish.Goals as goal

pub of_scanned-requires-clause-text : goal.of_scanned-requires-clause-text
of_scanned-requires-clause-text c = between_text _ (c.self.invariant.place ∙ ap (λ p. Some p) c.in-Between.is)

pub returns-in-InSymbol : goal.returns-in-InSymbol
returns-in-InSymbol c =
    λ h. in_symbol _ _ (c.self.invariant.place ∙ ap (λ p. Some p) c.in-InSymbol.is)
    (subst IsText (sym c.self.view_is) h)
