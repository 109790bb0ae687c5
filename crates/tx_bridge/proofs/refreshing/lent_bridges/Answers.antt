use Rattle.std.proofs.Common.{ap, sym, ◌∙◌}
use Rattle.std.specs.Prelude.{option_copied}
use Rattle.tx_bridge.specs.Sound.{entries_of, stored_parts_in, layers_in}
use Rattle.tx_bridge.specs.Spares.{spares_of}
use Rattle.tx_bridge.proofs.Lending.{all_lent}
use Rattle.tx_bridge.proofs.refreshing.lent_bridges.Goals as goal

pub returns-in-Some-clause-spares : goal.returns-in-Some-clause-spares
returns-in-Some-clause-spares c =
    all_lent c.deref.result.now c.in-Some.others.now
    (ap entries_of c.deref.ensures.value ∙ ap (λ b. b.kept) c.others.view_is)
    (ap stored_parts_in c.deref.ensures.value ∙ ap (λ b. b.parts) c.others.view_is)
    (ap layers_in c.deref.ensures.value ∙ ap (λ b. b.layers) c.others.view_is)
    ∙ sym (ap (λ o. spares_of (option_copied o)) c.in-Some.is)
