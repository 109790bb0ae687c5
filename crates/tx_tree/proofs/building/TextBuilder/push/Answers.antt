use Rattle.std.proofs.Common.{◌∷◌, [], sym, ◌∙◌, ap, arith, length-append}
use Rattle.tx_tree.specs.TextScan.{takes_byte}
use Rattle.tx_tree.proofs.Scanning.{takes_more, takes_yes, takes_no}
use Rattle.tx_tree.proofs.building.TextBuilder.push.Goals as goal

pub invariant_of-self-in-Some : goal.invariant_of-self-in-Some
invariant_of-self-in-Some c =
    let grown = c.in_ok-push-in-Some.ensures.items in
    record {
      place = rw grown (takes_more _ _ _ _ c.self.invariant.place (sym c.step.ensures ∙ c.in-Some.is));
      short = rw grown (omega (arith, length-append c.self.inside.bytes.items (c.args.byte ∷ [])));
    }

pub returns-in-None-clause-taken : goal.returns-in-None-clause-taken
returns-in-None-clause-taken c = takes_no _ _ _ c.self.invariant.place (sym c.step.ensures ∙ c.in-None.is)
    ∙ ap (λ x. takes_byte x c.args.byte) c.self.view_is

pub returns-in_ok-push-in-Some-clause-taken : goal.returns-in_ok-push-in-Some-clause-taken
returns-in_ok-push-in-Some-clause-taken c =
    takes_yes _ _ _ _ (omega arith) c.self.invariant.place (sym c.step.ensures ∙ c.in-Some.is)
    ∙ ap (λ x. takes_byte x c.args.byte) c.self.view_is
