use Rattle.std.proofs.Common.{arith, sym, ◌∙◌}
use Rattle.std.proofs.lemmas.Bool.{eqb-true}
use Rattle.tx_tree.proofs.Labelling.{label_stops, label_empty}
use Rattle.tx_tree.proofs.labels.Label.new.Goals as goal
use Rattle.tx_tree.proofs.labels.Label.new.Goals.{then-i-eq-MOST_LABEL-via-then-i-eq-MOST_LABEL}
use Rattle.tx_tree.proofs.labels.Label.new.Goals.{then-i-eq-MOST_LABEL-via-else-i-eq-MOST_LABEL+then-not-is_label_byte}

pub returns-then-i-eq-MOST_LABEL-clause-refused : goal.returns-then-i-eq-MOST_LABEL-clause-refused
returns-then-i-eq-MOST_LABEL-clause-refused c =
    elim c.then-i-eq-MOST_LABEL.branch [
      | then-i-eq-MOST_LABEL-via-then-i-eq-MOST_LABEL w ↦ λ other.
          label_stops _ _ c.loop-i-test.true c.loop-i.invariant.each c.loop-i.invariant.short
          (λ lt. absurd (omega arith))
      | then-i-eq-MOST_LABEL-via-else-i-eq-MOST_LABEL+then-not-is_label_byte w ↦ λ other.
          label_stops _ _ c.loop-i-test.true c.loop-i.invariant.each c.loop-i.invariant.short
          (λ lt. sym w.is_label_byte.ensures ∙ w.if-not-is_label_byte.true)
    ]

pub returns-then-is_empty-clause-refused : goal.returns-then-is_empty-clause-refused
returns-then-is_empty-clause-refused c =
    λ other. label_empty _ (eqb-true _ _ (sym c.is_empty.ensures ∙ c.if-is_empty.true))
