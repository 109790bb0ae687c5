use Rattle.std.proofs.Common.{rules, refl}
use Rattle.tx_text.proofs.Reading.{shows_symbol, shows_byte, goes_on, begins}
use Rattle.tx_text.proofs.cutting.display_of.Goals as goal
use Rattle.tx_text.proofs.cutting.display_of.Goals.{in-true-eq62+in_ok-add_symbol-in-true-eq62, in-true-default}
use Rattle.tx_text.proofs.cutting.display_of.Goals.{in-false-eq60, in-false-default+in_ok-add_byte-in-false-default}

pub loop-at-preserved : goal.loop-at-preserved
loop-at-preserved c =
    elim c.if-in_symbol.branch [
      | in-true-eq62+in_ok-add_symbol-in-true-eq62 w ↦
          rw (w.display-is, w.from-is, w.in_symbol-is)
          (shows_symbol _ _ _ _ _ _ _ _ c.loop-at.invariant w.in-true-eq62.is-0 c.loop-at-test.true
          w.in-true-eq62.is-1 w.in_ok-add_symbol-in-true-eq62.ensures.text
          w.in_ok-add_symbol-in-true-eq62.ensures.places)
      | in-true-default w ↦ rw (w.display-is, w.from-is, w.in_symbol-is)
          (goes_on _ _ _ _ _ _ c.loop-at.invariant (search rules) (search rules) (search rules))
      | in-false-eq60 w ↦ rw (w.display-is, w.from-is, w.in_symbol-is)
          (begins _ _ _ _ _ _ c.loop-at.invariant w.in-false-eq60.is-0 c.loop-at-test.true w.in-false-eq60.is-1)
      | in-false-default+in_ok-add_byte-in-false-default w ↦
          rw (w.display-is, w.from-is, w.in_symbol-is)
          (shows_byte _ _ _ _ _ _ _ _ _ c.loop-at.invariant (search rules) c.loop-at-test.true refl (search rules)
          w.in_ok-add_byte-in-false-default.ensures.text
          w.in_ok-add_byte-in-false-default.ensures.places)
    ]
