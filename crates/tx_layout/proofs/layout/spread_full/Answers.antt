use Rattle.std.proofs.Common.{◌≡◌, ◌+◌, suc, arith, sym, ap, ◌∙◌}
use Rattle.std.specs.Prelude.{slice_get}
use Rattle.tx_layout.proofs.Room.{segment_full}
use Rattle.tx_layout.proofs.layout.spread_full.Goals as goal

pub returns : goal.returns
returns c = λ frame b items lines k line next is h e f.
    let more : suc k ≡ k + 1 = omega arith in
    segment_full frame b items lines k line next is h e (ap (λ n. slice_get lines n) more ∙ f)
