use Rattle.std.proofs.Common.{◌≡◌, ℕ, ◌<◌, List, [], ◌∷◌, length, refl, arith}
use Rattle.tx_print.specs.Errors.{detail_text}
use Rattle.tx_print.specs.Lines.{shown}
use Rattle.tx_print.proofs.Adding.{adds_then, adds_also}
use Rattle.tx_print.proofs.Wording.{some_length}
use Rattle.tx_print.proofs.errors.push_detail.Goals as goal

some_detail : (detail : List ℕ) → 0 < length detail → 32 ∷ shown detail ≡ detail_text detail
some_detail [] e = absurd (omega arith)
some_detail (b ∷ bs) e = refl

pub returns-then-not-is_empty : goal.returns-then-not-is_empty
returns-then-not-is_empty g c =
    let long = some_length _ _ _ c.is_empty.ensures c.bytes.ensures.bytes c.if-not-is_empty.true in
    adds_also (some_detail c.args.detail.now long) (adds_then c.push.ensures c.push_shown.ensures)
