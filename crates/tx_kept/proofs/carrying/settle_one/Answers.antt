use Rattle.std.proofs.Common.{rules, ◌≡◌, ◌+◌, ◌∷◌, ◌∙◌, sym, ap}
use Rattle.std.specs.Prelude.{None}
use Rattle.tx_kept.specs.Moves.{moved, due}
use Rattle.tx_kept.proofs.Moving.{settle_none}
use Rattle.tx_kept.proofs.carrying.settle_one.Goals as goal

pub returns-in_default : goal.returns-in_default
returns-in_default g c =
    let e : c.args.next.now ≡ None = search rules in
    let f : c.take.new.self ≡ None = search rules in
    λ rest. settle_none c.args.at c.args.next.now c.args.stack.now.items c.args.entry.now rest e
    ∙ ap (λ n. c.args.entry.now ∷ moved (c.args.at + 1) (due n c.args.stack.now.items) rest) (sym f)
