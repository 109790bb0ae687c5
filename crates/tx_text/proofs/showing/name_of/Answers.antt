use Rattle.std.proofs.Common.{◌==◌, not, take, ap, ◌∙◌}
use Rattle.std.proofs.lemmas.List.Folds.{length-prefix_len}
use Rattle.tx_text.proofs.showing.name_of.Goals as goal

pub returns : goal.returns
returns c =
    ap (λ n. take n c.args.bytes.now) (c.name_len.ensures ∙ length-prefix_len (λ b. not (b == 62)) c.args.bytes.now)
