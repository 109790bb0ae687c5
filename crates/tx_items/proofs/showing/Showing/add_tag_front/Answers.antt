use Rattle.std.proofs.Common.{None}
use Rattle.std.specs.Prelude.{codes}
use Rattle.std.proofs.lemmas.Result.{on_ok_weaker}
use Rattle.tx_items.specs.Drawing.{drawn}
use Rattle.tx_items.proofs.Texts.{line_both}
use Rattle.tx_items.proofs.showing.Showing.add_tag_front.Goals as goal

pub returns : goal.returns
returns c =
    on_ok_weaker c.add_made.result
    (λ h. line_both (drawn c.args.self.now.attrs None (codes "<less>")) (λ a. drawn a None c.args.label.now) _ _ _
    c.in_ok-add_word.ensures h) c.add_made.ensures
