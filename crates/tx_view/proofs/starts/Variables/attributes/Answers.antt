use Rattle.tx_view.proofs.Taking.{taken}
use Rattle.tx_view.proofs.starts.Variables.attributes.Goals as goal

pub returns : goal.returns
returns c =
    taken c.args.env.now.map c.args.self.now c.in_ok-attrs.attrs c.take.new.attrs c.take-2.new.attrs c.take-3.new.attrs
    c.take-4.new.attrs
    c.take-5.new.attrs c.take-6.new.attrs c.take-7.new.attrs c.requires c.in_ok-attrs.ensures c.in_ok-take.ensures
    c.in_ok-take-2.ensures
    c.in_ok-take-3.ensures c.in_ok-take-4.ensures c.in_ok-take-5.ensures c.in_ok-take-6.ensures c.in_ok-take-7.ensures
