use Rattle.std.proofs.Common.{None}
use Rattle.tx_tm_form.specs.Machine.{open_with_child}
use Rattle.tx_tm_read.specs.Spots.{open_of, opens_of}
use Rattle.tx_tm_read.proofs.Stuck.{in_tag_rose}
use Rattle.tx_tm_read.proofs.walk.argument_in.Goals as goal

pub returns-in-InHeader-clause-counted : goal.returns-in-InHeader-clause-counted
returns-in-InHeader-clause-counted g c =
    in_tag_rose _ None (open_with_child (open_of c.args.tag) c.args.child)
    (opens_of c.args.opens.items) _ c.go_on.ensures
