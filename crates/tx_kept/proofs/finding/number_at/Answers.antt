use Rattle.tx_kept.proofs.Found.{found_or_none}
use Rattle.tx_kept.proofs.finding.number_at.Goals as goal

pub returns : goal.returns
returns g c =
    found_or_none c.found_at-2.result c.args.path.now c.args.entries.now c.start_of.result c.requires
    c.start_of.ensures.split c.found_at-2.ensures
