use Rattle.std.proofs.Common.{rules}
use Rattle.std.proofs.lemmas.Fn.{always_returns_same}
use Rattle.tx_kept.specs.Finding.{is_before}
use Rattle.tx_kept.proofs.Found.{before_parts, before_split}
use Rattle.tx_kept.proofs.finding.start_of.Goals as goal

pub returns-clause-split : goal.returns-clause-split
returns-clause-split g c =
    let facts = c.partition_point.ensures in
    before_split c.args.path.now c.args.entries.now c.partition_point.result
    (facts.partitioned (λ x. is_before x.path c.args.path.now)
    (always_returns_same _ _ _ (λ a r h called. search rules))
    (before_parts c.args.path.now c.args.entries.now c.requires))
