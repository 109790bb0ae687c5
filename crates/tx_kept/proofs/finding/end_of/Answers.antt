use Rattle.std.proofs.Common.{rules}
use Rattle.std.proofs.lemmas.Fn.{always_returns_same}
use Rattle.std.specs.Prelude.{◌||◌}
use Rattle.tx_kept.specs.Finding.{is_before, is_below}
use Rattle.tx_kept.proofs.Found.{end_parts, end_split}
use Rattle.tx_kept.proofs.finding.end_of.Goals as goal

pub returns-clause-split : goal.returns-clause-split
returns-clause-split g c =
    let facts = c.partition_point.ensures in
    end_split c.args.path.now c.args.entries.now c.partition_point.result
    (facts.partitioned (λ x. is_before x.path c.args.path.now || is_below c.args.path.now x.path)
    (always_returns_same _ _ _ (λ a r h called. search rules))
    (end_parts c.args.path.now c.args.entries.now c.requires))
