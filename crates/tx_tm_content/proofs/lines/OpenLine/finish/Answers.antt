use Rattle.std.proofs.Common.{[], ◌++◌}
use Rattle.tx_tm_form.specs.Parts.{leaf_before}
use Rattle.tx_tm_content.proofs.Fitting.{concat_too_long}
use Rattle.tx_tm_content.proofs.lines.OpenLine.finish.Goals as goal

pub returns-in-None-clause-made : goal.returns-in-None-clause-made
returns-in-None-clause-made g c = let row = rw c.in-None.is at c.in_ok-into_row.ensures in
    concat_too_long (c.args.self.done ++ leaf_before c.args.self.bytes []) row
