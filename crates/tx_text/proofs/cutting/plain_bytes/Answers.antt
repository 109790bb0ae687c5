use Rattle.std.proofs.Common.{sym, ap, ◌∙◌}
use Rattle.std.specs.List.{list_all}
use Rattle.tx_text.specs.Places.{is_plain_byte, plain_clusters}
use Rattle.tx_text.proofs.Plain.{plain_by_test}
use Rattle.tx_text.proofs.cutting.plain_bytes.Goals as goal

pub returns-then-is_plain-clause-clusters : goal.returns-then-is_plain-clause-clusters
returns-then-is_plain-clause-clusters c =
    let same = c.bytes-bytes.ensures.bytes in
    let test = ap (list_all is_plain_byte) (sym same) ∙ sym c.is_plain.ensures ∙ c.if-is_plain.true in
    plain_by_test c.args.text.now test ∙ ap (plain_clusters 0) (sym same)
