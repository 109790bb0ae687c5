use Rattle.std.proofs.Common.{◌≡◌, ◌∙◌, ap, arith}
use Rattle.tx_tree.specs.WideTree.{nodes_of}
use Rattle.tx_open.proofs.Nodes.{modern_nodes}
use Rattle.tx_open.proofs.file.read_file.Goals as goal

pub returns-in-Ok-clause-counted : goal.returns-in-Ok-clause-counted
returns-in-Ok-clause-counted g c =
    let same : nodes_of c.in-Ok.tree ≡ nodes_of c.in_ok-spelled.spelled =
    ap nodes_of c.in-Ok.ensures.modern ∙ modern_nodes c.in_ok-spelled.spelled in
    omega (arith, same, c.in_ok-spelled.ensures.counted, c.in-Ok.ensures.counted)
