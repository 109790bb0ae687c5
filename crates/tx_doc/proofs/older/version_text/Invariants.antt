use Rattle.std.proofs.Common.{◌≡◌, codes, drop}
use Rattle.std.specs.List.{find}
use Rattle.tx_tree.specs.WideTree.{children_of}
use Rattle.tx_doc.specs.Bodies.{is_labelled}
use Rattle.tx_doc.proofs.older.version_text.Given as goal

abbrev pub invariant-loop-child : goal.invariant-loop-child
invariant-loop-child l =
    find (is_labelled (codes "TeXmacs")) (children_of l.t)
    ≡ find (is_labelled (codes "TeXmacs")) (drop l.child-index l.child-items)
