use Rattle.std.proofs.Common.{◌≡◌, drop}
use Rattle.tx_tree.specs.WideTree.{children_of}
use Rattle.tx_origin.specs.TaggedTrees.{tagged_of, kids_of}
use Rattle.tx_exec_form.specs.Frames.{argument}
use Rattle.tx_exec.specs.FrameView.{params_of}
use Rattle.tx_exec.proofs.macros.argument_of.Given as goal

abbrev pub invariant-loop-i : goal.invariant-loop-i
invariant-loop-i l =
    argument l.name (params_of (drop l.i (children_of l.meaning))) (drop l.i (kids_of (tagged_of l.tag))) ≡ argument
    l.fn.name (params_of (children_of l.fn.meaning)) (kids_of (tagged_of l.fn.tag))
