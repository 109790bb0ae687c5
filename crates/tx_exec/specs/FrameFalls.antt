-- A frame is deeper than that of the caller.
use Rattle.std.specs.Prelude.{◌≡◌, ℕ, ◌+◌, List}
use Rattle.std.proofs.Common.{refl}
use Rattle.tx_tree.specs.WideTree.{WideTree}
use Rattle.tx_origin.specs.TaggedTrees.{TaggedTree}
use Rattle.tx_exec_form.specs.Frames.{Frame}
use Rattle.tx_exec.specs.declared.binding.Binding.{Binding}
use Rattle.tx_exec.specs.declared.binding.Binding.TheVariants as bindings
use Rattle.tx_exec.specs.FrameView.{frame_by, frame_depth}

pub frame_deeper : (binding : Binding) (ts : List WideTree) (arguments : List TaggedTree) (caller : Frame)
    → frame_depth (frame_by binding ts arguments caller) ≡ 1 + frame_depth caller
frame_deeper bindings.Each ts arguments caller = refl
frame_deeper bindings.All ts arguments caller = refl
