-- What a frame's fields are seen as.
use denote.Bor.{Bor}
use Rattle.std.specs.Prelude.{ℕ, ◌+◌, List, [], ◌∷◌, Option, Some, None}
use Rattle.tx_tree.specs.WideTree.{WideTree, leaf, node, children_of}
use Rattle.tx_origin.specs.TaggedTrees.{TaggedTree, kids_of, tagged_of}
use Rattle.tx_exec_form.specs.Frames.{Frame, top, call, call_all, Found, Unbound, Missing, Here, All}
use Rattle.tx_exec.specs.declared.binding.Binding.{Binding}
use Rattle.tx_exec.specs.declared.binding.Binding.TheVariants as bindings
use Rattle.tx_exec.specs.declared.frame.Call.TheInside.{Inside}
use Rattle.tx_exec.specs.declared.argument.Argument.{Argument}
use Rattle.tx_exec.specs.declared.argument.Argument.TheVariants as arguments

-- the frame of a call, if there is one
abbrev pub frame_in : Option (Bor Frame) → Frame
frame_in None = top
frame_in (Some f) = f.now

abbrev pub frame_depth : Frame → ℕ
frame_depth top = 0
frame_depth (call parameters arguments caller) = 1 + frame_depth caller
frame_depth (call_all parameter arguments caller) = 1 + frame_depth caller

abbrev pub word_of : WideTree → List ℕ
word_of (leaf t) = t
word_of (node l ts) = []

-- the texts before the last child
abbrev pub params_of : List WideTree → List (List ℕ)
params_of [] = []
params_of (t ∷ []) = []
params_of (t ∷ u ∷ ts) = word_of t ∷ params_of (u ∷ ts)

-- the text of the first child
abbrev pub first_word : List WideTree → List ℕ
first_word [] = []
first_word (t ∷ ts) = word_of t

-- the frame of a `macro` or an `xmacro` of these children
abbrev pub frame_by : Binding → List WideTree → List TaggedTree → Frame → Frame
frame_by bindings.Each ts arguments caller = call (params_of ts) arguments caller
frame_by bindings.All ts arguments caller = call_all (first_word ts) arguments caller

abbrev pub frame_of : Inside → Frame
frame_of f = frame_by f.binding (children_of f.meaning.now) (kids_of (tagged_of f.tag.now)) (frame_in f.caller)

abbrev pub found_of : Argument → Found
found_of arguments.Unbound = Unbound
found_of arguments.Missing = Missing
found_of (arguments.Here t) = Here (tagged_of t)
found_of (arguments.All t) = All (kids_of (tagged_of t))
