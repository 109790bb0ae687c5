-- Frames: the parameters of a `macro` with their arguments, or the one parameter of an `xmacro` with all arguments, and
-- the frame of the caller.
use Rattle.std.specs.Prelude.{List, [], ◌∷◌, if◌then◌else◌}
use Rattle.std.specs.Str.{bytes_eq}
use Rattle.tx_origin.specs.TaggedTrees.{TaggedTree}
use Rattle.tx_env.specs.Pairs.{Name}

pub data Frame : Type 0 where
  top : Frame
  call : (parameters : List Name) → (arguments : List TaggedTree) → (caller : Frame) → Frame
  call_all : (parameter : Name) → (arguments : List TaggedTree) → (caller : Frame) → Frame

abbrev pub caller_of : Frame → Frame
caller_of top = top
caller_of (call parameters arguments caller) = caller
caller_of (call_all parameter arguments caller) = caller

-- What a name has in a frame: no parameter, a parameter without an argument, an argument, or all arguments.
pub data Found : Type 0 where
  Unbound : Found
  Missing : Found
  Here : TaggedTree → Found
  All : List TaggedTree → Found

abbrev pub first_argument : List TaggedTree → Found
first_argument [] = Missing
first_argument (t ∷ ts) = Here t

abbrev pub others_of : List TaggedTree → List TaggedTree
others_of [] = []
others_of (t ∷ ts) = ts

-- Each parameter has the argument at its own place, and the first of equal parameters counts.
abbrev pub argument : Name → List Name → List TaggedTree → Found
argument x [] ts = Unbound
argument x (p ∷ ps) ts = if bytes_eq p x then first_argument ts else argument x ps (others_of ts)

abbrev pub argument_in : Name → Frame → Found
argument_in x top = Unbound
argument_in x (call parameters arguments caller) = argument x parameters arguments
argument_in x (call_all parameter arguments caller) = if bytes_eq parameter x then All arguments else Unbound
