use Rattle.std.proofs.Common.{◌≡◌, None, take}
use Rattle.tx_outside.specs.Files.{file_of}
use Rattle.tx_outside.proofs.in_memory.file_list.place_of.Given as goal

-- no file so far has the name
abbrev pub invariant-loop-place : goal.invariant-loop-place
invariant-loop-place l = file_of (take l.place l.files) l.name ≡ None
