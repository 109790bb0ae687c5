-- How trees are opened: by what they are, or by shells, where names have this.
use Rattle.std.specs.Prelude.{Option, Some, None, option_and_then, slice_get, if◌then◌else◌}
use Rattle.tx_tree.specs.WideTree.{WideTree, leaf, node, children_of}
use Rattle.tx_exec_form.specs.Runs.{Before}
use Rattle.tx_parts.specs.Openness.{Openness, openness}
use Rattle.tx_parts.specs.Shells.{Shell, Opener, is_other_tag}

-- the shell of a tree where names have this, or none
abbrev pub Sheller : Type 0
Sheller = WideTree → Before → Option Shell

-- nothing has a shell
abbrev pub no_shells : Sheller
no_shells t e = None

-- an opener that opens nothing
abbrev pub opens_nothing : Opener
opens_nothing t meaning = None

-- by an opener: any other tag, whose label has a tree for which the opener gives a shell
abbrev pub shells_by : Opener → Sheller
shells_by opener (leaf words) e = None
shells_by opener (node label ts) e =
    if is_other_tag label then option_and_then (opener (node label ts)) (e label) else None

pub data Opening : Type 0 where
  ByTree : (openness : Openness) → Opening
  ByShell : (shell : Shell) → (inner : WideTree) → Opening

abbrev pub shell_opening : Shell → Option WideTree → Openness → Opening
shell_opening shell None otherwise = ByTree otherwise
shell_opening shell (Some u) otherwise = ByShell shell u

abbrev pub opening_by : Option Shell → WideTree → Opening
opening_by None t = ByTree (openness t)
opening_by (Some shell) t = shell_opening shell (slice_get (children_of t) shell.inner) (openness t)

abbrev pub opening : Sheller → WideTree → Before → Opening
opening sheller t e = opening_by (sheller t e) t
