-- Looks after others.
use Rattle.std.specs.Prelude.{Option, is_some, if◌then◌else◌}
use Rattle.std.specs.FinMap.{get}
use Rattle.tx_tree.specs.WideTree.{WideTree}
use Rattle.tx_env.specs.Pairs.{Name}
use Rattle.tx_env.specs.Environments.{NameMap}
use Rattle.tx_exec_form.specs.Maps.{LookMap, noted}

-- with this look after the others, unless the name was set
abbrev pub look_behind : NameMap → LookMap → Name → Option WideTree → LookMap
look_behind own looks x found = if is_some (get own x) then looks else noted looks x found
