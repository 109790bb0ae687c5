use Rattle.std.proofs.Common.{◌≡◌, ◌++◌, drop}
use Rattle.std.specs.List.{filter_map}
use Rattle.tx_table.specs.Settings.{setting_of}
use Rattle.tx_table.proofs.settings.settings_in.Given as goal

abbrev pub invariant-loop-value : goal.invariant-loop-value
invariant-loop-value l =
    l.settings.items ++ filter_map (setting_of l.rows l.columns) (drop l.value-index l.values)
    ≡ filter_map (setting_of l.rows l.columns) l.values
