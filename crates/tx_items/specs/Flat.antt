-- Which values show in a line that nothing in them ends. Labels, numbers of parts and lengths alone decide it.
use Rattle.std.specs.Prelude.{ℕ, Bool, true, false, not, ◌&&◌, List, [], ◌∷◌, Option, Some, None, option_and_then}
use Rattle.std.specs.Prelude.{ℤ}
use Rattle.tx_prim.specs.Lengths.{length_of}
use Rattle.tx_origin.specs.Values.{WideValue, WideValues, text, made, none, also, value_text}
use Rattle.tx_table.specs.declared.grids.Grid.{Grid}
use Rattle.tx_table.specs.Grids.{grid_of}
use Rattle.tx_items.specs.Tables.{Level, Every, Final, levels_of}
use Rattle.tx_items.specs.Rules.{Rule, rule_of}
use Rattle.tx_items.specs.Rules as rules

-- there is no length that could end a line
abbrev pub is_no_length : Option ℤ → Bool
is_no_length None = true
is_no_length (Some z) = false

-- a space down that isn't one length is an error
abbrev pub flat_space : WideValues → Bool
flat_space none = true
flat_space (also v none) = is_no_length (option_and_then length_of (value_text v))
flat_space (also v (also w vs)) = true

-- a table of the asked form, whose cells show in lines that nothing ends
abbrev pub is_table : Option Grid → Bool → Bool
is_table None flat = false
is_table (Some grid) flat = flat

-- whether a node is flat: by its rule, its parts, whether all of them are flat, whether the last one after pairs is
-- flat, and whether they are a table
abbrev pub rule_flat : Rule → WideValues → Bool → Bool → Bool → Bool
rule_flat rules.Concat vs all last table = all
rule_flat rules.Document vs all last table = false
rule_flat rules.With vs all last table = last
rule_flat rules.Assign vs all last table = true
rule_flat rules.Silent vs all last table = true
rule_flat rules.NextLine vs all last table = false
rule_flat rules.NewPage vs all last table = false
rule_flat rules.Hspace vs all last table = true
rule_flat rules.Vspace vs all last table = flat_space vs
rule_flat rules.Error vs all last table = true
rule_flat rules.Tabular vs all last table = not table
rule_flat rules.Other vs all last table = all

unfoldable mutual
  pub is_flat : WideValue → Bool
  is_flat (text words at) = true
  is_flat (made label vs at) =
      rule_flat (rule_of label) vs (all_flat vs) (last_flat vs)
      (is_table (grid_of (made label vs at)) (flat_below (levels_of vs) vs))

  pub all_flat : WideValues → Bool
  all_flat none = true
  all_flat (also v vs) = is_flat v && all_flat vs

  -- whether the last part after pairs is flat; an even number of parts is an error, which is flat
  pub last_flat : WideValues → Bool
  last_flat none = true
  last_flat (also v none) = is_flat v
  last_flat (also x (also v vs)) = last_flat vs

  -- whether what is in the cells of a table is flat, where these levels lead from the values down to it
  pub flat_below : List Level → WideValues → Bool
  flat_below levels none = true
  flat_below [] (also v none) = is_flat v
  flat_below [] (also x (also v vs)) = true
  flat_below (Every ∷ levels) (also (text words at) vs) = flat_below (Every ∷ levels) vs
  flat_below (Every ∷ levels) (also (made label ws at) vs) =
      flat_below levels ws && flat_below (Every ∷ levels) vs
  flat_below (Final ∷ levels) (also (text words at) none) = true
  flat_below (Final ∷ levels) (also (made label ws at) none) = flat_below levels ws
  flat_below (Final ∷ levels) (also x (also v vs)) = flat_below (Final ∷ levels) (also v vs)

-- a `tabular` that shows as a table
unfoldable pub shows_table : WideValue → Bool
shows_table (text words at) = false
shows_table (made label vs at) = is_table (grid_of (made label vs at)) (flat_below (levels_of vs) vs)
