-- Rules as the code numbers them.
use Rattle.tx_items.specs.Rules as rules
use Rattle.tx_items.specs.declared.rows.Row.{Row}
use Rattle.tx_items.specs.declared.rows.Row.TheVariants.{Concat, Document, With, Assign, Silent, NextLine, NewPage}
use Rattle.tx_items.specs.declared.rows.Row.TheVariants.{Hspace, Vspace, Error, Tabular, Other}

abbrev pub rule_in : Row → rules.Rule
rule_in Concat = rules.Concat
rule_in Document = rules.Document
rule_in With = rules.With
rule_in Assign = rules.Assign
rule_in Silent = rules.Silent
rule_in NextLine = rules.NextLine
rule_in NewPage = rules.NewPage
rule_in Hspace = rules.Hspace
rule_in Vspace = rules.Vspace
rule_in Error = rules.Error
rule_in Tabular = rules.Tabular
rule_in Other = rules.Other
