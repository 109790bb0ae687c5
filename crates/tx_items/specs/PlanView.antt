-- A plan of the program as a tree without words.
use Rattle.tx_tree.specs.WideTree.{WideTree, forest}
use Rattle.tx_items.specs.Plans.{line_plan, list_plan}
use Rattle.tx_items.specs.declared.plans.Form.{Form}
use Rattle.tx_items.specs.declared.plans.Form.TheVariants.{Line, List}

abbrev pub plan_view : Form → WideTree
plan_view Line = line_plan
plan_view (List parts) = list_plan (forest parts.items)
