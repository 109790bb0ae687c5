-- Which parts of a value show as lists, known before anything is shown. A plan is seen as a tree without words: a leaf
-- for what shows in a line, a node with the plans of the parts for a list.
use Rattle.std.specs.Prelude.{ℕ, Bool, false, not, ◌||◌, [], get_or}
use Rattle.std.specs.Prelude.{if◌then◌else◌}
use Rattle.tx_tree.specs.WideTree.{WideTree, Forest, leaf, node, nil, cons, children_of, is_leaf}
use Rattle.tx_origin.specs.Values.{WideValue, WideValues, text, made, none, also}
use Rattle.tx_items.specs.Rules.{Rule, rule_of}
use Rattle.tx_items.specs.Rules as rules
use Rattle.tx_items.specs.Flat.{shows_table}

abbrev pub line_plan : WideTree
line_plan = leaf []

abbrev pub list_plan : Forest → WideTree
list_plan plans = node [] plans

abbrev pub some_list : Forest → Bool
some_list nil = false
some_list (cons p ps) = not (is_leaf p) || some_list ps

-- parts side by side are a list where one is
abbrev pub joint_plan : Forest → WideTree
joint_plan plans = if some_list plans then list_plan plans else line_plan

-- a table is a list, whose cells are in a line each
abbrev pub table_plan : Bool → WideTree
table_plan table = if table then list_plan nil else line_plan

-- the plan of a node: by its rule, the plans of its parts, that of the last one after pairs, and whether they show as a
-- table
abbrev pub rule_plan : Rule → Forest → WideTree → Bool → WideTree
rule_plan rules.Concat plans last table = joint_plan plans
rule_plan rules.Document plans last table = list_plan plans
rule_plan rules.With plans last table = last
rule_plan rules.Assign plans last table = line_plan
rule_plan rules.Silent plans last table = line_plan
rule_plan rules.NextLine plans last table = line_plan
rule_plan rules.NewPage plans last table = line_plan
rule_plan rules.Hspace plans last table = line_plan
rule_plan rules.Vspace plans last table = line_plan
rule_plan rules.Error plans last table = line_plan
rule_plan rules.Tabular plans last table = table_plan table
rule_plan rules.Other plans last table = joint_plan plans

unfoldable mutual
  pub plan_of : WideValue → WideTree
  plan_of (text words at) = line_plan
  plan_of (made label vs at) = rule_plan (rule_of label) (plans_of vs) (last_plan vs) (shows_table (made label vs at))

  pub plans_of : WideValues → Forest
  plans_of none = nil
  plans_of (also v vs) = cons (plan_of v) (plans_of vs)

  pub last_plan : WideValues → WideTree
  last_plan none = line_plan
  last_plan (also v none) = plan_of v
  last_plan (also x (also v vs)) = last_plan vs

-- the plan of a part: the parts of what shows in a line have the same one
abbrev pub part_plan : WideTree → ℕ → WideTree
part_plan p i = get_or (children_of p) i p
