-- What names have, in the order in which the names first came. A name that has nothing may be listed or not.
use Rattle.std.specs.Prelude.{ℕ, List, Option, Some, None}
use Rattle.std.specs.Coded.{Coded, coded_ℕ, coded_list, coded_option, coded×}
use Rattle.std.specs.Str.{bytes_eq}
use Rattle.std.specs.Map.{lookup}
use Rattle.indexmap.specs.IndexMap.{insert_entry}
use Rattle.tx_tree.specs.WideTree.{WideTree, coded_WideTree}

abbrev pub Name : Type 0
Name = List ℕ

abbrev pub Pairs : Type 0
Pairs = List (Name × Option WideTree)

abbrev pub flattened : Option (Option WideTree) → Option WideTree
flattened None = None
flattened (Some t) = t

-- what the list has at the name, if it is listed
abbrev pub listed : Name → Pairs → Option (Option WideTree)
listed x ps = lookup (bytes_eq x) ps

-- what the name has
abbrev pub find : Name → Pairs → Option WideTree
find x ps = flattened (listed x ps)

-- the pairs with this at the name: in place of what is there, or at the end
abbrev pub put : Name → Option WideTree → Pairs → Pairs
put x t ps = insert_entry bytes_eq ps x t

-- ---- the code by which proofs tell lists of pairs apart

abbrev pub coded_Pairs : Coded (List (List ℕ × Option WideTree))
coded_Pairs = coded_list (coded× (coded_list coded_ℕ) (coded_option coded_WideTree))
