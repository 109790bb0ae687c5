-- Plans of the program.
use Rattle.std.proofs.Common.{◌≡◌, ℕ, List, [], ◌∷◌, get_or, refl, sym, ap, ◌∙◌}
use Rattle.tx_tree.specs.WideTree.{WideTree, forest, trees, children_of}
use Rattle.tx_items.specs.declared.plans.Form.{Form}
use Rattle.tx_items.specs.declared.plans.Form.TheVariants.{Line, List as Listed}
use Rattle.tx_items.specs.PlanView.{plan_view}

trees_again : (ts : List WideTree) → trees (forest ts) ≡ ts
trees_again [] = refl
trees_again (t ∷ ts) = ap (λ us. t ∷ us) (trees_again ts)

pub line_part : (p : WideTree) (f : Form) (i : ℕ) → p ≡ plan_view f → f ≡ Line → p ≡ get_or (children_of p) i p
line_part p f i view is =
    let leaf_is : p ≡ plan_view Line = view ∙ ap plan_view is in
    sym (ap (λ q. get_or (children_of q) i p) leaf_is)

-- the plans of the parts
abbrev pub view_parts : Form → List WideTree
view_parts Line = []
view_parts (Listed parts) = parts.items

viewed : (f : Form) → children_of (plan_view f) ≡ view_parts f
viewed Line = refl
viewed (Listed parts) = trees_again parts.items

pub list_children : (p : WideTree) (f : Form) → p ≡ plan_view f → children_of p ≡ view_parts f
list_children p f view = ap children_of view ∙ viewed f
