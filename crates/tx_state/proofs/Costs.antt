-- The steps that are allowed for what leads back.
use Rattle.std.proofs.Common.{◌≡◌, List, [], ◌∷◌, length, Ok, refl, ap, ◌∙◌, arith}
use Rattle.tx_tree.specs.WideTree.{WideTree}
use Rattle.tx_mod.specs.declared.mods.Mod.{Mod}
use Rattle.tx_mod.specs.InTurn.{changed_in_turn, inverses_of, cost_of}
use Rattle.tx_mod.specs.Inverses.{inverse_of}
use Rattle.tx_mod.proofs.InTurn.{begun, inverses_from, cost_of_both, path_of_inverse}

-- the inverses of modifications that apply are allowed as many steps
pub cost_back : (ms : List Mod) (t u : WideTree) → changed_in_turn ms t ≡ Ok u → cost_of (inverses_of ms t) ≡ cost_of ms
cost_back [] t u e = refl
cost_back (m ∷ ms) t u e =
    let b = begun m ms t u e in
    ap cost_of (inverses_from m ms t b.next b.first) ∙ cost_of_both (inverses_of ms b.next) (inverse_of m t ∷ [])
    ∙ omega (arith, cost_back ms b.next u b.others, ap length (path_of_inverse m t))
