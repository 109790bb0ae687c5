-- A unit that sets no name leaves the environment.
use Rattle.std.proofs.Common.{◌≡◌, ℕ, true, List, [], ◌∷◌, length, nat_eq, sym, arith}
use Rattle.std.specs.List.{IsDistinct}
use Rattle.std.specs.FinMap.{from_entries, entries}
use Rattle.tx_tree.specs.WideTree.{WideTree}
use Rattle.tx_env.specs.Environments.{NameMap, overlaid}
use Rattle.tx_bridge.proofs.Once.{overlaid_same}

abbrev named : List (List ℕ × WideTree) → NameMap
named ws = from_entries ws

pub leaves : (ws : List (List ℕ × WideTree)) (env : NameMap) → length ws ≡ 0
    → overlaid env (entries (named ws)) ≡ env
unfolding IsDistinct
leaves [] env e = sym (overlaid_same env [] tt)
leaves (w ∷ ws) env e = absurd (omega (arith, e))

pub none_there : (n : ℕ) → nat_eq n 0 ≡ true → n ≡ 0
none_there n e = grind arith
