-- An evaluation that goes on, as contracts see it.
use Rattle.std.specs.Prelude.{ℕ, List, [], ◌∷◌, refl}
use Rattle.std.specs.Coded.{Coded, code_by, coded×, coded_ℕ, coded_list, coded_option}
use Rattle.std.specs.FinMap.{get, empty, code}
use Rattle.tx_tree.specs.WideTree.{coded_WideTree}
use Rattle.tx_env.specs.Environments.{NameMap, coded_NameMap}
use Rattle.tx_exec_form.specs.Maps.{LookMap}
use Rattle.tx_exec_form.specs.Runs.{Before, State}

-- the maps to which the open scopes go back, and the state
pub record Going : Type 0 where
  pub scopes : List NameMap
  pub state : State

abbrev pub last_map : List NameMap → NameMap
last_map [] = empty
last_map (m ∷ []) = m
last_map (m ∷ n ∷ ms) = last_map (n ∷ ms)

-- what names have before the evaluation: that to which the last scope goes back
abbrev pub names_of : Going → Before
names_of g x = get (last_map g.scopes) x

-- ---- the code by which proofs tell them apart

abbrev pub coded_looks : Coded LookMap
coded_looks = code (coded_list coded_ℕ) (coded_option coded_WideTree)

abbrev pub coded_Going : Coded Going
coded_Going =
    code_by (List NameMap × (NameMap × (LookMap × (ℕ × ℕ))))
    (coded× (coded_list coded_NameMap) (coded× coded_NameMap (coded× coded_looks (coded× coded_ℕ coded_ℕ))))
    (λ g. (g.scopes, (g.state.own, (g.state.looks, (g.state.left, g.state.slack)))))
    (λ p. record {
      scopes = p.0;
      state = record { own = p.1.0; looks = p.1.1.0; left = p.1.1.1.0; slack = p.1.1.1.1 };
    }) (λ _. refl)
