-- The fields of pairs with scopes as an environment.
use Rattle.std.specs.Prelude.{◌≡◌, ℕ, ◌≤◌, ◌^◌, List, [], ◌∷◌, ◌++◌}
use Rattle.tx_env.specs.Changes.{Change, map_of, maps_below, AreFrom}
use Rattle.tx_env.specs.Environments.{Environment}
use Rattle.tx_env.specs.declared.scoped.Past.{Past}
use Rattle.tx_env.specs.declared.scoped.ScopedPairs.TheInside.{Inside}

abbrev pub changes_of : List Past → List Change
changes_of [] = []
changes_of (p ∷ ps) = (p.scope, (p.name, p.before)) ∷ changes_of ps

abbrev pub environment_of : Inside → Environment
environment_of e =
    record { map = map_of e.pairs; scopes = maps_below e.open_count e.pairs (changes_of e.pasts.items) }

pub record IsKept (e : Inside) : Type 0 where
  pub changes : AreFrom 0 e.open_count e.pairs (changes_of e.pasts.items)
  pub count : e.open_count ≤ 2 ^ 32

-- the last change, if there is one, wasn't made in the scope of this number
abbrev pub EndsOutside : ℕ → List Past → Type 0
EndsOutside n ps = (qs : List Past) (p : Past) → ps ≡ qs ++ p ∷ [] → p.scope ≡ n → ⊥
