-- The code by which proofs tell histories apart.
use Rattle.std.specs.Prelude.{ℕ, List, refl}
use Rattle.std.specs.Coded.{Coded, code_by, coded×, coded_list, coded_ℕ}
use Rattle.tx_history.specs.Lists.{Lists}

module _ {E : Type 0} where
  abbrev pub lists_code : Coded E → Coded (Lists E)
  lists_code code =
      code_by (List E × (List E × ℕ)) (coded× (coded_list code) (coded× (coded_list code) coded_ℕ))
      (λ h. (h.past, (h.future, h.depth)))
      (λ p. record { past = p.0; future = p.1.0; depth = p.1.1 }) (λ _. refl)
