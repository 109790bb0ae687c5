-- Where a text comes from, and how it looks.
use Rattle.std.specs.Prelude.{ℕ, List, Option, refl}
use Rattle.std.specs.Coded.{Coded, code_by, coded×, coded_ℕ, coded_list, coded_option}

pub record WideLook : Type 0 where
  pub at : Option (List ℕ)
  pub series : List ℕ
  pub shape : List ℕ
  pub color : List ℕ

-- ---- the code by which proofs tell them apart

abbrev bytes_code : Coded (List ℕ)
bytes_code = coded_list coded_ℕ

abbrev pub coded_WideLook : Coded WideLook
coded_WideLook =
    code_by (Option (List ℕ) × (List ℕ × (List ℕ × List ℕ)))
    (coded× (coded_option bytes_code) (coded× bytes_code (coded× bytes_code bytes_code)))
    (λ l. (l.at, (l.series, (l.shape, l.color))))
    (λ c. record { at = c.0; series = c.1.0; shape = c.1.1.0; color = c.1.1.1 }) (λ _. refl)
