-- A step of a fold over numbers and lengths.
use Rattle.std.proofs.Common.{◌≡◌, ℕ, ◌+◌, ◌<◌, Bool, true, false, cond, List, [], ◌∷◌, length, drop, get_or, ℤ, pos}
use Rattle.std.proofs.Common.{negsuc, Option, Some, None, FitsSigned, to_z, of_z, to_z-of_z, refl, sym, ap, ◌∙◌}
use Rattle.std.specs.Prelude.{option_and_then}
use Rattle.std.specs.Int.{w64}
use Rattle.std.proofs.lemmas.List.{at_drop_more}
use Rattle.tx_prim.specs.declared.amounts.Amount.{Amount}
use Rattle.tx_prim.specs.declared.amounts.Operation.{Operation}
use Rattle.tx_prim.specs.Numbers.{if_fits}
use Rattle.tx_prim.specs.Arithmetic.{folded, operation, amount_size}

pub folded_next : (op : Operation) (first x z r : ℤ) (others : List Amount) (i : ℕ) (d : Amount) → i < length others
    → folded op first others ≡ folded op x (drop i others)
    → r ≡ amount_size (get_or others i d) → FitsSigned w64 r → FitsSigned w64 z
    → Some z ≡ if_fits (operation op x (to_z w64 (of_z w64 r)))
    → folded op first others ≡ folded op (to_z w64 (of_z w64 z)) (drop (i + 1) others)
folded_next op first x z r others i d lt e is f g next =
    let rest = drop (i + 1) others in
    e
    ∙ at_drop_more (folded op x) others i d lt
    ∙ ap (λ v. option_and_then (λ y. folded op y rest) (if_fits (operation op x v))) (sym is ∙ sym (to_z-of_z f))
    ∙ ap (option_and_then (λ y. folded op y rest)) (sym next)
    ∙ ap (λ v. folded op v rest) (sym (to_z-of_z g))
