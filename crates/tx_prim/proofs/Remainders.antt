-- What is left over by a quotient that is cut toward zero.
use Rattle.std.proofs.Common.{◌≡◌, ℕ, zero, suc, ◌%◌, ℤ, pos, negsuc, neg_ℤ, ◌+ℤ◌, ◌-ℤ◌, ◌*ℤ◌, int_div, int_rem}
use Rattle.std.proofs.Common.{FitsSigned, to_z, of_z, refl, sym, ap, ◌∙◌, arith, to_z-of_z}
use Rattle.std.specs.Int.{w64}
use Rattle.std.proofs.lemmas.Int.{ints, quot-rem, rem_is}
use Rattle.tx_prim.specs.Arithmetic.{rest_of}

taken_off : (x p r : ℤ) → p +ℤ r ≡ x → x -ℤ p ≡ r
taken_off x p r e = omega (arith, ints, e)

pub rest_is : (x y : ℤ) → rest_of x y ≡ int_rem x y
rest_is x y = taken_off x (int_div x y *ℤ y) (int_rem x y) (quot-rem x y)

by_minus_one : (x : ℤ) → pos 0 ≡ int_rem x (negsuc 0)
by_minus_one (pos n) = let e : 0 ≡ n % 1 = omega arith in ap pos e
by_minus_one (negsuc n) = let e : 0 ≡ suc n % 1 = omega arith in ap (λ m. neg_ℤ (pos m)) e

pub rest_none : (x y : ℤ) → FitsSigned w64 y → of_z w64 y ≡ 18446744073709551615 → pos 0 ≡ rest_of x y
rest_none x y f e =
    let is : y ≡ negsuc 0 = sym (to_z-of_z f) ∙ ap (to_z w64) e in
    by_minus_one x ∙ ap (int_rem x) (sym is) ∙ sym (rest_is x y)

pub rest_as_bits : (x y : ℤ) → FitsSigned w64 x → FitsSigned w64 y
    → to_z w64 (of_z w64 (int_rem (to_z w64 (of_z w64 x)) (to_z w64 (of_z w64 y)))) ≡ rest_of x y
rest_as_bits x y f g = rem_is w64 x y f g ∙ sym (rest_is x y)
