-- Lists that are the same, element by element.
use Rattle.std.proofs.Common.{◌≡◌, List, ◌∷◌}

pub first_same : {X : Type 0} (x y : X) (xs ys : List X) → x ∷ xs ≡ y ∷ ys → x ≡ y
first_same x y xs ys h = cc

pub others_same : {X : Type 0} (x y : X) (xs ys : List X) → x ∷ xs ≡ y ∷ ys → xs ≡ ys
others_same x y xs ys h = cc
