-- Pairs that are gone through, one by one.
use Rattle.std.proofs.Common.{◌≡◌, ℕ, ◌+◌, ◌<◌, List, [], ◌∷◌, ◌++◌, length, take, get_or, sym, ap, ◌∙◌}
use Rattle.std.proofs.lemmas.List.{take_more}

pub take_next : {X Y : Type 0} (before after ws : List (X × Y)) (i : ℕ) (w : X × Y) (x : X) (y : Y) → i < length ws →
    w ≡ get_or ws i w → before ≡ take i ws → after ≡ before ++ (x, y) ∷ [] → x ≡ w.0 → y ≡ w.1 →
    after ≡ take (i + 1) ws
take_next before after ws i w x y lt is so_far pushed first second =
    pushed ∙ ap (λ us. us ++ (x, y) ∷ []) so_far
    ∙ ap (λ a. take i ws ++ (a, y) ∷ []) first ∙ ap (λ b. take i ws ++ (w.0, b) ∷ []) second
    ∙ ap (λ v. take i ws ++ v ∷ []) is ∙ sym (take_more ws i w lt)

-- one number more of a path
pub number_next : (before after ns : List ℕ) (i n : ℕ) → i < length ns → n ≡ get_or ns i n → before ≡ take i ns →
    after ≡ before ++ n ∷ [] → after ≡ take (i + 1) ns
number_next before after ns i n lt is so_far step =
    step ∙ ap (λ xs. xs ++ n ∷ []) so_far ∙ ap (λ m. take i ns ++ m ∷ []) is ∙ sym (take_more ns i n lt)
