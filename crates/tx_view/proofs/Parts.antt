-- The first element that passes a test, of lists in parts, and elements that are each put once.
use Rattle.std.proofs.Common.{◌≡◌, ℕ, suc, ◌+◌, ◌<◌, ◌≤◌, Bool, true, false, cond, not, ◌||◌, List, [], ◌∷◌}
use Rattle.std.proofs.Common.{◌++◌}
use Rattle.std.proofs.Common.{length, refl, sym, ap, ◌∙◌, arith, length-append, append_assoc, append-nil, Some, None}
use Rattle.std.proofs.Common.{lt-ltb, le-ltb}
use Rattle.std.specs.List.{list_any, position, position_or_len, fold, AllByRecursion}
use Rattle.std.specs.Option.{option_map}
use Rattle.std.proofs.lemmas.Bool.{or_parts, or_from, both_ways}
use Rattle.std.proofs.lemmas.List.{nil_from_length}
use Rattle.std.proofs.lemmas.List.Folds.{list_any-append}
use Rattle.std.proofs.lemmas.List.Sums.{fold-append}

module _ {X : Type 0} (p : X → Bool) where
  -- ---- how many elements come before the first that passes

  none_len : (xs : List X) → list_any p xs ≡ false → position_or_len p xs ≡ length xs
  none_len [] e = refl
  none_len (x ∷ xs) e = pick (p x) e (λ f. none_len xs f)
    where
      pick : (b : Bool) → (b || list_any p xs) ≡ false
          → (list_any p xs ≡ false → position_or_len p xs ≡ length xs)
          → cond (not b) (1 + position_or_len p xs) 0 ≡ suc (length xs)
      pick true f on = absurd cc
      pick false f on = omega (arith, on f)

  some_len : (xs : List X) → list_any p xs ≡ true → position_or_len p xs < length xs
  some_len [] e = absurd cc
  some_len (x ∷ xs) e = pick (p x) e (λ f. some_len xs f)
    where
      pick : (b : Bool) → (b || list_any p xs) ≡ true → (list_any p xs ≡ true → position_or_len p xs < length xs)
          → cond (not b) (1 + position_or_len p xs) 0 < suc (length xs)
      pick true f on = omega arith
      pick false f on = omega (arith, on f)

  pub none_in_both : (xs ys : List X) → list_any p xs ≡ false → list_any p ys ≡ false → list_any p (xs ++ ys) ≡ false
  none_in_both xs ys e f = list_any-append p xs ys ∙ or_from (list_any p xs) (list_any p ys) e f

  pub none_in_parts : (xs ys : List X) → list_any p (xs ++ ys) ≡ false
      → (list_any p xs ≡ false) × (list_any p ys ≡ false)
  none_in_parts xs ys e = or_parts (list_any p xs) (list_any p ys) (sym (list_any-append p xs ys) ∙ e)

  pub some_in_left : (xs ys : List X) → list_any p xs ≡ true → list_any p (xs ++ ys) ≡ true
  some_in_left xs ys e = list_any-append p xs ys ∙ ap (λ b. b || list_any p ys) e

  pub some_in_right : (xs ys : List X) → list_any p ys ≡ true → list_any p (xs ++ ys) ≡ true
  some_in_right xs ys e = list_any-append p xs ys ∙ ap (λ b. list_any p xs || b) e ∙ at_end (list_any p xs)
    where
      at_end : (b : Bool) → (b || true) ≡ true
      at_end true = refl
      at_end false = refl

  len_behind : (xs ys : List X) → list_any p xs ≡ false
      → position_or_len p (xs ++ ys) ≡ length xs + position_or_len p ys
  len_behind [] ys e = sym (omega arith)
  len_behind (x ∷ xs) ys e = pick (p x) e (λ f. len_behind xs ys f)
    where
      pick : (b : Bool) → (b || list_any p xs) ≡ false
          → (list_any p xs ≡ false → position_or_len p (xs ++ ys) ≡ length xs + position_or_len p ys)
          → cond (not b) (1 + position_or_len p (xs ++ ys)) 0 ≡ suc (length xs) + position_or_len p ys
      pick true f on = absurd cc
      pick false f on = omega (arith, on f)

  len_before : (xs ys : List X) → list_any p xs ≡ true → position_or_len p (xs ++ ys) ≡ position_or_len p xs
  len_before [] ys e = absurd cc
  len_before (x ∷ xs) ys e = pick (p x) e (λ f. len_before xs ys f)
    where
      pick : (b : Bool) → (b || list_any p xs) ≡ true
          → (list_any p xs ≡ true → position_or_len p (xs ++ ys) ≡ position_or_len p xs)
          → cond (not b) (1 + position_or_len p (xs ++ ys)) 0 ≡ cond (not b) (1 + position_or_len p xs) 0
      pick true f on = refl
      pick false f on = ap (λ n. 1 + n) (on f)

  -- ---- the number of the first that passes

  pub number_none : (xs : List X) → list_any p xs ≡ false → position p xs ≡ None
  number_none xs e =
      ap (λ b. cond b (Some (position_or_len p xs)) None)
      (le-ltb (position_or_len p xs) (length xs) (omega (arith, none_len xs e)))

  pub number_some : (xs : List X) → list_any p xs ≡ true → position p xs ≡ Some (position_or_len p xs)
  number_some xs e =
      ap (λ b. cond b (Some (position_or_len p xs)) None)
      (lt-ltb (position_or_len p xs) (length xs) (some_len xs e))

  -- what there is among the elements, by a number that is the first's
  pub is_among : (xs : List X) (k : ℕ) → position p xs ≡ Some k → list_any p xs ≡ true
  is_among xs k e = by (list_any p xs) refl
    where
      by : (b : Bool) → list_any p xs ≡ b → b ≡ true
      by true f = refl
      by false f = let none : position p xs ≡ None = number_none xs f in absurd cc

  pub not_among : (xs : List X) → position p xs ≡ None → list_any p xs ≡ false
  not_among xs e = by (list_any p xs) refl
    where
      by : (b : Bool) → list_any p xs ≡ b → b ≡ false
      by false f = refl
      by true f = let some : position p xs ≡ Some (position_or_len p xs) = number_some xs f in absurd cc

  number_is : (xs : List X) (k : ℕ) → position p xs ≡ Some k → position_or_len p xs ≡ k
  number_is xs k e =
      let some : position p xs ≡ Some (position_or_len p xs) = number_some xs (is_among xs k e) in cc

  pub number_below : (xs : List X) (k : ℕ) → position p xs ≡ Some k → k < length xs
  number_below xs k e = omega (arith, number_is xs k e, some_len xs (is_among xs k e))

  -- ---- parts

  -- the first that passes is in the second part
  pub number_in_middle : (before near behind : List X) → list_any p before ≡ false → list_any p near ≡ true
      → position p (before ++ near ++ behind) ≡ option_map (λ k. length before + k) (position p near)
  number_in_middle before near behind e g =
      let both : list_any p (before ++ near) ≡ true = some_in_right before near g in
      number_some (before ++ near ++ behind) (some_in_left (before ++ near) behind both)
      ∙ ap Some (len_before (before ++ near) behind both ∙ len_behind before near e)
      ∙ sym (ap (option_map (λ k. length before + k)) (number_some near g))

  pub number_within : (before near behind : List X) → list_any p before ≡ false → list_any p behind ≡ false
      → position p (before ++ near ++ behind) ≡ option_map (λ k. length before + k) (position p near)
  number_within before near behind e f = by (list_any p near) refl
    where
      by : (b : Bool) → list_any p near ≡ b
          → position p (before ++ near ++ behind) ≡ option_map (λ k. length before + k) (position p near)
      by false g =
          number_none (before ++ near ++ behind)
          (none_in_both (before ++ near) behind (none_in_both before near e g) f)
          ∙ sym (ap (option_map (λ k. length before + k)) (number_none near g))
      by true g = number_in_middle before near behind e g

  pub first_of_parts : (xs ys : List X) → list_any p xs ≡ false → position p (xs ++ ys) ≡ Some 0 → xs ≡ []
  first_of_parts xs ys e f =
      nil_from_length xs (omega (arith, number_is (xs ++ ys) 0 f, len_behind xs ys e))

  pub last_of_parts : (xs ys : List X) (k : ℕ) → list_any p ys ≡ false → position p (xs ++ ys) ≡ Some k
      → k + 1 ≡ length (xs ++ ys) → ys ≡ []
  last_of_parts xs ys k e f g = by (list_any p xs) refl
    where
      by : (b : Bool) → list_any p xs ≡ b → ys ≡ []
      by true h =
          nil_from_length ys (omega (
            arith,
            g,
            length-append xs ys,
            number_is (xs ++ ys) k f,
            len_before xs ys h,
            some_len xs h,
          ))
      by false h =
          let none : list_any p (xs ++ ys) ≡ false = none_in_both xs ys h e in
          absurd (both_ways (list_any p (xs ++ ys)) none (is_among (xs ++ ys) k f))

-- ---- elements each once

module _ {X : Type 0} (eq : X → X → Bool) where
  abbrev pub put_by : List X → X → List X
  put_by xs x = cond (list_any (eq x) xs) xs (xs ++ x ∷ [])

  put_out : (acc now : List X) (q : X) → list_any (eq q) acc ≡ false → put_by (acc ++ now) q ≡ acc ++ put_by now q
  put_out acc now q e =
      ap (λ b. cond b (acc ++ now) (acc ++ now ++ q ∷ [])) (list_any-append (eq q) acc now
      ∙ ap (λ b. b || list_any (eq q) now) e)
      ∙ pick (list_any (eq q) now)
    where
      pick : (b : Bool) → cond b (acc ++ now) (acc ++ now ++ q ∷ []) ≡ acc ++ cond b now (now ++ q ∷ [])
      pick true = refl
      pick false = append_assoc acc now (q ∷ [])

  fold_out : (acc now ps : List X) → AllByRecursion (λ q. list_any (eq q) acc ≡ false) ps
      → fold put_by (acc ++ now) ps ≡ acc ++ fold put_by now ps
  fold_out acc now [] h = refl
  fold_out acc now (q ∷ ps) h =
      ap (λ xs. fold put_by xs ps) (put_out acc now q h.0) ∙ fold_out acc (put_by now q) ps h.1

  -- where no element of the second part is in the first, the parts are gone through each by itself
  pub once_in_parts : (ps qs : List X) → AllByRecursion (λ q. list_any (eq q) (fold put_by [] ps) ≡ false) qs
      → fold put_by [] (ps ++ qs) ≡ fold put_by [] ps ++ fold put_by [] qs
  once_in_parts ps qs h =
      fold-append put_by [] ps qs ∙ ap (λ xs. fold put_by xs qs) (sym (append-nil (fold put_by [] ps)))
      ∙ fold_out (fold put_by [] ps) [] qs h

  none_put : (p : X → Bool) (acc : List X) (q : X) → list_any p acc ≡ false → p q ≡ false
      → list_any p (put_by acc q) ≡ false
  none_put p acc q e f = pick (list_any (eq q) acc)
    where
      pick : (b : Bool) → list_any p (cond b acc (acc ++ q ∷ [])) ≡ false
      pick true = e
      pick false = none_in_both p acc (q ∷ []) e (or_from (p q) false f refl)

  none_folded : (p : X → Bool) (acc ps : List X) → list_any p acc ≡ false → list_any p ps ≡ false
      → list_any p (fold put_by acc ps) ≡ false
  none_folded p acc [] e f = e
  none_folded p acc (q ∷ ps) e f =
      let parts = or_parts (p q) (list_any p ps) f in
      none_folded p (put_by acc q) ps (none_put p acc q e parts.0) parts.1

  -- what passes a test isn't among them if it wasn't before
  pub none_once : (p : X → Bool) (ps : List X) → list_any p ps ≡ false → list_any p (fold put_by [] ps) ≡ false
  none_once p ps e = none_folded p [] ps refl e

  more_put : (acc : List X) (q : X) → length acc ≤ length (put_by acc q)
  more_put acc q = pick (list_any (eq q) acc)
    where
      pick : (b : Bool) → length acc ≤ length (cond b acc (acc ++ q ∷ []))
      pick true = omega arith
      pick false = omega (arith, length-append acc (q ∷ []))

  more_folded : (acc ps : List X) → length acc ≤ length (fold put_by acc ps)
  more_folded acc [] = omega arith
  more_folded acc (q ∷ ps) = omega (arith, more_put acc q, more_folded (put_by acc q) ps)

  -- the first element is put
  pub once_some : (q : X) (ps : List X) → fold put_by [] (q ∷ ps) ≡ [] → ⊥
  once_some q ps e = let none = ap length e in omega (arith, more_folded (q ∷ []) ps, none)

  -- ---- what passes a test remains, whatever is put

  some_put : (p : X → Bool) (acc : List X) (q : X) → list_any p acc ≡ true → list_any p (put_by acc q) ≡ true
  some_put p acc q e = pick (list_any (eq q) acc)
    where
      pick : (b : Bool) → list_any p (cond b acc (acc ++ q ∷ [])) ≡ true
      pick true = e
      pick false = some_in_left p acc (q ∷ []) e

  some_folded : (p : X → Bool) (acc ps : List X) → list_any p acc ≡ true → list_any p (fold put_by acc ps) ≡ true
  some_folded p acc [] e = e
  some_folded p acc (q ∷ ps) e = some_folded p (put_by acc q) ps (some_put p acc q e)

  put_there : (acc : List X) (q : X) → eq q q ≡ true → list_any (eq q) (put_by acc q) ≡ true
  put_there acc q e = pick (list_any (eq q) acc) refl
    where
      pick : (b : Bool) → list_any (eq q) acc ≡ b → list_any (eq q) (cond b acc (acc ++ q ∷ [])) ≡ true
      pick true f = f
      pick false f = some_in_right (eq q) acc (q ∷ []) (ap (λ b. b || false) e)

  -- what is put after others
  pub folded_more : (acc ps : List X)
      → (ys : List X) × (fold put_by acc ps ≡ acc ++ ys) × (ps ≡ [] → ys ≡ [])
  folded_more acc [] = ([], sym (append-nil acc), λ e. refl)
  folded_more acc (q ∷ ps) = by (folded_more (put_by acc q) ps)
    where
      more : (b : Bool) → cond b acc (acc ++ q ∷ []) ≡ acc ++ cond b [] (q ∷ [])
      more true = sym (append-nil acc)
      more false = refl

      by : ((ys : List X) × (fold put_by (put_by acc q) ps ≡ put_by acc q ++ ys) × (ps ≡ [] → ys ≡ []))
          → (ys : List X) × (fold put_by acc (q ∷ ps) ≡ acc ++ ys) × (q ∷ ps ≡ [] → ys ≡ [])
      by rest =
          let one : List X = cond (list_any (eq q) acc) [] (q ∷ []) in (
            one ++ rest.0,
            rest.1 ∙ ap (λ xs. xs ++ rest.0) (more (list_any (eq q) acc)) ∙ append_assoc acc one rest.0,
            λ e. absurd cc,
          )

  module _ (same : (x y : X) → eq x y ≡ true → x ≡ y) where
    some_once : (q : X) (acc ps : List X) → list_any (eq q) ps ≡ true → list_any (eq q) (fold put_by acc ps) ≡ true
    some_once q acc [] e = absurd cc
    some_once q acc (x ∷ ps) e = pick (eq q x) refl e (some_once q (put_by acc x) ps)
      where
        pick : (b : Bool) → eq q x ≡ b → (b || list_any (eq q) ps) ≡ true
            → (list_any (eq q) ps ≡ true → list_any (eq q) (fold put_by (put_by acc x) ps) ≡ true)
            → list_any (eq q) (fold put_by (put_by acc x) ps) ≡ true
        pick true f g later =
            let is : x ≡ q = sym (same q x f) in
            some_folded (eq q) (put_by acc x) ps
            (ap (λ y. list_any (eq q) (put_by acc y)) is ∙ put_there acc q (ap (eq q) (sym is) ∙ f))
        pick false f g later = later g

    -- there is one like it where there was one
    pub once_any : (q : X) (ps : List X) → list_any (eq q) (fold put_by [] ps) ≡ list_any (eq q) ps
    once_any q ps = by (list_any (eq q) ps) refl
      where
        by : (b : Bool) → list_any (eq q) ps ≡ b → list_any (eq q) (fold put_by [] ps) ≡ list_any (eq q) ps
        by true e = some_once q [] ps e ∙ sym e
        by false e = none_once (eq q) ps e ∙ sym e
