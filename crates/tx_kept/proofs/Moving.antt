-- Moves of entries, found from the last entry on and made from the first one on.
use Rattle.std.proofs.Common.{◌≡◌, ℕ, zero, suc, ◌+◌, ◌-◌, ◌<◌, ◌≤◌, ◌⊎◌, inl, inr, Bool, true, false, eqb}
use Rattle.std.proofs.Common.{List, [], ◌∷◌, ◌++◌, length, drop, take, reverse, slice_index_or, Option, Some, None}
use Rattle.std.proofs.Common.{refl, sym, ap, subst, ◌∙◌, arith}
use Rattle.std.specs.List.{cons_option, SwappedAt}
use Rattle.std.specs.Prelude.{if◌then◌else◌, ◌==◌, option_map, slice_set, slice_get, option_to_list}
use Rattle.std.proofs.lemmas.Bool.{eqb-true, eq-eqb}
use Rattle.std.proofs.lemmas.List.{drop_more, drop_all, take_more, take-set-le, drop-set-lt, append_assoc, append-nil}
use Rattle.std.proofs.lemmas.List.{reverse-append, length-set, get_or-set_same}
use Rattle.tx_tree.specs.WideTree.{WideTree}
use Rattle.tx_mod.specs.declared.mods.Mod.{Mod}
use Rattle.tx_mod.specs.Followed.{carried_by_all}
use Rattle.tx_kept.specs.declared.path_map.Entry.{Entry}
use Rattle.tx_kept.specs.declared.carrying.Move.{Move}
use Rattle.tx_kept.specs.Carrying.{carry}
use Rattle.tx_kept.specs.Moves.{moved, due, if_stays, IsNoted}
use Rattle.tx_kept.proofs.Carried.{at_path, carry_first}

if_true : {A : Type 0} (b : Bool) (x y : A) → b ≡ true → (if b then x else y) ≡ x
if_true true x y h = refl
if_true false x y h = absurd (cc)

if_false : {A : Type 0} (b : Bool) (x y : A) → b ≡ false → (if b then x else y) ≡ y
if_false true x y h = absurd (cc)
if_false false x y h = refl

-- no moves
pub moved_none : {X : Type 0} (k : ℕ) (xs : List (Entry X)) → moved k [] xs ≡ xs
moved_none k [] = refl
moved_none k (x ∷ xs) = refl

-- the first move is not of an entry before this number
abbrev pub IsFrom : ℕ → List Move → Type 0
IsFrom k [] = Unit {0}
IsFrom k (m ∷ ms) = k ≤ m.at

-- the first entry has no move
pub moved_past : {X : Type 0} (k : ℕ) (m : Move) (ms : List Move) (x : Entry X) (xs : List (Entry X))
    → (m.at == k) ≡ false → moved k (m ∷ ms) (x ∷ xs) ≡ x ∷ moved (k + 1) (m ∷ ms) xs
moved_past k m ms x xs h =
    if_false (m.at == k) (cons_option (option_map (at_path x) m.to) (moved (k + 1) ms xs))
    (x ∷ moved (k + 1) (m ∷ ms) xs) h

pub moved_here : {X : Type 0} (k : ℕ) (m : Move) (ms : List Move) (x : Entry X) (xs : List (Entry X))
    → (m.at == k) ≡ true
    → moved k (m ∷ ms) (x ∷ xs) ≡ cons_option (option_map (at_path x) m.to) (moved (k + 1) ms xs)
moved_here k m ms x xs h =
    if_true (m.at == k) (cons_option (option_map (at_path x) m.to) (moved (k + 1) ms xs))
    (x ∷ moved (k + 1) (m ∷ ms) xs) h

moved_later : {X : Type 0} (k : ℕ) (ms : List Move) (x : Entry X) (xs : List (Entry X)) → IsFrom (k + 1) ms
    → moved k ms (x ∷ xs) ≡ x ∷ moved (k + 1) ms xs
moved_later k [] x xs h = ap (λ ys. x ∷ ys) (sym (moved_none (k + 1) xs))
moved_later k (m ∷ ms) x xs h = moved_past k m ms x xs (apart (m.at == k) refl)
  where
    apart : (b : Bool) → (m.at == k) ≡ b → b ≡ false
    apart false e = refl
    apart true e = let same : m.at ≡ k = eqb-true m.at k e in absurd (omega (arith, same, h))

weaker : (k : ℕ) (ms : List Move) → IsFrom (k + 1) ms → IsFrom k ms
weaker k [] h = tt
weaker k (m ∷ ms) h = omega (arith, h)

last_first : {A : Type 0} (xs : List A) (x : A) → reverse (xs ++ x ∷ []) ≡ x ∷ reverse xs
last_first xs x = reverse-append xs (x ∷ [])

-- no move is left
pub settle_none : {X : Type 0} (k : ℕ) (o : Option Move) (stack : List Move) (x : Entry X) (rest : List (Entry X))
    → o ≡ None → moved k (due o stack) (x ∷ rest) ≡ x ∷ moved (k + 1) (due None stack) rest
settle_none k o stack x rest e =
    ap (λ n. moved k (due n stack) (x ∷ rest)) e ∙ ap (λ ys. x ∷ ys) (sym (moved_none (k + 1) rest))

-- ---- moves are found

-- All entries from number k on are looked at.
pub record Noted {X : Type 0} (ms : List Mod) (t : WideTree) (xs : List (Entry X)) (k : ℕ) (stack : List Move) :
    Type 0 where
  pub same : moved k (reverse stack) (drop k xs) ≡ carry ms t (drop k xs)
  pub from : IsFrom k (reverse stack)

pub note_starts : {X : Type 0} (ms : List Mod) (t : WideTree) (xs : List (Entry X)) (k : ℕ) (stack : List Move)
    → length xs ≤ k → stack ≡ [] → Noted ms t xs k stack
note_starts {X} ms t xs k stack all none =
    let gone = drop_all k xs all in
    record {
      same = ap (moved k (reverse stack)) gone ∙ nothing k (reverse stack) ∙ sym (ap (carry ms t) gone);
      from = subst (λ s. IsFrom k (reverse s)) (sym none) tt;
    }
  where
    nothing : (k : ℕ) (s : List Move) → moved {X = X} k s [] ≡ []
    nothing k s = refl

module _ {X : Type 0} (ms : List Mod) (t : WideTree) (xs : List (Entry X)) (k : ℕ) (x : Entry X)
    (inside : k < length xs) (is : x ≡ slice_index_or xs k x) where
  here : drop k xs ≡ x ∷ drop (k + 1) xs
  here = drop_more xs k x inside ∙ ap (λ y. y ∷ drop (k + 1) xs) (sym is)

  -- one entry more, from the last one on
  pub noted : (old new : List Move) → Noted ms t xs (k + 1) old
      → IsNoted k x.path (carried_by_all ms t x.path) old new → Noted ms t xs k new
  noted old new n (inl e) =
      let stays : carry ms t (x ∷ drop (k + 1) xs) ≡ x ∷ carry ms t (drop (k + 1) xs) =
      carry_first ms t x (drop (k + 1) xs) (Some x.path) e.0 in
      subst (Noted ms t xs k) (sym e.1) (record {
        same =
            ap (moved k (reverse old)) here
            ∙ moved_later k (reverse old) x (drop (k + 1) xs) n.from
            ∙ ap (λ ys. x ∷ ys) n.same ∙ sym stays ∙ sym (ap (carry ms t) here);
        from = weaker k (reverse old) n.from;
      })
  noted old new n (inr e) =
      let m : Move = record { at = k; to = carried_by_all ms t x.path } in
      let first : reverse new ≡ m ∷ reverse old = ap reverse e ∙ last_first old m in
      record {
        same =
            ap (λ s. moved k s (drop k xs)) first ∙ ap (moved k (m ∷ reverse old)) here
            ∙ moved_here k m (reverse old) x (drop (k + 1) xs) (eq-eqb k k refl)
            ∙ ap (cons_option (option_map (at_path x) m.to)) n.same
            ∙ sym (carry_first ms t x (drop (k + 1) xs) m.to refl) ∙ sym (ap (carry ms t) here);
        from = subst (IsFrom k) (sym first) (reach k);
      }
    where
      reach : (k : ℕ) → k ≤ k
      reach k = omega arith

-- one entry more, where entries are counted from the last one on
pub noted_down : {X : Type 0} (ms : List Mod) (t : WideTree) (xs : List (Entry X)) (done : ℕ) (x : Entry X)
    (old new : List Move) → done < length xs → x ≡ slice_index_or xs (length xs - 1 - done) x
    → Noted ms t xs (length xs - done) old
    → IsNoted (length xs - 1 - done) x.path (carried_by_all ms t x.path) old new
    → Noted ms t xs (length xs - (done + 1)) new
noted_down ms t xs done x old new inside is n note =
    let e1 : length xs - (done + 1) ≡ length xs - 1 - done = omega (arith, inside) in
    let e2 : length xs - done ≡ length xs - 1 - done + 1 = omega (arith, inside) in
    let low : length xs - 1 - done < length xs = omega (arith, inside) in
    subst (λ j. Noted ms t xs j new) (sym e1)
    (noted ms t xs (length xs - 1 - done) x low is old new (subst (λ j. Noted ms t xs j old) e2 n) note)

-- ---- moves are made

-- what is taken off a stack, and what is left on it
pub popped : (old new : List Move) (next : Option Move) → old ≡ new ++ option_to_list next
    → (next ≡ None → old ≡ []) → due next new ≡ reverse old
popped old new None e none = sym (ap reverse (none refl))
popped old new (Some m) e none = sym (last_first new m) ∙ sym (ap reverse e)

pub none_popped : (old : List Move) (n : ℕ) → n ≡ 0 → length old ≡ n → old ≡ []
none_popped [] n e f = refl
none_popped (m ∷ old) n e f = absurd (omega (arith, e, f))

-- The entries before number `at` are settled, and those that are kept are before number `end`.
pub record Settling {X : Type 0} (whole xs : List (Entry X)) (at end count : ℕ) (left : List Move) : Type 0 where
  pub same : take end xs ++ moved at left (drop at xs) ≡ whole
  pub behind : end ≤ at
  pub long : length xs ≡ count

pub settle_starts : {X : Type 0} (xs : List (Entry X)) (count : ℕ) (left moves : List Move) → left ≡ moves
    → length xs ≡ count → Settling (moved 0 moves xs) xs 0 0 count left
settle_starts xs count left moves e long =
    record { same = ap (λ ms. moved 0 ms xs) e; behind = omega arith; long = long }

module _ {X : Type 0} (whole xs : List (Entry X)) (at end count : ℕ) (left next : List Move)
    (s : Settling whole xs at end count left) (inside : at < count) (x y : Entry X)
    (is : x ≡ slice_index_or xs at x) where
  within : at < length xs
  within = let long = s.long in omega (arith, long, inside)

  split : drop at xs ≡ x ∷ drop (at + 1) xs
  split = drop_more xs at x within ∙ ap (λ z. z ∷ drop (at + 1) xs) (sym is)

  -- the entry is taken out
  pub settle_gone : (zs : List (Entry X)) → zs ≡ slice_set xs at y
      → ((rest : List (Entry X)) → moved at left (x ∷ rest) ≡ moved (at + 1) next rest)
      → Settling whole zs (at + 1) end count next
  settle_gone zs set_is goes =
      let behind = s.behind in
      let low : end ≤ at + 1 = omega (arith, behind) in
      record {
        same =
            ap (λ l. take end l ++ moved (at + 1) next (drop (at + 1) zs)) set_is
            ∙ ap (λ l. l ++ moved (at + 1) next (drop (at + 1) zs)) (take-set-le end xs at y behind)
            ∙ ap (λ l. take end xs ++ moved (at + 1) next l)
            (ap (drop (at + 1)) set_is ∙ drop-set-lt (at + 1) xs at y (omega arith))
            ∙ ap (λ l. take end xs ++ l) (sym (goes (drop (at + 1) xs)))
            ∙ ap (λ l. take end xs ++ moved at left l) (sym split) ∙ s.same;
        behind = low;
        long = ap length set_is ∙ length-set xs at y ∙ s.long;
      }

  -- the entry is kept
  pub settle_stays : (zs ws : List (Entry X)) → zs ≡ slice_set xs at y → SwappedAt zs ws end at
      → ((rest : List (Entry X)) → moved at left (x ∷ rest) ≡ y ∷ moved (at + 1) next rest)
      → Settling whole ws (at + 1) (end + 1) count next
  settle_stays zs ws set_is swapped goes =
      let behind = s.behind in
      let long = s.long in
      let u : Entry X = slice_index_or zs at y in
      let v : Entry X = slice_index_or zs end y in
      let both : ws ≡ slice_set (slice_set zs end u) at v = swapped.3 y in
      let as_long : length ws ≡ length xs =
      ap length both ∙ length-set (slice_set zs end u) at v ∙ length-set zs end u
      ∙ ap length set_is ∙ length-set xs at y in
      let end_in : end < length ws = omega (arith, as_long, long, inside, behind) in
      let low : take end ws ≡ take end xs =
      ap (take end) both ∙ take-set-le end (slice_set zs end u) at v behind ∙ take-set-le end zs end u (omega arith)
      ∙ ap (take end) set_is ∙ take-set-le end xs at y behind in
      let read : slice_index_or ws end y ≡ y =
      swapped.0 y ∙ ap (λ l. slice_index_or l at y) set_is ∙ get_or-set_same xs at y y within in
      let front : take (end + 1) ws ≡ take end xs ++ y ∷ [] =
      take_more ws end y end_in ∙ ap (λ l. l ++ slice_index_or ws end y ∷ []) low
      ∙ ap (λ z. take end xs ++ z ∷ []) read in
      let back : drop (at + 1) ws ≡ drop (at + 1) xs =
      ap (drop (at + 1)) both ∙ drop-set-lt (at + 1) (slice_set zs end u) at v (omega arith)
      ∙ drop-set-lt (at + 1) zs end u (omega (arith, behind))
      ∙ ap (drop (at + 1)) set_is ∙ drop-set-lt (at + 1) xs at y (omega arith) in
      record {
        same =
            ap (λ l. l ++ moved (at + 1) next (drop (at + 1) ws)) front
            ∙ append_assoc (take end xs) (y ∷ []) (moved (at + 1) next (drop (at + 1) ws))
            ∙ ap (λ l. take end xs ++ (y ∷ moved (at + 1) next l)) back
            ∙ ap (λ l. take end xs ++ l) (sym (goes (drop (at + 1) xs)))
            ∙ ap (λ l. take end xs ++ moved at left l) (sym split) ∙ s.same;
        behind = omega (arith, behind);
        long = as_long ∙ s.long;
      }

pub settled : {X : Type 0} (whole xs : List (Entry X)) (at end count : ℕ) (left : List Move)
    → Settling whole xs at end count left → count ≤ at → take end xs ≡ whole
settled whole xs at end count left s all =
    let long = s.long in
    let gone : drop at xs ≡ [] = drop_all at xs (omega (arith, long, all)) in
    sym (append-nil (take end xs)) ∙ ap (λ l. take end xs ++ moved at left l) (sym gone) ∙ s.same
