-- Two pieces of a list that are put in place of others, in either order.
use Rattle.std.proofs.Common.{◌≡◌, ℕ, ◌+◌, ◌-◌, ◌≤◌, List, ◌++◌, length, take, drop, refl, sym, ap, subst, ◌∙◌}
use Rattle.std.proofs.Common.{length-append, length-drop, append_assoc, arith}
use Rattle.std.proofs.lemmas.List.{length-take-le, take-take, take-append-le, drop-append-le, drop-take, drop-drop}
use Rattle.std.proofs.Math.Seq.{take-append-add, drop-append-add, take-add}
use Rattle.tx_commute.proofs.Pieces.{piece}

-- ---- fronts and backs of a list with a piece

take_front : {X : Type 0} (xs ys : List X) (i m k : ℕ) → k ≤ i → i ≤ length xs → take k (piece xs i m ys) ≡ take k xs
take_front {X} xs ys i m k le within =
    let front : length (take i xs) ≡ i = length-take-le {A = X} i xs within in
    take-append-le k (take i xs) (ys ++ drop m xs) (omega arith) ∙ take-take k i xs le

-- n in the list with the piece is k in the list
take_back : {X : Type 0} (xs ys : List X) (i m k n : ℕ) → m ≤ k → i ≤ length xs → n + m ≡ k + i + length ys
    → take n (piece xs i m ys) ≡ take i xs ++ (ys ++ take (k - m) (drop m xs))
take_back {X} xs ys i m k n le within is =
    let front : length (take i xs) ≡ i = length-take-le {A = X} i xs within in
    let at : n ≡ length (take i xs) + (length ys + (k - m)) = omega arith in
    ap (λ j. take j (piece xs i m ys)) at
    ∙ take-append-add (take i xs) (ys ++ drop m xs) (length ys + (k - m))
    ∙ ap (λ z. take i xs ++ z) (take-append-add ys (drop m xs) (k - m))

drop_back : {X : Type 0} (xs ys : List X) (i m k n : ℕ) → m ≤ k → i ≤ length xs → n + m ≡ k + i + length ys
    → drop n (piece xs i m ys) ≡ drop k xs
drop_back {X} xs ys i m k n le within is =
    let front : length (take i xs) ≡ i = length-take-le {A = X} i xs within in
    let at : n ≡ length (take i xs) + (length ys + (k - m)) = omega arith in
    let back : m + (k - m) ≡ k = omega arith in
    ap (λ j. drop j (piece xs i m ys)) at
    ∙ drop-append-add (take i xs) (ys ++ drop m xs) (length ys + (k - m))
    ∙ drop-append-add ys (drop m xs) (k - m)
    ∙ drop_twice xs m (k - m)
    ∙ ap (λ j. drop j xs) back
  where
    drop_twice : {X : Type 0} (zs : List X) (a b : ℕ) → drop b (drop a zs) ≡ drop (a + b) zs
    drop_twice zs a b = drop-drop b a zs

-- what is from place j to before place l
abbrev pub between : {X : Type 0} → List X → ℕ → ℕ → List X
between xs j l = take (l - j) (drop j xs)

pub between_front : {X : Type 0} (xs ys : List X) (i m j l : ℕ) → j ≤ l → l ≤ i → i ≤ length xs
    → between (piece xs i m ys) j l ≡ between xs j l
between_front {X} xs ys i m j l le le' within =
    let front : length (take i xs) ≡ i = length-take-le {A = X} i xs within in
    let rest : List X = ys ++ drop m xs in
    let at : j + (i - j) ≡ i = omega arith in
    let inside : drop j (take i xs) ≡ take (i - j) (drop j xs) =
    ap (λ n. drop j (take n xs)) (sym at) ∙ drop-take j (i - j) xs in
    ap (take (l - j)) (drop-append-le j (take i xs) rest (omega arith))
    ∙ take-append-le (l - j) (drop j (take i xs)) rest (omega (arith, front, length-drop {A = X} j (take i xs)))
    ∙ ap (take (l - j)) inside
    ∙ take-take (l - j) (i - j) (drop j xs) (omega arith)

pub between_back : {X : Type 0} (xs ys : List X) (i m k l n o : ℕ) → m ≤ k → i ≤ length xs
    → n + m ≡ k + i + length ys → o - n ≡ l - k → between (piece xs i m ys) n o ≡ between xs k l
between_back {X} xs ys i m k l n o le within is same =
    ap (take (o - n)) (drop_back xs ys i m k n le within is) ∙ ap (λ w. take w (drop k xs)) same

take_on : {X : Type 0} (xs : List X) (m k : ℕ) → m ≤ k → take k xs ≡ take m xs ++ take (k - m) (drop m xs)
take_on {X} xs m k le =
    ap (λ j. take {A = X} j xs) (let at : k ≡ m + (k - m) = omega arith in at) ∙ take-add m (k - m) xs

pub piece_length : {X : Type 0} (xs ys : List X) (i m : ℕ) → i ≤ m → m ≤ length xs
    → length (piece xs i m ys) + m ≡ length xs + i + length ys
piece_length {X} xs ys i m le within =
    omega (
      arith,
      le,
      within,
      length-append (take i xs) (ys ++ drop m xs),
      length-append ys (drop m xs),
      length-drop {A = X} m xs,
      length-take-le {A = X} i xs (omega arith),
    )

-- two pieces apart, in either order
pub pieces_apart : {X : Type 0} (xs ys zs : List X) (i m j k j' k' : ℕ) → i ≤ m → m ≤ j → j ≤ k → k ≤ length xs
    → j' + m ≡ j + i + length ys → k' + m ≡ k + i + length ys
    → piece (piece xs j k zs) i m ys ≡ piece (piece xs i m ys) j' k' zs
pieces_apart {X} xs ys zs i m j k j' k' le le' le'' within is is' =
    let front : length (take j xs) ≡ j = length-take-le {A = X} j xs (omega arith) in
    let at : m + (j - m) ≡ j = omega arith in
    let middle : drop m (take j xs) ≡ take (j - m) (drop m xs) =
    ap (λ n. drop m (take n xs)) (sym at) ∙ drop-take m (j - m) xs in
    let mid : List X = take (j - m) (drop m xs) in
    ap (λ w. w ++ (ys ++ drop m (piece xs j k zs))) (take_front xs zs j k i (omega arith) (omega arith))
    ∙ ap (λ w. take i xs ++ (ys ++ w)) (drop-append-le m (take j xs) (zs ++ drop k xs) (omega arith))
    ∙ ap (λ w. take i xs ++ (ys ++ (w ++ (zs ++ drop k xs)))) middle
    ∙ ap (λ w. take i xs ++ w) (sym (append_assoc ys mid (zs ++ drop k xs)))
    ∙ sym (append_assoc (take i xs) (ys ++ mid) (zs ++ drop k xs))
    ∙ sym (ap (λ w. w ++ (zs ++ drop k' (piece xs i m ys))) (take_back xs ys i m j j' le' (omega arith) is)
    ∙ ap (λ w. (take i xs ++ (ys ++ mid)) ++ (zs ++ w)) (drop_back xs ys i m k k' (omega arith) (omega arith) is'))

-- ---- where pieces may be put

-- lists that hold together, as texts do
pub record Cutting {X : Type 0} (C : List X → Type 0) : Type 0 where
  pub joins : (a b : List X) → C a → C b → C (a ++ b)
  pub rests : (a b : List X) → C (a ++ b) → C a → C b

-- ys may be put in place of what is from i to before m
pub record Fits {X : Type 0} (C : List X → Type 0) (xs : List X) (i m : ℕ) (ys : List X) : Type 0 where
  pub order : i ≤ m
  pub within : m ≤ length xs
  pub starts : C (take i xs)
  pub ends : C (take m xs)
  pub new : C ys

front_stays : {X : Type 0} (C : List X → Type 0) (xs ys : List X) (i m k : ℕ) → k ≤ i → i ≤ length xs → C (take k xs)
    → C (take k (piece xs i m ys))
front_stays {X} C xs ys i m k le within h = subst C (sym (take_front xs ys i m k le within)) h

front_was : {X : Type 0} (C : List X → Type 0) (xs ys : List X) (i m k : ℕ) → k ≤ i → i ≤ length xs
    → C (take k (piece xs i m ys)) → C (take k xs)
front_was {X} C xs ys i m k le within h = subst C (take_front xs ys i m k le within) h

back_stays : {X : Type 0} (C : List X → Type 0) → Cutting C → (xs ys : List X) (i m k n : ℕ) → Fits C xs i m ys → m ≤ k
    → n + m ≡ k + i + length ys → C (take k xs) → C (take n (piece xs i m ys))
back_stays {X} C c xs ys i m k n f le is h =
    let order : i ≤ m = f.order in
    let within : m ≤ length xs = f.within in
    let rest : List X = take (k - m) (drop m xs) in
    let more : C rest = c.rests (take m xs) rest (subst C (take_on xs m k le) h) f.ends in
    subst C (sym (take_back xs ys i m k n le (omega arith) is))
    (c.joins (take i xs) (ys ++ rest) f.starts (c.joins ys rest f.new more))

back_was : {X : Type 0} (C : List X → Type 0) → Cutting C → (xs ys : List X) (i m k n : ℕ) → Fits C xs i m ys → m ≤ k
    → n + m ≡ k + i + length ys → C (take n (piece xs i m ys)) → C (take k xs)
back_was {X} C c xs ys i m k n f le is h =
    let order : i ≤ m = f.order in
    let within : m ≤ length xs = f.within in
    let rest : List X = take (k - m) (drop m xs) in
    let all : C (take i xs ++ (ys ++ rest)) = subst C (take_back xs ys i m k n le (omega arith) is) h in
    let more : C rest = c.rests ys rest (c.rests (take i xs) (ys ++ rest) all f.starts) f.new in
    subst C (sym (take_on xs m k le)) (c.joins (take m xs) rest f.ends more)

-- the later piece first, and then the earlier one
pub record InOrder {X : Type 0} (C : List X → Type 0) (xs ys : List X) (i m : ℕ) (zs : List X) (j k : ℕ) (whole : List X)
    : Type 0 where
  pub first : Fits C xs i m ys
  pub second : Fits C (piece xs i m ys) j k zs
  pub same : whole ≡ piece (piece xs i m ys) j k zs

-- the later piece is before the earlier one
pub before_it : {X : Type 0} (C : List X → Type 0) → Cutting C → (xs ys zs : List X) (i m j k j' k' : ℕ)
    → Fits C xs j k zs → Fits C (piece xs j k zs) i m ys → m ≤ j
    → j' + m ≡ j + i + length ys → k' + m ≡ k + i + length ys
    → InOrder C xs ys i m zs j' k' (piece (piece xs j k zs) i m ys)
before_it {X} C c xs ys zs i m j k j' k' f g le is is' =
    let o : i ≤ m = g.order in
    let o' : j ≤ k = f.order in
    let w : k ≤ length xs = f.within in
    let within : j ≤ length xs = omega arith in
    let first : Fits C xs i m ys =
    record {
      order = o;
      within = omega arith;
      starts = front_was C xs zs j k i (omega arith) within g.starts;
      ends = front_was C xs zs j k m le within g.ends;
      new = g.new;
    } in
    record {
      first = first;
      second = record {
        order = omega arith;
        within = omega (arith, piece_length xs ys i m o (omega arith));
        starts = back_stays C c xs ys i m j j' first le is f.starts;
        ends = back_stays C c xs ys i m k k' first (omega arith) is' f.ends;
        new = f.new;
      };
      same = pieces_apart xs ys zs i m j k j' k' o le o' w is is';
    }

-- the later piece is after the earlier one
pub behind_it : {X : Type 0} (C : List X → Type 0) → Cutting C → (xs ys zs : List X) (i m j k j' k' : ℕ)
    → Fits C xs i m ys → Fits C (piece xs i m ys) j' k' zs → i + length ys ≤ j'
    → j' + m ≡ j + i + length ys → k' + m ≡ k + i + length ys
    → InOrder C xs zs j k ys i m (piece (piece xs i m ys) j' k' zs)
behind_it {X} C c xs ys zs i m j k j' k' f g le is is' =
    let o : i ≤ m = f.order in
    let o' : j' ≤ k' = g.order in
    let w : m ≤ length xs = f.within in
    let w' : k' ≤ length (piece xs i m ys) = g.within in
    let long = piece_length xs ys i m o w in
    let first : Fits C xs j k zs =
    record {
      order = omega arith;
      within = omega (arith, long);
      starts = back_was C c xs ys i m j j' f (omega arith) is g.starts;
      ends = back_was C c xs ys i m k k' f (omega arith) is' g.ends;
      new = g.new;
    } in
    let fits : k ≤ length xs = first.within in
    record {
      first = first;
      second = record {
        order = o;
        within = omega (arith, fits, piece_length xs zs j k (omega arith) fits);
        starts = front_stays C xs zs j k i (omega arith) (omega arith) f.starts;
        ends = front_stays C xs zs j k m (omega arith) (omega arith) f.ends;
        new = f.new;
      };
      same = sym (pieces_apart xs ys zs i m j k j' k' o (omega arith) (omega arith) fits is is');
    }
