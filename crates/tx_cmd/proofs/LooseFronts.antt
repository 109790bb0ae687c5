-- How far a line has the form of a command.
use Rattle.std.proofs.Common.{◌≡◌, ℕ, zero, suc, ◌+◌, ◌-◌, ◌<◌, ◌≤◌, true, List, [], ◌∷◌, ◌++◌, length, take, drop}
use Rattle.std.proofs.Common.{get_or, Some, None, ⊎_elim, refl, sym, ap, subst, ◌∙◌, append_assoc, length-append, arith}
use Rattle.std.proofs.lemmas.List.{append-nil, take_rest, append_cancel_left}
use Rattle.std.proofs.lemmas.Bool.{cases_lt}
use Rattle.tx_base.specs.Fronts.{IsFront, IsLongestFront}
use Rattle.tx_cmd.specs.declared.words.ArgumentKind.{ArgumentKind}
use Rattle.tx_cmd.specs.declared.words.ArgumentKind.TheVariants.{Path as PathArgument, Number as NumberArgument}
use Rattle.tx_cmd.specs.declared.words.ArgumentKind.TheVariants.{Label as LabelArgument, Name as NameArgument}
use Rattle.tx_cmd.specs.declared.words.ArgumentKind.TheVariants.{Tree as TreeArgument, Text as TextArgument}
use Rattle.tx_cmd.specs.declared.words.Word.{Word}
use Rattle.tx_cmd.specs.Words.{HasNoSpace, IsLoosePiece, AreLoose, IsLoose, arguments_of, word_text}
use Rattle.tx_cmd.specs.Pieces.{IsTail, EndsPiece, IsCutPiece, tree_is_last, IsMisfit, IsPieceMisfit}
use Rattle.tx_cmd.proofs.Splits.{one_piece, GoesOn, split_front}
use Rattle.tx_base.proofs.Fronts.{ends_behind}
use Rattle.tx_cmd.proofs.WordTexts.{one_word}
use Rattle.tx_cmd.proofs.Numerals.{numeral_no_space, label_no_space, some_numeral, some_label}
use Rattle.tx_cmd.proofs.Names.{name_no_space, some_name}

-- ---- pieces of each kind

some_piece : (a : ArgumentKind) → (piece : List ℕ) × IsLoosePiece a piece
some_piece PathArgument = ([], tt)
some_piece NumberArgument = (48 ∷ [], some_numeral)
some_piece LabelArgument = (97 ∷ [], some_label)
some_piece NameArgument = (97 ∷ [], some_name)
some_piece TreeArgument = ([], tt)
some_piece TextArgument = ([], tt)

pub some_loose : (arguments : List ArgumentKind) → (bytes : List ℕ) × AreLoose arguments bytes
some_loose [] = ([], refl)
some_loose (a ∷ more) =
    let p = some_piece a in let r = some_loose more in (32 ∷ (p.0 ++ r.0), (p.0, r.0, p.1, r.1, refl))

pub loose_tail : (arguments : List ArgumentKind) (bytes : List ℕ) → AreLoose arguments bytes → IsTail bytes
loose_tail [] bytes h = subst IsTail (sym h) tt
loose_tail (a ∷ more) bytes h = subst IsTail (sym h.4) refl

nil_tree : (more : List ArgumentKind) → tree_is_last (TreeArgument ∷ more) ≡ true → more ≡ []
nil_tree [] h = refl
nil_tree (b ∷ more) h = absurd cc

nil_text : (more : List ArgumentKind) → tree_is_last (TextArgument ∷ more) ≡ true → more ≡ []
nil_text [] h = refl
nil_text (b ∷ more) h = absurd cc

pub last_of : (a : ArgumentKind) (more : List ArgumentKind) → tree_is_last (a ∷ more) ≡ true → tree_is_last more ≡ true
last_of PathArgument more h = h
last_of NumberArgument more h = h
last_of LabelArgument more h = h
last_of NameArgument more h = h
last_of TreeArgument more h = subst (λ x. tree_is_last x ≡ true) (sym (nil_tree more h)) refl
last_of TextArgument more h = subst (λ x. tree_is_last x ≡ true) (sym (nil_text more h)) refl

-- what stands for the arguments is cut where it ends
pub loose_ends : (a : ArgumentKind) (more : List ArgumentKind) (piece rest : List ℕ) → tree_is_last (a ∷ more) ≡ true
    → IsLoosePiece a piece → AreLoose more rest → EndsPiece a piece rest
loose_ends PathArgument more piece rest o h k = (h, loose_tail more rest k)
loose_ends NumberArgument more piece rest o h k = (numeral_no_space piece h, loose_tail more rest k)
loose_ends LabelArgument more piece rest o h k = (label_no_space piece h, loose_tail more rest k)
loose_ends NameArgument more piece rest o h k = (name_no_space piece h, loose_tail more rest k)
loose_ends TreeArgument more piece rest o h k = subst (λ x. AreLoose x rest) (nil_tree more o) k
loose_ends TextArgument more piece rest o h k = subst (λ x. AreLoose x rest) (nil_text more o) k

-- ---- there is one way to cut

one_rest : (p q r s : List ℕ) → 32 ∷ (p ++ r) ≡ 32 ∷ (q ++ s) → r ≡ [] → s ≡ [] → (p ≡ q) × (r ≡ s)
one_rest p q r s e h k =
    let same : p ++ r ≡ q ++ s = cc in
    (sym (append-nil p) ∙ ap (λ x. p ++ x) (sym h) ∙ same ∙ ap (λ x. q ++ x) k ∙ append-nil q, h ∙ sym k)

pub one_cut : (a : ArgumentKind) (p q r s : List ℕ) → 32 ∷ (p ++ r) ≡ 32 ∷ (q ++ s) → EndsPiece a p r → EndsPiece a q s
    → (p ≡ q) × (r ≡ s)
one_cut PathArgument p q r s e h k = let same : p ++ r ≡ q ++ s = cc in one_piece p q r s same h.0 k.0 h.1 k.1
one_cut NumberArgument p q r s e h k = let same : p ++ r ≡ q ++ s = cc in one_piece p q r s same h.0 k.0 h.1 k.1
one_cut LabelArgument p q r s e h k = let same : p ++ r ≡ q ++ s = cc in one_piece p q r s same h.0 k.0 h.1 k.1
one_cut NameArgument p q r s e h k = let same : p ++ r ≡ q ++ s = cc in one_piece p q r s same h.0 k.0 h.1 k.1
one_cut TreeArgument p q r s e h k = one_rest p q r s e h k
one_cut TextArgument p q r s e h k = one_rest p q r s e h k

-- pieces that stand for the arguments are those that the bytes are cut into
pub loose_cut : (a : ArgumentKind) (more : List ArgumentKind) (bytes piece rest : List ℕ)
    → tree_is_last (a ∷ more) ≡ true → IsCutPiece a bytes piece rest → AreLoose (a ∷ more) bytes
    → IsLoosePiece a piece × AreLoose more rest
loose_cut a more bytes piece rest o c h =
    let w = one_cut a h.0 piece h.1 rest (sym h.4 ∙ c.are) (loose_ends a more h.0 h.1 o h.2 h.3) c.ends in
    (subst (IsLoosePiece a) w.0 h.2, subst (AreLoose more) w.1 h.3)

-- ---- where the arguments or the bytes are at an end

none_left : (a : ArgumentKind) (more : List ArgumentKind) (bytes : List ℕ) → length bytes ≡ 0
    → IsMisfit (a ∷ more) bytes (Some 0)
none_left a more [] e = ends_behind (AreLoose (a ∷ more)) [] (some_loose (a ∷ more)) (λ h. let none = h.4 in absurd cc)
none_left a more (b ∷ bytes) e = absurd (omega arith)

pub some_left : (arguments : List ArgumentKind) (bytes : List ℕ) → 1 ≤ length arguments → length bytes ≡ 0
    → IsMisfit arguments bytes (Some 0)
some_left [] bytes some e = absurd (omega arith)
some_left (a ∷ more) bytes some e = none_left a more bytes e

-- ---- a piece that stops fitting

take_front : (n : ℕ) (x y : List ℕ) → n ≤ length x → take n (x ++ y) ≡ take n x
take_front zero x y h = refl
take_front (suc n) [] y h = absurd (omega arith)
take_front (suc n) (b ∷ x) y h = ap (λ z. b ∷ z) (take_front n x y (omega arith))

take_past : (n : ℕ) (x y : List ℕ) → take (length x + n) (x ++ y) ≡ x ++ take n y
take_past n [] y = let e : 0 + n ≡ n = omega arith in ap (λ k. take k y) e
take_past n (b ∷ x) y =
    let e : suc (length x) + n ≡ suc (length x + n) = omega arith in ap (λ k. take k (b ∷ (x ++ y))) e
    ∙ ap (λ z. b ∷ z) (take_past n x y)

-- the bytes begin pieces where the first one is begun
begun : (a : ArgumentKind) (more : List ArgumentKind) (piece rest : List ℕ) (n : ℕ) → IsFront (IsLoosePiece a) piece n
    → IsFront (AreLoose (a ∷ more)) (32 ∷ (piece ++ rest)) (1 + n)
begun a more piece rest n f =
    let r = some_loose more in
    let one : 1 + n ≡ suc n = omega arith in (
      omega (arith, f.0, length-append piece rest),
      (
        f.1.0 ++ r.0,
        (
          take n piece ++ f.1.0,
          r.0,
          f.1.1,
          r.1,
          ap (λ k. take k (32 ∷ (piece ++ rest)) ++ (f.1.0 ++ r.0)) one
              ∙ ap (λ x. 32 ∷ (x ++ (f.1.0 ++ r.0))) (take_front n piece rest f.0)
              ∙ ap (λ x. 32 ∷ x) (sym (append_assoc (take n piece) f.1.0 r.0)),
        ),
      ),
    )

abbrev IsSpaceless : ArgumentKind → Type 0
IsSpaceless a = (piece : List ℕ) → IsLoosePiece a piece → HasNoSpace piece

tails_of : (x y : List ℕ) → 32 ∷ x ≡ 32 ∷ y → x ≡ y
tails_of x y e = cc

-- how a front of the bytes is continued to pieces
continued : (a : ArgumentKind) (more : List ArgumentKind) (piece rest : List ℕ) (m : ℕ) → IsSpaceless a
    → HasNoSpace piece → IsTail rest → (f : IsFront (AreLoose (a ∷ more)) (32 ∷ (piece ++ rest)) (suc m))
    → GoesOn piece rest m f.1.0 f.1.1.0 f.1.1.1
continued a more piece rest m spaceless hp hr f =
    let w = f.1.1 in
    let same : take m (piece ++ rest) ++ f.1.0 ≡ w.0 ++ w.1 = tails_of _ _ w.4 in
    split_front piece rest w.0 w.1 f.1.0 m same (omega (arith, f.0)) hp hr (spaceless w.0 w.2) (loose_tail more w.1 w.3)

stops_here : (a : ArgumentKind) (more : List ArgumentKind) (bytes piece rest : List ℕ) (n : ℕ) → IsSpaceless a
    → HasNoSpace piece → IsTail rest → bytes ≡ 32 ∷ (piece ++ rest)
    → IsPieceMisfit a piece (Some n) → IsMisfit (a ∷ more) bytes (Some (1 + n))
stops_here a more bytes piece rest n spaceless hp hr are h =
    subst (λ x. IsMisfit (a ∷ more) x (Some (1 + n))) (sym are)
    (record { front = begun a more piece rest n h.0.front; longest = no_longer }, none)
  where
    no_longer : (m : ℕ) → IsFront (AreLoose (a ∷ more)) (32 ∷ (piece ++ rest)) m → m ≤ 1 + n
    no_longer zero f = omega arith
    no_longer (suc m) f =
        let w = f.1.1 in
        ⊎_elim
        (λ (k : (m ≤ length piece) × ((x : List ℕ) × (w.0 ≡ take m piece ++ x))).
        let le : m ≤ n = h.0.longest m
        (k.0, (k.1.0, subst (IsLoosePiece a) k.1.1 w.2)) in let r : suc m ≤ 1 + n = omega arith in r)
        (λ (k : (length piece < m) × (w.0 ≡ piece) × (w.1 ≡ take (m - length piece) rest ++ f.1.0)). absurd
        (h.1 (subst (IsLoosePiece a) k.1 w.2)))
        (continued a more piece rest m spaceless hp hr f)

    none : AreLoose (a ∷ more) (32 ∷ (piece ++ rest)) → ⊥
    none k =
        let w = one_piece k.0 piece k.1 rest (tails_of _ _ (sym k.4))
        (spaceless k.0 k.2) hp (loose_tail more k.1 k.3) hr in
        h.1 (subst (IsLoosePiece a) w.0 k.2)

pub misfit_here : (a : ArgumentKind) (more : List ArgumentKind) (bytes piece rest : List ℕ) (n : ℕ)
    → IsCutPiece a bytes piece rest → IsPieceMisfit a piece (Some n) → IsMisfit (a ∷ more) bytes (Some (1 + n))
misfit_here PathArgument more bytes piece rest n c h = absurd (h.1 c.ends.0)
misfit_here NumberArgument more bytes piece rest n c h =
    stops_here NumberArgument more bytes piece rest n numeral_no_space c.ends.0 c.ends.1 c.are h
misfit_here LabelArgument more bytes piece rest n c h =
    stops_here LabelArgument more bytes piece rest n label_no_space c.ends.0 c.ends.1 c.are h
misfit_here NameArgument more bytes piece rest n c h =
    stops_here NameArgument more bytes piece rest n name_no_space c.ends.0 c.ends.1 c.are h
misfit_here TreeArgument more bytes piece rest n c h = absurd (h.1 tt)
misfit_here TextArgument more bytes piece rest n c h = absurd (h.1 tt)

-- ---- pieces after one that fits

begun_behind : (a : ArgumentKind) (more : List ArgumentKind) (piece rest : List ℕ) (n : ℕ) → IsLoosePiece a piece
    → IsFront (AreLoose more) rest n
    → IsFront (AreLoose (a ∷ more)) (32 ∷ (piece ++ rest)) (1 + length piece + n)
begun_behind a more piece rest n p f =
    let one : 1 + length piece + n ≡ suc (length piece + n) = omega arith in (
      omega (arith, f.0, length-append piece rest),
      (
        f.1.0,
        (
          piece,
          take n rest ++ f.1.0,
          p,
          f.1.1,
          ap (λ k. take k (32 ∷ (piece ++ rest)) ++ f.1.0) one ∙ ap (λ x. 32 ∷ (x ++ f.1.0)) (take_past n piece rest)
              ∙ ap (λ x. 32 ∷ x) (append_assoc piece (take n rest) f.1.0),
        ),
      ),
    )

stops_behind : (a : ArgumentKind) (more : List ArgumentKind) (bytes piece rest : List ℕ) (n : ℕ) → IsSpaceless a
    → HasNoSpace piece → IsTail rest → bytes ≡ 32 ∷ (piece ++ rest) → IsLoosePiece a piece
    → IsMisfit more rest (Some n) → IsMisfit (a ∷ more) bytes (Some (1 + length piece + n))
stops_behind a more bytes piece rest n spaceless hp hr are p h =
    subst (λ x. IsMisfit (a ∷ more) x (Some (1 + length piece + n))) (sym are)
    (record { front = begun_behind a more piece rest n p h.0.front; longest = no_longer }, none)
  where
    no_longer : (m : ℕ) → IsFront (AreLoose (a ∷ more)) (32 ∷ (piece ++ rest)) m → m ≤ 1 + length piece + n
    no_longer zero f = omega arith
    no_longer (suc m) f =
        let w = f.1.1 in
        ⊎_elim
        (λ (k : (m ≤ length piece)
        × ((x : List ℕ) × (w.0 ≡ take m piece ++ x))). let r : suc m ≤ 1 + length piece + n = omega (arith, k.0) in r)
        (λ (k : (length piece < m) × (w.0 ≡ piece) × (w.1 ≡ take (m - length piece) rest ++ f.1.0)).
        let le : m - length piece ≤ n = h.0.longest (m - length piece)
        (omega (arith, f.0, length-append piece rest), (f.1.0, subst (AreLoose more) k.2 w.3)) in
        let r : suc m ≤ 1 + length piece + n = omega arith in r)
        (continued a more piece rest m spaceless hp hr f)

    none : AreLoose (a ∷ more) (32 ∷ (piece ++ rest)) → ⊥
    none k =
        let w = one_piece k.0 piece k.1 rest (tails_of _ _ (sym k.4))
        (spaceless k.0 k.2) hp (loose_tail more k.1 k.3) hr in
        h.1 (subst (AreLoose more) w.1 k.3)

pub misfit_behind : (a : ArgumentKind) (more : List ArgumentKind) (bytes piece rest : List ℕ) (n : ℕ)
    → tree_is_last (a ∷ more) ≡ true → IsCutPiece a bytes piece rest → IsPieceMisfit a piece None
    → IsMisfit more rest (Some n)
    → IsMisfit (a ∷ more) bytes (Some (1 + length piece + n))
misfit_behind PathArgument more bytes piece rest n o c p h =
    stops_behind PathArgument more bytes piece rest n (λ q k. k) c.ends.0 c.ends.1 c.are p h
misfit_behind NumberArgument more bytes piece rest n o c p h =
    stops_behind NumberArgument more bytes piece rest n numeral_no_space c.ends.0 c.ends.1 c.are p h
misfit_behind LabelArgument more bytes piece rest n o c p h =
    stops_behind LabelArgument more bytes piece rest n label_no_space c.ends.0 c.ends.1 c.are p h
misfit_behind NameArgument more bytes piece rest n o c p h =
    stops_behind NameArgument more bytes piece rest n name_no_space c.ends.0 c.ends.1 c.are p h
misfit_behind TreeArgument more bytes piece rest n o c p h =
    absurd (h.1 (subst (λ x. AreLoose x rest) (sym (nil_tree more o)) c.ends))
misfit_behind TextArgument more bytes piece rest n o c p h =
    absurd (h.1 (subst (λ x. AreLoose x rest) (sym (nil_text more o)) c.ends))

-- ---- by the first argument and the others

pub misfit_first : (arguments : List ArgumentKind) (bytes piece rest : List ℕ) (n : ℕ) → 1 ≤ length arguments
    → IsCutPiece (get_or arguments 0 PathArgument) bytes piece rest
    → IsPieceMisfit (get_or arguments 0 PathArgument) piece (Some n) → IsMisfit arguments bytes (Some (1 + n))
misfit_first [] bytes piece rest n some c h = absurd (omega arith)
misfit_first (a ∷ more) bytes piece rest n some c h = misfit_here a more bytes piece rest n c h

pub misfit_later : (arguments : List ArgumentKind) (bytes piece rest : List ℕ) (n : ℕ) → 1 ≤ length arguments
    → tree_is_last arguments ≡ true → IsCutPiece (get_or arguments 0 PathArgument) bytes piece rest
    → IsPieceMisfit (get_or arguments 0 PathArgument) piece None
    → IsMisfit (take (length arguments - 1) (drop 1 arguments)) rest (Some n)
    → IsMisfit arguments bytes (Some (1 + length piece + n))
misfit_later [] bytes piece rest n some o c p h = absurd (omega arith)
misfit_later (a ∷ more) bytes piece rest n some o c p h =
    misfit_behind a more bytes piece rest n o c p (subst (λ x. IsMisfit x rest (Some n)) (take_rest (a ∷ more) 1) h)

-- ---- the whole line

pub line_misfit : (w : Word) (rest : List ℕ) (n : ℕ) → IsMisfit (arguments_of w) rest (Some n)
    → (IsLoose (word_text w) (word_text w ++ rest) → ⊥)
    × IsLongestFront (IsLoose (word_text w)) (word_text w ++ rest) (length (word_text w) + n)
line_misfit w rest n h = (none, record { front = front; longest = no_longer })
  where
    none : IsLoose (word_text w) (word_text w ++ rest) → ⊥
    none k =
        h.1 (subst (λ v. AreLoose (arguments_of v) rest) (sym (one_word w k.0 k.2))
        (subst (AreLoose (arguments_of k.0)) (sym (append_cancel_left (word_text w) rest k.1 k.4)) k.3))

    front : IsFront (IsLoose (word_text w)) (word_text w ++ rest) (length (word_text w) + n)
    front =
        let f = h.0.front in (
          omega (arith, f.0, length-append (word_text w) rest),
          (
            f.1.0,
            (
              w,
              take n rest ++ f.1.0,
              refl,
              f.1.1,
              ap (λ x. x ++ f.1.0) (take_past n (word_text w) rest)
                  ∙ append_assoc (word_text w) (take n rest) f.1.0,
            ),
          ),
        )

    past : (k : ℕ) (more : List ℕ) → k ≤ length rest
        → IsLoose (word_text w) (take (length (word_text w) + k) (word_text w ++ rest) ++ more) → k ≤ n
    past k more le l =
        let whole : word_text w ++ (take k rest ++ more)
        ≡ word_text w ++ l.1 =
        sym (append_assoc (word_text w) (take k rest) more)
        ∙ ap (λ x. x ++ more) (sym (take_past k (word_text w) rest)) ∙ l.4 in
        let same : l.1 ≡ take k rest ++ more = sym (append_cancel_left (word_text w) (take k rest ++ more) l.1 whole) in
        h.0.longest k (
          le,
          (
            more,
            subst (λ v. AreLoose (arguments_of v) (take k rest ++ more))
                (sym (one_word w l.0 l.2)) (subst (AreLoose (arguments_of l.0)) same l.3),
          ),
        )

    no_longer : (m : ℕ) → IsFront (IsLoose (word_text w)) (word_text w ++ rest) m → m ≤ length (word_text w) + n
    no_longer m f =
        ⊎_elim
        (λ (lt : m < length (word_text w)). let le : m ≤ length (word_text w) + n = omega arith in le)
        (λ (ge : length (word_text w) ≤ m).
        let k = m - length (word_text w) in
        let e : m ≡ length (word_text w) + k = omega arith in
        let le : k ≤ n = past k f.1.0 (omega (arith, f.0, length-append (word_text w) rest))
        (subst (λ j. IsLoose (word_text w) (take j (word_text w ++ rest) ++ f.1.0)) e f.1.1) in
        let r : m ≤ length (word_text w) + n = omega arith in r)
        (cases_lt m (length (word_text w)))
