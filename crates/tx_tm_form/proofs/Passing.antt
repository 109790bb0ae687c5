-- Whole pieces leave the marks as they are, and the beginning of a long tag puts its mark first.
use Rattle.std.proofs.Common.{◌≡◌, ℕ, suc, ◌+◌, ◌≤◌, ◌<◌, Bool, true, false, ◌==◌, ◌||◌, nat_le, if◌then◌else◌, List}
use Rattle.std.proofs.Common.{[], ◌∷◌, ◌++◌, length, map, Option, Some, None, refl, sym, ap, subst, ◌∙◌, append_assoc}
use Rattle.std.proofs.Common.{length-append, arith}
use Rattle.std.specs.List.{AllByRecursion, flat_map}
use Rattle.std.proofs.lemmas.List.{append-nil}
use Rattle.std.proofs.lemmas.Bool.{lt-ltb, le-leb, and_from}
use Rattle.tx_tree.specs.declared.TheConstants.{MOST_NAME}
use Rattle.tx_tree.specs.Texts.{is_name_byte, IsName}
use Rattle.tx_tm_form.specs.declared.places.TagForm.TheVariants.{Short, Long, Middle, Closing}
use Rattle.tx_tm_form.specs.declared.places.TagPlace.{TagPlace}
use Rattle.tx_tm_form.specs.declared.places.TagPlace.TheVariants.{InShort, InHeader, InClosing}
use Rattle.tx_tm_form.specs.declared.marks.TagMark.{TagMark}
use Rattle.tx_tm_form.specs.declared.marks.Inside.{Inside}
use Rattle.tx_tm_form.specs.declared.marks.Inside.TheVariants.{Parts, Symbol, Digits}
use Rattle.tx_tm_form.specs.Tokens.{Token, white, plain, escape, raw, head, bar, close, written, is_dropped}
use Rattle.tx_tm_form.specs.Tokens.{without_joins}
use Rattle.tx_tm_form.specs.Forms.{AreDigits, Piece, Pieces, Arguments, Blocks, blank, letter, escaped, symbol}
use Rattle.tx_tm_form.specs.Forms.{raw_data, short_tag, long_tag_of, nothing, piece, no_argument, argument, no_block}
use Rattle.tx_tm_form.specs.Forms.{middle_tag, name_token, tokens_of_piece, tokens_of, tag_beginning, more_arguments}
use Rattle.tx_tm_form.specs.Forms.{tokens_of_blocks}
use Rattle.tx_tm_form.specs.Machine.{header_place}
use Rattle.tx_tm_form.specs.Marks.{Standing, standing_in, new_mark, if_marked, escape_marks, name_marks, symbol_marks}
use Rattle.tx_tm_form.specs.Marks.{feed_marks, feed_standing, Marked, keep_marks}
use Rattle.tx_tm_form.specs.Faults.{IsInBlock}
use Rattle.tx_tm_form.proofs.Complete.{same_self, no_escape_less, no_end}
use Rattle.tx_tm_form.proofs.Words.{folds}

abbrev pub marked : ℕ → Bool → Option Standing → Marked
marked i j s = record { taken = i; behind_join = j; now = s }

abbrev pub marks_fold : Marked → List Token → Marked
marks_fold = folds Marked keep_marks

-- with such tokens next, joins aside, the machine goes from s to z
abbrev pub Passes : Option Standing → Option Standing → List Token → Type 0
Passes s z ts =
    (vs y : List Token) (i : ℕ) (j : Bool) → without_joins j vs ≡ ts ++ y
    → (rest : List Token) × (k : ℕ) × (l : Bool) × (without_joins l rest ≡ y)
    × (marks_fold (marked i j s) vs ≡ marks_fold (marked k l z) rest)

nothing_passes : (s : Option Standing) → Passes s s []
nothing_passes s vs y i j e = (vs, i, j, e, refl)

both_pass : (s z w : Option Standing) (a b : List Token) → Passes s z a → Passes z w b → Passes s w (a ++ b)
both_pass s z w a b h k vs y i j e =
    let p = h vs (b ++ y) i j (e ∙ append_assoc a b y) in
    let q = k p.0 y p.1 p.2 p.3 in
    (q.0, q.1, q.2, q.3, p.4 ∙ q.4)

heads : (t u : Token) (x y : List Token) → t ∷ x ≡ u ∷ y → (t ≡ u) × (x ≡ y)
heads t u x y e = (cc, cc)

-- what the first kept token does, at its place
abbrev One : Option Standing → Token → List Token → List Token → ℕ → Bool → Type 0
One s t vs y i j =
    (rest : List Token) × (n : ℕ) × (k : ℕ) × (without_joins false rest ≡ y)
    × (marks_fold (marked i j s) vs ≡ marks_fold (marked k false (feed_standing n s t)) rest)

one_token : (vs y : List Token) (t : Token) (s : Option Standing) (i : ℕ) (j : Bool) → without_joins j vs ≡ t ∷ y
    → One s t vs y i j
one_token [] y t s i j e = absurd cc
one_token (v ∷ vs) y t s i j e =
    elim (is_dropped j v)
    as (λ d. (if d then without_joins true vs else v ∷ without_joins false vs) ≡ t ∷ y
    → (rest : List Token) × (n : ℕ) × (k : ℕ) × (without_joins false rest ≡ y)
    × (marks_fold
    (if d then marked (i + length (written v)) true s else marked (i + length (written v)) false
    (feed_standing i s v)) vs ≡ marks_fold (marked k false (feed_standing n s t)) rest)) [
      | true ↦ λ g. one_token vs y t s (i + length (written v)) true g
      | false ↦ λ g. let p = heads v t (without_joins false vs) y g in (
        vs,
        i,
        i + length (written v),
        p.1,
        ap (λ u. marks_fold (marked (i + length (written v)) false (feed_standing i s u)) vs) p.0,
      )
    ] e

-- a token, and then others, wherever it is
then_pass : (s w : Option Standing) (t : Token) (b : List Token) → ((n : ℕ) → Passes (feed_standing n s t) w b)
    → Passes s w (t ∷ b)
then_pass s w t b h vs y i j e =
    let p = one_token vs (b ++ y) t s i j e in
    let q = h p.1 p.0 y p.2 false p.3 in
    (q.0, q.1, q.2, q.3, p.4 ∙ q.4)

one_passes : (s w : Option Standing) (t : Token) → ((n : ℕ) → feed_standing n s t ≡ w) → Passes s w (t ∷ [])
one_passes s w t h = then_pass s w t [] (λ n. subst (λ z. Passes z w []) (sym (h n)) (nothing_passes w))

-- ---- symbols and raw data

name_step : (b m n : ℕ) (ms : List TagMark) → is_name_byte b ≡ true → m < MOST_NAME
    → feed_standing n (standing_in (Symbol m) ms) (name_token b) ≡ standing_in (Symbol (suc m)) ms
name_step b m n ms h lt =
    elim (b == 124 || b == 92) as
    (λ c. (b == 124 || b == 92) ≡ c → symbol_marks m ms (if c then escape b else plain b) ≡ standing_in
    (Symbol (suc m)) ms) [
      | true ↦ λ e.
          ap (λ c. if c then if_marked (nat_le 1 m) Parts ms else name_marks (b == 124 || b == 92) m ms) (no_end b e)
          ∙ ap (λ c. if_marked c (Symbol (suc m)) ms) (and_from _ _ e (lt-ltb _ _ lt))
      | false ↦ λ e. ap (λ c. if_marked c (Symbol (suc m)) ms) (and_from _ _ h (lt-ltb _ _ lt))
    ] refl

end_step : (m n : ℕ) (ms : List TagMark) → 1 ≤ m
    → feed_standing n (standing_in (Symbol m) ms) (escape 62) ≡ standing_in Parts
    ms
end_step m n ms h = ap (λ c. if_marked c Parts ms) (le-leb 1 m h)

name_passes : (name : List ℕ) (m : ℕ) (ms : List TagMark) → AllByRecursion (λ b. is_name_byte b ≡ true) name
    → m + length name ≤ MOST_NAME → 1 ≤ m + length name
    → Passes (standing_in (Symbol m) ms) (standing_in Parts ms) (map name_token name ++ escape 62 ∷ [])
name_passes [] m ms h n k =
    one_passes (standing_in (Symbol m) ms) (standing_in Parts ms) (escape 62) (λ i. end_step m i ms (omega (arith, k)))
name_passes (b ∷ name) m ms h n k =
    then_pass (standing_in (Symbol m) ms) (standing_in Parts ms) (name_token b) (map name_token name ++ escape 62 ∷ [])
    (λ i.
    subst (λ z. Passes z (standing_in Parts ms) (map name_token name ++ escape 62 ∷ []))
    (sym (name_step b m i ms h.0 (omega (arith, n))))
    (name_passes name (suc m) ms h.1 (omega (arith, n)) (omega arith)))

symbol_passes : (name : List ℕ) (ms : List TagMark) → IsName name
    → Passes (standing_in Parts ms) (standing_in Parts ms) (escape 60 ∷ (map name_token name ++ escape 62 ∷ []))
symbol_passes name ms h =
    then_pass (standing_in Parts ms) (standing_in Parts ms) (escape 60) (map name_token name ++ escape 62 ∷ []) (λ i.
    subst (λ o. Passes (escape_marks o 60 ms) (standing_in Parts ms) (map name_token name ++ escape 62 ∷ []))
    (sym no_escape_less) (name_passes name 0 ms h.each (omega (arith, h.short)) (omega (arith, h.some))))

digits_pass : (ds : List ℕ) (ms : List TagMark) → AreDigits ds
    → Passes (standing_in Digits ms) (standing_in Parts ms) (map plain ds ++ close ∷ [])
digits_pass [] ms h = one_passes (standing_in Digits ms) (standing_in Parts ms) close (λ i. refl)
digits_pass (b ∷ ds) ms h =
    then_pass (standing_in Digits ms) (standing_in Parts ms) (plain b) (map plain ds ++ close ∷ []) (λ i.
    subst (λ c. Passes (if_marked c Digits ms) (standing_in Parts ms) (map plain ds ++ close ∷ [])) (sym h.0)
    (digits_pass ds ms h.1))

-- ---- tags

-- the marks after the last argument of a beginning or an end
abbrev behind_last : TagPlace → ℕ → List ℕ → List TagMark → List TagMark
behind_last InShort n l ms = ms
behind_last InHeader n l ms = new_mark n l None ∷ ms
behind_last InClosing n l ms = ms

abbrev pub in_argument : TagPlace → ℕ → List ℕ → List TagMark → Option Standing
in_argument p n l ms = standing_in Parts (new_mark n l (Some p) ∷ ms)

abbrev pub in_block : ℕ → List ℕ → List TagMark → Option Standing
in_block n l ms = standing_in Parts (new_mark n l None ∷ ms)

close_passes : (p : TagPlace) (n : ℕ) (l : List ℕ) (ms : List TagMark)
    → Passes (in_argument p n l ms) (standing_in Parts (behind_last p n l ms)) (close ∷ [])
close_passes InShort n l ms = one_passes (in_argument InShort n l ms) (standing_in Parts ms) close (λ i. refl)
close_passes InHeader n l ms = one_passes (in_argument InHeader n l ms) (in_block n l ms) close (λ i. refl)
close_passes InClosing n l ms = one_passes (in_argument InClosing n l ms) (standing_in Parts ms) close (λ i. refl)

-- in a block, a middle or closing tag begins
pub middle_step : (more : Bool) (n i : ℕ) (l : List ℕ) (ms : List TagMark)
    → feed_standing i (in_block n l ms) (head Middle l more) ≡ standing_in Parts (new_mark n l (header_place more) ∷ ms)
middle_step more n i l ms = ap (λ c. if_marked c Parts (new_mark n l (header_place more) ∷ ms)) (same_self l)

pub closing_step : (n i : ℕ) (l : List ℕ) (ms : List TagMark)
    → feed_standing i (in_block n l ms) (head Closing l true) ≡ in_argument InClosing n l ms
closing_step n i l ms = ap (λ c. if_marked c Parts (new_mark n l (Some InClosing) ∷ ms)) (same_self l)

pub last_step : (n i : ℕ) (l : List ℕ) (ms : List TagMark)
    → feed_standing i (in_block n l ms) (head Closing l false) ≡ standing_in Parts ms
last_step n i l ms = ap (λ c. if_marked c Parts ms) (same_self l)

mutual
  piece_passes : (p : Piece) (ms : List TagMark)
      → Passes (standing_in Parts ms) (standing_in Parts ms) (tokens_of_piece p)
  piece_passes (blank b) ms = one_passes (standing_in Parts ms) (standing_in Parts ms) (white b) (λ n. refl)
  piece_passes (letter b h) ms = one_passes (standing_in Parts ms) (standing_in Parts ms) (plain b) (λ n. refl)
  piece_passes (escaped b e h) ms =
      one_passes (standing_in Parts ms) (standing_in Parts ms) (escape b) (λ n. ap (λ o. escape_marks o b ms) h)
  piece_passes (symbol name h) ms = symbol_passes name ms h
  piece_passes (raw_data ds h) ms =
      then_pass (standing_in Parts ms) (standing_in Parts ms) raw (map plain ds ++ close ∷ [])
      (λ i. digits_pass ds ms h)
  piece_passes (short_tag l h no_argument) ms =
      one_passes (standing_in Parts ms) (standing_in Parts ms) (head Short l false) (λ n. refl)
  piece_passes (short_tag l h (argument x xs)) ms =
      then_pass (standing_in Parts ms) (standing_in Parts ms) (head Short l true) (tokens_of x ++ more_arguments xs)
      (λ n.
      both_pass (in_argument InShort n l ms) (in_argument InShort n l ms) (standing_in Parts ms) (tokens_of x)
      (more_arguments xs) (pieces_pass x (new_mark n l (Some InShort) ∷ ms)) (more_pass xs InShort n l ms))
  piece_passes (long_tag_of l h no_argument first others last) ms =
      then_pass (standing_in Parts ms) (standing_in Parts ms) (head Long l false)
      (tokens_of first ++ (tokens_of_blocks l others ++ tag_beginning Closing l last)) (λ n.
      both_pass (in_block n l ms) (in_block n l ms) (standing_in Parts ms) (tokens_of first)
      (tokens_of_blocks l others ++ tag_beginning Closing l last) (pieces_pass first (new_mark n l None ∷ ms))
      (both_pass (in_block n l ms) (in_block n l ms) (standing_in Parts ms) (tokens_of_blocks l others)
      (tag_beginning Closing l last) (blocks_pass others n l ms) (end_passes last n l ms)))
  piece_passes (long_tag_of l h (argument x xs) first others last) ms =
      then_pass (standing_in Parts ms) (standing_in Parts ms) (head Long l true)
      ((tokens_of x ++ more_arguments xs)
      ++ (tokens_of first ++ (tokens_of_blocks l others ++ tag_beginning Closing l last))) (λ n.
      both_pass (in_argument InHeader n l ms) (in_block n l ms) (standing_in Parts ms)
      (tokens_of x ++ more_arguments xs)
      (tokens_of first ++ (tokens_of_blocks l others ++ tag_beginning Closing l last))
      (both_pass (in_argument InHeader n l ms) (in_argument InHeader n l ms) (in_block n l ms) (tokens_of x)
      (more_arguments xs) (pieces_pass x (new_mark n l (Some InHeader) ∷ ms)) (more_pass xs InHeader n l ms))
      (both_pass (in_block n l ms) (in_block n l ms) (standing_in Parts ms) (tokens_of first)
      (tokens_of_blocks l others ++ tag_beginning Closing l last) (pieces_pass first (new_mark n l None ∷ ms))
      (both_pass (in_block n l ms) (in_block n l ms) (standing_in Parts ms) (tokens_of_blocks l others)
      (tag_beginning Closing l last) (blocks_pass others n l ms) (end_passes last n l ms))))

  pub pieces_pass : (c : Pieces) (ms : List TagMark)
      → Passes (standing_in Parts ms) (standing_in Parts ms) (tokens_of c)
  pieces_pass nothing ms = nothing_passes (standing_in Parts ms)
  pieces_pass (piece p c) ms =
      both_pass (standing_in Parts ms) (standing_in Parts ms) (standing_in Parts ms) (tokens_of_piece p) (tokens_of c)
      (piece_passes p ms) (pieces_pass c ms)

  pub more_pass : (xs : Arguments) (p : TagPlace) (n : ℕ) (l : List ℕ) (ms : List TagMark)
      → Passes (in_argument p n l ms) (standing_in Parts (behind_last p n l ms)) (more_arguments xs)
  more_pass no_argument p n l ms = close_passes p n l ms
  more_pass (argument x xs) p n l ms =
      then_pass (in_argument p n l ms) (standing_in Parts (behind_last p n l ms)) bar (tokens_of x ++ more_arguments xs)
      (λ i.
      both_pass (in_argument p n l ms) (in_argument p n l ms) (standing_in Parts (behind_last p n l ms)) (tokens_of x)
      (more_arguments xs) (pieces_pass x (new_mark n l (Some p) ∷ ms)) (more_pass xs p n l ms))

  pub blocks_pass : (bs : Blocks) (n : ℕ) (l : List ℕ) (ms : List TagMark)
      → Passes (in_block n l ms) (in_block n l ms) (tokens_of_blocks l bs)
  blocks_pass no_block n l ms = nothing_passes (in_block n l ms)
  blocks_pass (middle_tag no_argument b bs) n l ms =
      then_pass (in_block n l ms) (in_block n l ms) (head Middle l false) (tokens_of b ++ tokens_of_blocks l bs) (λ i.
      subst (λ z. Passes z (in_block n l ms) (tokens_of b ++ tokens_of_blocks l bs)) (sym (middle_step false n i l ms))
      (both_pass (in_block n l ms) (in_block n l ms) (in_block n l ms) (tokens_of b) (tokens_of_blocks l bs)
      (pieces_pass b (new_mark n l None ∷ ms)) (blocks_pass bs n l ms)))
  blocks_pass (middle_tag (argument x xs) b bs) n l ms =
      then_pass (in_block n l ms) (in_block n l ms) (head Middle l true)
      ((tokens_of x ++ more_arguments xs) ++ (tokens_of b ++ tokens_of_blocks l bs)) (λ i.
      subst (λ z.
      Passes z (in_block n l ms) ((tokens_of x ++ more_arguments xs) ++ (tokens_of b ++ tokens_of_blocks l bs)))
      (sym (middle_step true n i l ms))
      (both_pass (in_argument InHeader n l ms) (in_block n l ms) (in_block n l ms) (tokens_of x ++ more_arguments xs)
      (tokens_of b ++ tokens_of_blocks l bs)
      (both_pass (in_argument InHeader n l ms) (in_argument InHeader n l ms) (in_block n l ms) (tokens_of x)
      (more_arguments xs) (pieces_pass x (new_mark n l (Some InHeader) ∷ ms)) (more_pass xs InHeader n l ms))
      (both_pass (in_block n l ms) (in_block n l ms) (in_block n l ms) (tokens_of b) (tokens_of_blocks l bs)
      (pieces_pass b (new_mark n l None ∷ ms)) (blocks_pass bs n l ms))))

  end_passes : (xs : Arguments) (n : ℕ) (l : List ℕ) (ms : List TagMark)
      → Passes (in_block n l ms) (standing_in Parts ms) (tag_beginning Closing l xs)
  end_passes no_argument n l ms =
      one_passes (in_block n l ms) (standing_in Parts ms) (head Closing l false) (λ i. last_step n i l ms)
  end_passes (argument x xs) n l ms =
      then_pass (in_block n l ms) (standing_in Parts ms) (head Closing l true) (tokens_of x ++ more_arguments xs) (λ i.
      subst (λ z. Passes z (standing_in Parts ms) (tokens_of x ++ more_arguments xs)) (sym (closing_step n i l ms))
      (both_pass (in_argument InClosing n l ms) (in_argument InClosing n l ms) (standing_in Parts ms) (tokens_of x)
      (more_arguments xs) (pieces_pass x (new_mark n l (Some InClosing) ∷ ms)) (more_pass xs InClosing n l ms)))

-- ---- the mark of an open long tag

-- the tokens after its beginning
behind_head : (xs : Arguments) (l : List ℕ) (more : Bool) (n : ℕ) (ms : List TagMark) (x y : List Token)
    → head Long l more ∷ x ≡ tag_beginning Long l xs ++ y
    → (z : List Token) × (x ≡ z ++ y) × Passes (standing_in Parts (new_mark n l (header_place more) ∷ ms))
    (in_block n l ms) z
behind_head no_argument l more n ms x y e =
    let p = beginnings l more false x y e in (
      [],
      p.1,
      subst (λ c. Passes (standing_in Parts (new_mark n l (header_place c) ∷ ms)) (in_block n l ms) []) (sym p.0)
          (nothing_passes (in_block n l ms)),
    )
  where
    beginnings : (l : List ℕ) (a b : Bool) (x y : List Token) → head Long l a ∷ x ≡ head Long l b ∷ y
        → (a ≡ b) × (x ≡ y)
    beginnings l a b x y e = (cc, cc)
behind_head (argument c xs) l more n ms x y e =
    let p = beginnings l more true x ((tokens_of c ++ more_arguments xs) ++ y) e in (
      tokens_of c ++ more_arguments xs,
      p.1,
      subst (λ d. Passes (standing_in Parts (new_mark n l (header_place d) ∷ ms)) (in_block n l ms)
          (tokens_of c ++ more_arguments xs)) (sym p.0)
          (both_pass (in_argument InHeader n l ms) (in_argument InHeader n l ms) (in_block n l ms) (tokens_of c)
          (more_arguments xs) (pieces_pass c (new_mark n l (Some InHeader) ∷ ms)) (more_pass xs InHeader n l ms)),
    )
  where
    beginnings : (l : List ℕ) (a b : Bool) (x y : List Token) → head Long l a ∷ x ≡ head Long l b ∷ y
        → (a ≡ b) × (x ≡ y)
    beginnings l a b x y e = (cc, cc)

-- tokens that are all dropped change nothing
dropped_now : (ts : List Token) (i : ℕ) (j : Bool) (s : Option Standing) → without_joins j ts ≡ []
    → (marks_fold (marked i j s) ts).now ≡ s
dropped_now [] i j s e = refl
dropped_now (t ∷ ts) i j s e =
    elim (is_dropped j t)
    as (λ d. (if d then without_joins true ts else t ∷ without_joins false ts) ≡ []
    → (marks_fold
    (if d then marked (i + length (written t)) true s else marked (i + length (written t)) false
    (feed_standing i s t)) ts).now ≡ s) [
      | true ↦ λ g. dropped_now ts (i + length (written t)) true s g
      | false ↦ λ g. absurd cc
    ] e

no_standing : (ts : List Token) (i : ℕ) (j : Bool) → (marks_fold (marked i j None) ts).now ≡ None
no_standing [] i j = refl
no_standing (t ∷ ts) i j =
    elim (is_dropped j t) as
    (λ d. (marks_fold
    (if d then marked (i + length (written t)) true None else marked (i + length (written t)) false None) ts).now
    ≡ None) [
      | true ↦ no_standing ts (i + length (written t)) true
      | false ↦ no_standing ts (i + length (written t)) false
    ]

pub taken_behind : (ts : List Token) (i : ℕ) (j : Bool) (s : Option Standing)
    → (marks_fold (marked i j s) ts).taken ≡ i + length (flat_map written ts)
taken_behind [] i j s = omega arith
taken_behind (t ∷ ts) i j s =
    elim (is_dropped j t)
    as (λ d. (marks_fold
    (if d then marked (i + length (written t)) true s else marked (i + length (written t)) false
    (feed_standing i s t)) ts).taken ≡ i + length (written t ++ flat_map written ts)) [
      | true ↦ taken_behind ts (i + length (written t)) true s
          ∙ omega (arith, length-append (written t) (flat_map written ts))
      | false ↦ taken_behind ts (i + length (written t)) false (feed_standing i s t)
          ∙ omega (arith, length-append (written t) (flat_map written ts))
    ]

fold_append : (a b : List Token) (m : Marked) → marks_fold m (a ++ b) ≡ marks_fold (marks_fold m a) b
fold_append [] b m = refl
fold_append (t ∷ a) b m = fold_append a b (keep_marks m t)

-- from where a long tag of this label begins to where its block is open
abbrev pub Opens : ℕ → List ℕ → Option Standing → Type 0
Opens place l o = (ms : List TagMark) × (o ≡ standing_in Parts (new_mark place l None ∷ ms))

no_some : (s : Standing) (o : Option Standing) → o ≡ None → o ≡ Some s → ⊥
no_some s o e h = cc

now_is : (o p : Option Standing) (m k : Marked) → m.now ≡ o → m ≡ k → k.now ≡ p → o ≡ p
now_is o p m k e f g = sym e ∙ ap (λ x. x.now) f ∙ g

block_opens : (h : Option Standing) (place : ℕ) (j : Bool) (label : List ℕ) (more : Bool) (behind : List Token)
    (xs : Arguments) (y : List Token)
    → head Long label more ∷ without_joins false behind ≡ tag_beginning Long label xs ++ y
    → ((n : ℕ) (ms : List TagMark) → Passes (in_block n label ms) (in_block n label ms) y)
    → (s : Standing) → (marks_fold (marked place j h) (head Long label more ∷ behind)).now ≡ Some s
    → Opens place label (Some s)
block_opens None place j label more behind xs y e k s r =
    absurd (no_some s _ (no_standing (head Long label more ∷ behind) place j) r)
block_opens (Some z) place j label more behind xs y e k s r = opens z.inside r
  where
    i : ℕ
    i = place + length (written (head Long label more))

    opens : (inside : Inside)
        → (marks_fold (marked i false (feed_marks place inside z.marks (head Long label more))) behind).now ≡ Some s
        → Opens place label (Some s)
    opens (Symbol n) r = absurd (no_some s _ (no_standing behind i false) r)
    opens Digits r = absurd (no_some s _ (no_standing behind i false) r)
    opens Parts r =
        let p = behind_head xs label more place z.marks (without_joins false behind) y e in
        let q = both_pass (standing_in Parts (new_mark place label (header_place more) ∷ z.marks))
        (in_block place label z.marks) (in_block place label z.marks) p.0 y p.2 (k place z.marks) behind [] i false
        (p.1 ∙ sym (append-nil (p.0 ++ y))) in (
          z.marks,
          now_is (Some s) (in_block place label z.marks)
              (marks_fold (marked i false (standing_in Parts
              (new_mark place label (header_place more) ∷ z.marks))) behind)
              (marks_fold (marked q.1 q.2 (in_block place label z.marks)) q.0) r q.4
              (dropped_now q.0 q.1 q.2 (in_block place label z.marks) q.3),
        )

-- where a block of a long tag is open, the first mark is that of the tag
pub block_mark : (ts : List Token) (place : ℕ) (s : Standing) (h : IsInBlock ts place)
    → (marks_fold (marked 0 false (standing_in Parts [])) ts).now ≡ Some s → Opens place h.label (Some s)
block_mark ts place s h e =
    let m0 = marked 0 false (standing_in Parts []) in
    let m = marks_fold m0 h.before in
    let at_place : m.taken ≡ place = omega (arith, taken_behind h.before 0 false (standing_in Parts []), h.there) in
    let r : (marks_fold m (head Long h.label h.more ∷ h.behind)).now ≡ Some s =
    ap (λ x. x.now) (sym (fold_append h.before (head Long h.label h.more ∷ h.behind) m0))
    ∙ ap (λ x. (marks_fold m0 x).now) (sym h.found) ∙ e in
    block_opens m.now place m.behind_join h.label h.more h.behind h.arguments
    (tokens_of h.first ++ tokens_of_blocks h.label h.others) h.formed
    (λ n ms. both_pass (in_block n h.label ms) (in_block n h.label ms) (in_block n h.label ms) (tokens_of h.first)
    (tokens_of_blocks h.label h.others) (pieces_pass h.first (new_mark n h.label None ∷ ms))
    (blocks_pass h.others n h.label ms))
    s (subst (λ i. (marks_fold (marked i m.behind_join m.now) (head Long h.label h.more ∷ h.behind)).now ≡ Some s)
    at_place r)
