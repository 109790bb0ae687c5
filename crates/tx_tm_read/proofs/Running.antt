-- The reader over bytes.
use Rattle.std.proofs.Common.{◌≡◌, ℕ, ◌+◌, ◌-◌, ◌<◌, ◌≤◌, Bool, true, false, List, [], ◌∷◌, ◌++◌, length, take, drop}
use Rattle.std.proofs.Common.{get_or, Option, Some, None, Result, Ok, Err, IfOk, zero, suc, refl, sym, ap, subst, ◌∙◌}
use Rattle.std.proofs.Common.{append_assoc, append-nil, length-drop, arith}
use Rattle.std.proofs.lemmas.List.{take-append-drop, take_more, take_all}
use Rattle.tx_tree.specs.Texts.{IsText}
use Rattle.tx_tree.specs.WideTree.{WideTree}
use Rattle.tx_tm_form.specs.declared.places.Stage.{Stage}
use Rattle.tx_tm_form.specs.declared.places.Stage.TheVariants.{Empty, Alone, Ordinary}
use Rattle.tx_tree.specs.Labels.{is_label_byte}
use Rattle.tx_tm_form.specs.declared.bytes.White.{White}
use Rattle.tx_tm_form.specs.declared.bytes.White.TheVariants.{Spaces}
use Rattle.tx_tm_form.specs.Bytes.{kind_of, is_plain, is_white, white_of, joint_run}
use Rattle.tx_tm_form.specs.declared.places.TagForm.TheVariants.{Short}
use Rattle.tx_tm_form.specs.Tokens.{head, label_end, written}
use Rattle.tx_tm_form.specs.Parts.{gap, text}
use Rattle.tx_tm_form.specs.Growing.{Inline, no_parts, grow, longer, ended, resumed, Block, with_white, with_part}
use Rattle.tx_tm_form.specs.Growing.{widen, as_block, Content}
use Rattle.tx_tm_form.specs.Growing.{inline, blocks, collecting, put_part}
use Rattle.tx_tm_form.specs.Machine.{Open, reading, feed, ready, Bytewise, at, after_lexed, step}
use Rattle.tx_tm_form.specs.Machine.{run, Keeping, keep, begun}
use Rattle.tx_tm_form.specs.Machine.{tree_in, start, reads}
use Rattle.tx_tm_form.proofs.Formed.{text_text, one_byte_text}
use Rattle.tx_tm_form.proofs.Growth.{joint_run_assoc}
use Rattle.tx_tm_form.proofs.Words.{lexed_white, lexed_plain, token_run}
use Rattle.tx_tm_form.proofs.Stops.{run_append}
use Rattle.tx_tm_content.specs.Blocks.{block_at}
use Rattle.tx_tm_read.specs.Fits.{StateFits, ReaderFits}
use Rattle.tx_tm_words.specs.Runs.{AreWords, one_byte, byte_more, space_and_byte, IsWhiteRun, no_white, white_more}
use Rattle.tx_tm_read.specs.Heads.{StandsInFront}
use Rattle.tx_tm_read.specs.declared.heads.Head.{Head}
use Rattle.tx_tm_read.specs.Readers.{reader_between_words, byte_machine, IsAdvance, IsTree, IsTreeRead}
use Rattle.tx_tm_words.specs.Words.{lex_of}
use Rattle.tx_tm_read.specs.Spots.{state_of}
use Rattle.tx_tm_read.specs.declared.reader.Reader.{Reader}
use Rattle.tx_tm_read.specs.declared.tags.Spot.{Spot}
use Rattle.tx_base.specs.declared.out_of_memory.Memory.{Memory}
use Rattle.tx_tm_read.proofs.Growths.{plain_is_text}
use Rattle.tx_tm_read.proofs.Feeding.{reader_fits}

pub words_text : (x : List ℕ) → AreWords x → IsText x
words_text _ (one_byte b h) = plain_is_text b h
words_text _ (byte_more x b w h) = text_text x (b ∷ []) (words_text x w) (plain_is_text b h)
words_text _ (space_and_byte x b w h) =
    text_text x (32 ∷ b ∷ []) (words_text x w)
    (text_text (32 ∷ []) (b ∷ []) (one_byte_text 32 refl) (plain_is_text b h))

-- ---- two texts side by side are one

grow_both : (g : Inline) (x y : List ℕ) → grow (grow g (text x)) (text y) ≡ grow g (text (x ++ y))
grow_both g x y = ap (λ s. record { done = g.done; bytes = s; in_run = false }) (append_assoc g.bytes x y)

widen_both : (s : Stage) (b : Block) (x y : List ℕ)
    → widen (with_part s b (text x)) (text y) ≡ with_part s b (text (x ++ y))
widen_both Empty b x y = ap (block_at Ordinary []) (grow_both no_parts x y)
widen_both Alone b x y = ap (block_at Ordinary (ended b.run b.full b.now)) (grow_both (resumed b.run b.now) x y)
widen_both Ordinary b x y = ap (block_at Ordinary (ended b.run b.full b.now)) (grow_both (resumed b.run b.now) x y)

put_both : (c : Content) (x y : List ℕ) → put_part (put_part c (text x)) (text y) ≡ put_part c (text (x ++ y))
put_both (inline p g) x y = ap (inline p) (grow_both g x y)
put_both (blocks b) x y = ap blocks (widen_both b.stage b x y)
put_both (collecting t) x y = ap blocks (widen_both (as_block t).stage (as_block t) x y)

grow_spaced : (g : Inline) (x : List ℕ) (b : ℕ)
    → grow (grow (grow g (text x)) (gap Spaces)) (text (b ∷ [])) ≡ grow g (text (x ++ 32 ∷ b ∷ []))
grow_spaced g x b =
    ap (λ s. record { done = g.done; bytes = s; in_run = false })
    (append_assoc (g.bytes ++ x) (32 ∷ []) (b ∷ []) ∙ append_assoc g.bytes x (32 ∷ b ∷ []))

widen_spaced : (s : Stage) (b : Block) (x : List ℕ) (c : ℕ)
    → widen (widen (with_part s b (text x)) (gap Spaces)) (text (c ∷ [])) ≡ with_part s b (text (x ++ 32 ∷ c ∷ []))
widen_spaced Empty b x c = ap (block_at Ordinary []) (grow_spaced no_parts x c)
widen_spaced Alone b x c = ap (block_at Ordinary (ended b.run b.full b.now)) (grow_spaced (resumed b.run b.now) x c)
widen_spaced Ordinary b x c = ap (block_at Ordinary (ended b.run b.full b.now)) (grow_spaced (resumed b.run b.now) x c)

put_spaced : (c : Content) (x : List ℕ) (b : ℕ)
    → put_part (put_part (put_part c (text x)) (gap Spaces)) (text (b ∷ [])) ≡ put_part c (text (x ++ 32 ∷ b ∷ []))
put_spaced (inline p g) x b = ap (inline p) (grow_spaced g x b)
put_spaced (blocks d) x b = ap blocks (widen_spaced d.stage d x b)
put_spaced (collecting t) x b = ap blocks (widen_spaced (as_block t).stage (as_block t) x b)

-- ---- two runs of white side by side are one

longer_both : (r : Option White) (v w : White) → longer (Some (longer r v)) w ≡ longer r (joint_run v w)
longer_both None v w = refl
longer_both (Some u) v w = joint_run_assoc u v w

gaps_widen : (s : Stage) (b : Block) (v w : White) → b.stage ≡ s
    → widen (with_white s b v) (gap w) ≡ with_white s b (joint_run v w)
gaps_widen Empty b v w e = ap (λ s. with_white s b w) e
gaps_widen Alone b v w e =
    ap (λ s. with_white s (record { full = b.full; now = b.now; run = Some (longer b.run v); stage = b.stage }) w) e
    ∙ ap (λ r. record { full = b.full; now = b.now; run = Some r; stage = b.stage }) (longer_both b.run v w)
gaps_widen Ordinary b v w e =
    ap (λ s. with_white s (record { full = b.full; now = b.now; run = Some (longer b.run v); stage = b.stage }) w) e
    ∙ ap (λ r. record { full = b.full; now = b.now; run = Some r; stage = b.stage }) (longer_both b.run v w)

put_gaps : (c : Content) (v w : White) → put_part (put_part c (gap v)) (gap w) ≡ put_part c (gap (joint_run v w))
put_gaps (inline p g) v w = refl
put_gaps (blocks b) v w = ap blocks (gaps_widen b.stage b v w refl)
put_gaps (collecting t) v w =
    ap (λ r. collecting (record { entries = t.entries; run = Some r })) (longer_both t.run v w)

-- ---- words, and runs of white

plain_step : (b : ℕ) (j : Bool) (c : Content) (fs : List Open) → is_plain (kind_of b) ≡ true
    → step keep (reader_between_words j c fs) b ≡ reader_between_words false (put_part c (text (b ∷ []))) fs
unfolding feed
plain_step b j c fs h = ap (after_lexed keep (record { behind_join = j; state = reading c fs }))
    (lexed_plain (kind_of b) b h)

white_step : (b : ℕ) (c : Content) (fs : List Open) → is_white (kind_of b) ≡ true
    → step keep (reader_between_words false c fs) b ≡ reader_between_words false (put_part c (gap (white_of b))) fs
unfolding feed
white_step b c fs h =
    ap (after_lexed keep (record { behind_join = false; state = reading c fs })) (lexed_white (kind_of b) b h)

space_kind : is_white (kind_of 32) ≡ true
unfolding kind_of is_label_byte
space_kind = refl

pub words_run : (x : List ℕ) (j : Bool) (c : Content) (fs : List Open) → AreWords x
    → run keep (reader_between_words j c fs) x ≡ reader_between_words false (put_part c (text x)) fs
words_run _ j c fs (one_byte b h) = plain_step b j c fs h
words_run _ j c fs (byte_more x b w h) =
    run_append x (b ∷ []) (reader_between_words j c fs) ∙ ap (λ z. run keep z (b ∷ [])) (words_run x j c fs w)
    ∙ plain_step b false (put_part c (text x)) fs h ∙ ap (λ d. reader_between_words false d fs) (put_both c x (b ∷ []))
words_run _ j c fs (space_and_byte x b w h) =
    run_append x (32 ∷ b ∷ []) (reader_between_words j c fs) ∙ ap (λ z. run keep z (32 ∷ b ∷ [])) (words_run x j c fs w)
    ∙ ap (λ z. run keep z (b ∷ [])) (white_step 32 (put_part c (text x)) fs space_kind)
    ∙ plain_step b false (put_part (put_part c (text x)) (gap Spaces)) fs h
    ∙ ap (λ d. reader_between_words false d fs) (put_spaced c x b)

white_run : (x : List ℕ) (v : White) (b : ℕ) (c : Content) (fs : List Open) → IsWhiteRun x v
    → is_white (kind_of b) ≡ true
    → run keep (reader_between_words false c fs) (x ++ b ∷ [])
    ≡ reader_between_words false (put_part c (gap (joint_run v (white_of b)))) fs
white_run _ _ b c fs no_white h = white_step b c fs h
white_run _ _ b c fs (white_more x v a w k) h =
    run_append (x ++ a ∷ []) (b ∷ []) (reader_between_words false c fs)
    ∙ ap (λ z. run keep z (b ∷ [])) (white_run x v a c fs w k)
    ∙ white_step b (put_part c (gap (joint_run v (white_of a)))) fs h
    ∙ ap (λ d. reader_between_words false d fs) (put_gaps c (joint_run v (white_of a)) (white_of b))

whites_run : (x : List ℕ) (v : White) (c : Content) (fs : List Open) → IsWhiteRun x v → 0 < length x
    → run keep (reader_between_words false c fs) x ≡ reader_between_words false (put_part c (gap v)) fs
whites_run _ _ c fs no_white n = absurd (omega arith)
whites_run _ _ c fs (white_more x v b w h) n = white_run x v b c fs w h

-- ---- the loop

pub run_on : (w v : Bytewise Keeping) (n : ℕ) (rest all : List ℕ) → run keep w rest ≡ run keep start all
    → v ≡ run keep w (take n rest) → run keep v (drop n rest) ≡ run keep start all
run_on w v n rest all h e = ap (λ z. run keep z (drop n rest)) e ∙ sym (run_append (take n rest) (drop n rest) w)
    ∙ ap (run keep w) (take-append-drop n rest) ∙ h

pub none_on : (w : Bytewise Keeping) (n : ℕ) (rest all : List ℕ) → run keep w rest ≡ run keep start all
    → (ReaderFits (run keep w (take n rest)) → ⊥) → IsTreeRead None all
unfolding reads
none_on w n rest all h e t i j =
    let whole : run keep (run keep w (take n rest)) (drop n rest) ≡ run keep start all =
    sym (run_append (take n rest) (drop n rest) w) ∙ ap (run keep w) (take-append-drop n rest) ∙ h in
    e (reader_fits (run keep w (take n rest)) (drop n rest) t (ap tree_in whole ∙ i) j)

pub read_over : (found : Option WideTree) (w : Bytewise Keeping) (all : List ℕ) → w ≡ run keep start all
    → IsTree found w → IsTreeRead found all
unfolding reads
read_over None w all e h = λ t i j. h t (ap tree_in e ∙ i) j
read_over (Some t) w all e h = sym (ap tree_in e) ∙ h

-- ---- the results of one advance

pub words_none : (j : Bool) (c : Content) (fs : List Open) (n : ℕ) (rest : List ℕ) → AreWords (take n rest)
    → (StateFits (reading (put_part c (text (take n rest))) fs) → ⊥) → IsAdvance None (reader_between_words j c fs) rest
words_none j c fs n rest w o = (n, λ f. o (subst ReaderFits (words_run (take n rest) j c fs w) f))

pub words_some : (j : Bool) (c : Content) (fs : List Open) (n : ℕ) (rest : List ℕ) (s : Spot) → 0 < n
    → n ≤ length rest → AreWords (take n rest) → state_of s ≡ reading (put_part c (text (take n rest))) fs
    → (0 < n) × (n ≤ length rest)
    × ((let w : Bytewise Keeping = at ready (record { behind_join = false; state = state_of s }) in w) ≡ run keep
    (reader_between_words j c fs) (take n rest))
words_some j c fs n rest s h k w o =
    (h, k, ap (λ z. at ready (record { behind_join = false; state = z })) o ∙ sym (words_run (take n rest) j c fs w))

some_taken : (n : ℕ) (x : List ℕ) → 0 < n → n ≤ length x → 0 < length (take n x)
some_taken n [] h k = absurd (omega arith)
some_taken zero (b ∷ x) h k = absurd (omega arith)
some_taken (suc n) (b ∷ x) h k = omega arith

pub white_none : (c : Content) (fs : List Open) (n : ℕ) (rest : List ℕ) (v : White) → 0 < n → n ≤ length rest
    → IsWhiteRun (take n rest) v
    → (StateFits (reading (put_part c (gap v)) fs) → ⊥) → IsAdvance None (reader_between_words false c fs) rest
white_none c fs n rest v h k w o =
    (n, λ f. o (subst ReaderFits (whites_run (take n rest) v c fs w (some_taken n rest h k)) f))

pub white_some : (c : Content) (fs : List Open) (n : ℕ) (rest : List ℕ) (v : White) (s : Spot) → 0 < n
    → n ≤ length rest → IsWhiteRun (take n rest) v → state_of s ≡ reading (put_part c (gap v)) fs
    → (0 < n) × (n ≤ length rest)
    × ((let w : Bytewise Keeping = at ready (record { behind_join = false; state = state_of s }) in w) ≡ run keep
    (reader_between_words false c fs) (take n rest))
white_some c fs n rest v s h k w o = (
  h,
  k,
  ap (λ z. at ready (record { behind_join = false; state = z })) o
      ∙ sym (whites_run (take n rest) v c fs w (some_taken n rest h k)),
)

-- ---- the beginning of a short tag

pub head_run : (j : Bool) (c : Content) (fs : List Open) (h : Head) (rest : List ℕ) → StandsInFront rest h
    → run keep (reader_between_words j c fs) (take h.taken rest)
    ≡ at ready (record { behind_join = false; state = begun Short h.more h.label c fs })
unfolding feed
head_run j c fs h rest f =
    ap (run keep (reader_between_words j c fs)) (f.there ∙ sym (append-nil (written (head Short h.label h.more))))
    ∙ token_run Keeping keep (head Short h.label h.more) (record { behind_join = j; state = reading c fs }) [] f.label

pub head_none : (j : Bool) (c : Content) (fs : List Open) (h : Head) (rest : List ℕ) → StandsInFront rest h
    → (StateFits (begun Short h.more h.label c fs) → ⊥) → IsAdvance None (reader_between_words j c fs) rest
head_none j c fs h rest f o = (h.taken, λ i. o (subst ReaderFits (head_run j c fs h rest f) i))

pub head_some : (j : Bool) (c : Content) (fs : List Open) (h : Head) (rest : List ℕ) (s : Spot) → StandsInFront rest h
    → state_of s ≡ begun Short h.more h.label c fs
    → (0 < h.taken) × (h.taken ≤ length rest)
    × ((let w : Bytewise Keeping = at ready (record { behind_join = false; state = state_of s }) in w) ≡ run keep
    (reader_between_words j c fs) (take h.taken rest))
head_some j c fs h rest s f o = (
  f.some,
  f.within,
  ap (λ z. at ready (record { behind_join = false; state = z })) o ∙ sym (head_run j c fs h rest f),
)

pub head_there : (x : List ℕ) (end : ℕ) (more : Bool) (l : List ℕ) → 1 ≤ end → end < length x → get_or x 0 0 ≡ 60
    → get_or x end 0 ≡ label_end more → l ≡ take (end - 1) (drop 1 x) → take (end + 1) x ≡ written (head Short l more)
head_there [] end more l h k f s i = absurd (omega arith)
head_there (b ∷ x) zero more l h k f s i = absurd (omega arith)
head_there (b ∷ x) (suc e) more l h k f s i =
    let n : suc e - 1 ≡ e = omega arith in
    take_more (b ∷ x) (suc e) 0 k ∙ ap (λ z. (b ∷ take e x) ++ z ∷ []) s
    ∙ ap (λ z. z ∷ (take e x ++ label_end more ∷ [])) f
    ∙ ap (λ z. 60 ∷ (z ++ label_end more ∷ [])) (sym (i ∙ ap (λ k. take k x) n))

-- the reader between two words
pub reader_between : (r : Reader) (c : Content) (fs : List Open) → lex_of r.lexer ≡ ready
    → state_of r.spot ≡ reading c fs → reader_between_words r.behind_join c fs ≡ byte_machine r
reader_between r c fs e i =
    sym (ap (λ q. at q (record { behind_join = r.behind_join; state = state_of r.spot })) e
    ∙ ap (λ s. at ready (record { behind_join = r.behind_join; state = s })) i)

pub nothing_left : (x : List ℕ) → length x ≡ 0 → x ≡ []
nothing_left [] h = refl
nothing_left (b ∷ x) h = absurd (omega arith)

pub over : (r : Result (Option WideTree) Memory) (w : Bytewise Keeping) (rest all : List ℕ)
    → run keep w rest ≡ run keep start all → rest ≡ [] → IfOk r (λ found. IsTree found w)
    → IfOk r (λ found. IsTreeRead found all)
over (Ok found) w rest all h e i = read_over found w all (ap (run keep w) (sym e) ∙ h) i
over (Err y) w rest all h e i = tt

-- the rest as the code takes it
pub rest_is : (n : ℕ) (x : List ℕ) → take (length x - n) (drop n x) ≡ drop n x
rest_is n x = take_all (length x - n) (drop n x) (omega (arith, length-drop n x))
