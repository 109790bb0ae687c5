-- Short tags whose arguments are words alone.
use Rattle.std.proofs.Common.{◌≡◌, ℕ, ◌+◌, ◌-◌, ◌<◌, ◌≤◌, Bool, true, false, List, [], ◌∷◌, ◌++◌, length, take, drop}
use Rattle.std.proofs.Common.{get_or, Some, None, refl, sym, ap, subst, ◌∙◌, append_assoc}
use Rattle.std.proofs.Common.{length-append, length-drop, take-add, arith}
use Rattle.std.proofs.lemmas.List.{take_more}
use Rattle.tx_tree.specs.WideTree.{WideTree, leaf}
use Rattle.tx_tm_form.specs.declared.places.TagPlace.TheVariants.{InShort}
use Rattle.tx_tm_form.specs.Tokens.{bar, close}
use Rattle.tx_tm_form.specs.Parts.{text}
use Rattle.tx_tm_form.specs.Growing.{Content, inline, no_parts, grow, grown}
use Rattle.tx_tm_form.specs.Machine.{Open, State, ready, feed, Bytewise, at, Keeping, keep, run, open_tag, in_tag}
use Rattle.tx_tm_form.specs.Machine.{with_node, begun, reading}
use Rattle.tx_tm_form.specs.declared.places.TagForm.TheVariants.{Short}
use Rattle.tx_tm_form.proofs.Words.{token_run}
use Rattle.tx_tm_form.proofs.Stops.{run_append}
use Rattle.tx_tm_read.specs.declared.heads.Head.{Head}
use Rattle.tx_tm_read.specs.declared.tags.Spot.{Spot}
use Rattle.tx_tm_read.specs.Fits.{StateFits, ReaderFits}
use Rattle.tx_tm_read.specs.Heads.{StandsInFront}
use Rattle.tx_tm_read.specs.PlainTags.{AreArguments, no_argument, argument_more, HasArguments}
use Rattle.tx_tm_read.specs.Readers.{reader_between_words, IsAdvance}
use Rattle.tx_tm_words.specs.Runs.{AreWords, one_byte, byte_more, space_and_byte}
use Rattle.tx_tm_read.specs.Spots.{state_of}
use Rattle.tx_tm_read.proofs.Running.{words_run, head_run, rest_is}

-- ---- an argument and the byte after it

pub argument_there : (x : List ℕ) (i count b : ℕ) → i + count < length x → get_or x (i + count) 0 ≡ b
    → take (i + count + 1) x ≡ take i x ++ (take count (drop i x) ++ b ∷ [])
argument_there x i count b lt is =
    take_more x (i + count) 0 lt ∙ ap (λ z. take (i + count) x ++ z ∷ []) is
    ∙ ap (λ z. z ++ b ∷ []) (take-add i count x) ∙ append_assoc (take i x) (take count (drop i x)) (b ∷ [])

some_words : (y : List ℕ) → AreWords y → 0 < length y
some_words _ (one_byte b h) = omega arith
some_words _ (byte_more x b w h) = omega (arith, length-append x (b ∷ []))
some_words _ (space_and_byte x b w h) = omega (arith, length-append x (32 ∷ b ∷ []))

grown_bytes : (y : List ℕ) → 0 < length y → grown (grow no_parts (text y)) ≡ leaf y
grown_bytes [] h = absurd (omega (arith, h))
grown_bytes (b ∷ y) h = refl

-- ---- the machine over them: in a short tag with these children

abbrev kept : State → Bytewise Keeping
kept s = at ready (record { behind_join = false; state = s })

module _ (c : Content) (label : List ℕ) (fs : List Open) where
  abbrev opened : List WideTree → State
  opened ts = in_tag (Some InShort) (open_tag c label ts) fs

  module _ (ts : List WideTree) (y : List ℕ) (w : AreWords y) where
    abbrev read : Bytewise Keeping
    read = reader_between_words false (inline InShort (grow no_parts (text y))) (open_tag c label ts ∷ fs)

    words_read : run keep (kept (opened ts)) y ≡ read
    words_read = words_run y false (inline InShort no_parts) (open_tag c label ts ∷ fs) w

    behind_bar : run keep (kept (opened ts)) (y ++ 124 ∷ []) ≡ kept (opened (ts ++ leaf y ∷ []))
    unfolding feed
    behind_bar =
        run_append y (124 ∷ []) (kept (opened ts)) ∙ ap (λ z. run keep z (124 ∷ [])) words_read
        ∙ token_run Keeping keep bar
        (record {
          behind_join = false;
          state = reading (inline InShort (grow no_parts (text y))) (open_tag c label ts ∷ fs);
        })
        [] tt
        ∙ ap (λ t. kept (opened (ts ++ t ∷ []))) (grown_bytes y (some_words y w))

    behind_last : run keep (kept (opened ts)) (y ++ 62 ∷ []) ≡ kept (with_node label (ts ++ leaf y ∷ []) c fs)
    unfolding feed
    behind_last =
        run_append y (62 ∷ []) (kept (opened ts)) ∙ ap (λ z. run keep z (62 ∷ [])) words_read
        ∙ token_run Keeping keep close
        (record {
          behind_join = false;
          state = reading (inline InShort (grow no_parts (text y))) (open_tag c label ts ∷ fs);
        })
        [] tt
        ∙ ap (λ t. kept (with_node label (ts ++ t ∷ []) c fs)) (grown_bytes y (some_words y w))

  arguments_run : (x : List ℕ) (ts : List WideTree) → AreArguments x ts
      → run keep (kept (opened [])) x ≡ kept (opened ts)
  arguments_run _ _ no_argument = refl
  arguments_run _ _ (argument_more x y ts a w) =
      run_append x (y ++ 124 ∷ []) (kept (opened [])) ∙ ap (λ z. run keep z (y ++ 124 ∷ [])) (arguments_run x ts a)
      ∙ behind_bar ts y w

  all_run : (bytes : List ℕ) (ts : List WideTree) (n : ℕ) → HasArguments bytes ts n
      → run keep (kept (opened [])) (take n bytes) ≡ kept (with_node label ts c fs)
  all_run bytes ts n h =
      ap (run keep (kept (opened []))) h.there
      ∙ run_append h.others (h.last ++ 62 ∷ []) (kept (opened []))
      ∙ ap (λ z. run keep z (h.last ++ 62 ∷ [])) (arguments_run h.others h.before h.are)
      ∙ behind_last h.before h.last h.words
      ∙ ap (λ ts. kept (with_node label ts c fs)) (sym h.trees)

module _ (j : Bool) (c : Content) (fs : List Open) (h : Head) (rest : List ℕ) (ts : List WideTree) (n : ℕ)
    (front : StandsInFront rest h) (more : h.more ≡ true) (has : HasArguments (drop h.taken rest) ts n) where
  tag_run : run keep (reader_between_words j c fs) (take (h.taken + n) rest) ≡ kept (with_node h.label ts c fs)
  tag_run =
      ap (run keep (reader_between_words j c fs)) (take-add h.taken n rest)
      ∙ run_append (take h.taken rest) (take n (drop h.taken rest)) (reader_between_words j c fs)
      ∙ ap (λ z. run keep z (take n (drop h.taken rest))) (head_run j c fs h rest front)
      ∙ ap (λ m. run keep (kept (begun Short m h.label c fs)) (take n (drop h.taken rest))) more
      ∙ all_run c h.label fs (drop h.taken rest) ts n has

  pub tag_none : (StateFits (with_node h.label ts c fs) → ⊥) → IsAdvance None (reader_between_words j c fs) rest
  tag_none o = (h.taken + n, λ i. o (subst ReaderFits tag_run i))

  pub tag_some : (s : Spot) → state_of s ≡ with_node h.label ts c fs
      → (0 < h.taken + n) × (h.taken + n ≤ length rest)
      × ((let w : Bytewise Keeping = at ready (record { behind_join = false; state = state_of s }) in w) ≡ run keep
      (reader_between_words j c fs) (take (h.taken + n) rest))
  tag_some s o = (
    omega (arith, front.some),
    omega (arith, front.within, has.within, length-drop h.taken rest),
    ap (λ z. at ready (record { behind_join = false; state = z })) o ∙ sym tag_run,
  )

-- ---- the loop over arguments

-- the words as the code takes them
pub words_there : (x : List ℕ) (i count : ℕ) → AreWords (take count (take (length x - i) (drop i x)))
    → AreWords (take count (drop i x))
words_there x i count w = subst (λ z. AreWords (take count z)) (rest_is i x) w

pub word_there : (x : List ℕ) (i count : ℕ) → AreWords (take count (take (length x - i) (drop i x)))
    → AreWords (take (i + count - i) (drop i x))
word_there x i count w = subst (λ n. AreWords (take n (drop i x))) (omega arith) (words_there x i count w)

pub one_argument_more : (x : List ℕ) (i count end : ℕ) (ts us : List WideTree) → AreArguments (take i x) ts
    → AreWords (take count (take (length x - i) (drop i x))) → end ≡ i + count → end < length x
    → get_or x end 0 ≡ 124 → us ≡ ts ++ leaf (take (end - i) (drop i x)) ∷ [] → AreArguments (take (end + 1) x) us
one_argument_more x i count end ts us a w e lt is f =
    let n : end - i ≡ count = omega (arith, e) in
    rw (f, n, e, argument_there x i count 124 (omega (arith, e, lt)) (ap (λ k. get_or x k 0) (sym e) ∙ is))
    (argument_more (take i x) (take count (drop i x)) ts a (words_there x i count w))

pub all_arguments : (x : List ℕ) (i count end : ℕ) (ts us : List WideTree) → AreArguments (take i x) ts
    → AreWords (take count (take (length x - i) (drop i x))) → end ≡ i + count → end < length x
    → get_or x end 0 ≡ 62 → us ≡ ts ++ leaf (take (end - i) (drop i x)) ∷ [] → HasArguments x us (end + 1)
all_arguments x i count end ts us a w e lt is f =
    let n : end - i ≡ count = omega (arith, e) in
    record {
      some = omega arith;
      within = omega (arith, lt);
      others = take i x;
      last = take count (drop i x);
      before = ts;
      are = a;
      words = words_there x i count w;
      there = ap (λ k. take (k + 1) x) e
          ∙ argument_there x i count 62 (omega (arith, e, lt)) (ap (λ k. get_or x k 0) (sym e) ∙ is);
      trees = f ∙ ap (λ k. ts ++ leaf (take k (drop i x)) ∷ []) n;
    }
