-- The machine with marks goes where the machine with trees goes.
use Rattle.std.proofs.Common.{◌≡◌, ℕ, suc, ◌+◌, Bool, true, false, ◌==◌, ◌||◌, ◌&&◌, nat_lt, nat_le, if◌then◌else◌}
use Rattle.std.proofs.Common.{List, [], ◌∷◌, ◌++◌, length, Option, Some, None, refl, sym, ap, subst, ◌∙◌, length-append}
use Rattle.std.proofs.Common.{arith}
use Rattle.tx_tree.specs.declared.TheConstants.{MOST_NAME}
use Rattle.tx_tree.specs.Texts.{is_name_byte}
use Rattle.tx_tm_form.specs.declared.bytes.Escaped.{Escaped}
use Rattle.tx_tm_form.specs.declared.places.TagForm.{TagForm}
use Rattle.tx_tm_form.specs.declared.places.TagForm.TheVariants.{Short, Long, Middle, Closing}
use Rattle.tx_tm_form.specs.declared.places.TagPlace.{TagPlace}
use Rattle.tx_tm_form.specs.declared.places.TagPlace.TheVariants.{InShort, InHeader, InClosing}
use Rattle.tx_tm_form.specs.declared.marks.TagMark.{TagMark}
use Rattle.tx_tm_form.specs.declared.marks.Inside.{Inside}
use Rattle.tx_tm_form.specs.declared.marks.Inside.TheVariants.{Parts, Symbol, Digits}
use Rattle.tx_tm_form.specs.Bytes.{kind_of, escape_of, is_digit}
use Rattle.tx_tm_form.specs.Tokens.{Token, white, join, plain, escape, raw, head, bar, close, written, is_dropped}
use Rattle.tx_tm_form.specs.Parts.{ContentPart, same_bytes}
use Rattle.tx_tm_form.specs.Growing.{Content, put_part, place_of, tree_as_block, long_of}
use Rattle.tx_tm_form.specs.Machine.{Open, State, reading, naming, counting, failed, go, open_with_child, in_tag}
use Rattle.tx_tm_form.specs.Machine.{next_argument, last_argument, next_block, last_block, header_place, begun}
use Rattle.tx_tm_form.specs.Machine.{by_escape, name_byte, name_end, feed_reading, feed_naming, feed_counting, feed}
use Rattle.tx_tm_form.specs.Machine.{Lex, ready, slashed, returned, angled, labelled, Lexed, within, done, bad, lex}
use Rattle.tx_tm_form.specs.Machine.{Bytewise, at, lost, after_lexed, step, run, Keeping, keep, start}
use Rattle.tx_tm_form.specs.Fronts.{begins, begins_open, can_begin, can_go_on, goes_on}
use Rattle.tx_tm_form.specs.Marks.{Standing, with_inner, if_marked, mark_bar, mark_close, mark_next, mark_last}
use Rattle.tx_tm_form.specs.Marks.{bar_marks, close_marks, next_marks, last_marks, begun_marks, escape_marks}
use Rattle.tx_tm_form.specs.Marks.{part_marks, name_marks, symbol_marks, digit_marks, feed_marks, feed_standing, Marked}
use Rattle.tx_tm_form.specs.Marks.{keep_marks, start_marks, begins_mark, begins_marks, form_goes_on, lex_goes_on}
use Rattle.tx_tm_form.specs.Marks.{standing_goes_on, marks_go_on}
use Rattle.tx_tm_form.proofs.Growth.{place_is, no_place}
use Rattle.tx_tm_form.proofs.Sound.{place_there}
use Rattle.tx_tm_form.proofs.Stops.{keeping, cannot_fail_on}

-- the marks of these open tags
abbrev pub AreMarks : Content → List Open → List TagMark → Type 0
AreMarks here [] [] = Unit {0}
AreMarks here [] (m ∷ ms) = ⊥
AreMarks here (f ∷ fs) [] = ⊥
AreMarks here (f ∷ fs) (m ∷ ms) = (m.inner ≡ place_of here) × (m.label ≡ f.label) × AreMarks f.before fs ms

abbrev pub IsStanding : State → Inside → List TagMark → Type 0
IsStanding (reading here fs) Parts ms = AreMarks here fs ms
IsStanding (naming n here fs) (Symbol j) ms = (j ≡ length n) × AreMarks here fs ms
IsStanding (counting ds here fs) Digits ms = AreMarks here fs ms
IsStanding _ _ ms = ⊥

abbrev pub IsMarked : State → Option Standing → Type 0
IsMarked s None = s ≡ failed
IsMarked s (Some z) = IsStanding s z.inside z.marks

put_marks : (fs : List Open) (here : Content) (p : ContentPart) (ms : List TagMark) → AreMarks here fs ms
    → AreMarks (put_part here p) fs ms
put_marks [] here p [] h = tt
put_marks [] here p (m ∷ ms) h = absurd h
put_marks (f ∷ fs) here p [] h = absurd h
put_marks (f ∷ fs) here p (m ∷ ms) h = (h.0 ∙ sym (place_is (p ∷ []) here), h.1, h.2)

if_same : (c : Bool) (s : State) (inside : Inside) (ms : List TagMark) → (c ≡ true → IsStanding s inside ms)
    → IsMarked (go c s) (if_marked c inside ms)
if_same true s inside ms h = h refl
if_same false s inside ms h = refl

-- in an argument or a block of the tag
in_marks : (p : Option TagPlace) (m : TagMark) (f : Open) (fs : List Open) (ms : List TagMark) → m.label ≡ f.label
    → AreMarks f.before fs ms → IsStanding (in_tag p f fs) Parts (with_inner p m ∷ ms)
in_marks p m f fs ms e h = (sym (place_there p f.label f.children), e, h)

-- ---- one token, between parts

next_nowhere : (w : Option TagPlace) (l : List ℕ) (p : Option TagPlace) (here : Content)
    → next_block w l p here [] ≡ failed
next_nowhere None l p here = refl
next_nowhere (Some w) l p here = refl

last_nowhere : (w : Option TagPlace) (l : List ℕ) (here : Content) → last_block w l here [] ≡ failed
last_nowhere None l here = refl
last_nowhere (Some w) l here = refl

bar_nowhere : (w : Option TagPlace) (here : Content) → next_argument w here [] ≡ failed
bar_nowhere None here = refl
bar_nowhere (Some w) here = refl

close_nowhere : (w : Option TagPlace) (here : Content) → last_argument w here [] ≡ failed
close_nowhere None here = refl
close_nowhere (Some InShort) here = refl
close_nowhere (Some InHeader) here = refl
close_nowhere (Some InClosing) here = refl

next_there : (w : Option TagPlace) (l : List ℕ) (p : Option TagPlace) (here : Content) (f : Open) (fs : List Open)
    (m : TagMark) (ms : List TagMark) → m.label ≡ f.label → AreMarks f.before fs ms
    → IsMarked (next_block w l p here (f ∷ fs)) (mark_next w l p m ms)
next_there (Some w) l p here f fs m ms e h = refl
next_there None l p here f fs m ms e h =
    let s : State = in_tag p (open_with_child f (tree_as_block here)) fs in
    subst (λ z. IsMarked (go (same_bytes l z) s) (if_marked (same_bytes l m.label) Parts (with_inner p m ∷ ms))) e
    (if_same (same_bytes l m.label) s Parts (with_inner p m ∷ ms)
    (λ k. in_marks p m (open_with_child f (tree_as_block here)) fs ms e h))

next_same : (l : List ℕ) (p : Option TagPlace) (here : Content) (fs : List Open) (ms : List TagMark)
    → AreMarks here fs ms → IsMarked (next_block (place_of here) l p here fs) (next_marks l p ms)
next_same l p here [] [] h = next_nowhere (place_of here) l p here
next_same l p here [] (m ∷ ms) h = absurd h
next_same l p here (f ∷ fs) [] h = absurd h
next_same l p here (f ∷ fs) (m ∷ ms) h =
    subst (λ w. IsMarked (next_block w l p here (f ∷ fs)) (mark_next m.inner l p m ms)) h.0
    (next_there m.inner l p here f fs m ms h.1 h.2)

last_there : (w : Option TagPlace) (l : List ℕ) (here : Content) (f : Open) (fs : List Open) (m : TagMark)
    (ms : List TagMark) → m.label ≡ f.label → AreMarks f.before fs ms
    → IsMarked (last_block w l here (f ∷ fs)) (mark_last w l m ms)
last_there (Some w) l here f fs m ms e h = refl
last_there None l here f fs m ms e h =
    let x : ContentPart = long_of f.label f.children here in
    subst (λ z. IsMarked (go (same_bytes l z) (reading (put_part f.before x) fs))
    (if_marked (same_bytes l m.label) Parts ms)) e
    (if_same (same_bytes l m.label) (reading (put_part f.before x) fs) Parts ms (λ k. put_marks fs f.before x ms h))

last_same : (l : List ℕ) (here : Content) (fs : List Open) (ms : List TagMark) → AreMarks here fs ms
    → IsMarked (last_block (place_of here) l here fs) (last_marks l ms)
last_same l here [] [] h = last_nowhere (place_of here) l here
last_same l here [] (m ∷ ms) h = absurd h
last_same l here (f ∷ fs) [] h = absurd h
last_same l here (f ∷ fs) (m ∷ ms) h =
    subst (λ w. IsMarked (last_block w l here (f ∷ fs)) (mark_last m.inner l m ms)) h.0
    (last_there m.inner l here f fs m ms h.1 h.2)

bar_there : (w : Option TagPlace) (here : Content) (f : Open) (fs : List Open) (m : TagMark) (ms : List TagMark)
    → m.inner ≡ w → m.label ≡ f.label → AreMarks f.before fs ms
    → IsMarked (next_argument w here (f ∷ fs)) (mark_bar w (m ∷ ms))
bar_there None here f fs m ms i e h = refl
bar_there (Some p) here f fs m ms i e h = (i, e, h)

bar_same : (here : Content) (fs : List Open) (ms : List TagMark) → AreMarks here fs ms
    → IsMarked (next_argument (place_of here) here fs) (bar_marks ms)
bar_same here [] [] h = bar_nowhere (place_of here) here
bar_same here [] (m ∷ ms) h = absurd h
bar_same here (f ∷ fs) [] h = absurd h
bar_same here (f ∷ fs) (m ∷ ms) h =
    subst (λ w. IsMarked (next_argument w here (f ∷ fs)) (mark_bar m.inner (m ∷ ms))) h.0
    (bar_there m.inner here f fs m ms refl h.1 h.2)

close_there : (w : Option TagPlace) (here : Content) (f : Open) (fs : List Open) (m : TagMark) (ms : List TagMark)
    → m.label ≡ f.label → AreMarks f.before fs ms
    → IsMarked (last_argument w here (f ∷ fs)) (mark_close w m ms)
close_there None here f fs m ms e h = refl
close_there (Some InHeader) here f fs m ms e h = (sym (no_place f.label _), e, h)
close_there (Some InShort) here f fs m ms e h = put_marks fs f.before _ ms h
close_there (Some InClosing) here f fs m ms e h = put_marks fs f.before _ ms h

close_same : (here : Content) (fs : List Open) (ms : List TagMark) → AreMarks here fs ms
    → IsMarked (last_argument (place_of here) here fs) (close_marks ms)
close_same here [] [] h = close_nowhere (place_of here) here
close_same here [] (m ∷ ms) h = absurd h
close_same here (f ∷ fs) [] h = absurd h
close_same here (f ∷ fs) (m ∷ ms) h =
    subst (λ w. IsMarked (last_argument w here (f ∷ fs)) (mark_close m.inner m ms)) h.0
    (close_there m.inner here f fs m ms h.1 h.2)

begun_same : (form : TagForm) (more : Bool) (l : List ℕ) (n : ℕ) (here : Content) (fs : List Open) (ms : List TagMark)
    → AreMarks here fs ms → IsMarked (begun form more l here fs) (begun_marks n form more l ms)
begun_same Short true l n here fs ms h = (refl, refl, h)
begun_same Short false l n here fs ms h = put_marks fs here _ ms h
begun_same Long more l n here fs ms h = (sym (place_there (header_place more) l []), refl, h)
begun_same Middle more l n here fs ms h = next_same l (header_place more) here fs ms h
begun_same Closing true l n here fs ms h = next_same l (Some InClosing) here fs ms h
begun_same Closing false l n here fs ms h = last_same l here fs ms h

escape_same : (o : Option Escaped) (b : ℕ) (here : Content) (fs : List Open) (ms : List TagMark) → AreMarks here fs ms
    → IsMarked (by_escape o b here fs) (escape_marks o b ms)
escape_same (Some e) b here fs ms h = put_marks fs here _ ms h
escape_same None b here fs ms h = if_same (b == 60) (naming [] here fs) (Symbol 0) ms (λ k. (refl, h))

part_same : (t : Token) (n : ℕ) (here : Content) (fs : List Open) (ms : List TagMark) → AreMarks here fs ms
    → IsMarked (feed_reading here fs t) (part_marks n ms t)
part_same (white b) n here fs ms h = put_marks fs here _ ms h
part_same (join r) n here fs ms h = refl
part_same (plain b) n here fs ms h = put_marks fs here _ ms h
part_same (escape b) n here fs ms h = escape_same (escape_of b) b here fs ms h
part_same raw n here fs ms h = h
part_same (head form l more) n here fs ms h = begun_same form more l n here fs ms h
part_same bar n here fs ms h = bar_same here fs ms h
part_same close n here fs ms h = close_same here fs ms h

-- ---- one token, in a symbol or raw data

name_same : (good : Bool) (n : List ℕ) (b : ℕ) (here : Content) (fs : List Open) (ms : List TagMark)
    → AreMarks here fs ms → IsMarked (name_byte good n b here fs) (name_marks good (length n) ms)
name_same good n b here fs ms h =
    if_same (good && nat_lt (length n) MOST_NAME) (naming (n ++ b ∷ []) here fs) (Symbol (suc (length n))) ms
    (λ k. (omega (arith, length-append n (b ∷ [])), h))

end_same : (n : List ℕ) (here : Content) (fs : List Open) (ms : List TagMark) → AreMarks here fs ms
    → IsMarked (name_end n here fs) (if_marked (nat_le 1 (length n)) Parts ms)
end_same n here fs ms h =
    if_same (nat_le 1 (length n)) (reading (put_part here _) fs) Parts ms (λ k. put_marks fs here _ ms h)

symbol_same : (t : Token) (n : List ℕ) (here : Content) (fs : List Open) (ms : List TagMark) → AreMarks here fs ms
    → IsMarked (feed_naming n here fs t) (symbol_marks (length n) ms t)
symbol_same (plain b) n here fs ms h = name_same (is_name_byte b) n b here fs ms h
symbol_same (escape b) n here fs ms h =
    elim (b == 62) as
    (λ z. IsMarked (if z then name_end n here fs else name_byte (b == 124 || b == 92) n b here fs)
    (if z then if_marked (nat_le 1 (length n)) Parts ms else name_marks (b == 124 || b == 92) (length n) ms)) [
      | true ↦ end_same n here fs ms h
      | false ↦ name_same (b == 124 || b == 92) n b here fs ms h
    ]
symbol_same _ n here fs ms h = refl

digit_same : (t : Token) (ds : List ℕ) (here : Content) (fs : List Open) (ms : List TagMark) → AreMarks here fs ms
    → IsMarked (feed_counting ds here fs t) (digit_marks ms t)
digit_same (plain b) ds here fs ms h = if_same (is_digit b) (counting (ds ++ b ∷ []) here fs) Digits ms (λ k. h)
digit_same close ds here fs ms h = put_marks fs here _ ms h
digit_same _ ds here fs ms h = refl

feed_same : (s : State) (inside : Inside) (t : Token) (n : ℕ) (ms : List TagMark) → IsStanding s inside ms
    → IsMarked (feed s t) (feed_marks n inside ms t)
unfolding feed
feed_same (reading here fs) Parts t n ms h = part_same t n here fs ms h
feed_same (naming x here fs) (Symbol j) t n ms h =
    subst (λ i. IsMarked (feed_naming x here fs t) (symbol_marks i ms t)) (sym h.0) (symbol_same t x here fs ms h.1)
feed_same (counting ds here fs) Digits t n ms h = digit_same t ds here fs ms h
feed_same (reading here fs) (Symbol j) t n ms h = absurd h
feed_same (reading here fs) Digits t n ms h = absurd h
feed_same (naming x here fs) Parts t n ms h = absurd h
feed_same (naming x here fs) Digits t n ms h = absurd h
feed_same (counting ds here fs) Parts t n ms h = absurd h
feed_same (counting ds here fs) (Symbol j) t n ms h = absurd h
feed_same failed Parts t n ms h = absurd h
feed_same failed (Symbol j) t n ms h = absurd h
feed_same failed Digits t n ms h = absurd h

standing_same : (o : Option Standing) (s : State) (t : Token) (n : ℕ) → IsMarked s o
    → IsMarked (feed s t) (feed_standing n o t)
unfolding feed
standing_same None s t n h = ap (λ z. feed z t) h
standing_same (Some z) s t n h = feed_same s z.inside t n z.marks h

-- ---- bytes

abbrev pub IsKept : Keeping → Marked → Type 0
IsKept k m = (k.behind_join ≡ m.behind_join) × IsMarked k.state m.now

keep_same : (k : Keeping) (m : Marked) (t : Token) → IsKept k m → IsKept (keep k t) (keep_marks m t)
keep_same k m t h =
    subst (λ j. IsKept (keep k t) (keep_marks (record { taken = m.taken; behind_join = j; now = m.now }) t)) h.0
    (elim (is_dropped k.behind_join t)
    as (λ z. IsKept (if z then keeping true k.state else keeping false (feed k.state t))
    (if z then record { taken = m.taken + length (written t); behind_join = true; now = m.now }
    else record { taken = m.taken + length (written t); behind_join = false; now = feed_standing m.taken m.now t })) [
      | true ↦ (refl, h.1)
      | false ↦ (refl, standing_same m.now k.state t m.taken h.1)
    ])

abbrev pub IsSame : Bytewise Keeping → Bytewise Marked → Type 0
IsSame (at q k) (at r m) = (q ≡ r) × IsKept k m
IsSame lost lost = Unit {0}
IsSame (at q k) lost = ⊥
IsSame lost (at r m) = ⊥

given_same : (r : Lexed) (k : Keeping) (m : Marked) → IsKept k m
    → IsSame (after_lexed keep k r) (after_lexed keep_marks m r)
given_same (within q) k m h = (refl, h)
given_same (done t) k m h = (refl, keep_same k m t h)
given_same bad k m h = tt

step_same : (w : Bytewise Keeping) (v : Bytewise Marked) (b : ℕ) → IsSame w v
    → IsSame (step keep w b) (step keep_marks v b)
step_same (at q k) (at r m) b h =
    subst (λ z. IsSame (after_lexed keep k (lex q (kind_of b) b)) (after_lexed keep_marks m (lex z (kind_of b) b))) h.0
    (given_same (lex q (kind_of b) b) k m h.1)
step_same lost lost b h = tt
step_same (at q k) lost b h = absurd h
step_same lost (at r m) b h = absurd h

pub run_same : (x : List ℕ) (w : Bytewise Keeping) (v : Bytewise Marked) → IsSame w v
    → IsSame (run keep w x) (run keep_marks v x)
run_same [] w v h = h
run_same (b ∷ x) w v h = run_same x (step keep w b) (step keep_marks v b) (step_same w v b h)

pub marks_same : (x : List ℕ) → IsSame (run keep start x) (run keep_marks start_marks x)
marks_same x = run_same x start start_marks (refl, (refl, tt))

-- ---- where they go on

begins_there : (w : Option TagPlace) (l : List ℕ) (f : Open) (fs : List Open) (m : TagMark) → m.label ≡ f.label
    → begins_open w l (f ∷ fs) ≡ begins_mark w l m
begins_there None l f fs m e = ap (begins l) (sym e)
begins_there (Some p) l f fs m e = refl

begins_nowhere : (w : Option TagPlace) (l : List ℕ) → begins_open w l [] ≡ false
begins_nowhere None l = refl
begins_nowhere (Some p) l = refl

begins_same : (l : List ℕ) (here : Content) (fs : List Open) (ms : List TagMark) → AreMarks here fs ms
    → begins_open (place_of here) l fs ≡ begins_marks l ms
begins_same l here [] [] h = begins_nowhere (place_of here) l
begins_same l here [] (m ∷ ms) h = absurd h
begins_same l here (f ∷ fs) [] h = absurd h
begins_same l here (f ∷ fs) (m ∷ ms) h =
    ap (λ w. begins_open w l (f ∷ fs)) (sym h.0) ∙ begins_there m.inner l f fs m h.1

form_same : (form : TagForm) (l : List ℕ) (here : Content) (fs : List Open) (ms : List TagMark) → AreMarks here fs ms
    → can_begin form l here fs ≡ form_goes_on form l ms
form_same Short l here fs ms h = refl
form_same Long l here fs ms h = refl
form_same Middle l here fs ms h = begins_same l here fs ms h
form_same Closing l here fs ms h = begins_same l here fs ms h

and_true : (b : Bool) → (true && b) ≡ b
and_true true = refl
and_true false = refl

lex_same : (q : Lex) (s : State) (inside : Inside) (ms : List TagMark) → IsStanding s inside ms
    → can_go_on q s ≡ lex_goes_on q inside ms
lex_same ready (reading here fs) Parts ms h = refl
lex_same slashed (reading here fs) Parts ms h = refl
lex_same returned (reading here fs) Parts ms h = refl
lex_same angled (reading here fs) Parts ms h = refl
lex_same (labelled form l) (reading here fs) Parts ms h =
    form_same form l here fs ms h ∙ sym (and_true (form_goes_on form l ms))
lex_same ready (naming x here fs) (Symbol j) ms h = refl
lex_same slashed (naming x here fs) (Symbol j) ms h = refl
lex_same returned (naming x here fs) (Symbol j) ms h = refl
lex_same angled (naming x here fs) (Symbol j) ms h = refl
lex_same (labelled form l) (naming x here fs) (Symbol j) ms h = refl
lex_same ready (counting ds here fs) Digits ms h = refl
lex_same slashed (counting ds here fs) Digits ms h = refl
lex_same returned (counting ds here fs) Digits ms h = refl
lex_same angled (counting ds here fs) Digits ms h = refl
lex_same (labelled form l) (counting ds here fs) Digits ms h = refl
lex_same q (reading here fs) (Symbol j) ms h = absurd h
lex_same q (reading here fs) Digits ms h = absurd h
lex_same q (naming x here fs) Parts ms h = absurd h
lex_same q (naming x here fs) Digits ms h = absurd h
lex_same q (counting ds here fs) Parts ms h = absurd h
lex_same q (counting ds here fs) (Symbol j) ms h = absurd h
lex_same q failed Parts ms h = absurd h
lex_same q failed (Symbol j) ms h = absurd h
lex_same q failed Digits ms h = absurd h

on_same : (q : Lex) (s : State) (o : Option Standing) → IsMarked s o → can_go_on q s ≡ standing_goes_on q o
on_same q s None h = ap (can_go_on q) h ∙ cannot_fail_on q
on_same q s (Some z) h = lex_same q s z.inside z.marks h

pub go_on_same : (w : Bytewise Keeping) (v : Bytewise Marked) → IsSame w v → goes_on w ≡ marks_go_on v
go_on_same (at q k) (at r m) h = on_same q k.state m.now h.1.1 ∙ ap (λ z. standing_goes_on z m.now) h.0
go_on_same lost lost h = refl
go_on_same (at q k) lost h = absurd h
go_on_same lost (at r m) h = absurd h
