-- Where the machine cannot go on, no bytes more make it read a tree.
use Rattle.std.proofs.Common.{◌≡◌, ℕ, Bool, true, false, ◌==◌, if◌then◌else◌, List, [], ◌∷◌, ◌++◌, Option, Some, None}
use Rattle.std.proofs.Common.{refl, sym, ap, ◌∙◌}
use Rattle.std.proofs.lemmas.Bool.{and_parts, and_from}
use Rattle.tx_tree.specs.WideTree.{WideTree}
use Rattle.tx_tm_form.specs.declared.bytes.ByteKind.{ByteKind}
use Rattle.tx_tm_form.specs.declared.bytes.ByteKind.TheVariants.{Name, Greater, Bar, Backslash, Hash, Slash}
use Rattle.tx_tm_form.specs.declared.places.TagForm.{TagForm}
use Rattle.tx_tm_form.specs.declared.places.TagForm.TheVariants.{Short, Long, Middle, Closing}
use Rattle.tx_tm_form.specs.declared.places.TagPlace.{TagPlace}
use Rattle.tx_tm_form.specs.declared.places.TagPlace.TheVariants.{InClosing}
use Rattle.tx_tm_form.specs.Bytes.{kind_of}
use Rattle.tx_tm_form.specs.Tokens.{Token, head, is_dropped}
use Rattle.tx_tm_form.specs.Parts.{same_bytes}
use Rattle.tx_tm_form.specs.Forms.{Spells}
use Rattle.tx_tm_form.specs.Growing.{Content, place_of, tree_as_block, long_of, put_part}
use Rattle.tx_tm_form.specs.Machine.{Open, State, reading, naming, counting, failed, go, open_with_child, in_tag}
use Rattle.tx_tm_form.specs.Machine.{next_block}
use Rattle.tx_tm_form.specs.Machine.{last_block, header_place, feed, Lex, ready, slashed, returned, angled, labelled}
use Rattle.tx_tm_form.specs.Machine.{Lexed, within, done, bad, if_good, lex_angled, lex_labelled, lex, Bytewise, at}
use Rattle.tx_tm_form.specs.Machine.{lost, after_lexed, step, run, Keeping, keep, start, state_tree, tree_in, reads}
use Rattle.tx_tm_form.specs.Fronts.{begins, begins_open, can_begin, can_go_on, goes_on}
use Rattle.tx_tm_form.proofs.Words.{spelled_is_read}

abbrev pub keeping : Bool → State → Keeping
keeping j s = record { behind_join = j; state = s }

-- ---- a state that failed

pub cannot_fail_on : (q : Lex) → can_go_on q failed ≡ false
cannot_fail_on ready = refl
cannot_fail_on slashed = refl
cannot_fail_on returned = refl
cannot_fail_on angled = refl
cannot_fail_on (labelled form l) = refl

keep_failed : (j : Bool) (t : Token) → (keep (keeping j failed) t).state ≡ failed
unfolding feed
keep_failed j t =
    elim (is_dropped j t) as
    (λ z. (let r : Keeping = if z then keeping true failed else keeping false (feed failed t) in r).state ≡ failed)
    [ true ↦ refl | false ↦ refl ]

failed_stops : (r : Lexed) (j : Bool) → goes_on (after_lexed keep (keeping j failed) r) ≡ false
failed_stops (within q) j = cannot_fail_on q
failed_stops (done t) j = ap (λ s. can_go_on ready s) (keep_failed j t)
failed_stops bad j = refl

-- ---- labels

begins_less : (l m : List ℕ) (b : ℕ) → begins (l ++ b ∷ []) m ≡ true → begins l m ≡ true
begins_less [] m b h = refl
begins_less (a ∷ l) [] b h = absurd cc
begins_less (a ∷ l) (c ∷ m) b h = let p = and_parts (a == c) (begins (l ++ b ∷ []) m) h in
    and_from _ _ p.0 (begins_less l m b p.1)

same_begins : (l m : List ℕ) → same_bytes l m ≡ true → begins l m ≡ true
same_begins [] m h = refl
same_begins (b ∷ l) [] h = absurd cc
same_begins (b ∷ l) (c ∷ m) h = let p = and_parts (b == c) (same_bytes l m) h in and_from _ _ p.0 (same_begins l m p.1)

by_contra : (a b : Bool) → (a ≡ true → b ≡ true) → b ≡ false → a ≡ false
by_contra true b h e = absurd (let k = h refl in cc)
by_contra false b h e = refl

open_less : (w : Option TagPlace) (l : List ℕ) (fs : List Open) (b : ℕ) → begins_open w (l ++ b ∷ []) fs ≡ true
    → begins_open w l fs ≡ true
open_less None l (f ∷ fs) b h = begins_less l f.label b h
open_less None l [] b h = absurd cc
open_less (Some p) l fs b h = absurd cc

begin_less : (form : TagForm) (l : List ℕ) (here : Content) (fs : List Open) (b : ℕ)
    → can_begin form (l ++ b ∷ []) here fs ≡ true → can_begin form l here fs ≡ true
begin_less Short l here fs b h = refl
begin_less Long l here fs b h = refl
begin_less Middle l here fs b h = open_less (place_of here) l fs b h
begin_less Closing l here fs b h = open_less (place_of here) l fs b h

go_false : (c : Bool) (s : State) → c ≡ false → go c s ≡ failed
go_false true s e = absurd cc
go_false false s e = refl

next_fails : (w : Option TagPlace) (l : List ℕ) (p : Option TagPlace) (here : Content) (fs : List Open)
    → begins_open w l fs ≡ false → next_block w l p here fs ≡ failed
next_fails (Some w) l p here fs e = refl
next_fails None l p here [] e = refl
next_fails None l p here (f ∷ fs) e =
    go_false (same_bytes l f.label) (in_tag p (open_with_child f (tree_as_block here)) fs)
    (by_contra (same_bytes l f.label) (begins l f.label) (same_begins l f.label) e)

last_fails : (w : Option TagPlace) (l : List ℕ) (here : Content) (fs : List Open) → begins_open w l fs ≡ false
    → last_block w l here fs ≡ failed
last_fails (Some w) l here fs e = refl
last_fails None l here [] e = refl
last_fails None l here (f ∷ fs) e =
    go_false (same_bytes l f.label) (reading (put_part f.before (long_of f.label f.children here)) fs)
    (by_contra (same_bytes l f.label) (begins l f.label) (same_begins l f.label) e)

head_fails : (form : TagForm) (l : List ℕ) (more : Bool) (here : Content) (fs : List Open)
    → can_begin form l here fs ≡ false → feed (reading here fs) (head form l more) ≡ failed
unfolding feed
head_fails Short l more here fs e = absurd cc
head_fails Long l more here fs e = absurd cc
head_fails Middle l more here fs e = next_fails (place_of here) l (header_place more) here fs e
head_fails Closing l true here fs e = next_fails (place_of here) l (Some InClosing) here fs e
head_fails Closing l false here fs e = last_fails (place_of here) l here fs e

-- ---- one byte more

angled_stops : (k : ByteKind) (b : ℕ) (j : Bool) (s : State) → can_go_on angled s ≡ false
    → goes_on (after_lexed keep (keeping j s) (lex_angled k b)) ≡ false
unfolding lex_angled feed
angled_stops k b j (reading here fs) h = absurd cc
angled_stops k b j failed h = failed_stops (lex_angled k b) j
angled_stops Backslash b j (naming n here fs) h = refl
angled_stops Bar b j (naming n here fs) h = refl
angled_stops Slash b j (naming n here fs) h = refl
angled_stops Hash b j (naming n here fs) h = refl
angled_stops Name b j (naming n here fs) h = refl
angled_stops _ b j (naming n here fs) h = refl
angled_stops Backslash b j (counting n here fs) h = refl
angled_stops Bar b j (counting n here fs) h = refl
angled_stops Slash b j (counting n here fs) h = refl
angled_stops Hash b j (counting n here fs) h = refl
angled_stops Name b j (counting n here fs) h = refl
angled_stops _ b j (counting n here fs) h = refl

if_good_stops : (d : Bool) (k : Keeping) (r : Lexed) → goes_on (after_lexed keep k r) ≡ false
    → goes_on (after_lexed keep k (if_good d r)) ≡ false
if_good_stops true k r h = h
if_good_stops false k r h = refl

head_stops : (form : TagForm) (l : List ℕ) (more j : Bool) (s : State) → can_go_on (labelled form l) s ≡ false
    → goes_on (after_lexed keep (keeping j s) (done (head form l more))) ≡ false
unfolding feed
head_stops form l more j (reading here fs) h = ap (λ s. can_go_on ready s) (head_fails form l more here fs h)
head_stops form l more j (naming n here fs) h = refl
head_stops form l more j (counting n here fs) h = refl
head_stops form l more j failed h = refl

letter_stops : (form : TagForm) (l : List ℕ) (b : ℕ) (s : State) → can_go_on (labelled form l) s ≡ false
    → can_go_on (labelled form (l ++ b ∷ [])) s ≡ false
letter_stops form l b (reading here fs) h = by_contra (can_begin form (l ++ b ∷ []) here fs) (can_begin form l here fs)
    (begin_less form l here fs b) h
letter_stops form l b (naming n here fs) h = refl
letter_stops form l b (counting n here fs) h = refl
letter_stops form l b failed h = refl

labelled_stops : (k : ByteKind) (form : TagForm) (l : List ℕ) (b : ℕ) (j : Bool) (s : State)
    → can_go_on (labelled form l) s ≡ false → goes_on (after_lexed keep (keeping j s) (lex_labelled form l k b)) ≡ false
unfolding lex_labelled
labelled_stops Name form l b j s h =
    if_good_stops _ (keeping j s) (within (labelled form (l ++ b ∷ []))) (letter_stops form l b s h)
labelled_stops Bar form l b j s h =
    if_good_stops _ (keeping j s) (done (head form l true)) (head_stops form l true j s h)
labelled_stops Greater form l b j s h =
    if_good_stops _ (keeping j s) (done (head form l false)) (head_stops form l false j s h)
labelled_stops _ form l b j s h = refl

state_stops : (s : State) (q : Lex) (b : ℕ) (j : Bool) → can_go_on q s ≡ false
    → goes_on (step keep (at q (keeping j s)) b) ≡ false
state_stops failed q b j h = failed_stops (lex q (kind_of b) b) j
state_stops s angled b j h = angled_stops (kind_of b) b j s h
state_stops s (labelled form l) b j h = labelled_stops (kind_of b) form l b j s h
state_stops (reading here fs) ready b j h = absurd cc
state_stops (reading here fs) slashed b j h = absurd cc
state_stops (reading here fs) returned b j h = absurd cc
state_stops (naming n here fs) ready b j h = absurd cc
state_stops (naming n here fs) slashed b j h = absurd cc
state_stops (naming n here fs) returned b j h = absurd cc
state_stops (counting n here fs) ready b j h = absurd cc
state_stops (counting n here fs) slashed b j h = absurd cc
state_stops (counting n here fs) returned b j h = absurd cc

step_stops : (w : Bytewise Keeping) (b : ℕ) → goes_on w ≡ false → goes_on (step keep w b) ≡ false
step_stops (at q k) b h = state_stops k.state q b k.behind_join h
step_stops lost b h = refl

pub run_stops : (y : List ℕ) (w : Bytewise Keeping) → goes_on w ≡ false → goes_on (run keep w y) ≡ false
run_stops [] w h = h
run_stops (b ∷ y) w h = run_stops y (step keep w b) (step_stops w b h)

-- ---- what spells a tree

tree_goes_on : (s : State) (t : WideTree) → state_tree s ≡ Some t → can_go_on ready s ≡ true
tree_goes_on (reading here fs) t e = refl
tree_goes_on (naming n here fs) t e = refl
tree_goes_on (counting n here fs) t e = refl
tree_goes_on failed t e = absurd cc

whole_goes_on : (w : Bytewise Keeping) (t : WideTree) → tree_in w ≡ Some t → goes_on w ≡ true
whole_goes_on (at ready k) t e = tree_goes_on k.state t e
whole_goes_on (at slashed k) t e = absurd cc
whole_goes_on (at returned k) t e = absurd cc
whole_goes_on (at angled k) t e = absurd cc
whole_goes_on (at (labelled form l) k) t e = absurd cc
whole_goes_on lost t e = absurd cc

pub run_append : (x y : List ℕ) (w : Bytewise Keeping) → run keep w (x ++ y) ≡ run keep (run keep w x) y
run_append [] y w = refl
run_append (b ∷ x) y w = run_append x y (step keep w b)

-- the machine goes on after what can be continued to bytes that spell a tree
pub front_goes_on : (x more : List ℕ) (t : WideTree) → Spells (x ++ more) t → goes_on (run keep start x) ≡ true
unfolding reads
front_goes_on x more t h =
    let e : tree_in (run keep (run keep start x) more) ≡ Some t = ap tree_in (sym (run_append x more start))
    ∙ spelled_is_read (x ++ more) t h in
    elim (goes_on (run keep start x)) as (λ z. goes_on (run keep start x) ≡ z → z ≡ true) [
      | true ↦ λ d. refl
      | false ↦ λ d. let a = run_stops more (run keep start x) d in let b =
          whole_goes_on (run keep (run keep start x) more) t e in absurd cc
    ] refl
