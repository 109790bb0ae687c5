-- What the machine has taken can be closed: the token that has begun, then the open tags from the innermost one
-- outwards.
use Rattle.std.proofs.Common.{◌≡◌, ⊎_elim, ℕ, ◌<◌, ◌≤◌, Bool, true, false, ◌==◌, if◌then◌else◌, List, [], ◌∷◌, ◌++◌}
use Rattle.std.proofs.Common.{length, Option, Some, None, refl, sym, ap, subst, ◌∙◌, length-append, arith}
use Rattle.std.specs.List.{AllByRecursion}
use Rattle.std.proofs.lemmas.List.{append-nil}
use Rattle.std.proofs.lemmas.Bool.{le-leb, and_parts}
use Rattle.tx_tree.specs.Labels.{is_label_byte, IsLabel}
use Rattle.tx_tree.specs.WideTree.{WideTree, node, forest, leaf}
use Rattle.tx_tree.proofs.FrontBytes.{AreBytes, bytes_together, label_bytes}
use Rattle.tx_tm_form.specs.declared.places.TagForm.{TagForm}
use Rattle.tx_tm_form.specs.declared.places.TagForm.TheVariants.{Short, Long, Middle, Closing}
use Rattle.tx_tm_form.specs.declared.places.TagPlace.{TagPlace}
use Rattle.tx_tm_form.specs.declared.places.TagPlace.TheVariants.{InShort, InHeader, InClosing}
use Rattle.tx_tm_form.specs.Bytes.{kind_of, is_plain, escape_of, can_escape}
use Rattle.tx_tm_form.specs.Tokens.{Token, plain, escape, head, close, written, IsToken, is_dropped, without_joins}
use Rattle.tx_tm_form.specs.Parts.{ContentPart, text, tag, raw_data_label}
use Rattle.tx_tm_form.specs.Forms.{nothing, piece_parts, symbol_bytes, Spells}
use Rattle.tx_tm_form.specs.Growing.{Content, inline, blocks, collecting, no_paragraphs, put_part, place_of}
use Rattle.tx_tm_form.specs.Growing.{tree_as_argument}
use Rattle.tx_tm_form.specs.Growing.{tree_as_block, tree_of_block, as_block, file_tree, long_of, block_behind}
use Rattle.tx_tm_form.specs.Machine.{Open, open_tag, State, reading, naming, counting, failed, go, open_with_child}
use Rattle.tx_tm_form.specs.Machine.{in_tag}
use Rattle.tx_tm_form.specs.Machine.{last_argument, next_block, last_block, feed, feeds, Lex, ready, slashed, returned}
use Rattle.tx_tm_form.specs.Machine.{angled, labelled, lex_slashed, lex_returned, lex_angled, Bytewise, at, lost}
use Rattle.tx_tm_form.specs.Machine.{after_lexed}
use Rattle.tx_tm_form.specs.Machine.{step, run, Keeping, keep, start, tree_in, reads}
use Rattle.tx_tm_form.specs.Fronts.{begins, begins_open, can_begin, can_go_on, goes_on}
use Rattle.tx_tm_form.specs.Faults.{IsBegun}
use Rattle.tx_tm_form.proofs.Growth.{place_is, no_place}
use Rattle.tx_tm_form.proofs.Complete.{same_self}
use Rattle.tx_tm_form.proofs.Words.{newline_kind, hash_kind, token_run, label_run, keeps_state, file_state}
use Rattle.tx_tm_form.proofs.Sound.{Frame, Here, Took, feeds_took}
use Rattle.tx_tm_form.proofs.Taken.{Scanned, run_scanned, kept_tokens, read_is_spelled}
use Rattle.tx_tm_form.proofs.Stops.{keeping, run_append, front_goes_on}
use Rattle.tx_tm_form.proofs.Formed.{is_same_number}

-- ---- what is open

-- the labels of the open tags are labels, and round them is a block
abbrev pub IsPlaced : Content → List Open → Type 0
IsPlaced here [] = place_of here ≡ None
IsPlaced here (f ∷ fs) = IsLabel f.label × IsPlaced f.before fs

abbrev IsOpened : State → Type 0
IsOpened (reading here fs) = IsPlaced here fs
IsOpened (naming n here fs) = IsPlaced here fs
IsOpened (counting ds here fs) = IsPlaced here fs
IsOpened failed = Unit {0}

frame_label : (w : Option TagPlace) (l : List ℕ) (ks : List WideTree) (q : List Token) → Frame w l ks q → IsLabel l
frame_label (Some InShort) l ks q h = h.1
frame_label (Some InHeader) l ks q h = ⊎_elim (λ k. k.1) (λ k. k.4.2) h
frame_label (Some InClosing) l ks q h = h.4.2
frame_label None l ks q h = h.2

pub here_placed : (fs : List Open) (here : Content) (ts : List Token) → Here here fs ts → IsPlaced here fs
here_placed [] here ts h = ap place_of h.1 ∙ place_is (piece_parts h.0) (blocks no_paragraphs)
here_placed (f ∷ fs) here ts h = (frame_label h.0 f.label f.children h.2 h.5, here_placed fs f.before h.1 h.4)

took_opened : (s : State) (ts : List Token) → Took s ts → IsOpened s
took_opened (reading here fs) ts h = here_placed fs here ts h
took_opened (naming n here fs) ts h = here_placed fs here h.0 h.1
took_opened (counting ds here fs) ts h = here_placed fs here h.0 h.1
took_opened failed ts h = tt

put_placed : (fs : List Open) (here : Content) (p : ContentPart) → IsPlaced here fs → IsPlaced (put_part here p) fs
put_placed [] here p h = place_is (p ∷ []) here ∙ h
put_placed (f ∷ fs) here p h = h

-- ---- the open tags

-- after more bytes a tree is read
abbrev pub Closable : Bytewise Keeping → Type 0
Closable w = (y : List ℕ) × AreBytes y × (u : WideTree) × (tree_in (run keep w y) ≡ Some u)

by_token : (t : Token) (j : Bool) (s z : State) → IsToken t → AreBytes (written t) → is_dropped j t ≡ false
    → feed s t ≡ z → Closable (at ready (keeping false z)) → Closable (at ready (keeping j s))
by_token t j s z v small d e h =
    let kept_is : keep (keeping j s) t ≡ keeping false z =
    ap (λ x. if x then keeping true s else keeping false (feed s t)) d ∙ ap (keeping false) e in (
      written t ++ h.0,
      bytes_together (written t) h.0 small h.1,
      h.2,
      ap tree_in (token_run Keeping keep t (keeping j s) h.0 v ∙ ap (λ k. run keep (at ready k) h.0) kept_is) ∙ h.3,
    )

by_byte : (w z : Bytewise Keeping) (b : ℕ) → b < 256 → step keep w b ≡ z → Closable z → Closable w
by_byte w z b small e h = (b ∷ h.0, (small, h.1), h.2, ap (λ x. tree_in (run keep x h.0)) e ∙ h.3)

abbrev Closes : List Open → Type 0
Closes fs = (here : Content) (j : Bool) → IsPlaced here fs → Closable (at ready (keeping j (reading here fs)))

pub file_closes : (here : Content) → place_of here ≡ None → (u : WideTree) × (file_tree here ≡ Some u)
file_closes (inline p g) e = absurd cc
file_closes (blocks b) e = (tree_of_block b, refl)
file_closes (collecting x) e = (tree_of_block (as_block x), refl)

-- in a block, where the open tag may end or go on
pub last_there : (here : Content) (f : Open) (fs : List Open) → place_of here ≡ None
    → feed (reading here (f ∷ fs)) (head Closing f.label false) ≡ reading
    (put_part f.before (long_of f.label f.children here)) fs
unfolding feed
last_there here f fs e =
    ap (λ o. last_block o f.label here (f ∷ fs)) e
    ∙ ap (λ c. go c (reading (put_part f.before (long_of f.label f.children here)) fs)) (same_self f.label)

pub middle_there : (here : Content) (f : Open) (fs : List Open) → place_of here ≡ None
    → feed (reading here (f ∷ fs)) (head Middle f.label false) ≡ in_tag None (open_with_child f (tree_as_block here)) fs
unfolding feed
middle_there here f fs e =
    ap (λ o. next_block o f.label None here (f ∷ fs)) e
    ∙ ap (λ c. go c (in_tag None (open_with_child f (tree_as_block here)) fs)) (same_self f.label)

block_closes : (f : Open) (fs : List Open) (here : Content) (j : Bool) → place_of here ≡ None → IsPlaced here (f ∷ fs)
    → Closes fs → Closable (at ready (keeping j (reading here (f ∷ fs))))
block_closes f fs here j e v h =
    by_token (head Closing f.label false) j (reading here (f ∷ fs))
    (reading (put_part f.before (long_of f.label f.children here)) fs) v.0
    (omega arith, (omega arith, bytes_together f.label (62 ∷ []) (label_bytes f.label v.0.each) (omega arith, tt))) refl
    (last_there here f fs e)
    (h (put_part f.before (long_of f.label f.children here)) false
    (put_placed fs f.before (long_of f.label f.children here) v.1))

new_block_closes : (f : Open) (fs : List Open) (ts : List WideTree) → IsLabel f.label → IsPlaced f.before fs → Closes fs
    → Closable (at ready (keeping false (in_tag None (open_tag f.before f.label ts) fs)))
new_block_closes f fs ts v p h =
    block_closes (open_tag f.before f.label ts) fs (block_behind f.label ts) false (no_place f.label ts) (v, p) h

tag_closes : (w : Option TagPlace) (f : Open) (fs : List Open) (here : Content) (j : Bool) → place_of here ≡ w
    → IsPlaced here (f ∷ fs) → Closes fs → Closable (at ready (keeping j (reading here (f ∷ fs))))
unfolding feed
tag_closes None f fs here j e v h = block_closes f fs here j e v h
tag_closes (Some InShort) f fs here j e v h =
    let x : ContentPart = tag false (node f.label (forest (f.children ++ tree_as_argument here ∷ []))) in
    by_token close j (reading here (f ∷ fs)) (reading (put_part f.before x) fs) tt (omega arith, tt) refl
    (ap (λ o. last_argument o here (f ∷ fs)) e) (h (put_part f.before x) false (put_placed fs f.before x v.1))
tag_closes (Some InClosing) f fs here j e v h =
    let x : ContentPart = tag false (node f.label (forest (f.children ++ tree_as_argument here ∷ []))) in
    by_token close j (reading here (f ∷ fs)) (reading (put_part f.before x) fs) tt (omega arith, tt) refl
    (ap (λ o. last_argument o here (f ∷ fs)) e) (h (put_part f.before x) false (put_placed fs f.before x v.1))
tag_closes (Some InHeader) f fs here j e v h =
    by_token close j (reading here (f ∷ fs)) (in_tag None (open_with_child f (tree_as_argument here)) fs) tt
    (omega arith, tt) refl
    (ap (λ o. last_argument o here (f ∷ fs)) e)
    (new_block_closes f fs (f.children ++ tree_as_argument here ∷ []) v.0 v.1 h)

tags_close : (fs : List Open) → Closes fs
tags_close [] here j v = let u = file_closes here v in ([], tt, u.0, u.1)
tags_close (f ∷ fs) here j v = tag_closes (place_of here) f fs here j refl v (tags_close fs)

-- ---- symbols and raw data

plain_a : is_plain (kind_of 97) ≡ true
unfolding kind_of is_label_byte
plain_a = refl

escape_greater : can_escape 62 ≡ true
unfolding escape_of
escape_greater = refl

no_greater : escape_of 62 ≡ None
unfolding escape_of
no_greater = refl

name_closes : (n : List ℕ) (here : Content) (fs : List Open) (j : Bool) → IsPlaced here fs → 1 ≤ length n
    → Closable (at ready (keeping j (naming n here fs)))
unfolding feed
name_closes n here fs j v h =
    by_token (escape 62) j (naming n here fs) (reading (put_part here (text (symbol_bytes n))) fs) escape_greater
    (omega arith, (omega arith, tt)) refl
    (ap (λ z. go z (reading (put_part here (text (symbol_bytes n))) fs)) (le-leb 1 (length n) h))
    (tags_close fs (put_part here (text (symbol_bytes n))) false (put_placed fs here (text (symbol_bytes n)) v))

state_closes : (s : State) (j : Bool) → IsOpened s → can_go_on ready s ≡ true → Closable (at ready (keeping j s))
unfolding feed
state_closes (reading here fs) j v h = tags_close fs here j v
state_closes (naming [] here fs) j v h =
    by_token (plain 97) j (naming [] here fs) (naming (97 ∷ []) here fs) plain_a (omega arith, tt) refl refl
    (name_closes (97 ∷ []) here fs false v (omega arith))
state_closes (naming (b ∷ n) here fs) j v h = name_closes (b ∷ n) here fs j v (omega arith)
state_closes (counting ds here fs) j v h =
    let x : ContentPart = tag false (node raw_data_label (forest (leaf ds ∷ []))) in
    by_token close j (counting ds here fs) (reading (put_part here x) fs) tt (omega arith, tt) refl refl
    (tags_close fs (put_part here x) false (put_placed fs here x v))
state_closes failed j v h = absurd cc

-- ---- a tag's beginning

letter_a : is_label_byte 97 ≡ true
unfolding is_label_byte
letter_a = refl

by_label : (form : TagForm) (m r : List ℕ) (j : Bool) (s z : State) → IsLabel (m ++ r)
    → AllByRecursion (λ b. is_label_byte b ≡ true) r → feed s (head form (m ++ r) false) ≡ z
    → Closable (at ready (keeping false z)) → Closable (at (labelled form m) (keeping j s))
by_label form m r j s z v a e h = (
  r ++ 62 ∷ h.0,
  bytes_together r (62 ∷ h.0) (label_bytes r a) (omega arith, h.1),
  h.2,
  ap tree_in (label_run Keeping keep r m false form (keeping j s) h.0 a (omega (arith, length-append m r, v.short))
      (omega (arith, length-append m r, v.some)) ∙ ap (λ x. run keep (at ready (keeping false x)) h.0) e) ∙ h.3,
)

pub begins_rest : (m l : List ℕ) → begins m l ≡ true → (r : List ℕ) × (l ≡ m ++ r)
begins_rest [] l h = (l, refl)
begins_rest (b ∷ m) [] h = absurd cc
begins_rest (b ∷ m) (c ∷ l) h =
    let p = and_parts (b == c) (begins m l) h in
    let k = begins_rest m l p.1 in
    (k.0, ap (λ z. c ∷ z) k.1 ∙ ap (λ z. z ∷ (m ++ k.0)) (sym (is_same_number b c p.0)))

all_right : (P : ℕ → Type 0) (a b : List ℕ) → AllByRecursion P (a ++ b) → AllByRecursion P b
all_right P [] b h = h
all_right P (x ∷ a) b h = all_right P a b h.1

-- the label of the open tag, to its end
open_label_closes : (form : TagForm) (m : List ℕ) (j : Bool) (here : Content) (f : Open) (fs : List Open) (z : State)
    → IsLabel f.label → begins m f.label ≡ true
    → feed (reading here (f ∷ fs)) (head form f.label false) ≡ z → Closable (at ready (keeping false z))
    → Closable (at (labelled form m) (keeping j (reading here (f ∷ fs))))
open_label_closes form m j here f fs z v b e h =
    let r = begins_rest m f.label b in
    let good : IsLabel (m ++ r.0) = subst IsLabel r.1 v in
    by_label form m r.0 j (reading here (f ∷ fs)) z good (all_right _ m r.0 good.each)
    (subst (λ l. feed (reading here (f ∷ fs)) (head form l false) ≡ z) r.1 e) h

goes_through : (w : Option TagPlace) (m : List ℕ) (f : Open) (fs : List Open) → begins_open w m (f ∷ fs) ≡ true
    → (w ≡ None) × (begins m f.label ≡ true)
goes_through None m f fs h = (refl, h)
goes_through (Some p) m f fs h = absurd cc

none_open : (w : Option TagPlace) (m : List ℕ) → begins_open w m [] ≡ true → ⊥
none_open None m h = cc
none_open (Some p) m h = cc

-- any label
new_label_closes : (form : TagForm) (m : List ℕ) (j : Bool) (here : Content) (fs : List Open)
    → IsBegun (labelled form m)
    → ((l : List ℕ) → IsLabel l → (z : State) × (feed (reading here fs) (head form l false) ≡ z)
    × Closable (at ready (keeping false z))) → Closable (at (labelled form m) (keeping j (reading here fs)))
new_label_closes form [] j here fs g h =
    let v : IsLabel (97 ∷ []) = record { each = (letter_a, tt); some = omega arith; short = omega arith } in
    let k = h (97 ∷ []) v in
    by_label form [] (97 ∷ []) j (reading here fs) k.0 v (letter_a, tt) k.1 k.2
new_label_closes form (b ∷ m) j here fs g h =
    let v : IsLabel ((b ∷ m) ++ []) =
    record {
      each = subst (λ z. AllByRecursion (λ b. is_label_byte b ≡ true) z) (sym (append-nil (b ∷ m))) g.0.0;
      some = omega (arith, length-append (b ∷ m) []);
      short = omega (arith, length-append (b ∷ m) [], g.0.1);
    } in
    let k = h ((b ∷ m) ++ []) v in
    by_label form (b ∷ m) [] j (reading here fs) k.0 v tt k.1 k.2

label_closes : (form : TagForm) (m : List ℕ) (j : Bool) (here : Content) (fs : List Open) → IsPlaced here fs
    → IsBegun (labelled form m) → can_begin form m here fs ≡ true
    → Closable (at (labelled form m) (keeping j (reading here fs)))
unfolding feed
label_closes Short m j here fs v g h =
    new_label_closes Short m j here fs g (λ l k.
    let x : ContentPart = tag false (node l (forest [])) in
    (reading (put_part here x) fs, refl, tags_close fs (put_part here x) false (put_placed fs here x v)))
label_closes Long m j here fs v g h =
    new_label_closes Long m j here fs g
    (λ l k. (
      in_tag None (open_tag here l []) fs,
      refl,
      new_block_closes (open_tag here l []) fs [] k v (tags_close fs),
    ))
label_closes Middle m j here [] v g h = absurd (none_open (place_of here) m h)
label_closes Middle m j here (f ∷ fs) v g h =
    let p = goes_through (place_of here) m f fs h in
    open_label_closes Middle m j here f fs (in_tag None (open_with_child f (tree_as_block here)) fs) v.0 p.1
    (middle_there here f fs p.0) (new_block_closes f fs (f.children ++ tree_as_block here ∷ []) v.0 v.1 (tags_close fs))
label_closes Closing m j here [] v g h = absurd (none_open (place_of here) m h)
label_closes Closing m j here (f ∷ fs) v g h =
    let p = goes_through (place_of here) m f fs h in
    let x = long_of f.label f.children here in
    open_label_closes Closing m j here f fs (reading (put_part f.before x) fs) v.0 p.1 (last_there here f fs p.0)
    (tags_close fs (put_part f.before x) false (put_placed fs f.before x v.1))

-- ---- any token that has begun

slashed_ends : (j : Bool) (s : State) → step keep (at slashed (keeping j s)) 10 ≡ at ready (keeping true s)
unfolding lex_slashed
slashed_ends j s = ap (λ k. after_lexed keep (keeping j s) (lex_slashed k 10)) newline_kind

returned_ends : (j : Bool) (s : State) → step keep (at returned (keeping j s)) 10 ≡ at ready (keeping true s)
unfolding lex_returned
returned_ends j s = ap (λ k. after_lexed keep (keeping j s) (lex_returned k)) newline_kind

angled_ends : (j : Bool) (here : Content) (fs : List Open)
    → step keep (at angled (keeping j (reading here fs))) 35 ≡ at ready (keeping false (counting [] here fs))
unfolding lex_angled feed
angled_ends j here fs = ap (λ k. after_lexed keep (keeping j (reading here fs)) (lex_angled k 35)) hash_kind

goes_on_ready : (q : Lex) (s : State) → can_go_on q s ≡ true → can_go_on ready s ≡ true
goes_on_ready q (reading here fs) h = refl
goes_on_ready q (naming n here fs) h = refl
goes_on_ready q (counting n here fs) h = refl
goes_on_ready ready failed h = h
goes_on_ready slashed failed h = h
goes_on_ready returned failed h = h
goes_on_ready angled failed h = h
goes_on_ready (labelled form l) failed h = h

token_closes : (q : Lex) (s : State) (j : Bool) → IsBegun q → IsOpened s → can_go_on q s ≡ true
    → Closable (at q (keeping j s))
token_closes ready s j g v h = state_closes s j v h
token_closes slashed s j g v h =
    by_byte _ (at ready (keeping true s)) 10 (omega arith) (slashed_ends j s)
    (state_closes s true v (goes_on_ready slashed s h))
token_closes returned s j g v h =
    by_byte _ (at ready (keeping true s)) 10 (omega arith) (returned_ends j s)
    (state_closes s true v (goes_on_ready returned s h))
token_closes angled (reading here fs) j g v h =
    by_byte _ (at ready (keeping false (counting [] here fs))) 35 (omega arith) (angled_ends j here fs)
    (state_closes (counting [] here fs) false v refl)
token_closes angled (naming n here fs) j g v h = absurd cc
token_closes angled (counting n here fs) j g v h = absurd cc
token_closes angled failed j g v h = absurd cc
token_closes (labelled form m) (reading here fs) j g v h = label_closes form m j here fs v g h
token_closes (labelled form m) (naming n here fs) j g v h = absurd cc
token_closes (labelled form m) (counting n here fs) j g v h = absurd cc
token_closes (labelled form m) failed j g v h = absurd cc

scanned_closes : (w : Bytewise Keeping) (x : List ℕ) → Scanned w x → goes_on w ≡ true → Closable w
scanned_closes (at q k) x h e =
    let s : k.state ≡ feeds file_state (without_joins false h.0) = ap (λ z. z.state) h.2
    ∙ keeps_state h.0 false file_state in
    let took : Took (feeds file_state (without_joins false h.0)) (without_joins false h.0) =
    feeds_took (without_joins false h.0) file_state [] (kept_tokens h.0 false h.1) (nothing, refl, refl) in
    let opened : IsOpened k.state =
    subst IsOpened (sym s) (took_opened (feeds file_state (without_joins false h.0)) (without_joins false h.0) took) in
    token_closes q k.state k.behind_join h.3 opened e
scanned_closes lost x h e = absurd cc

-- where the machine goes on, the bytes can be continued by bytes to bytes that spell a tree
goes_on_by_bytes : (x : List ℕ) → goes_on (run keep start x) ≡ true → (more : List ℕ) × AreBytes more
    × (t : WideTree) × Spells (x ++ more) t
unfolding reads
goes_on_by_bytes x h =
    let c = scanned_closes (run keep start x) x (run_scanned x [] start ([], tt, refl, tt, refl)) h in
    (c.0, c.1, c.2, read_is_spelled (x ++ c.0) c.2 (ap tree_in (run_append x c.0 start) ∙ c.3))

pub goes_on_is_front : (x : List ℕ) → goes_on (run keep start x) ≡ true → (more : List ℕ) × (t : WideTree)
    × Spells (x ++ more) t
goes_on_is_front x h = let c = goes_on_by_bytes x h in (c.0, c.2, c.3)

-- what continues a front can be bytes
pub front_by_bytes : (x more : List ℕ) (t : WideTree) → Spells (x ++ more) t
    → (bytes : List ℕ) × AreBytes bytes × (u : WideTree) × Spells (x ++ bytes) u
front_by_bytes x more t h = goes_on_by_bytes x (front_goes_on x more t h)
