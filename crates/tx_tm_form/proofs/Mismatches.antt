-- In a mismatch the label of the middle or closing tag differs from that of the open tag.
use Rattle.std.proofs.Common.{◌≡◌, ◌≢◌, ⊎_elim, inl, inr, ℕ, suc, ◌<◌, ◌≤◌, Bool, true, false, ◌==◌, List}
use Rattle.std.proofs.Common.{[], ◌∷◌, ◌++◌, length, take, drop, get_or, refl, sym, ap, subst, ◌∙◌}
use Rattle.std.proofs.Common.{append_assoc, length-append, arith}
use Rattle.std.specs.List.{AllByRecursion, flat_map}
use Rattle.std.proofs.Math.Seq.{drop-cons}
use Rattle.std.proofs.lemmas.Bool.{and_parts, and_from}
use Rattle.std.proofs.lemmas.List.{append-nil, append_cancel_left, take-append-drop}
use Rattle.std.proofs.lemmas.List.Concat.{flat_map-append}
use Rattle.tx_tree.specs.declared.faults.ReadFault.TheVariants.{Mismatch}
use Rattle.tx_tree.specs.Labels.{IsLabel}
use Rattle.tx_tm_form.specs.declared.marks.TagMark.{TagMark}
use Rattle.tx_tm_form.specs.declared.places.TagForm.{TagForm}
use Rattle.tx_tm_form.specs.declared.places.TagForm.TheVariants.{Short, Long, Middle, Closing}
use Rattle.tx_tm_form.specs.Bytes.{kind_of}
use Rattle.tx_tm_form.specs.Tokens.{Token, head, form_mark, label_end, written, IsToken}
use Rattle.tx_tm_form.specs.Machine.{Lex, ready, labelled, Bytewise, at, after_lexed, step, run, keep}
use Rattle.tx_tm_form.specs.Machine.{start}
use Rattle.tx_tm_form.specs.Fronts.{begins, goes_on, IsLongestTmFront, StopsAt}
use Rattle.tx_tm_form.specs.Marks.{feed_standing, Marked, keep_marks, start_marks}
use Rattle.tx_tm_form.specs.Marks.{standing_goes_on, marks_go_on}
use Rattle.tx_tm_form.specs.Faults.{IsScanned, IsInRepeated, IsInBlock, IsOpenTag, IsByteFault, IsTmFault, Differs}
use Rattle.tx_tm_form.proofs.Formed.{is_same_number}
use Rattle.tx_tm_form.proofs.Words.{name_kind, lexed_letter, end_step}
use Rattle.tx_tm_form.proofs.Closing.{begins_rest}
use Rattle.tx_tm_form.proofs.Longest.{longest_is_stop}
use Rattle.tx_tm_form.proofs.Begun.{scanned_run}
use Rattle.tx_tm_form.proofs.Passing.{marks_fold, in_block, middle_step, closing_step, last_step, block_mark}
use Rattle.tx_tm_form.proofs.Stopping.{goes_on_there, one_more}
use Rattle.tx_tm_form.proofs.OneFault.{file_marked, goes_on_some}

-- ---- what the table says

both_places : (p q m n : ℕ) → Mismatch p m ≡ Mismatch q n → (p ≡ q) × (m ≡ n)
both_places p q m n e = (cc, cc)

row_of : (x : List ℕ) (b m place n : ℕ) → IsByteFault x b m (Mismatch place n) → (n ≡ m) × IsOpenTag x place
row_of x b m place n (inl h) =
    let e = both_places place h.1.0 n m h.1.2 in (e.1, subst (λ p. IsOpenTag x p) (sym e.0) h.1.1)
row_of x b m place n (inr (a, inl (c, e))) = absurd cc
row_of x b m place n (inr (a, inr (c, inl (d, e)))) = absurd cc
row_of x b m place n (inr (a, inr (c, inr (d, inl (f, e))))) = absurd cc
row_of x b m place n (inr (a, inr (c, inr (d, inr (f, e))))) = absurd cc

abbrev Stops : List ℕ → ℕ → ℕ → Type 0
Stops bytes place n = IsLongestTmFront bytes n × (n < length bytes) × IsOpenTag (take n bytes) place

stops : (bytes : List ℕ) (place n : ℕ) → IsTmFault bytes (Mismatch place n) → Stops bytes place n
stops bytes place n h =
    let r = row_of (take h.0 bytes) (get_or bytes h.0 0) h.0 place n h.3 in
    subst (λ m. Stops bytes place m) (sym r.0) (h.1, h.2, r.1)

pub open_tag_there : (bytes : List ℕ) (place n : ℕ) → IsTmFault bytes (Mismatch place n)
    → (n < length bytes) × IsOpenTag (take n bytes) place
open_tag_there bytes place n h = let s = stops bytes place n h in (s.1, s.2)

-- ---- a middle or closing tag

abbrev IsRepeated : Lex → Type 0
IsRepeated (labelled Middle l) = Unit {0}
IsRepeated (labelled Closing l) = Unit {0}
IsRepeated _ = ⊥

repeated : (x : List ℕ) (ts : List Token) → IsInRepeated x ts → (q : Lex) × IsScanned x ts q × IsRepeated q
repeated x ts (l, inl s) = (labelled Middle l, s, tt)
repeated x ts (l, inr s) = (labelled Closing l, s, tt)

same_lex : (p q : Lex) (j k : Marked) → (let w : Bytewise Marked = at p j in w) ≡ at q k → p ≡ q
same_lex p q j k e = cc

is_repeated : (x : List ℕ) (place : ℕ) (ts : List Token) (q : Lex) → IsOpenTag x place → IsScanned x ts q → IsRepeated q
is_repeated x place ts q h s =
    let r = repeated x h.0 h.1 in
    let e = scanned_run Marked keep_marks x h.0 r.0 file_marked r.1 in
    let f = scanned_run Marked keep_marks x ts q file_marked s in
    subst IsRepeated (same_lex r.0 q (marks_fold file_marked h.0) (marks_fold file_marked ts) (sym e ∙ f)) r.2

-- ---- labels that begin another one

begins_itself : (l : List ℕ) (c : ℕ) (r : List ℕ) → begins (l ++ c ∷ []) (l ++ c ∷ r) ≡ true
begins_itself [] c r = and_from _ _ (grind arith) refl
begins_itself (b ∷ l) c r = and_from _ _ (grind arith) (begins_itself l c r)

next_is : (l r : List ℕ) (b c : ℕ) → begins (l ++ b ∷ []) (l ++ c ∷ r) ≡ true → b ≡ c
next_is [] r b c h = is_same_number b c (and_parts (b == c) true h).0
next_is (a ∷ l) r b c h = next_is l r b c (and_parts (a == a) (begins (l ++ b ∷ []) (l ++ c ∷ r)) h).1

-- what two texts begin with
begins_both : (x y a b : List ℕ) → x ++ a ≡ y ++ b → length x ≤ length y → begins x y ≡ true
begins_both [] y a b e n = refl
begins_both (c ∷ x) [] a b e n = absurd (omega (arith, n))
begins_both (c ∷ x) (d ∷ y) a b e n = let p = heads c d (x ++ a) (y ++ b) e in
    and_from _ _ (subst (λ z. (c == z) ≡ true) p.0 (grind arith)) (begins_both x y a b p.1 (omega (arith, n)))
  where
    heads : (c d : ℕ) (x y : List ℕ) → c ∷ x ≡ d ∷ y → (c ≡ d) × (x ≡ y)
    heads c d x y e = (cc, cc)

begins_less : (x y : List ℕ) → begins x y ≡ true → length x ≤ length y
begins_less x y h = let r = begins_rest x y h in omega (arith, ap length r.1, length-append x r.0)

-- ---- the machine goes on where they do

middle_of : {A : Type 0} → (P : A → Type 0) (a : List A) (x : A) (b : List A) → AllByRecursion P (a ++ x ∷ b) → P x
middle_of P [] x b h = h.0
middle_of P (y ∷ a) x b h = middle_of P a x b h.1

letter_there : (form : TagForm) (l r : List ℕ) (b place : ℕ) (ms : List TagMark) → IsRepeated (labelled form l)
    → standing_goes_on (labelled form (l ++ b ∷ [])) (in_block place (l ++ b ∷ r) ms) ≡ true
letter_there Short l r b place ms h = absurd h
letter_there Long l r b place ms h = absurd h
letter_there Middle l r b place ms h = begins_itself l b r
letter_there Closing l r b place ms h = begins_itself l b r

-- with the next byte of the open tag's label
letter_goes_on : (form : TagForm) (l r : List ℕ) (b place : ℕ) (ms : List TagMark) (m : Marked)
    → IsRepeated (labelled form l) → m.now ≡ in_block place (l ++ b ∷ r) ms → IsLabel (l ++ b ∷ r)
    → marks_go_on (step keep_marks (at (labelled form l) m) b) ≡ true
letter_goes_on form l r b place ms m h e v =
    ap (λ x. marks_go_on (after_lexed keep_marks m x))
    (lexed_letter form l (kind_of b) b (name_kind b (middle_of _ l b r v.each))
    (omega (arith, length-append l (b ∷ r), v.short)))
    ∙ ap (λ o. standing_goes_on (labelled form (l ++ b ∷ [])) o) e
    ∙ letter_there form l r b place ms h

end_there : (form : TagForm) (l : List ℕ) (more : Bool) (i place : ℕ) (ms : List TagMark) → IsRepeated (labelled form l)
    → standing_goes_on ready (feed_standing i (in_block place l ms) (head form l more)) ≡ true
end_there Short l more i place ms h = absurd h
end_there Long l more i place ms h = absurd h
end_there Middle l more i place ms h = ap (λ o. standing_goes_on ready o) (middle_step more place i l ms)
end_there Closing l true i place ms h = ap (λ o. standing_goes_on ready o) (closing_step place i l ms)
end_there Closing l false i place ms h = ap (λ o. standing_goes_on ready o) (last_step place i l ms)

-- after the whole of it
end_goes_on : (form : TagForm) (l : List ℕ) (more : Bool) (place : ℕ) (ms : List TagMark) (m : Marked)
    → IsRepeated (labelled form l) → m.now ≡ in_block place l ms → IsLabel l
    → marks_go_on (step keep_marks (at (labelled form l) m) (label_end more)) ≡ true
end_goes_on form l more place ms m h e v =
    ap marks_go_on (end_step Marked keep_marks more form l m [] v.some)
    ∙ ap (λ o. standing_goes_on ready (feed_standing m.taken o (head form l more))) e
    ∙ end_there form l more m.taken place ms h

byte_goes_on : (form : TagForm) (l r : List ℕ) (b : ℕ) (more : Bool) (place : ℕ) (ms : List TagMark) (m : Marked)
    → IsRepeated (labelled form l) → m.now ≡ in_block place (l ++ r) ms → IsLabel (l ++ r)
    → begins (l ++ b ∷ []) ((l ++ r) ++ label_end more ∷ []) ≡ true
    → marks_go_on (step keep_marks (at (labelled form l) m) b) ≡ true
byte_goes_on form l [] b more place ms m h e v k =
    let same : l ++ [] ≡ l = append-nil l in
    let c : b ≡ label_end more =
    next_is l [] b (label_end more) (subst (λ z. begins (l ++ b ∷ []) (z ++ label_end more ∷ []) ≡ true) same k) in
    ap (λ d. marks_go_on (step keep_marks (at (labelled form l) m) d)) c
    ∙ end_goes_on form l more place ms m h (e ∙ ap (λ z. in_block place z ms) same) (subst IsLabel same v)
byte_goes_on form l (c ∷ r) b more place ms m h e v k =
    let d : b ≡ c =
    next_is l (r ++ label_end more ∷ []) b c
    (subst (λ z. begins (l ++ b ∷ []) z ≡ true) (append_assoc l (c ∷ r) (label_end more ∷ [])) k) in
    ap (λ d. marks_go_on (step keep_marks (at (labelled form l) m) d)) d ∙ letter_goes_on form l r c place ms m h e v

-- ---- so the labels differ

begun_there : (form : TagForm) (label l : List ℕ) (place : ℕ) (ms : List TagMark) → IsRepeated (labelled form l)
    → standing_goes_on (labelled form l) (in_block place label ms) ≡ true → begins l label ≡ true
begun_there Short label l place ms h e = absurd h
begun_there Long label l place ms h e = absurd h
begun_there Middle label l place ms h e = e
begun_there Closing label l place ms h e = e

not_true : (c : Bool) → (c ≡ true → ⊥) → c ≡ false
not_true true h = absurd (h refl)
not_true false h = refl

true_and_false : (c : Bool) → c ≡ true → c ≡ false → ⊥
true_and_false c h k = cc

stop_behind : (bytes : List ℕ) (n : ℕ) → n < length bytes → StopsAt bytes n
    → goes_on (run keep start (take (suc n) bytes)) ≡ false
stop_behind bytes n lt h =
    ⊎_elim (λ (e : n ≡ length bytes). absurd (omega (arith, e, lt)))
    (λ (e : goes_on (run keep start (take (suc n) bytes)) ≡ false). e) h.stop

pub labels_differ : (bytes : List ℕ) (place n : ℕ) (ts : List Token) (form : TagForm) (l : List ℕ)
    → IsTmFault bytes (Mismatch place n) → IsScanned (take n bytes) ts (labelled form l) → (tag : IsInBlock ts place)
    → Differs tag.label l (get_or bytes n 0)
labels_differ bytes place n ts form l h s tag =
    let b = get_or bytes n 0 in
    let t = stops bytes place n h in
    let stop = longest_is_stop bytes n t.0 in
    let m = marks_fold file_marked ts in
    let w : Bytewise Marked = at (labelled form l) m in
    let e : run keep_marks start_marks (take n bytes) ≡ w =
    scanned_run Marked keep_marks (take n bytes) ts (labelled form l) file_marked s in
    let on : marks_go_on w ≡ true = sym (goes_on_there (take n bytes) w e) ∙ stop.taken in
    let off : marks_go_on (step keep_marks w b) ≡ false =
    sym (goes_on_there (take (suc n) bytes) (step keep_marks w b) (one_more bytes n w t.1 e))
    ∙ stop_behind bytes n t.1 stop in
    let z = goes_on_some (labelled form l) m.now on in
    let o = block_mark ts place z.0 tag z.1 in
    let now : m.now ≡ in_block place tag.label o.0 = z.1 ∙ o.1 in
    let again : IsRepeated (labelled form l) = is_repeated (take n bytes) place ts (labelled form l) t.2 s in
    let begun : begins l tag.label ≡ true =
    begun_there form tag.label l place o.0 again (sym (ap (λ p. standing_goes_on (labelled form l) p) now) ∙ on) in
    let r = begins_rest l tag.label begun in
    let good : IsLabel tag.label =
    middle_of IsToken tag.before (head Long tag.label tag.more) tag.behind
    (subst (λ x. AllByRecursion IsToken x) tag.found s.each) in (
      begun,
      λ more. not_true (begins (l ++ b ∷ []) (tag.label ++ label_end more ∷ [])) (λ k.
          true_and_false (marks_go_on (step keep_marks w b))
          (byte_goes_on form l r.0 b more place o.0 m again (now ∙ ap (λ x. in_block place x o.0) r.1)
          (subst IsLabel r.1 good)
          (subst (λ x. begins (l ++ b ∷ []) (x ++ label_end more ∷ []) ≡ true) r.1 k)) off),
    )

-- ---- a whole label

pub other_label : (bytes : List ℕ) (place n : ℕ) (ts : List Token) (form : TagForm) (l other : List ℕ) (more : Bool)
    (rest : List ℕ) → IsTmFault bytes (Mismatch place n) → IsScanned (take n bytes) ts (labelled form l)
    → (tag : IsInBlock ts place) → bytes ≡ flat_map written (ts ++ head form other more ∷ []) ++ rest
    → other ≢ tag.label
other_label bytes place n ts form l other more rest h s tag e = λ same.
    let b = get_or bytes n 0 in
    let d = drop (suc n) bytes in
    let x = flat_map written ts in
    let y = other ++ label_end more ∷ [] in
    let t = open_tag_there bytes place n h in
    let differs = labels_differ bytes place n ts form l h s tag in
    let as_written : bytes ≡ x ++ ((60 ∷ form_mark form) ++ (y ++ rest)) =
    e ∙ ap (λ z. z ++ rest) (flat_map-append written ts (head form other more ∷ [])
    ∙ ap (λ z. x ++ z) (append-nil (written (head form other more))))
    ∙ append_assoc x (written (head form other more)) rest
    ∙ ap (λ z. x ++ (60 ∷ z)) (append_assoc (form_mark form) y rest) in
    let as_read : bytes ≡ x ++ ((60 ∷ form_mark form) ++ (l ++ b ∷ d)) =
    sym (take-append-drop n bytes)
    ∙ ap (λ z. take n bytes ++ z) (drop-cons bytes n 0 t.0)
    ∙ ap (λ z. z ++ b ∷ d) s.all
    ∙ append_assoc x (60 ∷ (form_mark form ++ l)) (b ∷ d)
    ∙ ap (λ z. x ++ (60 ∷ z)) (append_assoc (form_mark form) l (b ∷ d)) in
    let both : (l ++ b ∷ []) ++ d ≡ y ++ rest =
    append_assoc l (b ∷ []) d
    ∙ append_cancel_left (60 ∷ form_mark form) (l ++ b ∷ d) (y ++ rest)
    (append_cancel_left x ((60 ∷ form_mark form) ++ (l ++ b ∷ d)) ((60 ∷ form_mark form) ++ (y ++ rest))
    (sym as_read ∙ as_written)) in
    let begins_other : begins (l ++ b ∷ []) y ≡ true =
    begins_both (l ++ b ∷ []) y d rest both
    (omega (
      arith,
      begins_less l tag.label differs.0,
      ap length same,
      length-append l (b ∷ []),
      length-append other (label_end more ∷ []),
    )) in
    true_and_false (begins (l ++ b ∷ []) (tag.label ++ label_end more ∷ []))
    (subst (λ z. begins (l ++ b ∷ []) (z ++ label_end more ∷ []) ≡ true) same begins_other) (differs.1 more)
