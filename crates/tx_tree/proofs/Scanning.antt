-- A text is what is read to its end byte by byte.
use Rattle.std.proofs.Common.{◌≡◌, ℕ, zero, suc, ◌+◌, ◌<◌, ◌≤◌, Bool, true, false, eqb, ltb, ◌&&◌, cond, List, [], ◌∷◌}
use Rattle.std.proofs.Common.{◌++◌, length, take, get_or, Option, Some, None, is_some, refl, sym, ap, subst, ◌∙◌}
use Rattle.std.proofs.Common.{append_assoc, length-append, arith, ◌⊎◌, inl, inr, ⊎_elim}
use Rattle.std.specs.List.{AllByRecursion, flat_map}
use Rattle.std.proofs.lemmas.List.{append-nil, take_more, take_all}
use Rattle.std.proofs.lemmas.List.Concat.{flat_map-append}
use Rattle.std.proofs.lemmas.Bool.{lt-ltb, ltb-true, eqb-true, and_from, and_parts, cases_lt}
use Rattle.tx_base.specs.Fronts.{IsFront, IsLongestFront}
use Rattle.tx_tree.specs.declared.texts.TextFault.{TextFault}
use Rattle.tx_tree.specs.declared.texts.TextPlace.{TextPlace}
use Rattle.tx_tree.specs.declared.texts.TextPlace.TheVariants.{Between, InSymbol}
use Rattle.tx_tree.specs.Texts.{Item, byte, symbol, is_item_byte, is_name_byte, IsName, IsItem, item_bytes, IsText}
use Rattle.tx_tree.specs.Texts.{IsTextFault}
use Rattle.tx_tree.specs.TextScan.{text_step, text_run, is_between, is_text, begins_text, fault_at, takes_byte}
use Rattle.tx_base.proofs.Fronts.{take_less}

-- ---- what is a text is read

item_step : (b : ℕ) → is_item_byte b ≡ true → text_step Between b ≡ Some Between
unfolding text_step
item_step b h = grind arith

open_step : text_step Between 60 ≡ Some (InSymbol 0)
unfolding text_step
open_step = refl

name_step : (n b : ℕ) → is_name_byte b ≡ true → n < 255 → text_step (InSymbol n) b ≡ Some (InSymbol (n + 1))
unfolding text_step
name_step n b h lt = grind arith

close_step : (n : ℕ) → 1 ≤ n → text_step (InSymbol n) 62 ≡ Some Between
unfolding text_step
close_step n h = grind arith

name_run : (name : List ℕ) (n : ℕ) (rest : List ℕ) → AllByRecursion (λ b. is_name_byte b ≡ true) name
    → n + length name ≤ 255 → 1 ≤ n + length name
    → text_run (Some (InSymbol n)) (name ++ 62 ∷ rest) ≡ text_run (Some Between) rest
name_run [] n rest h le some = ap (λ p. text_run p rest) (close_step n (omega arith))
name_run (b ∷ name) n rest h le some =
    ap (λ p. text_run p (name ++ 62 ∷ rest)) (name_step n b h.0 (omega arith))
    ∙ name_run name (n + 1) rest h.1 (omega arith) (omega arith)

item_run : (i : Item) (rest : List ℕ) → IsItem i
    → text_run (Some Between) (item_bytes i ++ rest) ≡ text_run (Some Between) rest
item_run (byte b) rest h = ap (λ p. text_run p rest) (item_step b h)
item_run (symbol name) rest h =
    ap (λ p. text_run p (name ++ 62 ∷ [] ++ rest)) open_step
    ∙ ap (λ x. text_run (Some (InSymbol 0)) x) (append_assoc name (62 ∷ []) rest)
    ∙ name_run name 0 rest h.each (omega (arith, h.short)) (omega (arith, h.some))

pub items_run : (items : List Item) (rest : List ℕ) → AllByRecursion IsItem items
    → text_run (Some Between) (flat_map item_bytes items ++ rest) ≡ text_run (Some Between) rest
items_run [] rest h = refl
items_run (i ∷ items) rest h =
    ap (λ x. text_run (Some Between) x) (append_assoc (item_bytes i) (flat_map item_bytes items) rest)
    ∙ item_run i (flat_map item_bytes items ++ rest) h.0 ∙ items_run items rest h.1

-- after a text the reading is between items
pub text_runs : (bytes rest : List ℕ) → IsText bytes → text_run (Some Between) (bytes ++ rest) ≡ text_run (Some Between)
    rest
text_runs bytes rest h = ap (λ x. text_run (Some Between) (x ++ rest)) h.2 ∙ items_run h.0 rest h.1

pub none_run : (rest : List ℕ) → text_run None rest ≡ None
none_run [] = refl
none_run (b ∷ rest) = refl

pub text_run-append : (x y : List ℕ) (p : Option TextPlace) → text_run p (x ++ y) ≡ text_run (text_run p x) y
text_run-append [] y None = refl
text_run-append [] y (Some p) = refl
text_run-append (b ∷ x) y None = sym (none_run y)
text_run-append (b ∷ x) y (Some p) = text_run-append x y (text_step p b)

-- ---- what is read is a text

pub all_snoc : (P : ℕ → Type 0) (a : List ℕ) (x : ℕ) → AllByRecursion P a → P x → AllByRecursion P (a ++ x ∷ [])
all_snoc P [] x h k = (k, tt)
all_snoc P (y ∷ a) x h k = (h.0, all_snoc P a x h.1 k)

items_snoc : (items : List Item) (i : Item) → AllByRecursion IsItem items → IsItem i
    → AllByRecursion IsItem (items ++ i ∷ [])
items_snoc [] i h k = (k, tt)
items_snoc (j ∷ items) i h k = (h.0, items_snoc items i h.1 k)

-- a text and an item more are a text
pub text_snoc : (bytes : List ℕ) (i : Item) → IsText bytes → IsItem i → IsText (bytes ++ item_bytes i)
text_snoc bytes i h k = (
  h.0 ++ i ∷ [],
  items_snoc h.0 i h.1 k,
  ap (λ x. x ++ item_bytes i) h.2
      ∙ sym (flat_map-append item_bytes h.0 (i ∷ [])
      ∙ ap (λ x. flat_map item_bytes h.0 ++ x) (append-nil (item_bytes i))),
)

-- what the bytes so far are, at each place
pub record IsInSymbol (n : ℕ) (bytes : List ℕ) : Type 0 where
  pub before : List ℕ
  pub name : List ℕ
  pub text : IsText before
  pub each : AllByRecursion (λ b. is_name_byte b ≡ true) name
  pub count : length name ≡ n
  pub short : n ≤ 255
  pub are : bytes ≡ before ++ 60 ∷ name

abbrev pub Took : TextPlace → List ℕ → Type 0
Took Between bytes = IsText bytes
Took (InSymbol n) bytes = IsInSymbol n bytes

abbrev pub TookAll : Option TextPlace → List ℕ → Type 0
TookAll None bytes = Unit {0}
TookAll (Some p) bytes = Took p bytes

-- how one byte is taken between items
open_cases : (b : ℕ) (p : TextPlace) → text_step Between b ≡ Some p
    → ((b ≡ 60) × (p ≡ InSymbol 0)) ⊎ ((is_item_byte b ≡ true) × (p ≡ Between))
unfolding text_step
open_cases b p e =
    elim (eqb b 60) as
    (λ c. eqb b 60 ≡ c → cond c (Some (InSymbol 0)) (cond (is_item_byte b) (Some Between) None) ≡ Some p
    → ((b ≡ 60) × (p ≡ InSymbol 0)) ⊎ ((is_item_byte b ≡ true) × (p ≡ Between))) [
      | true ↦ λ t f. inl (eqb-true b 60 t, cc)
      | false ↦ λ t.
          elim (is_item_byte b) as (λ c. is_item_byte b ≡ c → cond c (Some Between) None ≡ Some p
          → ((b ≡ 60) × (p ≡ InSymbol 0)) ⊎ ((is_item_byte b ≡ true) × (p ≡ Between))) [
            | true ↦ λ u f. inr (u, cc)
            | false ↦ λ u f. absurd cc
          ] refl
    ] refl e

positive : (m : ℕ) → eqb m 0 ≡ false → 1 ≤ m
positive zero h = absurd cc
positive (suc m) h = omega arith

-- how one byte is taken in a symbol
abbrev TakesName : ℕ → ℕ → TextPlace → Type 0
TakesName n b p = ((b ≡ 62) × (1 ≤ n) × (p ≡ Between)) ⊎ ((is_name_byte b ≡ true) × (n < 255) × (p ≡ InSymbol (n + 1)))

name_cases : (n b : ℕ) (p : TextPlace) → text_step (InSymbol n) b ≡ Some p → TakesName n b p
unfolding text_step
name_cases n b p e =
    elim (eqb b 62) as
    (λ c. eqb b 62 ≡ c
    → cond c (cond (eqb n 0) None (Some Between)) (cond (is_name_byte b && ltb n 255) (Some (InSymbol (n + 1))) None)
    ≡ Some p → TakesName n b p) [
      | true ↦ λ t. elim (eqb n 0) as (λ c. eqb n 0 ≡ c → cond c None (Some Between) ≡ Some p → TakesName n b p) [
        | true ↦ λ u f. absurd cc
        | false ↦ λ u f. inl (eqb-true b 62 t, positive n u, cc)
      ] refl
      | false ↦ λ t.
          elim (is_name_byte b && ltb n 255) as
          (λ c. (is_name_byte b && ltb n 255) ≡ c → cond c (Some (InSymbol (n + 1))) None ≡ Some p → TakesName n b p) [
            | true ↦ λ u f. let parts = and_parts (is_name_byte b) (ltb n 255) u in
                inr (parts.0, ltb-true n 255 parts.1, cc)
            | false ↦ λ u f. absurd cc
          ] refl
    ] refl e

symbol_took : (n : ℕ) (bytes : List ℕ) → 1 ≤ n → IsInSymbol n bytes → IsText (bytes ++ 62 ∷ [])
symbol_took n bytes some h =
    let name : IsName h.name =
    record { each = h.each; some = omega (arith, h.count); short = omega (arith, h.count, h.short) } in
    rw (h.are, append_assoc h.before (60 ∷ h.name) (62 ∷ [])) (text_snoc h.before (symbol h.name) h.text name)

name_took : (n b : ℕ) (bytes : List ℕ) → n < 255 → is_name_byte b ≡ true → IsInSymbol n bytes
    → IsInSymbol (n + 1) (bytes ++ b ∷ [])
name_took n b bytes lt h t =
    record {
      before = t.before;
      name = t.name ++ b ∷ [];
      text = t.text;
      each = all_snoc _ t.name b t.each h;
      count = omega (arith, length-append t.name (b ∷ []), t.count);
      short = omega arith;
      are = rw t.are (append_assoc t.before (60 ∷ t.name) (b ∷ []));
    }

step_took : (p : TextPlace) (b : ℕ) (bytes : List ℕ) → Took p bytes → (q : Option TextPlace) → text_step p b ≡ q
    → TookAll q (bytes ++ b ∷ [])
step_took p b bytes h None e = tt
step_took Between b bytes h (Some q) e =
    ⊎_elim
    (λ (w : (b ≡ 60) × (q ≡ InSymbol 0)). rw (w.0, w.1)
    (record { before = bytes; name = []; text = h; each = tt; count = refl; short = omega arith; are = refl }))
    (λ (w : (is_item_byte b ≡ true) × (q ≡ Between)). rw w.1 (text_snoc bytes (byte b) h w.0))
    (open_cases b q e)
step_took (InSymbol n) b bytes h (Some q) e =
    ⊎_elim
    (λ (w : (b ≡ 62) × (1 ≤ n) × (q ≡ Between)). rw (w.0, w.2) (symbol_took n bytes w.1 h))
    (λ (w : (is_name_byte b ≡ true) × (n < 255) × (q ≡ InSymbol (n + 1))). rw w.2 (name_took n b bytes w.1 w.0 h))
    (name_cases n b q e)

run_took : (more bytes : List ℕ) (p : Option TextPlace) → TookAll p bytes → TookAll (text_run p more) (bytes ++ more)
run_took more bytes None h = subst (λ p. TookAll p (bytes ++ more)) (sym (none_run more)) tt
run_took [] bytes (Some p) h = subst (λ x. Took p x) (sym (append-nil bytes)) h
run_took (b ∷ more) bytes (Some p) h =
    subst (λ x. TookAll (text_run (text_step p b) more) x) (append_assoc bytes (b ∷ []) more)
    (run_took more (bytes ++ b ∷ []) (text_step p b) (step_took p b bytes h (text_step p b) refl))

pub no_bytes : IsText []
no_bytes = ([], tt, refl)

pub took : (bytes : List ℕ) → TookAll (text_run (Some Between) bytes) bytes
took bytes = run_took bytes [] (Some Between) no_bytes

-- ---- the tests mean what they say

pub text_test : (bytes : List ℕ) → is_text bytes ≡ true → IsText bytes
unfolding is_text
text_test bytes e = between_took (text_run (Some Between) bytes) bytes e (took bytes)
  where
    between_took : (p : Option TextPlace) (x : List ℕ) → is_between p ≡ true → TookAll p x → IsText x
    between_took (Some Between) x e h = h
    between_took (Some (InSymbol n)) x e h = absurd cc
    between_took None x e h = absurd cc

pub text_tested : (bytes : List ℕ) → IsText bytes → is_text bytes ≡ true
unfolding is_text
text_tested bytes h =
    ap is_between (ap (λ x. text_run (Some Between) x) (sym (append-nil bytes)) ∙ text_runs bytes [] h)

-- the rest of an unfinished symbol
close_text : (p : TextPlace) (bytes : List ℕ) → Took p bytes → (more : List ℕ) × IsText (bytes ++ more)
close_text Between bytes h = ([], subst IsText (sym (append-nil bytes)) h)
close_text (InSymbol zero) bytes h = (
  97 ∷ 62 ∷ [],
  subst IsText (append_assoc bytes (97 ∷ []) (62 ∷ []))
      (symbol_took 1 (bytes ++ 97 ∷ []) (omega arith) (name_took 0 97 bytes (omega arith) refl h)),
)
close_text (InSymbol (suc n)) bytes h = (62 ∷ [], symbol_took (suc n) bytes (omega arith) h)

-- bytes begin a text where they can be continued to one
pub begins_test : (bytes : List ℕ) → begins_text bytes ≡ true → (more : List ℕ) × IsText (bytes ++ more)
unfolding begins_text
begins_test bytes e = close_taken (text_run (Some Between) bytes) bytes e (took bytes)
  where
    close_taken : (p : Option TextPlace) (x : List ℕ) → is_some p ≡ true → TookAll p x
        → (more : List ℕ) × IsText (x ++ more)
    close_taken (Some p) x e h = close_text p x h
    close_taken None x e h = absurd cc

pub begins_tested : (bytes more : List ℕ) → IsText (bytes ++ more) → begins_text bytes ≡ true
unfolding begins_text
begins_tested bytes more h =
    some_before (text_run (Some Between) bytes) (sym (text_run-append bytes more (Some Between))
    ∙ ap (λ x. text_run (Some Between) x) (sym (append-nil (bytes ++ more))) ∙ text_runs (bytes ++ more) [] h)
  where
    some_before : (p : Option TextPlace) → text_run p more ≡ Some Between → is_some p ≡ true
    some_before (Some p) e = refl
    some_before None e = let n = none_run more in absurd cc

-- ---- the longest front

-- what is read can be continued
pub begins_some : (bytes : List ℕ) (p : TextPlace) → text_run (Some Between) bytes ≡ Some p → begins_text bytes ≡ true
unfolding begins_text
begins_some bytes p e = ap is_some e

pub begins_none : (bytes : List ℕ) → text_run (Some Between) bytes ≡ None → begins_text bytes ≡ false
unfolding begins_text
begins_none bytes e = ap is_some e

-- one byte more
pub run_more : (bytes : List ℕ) (i : ℕ) (p : TextPlace) → i < length bytes
    → text_run (Some Between) (take i bytes) ≡ Some p
    → text_run (Some Between) (take (i + 1) bytes) ≡ text_step p (get_or bytes i 0)
run_more bytes i p lt e =
    ap (λ x. text_run (Some Between) x) (take_more bytes i 0 lt)
    ∙ text_run-append (take i bytes) (get_or bytes i 0 ∷ []) (Some Between)
    ∙ ap (λ q. text_run q (get_or bytes i 0 ∷ [])) e
    ∙ run_nothing (text_step p (get_or bytes i 0))
  where
    run_nothing : (q : Option TextPlace) → text_run q [] ≡ q
    run_nothing None = refl
    run_nothing (Some q) = refl

-- where the reading stops, the longest front ends
pub stops_at : (bytes : List ℕ) (i : ℕ) (p : TextPlace) → i < length bytes
    → text_run (Some Between) (take i bytes) ≡ Some p → text_step p (get_or bytes i 0) ≡ None
    → IsLongestFront IsText bytes i
stops_at bytes i p lt e stop =
    record {
      front = (omega arith, begins_test (take i bytes) (begins_some (take i bytes) p e));
      longest = λ m f. ⊎_elim (λ (past : i < m). absurd (no_front m past f)) (λ (le : m ≤ i). le) (cases_lt i m);
    }
  where
    no_front : (m : ℕ) → i < m → IsFront IsText bytes m → ⊥
    no_front m past f =
        let t = take_less bytes (i + 1) m (omega arith) in
        let whole : text_run (Some Between) (take m bytes) ≡ None = ap (λ x. text_run (Some Between) x) t.1
        ∙ text_run-append (take (i + 1) bytes) t.0 (Some Between)
        ∙ ap (λ q. text_run q t.0) (run_more bytes i p lt e ∙ stop) ∙ none_run t.0 in
        let begins = begins_tested (take m bytes) f.1.0 f.1.1 in
        let not = begins_none (take m bytes) whole in
        cc

-- an unfinished symbol is a front
pub ends_at : (bytes : List ℕ) (p : TextPlace) → text_run (Some Between) bytes ≡ Some p
    → IsLongestFront IsText bytes (length bytes)
ends_at bytes p e =
    record {
      front = (
        omega arith,
        subst (λ x. (more : List ℕ) × IsText (x ++ more)) (sym (take_all _ bytes (omega arith)))
            (begins_test bytes (begins_some bytes p e)),
      );
      longest = λ m f. f.0;
    }

not_text : (x : List ℕ) (m : ℕ) → text_run (Some Between) x ≡ Some (InSymbol m) → is_text x ≡ false
unfolding is_text
not_text x m e = ap is_between e

-- within a symbol the bytes are no text
pub in_symbol : (bytes : List ℕ) (n : ℕ) → text_run (Some Between) bytes ≡ Some (InSymbol n) → IsText bytes → ⊥
in_symbol bytes n e h = let tested = text_tested bytes h in let not = not_text bytes n e in cc

-- between items they are
pub between_text : (bytes : List ℕ) → text_run (Some Between) bytes ≡ Some Between → IsText bytes
between_text bytes e = subst (λ p. TookAll p bytes) e (took bytes)

-- the fault where the reading stops
pub fault_there : (bytes : List ℕ) (i : ℕ) (p : TextPlace) (fault : TextFault) → length bytes ≤ 1048575
    → i < length bytes → text_run (Some Between) (take i bytes) ≡ Some p
    → text_step p (get_or bytes i 0) ≡ None → fault ≡ fault_at p i → IsTextFault bytes fault
fault_there bytes i Between fault short lt e stop is =
    rw is (short, stops_at bytes i Between lt e stop, lt, between_text (take i bytes) e)
fault_there bytes i (InSymbol n) fault short lt e stop is =
    rw is (short, stops_at bytes i (InSymbol n) lt e stop, in_symbol (take i bytes) n e)

-- a text that grows
pub takes_more : (bytes : List ℕ) (p q : TextPlace) (b : ℕ) → text_run (Some Between) bytes ≡ Some p
    → text_step p b ≡ Some q → text_run (Some Between) (bytes ++ b ∷ []) ≡ Some q
takes_more bytes p q b e s = text_run-append bytes (b ∷ []) (Some Between) ∙ ap (λ x. text_run x (b ∷ [])) e
    ∙ ap (λ x. text_run x []) s

pub takes_yes : (bytes : List ℕ) (p q : TextPlace) (b : ℕ) → length bytes < 1048575
    → text_run (Some Between) bytes ≡ Some p → text_step p b ≡ Some q → true ≡ takes_byte bytes b
takes_yes bytes p q b lt e s =
    sym (and_from _ _ (lt-ltb _ _ lt) (begins_some (bytes ++ b ∷ []) q (takes_more bytes p q b e s)))

pub takes_no : (bytes : List ℕ) (p : TextPlace) (b : ℕ) → text_run (Some Between) bytes ≡ Some p → text_step p b ≡ None
    → false ≡ takes_byte bytes b
takes_no bytes p b e s =
    let stops : begins_text (bytes ++ b ∷ []) ≡ false =
    begins_none (bytes ++ b ∷ []) (text_run-append bytes (b ∷ []) (Some Between) ∙ ap (λ x. text_run x (b ∷ [])) e
    ∙ ap (λ x. text_run x []) s) in
    sym (ap (λ c. ltb (length bytes) 1048575 && c) stops ∙ and_no (ltb (length bytes) 1048575))
  where
    and_no : (c : Bool) → (c && false) ≡ false
    and_no true = refl
    and_no false = refl
