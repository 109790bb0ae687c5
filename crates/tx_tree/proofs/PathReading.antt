-- A path is what is read to its end byte by byte.
use Rattle.std.proofs.Common.{◌≡◌, ℕ, zero, suc, ◌+◌, ◌-◌, ◌*◌, ◌<◌, ◌≤◌, true, false, eqb, cond, List, [], ◌∷◌, ◌++◌}
use Rattle.std.proofs.Common.{length, take, get_or, Option, Some, None, refl, sym, ap, subst, ◌∙◌, append_assoc}
use Rattle.std.proofs.Common.{length-append, arith, ◌⊎◌, inl, inr, ⊎_elim}
use Rattle.std.specs.List.{AllByRecursion}
use Rattle.std.proofs.lemmas.List.{append-nil, take_more, take_all}
use Rattle.std.proofs.lemmas.Bool.{ltb-true, leb-true, eqb-true, and_parts, cases_lt}
use Rattle.tx_base.specs.Fronts.{IsLongestFront}
use Rattle.tx_tree.specs.PathSpelling.{is_digit, number_after, IsNumber, AreNumbers, SpellsPath, IsPathSpelling}
use Rattle.tx_tree.specs.PathScan.{PathState, start, reading, ends_number, takes_digit, path_step, path_run}
use Rattle.tx_base.proofs.Fronts.{take_less}

abbrev AreDigits : List ℕ → Type 0
AreDigits = AllByRecursion (λ b. is_digit b ≡ true)

-- ---- what spells a path is read

open_step : path_step (start []) 47 ≡ Some (reading [] 0 0)
unfolding path_step
open_step = refl

slash_step : (finished : List ℕ) (k v : ℕ) → 1 ≤ k → length finished + 1 < 400
    → path_step (reading finished k v) 47 ≡ Some (reading (finished ++ v ∷ []) 0 0)
unfolding path_step
slash_step finished k v some few = grind arith

digit_step : (finished : List ℕ) (k v b : ℕ) → is_digit b ≡ true → k < 10 → v * 10 + (b - 48) ≤ 4294967295
    → path_step (reading finished k v) b ≡ Some (reading finished (k + 1) (v * 10 + (b - 48)))
unfolding path_step
digit_step finished k v b h lt le = grind arith

-- digits only make a number greater
pub number_grows : (v : ℕ) (digits : List ℕ) → v ≤ number_after v digits
number_grows v [] = omega arith
number_grows v (b ∷ digits) = omega (arith, number_grows (v * 10 + (b - 48)) digits)

digits_run : (finished : List ℕ) (k v : ℕ) (digits rest : List ℕ) → AreDigits digits → k + length digits ≤ 10
    → number_after v digits ≤ 4294967295
    → path_run (Some (reading finished k v)) (digits ++ rest) ≡ path_run
    (Some (reading finished (k + length digits) (number_after v digits))) rest
digits_run finished k v [] rest h short fits =
    ap (λ n. path_run (Some (reading finished n v)) rest) (let e : k ≡ k + 0 = omega arith in e)
digits_run finished k v (b ∷ digits) rest h short fits =
    let next = v * 10 + (b - 48) in
    ap (λ s. path_run s (digits ++ rest))
    (digit_step finished k v b h.0 (omega arith) (omega (arith, number_grows next digits)))
    ∙ digits_run finished (k + 1) next digits rest h.1 (omega arith) fits
    ∙ ap (λ n. path_run (Some (reading finished n (number_after next digits))) rest)
    (let e : (k + 1) + length digits ≡ k + length (b ∷ digits) = omega arith in e)

number_run : (finished digits rest : List ℕ) (n : ℕ) → IsNumber digits n
    → path_run (Some (reading finished 0 0)) (digits ++ rest) ≡ path_run (Some (reading finished (length digits) n))
    rest
number_run finished digits rest n h =
    digits_run finished 0 0 digits rest h.each (omega (arith, h.short)) (let fits = h.fits in let value = h.value in
    omega arith)
    ∙ ap (λ k. path_run (Some (reading finished k (number_after 0 digits))) rest)
    (let e : 0 + length digits ≡ length digits = omega arith in e)
    ∙ ap (λ v. path_run (Some (reading finished (length digits) v)) rest) (sym h.value)

-- a path ends after a number, or after the / of the root
abbrev IsEnd : Option PathState → Type 0
IsEnd None = ⊥
IsEnd (Some (start finished)) = ⊥
IsEnd (Some (reading finished k v)) = (1 ≤ k) ⊎ ((k ≡ 0) × (finished ≡ []))

numbers_run : (path bytes finished : List ℕ) (k v : ℕ) → AreNumbers bytes path → 1 ≤ k
    → length finished + 1 + length path ≤ 400
    → IsEnd (path_run (Some (reading finished k v)) bytes)
numbers_run [] bytes finished k v h some few =
    subst (λ x. IsEnd (path_run (Some (reading finished k v)) x)) (sym h) (inl some)
numbers_run (n ∷ path) bytes finished k v h some few =
    let e : path_run (Some (reading finished k v)) bytes ≡ path_run (Some (reading (finished ++ v ∷ []) (length h.0) n))
    h.1 =
    ap (path_run (Some (reading finished k v))) h.3
    ∙ ap (λ s. path_run s (h.0 ++ h.1)) (slash_step finished k v some (omega arith))
    ∙ number_run (finished ++ v ∷ []) h.0 h.1 n h.2 in
    subst IsEnd (sym e)
    (numbers_run path h.1 (finished ++ v ∷ []) (length h.0) n h.4 h.2.some
    (omega (arith, length-append finished (v ∷ []))))

-- a spelled path is read to an end
pub spelled_run : (path bytes : List ℕ) → SpellsPath bytes path → IsEnd (path_run (Some (start [])) bytes)
spelled_run [] bytes h =
    let e : path_run (Some (start [])) bytes ≡ Some (reading [] 0 0) = ap (path_run (Some (start []))) h
    ∙ ap (λ s. path_run s []) open_step in
    subst IsEnd (sym e) (inr (refl, refl))
spelled_run (n ∷ path) bytes h =
    let e : path_run (Some (start [])) bytes ≡ path_run (Some (reading [] (length h.0.0) n)) h.0.1 =
    ap (path_run (Some (start []))) h.0.3 ∙ ap (λ s. path_run s (h.0.0 ++ h.0.1)) open_step
    ∙ number_run [] h.0.0 h.0.1 n h.0.2 in
    subst IsEnd (sym e) (numbers_run path h.0.1 [] (length h.0.0) n h.0.4 h.0.2.some (omega (arith, h.1)))

none_run : (rest : List ℕ) → path_run None rest ≡ None
none_run [] = refl
none_run (b ∷ rest) = refl

path_run-append : (x y : List ℕ) (s : Option PathState) → path_run s (x ++ y) ≡ path_run (path_run s x) y
path_run-append [] y None = refl
path_run-append [] y (Some s) = refl
path_run-append (b ∷ x) y None = sym (none_run y)
path_run-append (b ∷ x) y (Some s) = path_run-append x y (path_step s b)

-- ---- what is read begins a path

-- what the bytes so far are
pub record IsReading (finished : List ℕ) (k v : ℕ) (bytes : List ℕ) : Type 0 where
  pub before : List ℕ
  pub digits : List ℕ
  pub numbers : AreNumbers before finished
  pub each : AreDigits digits
  pub count : length digits ≡ k
  pub short : k ≤ 10
  pub value : v ≡ number_after 0 digits
  pub fits : v ≤ 4294967295
  pub few : length finished < 400
  pub are : bytes ≡ before ++ 47 ∷ digits

abbrev pub Took : PathState → List ℕ → Type 0
Took (start finished) bytes = (bytes ≡ []) × (finished ≡ [])
Took (reading finished k v) bytes = IsReading finished k v bytes

abbrev pub TookAll : Option PathState → List ℕ → Type 0
TookAll None bytes = Unit {0}
TookAll (Some s) bytes = Took s bytes

numbers_snoc : (path before digits : List ℕ) (n : ℕ) → AreNumbers before path → IsNumber digits n
    → AreNumbers (before ++ 47 ∷ digits) (path ++ n ∷ [])
numbers_snoc [] before digits n h k =
    subst (λ x. AreNumbers (x ++ 47 ∷ digits) (n ∷ [])) (sym h)
    (digits, [], k, ap (λ x. 47 ∷ x) (sym (append-nil digits)), refl)
numbers_snoc (m ∷ path) before digits n h k = (
  h.0,
  h.1 ++ 47 ∷ digits,
  h.2,
  ap (λ x. x ++ 47 ∷ digits) h.3
      ∙ ap (λ x. 47 ∷ x) (append_assoc h.0 h.1 (47 ∷ digits)),
  numbers_snoc path h.1 digits n h.4 k,
)

pub number_after-append : (v : ℕ) (x y : List ℕ) → number_after v (x ++ y) ≡ number_after (number_after v x) y
number_after-append v [] y = refl
number_after-append v (b ∷ x) y = number_after-append (v * 10 + (b - 48)) x y

all_snoc : (x : List ℕ) (b : ℕ) → AreDigits x → is_digit b ≡ true → AreDigits (x ++ b ∷ [])
all_snoc [] b h k = (k, tt)
all_snoc (y ∷ x) b h k = (h.0, all_snoc x b h.1 k)

-- the digits so far are a number
read_number : (finished : List ℕ) (k v : ℕ) (bytes : List ℕ) (h : IsReading finished k v bytes) → 1 ≤ k
    → IsNumber h.digits v
read_number finished k v bytes h some =
    record {
      each = h.each;
      some = omega (arith, h.count);
      short = omega (arith, h.count, h.short);
      value = h.value;
      fits = h.fits;
    }

took_slash : (finished : List ℕ) (k v : ℕ) (bytes : List ℕ) → IsReading finished k v bytes → 1 ≤ k
    → length finished + 1 < 400 → IsReading (finished ++ v ∷ []) 0 0 (bytes ++ 47 ∷ [])
took_slash finished k v bytes h some few =
    record {
      before = h.before ++ 47 ∷ h.digits;
      digits = [];
      numbers = numbers_snoc finished h.before h.digits v h.numbers (read_number finished k v bytes h some);
      each = tt;
      count = refl;
      short = omega arith;
      value = refl;
      fits = omega arith;
      few = omega (arith, length-append finished (v ∷ []));
      are = ap (λ x. x ++ 47 ∷ []) h.are;
    }

took_digit : (finished : List ℕ) (k v b : ℕ) (bytes : List ℕ) → IsReading finished k v bytes → is_digit b ≡ true
    → k < 10 → v * 10 + (b - 48) ≤ 4294967295
    → IsReading finished (k + 1) (v * 10 + (b - 48)) (bytes ++ b ∷ [])
took_digit finished k v b bytes h d lt le =
    record {
      before = h.before;
      digits = h.digits ++ b ∷ [];
      numbers = h.numbers;
      each = all_snoc h.digits b h.each d;
      count = omega (arith, length-append h.digits (b ∷ []), h.count);
      short = omega arith;
      value = ap (λ n. n * 10 + (b - 48)) h.value ∙ sym (number_after-append 0 h.digits (b ∷ []));
      fits = le;
      few = h.few;
      are = ap (λ x. x ++ b ∷ []) h.are ∙ append_assoc h.before (47 ∷ h.digits) (b ∷ []);
    }

-- how one byte is taken
start_cases : (finished : List ℕ) (b : ℕ) (s : PathState) → path_step (start finished) b ≡ Some s
    → (b ≡ 47) × (s ≡ reading finished 0 0)
unfolding path_step
start_cases finished b s e =
    elim (eqb b 47) as (λ c. eqb b 47 ≡ c → cond c (Some (reading finished 0 0)) None ≡ Some s
    → (b ≡ 47) × (s ≡ reading finished 0 0)) [
      | true ↦ λ t f. (eqb-true b 47 t, cc)
      | false ↦ λ t f. absurd cc
    ] refl e

abbrev TakesByte : List ℕ → ℕ → ℕ → ℕ → PathState → Type 0
TakesByte finished k v b s =
    ((b ≡ 47) × (ends_number finished k ≡ true) × (s ≡ reading (finished ++ v ∷ []) 0 0))
    ⊎ ((takes_digit k v b ≡ true) × (s ≡ reading finished (k + 1) (v * 10 + (b - 48))))

reading_cases : (finished : List ℕ) (k v b : ℕ) (s : PathState) → path_step (reading finished k v) b ≡ Some s
    → TakesByte finished k v b s
unfolding path_step
reading_cases finished k v b s e =
    elim (eqb b 47) as
    (λ c. eqb b 47 ≡ c → cond c (cond (ends_number finished k) (Some (reading (finished ++ v ∷ []) 0 0)) None)
    (cond (takes_digit k v b) (Some (reading finished (k + 1) (v * 10 + (b - 48)))) None) ≡ Some s
    → TakesByte finished k v b s) [
      | true ↦ λ t.
          elim (ends_number finished k) as
          (λ c. ends_number finished k ≡ c → cond c (Some (reading (finished ++ v ∷ []) 0 0)) None ≡ Some s
          → TakesByte finished k v b s) [
            | true ↦ λ u f. inl (eqb-true b 47 t, u, cc)
            | false ↦ λ u f. absurd cc
          ] refl
      | false ↦ λ t.
          elim (takes_digit k v b) as
          (λ c. takes_digit k v b ≡ c → cond c (Some (reading finished (k + 1) (v * 10 + (b - 48)))) None ≡ Some s
          → TakesByte finished k v b s) [
            | true ↦ λ u f. inr (u, cc)
            | false ↦ λ u f. absurd cc
          ] refl
    ] refl e

step_took : (s : PathState) (b : ℕ) (bytes : List ℕ) → Took s bytes → (q : Option PathState) → path_step s b ≡ q
    → TookAll q (bytes ++ b ∷ [])
step_took s b bytes h None e = tt
step_took (start finished) b bytes h (Some q) e =
    let w = start_cases finished b q e in
    rw (w.0, w.1, h.0, h.1)
    (record {
      before = [];
      digits = [];
      numbers = refl;
      each = tt;
      count = refl;
      short = omega arith;
      value = refl;
      fits = omega arith;
      few = omega arith;
      are = refl;
    })
step_took (reading finished k v) b bytes h (Some q) e =
    ⊎_elim
    (λ (w : (b ≡ 47) × (ends_number finished k ≡ true) × (q ≡ reading (finished ++ v ∷ []) 0 0)).
    let parts = and_parts _ _ w.1 in
    rw (w.0, w.2)
    (took_slash finished k v bytes h (ltb-true 0 k parts.0) (ltb-true (length finished + 1) 400 parts.1)))
    (λ (w : (takes_digit k v b ≡ true) × (q ≡ reading finished (k + 1) (v * 10 + (b - 48)))).
    let parts = and_parts _ _ w.0 in let more = and_parts _ _ parts.1 in
    rw w.1 (took_digit finished k v b bytes h parts.0 (ltb-true k 10 more.0) (leb-true _ _ more.1)))
    (reading_cases finished k v b q e)

run_took : (more bytes : List ℕ) (s : Option PathState) → TookAll s bytes → TookAll (path_run s more) (bytes ++ more)
run_took more bytes None h = subst (λ s. TookAll s (bytes ++ more)) (sym (none_run more)) tt
run_took [] bytes (Some s) h = subst (λ x. Took s x) (sym (append-nil bytes)) h
run_took (b ∷ more) bytes (Some s) h =
    subst (λ x. TookAll (path_run (path_step s b) more) x) (append_assoc bytes (b ∷ []) more)
    (run_took more (bytes ++ b ∷ []) (path_step s b) (step_took s b bytes h (path_step s b) refl))

took : (bytes : List ℕ) (s : PathState) → path_run (Some (start [])) bytes ≡ Some s → Took s bytes
took bytes s e = subst (λ q. TookAll q bytes) e (run_took bytes [] (Some (start [])) (refl, refl))

-- numbers that are not too many spell a path
pub spelled_numbers : (finished bytes : List ℕ) (n : ℕ) → AreNumbers bytes (finished ++ n ∷ []) → length finished < 400
    → SpellsPath bytes (finished ++ n ∷ [])
spelled_numbers [] bytes n h few = (h, omega arith)
spelled_numbers (m ∷ finished) bytes n h few = (h, omega (arith, length-append finished (n ∷ [])))

-- after a digit, the bytes spell the path
pub read_path : (bytes finished : List ℕ) (k v : ℕ) → path_run (Some (start [])) bytes ≡ Some (reading finished k v)
    → 1 ≤ k → SpellsPath bytes (finished ++ v ∷ [])
read_path bytes finished k v e some =
    let h : IsReading finished k v bytes = took bytes (reading finished k v) e in
    spelled_numbers finished bytes v
    (subst (λ x. AreNumbers x (finished ++ v ∷ [])) (sym h.are)
    (numbers_snoc finished h.before h.digits v h.numbers (read_number finished k v bytes h some))) h.few

no_digits : (digits : List ℕ) → length digits ≡ 0 → digits ≡ []
no_digits [] e = refl
no_digits (b ∷ digits) e = absurd (omega arith)

-- after the first /, the bytes spell the root
pub read_root : (bytes : List ℕ) (v : ℕ) → path_run (Some (start [])) bytes ≡ Some (reading [] 0 v)
    → SpellsPath bytes []
read_root bytes v e =
    let h : IsReading [] 0 v bytes = took bytes (reading [] 0 v) e in
    h.are ∙ ap (λ x. x ++ 47 ∷ h.digits) h.numbers ∙ ap (λ x. 47 ∷ x) (no_digits h.digits h.count)

naught : IsNumber (48 ∷ []) 0
naught = record { each = (refl, tt); some = omega arith; short = omega arith; value = refl; fits = omega arith }

-- what is read can be continued
close_path : (s : PathState) (bytes : List ℕ) → Took s bytes → (more : List ℕ) × IsPathSpelling (bytes ++ more)
close_path (start finished) bytes h = (47 ∷ [], ([], ap (λ x. x ++ 47 ∷ []) h.0))
close_path (reading finished zero v) bytes h =
    let numbers = numbers_snoc finished h.before (48 ∷ []) 0 h.numbers naught in
    let are : bytes ++ 48 ∷ [] ≡ h.before ++ 47 ∷ 48 ∷ [] = ap (λ x. x ++ 48 ∷ []) h.are
    ∙ append_assoc h.before (47 ∷ h.digits) (48 ∷ [])
    ∙ ap (λ x. h.before ++ 47 ∷ (x ++ 48 ∷ [])) (no_digits h.digits h.count) in (
      48 ∷ [],
      (
        finished ++ 0 ∷ [],
        spelled_numbers finished (bytes ++ 48 ∷ []) 0 (subst (λ x. AreNumbers x (finished ++ 0 ∷ [])) (sym are) numbers)
            h.few,
      ),
    )
close_path (reading finished (suc k) v) bytes h =
    let numbers =
    numbers_snoc finished h.before h.digits v h.numbers (read_number finished (suc k) v bytes h (omega arith)) in (
      [],
      (
        finished ++ v ∷ [],
        spelled_numbers finished (bytes ++ []) v
            (subst (λ x. AreNumbers x (finished ++ v ∷ [])) (sym h.are ∙ sym (append-nil bytes)) numbers) h.few,
      ),
    )

-- ---- the longest front

-- one byte more
pub run_more : (bytes : List ℕ) (i : ℕ) (s : PathState) → i < length bytes
    → path_run (Some (start [])) (take i bytes) ≡ Some s
    → path_run (Some (start [])) (take (i + 1) bytes) ≡ path_step s (get_or bytes i 0)
run_more bytes i s lt e =
    ap (path_run (Some (start []))) (take_more bytes i 0 lt)
    ∙ path_run-append (take i bytes) (get_or bytes i 0 ∷ []) (Some (start []))
    ∙ ap (λ q. path_run q (get_or bytes i 0 ∷ [])) e
    ∙ run_nothing (path_step s (get_or bytes i 0))
  where
    run_nothing : (q : Option PathState) → path_run q [] ≡ q
    run_nothing None = refl
    run_nothing (Some q) = refl

-- bytes that stop the reading begin no path
stopped : (x more : List ℕ) → path_run (Some (start [])) x ≡ None → IsPathSpelling (x ++ more) → ⊥
stopped x more stop h =
    subst IsEnd (path_run-append x more (Some (start [])) ∙ ap (λ q. path_run q more) stop ∙ none_run more)
    (spelled_run h.0 (x ++ more) h.1)

-- where the reading stops, the longest front ends
pub stops_at : (bytes : List ℕ) (i : ℕ) (s : PathState) → i < length bytes
    → path_run (Some (start [])) (take i bytes) ≡ Some s → path_step s (get_or bytes i 0) ≡ None
    → IsLongestFront IsPathSpelling bytes i × (IsPathSpelling bytes → ⊥)
stops_at bytes i s lt e stop = (
  record {
    front = (omega arith, close_path s (take i bytes) (took (take i bytes) s e));
    longest = λ m f. ⊎_elim (λ (past : i < m). absurd (no_front m past f.1.0 f.1.1)) (λ (le : m ≤ i). le)
        (cases_lt i m);
  },
  λ h. no_front (length bytes) lt []
      (subst IsPathSpelling (sym (append-nil (take (length bytes) bytes) ∙ take_all (length bytes) bytes (omega arith)))
      h),
)
  where
    no_front : (m : ℕ) → i < m → (more : List ℕ) → IsPathSpelling (take m bytes ++ more) → ⊥
    no_front m past more h =
        let t = take_less bytes (i + 1) m (omega arith) in
        stopped (take (i + 1) bytes) (t.0 ++ more) (run_more bytes i s lt e ∙ stop)
        (subst IsPathSpelling (ap (λ x. x ++ more) t.1 ∙ append_assoc (take (i + 1) bytes) t.0 more) h)

-- bytes that are read, but not to an end, are a front and spell nothing
pub ends_at : (bytes : List ℕ) (s : PathState) → path_run (Some (start [])) bytes ≡ Some s → (IsEnd (Some s) → ⊥)
    → IsLongestFront IsPathSpelling bytes (length bytes) × (IsPathSpelling bytes → ⊥)
ends_at bytes s e unended = (
  record {
    front = (
      omega arith,
      subst (λ x. (more : List ℕ) × IsPathSpelling (x ++ more)) (sym (take_all _ bytes (omega arith)))
          (close_path s bytes (took bytes s e)),
    );
    longest = λ m f. f.0;
  },
  λ h. unended (subst IsEnd e (spelled_run h.0 bytes h.1)),
)

pub ends_at_start : (bytes finished : List ℕ) → path_run (Some (start [])) bytes ≡ Some (start finished)
    → IsLongestFront IsPathSpelling bytes (length bytes) × (IsPathSpelling bytes → ⊥)
ends_at_start bytes finished e = ends_at bytes (start finished) e (λ h. h)

pub ends_at_slash : (bytes finished : List ℕ) (v : ℕ) → path_run (Some (start [])) bytes ≡ Some (reading finished 0 v)
    → 1 ≤ length finished
    → IsLongestFront IsPathSpelling bytes (length bytes) × (IsPathSpelling bytes → ⊥)
ends_at_slash bytes finished v e some =
    ends_at bytes (reading finished 0 v) e
    (⊎_elim (λ (h : 1 ≤ 0). absurd (omega arith))
    (λ (h : (0 ≡ 0) × (finished ≡ [])). absurd (omega (arith, ap length h.1))))

-- at the end of all bytes
pub whole_run : (bytes : List ℕ) (i : ℕ) (s t : PathState) → length bytes ≤ i
    → path_run (Some (start [])) (take i bytes) ≡ Some s → s ≡ t → path_run (Some (start [])) bytes ≡ Some t
whole_run bytes i s t le e same = ap (path_run (Some (start []))) (sym (take_all i bytes le)) ∙ e
    ∙ ap (λ x. Some x) same

some_numbers : (finished : List ℕ) → (finished ≡ [] → ⊥) → 1 ≤ length finished
some_numbers [] h = absurd (h refl)
some_numbers (n ∷ finished) h = omega arith
