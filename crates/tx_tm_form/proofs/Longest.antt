-- The longest front ends where the machine cannot go on.
use Rattle.std.proofs.Common.{◌≡◌, ◌⊎◌, ⊎_elim, inl, inr, ℕ, suc, ◌<◌, ◌≤◌, Bool, true, false, List}
use Rattle.std.proofs.Common.{◌++◌, length, take, refl, ap, ◌∙◌, arith}
use Rattle.std.proofs.lemmas.Bool.{cases_lt}
use Rattle.tx_tree.specs.WideTree.{WideTree}
use Rattle.tx_tm_form.specs.Machine.{keep, start, run}
use Rattle.tx_tm_form.specs.Forms.{Spells, IsTmFront}
use Rattle.tx_tm_form.specs.Fronts.{goes_on, StopsAt, IsLongestTmFront}
use Rattle.tx_tm_form.proofs.Stops.{run_stops, run_append, front_goes_on}
use Rattle.tx_tm_form.proofs.Closing.{goes_on_is_front}
use Rattle.tx_base.proofs.Fronts.{take_less}

no_front : (bytes : List ℕ) (i m : ℕ) → i ≤ m → goes_on (run keep start (take i bytes)) ≡ false → IsTmFront bytes m → ⊥
no_front bytes i m h e f =
    let t = take_less bytes i m h in
    let stopped : goes_on (run keep start (take m bytes)) ≡ false = ap (λ x. goes_on (run keep start x)) t.1
    ∙ ap goes_on (run_append (take i bytes) t.0 start) ∙ run_stops t.0 (run keep start (take i bytes)) e in
    let on = front_goes_on (take m bytes) f.1.0 f.1.1.0 f.1.1.1 in
    cc

longest_at : (bytes : List ℕ) (n m : ℕ) → (n ≡ length bytes) ⊎ (goes_on (run keep start (take (suc n) bytes)) ≡ false)
    → IsTmFront bytes m → m ≤ n
longest_at bytes n m (inl e) f = omega (arith, f.0, e)
longest_at bytes n m (inr e) f =
    ⊎_elim (λ (past : n < m). absurd (no_front bytes (suc n) m (omega arith) e f)) (λ (le : m ≤ n). le) (cases_lt n m)

followed : (x : List ℕ) → goes_on (run keep start x) ≡ true → (more : List ℕ) × ((t : WideTree) × Spells (x ++ more) t)
followed x h = let f = goes_on_is_front x h in (f.0, (f.1, f.2))

pub stop_is_longest : (bytes : List ℕ) (n : ℕ) → StopsAt bytes n → IsLongestTmFront bytes n
stop_is_longest bytes n h =
    record { front = (h.within, followed (take n bytes) h.taken); longest = λ m f. longest_at bytes n m h.stop f }

abbrev stops_or_not : List ℕ → ℕ → Bool → Type 0
stops_or_not bytes n z =
    goes_on (run keep start (take (suc n) bytes)) ≡ z
    → (n ≡ length bytes) ⊎ (goes_on (run keep start (take (suc n) bytes)) ≡ false)

stops_behind : (bytes : List ℕ) (n : ℕ) → IsLongestTmFront bytes n → n < length bytes
    → (n ≡ length bytes) ⊎ (goes_on (run keep start (take (suc n) bytes)) ≡ false)
stops_behind bytes n h lt =
    elim (goes_on (run keep start (take (suc n) bytes))) as (λ z. stops_or_not bytes n z) [
      | true ↦ λ e. let k : suc n ≤ n = h.longest (suc n) (omega (arith, lt), followed (take (suc n) bytes) e) in
          absurd (omega (arith, k))
      | false ↦ λ e. inr e
    ] refl

pub longest_is_stop : (bytes : List ℕ) (n : ℕ) → IsLongestTmFront bytes n → StopsAt bytes n
longest_is_stop bytes n h =
    record {
      within = h.front.0;
      taken = front_goes_on (take n bytes) h.front.1.0 h.front.1.1.0 h.front.1.1.1;
      stop = ⊎_elim (λ (lt : n < length bytes). stops_behind bytes n h lt)
          (λ (le : length bytes ≤ n). inl (omega (arith, le, h.front.0))) (cases_lt n (length bytes));
    }
