-- Bytes spell a path or have one fault.
use Rattle.std.proofs.Common.{◌≡◌, ℕ, zero, suc, ◌+◌, List, [], ◌∷◌, ◌++◌, length, take, get_or, Option, Some}
use Rattle.std.proofs.Common.{None, refl, sym, ap, ◌∙◌, arith, ◌⊎◌, inl, inr}
use Rattle.std.proofs.lemmas.List.{take_all}
use Rattle.tx_base.proofs.Fronts.{one_front}
use Rattle.tx_tree.specs.declared.faults.PathFault.{PathFault}
use Rattle.tx_tree.specs.declared.faults.PathFault.TheVariants.{BadPath, Memory}
use Rattle.tx_tree.specs.PathSpelling.{SpellsPath, IsPathSpelling, IsPathFault}
use Rattle.tx_tree.specs.PathScan.{PathState, start, reading, path_step, path_run}
use Rattle.tx_tree.proofs.PathReading.{run_more, stops_at, ends_at_start, ends_at_slash, read_path, read_root}

pub path_fault_once : (bytes : List ℕ) (f g : PathFault) → IsPathFault bytes f → IsPathFault bytes g → f ≡ g
path_fault_once bytes (BadPath m) (BadPath n) h k = ap (λ i. BadPath i) (one_front IsPathSpelling bytes m n h.0 k.0)
path_fault_once bytes (BadPath m) Memory h k = absurd k
path_fault_once bytes Memory g h k = absurd h

pub path_has_no_fault : (bytes path : List ℕ) (fault : PathFault) → SpellsPath bytes path → IsPathFault bytes fault → ⊥
path_has_no_fault bytes path (BadPath n) h f = f.1 (path, h)
path_has_no_fault bytes path Memory h f = f

abbrev IsPathOr : List ℕ → Type 0
IsPathOr bytes = ((path : List ℕ) × SpellsPath bytes path) ⊎ ((fault : PathFault) × IsPathFault bytes fault)

at_end : (bytes : List ℕ) (s : PathState) → path_run (Some (start [])) bytes ≡ Some s → IsPathOr bytes
at_end bytes (start finished) e = inr (BadPath (length bytes), ends_at_start bytes finished e)
at_end bytes (reading [] zero v) e = inl ([], read_root bytes v e)
at_end bytes (reading (n ∷ finished) zero v) e =
    inr (BadPath (length bytes), ends_at_slash bytes (n ∷ finished) v e (omega arith))
at_end bytes (reading finished (suc k) v) e =
    inl (finished ++ v ∷ [], read_path bytes finished (suc k) v e (omega arith))

path_or_from : (bytes : List ℕ) (k i : ℕ) (s : PathState) → i + k ≡ length bytes
    → path_run (Some (start [])) (take i bytes) ≡ Some s → IsPathOr bytes
path_or_from bytes zero i s all e =
    at_end bytes s (ap (path_run (Some (start []))) (sym (take_all i bytes (omega arith))) ∙ e)
path_or_from bytes (suc k) i s all e =
    by_step (path_step s (get_or bytes i 0)) refl (λ t r. path_or_from bytes k (i + 1) t (omega arith) r)
  where
    by_step : (o : Option PathState) → path_step s (get_or bytes i 0) ≡ o
        → ((t : PathState) → path_run (Some (start [])) (take (i + 1) bytes) ≡ Some t → IsPathOr bytes) → IsPathOr bytes
    by_step None stop on = inr (BadPath i, stops_at bytes i s (omega arith) e stop)
    by_step (Some t) step on = on t (run_more bytes i s (omega arith) e ∙ step)

pub path_or_fault : (bytes : List ℕ) → ((path : List ℕ) × SpellsPath bytes path)
    ⊎ ((fault : PathFault) × IsPathFault bytes fault)
path_or_fault bytes = path_or_from bytes (length bytes) 0 (start []) (omega arith) refl
