-- Bytes spell a tree within the limits, or have a fault.
use Rattle.std.proofs.Common.{◌≡◌, ℕ, List, [], ◌∷◌, ◌++◌, length, get_or, Option, Some, None, refl, ap, subst, ◌∙◌}
use Rattle.std.proofs.Common.{append_assoc, length-append, arith, ◌⊎◌, inl, inr, ⊎_elim}
use Rattle.std.proofs.lemmas.List.{append-nil}
use Rattle.std.proofs.Math.Seq.{take-append_seam, get_or-append_seam}
use Rattle.tx_tree.specs.declared.faults.Which.{Which}
use Rattle.tx_tree.specs.declared.faults.ReadFault.{ReadFault}
use Rattle.tx_tree.specs.declared.faults.ReadFault.TheVariants.{Unclosed, Limit}
use Rattle.tx_tree.specs.Limits.{IsWithinLimits}
use Rattle.tx_tree.specs.WideTree.{WideTree}
use Rattle.tx_tree.specs.ReadFaults.{IsPassed, SpellsSome}
use Rattle.tx_tree.proofs.OneFault.{passed}
use Rattle.tx_scm.specs.declared.spots.Spot.{Spot}
use Rattle.tx_scm.specs.declared.spots.Spot.TheVariants.{Between, Opened, Naming, Texting, Escaping, Whole}
use Rattle.tx_scm.specs.Kinds.{kind_of}
use Rattle.tx_scm.specs.Spelling.{Spells}
use Rattle.tx_scm.specs.Faults.{IsSchemeFault}
use Rattle.tx_scm.specs.Spots.{step, spots, fault_at}
use Rattle.tx_scm.proofs.Following.{spots_nothing, spots-append}
use Rattle.tx_scm.proofs.Fronts.{stopped, unfinished, spelled}

abbrev start : Option Spot
start = Some (Between 0)

abbrev HasFault : List ℕ → Type 0
HasFault bytes = (f : ReadFault) × IsSchemeFault bytes f

-- the scan stops at the byte after x
stops_here : (x y : List ℕ) (b : ℕ) (s : Spot) → spots start x ≡ Some s → step s (kind_of b) b ≡ None
    → HasFault (x ++ b ∷ y)
stops_here x y b s e stop =
    let bytes : List ℕ = x ++ b ∷ y in
    let is : get_or bytes (length x) 0 ≡ b = get_or-append_seam x b y 0 in (
      fault_at s (length x),
      stopped bytes (length x) s (omega (arith, length-append x (b ∷ y)))
          (ap (λ z. spots start z) (take-append_seam x (b ∷ y)) ∙ e) (ap (λ c. step s (kind_of c) c) is ∙ stop),
    )

-- the scan stops within y, or goes on after it
scan_on : (y x : List ℕ) (s : Spot) → spots start x ≡ Some s → ((t : Spot) × (spots start (x ++ y) ≡ Some t))
    ⊎ HasFault (x ++ y)
scan_on [] x s e = inl (s, ap (λ z. spots start z) (append-nil x) ∙ e)
scan_on (b ∷ y) x s e = by_step (step s (kind_of b) b) refl (λ n more. scan_on y (x ++ b ∷ []) n more)
  where
    by_step : (n : Option Spot) → step s (kind_of b) b ≡ n
        → ((t : Spot) → spots start (x ++ b ∷ []) ≡ Some t → ((u : Spot) × (spots start ((x ++ b ∷ []) ++ y) ≡ Some u))
        ⊎ HasFault ((x ++ b ∷ []) ++ y))
        → ((t : Spot) × (spots start (x ++ b ∷ y) ≡ Some t)) ⊎ HasFault (x ++ b ∷ y)
    by_step None f on = inr (stops_here x y b s e f)
    by_step (Some n) f on =
        let more : spots start (x ++ b ∷ []) ≡ Some n = spots-append x (b ∷ []) start ∙ ap (λ s. spots s (b ∷ [])) e
        ∙ spots_nothing (step s (kind_of b) b) ∙ f in
        subst (λ z. ((t : Spot) × (spots start z ≡ Some t)) ⊎ HasFault z) (append_assoc x (b ∷ []) y) (on n more)

abbrev IsRead : List ℕ → Type 0
IsRead bytes = (t : WideTree) × Spells bytes t × IsWithinLimits t

spelled_or : (bytes : List ℕ) → SpellsSome Spells bytes → IsRead bytes ⊎ HasFault bytes
spelled_or bytes h =
    ⊎_elim (λ (w : IsWithinLimits h.0). inl (h.0, h.1, w)) (λ (p : (w : Which) × (n : ℕ) × IsPassed h.0 w n).
    inr (Limit p.0 p.1, (h.0, h.1, p.2))) (passed h.0)

ended : (bytes : List ℕ) (s : Spot) → spots start bytes ≡ Some s → IsRead bytes ⊎ HasFault bytes
ended bytes Whole e = spelled_or bytes (spelled bytes e)
ended bytes (Between d) e = inr (Unclosed (length bytes), unfinished bytes (Between d) e (λ f. cc))
ended bytes (Opened d) e = inr (Unclosed (length bytes), unfinished bytes (Opened d) e (λ f. cc))
ended bytes (Naming l d) e = inr (Unclosed (length bytes), unfinished bytes (Naming l d) e (λ f. cc))
ended bytes (Texting p d) e = inr (Unclosed (length bytes), unfinished bytes (Texting p d) e (λ f. cc))
ended bytes (Escaping p d) e = inr (Unclosed (length bytes), unfinished bytes (Escaping p d) e (λ f. cc))

pub read_or_fault : (bytes : List ℕ) → IsRead bytes ⊎ HasFault bytes
read_or_fault bytes =
    ⊎_elim (λ (t : (t : Spot) × (spots start bytes ≡ Some t)). ended bytes t.0 t.1) (λ (f : HasFault bytes). inr f)
    (scan_on bytes [] (Between 0) refl)
