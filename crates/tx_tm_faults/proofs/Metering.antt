-- Measuring, from byte to byte.
use Rattle.std.proofs.Common.{◌≡◌, ℕ, suc, ◌+◌, ◌<◌, ◌≤◌, List, [], ◌∷◌, length, take, drop, get_or, refl, sym, ap}
use Rattle.std.proofs.Common.{subst, ◌∙◌, arith}
use Rattle.std.proofs.Math.Seq.{take-suc}
use Rattle.std.proofs.lemmas.List.{take_all, take-append-drop}
use Rattle.tx_tree.specs.WideTree.{WideTree}
use Rattle.tx_tm_form.specs.Forms.{Spells}
use Rattle.tx_tm_form.specs.Machine.{Bytewise, lost, step, run}
use Rattle.tx_tm_form.specs.Measures.{sums_of, body_sums, Gauged, keep_gauge, start_gauge, IsMeasured}
use Rattle.tx_tm_form.proofs.Begun.{run_behind}
use Rattle.tx_tm_form.proofs.Weights.{measured}
use Rattle.tx_tm_faults.specs.declared.measuring.Meter.{Meter}
use Rattle.tx_tm_faults.specs.Gauges.{meter_of}

abbrev measured_run : List ℕ → Bytewise Gauged
measured_run x = run keep_gauge start_gauge x

one_more : (bytes : List ℕ) (n : ℕ) (w v : Bytewise Gauged) → n < length bytes → measured_run (take n bytes) ≡ w
    → step keep_gauge w (get_or bytes n 0) ≡ v → measured_run (take (n + 1) bytes) ≡ v
one_more bytes n w v lt e g =
    let i : n + 1 ≡ suc n = omega arith in
    ap (λ k. measured_run (take k bytes)) i
    ∙ ap measured_run (take-suc bytes n 0 lt)
    ∙ run_behind Gauged keep_gauge (take n bytes) (get_or bytes n 0 ∷ []) start_gauge
    ∙ ap (λ u. step keep_gauge u (get_or bytes n 0)) e
    ∙ g

pub meter_more : (bytes : List ℕ) (n : ℕ) (m next : Meter) → n < length bytes
    → run keep_gauge start_gauge (take n bytes) ≡ meter_of m
    → meter_of next ≡ step keep_gauge (meter_of m) (get_or bytes n 0)
    → run keep_gauge start_gauge (take (n + 1) bytes) ≡ meter_of next
meter_more bytes n m next lt e g = one_more bytes n (meter_of m) (meter_of next) lt e (sym g)

lost_stays : (x : List ℕ) → run keep_gauge (let w : Bytewise Gauged = lost in w) x ≡ lost
lost_stays [] = refl
lost_stays (b ∷ x) = lost_stays x

-- bytes that are no words spell no tree
pub meter_lost : (bytes : List ℕ) (n : ℕ) (m : Meter) (t : WideTree) → n < length bytes
    → run keep_gauge start_gauge (take n bytes) ≡ meter_of m → step keep_gauge (meter_of m) (get_or bytes n 0) ≡ lost
    → Spells bytes t → ⊥
meter_lost bytes n m t lt e g h =
    let over : measured_run bytes ≡ lost =
    ap measured_run (sym (take-append-drop (n + 1) bytes))
    ∙ run_behind Gauged keep_gauge (take (n + 1) bytes) (drop (n + 1) bytes) start_gauge
    ∙ ap (λ u. run keep_gauge u (drop (n + 1) bytes)) (one_more bytes n (meter_of m) lost lt e g)
    ∙ lost_stays (drop (n + 1) bytes) in
    subst (λ u. IsMeasured u t) over (measured bytes t h)

pub metered : (bytes : List ℕ) (n : ℕ) (m : Meter) (t : WideTree) → length bytes ≤ n
    → run keep_gauge start_gauge (take n bytes) ≡ meter_of m → Spells bytes t
    → body_sums m.gauge.here ≡ sums_of (t ∷ [])
metered bytes n m t le e h =
    subst (λ u. IsMeasured u t) (ap measured_run (sym (take_all n bytes le)) ∙ e) (measured bytes t h)
