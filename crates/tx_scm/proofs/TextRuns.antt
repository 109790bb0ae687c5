-- Plain bytes of a string, several at once.
use Rattle.std.proofs.Common.{◌≡◌, ℕ, ◌+◌, ◌-◌, ◌<◌, ◌≤◌, true, false, List, [], ◌∷◌, ◌++◌, length, get_or}
use Rattle.std.proofs.Common.{take, drop, None, refl, sym, ap, subst, ◌∙◌, append_assoc, take_all, arith}
use Rattle.std.specs.Prelude.{slice_range}
use Rattle.std.specs.List.{AllByRecursion}
use Rattle.std.proofs.lemmas.Bool.{and_parts}
use Rattle.std.proofs.lemmas.List.{append-nil, drop_more, take-append-drop, length-take, get_or-take, get_or-drop}
use Rattle.std.proofs.lemmas.List.Elements.{recursion_from_All, All-from_recursion, All-from_get_or, All-take}
use Rattle.std.proofs.lemmas.List.Elements.{All-get_or}
use Rattle.std.proofs.lemmas.List.Folds.{drop_split}
use Rattle.tx_tree.specs.TextScan.{takes_byte, takes_all}
use Rattle.tx_scm.specs.Machine.{Open, texting, reads, leads}
use Rattle.tx_scm.specs.Plain.{IsPlain}
use Rattle.tx_scm.proofs.Making.{leads_more}
use Rattle.tx_scm.proofs.Runs.{step_more, step_fails, plain_taken, plain_refused}

-- bytes that are taken lead to the longer text
pub plain_reads : (x rest text : List ℕ) (opens : List Open) → AllByRecursion IsPlain x → takes_all text x ≡ true
    → reads (texting text opens) (x ++ rest) ≡ reads (texting (text ++ x) opens) rest
plain_reads [] rest text opens h k = ap (λ t. reads (texting t opens) rest) (sym (append-nil text))
plain_reads (b ∷ x) rest text opens h k =
    let p = and_parts _ _ k in
    step_more (b ∷ x ++ rest) (texting text opens) 0 b (omega arith) refl (texting (text ++ b ∷ []) opens)
    (plain_taken b text opens h.0.0 h.0.1 true (text ++ b ∷ []) (sym p.0) refl refl)
    ∙ plain_reads x rest (text ++ b ∷ []) opens h.1 p.1
    ∙ ap (λ t. reads (texting t opens) rest) (append_assoc text (b ∷ []) x)

pub plain_leads : (x rest text : List ℕ) (opens : List Open) → AllByRecursion IsPlain x → takes_all text x ≡ true
    → leads (texting text opens) (x ++ rest) ≡ leads (texting (text ++ x) opens) rest
plain_leads [] rest text opens h k = ap (λ t. leads (texting t opens) rest) (sym (append-nil text))
plain_leads (b ∷ x) rest text opens h k =
    let p = and_parts _ _ k in
    leads_more (b ∷ x ++ rest) (texting text opens) 0 b (omega arith) refl (texting (text ++ b ∷ []) opens) (λ e. cc)
    (plain_taken b text opens h.0.0 h.0.1 true (text ++ b ∷ []) (sym p.0) refl refl)
    ∙ plain_leads x rest (text ++ b ∷ []) opens h.1 p.1
    ∙ ap (λ t. leads (texting t opens) rest) (append_assoc text (b ∷ []) x)

-- a byte that isn't taken leads nowhere
pub plain_stops : (b : ℕ) (rest text : List ℕ) (opens : List Open) → IsPlain b → takes_byte text b ≡ false
    → reads (texting text opens) (b ∷ rest) ≡ None
plain_stops b rest text opens h k =
    step_fails (b ∷ rest) (texting text opens) 0 b (omega arith) refl
    (plain_refused b text opens h.0 h.1 false (sym k) refl)

-- ---- the bytes of a run up to a place, of which n are taken

module _ (bytes text new : List ℕ) (at end n : ℕ) (opens : List Open) where
  abbrev pub run : List ℕ
  run = slice_range bytes at end

  all_of : length run ≤ n → take n run ≡ run
  all_of le = take_all n run le

  pub run_reads : at ≤ end → AllByRecursion IsPlain run → new ≡ text ++ take n run → takes_all text (take n run) ≡ true
      → length run ≤ n → reads (texting text opens) (drop at bytes) ≡ reads (texting new opens) (drop end bytes)
  run_reads le plain grown taken all =
      ap (reads (texting text opens)) (drop_split bytes at end le)
      ∙ plain_reads run (drop end bytes) text opens plain (ap (takes_all text) (sym (all_of all)) ∙ taken)
      ∙ ap (λ t. reads (texting t opens) (drop end bytes)) (sym (grown ∙ ap (λ x. text ++ x) (all_of all)))

  pub run_leads : at ≤ end → AllByRecursion IsPlain run → new ≡ text ++ take n run → takes_all text (take n run) ≡ true
      → length run ≤ n → leads (texting text opens) (drop at bytes) ≡ leads (texting new opens) (drop end bytes)
  run_leads le plain grown taken all =
      ap (leads (texting text opens)) (drop_split bytes at end le)
      ∙ plain_leads run (drop end bytes) text opens plain (ap (takes_all text) (sym (all_of all)) ∙ taken)
      ∙ ap (λ t. leads (texting t opens) (drop end bytes)) (sym (grown ∙ ap (λ x. text ++ x) (all_of all)))

  pub run_stops : at ≤ end → AllByRecursion IsPlain run → new ≡ text ++ take n run → takes_all text (take n run) ≡ true
      → n < length run → takes_byte new (get_or run n 0) ≡ false → reads (texting text opens) (drop at bytes) ≡ None
  run_stops le plain grown taken lt refused =
      let all = All-from_recursion IsPlain run plain in
      let b = get_or run n 0 in
      let rest = drop (n + 1) run ++ drop end bytes in
      let parts : run ≡ take n run ++ (b ∷ drop (n + 1) run) =
      sym (take-append-drop n run) ∙ ap (λ x. take n run ++ x) (drop_more run n 0 lt) in
      ap (reads (texting text opens))
      (drop_split bytes at end le ∙ ap (λ x. x ++ drop end bytes) parts
      ∙ append_assoc (take n run) (b ∷ drop (n + 1) run) (drop end bytes))
      ∙ plain_reads (take n run) (b ∷ rest) text opens
      (recursion_from_All IsPlain (take n run) (All-take IsPlain n run all)) taken
      ∙ ap (λ t. reads (texting t opens) (b ∷ rest)) (sym grown)
      ∙ plain_stops b rest new opens (All-get_or IsPlain run n 0 lt all) refused

-- ---- the bytes of a run by their places

pub run_plain : (bytes : List ℕ) (at end : ℕ) → ((k : ℕ) → at ≤ k → k < end → IsPlain (get_or bytes k 0))
    → AllByRecursion IsPlain (slice_range bytes at end)
run_plain bytes at end plain =
    recursion_from_All IsPlain (slice_range bytes at end)
    (All-from_get_or IsPlain (slice_range bytes at end) 0
    (λ i lt.
    let within : i < end - at = omega (arith, lt, length-take (end - at) (drop at bytes)) in
    subst IsPlain
    (sym (get_or-take (end - at) (drop at bytes) i 0 within ∙ get_or-drop at bytes i 0))
    (plain (at + i) (omega arith) (omega (arith, within)))))
