-- A place of a text is a cut where the bytes before it are a text.
use Rattle.std.proofs.Common.{◌≡◌, ℕ, ◌≤◌, true, List, [], ◌++◌, length, take, drop, Some, sym, ap, subst, ◌∙◌}
use Rattle.std.proofs.Common.{length-append, leb, arith}
use Rattle.std.specs.List.{flat_map}
use Rattle.std.proofs.lemmas.List.{append-nil, take-append-drop, take_at, length-take-le}
use Rattle.std.proofs.lemmas.Bool.{and_from, and_parts}
use Rattle.tx_tree.specs.declared.texts.TextPlace.TheVariants.{Between}
use Rattle.tx_tree.specs.Texts.{item_bytes, IsText, IsCut}
use Rattle.tx_tree.specs.TextScan.{text_run, is_text}
use Rattle.tx_tree.specs.Cuts.{is_cut}
use Rattle.tx_tree.proofs.Scanning.{text_runs, between_text, text_test, text_tested}

pub cut_text : (bytes : List ℕ) (n : ℕ) → IsCut bytes n → IsText (take n bytes)
cut_text bytes n h =
    (h.0, h.2, ap (take n) h.4 ∙ take_at (flat_map item_bytes h.0) (flat_map item_bytes h.1) n (sym h.5))

pub cut_within : (bytes : List ℕ) (n : ℕ) → IsCut bytes n → n ≤ length bytes
cut_within bytes n h =
    omega (arith, h.5, ap length h.4, length-append (flat_map item_bytes h.0) (flat_map item_bytes h.1))

-- where a text begins with a text, the rest is a text
pub text_rest : (front rest : List ℕ) → IsText (front ++ rest) → IsText front → IsText rest
text_rest front rest whole h =
    between_text rest (sym (text_runs front rest h) ∙ ap (text_run (Some Between)) (sym (append-nil (front ++ rest)))
    ∙ text_runs (front ++ rest) [] whole)

pub text_cut : (bytes : List ℕ) (n : ℕ) → IsText bytes → n ≤ length bytes → IsText (take n bytes) → IsCut bytes n
text_cut bytes n whole le h =
    let rest = text_rest (take n bytes) (drop n bytes) (subst IsText (sym (take-append-drop n bytes)) whole) h in (
      h.0,
      rest.0,
      h.1,
      rest.1,
      sym (take-append-drop n bytes) ∙ ap (λ x. x ++ drop n bytes) h.2
          ∙ ap (λ x. flat_map item_bytes h.0 ++ x) rest.2,
      sym (length-take-le n bytes le) ∙ ap length h.2,
    )

pub run_cut : (bytes : List ℕ) (n : ℕ) → IsText bytes → n ≤ length bytes
    → text_run (Some Between) (take n bytes) ≡ Some Between → IsCut bytes n
run_cut bytes n whole le e = text_cut bytes n whole le (between_text (take n bytes) e)

pub cut_runs : (bytes : List ℕ) (n : ℕ) → IsCut bytes n → text_run (Some Between) (take n bytes) ≡ Some Between
cut_runs bytes n h = ap (text_run (Some Between)) (sym (append-nil (take n bytes)))
    ∙ text_runs (take n bytes) [] (cut_text bytes n h)

pub ruleset cutting = (run_cut, cut_runs)

pub cut_test : (bytes : List ℕ) (n : ℕ) → IsText bytes → is_cut bytes n ≡ true → IsCut bytes n
unfolding is_cut
cut_test bytes n whole e = let parts = and_parts (leb n (length bytes)) (is_text (take n bytes)) e in
    text_cut bytes n whole (grind arith) (text_test (take n bytes) parts.1)

pub cut_tested : (bytes : List ℕ) (n : ℕ) → IsCut bytes n → is_cut bytes n ≡ true
unfolding is_cut
cut_tested bytes n h = let le = cut_within bytes n h in let lt : leb n (length bytes) ≡ true =
    grind arith in and_from _ _ lt (text_tested (take n bytes) (cut_text bytes n h))
