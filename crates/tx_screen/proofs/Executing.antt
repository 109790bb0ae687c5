-- Lines that a session executes.
use Rattle.std.proofs.Common.{◌≡◌, ℕ, Bool, true, false, List, [], ◌∷◌, ◌++◌, Option, Result, Ok, Err, codes}
use Rattle.std.proofs.Common.{if◌then◌else◌, refl, sym, subst, ◌∙◌, true≢false, ap, append_assoc}
use Rattle.std.specs.List.{flat_map}
use Rattle.std.specs.Prelude.{OnOk, OnErr}
use Rattle.std.specs.Str.{bytes_eq}
use Rattle.tx_outside.specs.declared.faults.WriteFault.{WriteFault}
use Rattle.tx_session.specs.declared.session.Next.{Next}
use Rattle.tx_session.specs.declared.session.Next.TheVariants as nexts
use Rattle.tx_session.specs.Executed.{IsExecuted}
use Rattle.tx_session.specs.Worlds.{World}
use Rattle.tx_screen.specs.Screens.{AreExecuted, IsTold, unless_quit}

-- a line that isn't `quit` was executed, also where its reply was cut off
pub executed_one : (r : Result Next WriteFault) (line : List ℕ) (w v : World) (b a : Option (List ℕ))
    → IsExecuted r w line v b a → bytes_eq line (codes "quit") ≡ false → AreExecuted w (line ∷ []) v
executed_one (Ok nexts.Go) line w v b a h e = (v, h.0, h.1, h.2, refl)
executed_one (Ok nexts.Quit) line w v b a h e = absurd (true≢false (sym h.0 ∙ e))
executed_one (Err fault) line w v b a h e = (v, h.0, h.1, h.2, refl)

-- lines in order
pub executed_both : (xs ys : List (List ℕ)) (w v u : World) → AreExecuted w xs v → AreExecuted v ys u
    → AreExecuted w (xs ++ ys) u
executed_both [] ys w v u h k = subst (λ (s : World). AreExecuted s ys u) h k
executed_both (x ∷ xs) ys w v u h k = (h.0, h.1, h.2, h.3, executed_both xs ys h.0 v u h.4 k)

-- one line is told
pub told_one : (r : Result Next WriteFault) (line : List ℕ) (w v : World) (b a : Option (List ℕ))
    → IsExecuted r w line v b a → bytes_eq line (codes "quit") ≡ false → IsTold w (line ∷ []) v
told_one r line w v b a h e =
    subst (λ (q : Bool). AreExecuted w ((if q then [] else line ∷ []) ++ []) v) (sym e) (executed_one r line w v b a h e)

pub told_quit : (line : List ℕ) (w : World) → bytes_eq line (codes "quit") ≡ true → IsTold w (line ∷ []) w
told_quit line w e =
    subst (λ (q : Bool). AreExecuted w ((if q then [] else line ∷ []) ++ []) w) (sym e) refl

-- lines are told, and then others
told_of : (xs ys : List (List ℕ)) (w v u : World) → IsTold w xs v → IsTold v ys u
    → AreExecuted w (flat_map unless_quit xs ++ flat_map unless_quit ys) u
told_of xs ys w v u h k = executed_both (flat_map unless_quit xs) (flat_map unless_quit ys) w v u h k

flat_both : (xs ys : List (List ℕ))
    → flat_map unless_quit (xs ++ ys) ≡ flat_map unless_quit xs ++ flat_map unless_quit ys
flat_both [] ys = refl
flat_both (x ∷ xs) ys =
    ap (λ (l : List (List ℕ)). unless_quit x ++ l) (flat_both xs ys)
    ∙ sym (append_assoc (unless_quit x) (flat_map unless_quit xs) (flat_map unless_quit ys))

pub told_both : (xs ys : List (List ℕ)) (w v u : World) → IsTold w xs v → IsTold v ys u → IsTold w (xs ++ ys) u
told_both xs ys w v u h k =
    subst (λ (l : List (List ℕ)). AreExecuted w l u) (sym (flat_both xs ys)) (told_of xs ys w v u h k)

-- the same lines, whatever the result
pub same_lines : {A B : Type 0} (r : Result A B) (lines : List (List ℕ)) → OnOk r (lines ≡ lines)
same_lines (Ok a) lines = refl
same_lines (Err b) lines = tt

-- what holds, whatever the result
pub on_err : {A B : Type 0} (P : Type 0) (r : Result A B) → P → OnErr r P
on_err P (Ok a) p = tt
on_err P (Err b) p = p

pub on_ok_map : {A B P Q : Type 0} (r : Result A B) → (P → Q) → OnOk r P → OnOk r Q
on_ok_map (Ok a) f p = f p
on_ok_map (Err b) f p = tt
