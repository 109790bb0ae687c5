-- A test of all pairs is one of all entries of their map.
use Rattle.std.proofs.Common.{◌≡◌, Bool, true, false, cond, List, [], ◌∷◌, refl, sym, ap, ◌∙◌}
use Rattle.std.specs.Prelude.{Some, None}
use Rattle.std.specs.List.{IsDistinct, list_all}
use Rattle.std.specs.Map.{keys_of}
use Rattle.std.specs.Str.{bytes_eq}
use Rattle.std.specs.Ordering.{nat_cmp, eq_by_cmp}
use Rattle.std.specs.Cmp.Lexicographic.{slice_cmp, nat_list_cmp_total, texts_ties, bytes_decides}
use Rattle.std.specs.FinMap.{entries, entries_sorted, from_entries, get-entries, get-from_entries}
use Rattle.tx_env.specs.Pairs.{Name}
use Rattle.tx_exec_form.specs.Runs.{Before}
use Rattle.tx_exec_form.specs.Maps.{LookMap}
use Rattle.tx_exec_form.specs.Laws.{Agrees}
use Rattle.tx_replay.specs.SameTrees.{same}
use Rattle.tx_replay.specs.Held.{agrees}
use Rattle.tx_replay.proofs.Trees.{both, and_true, alike, same_found, same_of}
use Rattle.tx_replay.proofs.Once.{found, AreOnce, once, rising}

module _ {X : Type 0} (test : Name × X → Bool) where
  -- the test holds of what each name has
  abbrev pub AllFound : List (Name × X) → Type 0
  AllFound ws = (q : Name) (x : X) → found q ws ≡ Some x → test (q, x) ≡ true

  pub all_found : (ws : List (Name × X)) → list_all test ws ≡ true → AllFound ws
  all_found [] h q x e = cc
  all_found (w ∷ ws) h q x e =
      by (eq_by_cmp (slice_cmp nat_cmp) q w.0) refl e (all_found ws (both (test w) (list_all test ws) h).1 q x)
    where
      by : (b : Bool) → eq_by_cmp (slice_cmp nat_cmp) q w.0 ≡ b → cond b (Some w.1) (found q ws) ≡ Some x
          → (found q ws ≡ Some x → test (q, x) ≡ true) → test (q, x) ≡ true
      by true t f later =
          let name : q ≡ w.0 = (bytes_decides q w.0).0 (texts_ties q w.0 ∙ t) in
          let what : w.1 ≡ x = cc in
          ap (λ (n : Name). test (n, x)) name ∙ ap (λ (y : X). test (w.0, y)) (sym what)
          ∙ (both (test w) (list_all test ws) h).0
      by false t f later = later f

  -- a name that occurs once is found after another entry
  behind_first : (w : Name × X) (ws : List (Name × X)) → found w.0 ws ≡ None → (q : Name) (x : X) → found q ws ≡ Some x
      → found q (w ∷ ws) ≡ Some x
  behind_first w ws none q x e = by (eq_by_cmp (slice_cmp nat_cmp) q w.0) refl
    where
      by : (b : Bool) → eq_by_cmp (slice_cmp nat_cmp) q w.0 ≡ b → cond b (Some w.1) (found q ws) ≡ Some x
      by true t =
          let name : q ≡ w.0 = (bytes_decides q w.0).0 (texts_ties q w.0 ∙ t) in
          let off : Some x ≡ None = sym e ∙ ap (λ n. found n ws) name ∙ none in
          cc
      by false t = e

  first_found : (w : Name × X) (ws : List (Name × X)) → found w.0 (w ∷ ws) ≡ Some w.1
  first_found w ws =
      ap (λ b. cond b (Some w.1) (found w.0 ws)) (sym (texts_ties w.0 w.0) ∙ (bytes_decides w.0 w.0).1 refl)

  pub found_all : (ws : List (Name × X)) → AreOnce ws → AllFound ws → list_all test ws ≡ true
  found_all [] once h = refl
  found_all (w ∷ ws) once h =
      and_true (test w) (list_all test ws) (h w.0 w.1 (first_found w ws))
      (found_all ws once.1 (λ q x e. h q x (behind_first w ws once.0 q x e)))

  pub test_same : (ws : List (Name × X)) → IsDistinct bytes_eq (keys_of ws)
      → list_all test ws ≡ list_all test (entries (from_entries {R = slice_cmp nat_cmp} ws))
  test_same ws distinct =
      let es : List (Name × X) = entries (from_entries {R = slice_cmp nat_cmp} ws) in
      let one : (q : Name) → found q (entries (from_entries {R = slice_cmp nat_cmp} ws)) ≡ found q ws =
      λ q. sym (get-entries (from_entries ws) q) ∙ get-from_entries nat_list_cmp_total ws q in
      alike (list_all test ws) (list_all test (entries (from_entries {R = slice_cmp nat_cmp} ws)))
      (λ h. found_all (entries (from_entries {R = slice_cmp nat_cmp} ws)) (rising _ (entries_sorted (from_entries ws)))
      (λ q x e. all_found ws h q x (sym (one q) ∙ e)))
      (λ h. found_all ws (once ws distinct)
      (λ q x e. all_found (entries (from_entries {R = slice_cmp nat_cmp} ws)) h q x (one q ∙ e)))

-- what the test says
pub agrees_is : (e : Before) (looks : LookMap) → agrees e looks ≡ true → Agrees e looks
agrees_is e looks h q x f =
    same_found (e q) x
    (all_found (λ look. same (e look.0) look.1) (entries looks) h q x (sym (get-entries looks q) ∙ f))

pub agrees_of : (e : Before) (looks : LookMap) → Agrees e looks → agrees e looks ≡ true
agrees_of e looks h =
    found_all (λ look. same (e look.0) look.1) (entries looks) (rising (entries looks) (entries_sorted looks))
    (λ q x f. same_of (e q) x (h q x (get-entries looks q ∙ f)))
