-- What strays there are after an edit.
use Rattle.std.proofs.Common.{◌≡◌, ℕ, ◌+◌, ◌<◌, Bool, true, false, cond, List, [], ◌∷◌, length, map, filter}
use Rattle.std.proofs.Common.{Some, None, refl, sym, ap, subst, ◌∙◌, arith}
use Rattle.std.proofs.lemmas.Bool.Decides.{Decides-eqb}
use Rattle.std.proofs.lemmas.List.Elements.{recursion_from_All}
use Rattle.std.specs.List.{All, AllByRecursion, IsDistinct, cons_option, filter_map}
use Rattle.std.specs.Prelude.{◌==◌, if◌then◌else◌}
use Rattle.std.specs.Str.{bytes_eq}
use Rattle.tx_exec.specs.Outcomes.{wide_trace}
use Rattle.tx_tree.specs.Paths.{subtree}
use Rattle.tx_tree.specs.WideTree.{WideTree}
use Rattle.tx_units.specs.declared.kinds.Unit.{Unit as DocUnit}
use Rattle.tx_walk.specs.Walked.{IsTidy}
use Rattle.tx_bridge.specs.Courses.{HasTree, strays_left}
use Rattle.tx_bridge.specs.HeldParts.{kept_part}
use Rattle.tx_bridge.specs.PartMoves.{NoneAbove, is_outside, move_to, moves_aside, seen_move, kept_in_unit, arrived}
use Rattle.tx_bridge.specs.PartsKept.{KeptParts, part_paths}
use Rattle.tx_bridge.specs.Strays.{Stray, kept_strays, HoldsStray, AreStrays, StandAside, strays_in, AreTidy}
use Rattle.tx_bridge.specs.declared.course.PartMove.{PartMove}
use Rattle.tx_bridge.specs.declared.strays.Stray.{Stray as DoneStray}
use Rattle.tx_bridge.proofs.Above.{outside_none}
use Rattle.tx_bridge.proofs.Aside.{all_passing, distinct_filtered}
use Rattle.tx_bridge.proofs.Comers.{AllOutside, HoldAside}
use Rattle.tx_bridge.proofs.WithinUnit.{Holds, SupportsIfDone}

-- ---- of each

abbrev left_of : PartMove → DoneStray
left_of m = record { tree = m.tree; part = m.part }

pub kept_left : (ps : List PartMove) (n : ℕ)
    → kept_strays (strays_in (strays_left ps n)) ≡ arrived (map seen_move ps) n
kept_left [] n = refl
kept_left (m ∷ ps) n = by (m.to == n) (kept_left ps n)
  where
    by : (b : Bool) → kept_strays (strays_in (strays_left ps n)) ≡ arrived (map seen_move ps) n
        → kept_strays (strays_in (cons_option (if b then Some (left_of m) else None) (strays_left ps n)))
        ≡ cons_option (if b then Some (kept_part m.part) else None) (arrived (map seen_move ps) n)
    by true e = ap (λ ks. kept_part m.part ∷ ks) e
    by false e = e

-- what is true of each move is true of each part that is left
all_left : (P : PartMove → Type 0) (Q : DoneStray → Type 0) (n : ℕ) (ps : List PartMove)
    → ((m : PartMove) → m.to ≡ n → P m → Q (left_of m)) → AllByRecursion P ps → AllByRecursion Q (strays_left ps n)
all_left P Q n [] f h = tt
all_left P Q n (m ∷ ps) f h = by (m.to == n) refl (all_left P Q n ps f h.1)
  where
    by : (b : Bool) → m.to == n ≡ b → AllByRecursion Q (strays_left ps n)
        → AllByRecursion Q (cons_option (if b then Some (left_of m) else None) (strays_left ps n))
    by true e rest = (f m ((Decides-eqb m.to n).0 e) h.0, rest)
    by false e rest = rest

pub tidy_left : (n : ℕ) (ps : List PartMove) → All (λ m. IsTidy m.part) ps → AreTidy (strays_left ps n)
tidy_left n ps h =
    all_left (λ m. IsTidy m.part) (λ s. IsTidy s.part) n ps (λ m e t. t)
    (recursion_from_All (λ m. IsTidy m.part) ps h)

-- a model's list
seen_each : (P : Stray → Type 0) (ss : List DoneStray)
    → AllByRecursion (λ s. P (record { kept = kept_part s.part; tree = s.tree })) ss → AllByRecursion P (strays_in ss)
seen_each P [] h = tt
seen_each P (s ∷ ss) h = (h.0, seen_each P ss h.1)

module _ (After : WideTree → Type 0) (n : ℕ) (ps : List PartMove) (h : All (HasTree After n) ps) where
  pub hold_left : AllByRecursion HoldsStray (strays_in (strays_left ps n))
  hold_left =
      seen_each HoldsStray (strays_left ps n)
      (all_left (HasTree After n) (λ s. HoldsStray (record { kept = kept_part s.part; tree = s.tree })) n ps
      (λ m e t. record { trace = wide_trace m.part.trace; is = refl; supports = t.supports })
      (recursion_from_All (HasTree After n) ps h))

  pub stand_left : (u : WideTree) → After u → StandAside u (strays_in (strays_left ps n))
  stand_left u after =
      seen_each (λ s. subtree u s.kept.path ≡ Some s.tree) (strays_left ps n)
      (all_left (HasTree After n) (λ s. subtree u s.part.path ≡ Some s.tree) n ps
      (λ m e t. t.stands e u after) (recursion_from_All (HasTree After n) ps h))

-- ---- of all

outside_seen : (us : List DocUnit) (ss : List Stray) → AllOutside us (kept_strays ss)
    → AllByRecursion (λ s. NoneAbove s.kept.path us) ss
outside_seen us [] h = tt
outside_seen us (s ∷ ss) h = (h.0, outside_seen us ss h.1)

outside_kept : (us : List DocUnit) (ss : List Stray) → AllByRecursion (λ s. NoneAbove s.kept.path us) ss
    → AllOutside us (kept_strays ss)
outside_kept us [] h = tt
outside_kept us (s ∷ ss) h = (h.0, outside_kept us ss h.1)

holds_kept : (t : WideTree) (ss : List Stray) → AllByRecursion HoldsStray ss → StandAside t ss
    → AllByRecursion (Holds t) (kept_strays ss)
holds_kept t [] h at = tt
holds_kept t (s ∷ ss) h at = (
  record { there = s.tree; leads = at.0; supports = subst (SupportsIfDone s.tree) (sym h.0.is) h.0.supports },
  holds_kept t ss h.1 at.1,
)

pub hold_aside : (t : WideTree) (us : List DocUnit) (ss : List Stray) → AreStrays us ss → StandAside t ss
    → HoldAside t us (kept_strays ss)
hold_aside t us ss h at = record {
  hold = holds_kept t ss h.hold at;
  distinct = h.distinct;
  outside = outside_kept us ss h.outside;
}

pub are_left : (vs : List DocUnit) (ps : List PartMove) (ks : KeptParts)
    → kept_strays (strays_in (strays_left ps (length vs))) ≡ ks
    → AllByRecursion HoldsStray (strays_in (strays_left ps (length vs))) → IsDistinct bytes_eq (part_paths ks)
    → AllOutside vs ks → AreStrays vs (strays_in (strays_left ps (length vs)))
are_left vs ps ks is hold distinct outside = record {
  hold = hold;
  distinct = subst (λ qs. IsDistinct bytes_eq (part_paths qs)) (sym is) distinct;
  outside = outside_seen vs (strays_in (strays_left ps (length vs))) (subst (AllOutside vs) (sym is) outside);
}

-- ---- where another buffer is edited

module _ (vs : List DocUnit) (i : ℕ) where
  aside_kept : (k n : ℕ) (ks : KeptParts) → length vs ≡ n
      → arrived (moves_aside vs i k ks) n ≡ filter (λ s. is_outside vs s.path) ks
  aside_kept k n [] is = refl
  aside_kept k n (s ∷ ks) is = by (is_outside vs s.path) (aside_kept (k + 1) n ks is)
    where
      by : (b : Bool) → arrived (moves_aside vs i (k + 1) ks) n ≡ filter (λ x. is_outside vs x.path) ks
          → filter_map (kept_in_unit n)
          (cons_option (if b then Some (move_to i k s (length vs, s.path)) else None) (moves_aside vs i (k + 1) ks))
          ≡ cond b (s ∷ filter (λ x. is_outside vs x.path) ks) (filter (λ x. is_outside vs x.path) ks)
      by true e =
          ap (λ c. cons_option (if c then Some s else None) (arrived (moves_aside vs i (k + 1) ks) n))
          ((Decides-eqb (length vs) n).1 is)
          ∙ ap (λ xs. s ∷ xs) e
      by false e = e

  no_number : (n j : ℕ) → j < n → (b : Bool) → n == j ≡ b → b ≡ false
  no_number n j less true e = absurd (omega (arith, less, (Decides-eqb n j).0 e))
  no_number n j less false e = refl

  pub aside_none : (k j : ℕ) (ks : KeptParts) → j < length vs → arrived (moves_aside vs i k ks) j ≡ []
  aside_none k j [] less = refl
  aside_none k j (s ∷ ks) less = by (is_outside vs s.path) (aside_none (k + 1) j ks less)
    where
      by : (b : Bool) → arrived (moves_aside vs i (k + 1) ks) j ≡ []
          → filter_map (kept_in_unit j)
          (cons_option (if b then Some (move_to i k s (length vs, s.path)) else None) (moves_aside vs i (k + 1) ks))
          ≡ []
      by true e =
          ap (λ c. cons_option (if c then Some s else None) (arrived (moves_aside vs i (k + 1) ks) j))
          (no_number (length vs) j less (length vs == j) refl)
          ∙ e
      by false e = e

  pub aside_distinct : (ks : KeptParts) → IsDistinct bytes_eq (part_paths ks)
      → IsDistinct bytes_eq (part_paths (arrived (moves_aside vs i 0 ks) (length vs)))
  aside_distinct ks d =
      subst (λ qs. IsDistinct bytes_eq (part_paths qs)) (sym (aside_kept 0 (length vs) ks refl))
      (distinct_filtered (λ s. s.path) (λ s. is_outside vs s.path) ks d)

  pub aside_outside : (ks : KeptParts) → AllOutside vs (arrived (moves_aside vs i 0 ks) (length vs))
  aside_outside ks =
      subst (AllOutside vs) (sym (aside_kept 0 (length vs) ks refl))
      (all_passing (λ s. NoneAbove s.path vs) (λ s. is_outside vs s.path) ks (λ s e. outside_none vs s.path e))
