-- Moves are gathered, part by part and unit by unit.
use Rattle.std.proofs.Common.{◌≡◌, ℕ, zero, suc, ◌+◌, ◌<◌, List, [], ◌∷◌, ◌++◌, length, drop, map, refl, sym, ap}
use Rattle.std.proofs.Common.{◌∙◌, subst, arith, slice_index_or, Option, Some, None}
use Rattle.std.proofs.lemmas.List.{append_assoc, append-nil, drop_more, map-append}
use Rattle.std.proofs.lemmas.Option.{same_Some}
use Rattle.std.specs.List.{AllByRecursion, cons_option}
use Rattle.std.specs.Option.{option_map}
use Rattle.tx_tree.specs.WideTree.{WideTree}
use Rattle.tx_tree.specs.Paths.{subtree}
use Rattle.tx_mod.specs.declared.mods.Mod.{Mod}
use Rattle.tx_mod.specs.Followed.{CarriesThroughAll, changed_by_all, carried_by_all}
use Rattle.tx_mod.proofs.Kept.{subtree_behind}
use Rattle.tx_exec_form.specs.Laws.{Supports}
use Rattle.tx_parts.specs.Composed.{alone}
use Rattle.tx_parts.specs.Parts.{Stored}
use Rattle.tx_units.specs.declared.kinds.Unit.{Unit as DocUnit}
use Rattle.tx_walk.specs.declared.part.Part.{Part as DonePart}
use Rattle.tx_walk.specs.Walked.{IsTidy}
use Rattle.tx_exec.specs.Outcomes.{wide_trace}
use Rattle.tx_bridge.specs.declared.bridge.Bridge.{Bridge}
use Rattle.tx_bridge.specs.declared.course.PartMove.{PartMove}
use Rattle.tx_bridge.specs.Carrying.{through, Stands, AllStand}
use Rattle.tx_bridge.specs.Courses.{HasTree}
use Rattle.tx_bridge.specs.HeldParts.{HoldsPart, kept_part, kept_parts}
use Rattle.tx_bridge.specs.PartMoves.{Move, unit_above, move_to, move_from, move_of, moves_below, unit_moves}
use Rattle.tx_bridge.specs.PartMoves.{moves_from, move_aside, moves_aside, seen_move}
use Rattle.tx_bridge.specs.Slots.{bodies_of, paths_in}
use Rattle.tx_bridge.specs.Sound.{stored_parts_in}
use Rattle.tx_bridge.specs.Strays.{Stray, HoldsStray, StandAside, AreTidy, kept_strays, stray_of, strays_in}
use Rattle.tx_bridge.specs.declared.strays.Stray.{Stray as DoneStray}
use Rattle.tx_bridge.proofs.Above.{far_at}

-- ---- one part

pub no_more : (xs : List Move) (o : Option Move) → o ≡ None → xs ≡ xs ++ cons_option o []
no_more xs o e = sym (append-nil xs) ∙ ap (λ p. xs ++ cons_option p []) (sym e)

pub one_more : (ps : List PartMove) (m : PartMove) (o : Option Move) → o ≡ Some (seen_move m)
    → map seen_move (ps ++ m ∷ []) ≡ map seen_move ps ++ cons_option o []
one_more ps m o e =
    map-append seen_move ps (m ∷ []) ∙ ap (λ p. map seen_move ps ++ cons_option p []) (sym e)

module _ (ms : List Mod) (t : WideTree) (vs : List DocUnit) (i k : ℕ) (q : List ℕ) (s : Stored) where
  pub goes_nowhere : carried_by_all ms t q ≡ None → move_from ms t vs i k q s ≡ None
  goes_nowhere e = ap (option_map (λ place. move_to i k s (unit_above 0 vs place))) e

  pub goes_to : (place : List ℕ) (x : ℕ × List ℕ) → carried_by_all ms t q ≡ Some place → x ≡ unit_above 0 vs place
      → move_from ms t vs i k q s ≡ Some (move_to i k s x)
  goes_to place x e is =
      ap (option_map (λ r. move_to i k s (unit_above 0 vs r))) e ∙ ap (λ y. Some (move_to i k s y)) (sym is)

-- the part is returned with its new path and its trace
pub is_seen : (i k to : ℕ) (d e : DonePart) (rest : List ℕ) (x : WideTree) → e.path ≡ rest → e.trace ≡ d.trace
    → move_to i k (kept_part d) (to, rest)
    ≡ seen_move (record { from = i; number = k; to = to; part = e; tree = x })
is_seen i k to d e rest x path trace =
    ap (λ q. told q (kept_part d)) (sym path)
    ∙ ap (λ tr. record {
      from = i;
      number = k;
      to = to;
      kept = record { path = e.path; trace = Some (wide_trace tr) };
    }) (sym trace)
  where
    told : List ℕ → Stored → Move
    told q s = record { from = i; number = k; to = to; kept = record { path = q; trace = s.trace } }

-- where it is in none of the units, its tree is at its path
pub has_tree : (ms : List Mod) (t x : WideTree) (vs : List DocUnit) (q place : List ℕ) (m : PartMove)
    (rest : List ℕ) → ((r : List ℕ) → CarriesThroughAll ms t r) → subtree t q ≡ Some x
    → carried_by_all ms t q ≡ Some place → (m.to, rest) ≡ unit_above 0 vs place → m.part.path ≡ rest
    → Supports (wide_trace m.part.trace) (alone m.tree) → m.tree ≡ x
    → HasTree (λ u. changed_by_all ms t ≡ Some u) (length vs) m
has_tree ms t x vs q place m rest law at goes above path supports same = record {
  supports = supports;
  stands = λ last u made.
      let to : m.to ≡ (unit_above 0 vs place).0 = ap (λ (y : ℕ × List ℕ). y.0) above in
      let whole : (unit_above 0 vs place).1 ≡ place = (far_at 0 vs place (omega (arith, to, last))).0 in
      ap (subtree u) (path ∙ ap (λ (y : ℕ × List ℕ). y.1) above ∙ whole)
      ∙ law q u x place made at goes ∙ ap (λ z. Some z) (sym same);
}

-- ---- all of one unit

pub cons_onto : {A : Type 0} (o : Option A) (xs : List A) → cons_option o [] ++ xs ≡ cons_option o xs
cons_onto None xs = refl
cons_onto (Some m) xs = refl

pub gathers : (old new rest more all : List Move) (o : Option Move) → new ≡ old ++ cons_option o []
    → rest ≡ cons_option o more → old ++ rest ≡ all → new ++ more ≡ all
gathers old new rest more all o e f g =
    ap (λ xs. xs ++ more) e ∙ append_assoc old (cons_option o []) more
    ∙ ap (λ xs. old ++ xs) (cons_onto o more ∙ sym f) ∙ g

module _ (ms : List Mod) (t : WideTree) (vs : List DocUnit) (i : ℕ) (p : List ℕ) (ds : List DonePart) (k : ℕ)
    (inside : k < length ds) (d : DonePart) (is : d ≡ slice_index_or ds k d) where
  ahead : drop k ds ≡ d ∷ drop (k + 1) ds
  ahead = drop_more ds k d inside ∙ ap (λ e. e ∷ drop (k + 1) ds) (sym is)

  pub below_next : (old new all : List Move) → new ≡ old ++ cons_option (move_of ms t vs i p k (kept_part d)) []
      → old ++ moves_below ms t vs i p k (kept_parts (drop k ds)) ≡ all
      → new ++ moves_below ms t vs i p (k + 1) (kept_parts (drop (k + 1) ds)) ≡ all
  below_next old new all e g =
      gathers old new (moves_below ms t vs i p k (kept_parts (drop k ds)))
      (moves_below ms t vs i p (k + 1) (kept_parts (drop (k + 1) ds))) all (move_of ms t vs i p k (kept_part d)) e
      (ap (λ es. moves_below ms t vs i p k (kept_parts es)) ahead) g

-- each part holds
pub part_holds : (x : WideTree) (ds : List DonePart) (k : ℕ) (d : DonePart) → AllByRecursion (HoldsPart x) ds
    → k < length ds → d ≡ slice_index_or ds k d → HoldsPart x d
part_holds x ds k d hold inside is = subst (HoldsPart x) (sym is) (by ds k hold inside)
  where
    by : (es : List DonePart) (n : ℕ) → AllByRecursion (HoldsPart x) es → n < length es
        → HoldsPart x (slice_index_or es n d)
    by [] n h l = absurd (omega (arith, l))
    by (e ∷ es) zero h l = h.0
    by (e ∷ es) (suc n) h l = by es n h.1 (omega (arith, l))

-- a part of a tree is in the document
pub part_at : (t x there : WideTree) (p q whole : List ℕ) → subtree t p ≡ Some x → whole ≡ p ++ q
    → subtree x q ≡ Some there → subtree t whole ≡ Some there
part_at t x there p q whole at is leads = ap (subtree t) is ∙ subtree_behind p q t x at ∙ leads

-- ---- all units

module _ (ms : List Mod) (t : WideTree) (vs : List DocUnit) (bs : List Bridge) (i : ℕ) (inside : i < length bs)
    (b : Bridge) (is : b ≡ slice_index_or bs i b) where
  bridges_ahead : drop i bs ≡ b ∷ drop (i + 1) bs
  bridges_ahead = drop_more bs i b inside ∙ ap (λ c. c ∷ drop (i + 1) bs) (sym is)

  pub units_next : (old new all : List Move)
      → new ≡ old ++ unit_moves ms t vs i b.unit (kept_parts b.parts)
      → old ++ moves_from ms t vs i (bodies_of (drop i bs)) (stored_parts_in (drop i bs)) ≡ all
      → new ++ moves_from ms t vs (i + 1) (bodies_of (drop (i + 1) bs)) (stored_parts_in (drop (i + 1) bs)) ≡ all
  units_next old new all e g =
      ap (λ xs. xs ++ moves_from ms t vs (i + 1) (bodies_of (drop (i + 1) bs)) (stored_parts_in (drop (i + 1) bs))) e
      ∙ append_assoc old (unit_moves ms t vs i b.unit (kept_parts b.parts))
      (moves_from ms t vs (i + 1) (bodies_of (drop (i + 1) bs)) (stored_parts_in (drop (i + 1) bs)))
      ∙ ap (λ cs. old ++ moves_from ms t vs i (bodies_of cs) (stored_parts_in cs)) (sym bridges_ahead) ∙ g

  pub unit_stands : AllStand t (bodies_of bs) → Stands t b.unit
  unit_stands stand = subst (λ (c : Bridge). Stands t c.unit) (sym is) (by bs i stand inside)
    where
      by : (cs : List Bridge) (n : ℕ) → AllStand t (bodies_of cs) → n < length cs
          → Stands t (slice_index_or cs n b).unit
      by [] n h l = absurd (omega (arith, l))
      by (c ∷ cs) zero h l = h.0
      by (c ∷ cs) (suc n) h l = by cs n h.1 (omega (arith, l))

  pub place_here : (places : List (Option (List ℕ))) (place : Option (List ℕ))
      → places ≡ map (through ms t) (paths_in bs) → place ≡ slice_index_or places i place
      → place ≡ through ms t b.unit.path
  place_here places place all here =
      here ∙ ap (λ qs. slice_index_or qs i place) all ∙ by bs i inside
      ∙ ap (λ (c : Bridge). through ms t c.unit.path) (sym is)
    where
      by : (cs : List Bridge) (n : ℕ) → n < length cs
          → slice_index_or (map (through ms t) (paths_in cs)) n place
          ≡ through ms t (slice_index_or cs n b).unit.path
      by [] n l = absurd (omega (arith, l))
      by (c ∷ cs) zero l = refl
      by (c ∷ cs) (suc n) l = by cs n (omega (arith, l))

pub many_places : (ms : List Mod) (t : WideTree) (bs : List Bridge) (places : List (Option (List ℕ)))
    → places ≡ map (through ms t) (paths_in bs) → length places ≡ length bs
many_places ms t bs places is = ap length is ∙ by bs
  where
    by : (cs : List Bridge) → length (map (through ms t) (paths_in cs)) ≡ length cs
    by [] = refl
    by (c ∷ cs) = ap suc (by cs)

-- ---- strays

module _ (ss : List DoneStray) (k : ℕ) (inside : k < length ss) (s : DoneStray) (is : s ≡ slice_index_or ss k s) where
  strays_ahead : drop k ss ≡ s ∷ drop (k + 1) ss
  strays_ahead = drop_more ss k s inside ∙ ap (λ x. x ∷ drop (k + 1) ss) (sym is)

  pub strays_next : (ms : List Mod) (t : WideTree) (vs : List DocUnit) (i : ℕ) (old new all : List Move)
      → new ≡ old ++ cons_option (move_from ms t vs i k s.part.path (kept_part s.part)) []
      → old ++ moves_below ms t vs i [] k (kept_strays (strays_in (drop k ss))) ≡ all
      → new ++ moves_below ms t vs i [] (k + 1) (kept_strays (strays_in (drop (k + 1) ss))) ≡ all
  strays_next ms t vs i old new all e g =
      gathers old new (moves_below ms t vs i [] k (kept_strays (strays_in (drop k ss))))
      (moves_below ms t vs i [] (k + 1) (kept_strays (strays_in (drop (k + 1) ss)))) all
      (move_from ms t vs i k s.part.path (kept_part s.part)) e
      (ap (λ xs. moves_below ms t vs i [] k (kept_strays (strays_in xs))) strays_ahead) g

  pub aside_next : (vs : List DocUnit) (i : ℕ) (old new all : List Move)
      → new ≡ old ++ cons_option (move_aside vs i k (kept_part s.part)) []
      → old ++ moves_aside vs i k (kept_strays (strays_in (drop k ss))) ≡ all
      → new ++ moves_aside vs i (k + 1) (kept_strays (strays_in (drop (k + 1) ss))) ≡ all
  aside_next vs i old new all e g =
      gathers old new (moves_aside vs i k (kept_strays (strays_in (drop k ss))))
      (moves_aside vs i (k + 1) (kept_strays (strays_in (drop (k + 1) ss)))) all
      (move_aside vs i k (kept_part s.part)) e
      (ap (λ xs. moves_aside vs i k (kept_strays (strays_in xs))) strays_ahead) g

  -- what is true of each stray
  pub each_stray : (P : Stray → Type 0) → AllByRecursion P (strays_in ss) → P (stray_of s)
  each_stray P h = subst (λ x. P (stray_of x)) (sym is) (by ss k inside h)
    where
      by : (xs : List DoneStray) (n : ℕ) → n < length xs → AllByRecursion P (strays_in xs)
          → P (stray_of (slice_index_or xs n s))
      by [] n l h = absurd (omega (arith, l))
      by (x ∷ xs) zero l h = h.0
      by (x ∷ xs) (suc n) l h = by xs n (omega (arith, l)) h.1

  pub each_tidy : AreTidy ss → IsTidy s.part
  each_tidy h = subst (λ x. IsTidy x.part) (sym is) (by ss k inside h)
    where
      by : (xs : List DoneStray) (n : ℕ) → n < length xs → AreTidy xs → IsTidy (slice_index_or xs n s).part
      by [] n l h = absurd (omega (arith, l))
      by (x ∷ xs) zero l h = h.0
      by (x ∷ xs) (suc n) l h = by xs n (omega (arith, l)) h.1

-- the stray's trace supports its tree
pub stray_supports : (s : DoneStray) → HoldsStray (stray_of s) → Supports (wide_trace s.part.trace) (alone s.tree)
stray_supports s h =
    subst (λ x. Supports x (alone s.tree)) (sym (same_Some (wide_trace s.part.trace) h.trace h.is)) h.supports

pub aside_tree : (s : DoneStray) (all : List Stray) (n : ℕ) (m : PartMove)
    → Supports (wide_trace s.part.trace) (alone s.tree)
    → ((u : WideTree) → StandAside u all → subtree u s.part.path ≡ Some s.tree) → m.part.path ≡ s.part.path
    → m.part.trace ≡ s.part.trace → m.tree ≡ s.tree → HasTree (λ u. StandAside u all) n m
aside_tree s all n m supports stand path trace tree = record {
  supports =
      subst (λ x. Supports (wide_trace m.part.trace) (alone x)) (sym tree)
      (subst (λ r. Supports (wide_trace r) (alone s.tree)) (sym trace) supports);
  stands = λ last u aside. ap (subtree u) path ∙ stand u aside ∙ ap (λ z. Some z) (sym tree);
}
