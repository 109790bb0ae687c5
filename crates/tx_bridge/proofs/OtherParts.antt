-- The parts of a unit that aren't found to keep their places, and where they are afterwards.
use Rattle.std.proofs.Common.{◌≡◌, ℕ, zero, suc, ◌+◌, ◌<◌, List, [], ◌∷◌, ◌++◌, length, drop, map, refl, sym, ap}
use Rattle.std.proofs.Common.{Option, Some, None, ◌∙◌, arith, get_or, subst}
use Rattle.std.proofs.lemmas.Bool.Decides.{Decides-eqb}
use Rattle.std.proofs.lemmas.List.{append_assoc, drop_more, map-append}
use Rattle.std.proofs.lemmas.List.Elements.{All-from_recursion, recursion_from_All, All-push}
use Rattle.std.proofs.lemmas.Option.{same_Some}
use Rattle.std.specs.List.{All, AllByRecursion}
use Rattle.std.specs.Option.{option_map_or}
use Rattle.std.specs.Prelude.{Bool, true, false, ◌==◌, if◌then◌else◌, slice_get, option_map, option_and_then, IfSome}
use Rattle.tx_tree.specs.WideTree.{WideTree}
use Rattle.tx_tree.specs.Paths.{subtree}
use Rattle.tx_mod.specs.declared.mods.Mod.{Mod}
use Rattle.tx_mod.specs.Followed.{changed_by_all, carried_by_all}
use Rattle.tx_mod.specs.Moves.{rest_behind}
use Rattle.tx_mod.proofs.Kept.{subtree_behind}
use Rattle.tx_parts.specs.Parts.{Stored}
use Rattle.tx_walk.specs.declared.part.Part.{Part as DonePart}
use Rattle.tx_walk.specs.Walked.{IsTidy}
use Rattle.tx_bridge.specs.Carrying.{through, Leads, AllLead}
use Rattle.tx_units.specs.declared.kinds.Unit.{Unit as DocUnit}
use Rattle.tx_bridge.specs.CarryingParts.{part_at, and_part, carried_below, parts_behind}
use Rattle.tx_bridge.specs.MovedParts.{AreMovedParts, moves_of, places_by}
use Rattle.tx_bridge.specs.HeldParts.{HoldsPart, kept_part, kept_parts}
use Rattle.tx_bridge.specs.PartsKept.{KeptParts, part_paths}
use Rattle.tx_bridge.specs.Keeping.{all_keep_place}
use Rattle.tx_bridge.specs.Others.{others_from, path_of_part, kept_there, kept_others, stored_of, and_some, put_from}
use Rattle.tx_bridge.proofs.Inside.{rest_own}
use Rattle.tx_bridge.proofs.WithinUnit.{at_path}
use Rattle.tx_bridge.proofs.KeptPlaces.{places_stay}
use Rattle.tx_bridge.proofs.Putting.{differs, IsAhead, put_past, put_here}

and_same : (o : Option Stored) (ks : KeptParts) → and_some o ks ≡ and_part o ks
and_same None ks = refl
and_same (Some k) ks = refl

-- ---- others are put, and what is cached of them

kept_and : (o : Option DonePart) (ps : List DonePart) → kept_parts (and_some o ps)
    ≡ and_some (option_map kept_part o) (kept_parts ps)
kept_and None ps = refl
kept_and (Some q) ps = refl

pub kept_put : (i : ℕ) (os : List (ℕ × Option DonePart)) (ps : List DonePart)
    → kept_parts (put_from i os ps) ≡ put_from i (stored_of os) (kept_parts ps)
kept_put i [] ps = refl
kept_put i (o ∷ os) [] = refl
kept_put i (o ∷ os) (p ∷ ps) =
    by (o.0 == i) (kept_put (i + 1) os ps) (kept_put (i + 1) (o ∷ os) ps)
  where
    by : (b : Bool) → kept_parts (put_from (i + 1) os ps) ≡ put_from (i + 1) (stored_of os) (kept_parts ps)
        → kept_parts (put_from (i + 1) (o ∷ os) ps) ≡ put_from (i + 1) (stored_of (o ∷ os)) (kept_parts ps)
        → kept_parts (if b then and_some o.1 (put_from (i + 1) os ps) else p ∷ put_from (i + 1) (o ∷ os) ps)
        ≡ (if b then and_some (option_map kept_part o.1) (put_from (i + 1) (stored_of os) (kept_parts ps))
        else kept_part p ∷ put_from (i + 1) (stored_of (o ∷ os)) (kept_parts ps))
    by true e f = kept_and o.1 (put_from (i + 1) os ps) ∙ ap (and_some (option_map kept_part o.1)) e
    by false e f = ap (λ ks. kept_part p ∷ ks) f

abbrev pub AreTidy : List (ℕ × Option DonePart) → Type 0
AreTidy os = AllByRecursion (λ (o : ℕ × Option DonePart). IfSome o.1 IsTidy) os

tidy_and : (o : Option DonePart) (ps : List DonePart) → IfSome o IsTidy → AllByRecursion IsTidy ps
    → AllByRecursion IsTidy (and_some o ps)
tidy_and None ps h g = g
tidy_and (Some q) ps h g = (h, g)

tidy_put : (i : ℕ) (os : List (ℕ × Option DonePart)) (ps : List DonePart) → AreTidy os → AllByRecursion IsTidy ps
    → AllByRecursion IsTidy (put_from i os ps)
tidy_put i [] ps h g = g
tidy_put i (o ∷ os) [] h g = tt
tidy_put i (o ∷ os) (p ∷ ps) h g =
    by (o.0 == i) (tidy_put (i + 1) os ps h.1 g.1) (tidy_put (i + 1) (o ∷ os) ps h g.1)
  where
    by : (b : Bool) → AllByRecursion IsTidy (put_from (i + 1) os ps)
        → AllByRecursion IsTidy (put_from (i + 1) (o ∷ os) ps)
        → AllByRecursion IsTidy
        (if b then and_some o.1 (put_from (i + 1) os ps) else p ∷ put_from (i + 1) (o ∷ os) ps)
    by true e f = tidy_and o.1 (put_from (i + 1) os ps) h.0 e
    by false e f = (g.0, f)

-- ---- each part is found to keep its place, or another one is put

abbrev with_numbers : {B : Type 0} → (ℕ → Option B) → List ℕ → List (ℕ × Option B)
with_numbers f ns = map (λ n. (n, f n)) ns

-- ---- where parts are, by the list of others

module _ (i : ℕ) (os : List (ℕ × Option (List ℕ))) (q : List ℕ) (qs : List (List ℕ)) where
  place_past : IsAhead i os → places_by i os (q ∷ qs) ≡ Some q ∷ places_by (i + 1) os qs
  place_past h = by os h
    where
      by : (ms : List (ℕ × Option (List ℕ))) → IsAhead i ms
          → places_by i ms (q ∷ qs) ≡ Some q ∷ places_by (i + 1) ms qs
      by [] h = refl
      by (m ∷ ms) h =
          ap (λ b. if b then m.1 ∷ places_by (i + 1) ms qs else Some q ∷ places_by (i + 1) (m ∷ ms) qs) h

  place_here : (o : ℕ × Option (List ℕ)) → o.0 == i ≡ true
      → places_by i (o ∷ os) (q ∷ qs) ≡ o.1 ∷ places_by (i + 1) os qs
  place_here o h =
      ap (λ b. if b then o.1 ∷ places_by (i + 1) os qs else Some q ∷ places_by (i + 1) (o ∷ os) qs) h

none_placed : (i : ℕ) (os : List (ℕ × Option (List ℕ))) → places_by i os [] ≡ []
none_placed i [] = refl
none_placed i (o ∷ os) = refl

-- where one is that is put, or nowhere
abbrev place_of : Option Stored → Option (List ℕ)
place_of o = option_map (λ (k : Stored). k.path) o

place_kept : (o : Option DonePart) → option_map (λ (d : DonePart). d.path) o ≡ place_of (option_map kept_part o)
place_kept None = refl
place_kept (Some d) = refl

-- what is cached of the others says where they are
moves_kept : (os : List (ℕ × Option DonePart)) → moves_of os ≡ map (λ k. (k.0, place_of k.1)) (stored_of os)
moves_kept [] = refl
moves_kept (o ∷ os) =
    ap (λ q. (o.0, q) ∷ moves_of os) (place_kept o.1)
    ∙ ap (λ ms. (o.0, place_of (option_map kept_part o.1)) ∷ ms) (moves_kept os)

moves_numbers : (f : ℕ → Option Stored) (ns : List ℕ)
    → map (λ k. (k.0, place_of k.1)) (with_numbers f ns) ≡ with_numbers (λ n. place_of (f n)) ns
moves_numbers f [] = refl
moves_numbers f (n ∷ ns) = ap (λ ms. (n, place_of (f n)) ∷ ms) (moves_numbers f ns)

place_at : (p : List ℕ) (place : Option (List ℕ)) (k : Stored)
    → place_of (part_at p place k) ≡ option_and_then (rest_behind p) place
place_at p place k = by (option_and_then (rest_behind p) place)
  where
    by : (o : Option (List ℕ)) → place_of (option_map (at_path k) o) ≡ o
    by None = refl
    by (Some r) = refl

module _ (ms : List Mod) (t u : WideTree) (p : List ℕ) (made : changed_by_all ms t ≡ Some u) where
  -- the numbers, from k on, aren't those before
  all_ahead : {B : Type 0} (f : ℕ → Option B) (i k : ℕ) (qs : List DonePart) → i < k
      → IsAhead i (with_numbers f (others_from ms p k qs))
  all_ahead f i k [] l = tt
  all_ahead {B} f i k (q ∷ qs) l =
      by (all_keep_place ms (p ++ q.path)) (all_ahead f i (k + 1) qs (omega (arith, l)))
    where
      by : (b : Bool) → IsAhead i (with_numbers f (others_from ms p (k + 1) qs))
          → IsAhead i (with_numbers f
          (if b then others_from ms p (k + 1) qs else k ∷ others_from ms p (k + 1) qs))
      by true h = h
      by false h = differs k i (λ e. omega (arith, l, e))

  -- the function gives what is cached of the parts afterwards, whose numbers begin with i
  abbrev Tells : (ℕ → Option Stored) → ℕ → List DonePart → Type 0
  Tells f i qs = (j : ℕ) (q : DonePart) → slice_get qs j ≡ Some q
      → f (i + j) ≡ part_at p (carried_by_all ms t (p ++ q.path)) (kept_part q)

  all_put : (f : ℕ → Option Stored) (i : ℕ) (qs : List DonePart) → Tells f i qs
      → put_from i (with_numbers f (others_from ms p i qs)) (kept_parts qs) ≡ parts_behind ms t p (kept_parts qs)
  all_put f i [] h = refl
  all_put f i (q ∷ qs) h =
      by (all_keep_place ms (p ++ q.path)) refl
      (all_put f (i + 1) qs (λ j r e. ap f (omega arith) ∙ h (suc j) r e))
    where
      by : (b : Bool) → all_keep_place ms (p ++ q.path) ≡ b
          → put_from (i + 1) (with_numbers f (others_from ms p (i + 1) qs)) (kept_parts qs)
          ≡ parts_behind ms t p (kept_parts qs)
          → put_from i (with_numbers f (if b then others_from ms p (i + 1) qs else i ∷ others_from ms p (i + 1) qs))
          (kept_part q ∷ kept_parts qs)
          ≡ and_part (part_at p (carried_by_all ms t (p ++ q.path)) (kept_part q)) (parts_behind ms t p (kept_parts qs))
      by true e rest =
          put_past i (with_numbers f (others_from ms p (i + 1) qs)) (kept_part q) (kept_parts qs)
          (all_ahead f i (i + 1) qs (omega arith))
          ∙ ap (λ ks. kept_part q ∷ ks) rest
          ∙ sym (ap (λ o. and_part (part_at p o (kept_part q)) (parts_behind ms t p (kept_parts qs)))
          (places_stay ms t u (p ++ q.path) made e)
          ∙ ap (λ o. and_part (option_map (at_path (kept_part q)) o) (parts_behind ms t p (kept_parts qs)))
          (rest_own p q.path))
      by false e rest =
          put_here i (i, f i) (with_numbers f (others_from ms p (i + 1) qs)) (kept_part q) (kept_parts qs)
          ((Decides-eqb i i).1 refl)
          ∙ ap (and_some (f i)) rest ∙ and_same (f i) (parts_behind ms t p (kept_parts qs))
          ∙ ap (λ o. and_part o (parts_behind ms t p (kept_parts qs))) (ap f (omega arith) ∙ h 0 q refl)

  -- a part that is found to keep its place is where it was, and for each other one the function says where it is
  all_placed : (g : ℕ → Option (List ℕ)) (i : ℕ) (qs : List DonePart)
      → ((j : ℕ) (q : DonePart) → slice_get qs j ≡ Some q → g (i + j) ≡ carried_below ms t p q.path)
      → places_by i (with_numbers g (others_from ms p i qs)) (part_paths (kept_parts qs))
      ≡ map (carried_below ms t p) (part_paths (kept_parts qs))
  all_placed g i [] h = none_placed i (with_numbers g (others_from ms p i []))
  all_placed g i (q ∷ qs) h =
      by (all_keep_place ms (p ++ q.path)) refl
      (all_placed g (i + 1) qs (λ j r e. ap g (omega arith) ∙ h (suc j) r e))
    where
      by : (b : Bool) → all_keep_place ms (p ++ q.path) ≡ b
          → places_by (i + 1) (with_numbers g (others_from ms p (i + 1) qs)) (part_paths (kept_parts qs))
          ≡ map (carried_below ms t p) (part_paths (kept_parts qs))
          → places_by i (with_numbers g (if b then others_from ms p (i + 1) qs else i ∷ others_from ms p (i + 1) qs))
          (q.path ∷ part_paths (kept_parts qs))
          ≡ carried_below ms t p q.path ∷ map (carried_below ms t p) (part_paths (kept_parts qs))
      by true e rest =
          place_past i (with_numbers g (others_from ms p (i + 1) qs)) q.path (part_paths (kept_parts qs))
          (all_ahead g i (i + 1) qs (omega arith))
          ∙ ap (λ os. Some q.path ∷ os) rest
          ∙ sym (ap (λ o. option_and_then (rest_behind p) o ∷ map (carried_below ms t p) (part_paths (kept_parts qs)))
          (places_stay ms t u (p ++ q.path) made e)
          ∙ ap (λ o. o ∷ map (carried_below ms t p) (part_paths (kept_parts qs))) (rest_own p q.path))
      by false e rest =
          place_here i (with_numbers g (others_from ms p (i + 1) qs)) q.path (part_paths (kept_parts qs)) (i, g i)
          ((Decides-eqb i i).1 refl)
          ∙ ap (λ os. g i ∷ os) rest
          ∙ ap (λ o. o ∷ map (carried_below ms t p) (part_paths (kept_parts qs))) (ap g (omega arith) ∙ h 0 q refl)

  -- what is cached of the part of this number afterwards
  abbrev there : List DonePart → ℕ → Option Stored
  there ps n = kept_there p ps n (through ms t (path_of_part p ps n))

  kept_each : (ps : List DonePart) (ns : List ℕ)
      → kept_others p ps ns (map (through ms t) (map (path_of_part p ps) ns)) ≡ with_numbers (there ps) ns
  kept_each ps [] = refl
  kept_each ps (n ∷ ns) = ap (λ os. (n, there ps n) ∷ os) (kept_each ps ns)

  there_tells : (ps : List DonePart) → Tells (there ps) 0 ps
  there_tells ps j q e =
      ap (there ps) (omega arith) ∙ ap (λ o. option_and_then
      (λ (r : DonePart). part_at p (through ms t (option_map (λ (s : DonePart). p ++ s.path) o)) (kept_part r)) o) e

  -- others at the places to which the modifications lead are those that aren't found to keep their places
  pub moved_are : (ps : List DonePart) (os : List (ℕ × Option DonePart)) (ns : List ℕ)
      (paths places : List (Option (List ℕ))) → ns ≡ others_from ms p 0 ps → paths ≡ map (path_of_part p ps) ns
      → places ≡ map (through ms t) paths → stored_of os ≡ kept_others p ps ns places
      → All (λ (o : ℕ × Option DonePart). IfSome o.1 IsTidy) os → (v : DocUnit) → v.path ≡ Some p
      → AreMovedParts ms t v (kept_parts ps) os
  moved_are ps os ns paths places numbers stood stand is tidy v has =
      let told : stored_of os ≡ with_numbers (there ps) (others_from ms p 0 ps) =
      is ∙ ap (kept_others p ps ns) (stand ∙ ap (map (through ms t)) stood) ∙ kept_each ps ns
      ∙ ap (with_numbers (there ps)) numbers in
      let moves : moves_of os ≡ with_numbers (λ n. place_of (there ps n)) (others_from ms p 0 ps) =
      moves_kept os ∙ ap (map (λ k. (k.0, place_of k.1))) told
      ∙ moves_numbers (there ps) (others_from ms p 0 ps) in
      let placed : places_by 0 (moves_of os) (part_paths (kept_parts ps))
      ≡ map (carried_below ms t p) (part_paths (kept_parts ps)) =
      ap (λ xs. places_by 0 xs (part_paths (kept_parts ps))) moves
      ∙ all_placed (λ n. place_of (there ps n)) 0 ps
      (λ j q e. ap place_of (there_tells ps j q e)
      ∙ place_at p (carried_by_all ms t (p ++ q.path)) (kept_part q)) in
      record {
        kept =
            ap (λ ks. put_from 0 ks (kept_parts ps)) told ∙ all_put (there ps) 0 ps (there_tells ps)
            ∙ sym (ap (λ o. option_map_or (λ q. parts_behind ms t q (kept_parts ps)) o []) has);
        places = λ q at.
            subst (λ r. places_by 0 (moves_of os) (part_paths (kept_parts ps))
            ≡ map (carried_below ms t r) (part_paths (kept_parts ps)))
            (same_Some p q (sym has ∙ at)) placed;
        tidy = tidy;
      }

  -- where all are found to keep their places, there are none
  pub none_moved : (ps : List DonePart) (os : List (ℕ × Option DonePart)) → others_from ms p 0 ps ≡ [] → os ≡ []
      → (v : DocUnit) → v.path ≡ Some p → AreMovedParts ms t v (kept_parts ps) os
  none_moved ps os empty none =
      moved_are ps os [] [] [] (sym empty) refl refl (ap stored_of none)
      (subst (All (λ (o : ℕ × Option DonePart). IfSome o.1 IsTidy)) (sym none)
      (All-from_recursion (λ (o : ℕ × Option DonePart). IfSome o.1 IsTidy) [] tt))

pub tidy_all : (os : List (ℕ × Option DonePart)) (ps : List DonePart)
    → All (λ (o : ℕ × Option DonePart). IfSome o.1 IsTidy) os → All IsTidy ps → All IsTidy (put_from 0 os ps)
tidy_all os ps h g =
    All-from_recursion IsTidy (put_from 0 os ps)
    (tidy_put 0 os ps (recursion_from_All (λ (o : ℕ × Option DonePart). IfSome o.1 IsTidy) os h)
    (recursion_from_All IsTidy ps g))

-- ---- what is asked

tidy_held : (x : WideTree) (ps : List DonePart) → AllByRecursion (HoldsPart x) ps → AllByRecursion IsTidy ps
tidy_held x [] h = tt
tidy_held x (p ∷ ps) h = (h.0.tidy, tidy_held x ps h.1)

pub held_tidy : (x : WideTree) (ps : List DonePart) → AllByRecursion (HoldsPart x) ps → All IsTidy ps
held_tidy x ps h = All-from_recursion IsTidy ps (tidy_held x ps h)

module _ (t old : WideTree) (p : List ℕ) (is : subtree t p ≡ Some old) where
  one_leads : (ps : List DonePart) → AllByRecursion (HoldsPart old) ps → (n : ℕ) → Leads t (path_of_part p ps n)
  one_leads [] h zero = tt
  one_leads [] h (suc n) = tt
  one_leads (q ∷ qs) h zero = (h.0.there, subtree_behind p q.path t old is ∙ h.0.leads)
  one_leads (q ∷ qs) h (suc n) = one_leads qs h.1 n

  each_leads : (ps : List DonePart) → AllByRecursion (HoldsPart old) ps → (ns : List ℕ)
      → AllByRecursion (Leads t) (map (path_of_part p ps) ns)
  each_leads ps h [] = tt
  each_leads ps h (n ∷ ns) = (one_leads ps h n, each_leads ps h ns)

  pub others_lead : (ps : List DonePart) (ns : List ℕ) (paths : List (Option (List ℕ)))
      → paths ≡ map (path_of_part p ps) ns → AllByRecursion (HoldsPart old) ps → AllLead t paths
  others_lead ps ns paths stood h =
      subst (AllLead t) (sym stood)
      (All-from_recursion (Leads t) (map (path_of_part p ps) ns) (each_leads ps h ns))

-- ---- going over the parts

pub number_next : (ms : List Mod) (p : List ℕ) (ps : List DonePart) (i : ℕ) (d : DonePart) (ns after : List ℕ)
    → i < length ps → ns ++ others_from ms p i (drop i ps) ≡ others_from ms p 0 ps
    → after ≡ ns ++ (if all_keep_place ms (p ++ (get_or ps i d).path) then [] else i ∷ [])
    → after ++ others_from ms p (i + 1) (drop (i + 1) ps) ≡ others_from ms p 0 ps
number_next ms p ps i d ns after inside so_far pushed =
    ap (λ xs. xs ++ others_from ms p (i + 1) (drop (i + 1) ps)) pushed
    ∙ by (all_keep_place ms (p ++ (get_or ps i d).path))
    ∙ ap (λ qs. ns ++ others_from ms p i qs) (sym (drop_more ps i d inside)) ∙ so_far
  where
    by : (b : Bool) → ns ++ (if b then [] else i ∷ []) ++ others_from ms p (i + 1) (drop (i + 1) ps)
        ≡ ns ++ (if b then others_from ms p (i + 1) (drop (i + 1) ps)
        else i ∷ others_from ms p (i + 1) (drop (i + 1) ps))
    by true = append_assoc ns [] (others_from ms p (i + 1) (drop (i + 1) ps))
    by false = append_assoc ns (i ∷ []) (others_from ms p (i + 1) (drop (i + 1) ps))

-- after j of the others
pub record OthersSoFar (p : List ℕ) (ps : List DonePart) (ns : List ℕ) (places : List (Option (List ℕ)))
    (os : List (ℕ × Option DonePart)) (j : ℕ) : Type 0 where
  pub kept : stored_of os ++ kept_others p ps (drop j ns) (drop j places) ≡ kept_others p ps ns places
  pub tidy : All (λ (o : ℕ × Option DonePart). IfSome o.1 IsTidy) os

pub other_next : (p : List ℕ) (ps : List DonePart) (ns : List ℕ) (places : List (Option (List ℕ)))
    (os after : List (ℕ × Option DonePart)) (j n : ℕ) (place : Option (List ℕ)) (o : Option DonePart)
    → OthersSoFar p ps ns places os j → j < length ns → length places ≡ length ns → n ≡ get_or ns j 0
    → place ≡ get_or places j place → option_map kept_part o ≡ kept_there p ps n place → IfSome o IsTidy
    → after ≡ os ++ (n, o) ∷ [] → OthersSoFar p ps ns places after (j + 1)
other_next p ps ns places os after j n place o g inside number is_number is_place is tidy pushed =
    subst (λ xs. OthersSoFar p ps ns places xs (j + 1)) (sym pushed)
    (record {
      kept =
          ap (λ xs. xs ++ rest) (map-append kept_one os ((n, o) ∷ []))
          ∙ append_assoc (stored_of os) (kept_one (n, o) ∷ []) rest
          ∙ ap (λ k. stored_of os ++ (n, k) ∷ rest) is
          ∙ ap (λ ms. stored_of os ++ kept_others p ps ms (place ∷ drop (j + 1) places))
          (sym (drop_more ns j 0 inside ∙ ap (λ m. m ∷ drop (j + 1) ns) (sym is_number)))
          ∙ ap (λ qs. stored_of os ++ kept_others p ps (drop j ns) qs)
          (sym (drop_more places j place (omega (arith, inside, number))
          ∙ ap (λ q. q ∷ drop (j + 1) places) (sym is_place)))
          ∙ g.kept;
      tidy = All-push (λ (x : ℕ × Option DonePart). IfSome x.1 IsTidy) os (n, o) g.tidy tidy;
    })
  where
    kept_one : ℕ × Option DonePart → ℕ × Option Stored
    kept_one x = (x.0, option_map kept_part x.1)

    rest : List (ℕ × Option Stored)
    rest = kept_others p ps (drop (j + 1) ns) (drop (j + 1) places)
