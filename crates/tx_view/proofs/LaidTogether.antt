-- The layout of parts moves as they do, where each part is laid out, or none is.
use Rattle.std.proofs.Common.{◌≡◌, ℕ, zero, suc, ◌+◌, ◌<◌, Bool, true, false, List, [], ◌∷◌, ◌++◌, length, map, Option}
use Rattle.std.proofs.Common.{Some, None, refl, ap, sym, ◌∙◌, inl, inr, arith}
use Rattle.std.proofs.lemmas.List.{map-append}
use Rattle.std.proofs.lemmas.Option.{same_Some}
use Rattle.std.specs.List.{AllByRecursion, cons_option, filter_map}
use Rattle.std.specs.Option.{option_map, option_map_or}
use Rattle.std.specs.Prelude.{◌==◌, ◌&&◌, if◌then◌else◌, is_some, slice_get, option_and_then}
use Rattle.tx_tree.specs.WideTree.{WideTree}
use Rattle.tx_mod.specs.declared.mods.Mod.{Mod}
use Rattle.tx_mod.specs.Followed.{carried_by_all}
use Rattle.tx_units.specs.declared.kinds.Unit.{Unit as DocUnit}
use Rattle.tx_parts.specs.Parts.{Stored}
use Rattle.tx_bridge.specs.Carrying.{through}
use Rattle.tx_bridge.specs.PartMoves.{Move, is_vacant, is_outside, unit_above, move_to, moves_below, unit_moves}
use Rattle.tx_bridge.specs.PartMoves.{moves_from, moves_aside, part_moves, arrived, all_parts_now}
use Rattle.tx_bridge.specs.PartsKept.{KeptParts, part_paths}
use Rattle.tx_bridge.proofs.Taking.{heads}
use Rattle.tx_unit_layout.specs.LaidAts.{LaidAt}
use Rattle.tx_view.specs.Exchanged.{laid_to}
use Rattle.tx_view.specs.LaidMoves.{LaidMove, laid_move, laid_moves_below, laid_unit_moves, laid_moves_from}
use Rattle.tx_view.specs.LaidMoves.{laid_moves_aside, laid_moves, laid_in_unit, laid_arrived, laid_now, all_laid_now}
use Rattle.tx_view.specs.LaidMoves.{laid_at_paths, AreAllPartsLaid, AreNoPartsLaid, AreAllOrNoneLaid}
use Rattle.tx_view.proofs.Moved.{IsWithin, AreWithin}
use Rattle.tx_view.proofs.Numbers.{at_seam, at_front}
use Rattle.tx_view.proofs.LaidByNumber.{moved_by_number, all_by_number, in_unit_by_number, arrived_by_number}
use Rattle.tx_view.proofs.LaidByNumber.{now_by_number, all_now_by_number, laid_with}

-- ---- each part that moves is laid out, and its layout moves with it

-- what is carried with the part
abbrev goes : List (List LaidAt) → Move → Option LaidMove
goes all m = option_map (λ l. record { to = m.to; laid = l }) (moved_by_number all m)

abbrev GoTogether : List (List LaidAt) → List Move → List LaidMove → Type 0
GoTogether all ms xs = map (goes all) ms ≡ map (λ x. Some x) xs

-- number k of list i of all
one_goes : (all : List (List LaidAt)) (whole : List LaidAt) (i k : ℕ) (s : Stored) (l : LaidAt) (x : ℕ × List ℕ)
    → slice_get all i ≡ Some whole → slice_get whole k ≡ Some l
    → goes all (move_to i k s x) ≡ Some (laid_move l x)
one_goes all whole i k s l x list at =
    ap (λ o. option_map (λ y. record { to = x.0; laid = y })
    (option_map (laid_to x.1) (option_and_then (λ ls. slice_get ls k) o))) list
    ∙ ap (λ o. option_map (λ y. record { to = x.0; laid = y }) (option_map (laid_to x.1) o)) at

-- the elements of the list from number k on
abbrev IsRest : List LaidAt → ℕ → List LaidAt → Type 0
IsRest whole k ls = (n m : ℕ) → m ≡ k + n → slice_get whole m ≡ slice_get ls n

rest_behind_one : (whole : List LaidAt) (k : ℕ) (l : LaidAt) (ls : List LaidAt) → IsRest whole k (l ∷ ls)
    → IsRest whole (k + 1) ls
rest_behind_one whole k l ls h n m e = h (suc n) m (omega (arith, e))

module _ (ms : List Mod) (t : WideTree) (vs : List DocUnit) (all : List (List LaidAt)) where
  below_go : (i : ℕ) (whole : List LaidAt) (p : List ℕ) (k : ℕ) (ks : KeptParts) (ls : List LaidAt)
      → slice_get all i ≡ Some whole → part_paths ks ≡ laid_at_paths ls → IsRest whole k ls
      → GoTogether all (moves_below ms t vs i p k ks) (laid_moves_below ms t vs p ls)
  below_go i whole p k [] [] list e rest = refl
  below_go i whole p k [] (l ∷ ls) list e rest = cc
  below_go i whole p k (s ∷ ks) [] list e rest = cc
  below_go i whole p k (s ∷ ks) (l ∷ ls) list e rest =
      ap (λ q. map (goes all) (cons_option (option_map (λ place. move_to i k s (unit_above 0 vs place))
      (carried_by_all ms t (p ++ q))) (moves_below ms t vs i p (k + 1) ks))) both.0
      ∙ by (carried_by_all ms t (p ++ l.path))
      (below_go i whole p (k + 1) ks ls list both.1 (rest_behind_one whole k l ls rest))
    where
      both : (s.path ≡ l.path) × (part_paths ks ≡ laid_at_paths ls)
      both = heads s.path l.path (part_paths ks) (laid_at_paths ls) e

      by : (o : Option (List ℕ))
          → GoTogether all (moves_below ms t vs i p (k + 1) ks) (laid_moves_below ms t vs p ls)
          → GoTogether all (cons_option (option_map (λ place. move_to i k s (unit_above 0 vs place)) o)
          (moves_below ms t vs i p (k + 1) ks))
          (cons_option (option_map (λ place. laid_move l (unit_above 0 vs place)) o) (laid_moves_below ms t vs p ls))
      by None later = later
      by (Some place) later =
          ap (λ y. y ∷ map (goes all) (moves_below ms t vs i p (k + 1) ks))
          (one_goes all whole i k s l (unit_above 0 vs place) list (rest 0 k (omega arith)))
          ∙ ap (λ ys. Some (laid_move l (unit_above 0 vs place)) ∷ ys) later

  unit_goes : (i : ℕ) (u : DocUnit) (ks : KeptParts) (ls : List LaidAt) → slice_get all i ≡ Some ls
      → part_paths ks ≡ laid_at_paths ls → GoTogether all (unit_moves ms t vs i u ks) (laid_unit_moves ms t vs u ls)
  unit_goes i u ks ls list e = by (is_vacant (through ms t u.path) vs) u.path
    where
      by : (b : Bool) (o : Option (List ℕ))
          → GoTogether all (if b then option_map_or (λ p. moves_below ms t vs i p 0 ks) o [] else [])
          (if b then option_map_or (λ p. laid_moves_below ms t vs p ls) o [] else [])
      by true None = refl
      by true (Some p) = below_go i ls p 0 ks ls list e (λ n m f. ap (slice_get ls) (omega (arith, f)))
      by false o = refl

  -- the lists from number i on
  abbrev AreLists : ℕ → List (List LaidAt) → Type 0
  AreLists i lss = (n m : ℕ) (ls : List LaidAt) → m ≡ i + n → slice_get lss n ≡ Some ls → slice_get all m ≡ Some ls

  units_go : (i : ℕ) (us : List DocUnit) (pss : List KeptParts) (lss : List (List LaidAt))
      → map part_paths pss ≡ map laid_at_paths lss → AreLists i lss
      → GoTogether all (moves_from ms t vs i us pss) (laid_moves_from ms t vs us lss)
  units_go i [] pss lss e lists = refl
  units_go i (u ∷ us) [] [] e lists = refl
  units_go i (u ∷ us) [] (ls ∷ lss) e lists = cc
  units_go i (u ∷ us) (ks ∷ pss) [] e lists = cc
  units_go i (u ∷ us) (ks ∷ pss) (ls ∷ lss) e lists =
      map-append (goes all) (unit_moves ms t vs i u ks) (moves_from ms t vs (i + 1) us pss)
      ∙ ap (λ ys. ys ++ map (goes all) (moves_from ms t vs (i + 1) us pss))
      (unit_goes i u ks ls (lists 0 i ls (omega arith) refl) both.0)
      ∙ ap (λ ys. map (λ x. Some x) (laid_unit_moves ms t vs u ls) ++ ys)
      (units_go (i + 1) us pss lss both.1 (λ n m qs f at. lists (suc n) m qs (omega (arith, f)) at))
      ∙ sym (map-append (λ x. Some x) (laid_unit_moves ms t vs u ls) (laid_moves_from ms t vs us lss))
    where
      both : (part_paths ks ≡ laid_at_paths ls) × (map part_paths pss ≡ map laid_at_paths lss)
      both = heads (part_paths ks) (laid_at_paths ls) (map part_paths pss) (map laid_at_paths lss) e

  aside_go : (i : ℕ) (whole : List LaidAt) (k : ℕ) (ks : KeptParts) (ls : List LaidAt) → slice_get all i ≡ Some whole
      → part_paths ks ≡ laid_at_paths ls → IsRest whole k ls
      → GoTogether all (moves_aside vs i k ks) (laid_moves_aside vs ls)
  aside_go i whole k [] [] list e rest = refl
  aside_go i whole k [] (l ∷ ls) list e rest = cc
  aside_go i whole k (s ∷ ks) [] list e rest = cc
  aside_go i whole k (s ∷ ks) (l ∷ ls) list e rest =
      ap (λ q. map (goes all) (cons_option
      (if is_outside vs q then Some (move_to i k s (length vs, q)) else None) (moves_aside vs i (k + 1) ks))) both.0
      ∙ by (is_outside vs l.path)
      (aside_go i whole (k + 1) ks ls list both.1 (rest_behind_one whole k l ls rest))
    where
      both : (s.path ≡ l.path) × (part_paths ks ≡ laid_at_paths ls)
      both = heads s.path l.path (part_paths ks) (laid_at_paths ls) e

      by : (b : Bool) → GoTogether all (moves_aside vs i (k + 1) ks) (laid_moves_aside vs ls)
          → GoTogether all (cons_option (if b then Some (move_to i k s (length vs, l.path)) else None)
          (moves_aside vs i (k + 1) ks))
          (cons_option (if b then Some (laid_move l (length vs, l.path)) else None) (laid_moves_aside vs ls))
      by false later = later
      by true later =
          ap (λ y. y ∷ map (goes all) (moves_aside vs i (k + 1) ks))
          (one_goes all whole i k s l (length vs, l.path) list (rest 0 k (omega arith)))
          ∙ ap (λ ys. Some (laid_move l (length vs, l.path)) ∷ ys) later

many_lists : (pss : List KeptParts) (lss : List (List LaidAt)) → map part_paths pss ≡ map laid_at_paths lss
    → length pss ≡ length lss
many_lists [] [] e = refl
many_lists [] (ls ∷ lss) e = cc
many_lists (ks ∷ pss) [] e = cc
many_lists (ks ∷ pss) (ls ∷ lss) e =
    ap suc
    (many_lists pss lss (heads (part_paths ks) (laid_at_paths ls) (map part_paths pss) (map laid_at_paths lss) e).1)

-- where a list is found at the number, the number isn't the one after the last
front_list : (lss : List (List LaidAt)) (last : List LaidAt) (n : ℕ) (ls : List LaidAt) → slice_get lss n ≡ Some ls
    → slice_get (laid_with lss last) n ≡ Some ls
front_list [] last n ls e = cc
front_list (x ∷ lss) last zero ls e = e
front_list (x ∷ lss) last (suc n) ls e = front_list lss last n ls e

all_go : (buffer : ℕ) (ms : List Mod) (t : WideTree) (us : List DocUnit) (pss : List KeptParts)
    (lss : List (List LaidAt)) (ks : KeptParts) (ls : List LaidAt) (vs : List DocUnit) → length lss ≡ length us
    → AreAllPartsLaid pss lss ks ls
    → GoTogether (laid_with lss ls) (part_moves buffer ms t us pss ks vs) (laid_moves buffer ms t us lss ls vs)
all_go zero ms t us pss lss ks ls vs many are =
    map-append (goes (laid_with lss ls)) (moves_from ms t vs 0 us pss) (moves_below ms t vs (length us) [] 0 ks)
    ∙ ap (λ ys. ys ++ map (goes (laid_with lss ls)) (moves_below ms t vs (length us) [] 0 ks))
    (units_go ms t vs (laid_with lss ls) 0 us pss lss are.units
    (λ n m qs f at. front_list lss ls m qs (ap (slice_get lss) (omega (arith, f)) ∙ at)))
    ∙ ap (λ ys. map (λ x. Some x) (laid_moves_from ms t vs us lss) ++ ys)
    (below_go ms t vs (laid_with lss ls) (length us) ls [] 0 ks ls
    (ap (slice_get (laid_with lss ls)) (sym many) ∙ at_seam lss ls) are.strays
    (λ n m f. ap (slice_get ls) (omega (arith, f))))
    ∙ sym (map-append (λ x. Some x) (laid_moves_from ms t vs us lss) (laid_moves_below ms t vs [] ls))
all_go (suc buffer) ms t us pss lss ks ls vs many are =
    aside_go ms t vs (laid_with lss ls) (length us) ls 0 ks ls
    (ap (slice_get (laid_with lss ls)) (sym many) ∙ at_seam lss ls) are.strays
    (λ n m f. ap (slice_get ls) (omega (arith, f)))

-- ---- what moves to a unit then

-- what is carried with a part moves where the part moves
record GoesWith (all : List (List LaidAt)) (m : Move) (x : LaidMove) : Type 0 where
  to : m.to ≡ x.to
  laid : moved_by_number all m ≡ Some x.laid
  path : m.kept.path ≡ x.laid.path

goes_with : (all : List (List LaidAt)) (m : Move) (x : LaidMove) → goes all m ≡ Some x → GoesWith all m x
goes_with all m x e = by (option_and_then (λ ls. slice_get ls m.number) (slice_get all m.from)) refl e
  where
    by : (o : Option LaidAt) → option_and_then (λ ls. slice_get ls m.number) (slice_get all m.from) ≡ o
        → option_map (λ l. record { to = m.to; laid = l }) (option_map (laid_to m.kept.path) o) ≡ Some x
        → GoesWith all m x
    by None at f = cc
    by (Some l) at f =
        let same : record { to = m.to; laid = laid_to m.kept.path l } ≡ x =
        same_Some (record { to = m.to; laid = laid_to m.kept.path l }) x f in
        record {
          to = ap (λ (y : LaidMove). y.to) same;
          laid =
              ap (option_map (laid_to m.kept.path)) at ∙ ap (λ (y : LaidMove). Some y.laid) same;
          path = ap (λ (y : LaidMove). y.laid.path) same;
        }

-- each part that moves is laid out
each_goes : (all : List (List LaidAt)) (ms : List Move) (xs : List LaidMove) → GoTogether all ms xs
    → all_by_number all ms ≡ true
each_goes all [] [] e = refl
each_goes all [] (x ∷ xs) e = cc
each_goes all (m ∷ ms) [] e = cc
each_goes all (m ∷ ms) (x ∷ xs) e =
    let both = heads (goes all m) (Some x) (map (goes all) ms) (map (λ y. Some y) xs) e in
    ap (λ b. b && all_by_number all ms) (ap is_some (goes_with all m x both.0).laid) ∙ each_goes all ms xs both.1

-- it moves to the unit
they_come : (all : List (List LaidAt)) (j : ℕ) (ms : List Move) (xs : List LaidMove) → GoTogether all ms xs
    → filter_map (in_unit_by_number all j) ms ≡ laid_arrived xs j
they_come all j [] [] e = refl
they_come all j [] (x ∷ xs) e = cc
they_come all j (m ∷ ms) [] e = cc
they_come all j (m ∷ ms) (x ∷ xs) e =
    let both = heads (goes all m) (Some x) (map (goes all) ms) (map (λ y. Some y) xs) e in
    let one = goes_with all m x both.0 in
    ap (λ n. cons_option (if n == j then moved_by_number all m else None) (filter_map (in_unit_by_number all j) ms))
    one.to
    ∙ ap (λ o. cons_option (if x.to == j then o else None) (filter_map (in_unit_by_number all j) ms)) one.laid
    ∙ ap (cons_option (laid_in_unit j x)) (they_come all j ms xs both.1)

-- what arrives has the paths of the cached parts that move there
paths_come : (all : List (List LaidAt)) (j : ℕ) (ms : List Move) (xs : List LaidMove) → GoTogether all ms xs
    → part_paths (arrived ms j) ≡ laid_at_paths (laid_arrived xs j)
paths_come all j [] [] e = refl
paths_come all j [] (x ∷ xs) e = cc
paths_come all j (m ∷ ms) [] e = cc
paths_come all j (m ∷ ms) (x ∷ xs) e =
    let both = heads (goes all m) (Some x) (map (goes all) ms) (map (λ y. Some y) xs) e in
    let one = goes_with all m x both.0 in
    ap (λ n. part_paths (cons_option (if n == j then Some m.kept else None) (arrived ms j))) one.to
    ∙ by (x.to == j) one.path (paths_come all j ms xs both.1)
  where
    by : (b : Bool) → m.kept.path ≡ x.laid.path → part_paths (arrived ms j) ≡ laid_at_paths (laid_arrived xs j)
        → part_paths (cons_option (if b then Some m.kept else None) (arrived ms j))
        ≡ laid_at_paths (cons_option (if b then Some x.laid else None) (laid_arrived xs j))
    by true path later = ap (λ p. p ∷ part_paths (arrived ms j)) path ∙ ap (λ ps. x.laid.path ∷ ps) later
    by false path later = later

-- ---- no part is laid out

-- what is there of number n of list i
abbrev laid_at_number : List (List LaidAt) → ℕ → ℕ → Option LaidAt
laid_at_number all i n = option_and_then (λ ls. slice_get ls n) (slice_get all i)

none_there : (ls : List LaidAt) (n : ℕ) → ls ≡ [] → slice_get ls n ≡ None
none_there ls n e = ap (λ ms. slice_get ms n) e

none_at : (lss : List (List LaidAt)) (ls : List LaidAt) (i n : ℕ) → AreNoPartsLaid lss ls
    → laid_at_number (laid_with lss ls) i n ≡ None
none_at [] ls zero n none = none_there ls n none.strays
none_at [] ls (suc i) n none = refl
none_at (x ∷ lss) ls zero n none = none_there x n none.units.0
none_at (x ∷ lss) ls (suc i) n none = none_at lss ls i n (record { units = none.units.1; strays = none.strays })

none_come : (lss : List (List LaidAt)) (ls : List LaidAt) (j : ℕ) (moves : List Move) → AreNoPartsLaid lss ls
    → filter_map (in_unit_by_number (laid_with lss ls) j) moves ≡ []
none_come lss ls j [] none = refl
none_come lss ls j (m ∷ moves) none =
    ap (λ o. cons_option (if m.to == j then option_map (laid_to m.kept.path) o else None)
    (filter_map (in_unit_by_number (laid_with lss ls) j) moves)) (none_at lss ls m.from m.number none)
    ∙ by (m.to == j) ∙ none_come lss ls j moves none
  where
    by : (b : Bool) → cons_option (if b then None else None) (filter_map (in_unit_by_number (laid_with lss ls) j) moves)
        ≡ filter_map (in_unit_by_number (laid_with lss ls) j) moves
    by true = refl
    by false = refl

no_moves_from : (ms : List Mod) (t : WideTree) (vs us : List DocUnit) (lss : List (List LaidAt))
    → AllByRecursion (λ xs. xs ≡ []) lss → laid_moves_from ms t vs us lss ≡ []
no_moves_from ms t vs [] lss none = refl
no_moves_from ms t vs (u ∷ us) [] none = refl
no_moves_from ms t vs (u ∷ us) (ls ∷ lss) none =
    ap (λ xs. laid_unit_moves ms t vs u xs ++ laid_moves_from ms t vs us lss) none.0
    ∙ by (is_vacant (through ms t u.path) vs) u.path ∙ no_moves_from ms t vs us lss none.1
  where
    by : (b : Bool) (o : Option (List ℕ))
        → (if b then option_map_or (λ p. []) o [] else []) ++ laid_moves_from ms t vs us lss
        ≡ laid_moves_from ms t vs us lss
    by true None = refl
    by true (Some p) = refl
    by false o = refl

no_moves : (buffer : ℕ) (ms : List Mod) (t : WideTree) (us : List DocUnit) (lss : List (List LaidAt))
    (ls : List LaidAt) (vs : List DocUnit) → AreNoPartsLaid lss ls → laid_moves buffer ms t us lss ls vs ≡ []
no_moves zero ms t us lss ls vs none =
    ap (λ xs. xs ++ laid_moves_below ms t vs [] ls) (no_moves_from ms t vs us lss none.units)
    ∙ ap (laid_moves_below ms t vs []) none.strays
no_moves (suc buffer) ms t us lss ls vs none = ap (laid_moves_aside vs) none.strays

-- ---- what is put by number is what moves by its path

module _ (buffer : ℕ) (ms : List Mod) (t : WideTree) (us : List DocUnit) (pss : List KeptParts)
    (lss : List (List LaidAt)) (ks : KeptParts) (ls : List LaidAt) (vs : List DocUnit)
    (many : length lss ≡ length us) (alike : AreAllOrNoneLaid pss lss ks ls) where
  abbrev told : List Move
  told = part_moves buffer ms t us pss ks vs

  abbrev moves : List LaidMove
  moves = laid_moves buffer ms t us lss ls vs

  pub arrive_same : (j : ℕ) → arrived_by_number (laid_with lss ls) told j ≡ laid_arrived moves j
  arrive_same j = by alike
    where
      none_by : (b : Bool) → AreNoPartsLaid lss ls
          → (if b then filter_map (in_unit_by_number (laid_with lss ls) j) told else []) ≡ []
      none_by true none = none_come lss ls j told none
      none_by false none = refl

      by : AreAllOrNoneLaid pss lss ks ls → arrived_by_number (laid_with lss ls) told j ≡ laid_arrived moves j
      by (inl are) =
          let go = all_go buffer ms t us pss lss ks ls vs many are in
          ap (λ (b : Bool). if b then filter_map (in_unit_by_number (laid_with lss ls) j) told else [])
          (each_goes (laid_with lss ls) told moves go)
          ∙ they_come (laid_with lss ls) j told moves go
      by (inr none) =
          none_by (all_by_number (laid_with lss ls) told) none
          ∙ ap (λ xs. laid_arrived xs j) (sym (no_moves buffer ms t us lss ls vs none))

  pub units_same : (j : ℕ) (ss : List (Option ℕ)) → AreWithin (length lss) ss
      → all_now_by_number (laid_with lss ls) told j ss ≡ all_laid_now lss moves j ss
  units_same j [] within = refl
  units_same j (s ∷ ss) within =
      ap (λ xs. xs ∷ all_now_by_number (laid_with lss ls) told (j + 1) ss) (by s within.0)
      ∙ ap (λ xss. laid_now lss moves j s ∷ xss) (units_same (j + 1) ss within.1)
    where
      by : (o : Option ℕ) → IsWithin (length lss) o
          → now_by_number (laid_with lss ls) told j o ≡ laid_now lss moves j o
      by None inside = arrive_same j
      by (Some i) inside =
          ap (λ o. option_map_or (λ xs. xs) o [])
          (at_front lss ls i (λ e. let less : i < length lss = inside i refl in absurd (omega (arith, e, less))))

  -- ---- it holds afterwards

  pub alike_after : (ss : List (Option ℕ)) (n : ℕ)
      → AreAllOrNoneLaid (all_parts_now pss told 0 ss) (all_laid_now lss moves 0 ss) (arrived told n)
      (laid_arrived moves n)
  alike_after ss n = by alike
    where
      paths_of_list : (qss : List KeptParts) (mss : List (List LaidAt)) (i : ℕ)
          → map part_paths qss ≡ map laid_at_paths mss
          → part_paths (option_map_or (λ qs. qs) (slice_get qss i) [])
          ≡ laid_at_paths (option_map_or (λ xs. xs) (slice_get mss i) [])
      paths_of_list [] [] i e = refl
      paths_of_list [] (xs ∷ mss) i e = cc
      paths_of_list (qs ∷ qss) [] i e = cc
      paths_of_list (qs ∷ qss) (xs ∷ mss) zero e =
          (heads (part_paths qs) (laid_at_paths xs) (map part_paths qss) (map laid_at_paths mss) e).0
      paths_of_list (qs ∷ qss) (xs ∷ mss) (suc i) e =
          paths_of_list qss mss i
          (heads (part_paths qs) (laid_at_paths xs) (map part_paths qss) (map laid_at_paths mss) e).1

      units_all : GoTogether (laid_with lss ls) told moves → map part_paths pss ≡ map laid_at_paths lss → (j : ℕ)
          (os : List (Option ℕ))
          → map part_paths (all_parts_now pss told j os) ≡ map laid_at_paths (all_laid_now lss moves j os)
      units_all go e j [] = refl
      units_all go e j (None ∷ os) =
          ap (λ ps. ps ∷ map part_paths (all_parts_now pss told (j + 1) os))
          (paths_come (laid_with lss ls) j told moves go)
          ∙ ap (λ pps. laid_at_paths (laid_arrived moves j) ∷ pps) (units_all go e (j + 1) os)
      units_all go e j (Some i ∷ os) =
          ap (λ ps. ps ∷ map part_paths (all_parts_now pss told (j + 1) os)) (paths_of_list pss lss i e)
          ∙ ap (λ pps. laid_at_paths (option_map_or (λ xs. xs) (slice_get lss i) []) ∷ pps) (units_all go e (j + 1) os)

      none_of_list : (mss : List (List LaidAt)) (i : ℕ) → AllByRecursion (λ xs. xs ≡ []) mss
          → option_map_or (λ xs. xs) (slice_get mss i) [] ≡ []
      none_of_list [] i h = refl
      none_of_list (xs ∷ mss) zero h = h.0
      none_of_list (xs ∷ mss) (suc i) h = none_of_list mss i h.1

      units_none : AreNoPartsLaid lss ls → (j : ℕ) (os : List (Option ℕ))
          → AllByRecursion (λ xs. xs ≡ []) (all_laid_now lss moves j os)
      units_none none j [] = tt
      units_none none j (None ∷ os) =
          (ap (λ xs. laid_arrived xs j) (no_moves buffer ms t us lss ls vs none), units_none none (j + 1) os)
      units_none none j (Some i ∷ os) = (none_of_list lss i none.units, units_none none (j + 1) os)

      by : AreAllOrNoneLaid pss lss ks ls
          → AreAllOrNoneLaid (all_parts_now pss told 0 ss) (all_laid_now lss moves 0 ss) (arrived told n)
          (laid_arrived moves n)
      by (inl are) =
          let go = all_go buffer ms t us pss lss ks ls vs many are in
          inl (record {
            units = units_all go are.units 0 ss;
            strays = paths_come (laid_with lss ls) n told moves go;
          })
      by (inr none) =
          inr (record {
            units = units_none none 0 ss;
            strays = ap (λ xs. laid_arrived xs n) (no_moves buffer ms t us lss ls vs none);
          })
