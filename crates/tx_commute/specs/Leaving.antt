-- What is left of later edits when one edit is left out.
use Rattle.std.specs.Prelude.{◌≡◌, ℕ, ◌+◌, List, [], ◌∷◌, Option, Some, None, Ok, Err, option_and_then, option_map, map}
use Rattle.std.specs.Prelude.{length, reverse}
use Rattle.std.specs.Option.{option_map_or}
use Rattle.tx_tree.specs.WideTree.{WideTree}
use Rattle.tx_mod.specs.declared.mods.Mod.{Mod}
use Rattle.tx_mod.specs.declared.faults.ModFault.{ModFault}
use Rattle.tx_tree.specs.Limits.{IsWellFormed}
use Rattle.tx_mod.specs.Changes.{Outcome, changed}
use Rattle.tx_mod.specs.declared.faults.ModFault.TheVariants.{NoPath, NotString, NotNode, BadPlace, Differ, CutsSymbol}
use Rattle.tx_mod.specs.declared.faults.ModFault.TheVariants.{TooLong, TooWide, TooDeep, TooBig}
use Rattle.tx_mod.specs.InTurn.{then_changed, changed_in_turn, AreSoundMods}
use Rattle.std.specs.List.{AllByRecursion}
use Rattle.tx_mod.specs.Inverses.{inverse_of}
use Rattle.tx_commute.specs.declared.known.Known.{Known}
use Rattle.tx_commute.specs.declared.leaving.Left.{Left}
use Rattle.tx_commute.specs.declared.leaving.Left.TheVariants.{Mods, Entangled, Refused}
use Rattle.tx_commute.specs.Free.{freely}
use Rattle.tx_commute.specs.Pasts.{past}
use Rattle.tx_commute.specs.Knowing.{IsKnown, past_known}

-- The modifications of an edit are listed with the last one first.

-- the tree after all, limits aside
abbrev pub made_of_all : List Mod → WideTree → Option WideTree
made_of_all [] t = Some t
made_of_all (a ∷ ls) t = option_and_then (freely a) (made_of_all ls t)

-- a modification and those that it is taken past
abbrev pub PastAll : Type 0
PastAll = Mod × List Mod

abbrev pub put_before : Mod → PastAll → PastAll
put_before a r = (r.0, a ∷ r.1)

-- what is left of b, which is taken past all modifications, from the last to the first, and of these
abbrev pub past_all : WideTree → List Mod → Mod → Option PastAll
past_all t [] b = Some (b, [])
past_all t (a ∷ ls) b =
    option_and_then (λ u.
    option_and_then (λ p. option_map (put_before p.1) (past_all t ls p.0)) (past u a b))
    (made_of_all ls t)

-- How a list of modifications is taken past an edit. All of them are, which gives the tree without the edit and what is
-- left of the edit. Or none is from the first one on that doesn't commute, or that passes a limit.
pub data Course : Type 0 where
  passed : (out : WideTree) → (left : List Mod) → Course
  stuck : Course
  past_limit : (cause : ModFault) → Course

abbrev pub on_tree : (WideTree → Course) → Outcome → Course
on_tree next (Ok u) = next u
on_tree next (Err cause) = past_limit cause

-- t is the tree without the edit, of which ls is left
abbrev pub through : List Mod → WideTree → List Mod → Course
through [] t ls = passed t ls
through (b ∷ bs) t ls = option_map_or (λ r. on_tree (λ u. through bs u r.1) (changed r.0 t)) (past_all t ls b) stuck

-- the inverses, from the last to the first
abbrev pub undo_all : List Mod → WideTree → List Mod
undo_all [] t = []
undo_all (a ∷ ls) t = option_map_or (inverse_of a) (made_of_all ls t) a ∷ undo_all ls t

-- The result of leaving an edit out: the tree without the edit and the modifications that lead there, or the number of
-- the first list that fails, by a modification that doesn't commute or by a limit.
pub data LeftOut : Type 0 where
  without : (out : WideTree) → (mods : List Mod) → LeftOut
  entangled : (k : ℕ) → LeftOut
  refused : (k : ℕ) → (cause : ModFault) → LeftOut

abbrev pub go_on : (WideTree → List Mod → LeftOut) → ℕ → Course → LeftOut
go_on next k (passed u ls) = next u ls
go_on next k stuck = entangled k
go_on next k (past_limit cause) = refused k cause

-- the later lists from number k on
abbrev pub leave_from : List (List Mod) → ℕ → WideTree → List Mod → LeftOut
leave_from [] k t ls = without t (undo_all ls t)
leave_from (bs ∷ rest) k t ls = go_on (leave_from rest (k + 1)) k (through bs t ls)

-- the edit is left out before the later lists
abbrev pub left_out : WideTree → List Mod → List (List Mod) → LeftOut
left_out t edit later = leave_from later 0 t (reverse edit)

-- ---- the result

-- the result of the code is that of the definition
abbrev pub IsLeft : LeftOut → Left → Type 0
IsLeft (without out mods) left = left ≡ Mods mods
IsLeft (entangled k) left = left ≡ Entangled k
IsLeft (refused k cause) left = left ≡ Refused k cause

abbrev pub IsLimit : ModFault → Type 0
IsLimit (NoPath n) = ⊥
IsLimit NotString = ⊥
IsLimit NotNode = ⊥
IsLimit (BadPlace n) = ⊥
IsLimit Differ = ⊥
IsLimit (CutsSymbol n) = ⊥
IsLimit (TooLong n) = Unit {0}
IsLimit (TooWide n) = Unit {0}
IsLimit (TooDeep n) = Unit {0}
IsLimit (TooBig n) = Unit {0}

-- what is refused is refused by a limit
abbrev pub NamesLimit : Left → Type 0
NamesLimit (Mods mods) = Unit {0}
NamesLimit (Entangled k) = Unit {0}
NamesLimit (Refused k cause) = IsLimit cause

-- the tree after all lists, or the first cause why there is none
abbrev pub lists_in_turn : List (List Mod) → WideTree → Outcome
lists_in_turn [] t = Ok t
lists_in_turn (bs ∷ rest) t = then_changed (lists_in_turn rest) (changed_in_turn bs t)

-- how many modifications there are
abbrev pub total : List (List Mod) → ℕ
total [] = 0
total (bs ∷ rest) = length bs + total rest

-- ---- leaving out with inverses that are known

abbrev pub KnownPast : Type 0
KnownPast = Known × List Known

abbrev pub put_known : Known → KnownPast → KnownPast
put_known a r = (r.0, a ∷ r.1)

abbrev pub past_all_known : List Known → Known → Option KnownPast
past_all_known [] b = Some (b, [])
past_all_known (a ∷ ls) b =
    option_and_then (λ p. option_map (put_known p.1) (past_all_known ls p.0)) (past_known a b)

abbrev pub mods_of : List Known → List Mod
mods_of ks = map (λ k. k.does) ks

-- each is known of the tree that the ones before it make, which are after it in the list
abbrev pub AreAllKnown : List Known → WideTree → Type 0
AreAllKnown [] t = Unit {0}
AreAllKnown (a ∷ ls) t =
    ((u : WideTree) → made_of_all (mods_of ls) t ≡ Some u → IsKnown a u) × AreAllKnown ls t

-- ---- laws

-- b is taken past all, and both orders make the same tree
pub record AllTogether (t : WideTree) (b' : Mod) (ls' : List Mod) (v : WideTree) : Type 0 where
  pub middle : WideTree
  pub first : freely b' t ≡ Some middle
  pub second : made_of_all ls' middle ≡ Some v

-- what is left of the edit leads from the tree without it to the present tree, and its inverses, where they apply, give
-- the tree without it
pub record IsWithout (present out : WideTree) (mods : List Mod) : Type 0 where
  pub left : List Mod
  pub leads : made_of_all left out ≡ Some present
  pub are : mods ≡ undo_all left out
  pub back : (w : WideTree) → changed_in_turn mods present ≡ Ok w → w ≡ out

abbrev pub LeaveLaw : Type 0
LeaveLaw =
    (t present out : WideTree) (edit mods : List Mod) (later : List (List Mod)) → AreSoundMods edit
    → AllByRecursion AreSoundMods later → IsWellFormed t → lists_in_turn (edit ∷ later) t ≡ Ok present
    → left_out t edit later ≡ without out mods → IsWithout present out mods
