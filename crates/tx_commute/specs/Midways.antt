-- An edit on its way past later modifications. Only private clauses cite these.
use Rattle.std.specs.Prelude.{◌≡◌, List, Some, Ok, Err}
use Rattle.tx_tree.specs.Limits.{IsWellFormed}
use Rattle.tx_mod.specs.declared.mods.Mod.{Mod}
use Rattle.tx_tree.specs.WideTree.{WideTree}
use Rattle.tx_mod.specs.Changes.{changed}
use Rattle.tx_commute.specs.declared.known.Known.{Known}
use Rattle.tx_mod.specs.InTurn.{changed_in_turn, AreSoundMods}
use Rattle.tx_commute.specs.declared.midway.Midway.{Midway}
use Rattle.tx_commute.specs.declared.midway.Passed.{Passed}
use Rattle.tx_commute.specs.declared.midway.Passed.TheVariants.{All, Stuck, Limit}
use Rattle.tx_commute.specs.Leaving.{made_of_all, mods_of, AreAllKnown, Course, passed, stuck, past_limit, through, IsLimit}

-- what is left of the edit leads from the tree without it to the tree with it, and each inverse is known
pub record IsMidway (p : Midway) : Type 0 where
  pub leads : made_of_all (mods_of p.known.items) p.out ≡ Some p.present
  pub sound : AreSoundMods (mods_of p.known.items)
  pub known : AreAllKnown p.known.items p.out
  pub formed : IsWellFormed p.out

abbrev pub course : List Mod → Midway → Course
course bs p = through bs p.out (mods_of p.known.items)

-- the result of taking the edit past these modifications
abbrev pub IsPassed : List Mod → Midway → Passed → Type 0
IsPassed bs p (All q) =
    (course bs p ≡ passed q.out (mods_of q.known.items)) × (changed_in_turn bs p.present ≡ Ok q.present) × IsMidway q
IsPassed bs p Stuck = course bs p ≡ stuck
IsPassed bs p (Limit cause) = (course bs p ≡ past_limit cause) × IsLimit cause

-- the result of applying the modification m to the tree t without the edit
abbrev pub IsPut : Mod → WideTree → List Known → WideTree → Passed → Type 0
IsPut m t known present (All q) = (changed m t ≡ Ok q.out) × (q.known.items ≡ known) × (q.present ≡ present)
IsPut m t known present Stuck = ⊥
IsPut m t known present (Limit cause) = changed m t ≡ Err cause
