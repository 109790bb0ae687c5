-- What a view keeps from refresh to refresh, as contracts see it.
use Rattle.std.specs.Prelude.{◌≡◌, ℕ, ◌⊎◌, List, [], ◌∷◌, ◌++◌, take, drop, Option, Some, None, refl}
use Rattle.std.specs.Prelude.{slice_get}
use Rattle.std.specs.List.{AllByRecursion}
use Rattle.std.specs.Coded.{Coded, code_by, coded×, coded_list, coded_option}
use Rattle.tx_items.specs.contracts.attributes.Attrs as one_attrs
use Rattle.tx_items.specs.declared.attributes.Attrs.{Attrs}
use Rattle.tx_units.specs.declared.kinds.Unit.{Unit as DocUnit}
use Rattle.tx_view_form.specs.Outcomes.{Moment, beginning, behind}
use Rattle.tx_view_form.specs.Started.{attributes_of}
use Rattle.tx_bridge.specs.Bridged.{coded_Entry, coded_Stored, coded_parts}
use Rattle.tx_bridge.specs.PartsKept.{KeptParts, fresh_parts, fresh_parts_from}
use Rattle.tx_bridge.specs.Entries.{Entry, Kept, fresh_from, outcome_of}
use Rattle.tx_unit_layout.specs.LaidAts.{LaidAt, laid_ats, coded_laid_ats}
use Rattle.tx_view.specs.Costs.{entry_at}

-- Of each unit the trace to which it was last evaluated, the traces of its parts, the attributes for which it was laid
-- out last, if it was, and those for which parts of it were. Of parts that are in no unit, each with its path in the
-- document, the traces, and the attributes for which they were laid out.
pub record ViewStores : Type 0 where
  pub kept : Kept
  pub parts : List KeptParts
  pub laid : List (Option Attrs)
  pub laid_parts : List (List LaidAt)
  pub strays : KeptParts
  pub laid_strays : List LaidAt

-- the attributes before each unit, from a moment on
abbrev pub attributes_from : Moment → List DocUnit → List (Option Attrs)
attributes_from m [] = []
attributes_from m (u ∷ us) = Some (attributes_of m.env) ∷ attributes_from (behind m (outcome_of m u)) us

-- for each unit, where parts of it were laid out, and for which attributes, from a moment on
abbrev pub laid_parts_from : Moment → List DocUnit → List (List LaidAt)
laid_parts_from m [] = []
laid_parts_from m (u ∷ us) =
    laid_ats (attributes_of m.env) (entry_at m u) (fresh_parts m u) ∷ laid_parts_from (behind m (outcome_of m u)) us

-- what making a view of these units from nothing leaves
abbrev pub fresh_stores : List DocUnit → ViewStores
fresh_stores us = record {
  kept = fresh_from beginning us;
  parts = fresh_parts_from beginning us;
  laid = attributes_from beginning us;
  laid_parts = laid_parts_from beginning us;
  strays = [];
  laid_strays = [];
}

-- ---- what a refresh leaves that ran out of memory

-- the trace and the attributes of unit i are those that the other stores have
pub record HasUnitOf (stores other : ViewStores) (i : ℕ) : Type 0 where
  pub kept : slice_get stores.kept i ≡ slice_get other.kept i
  pub laid : slice_get stores.laid i ≡ slice_get other.laid i

-- The units before number `done` have the traces of the fresh stores, and the others those of the old ones. A unit is
-- laid out as in the old stores, and has their trace, or as in the fresh ones, and has theirs, or it isn't laid out. No
-- part is laid out. The cache of parts that are in no unit is as in the old stores, or empty.
pub record IsPartlyFresh (old fresh new : ViewStores) : Type 0 where
  pub done : ℕ
  pub kept : new.kept ≡ take done fresh.kept ++ drop done old.kept
  pub parts : new.parts ≡ take done fresh.parts ++ drop done old.parts
  pub laid : (i : ℕ) → HasUnitOf new old i ⊎ ((slice_get new.laid i ≡ Some None) ⊎ HasUnitOf new fresh i)
  pub laid_parts : AllByRecursion (λ ls. ls ≡ []) new.laid_parts
  pub strays : (new.strays ≡ old.strays) ⊎ (new.strays ≡ [])
  pub laid_strays : new.laid_strays ≡ []

-- ---- the code by which proofs distinguish them

abbrev pub coded_Stores : Coded ViewStores
coded_Stores =
    code_by (List Entry × (List KeptParts × (List (Option Attrs) × (List (List LaidAt) × (KeptParts × List LaidAt)))))
    (coded× (coded_list coded_Entry)
    (coded× coded_parts
    (coded× (coded_list (coded_option one_attrs.the_row.coded))
    (coded× (coded_list coded_laid_ats) (coded× (coded_list coded_Stored) coded_laid_ats)))))
    (λ s. (s.kept, (s.parts, (s.laid, (s.laid_parts, (s.strays, s.laid_strays))))))
    (λ p. record {
      kept = p.0;
      parts = p.1.0;
      laid = p.1.1.0;
      laid_parts = p.1.1.1.0;
      strays = p.1.1.1.1.0;
      laid_strays = p.1.1.1.1.1;
    }) (λ _. refl)
