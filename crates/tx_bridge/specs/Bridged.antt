-- All units with what is cached of them, as contracts see them.
use Rattle.std.specs.Prelude.{ℕ, Bool, List, Option, refl}
use Rattle.std.specs.Coded.{Coded, code_by, coded×, coded_list, coded_option, coded_bool, coded_ℕ}
use Rattle.tx_tree.specs.WideTree.{WideTree, coded_WideTree}
use Rattle.tx_env.specs.Environments.{NameMap, coded_NameMap}
use Rattle.tx_exec_form.specs.Evaluated.{WideTrace}
use Rattle.tx_units.specs.declared.kinds.Unit.{Unit as DocUnit}
use Rattle.tx_units.specs.contracts.kinds.Unit as one_unit
use Rattle.tx_parts.specs.Parts.{Stored}
use Rattle.tx_walk.specs.LayerTraces.{TreeTrace, coded_trace, coded_TreeTrace}
use Rattle.tx_bridge.specs.Entries.{Entry, Kept}
use Rattle.tx_bridge.specs.PartsKept.{KeptParts}
use Rattle.tx_bridge.specs.Strays.{Stray}

-- What is cached of the units, of their parts and of the trees of their layers, and of strays, and which unit each was
-- before the last edit. There is a flag for each unit and one for each part. After a refresh the flag of a unit says
-- whether it was reached when that began, whatever is spare. No clause says what flags are after an edit. There is also
-- what names had after the last unit at the last refresh. An edit leaves that unchanged.
pub record Bridged : Type 0 where
  pub kept : Kept
  pub parts : List KeptParts
  pub part_flags : List (List Bool)
  pub layers : List (List TreeTrace)
  pub reached : List Bool
  pub sources : List (Option ℕ)
  pub strays : List Stray
  pub end : NameMap

-- ---- the code by which proofs tell them apart

abbrev pub coded_Entry : Coded Entry
coded_Entry =
    code_by (DocUnit × Option WideTrace) (coded× one_unit.the_row.coded (coded_option coded_trace))
    (λ e. (e.unit, e.trace)) (λ p. record { unit = p.0; trace = p.1 }) (λ _. refl)

abbrev pub coded_Stored : Coded Stored
coded_Stored =
    code_by (List ℕ × Option WideTrace) (coded× (coded_list coded_ℕ) (coded_option coded_trace))
    (λ p. (p.path, p.trace)) (λ p. record { path = p.0; trace = p.1 }) (λ _. refl)

abbrev pub coded_parts : Coded (List KeptParts)
coded_parts = coded_list (coded_list coded_Stored)

abbrev coded_Stray : Coded Stray
coded_Stray =
    code_by (Stored × WideTree) (coded× coded_Stored coded_WideTree) (λ s. (s.kept, s.tree))
    (λ p. record { kept = p.0; tree = p.1 }) (λ _. refl)

abbrev pub coded_Bridged : Coded Bridged
coded_Bridged =
    code_by
    (Kept × (List KeptParts × (List (List Bool) × (List (List TreeTrace)
    × (List Bool × (List (Option ℕ) × (List Stray × NameMap)))))))
    (coded× (coded_list coded_Entry)
    (coded× coded_parts
    (coded× (coded_list (coded_list coded_bool))
    (coded× (coded_list (coded_list coded_TreeTrace))
    (coded× (coded_list coded_bool)
    (coded× (coded_list (coded_option coded_ℕ)) (coded× (coded_list coded_Stray) coded_NameMap)))))))
    (λ b. (b.kept, (b.parts, (b.part_flags, (b.layers, (b.reached, (b.sources, (b.strays, b.end))))))))
    (λ p. record {
      kept = p.0;
      parts = p.1.0;
      part_flags = p.1.1.0;
      layers = p.1.1.1.0;
      reached = p.1.1.1.1.0;
      sources = p.1.1.1.1.1.0;
      strays = p.1.1.1.1.1.1.0;
      end = p.1.1.1.1.1.1.1;
    }) (λ _. refl)
