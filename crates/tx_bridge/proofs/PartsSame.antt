-- What is cached of parts is carried with a unit.
use Rattle.std.proofs.Common.{◌≡◌, ℕ, List, [], map, Option, Some, None, refl, ap, sym, ◌∙◌, subst}
use Rattle.std.specs.Prelude.{Bool, false, ◌&&◌, is_some, if◌then◌else◌}
use Rattle.std.specs.Option.{option_map}
use Rattle.std.specs.List.{AllByRecursion, IsDistinct}
use Rattle.tx_tree.specs.WideTree.{WideTree}
use Rattle.tx_origin.specs.TaggedTrees.{TaggedTree, tagged_of}
use Rattle.tx_exec_form.specs.declared.TheConstants.{MOST_LEVELS}
use Rattle.tx_exec_form.specs.Runs.{Before}
use Rattle.tx_exec_form.specs.Evaluated.{WideTrace}
use Rattle.tx_parts.specs.Parts.{parts, stored_part}
use Rattle.tx_walk.specs.declared.part.Part.{Part as DonePart}
use Rattle.tx_units.specs.declared.kinds.Unit.{Unit as DocUnit}
use Rattle.tx_parts.specs.Opening.{Sheller}
use Rattle.tx_view_form.specs.Outcomes.{Moment}
use Rattle.tx_bridge.specs.Entries.{outcome_of}
use Rattle.tx_bridge.specs.PartsKept.{KeptParts, has_parts, unit_parts_by, parts_if_done, fresh_parts_by}
use Rattle.tx_bridge.specs.HeldParts.{HoldsPart, PartsHold, AreItsParts, kept_parts}
use Rattle.tx_bridge.specs.UnitLists.{HasPathIfBody}

-- nothing is cached
pub no_parts : (shelled : Bool) (u : DocUnit) → PartsHold shelled u None []
unfolding IsDistinct
no_parts shelled u = record { hold = tt; distinct = tt; all = λ off. tt }

-- nothing is cached of the parts of a unit that isn't nested
pub bare_parts : (shelled : Bool) (u : DocUnit) (o : Option WideTrace) → has_parts u ≡ false
    → PartsHold shelled u o []
unfolding IsDistinct
bare_parts shelled u None nested = record { hold = tt; distinct = tt; all = λ off. tt }
bare_parts shelled u (Some trace) nested = record {
  hold = tt;
  distinct = tt;
  all = λ off n e agrees allowed.
      ap (λ b. if b then map stored_part (parts MOST_LEVELS n [] u.tagged.tree e) else []) nested;
}

pub bare_fresh : (sheller : Sheller) (m : Moment) (u : DocUnit) → has_parts u ≡ false
    → [] ≡ fresh_parts_by sheller m u
bare_fresh sheller m u nested =
    sym (ap (λ b. if b then parts_if_done (outcome_of m u) (unit_parts_by sheller m u) else []) nested)

-- ---- two units with one tree

some_at : (o : Option (List ℕ)) → is_some (option_map {U = List ℕ} (λ _. []) o) ≡ is_some o
some_at None = refl
some_at (Some p) = refl

at_is : (u : DocUnit) → HasPathIfBody u → is_some u.tagged.at ≡ is_some u.path
at_is u placed = ap is_some placed.origin ∙ some_at u.path

pub same_nested : (u v : DocUnit) → tagged_of u.tagged ≡ tagged_of v.tagged → HasPathIfBody u → HasPathIfBody v
    → has_parts u ≡ has_parts v
same_nested u v same placed there =
    sym (at_is u placed) ∙ ap (λ (t : TaggedTree). is_some t.at) same ∙ at_is v there

abbrev asked : Bool → WideTree → ℕ → Before → KeptParts
asked b t n e = if b then map stored_part (parts MOST_LEVELS n [] t e) else []

same_parts : (u v : DocUnit) (ks : KeptParts) (o : Option WideTrace) → tagged_of u.tagged ≡ tagged_of v.tagged
    → has_parts u ≡ has_parts v → AreItsParts u ks o → AreItsParts v ks o
same_parts u v ks None same nested h = tt
same_parts u v ks (Some trace) same nested h = λ n e agrees allowed.
    ap (λ b. asked b v.tagged.tree n e) (sym nested)
    ∙ ap (λ (t : TaggedTree). asked (has_parts u) t.tree n e) (sym same)
    ∙ h n e agrees allowed

pub parts_same : (shelled : Bool) (u v : DocUnit) (o : Option WideTrace) (ps : List DonePart)
    → tagged_of u.tagged ≡ tagged_of v.tagged → HasPathIfBody u → HasPathIfBody v → PartsHold shelled u o ps
    → PartsHold shelled v o ps
parts_same shelled u v o ps same placed there h = record {
  hold = subst (λ (t : TaggedTree). AllByRecursion (HoldsPart t.tree) ps) same h.hold;
  distinct = h.distinct;
  all = λ off.
      same_parts u v (kept_parts ps) o same (same_nested u v same placed there)
      (h.all (ap (λ b. b && shelled) (same_nested u v same placed there) ∙ off));
}
