use Rattle.std.proofs.Common.{◌≡◌, ◌∙◌, List, length, Some, ap, sym, subst, slice_index_or, if◌then◌else◌}
use Rattle.std.specs.List.{filter}
use Rattle.std.specs.Option.{option_map_or}
use Rattle.std.specs.Prelude.{option_and_then}
use Rattle.tx_tree.specs.WideTree.{WideTree}
use Rattle.tx_doc.specs.Buffers.{document_of, tree_of}
use Rattle.tx_doc.specs.declared.buffer.Buffer.{Buffer}
use Rattle.tx_mod.specs.Followed.{changed_by_all}
use Rattle.tx_units.specs.declared.kinds.Unit.{Unit as DocUnit}
use Rattle.tx_units.specs.Units.{units}
use Rattle.tx_bridge.specs.Entries.{units_of}
use Rattle.tx_bridge.specs.MovedParts.{moves_of}
use Rattle.tx_bridge.specs.Names.{CarryTraces, CarryParts, CarryStrays, PartMoves, Sources}
use Rattle.tx_bridge.specs.PartsKept.{KeptParts}
use Rattle.tx_bridge.specs.Strays.{StandAside, is_beside, kept_strays, path_at}
use Rattle.tx_unit_layout.specs.declared.shown.Shown.{Shown}
use Rattle.tx_view.specs.Exchanged.{IsExchanged, exchanged, exchanged_in}
use Rattle.tx_view.specs.Laid.{LaidGoes, parts_left}
use Rattle.tx_view.proofs.Aside.{aside_after, aside_before, kept_beside}
use Rattle.tx_view.proofs.Blank.{tree_at}
use Rattle.tx_view.proofs.Exchanging.{carried_at}
use Rattle.tx_view.proofs.OfParts.{left_there}
use Rattle.tx_view.proofs.carrying.carried_kept.Goals as goal

pub moved_parts-requires-clause-applies : goal.moved_parts-requires-clause-applies
moved_parts-requires-clause-applies g c = (
  c.args.tree.now,
  ap (changed_by_all c.args.mods.now)
      (sym (tree_at c.args.buffers.now c.args.buffer c.index-buffers-buffer.result c.requires.within))
      ∙ c.requires.changed,
)

pub laid_goes_law-requires-clause-applies : goal.laid_goes_law-requires-clause-applies
laid_goes_law-requires-clause-applies g c = (
  c.args.tree.now,
  ap (changed_by_all c.args.mods.now)
      (sym (tree_at c.args.buffers.now c.args.buffer c.index-buffers-buffer.result c.requires.within))
      ∙ c.requires.changed,
)

pub carry_in_place-requires-clause-applies : goal.carry_in_place-requires-clause-applies
carry_in_place-requires-clause-applies g c = (
  c.args.tree.now,
  ap (changed_by_all c.args.mods.now)
      (sym (tree_at c.args.buffers.now c.args.buffer c.index-buffers-buffer.result c.requires.within))
      ∙ c.requires.changed,
)

pub carried_anew-requires-clause-applies : goal.carried_anew-requires-clause-applies
carried_anew-requires-clause-applies g c = (
  c.args.tree.now,
  ap (changed_by_all c.args.mods.now)
      (sym (tree_at c.args.buffers.now c.args.buffer c.index-buffers-buffer.result c.requires.within))
      ∙ c.requires.changed,
)

pub carried_anew-requires-clause-of_buffers : goal.carried_anew-requires-clause-of_buffers
carried_anew-requires-clause-of_buffers g c = (c.args.buffers.now, c.requires.of_buffers)

pub returns-in_ok-places-in-Some-clause-left : goal.returns-in_ok-places-in-Some-clause-left
returns-in_ok-places-in-Some-clause-left g c =
    let xs : List Shown = if c.args.fresh then c.args.shown.now else c.args.hidden.now in
    let h : IsExchanged c.in-Some.changed c.args.buffer c.args.mods.now c.args.tree.now c.in-Some.paragraph
    (units_of c.args.bridges.now.kept) = (rw c.in-Some.is at c.in_ok-changed.ensures).0 in (
      λ x at.
          left_there c.requires.laid.0 c.in-Some.changed c.args.buffer c.args.mods.now
          (slice_index_or c.args.buffers.now c.args.buffer c.index-buffers-buffer.result).tree
          c.args.bridges.now.kept c.args.bridges.now.parts xs c.in_ok-moved-in-Some.moved.items x
          c.in_ok-places-in-Some.places.items c.requires.laid.1 h.one c.in_ok-moved-in-Some.ensures.moved at
          (c.in_ok-places-in-Some.ensures ∙ ap moves_of c.deref.ensures.value)
          ∙ ap (λ t. parts_left c.args.mods.now t x.path x.parts)
          (sym (tree_at c.args.buffers.now c.args.buffer c.index-buffers-buffer.result c.requires.within)),
      c.keep_beside.ensures,
    )

pub returns-in_ok-places-in-Some-clause-beside : goal.returns-in_ok-places-in-Some-clause-beside
returns-in_ok-places-in-Some-clause-beside g c =
    let us : List DocUnit = units_of c.args.bridges.now.kept in
    let ks : KeptParts = kept_strays c.args.bridges.now.strays in
    let t : WideTree = tree_of c.args.buffers.now c.args.buffer in
    let found : exchanged c.args.buffer c.args.mods.now t us ≡ Some c.in-Some.changed =
    ap (option_and_then (λ u. exchanged_in c.args.buffer c.args.mods.now u us)) c.requires.changed
    ∙ (rw c.in-Some.is at c.in_ok-changed.ensures).1 in
    ap kept_strays c.carry_in_place.ensures.beside ∙ kept_beside c.in-Some.changed us c.args.bridges.now.strays
    ∙ ap (λ o. option_map_or (λ i. filter (λ k. is_beside (path_at i us) k.path) ks) o
    (CarryStrays (PartMoves c.args.buffer c.args.mods.now t us c.args.bridges.now.parts ks (units c.args.after.now))
    (length (units c.args.after.now)))) (sym found)

pub returns-in_ok-places-in-Some-clause-aside : goal.returns-in_ok-places-in-Some-clause-aside
returns-in_ok-places-in-Some-clause-aside g c =
    let h : IsExchanged c.in-Some.changed c.args.buffer c.args.mods.now c.args.tree.now c.in-Some.paragraph
    (units_of c.args.bridges.now.kept) = (rw c.in-Some.is at c.in_ok-changed.ensures).0 in
    subst (λ (bs : List Buffer). StandAside (document_of bs) c.carry_in_place.new.self.strays) (sym c.requires.after)
    (aside_after c.args.buffers.now c.args.buffer c.args.mods.now c.args.tree.now
    (slice_index_or c.args.buffers.now c.args.buffer c.index-buffers-buffer.result).tree c.args.bridges.now.strays
    c.carry_in_place.new.self.strays c.requires.within
    (sym (tree_at c.args.buffers.now c.args.buffer c.index-buffers-buffer.result c.requires.within))
    c.requires.changed c.requires.aside (λ first. c.carry_in_place.ensures.stand)
    (λ other. absurd (other h.one.document)))

pub carry_in_place-requires-clause-strays : goal.carry_in_place-requires-clause-strays
carry_in_place-requires-clause-strays g c =
    let h : IsExchanged c.in-Some.changed c.args.buffer c.args.mods.now c.args.tree.now c.in-Some.paragraph
    (units_of c.args.bridges.now.kept) = (rw c.in-Some.is at c.in_ok-changed.ensures).0 in
    aside_before c.args.buffers.now c.args.buffer
    (slice_index_or c.args.buffers.now c.args.buffer c.index-buffers-buffer.result).tree c.args.bridges.now.strays
    (sym (tree_at c.args.buffers.now c.args.buffer c.index-buffers-buffer.result c.requires.within))
    c.requires.aside h.one.document

pub carried_anew-requires-clause-aside : goal.carried_anew-requires-clause-aside
carried_anew-requires-clause-aside g c first =
    aside_before c.args.buffers.now c.args.buffer
    (slice_index_or c.args.buffers.now c.args.buffer c.index-buffers-buffer.result).tree c.args.bridges.now.strays
    (sym (tree_at c.args.buffers.now c.args.buffer c.index-buffers-buffer.result c.requires.within))
    c.requires.aside first

pub returns-in_ok-carried_anew-in-None-clause-aside : goal.returns-in_ok-carried_anew-in-None-clause-aside
returns-in_ok-carried_anew-in-None-clause-aside g c =
    subst (λ (bs : List Buffer). StandAside (document_of bs) c.carried_anew.new.bridges.strays) (sym c.requires.after)
    (aside_after c.args.buffers.now c.args.buffer c.args.mods.now c.args.tree.now
    (slice_index_or c.args.buffers.now c.args.buffer c.index-buffers-buffer.result).tree c.args.bridges.now.strays
    c.carried_anew.new.bridges.strays c.requires.within
    (sym (tree_at c.args.buffers.now c.args.buffer c.index-buffers-buffer.result c.requires.within))
    c.requires.changed c.requires.aside c.in_ok-carried_anew-in-None.ensures.stand
    c.in_ok-carried_anew-in-None.ensures.stay)

pub returns-in_ok-places-in-Some-clause-target : goal.returns-in_ok-places-in-Some-clause-target
returns-in_ok-places-in-Some-clause-target g c =
    let h : IsExchanged c.in-Some.changed c.args.buffer c.args.mods.now c.args.tree.now c.in-Some.paragraph
    (units_of c.args.bridges.now.kept) = (rw c.in-Some.is at c.in_ok-changed.ensures).0 in
    (carried_at c.args.buffers.now c.args.after.now c.args.buffer c.in-Some.changed c.is_silent_at-silent.result
    c.in_ok-places-in-Some.places c.args.mods.now c.index-buffers-buffer.result c.args.tree.now c.in-Some.paragraph
    c.args.bridges.now.kept c.carry_in_place.new.self.kept c.carry_in_place.new.self.sources
    (c.inside_law.ensures c.args.buffers.now c.in-Some.changed c.args.tree.now c.in-Some.paragraph) c.requires.some
    c.requires.within h c.requires.of_buffers c.requires.after c.requires.changed c.carry_in_place.ensures.carried
    c.carry_in_place.ensures.sources c.carry_in_place.ensures.numbers c.carry_in_place.ensures.units).target

pub returns-in_ok-places-in-Some-clause-kept : goal.returns-in_ok-places-in-Some-clause-kept
returns-in_ok-places-in-Some-clause-kept g c =
    let h : IsExchanged c.in-Some.changed c.args.buffer c.args.mods.now c.args.tree.now c.in-Some.paragraph
    (units_of c.args.bridges.now.kept) = (rw c.in-Some.is at c.in_ok-changed.ensures).0 in
    (carried_at c.args.buffers.now c.args.after.now c.args.buffer c.in-Some.changed c.is_silent_at-silent.result
    c.in_ok-places-in-Some.places c.args.mods.now c.index-buffers-buffer.result c.args.tree.now c.in-Some.paragraph
    c.args.bridges.now.kept c.carry_in_place.new.self.kept c.carry_in_place.new.self.sources
    (c.inside_law.ensures c.args.buffers.now c.in-Some.changed c.args.tree.now c.in-Some.paragraph) c.requires.some
    c.requires.within h c.requires.of_buffers c.requires.after c.requires.changed c.carry_in_place.ensures.carried
    c.carry_in_place.ensures.sources c.carry_in_place.ensures.numbers c.carry_in_place.ensures.units).kept_is

pub returns-in_ok-places-in-Some-clause-sources : goal.returns-in_ok-places-in-Some-clause-sources
returns-in_ok-places-in-Some-clause-sources g c =
    let h : IsExchanged c.in-Some.changed c.args.buffer c.args.mods.now c.args.tree.now c.in-Some.paragraph
    (units_of c.args.bridges.now.kept) = (rw c.in-Some.is at c.in_ok-changed.ensures).0 in
    (carried_at c.args.buffers.now c.args.after.now c.args.buffer c.in-Some.changed c.is_silent_at-silent.result
    c.in_ok-places-in-Some.places c.args.mods.now c.index-buffers-buffer.result c.args.tree.now c.in-Some.paragraph
    c.args.bridges.now.kept c.carry_in_place.new.self.kept c.carry_in_place.new.self.sources
    (c.inside_law.ensures c.args.buffers.now c.in-Some.changed c.args.tree.now c.in-Some.paragraph) c.requires.some
    c.requires.within h c.requires.of_buffers c.requires.after c.requires.changed c.carry_in_place.ensures.carried
    c.carry_in_place.ensures.sources c.carry_in_place.ensures.numbers c.carry_in_place.ensures.units).sources

pub returns-in_ok-places-in-Some-clause-units : goal.returns-in_ok-places-in-Some-clause-units
returns-in_ok-places-in-Some-clause-units g c =
    let h : IsExchanged c.in-Some.changed c.args.buffer c.args.mods.now c.args.tree.now c.in-Some.paragraph
    (units_of c.args.bridges.now.kept) = (rw c.in-Some.is at c.in_ok-changed.ensures).0 in
    (carried_at c.args.buffers.now c.args.after.now c.args.buffer c.in-Some.changed c.is_silent_at-silent.result
    c.in_ok-places-in-Some.places c.args.mods.now c.index-buffers-buffer.result c.args.tree.now c.in-Some.paragraph
    c.args.bridges.now.kept c.carry_in_place.new.self.kept c.carry_in_place.new.self.sources
    (c.inside_law.ensures c.args.buffers.now c.in-Some.changed c.args.tree.now c.in-Some.paragraph) c.requires.some
    c.requires.within h c.requires.of_buffers c.requires.after c.requires.changed c.carry_in_place.ensures.carried
    c.carry_in_place.ensures.sources c.carry_in_place.ensures.numbers c.carry_in_place.ensures.units).units_are

pub returns-in_ok-places-in-Some-clause-way : goal.returns-in_ok-places-in-Some-clause-way
returns-in_ok-places-in-Some-clause-way g c =
    let us : List DocUnit = units_of c.args.bridges.now.kept in
    let h : IsExchanged c.in-Some.changed c.args.buffer c.args.mods.now c.args.tree.now c.in-Some.paragraph
    (units_of c.args.bridges.now.kept) = (rw c.in-Some.is at c.in_ok-changed.ensures).0 in (
      ap (option_and_then (λ t. exchanged_in c.args.buffer c.args.mods.now t us)) c.requires.changed
          ∙ (rw c.in-Some.is at c.in_ok-changed.ensures).1,
      h.one,
      (carried_at c.args.buffers.now c.args.after.now c.args.buffer c.in-Some.changed c.is_silent_at-silent.result
          c.in_ok-places-in-Some.places c.args.mods.now c.index-buffers-buffer.result c.args.tree.now
          c.in-Some.paragraph c.args.bridges.now.kept c.carry_in_place.new.self.kept c.carry_in_place.new.self.sources
          (c.inside_law.ensures c.args.buffers.now c.in-Some.changed c.args.tree.now c.in-Some.paragraph)
          c.requires.some c.requires.within h c.requires.of_buffers c.requires.after c.requires.changed
          c.carry_in_place.ensures.carried c.carry_in_place.ensures.sources
          c.carry_in_place.ensures.numbers c.carry_in_place.ensures.units).same_trees,
      record {
        tree = c.in-Some.paragraph;
        are = sym (returns-in_ok-places-in-Some-clause-units g c) ∙ c.carry_in_place.ensures.units;
        laid =
            subst (λ (t : WideTree). LaidGoes c.in-Some.changed c.args.mods.now t c.in-Some.paragraph us)
            (sym (tree_at c.args.buffers.now c.args.buffer c.index-buffers-buffer.result c.requires.within))
            c.laid_goes_law.ensures;
      },
    )

pub returns-in_ok-carried_anew-in-None-clause-kept : goal.returns-in_ok-carried_anew-in-None-clause-kept
returns-in_ok-carried_anew-in-None-clause-kept g c =
    c.in_ok-carried_anew-in-None.ensures.carried
    ∙ ap (λ t. CarryTraces c.args.buffer c.args.mods.now t c.args.bridges.now.kept (units c.args.after.now))
    (sym (tree_at c.args.buffers.now c.args.buffer c.index-buffers-buffer.result c.requires.within))

pub returns-in_ok-carried_anew-in-None-clause-sources : goal.returns-in_ok-carried_anew-in-None-clause-sources
returns-in_ok-carried_anew-in-None-clause-sources g c =
    c.in_ok-carried_anew-in-None.ensures.sources
    ∙ ap (λ t. Sources c.args.buffer c.args.mods.now t (units_of c.args.bridges.now.kept) (units c.args.after.now))
    (sym (tree_at c.args.buffers.now c.args.buffer c.index-buffers-buffer.result c.requires.within))

pub returns-in_ok-carried_anew-in-None-clause-way : goal.returns-in_ok-carried_anew-in-None-clause-way
returns-in_ok-carried_anew-in-None-clause-way g c =
    let us : List DocUnit = units_of c.args.bridges.now.kept in (
      ap (option_and_then (λ t. exchanged_in c.args.buffer c.args.mods.now t us)) c.requires.changed
          ∙ rw c.in-None.is at c.in_ok-changed.ensures,
      c.in_ok-carried_anew-in-None.ensures.same_trees,
    )

pub returns-in_ok-places-in-Some-clause-parts : goal.returns-in_ok-places-in-Some-clause-parts
returns-in_ok-places-in-Some-clause-parts g c =
    let h : IsExchanged c.in-Some.changed c.args.buffer c.args.mods.now c.args.tree.now c.in-Some.paragraph
    (units_of c.args.bridges.now.kept) = (rw c.in-Some.is at c.in_ok-changed.ensures).0 in
    c.carry_in_place.ensures.parts
    ∙ ap (λ vs. CarryParts c.args.bridges.now.parts (PartMoves 0 c.args.mods.now
    (slice_index_or c.args.buffers.now c.args.buffer c.index-buffers-buffer.result).tree
    (units_of c.args.bridges.now.kept) c.args.bridges.now.parts (kept_strays c.args.bridges.now.strays) vs)
    c.carry_in_place.new.self.sources)
    (sym c.carry_in_place.ensures.units ∙ returns-in_ok-places-in-Some-clause-units g c)
    ∙ ap (λ t. CarryParts c.args.bridges.now.parts (PartMoves 0 c.args.mods.now t (units_of c.args.bridges.now.kept)
    c.args.bridges.now.parts (kept_strays c.args.bridges.now.strays) (units c.args.after.now))
    c.carry_in_place.new.self.sources)
    (sym (tree_at c.args.buffers.now c.args.buffer c.index-buffers-buffer.result c.requires.within))
    ∙ ap (λ n. CarryParts c.args.bridges.now.parts (PartMoves n c.args.mods.now
    (tree_of c.args.buffers.now c.args.buffer) (units_of c.args.bridges.now.kept) c.args.bridges.now.parts
    (kept_strays c.args.bridges.now.strays) (units c.args.after.now)) c.carry_in_place.new.self.sources)
    (sym h.one.document)

pub returns-in_ok-places-in-Some-clause-strays : goal.returns-in_ok-places-in-Some-clause-strays
returns-in_ok-places-in-Some-clause-strays g c =
    let h : IsExchanged c.in-Some.changed c.args.buffer c.args.mods.now c.args.tree.now c.in-Some.paragraph
    (units_of c.args.bridges.now.kept) = (rw c.in-Some.is at c.in_ok-changed.ensures).0 in
    c.carry_in_place.ensures.strays
    ∙ ap (λ vs. CarryStrays (PartMoves 0 c.args.mods.now
    (slice_index_or c.args.buffers.now c.args.buffer c.index-buffers-buffer.result).tree
    (units_of c.args.bridges.now.kept) c.args.bridges.now.parts (kept_strays c.args.bridges.now.strays) vs)
    (length vs))
    (sym c.carry_in_place.ensures.units ∙ returns-in_ok-places-in-Some-clause-units g c)
    ∙ ap (λ t. CarryStrays (PartMoves 0 c.args.mods.now t (units_of c.args.bridges.now.kept)
    c.args.bridges.now.parts (kept_strays c.args.bridges.now.strays) (units c.args.after.now))
    (length (units c.args.after.now)))
    (sym (tree_at c.args.buffers.now c.args.buffer c.index-buffers-buffer.result c.requires.within))
    ∙ ap (λ n. CarryStrays (PartMoves n c.args.mods.now
    (tree_of c.args.buffers.now c.args.buffer) (units_of c.args.bridges.now.kept) c.args.bridges.now.parts
    (kept_strays c.args.bridges.now.strays) (units c.args.after.now)) (length (units c.args.after.now)))
    (sym h.one.document)

pub returns-in_ok-carried_anew-in-None-clause-parts : goal.returns-in_ok-carried_anew-in-None-clause-parts
returns-in_ok-carried_anew-in-None-clause-parts g c =
    c.in_ok-carried_anew-in-None.ensures.parts
    ∙ ap (λ t. CarryParts c.args.bridges.now.parts (PartMoves c.args.buffer c.args.mods.now t
    (units_of c.args.bridges.now.kept) c.args.bridges.now.parts (kept_strays c.args.bridges.now.strays)
    (units c.args.after.now)) c.carried_anew.new.bridges.sources)
    (sym (tree_at c.args.buffers.now c.args.buffer c.index-buffers-buffer.result c.requires.within))

pub returns-in_ok-carried_anew-in-None-clause-strays : goal.returns-in_ok-carried_anew-in-None-clause-strays
returns-in_ok-carried_anew-in-None-clause-strays g c =
    c.in_ok-carried_anew-in-None.ensures.strays
    ∙ ap (λ t. CarryStrays (PartMoves c.args.buffer c.args.mods.now t
    (units_of c.args.bridges.now.kept) c.args.bridges.now.parts (kept_strays c.args.bridges.now.strays)
    (units c.args.after.now)) (length (units c.args.after.now)))
    (sym (tree_at c.args.buffers.now c.args.buffer c.index-buffers-buffer.result c.requires.within))
