use Rattle.std.proofs.Common.{◌≡◌, ◌∙◌, List, [], length, false, ap, refl, sym, subst, arith}
use Rattle.std.specs.Prelude.{map}
use Rattle.tx_doc.specs.Buffers.{document_of, tree_of, with_tree}
use Rattle.tx_doc.specs.declared.buffer.Buffer.{Buffer}
use Rattle.tx_units.specs.Units.{units}
use Rattle.tx_bridge.specs.Carrying.{had}
use Rattle.tx_bridge.specs.Entries.{Kept, units_of}
use Rattle.tx_bridge.specs.Names.{PartMoves, Sources, CarryTraces as CarryKept, CarryParts, CarryStrays}
use Rattle.tx_bridge.specs.PartMoves.{Move}
use Rattle.tx_bridge.specs.PartsKept.{KeptParts}
use Rattle.tx_bridge.specs.Strays.{StandAside, kept_strays}
use Rattle.tx_view.specs.declared.paging.Pagination.{Pagination}
use Rattle.tx_unit_layout.specs.LaidAts.{laid_at}
use Rattle.tx_unit_layout.specs.declared.shown.Shown.{Shown}
use Rattle.tx_view.specs.declared.view.View.TheInside.{Inside}
use Rattle.tx_view.specs.Laid.{laid_in, laid_parts_in}
use Rattle.tx_view.specs.LaidMoves.{laid_moves, laid_arrived, all_laid_now}
use Rattle.tx_view.specs.Names.{Carry}
use Rattle.tx_view.specs.WholeViews.{WholeView, whole_of, view_stores_of, all_of}
use Rattle.tx_view.proofs.Blank.{many_with}
use Rattle.tx_view.proofs.LaidCarried.{alike_as, they_go, alike_then}
use Rattle.tx_view.proofs.Moved.{WasKept}
use Rattle.tx_view.proofs.Staying.{carried_by, left_of}
use Rattle.tx_view.proofs.Lasting.{left_by}
use Rattle.tx_view.proofs.Standing.{stale, stale_view}
use Rattle.tx_view.proofs.view.View.edited.Goals as goal

pub invariant_of-self-2 : goal.invariant_of-self-2
invariant_of-self-2 g c =
    let bs : List Buffer = c.deref-3.result.now in
    let after : List Buffer = with_tree bs c.args.buffer c.args.tree.now in
    let kept : Kept = c.self.inside.bridges.kept in
    let olds : List Shown = all_of c.self.inside in
    let ss = c.carried.new.bridges.sources in
    let strays : KeptParts = kept_strays c.self.inside.bridges.strays in
    let moves : List Move = PartMoves c.args.buffer c.args.mods.now (tree_of bs c.args.buffer) (units_of kept)
    c.self.inside.bridges.parts strays (units after) in
    let left = left_of c.args.mods.now (tree_of bs c.args.buffer) (units_of kept) moves (units after)
    c.in_ok-after.target c.self.inside.fresh c.deref.result.now c.deref-2.result.now c.self.inside.units.items
    c.self.inside.hidden.items c.self.inside.strays c.carried.new.strays c.deref.ensures.value
    c.deref-2.ensures.value c.in_ok-after.ensures.left in
    let was : WasKept c.self.inside.width kept c.self.inside.bridges.parts strays olds c.self.inside.strays = record {
      laid = c.self.invariant.laid;
      readable = c.self.invariant.all_readable;
      strays = c.self.invariant.strays;
      short = c.self.invariant.short;
    } in
    let on = carried_by c.self.inside.width c.args.buffer c.args.mods.now (tree_of bs c.args.buffer) kept
    c.carried.new.bridges.kept c.self.inside.bridges.parts c.carried.new.bridges.parts strays
    (kept_strays c.carried.new.bridges.strays) olds c.move_shown-former.new.hidden.items c.self.inside.strays
    c.carried.new.strays c.in_ok-after.target ss (units after) was c.outcome-kept.ensures.parts_hold
    c.outcome-kept.ensures.strays_hold.distinct c.in_ok-after.ensures.kept c.in_ok-after.ensures.within
    c.in_ok-after.ensures.beside c.in_ok-after.ensures.sources c.in_ok-after.ensures.target
    c.in_ok-after.ensures.way left c.move_shown-former.ensures.moved in
    let go = they_go c.self.inside.width c.args.buffer c.args.mods.now (tree_of bs c.args.buffer) kept
    c.self.inside.bridges.parts c.self.inside.bridges.strays olds (map laid_at c.self.inside.strays) (units after)
    c.self.invariant.laid c.self.invariant.alike c.in_ok-after.target ss c.in_ok-after.ensures.way
    c.outcome-was.ensures.strays_hold.outside in
    let sources : ss ≡ Sources c.args.buffer c.args.mods.now (tree_of bs c.args.buffer) (units_of kept) (units after) =
    c.in_ok-after.ensures.sources in
    let alike = alike_then c.self.inside.width c.args.buffer c.args.mods.now (tree_of bs c.args.buffer) kept
    c.self.inside.bridges.parts c.self.inside.bridges.strays olds (map laid_at c.self.inside.strays) (units after)
    c.self.invariant.laid c.self.invariant.alike
    (Sources c.args.buffer c.args.mods.now (tree_of bs c.args.buffer) (units_of kept) (units after)) in
    let many = ap length c.in_ok-after.ensures.buffers ∙ many_with bs c.args.buffer c.args.tree.now
    ∙ ap length c.deref-3.ensures.value in
    stale _ (record {
      some = omega (arith, many, c.self.invariant.some);
      few = omega (arith, many, c.self.invariant.few);
      least_width = c.self.invariant.least_width;
      most_width = c.self.invariant.most_width;
      least_height = c.self.invariant.least_height;
      most_height = c.self.invariant.most_height;
      of_buffers = c.in_ok-after.ensures.units ∙ ap units (sym c.in_ok-after.ensures.buffers);
    }) refl c.clear.ensures.items
    (ap (λ (p : Pagination). p.pages.items) c.replace-paged.ensures.after ∙ c.in_ok-nothing.ensures.pages)
    (ap (λ (p : Pagination). p.rows.items) c.replace-paged.ensures.after ∙ c.in_ok-nothing.ensures.rows)
    (ap (λ (p : Pagination). p.errors.items) c.replace-paged.ensures.after ∙ c.in_ok-nothing.ensures.errors)
    on.laid_out on.readable
    (record {
      laid = on.strays;
      short = on.short;
      stand = subst (λ (cs : List Buffer). StandAside (document_of cs) c.carried.new.bridges.strays)
          (sym c.in_ok-after.ensures.buffers) c.in_ok-after.ensures.aside;
    })
    (alike_as _ _ _ _ _ _ _ _
    (c.in_ok-after.ensures.parts ∙ ap (CarryParts c.self.inside.bridges.parts moves) sources)
    (on.laid_parts ∙ go.0) c.in_ok-after.ensures.strays (on.laid_strays ∙ go.1) alike)
    (left_by c.self.inside c.args.buffer c.args.mods.now (tree_of bs c.args.buffer) c.carried.new.bridges.kept
    c.move_shown-former.new.hidden.items c.in_ok-after.target ss (units after) c.move_shown-former.result
    c.replace-paged.result c.lone_of.result c.self.invariant c.in_ok-after.ensures.kept c.in_ok-after.ensures.sources
    c.in_ok-after.ensures.target c.move_shown-former.ensures.moved c.in_ok-after.ensures.silent
    c.move_shown-former.ensures.former c.lone_of.ensures c.replace-paged.ensures.value)

pub returns-clause-ok : goal.returns-clause-ok
unfolding Carry
returns-clause-ok g c =
    let bs : List Buffer = c.deref-3.result.now in
    let after : List Buffer = with_tree bs c.args.buffer c.args.tree.now in
    let kept : Kept = c.self.inside.bridges.kept in
    let olds : List Shown = all_of c.self.inside in
    let ss = c.carried.new.bridges.sources in
    let strays : KeptParts = kept_strays c.self.inside.bridges.strays in
    let moves : List Move = PartMoves c.args.buffer c.args.mods.now (tree_of bs c.args.buffer) (units_of kept)
    c.self.inside.bridges.parts strays (units after) in
    let left = left_of c.args.mods.now (tree_of bs c.args.buffer) (units_of kept) moves (units after)
    c.in_ok-after.target c.self.inside.fresh c.deref.result.now c.deref-2.result.now c.self.inside.units.items
    c.self.inside.hidden.items c.self.inside.strays c.carried.new.strays c.deref.ensures.value
    c.deref-2.ensures.value c.in_ok-after.ensures.left in
    let was : WasKept c.self.inside.width kept c.self.inside.bridges.parts strays olds c.self.inside.strays = record {
      laid = c.self.invariant.laid;
      readable = c.self.invariant.all_readable;
      strays = c.self.invariant.strays;
      short = c.self.invariant.short;
    } in
    let on = carried_by c.self.inside.width c.args.buffer c.args.mods.now (tree_of bs c.args.buffer) kept
    c.carried.new.bridges.kept c.self.inside.bridges.parts c.carried.new.bridges.parts strays
    (kept_strays c.carried.new.bridges.strays) olds c.move_shown-former.new.hidden.items c.self.inside.strays
    c.carried.new.strays c.in_ok-after.target ss (units after) was c.outcome-kept.ensures.parts_hold
    c.outcome-kept.ensures.strays_hold.distinct c.in_ok-after.ensures.kept c.in_ok-after.ensures.within
    c.in_ok-after.ensures.beside c.in_ok-after.ensures.sources c.in_ok-after.ensures.target
    c.in_ok-after.ensures.way left c.move_shown-former.ensures.moved in
    let go = they_go c.self.inside.width c.args.buffer c.args.mods.now (tree_of bs c.args.buffer) kept
    c.self.inside.bridges.parts c.self.inside.bridges.strays olds (map laid_at c.self.inside.strays) (units after)
    c.self.invariant.laid c.self.invariant.alike c.in_ok-after.target ss c.in_ok-after.ensures.way
    c.outcome-was.ensures.strays_hold.outside in
    let v : Inside = record {
      buffers = c.in_ok-after.after;
      width = c.self.inside.width;
      height = c.self.inside.height;
      fresh = false;
      bridges = c.carried.new.bridges;
      units = c.clear.new.self;
      hidden = c.move_shown-former.new.hidden;
      strays = c.carried.new.strays;
      paged = c.replace-paged.new.dest;
      lone = c.lone_of.result;
      work = c.self.inside.work;
    } in
    let base = stale_view v after
    (CarryKept c.args.buffer c.args.mods.now (tree_of bs c.args.buffer) kept (units after))
    (CarryParts c.self.inside.bridges.parts (PartMoves c.args.buffer c.args.mods.now (tree_of bs c.args.buffer)
    (units_of kept) c.self.inside.bridges.parts strays (units after))
    (Sources c.args.buffer c.args.mods.now (tree_of bs c.args.buffer) (units_of kept) (units after)))
    (map (had (laid_in olds)) (Sources c.args.buffer c.args.mods.now (tree_of bs c.args.buffer) (units_of kept)
    (units after)))
    (all_laid_now (laid_parts_in olds) (laid_moves c.args.buffer c.args.mods.now (tree_of bs c.args.buffer)
    (units_of kept) (laid_parts_in olds) (map laid_at c.self.inside.strays) (units after)) 0
    (Sources c.args.buffer c.args.mods.now (tree_of bs c.args.buffer) (units_of kept) (units after)))
    (CarryStrays (PartMoves c.args.buffer c.args.mods.now (tree_of bs c.args.buffer) (units_of kept)
    c.self.inside.bridges.parts strays (units after)) (length (units after)))
    (laid_arrived (laid_moves c.args.buffer c.args.mods.now (tree_of bs c.args.buffer) (units_of kept)
    (laid_parts_in olds) (map laid_at c.self.inside.strays) (units after)) (length (units after))) refl
    c.clear.ensures.items
    (ap (λ (p : Pagination). p.pages.items) c.replace-paged.ensures.after ∙ c.in_ok-nothing.ensures.pages)
    c.in_ok-after.ensures.buffers
    c.in_ok-after.ensures.kept
    (c.in_ok-after.ensures.parts
    ∙ ap (CarryParts c.self.inside.bridges.parts (PartMoves c.args.buffer c.args.mods.now
    (tree_of bs c.args.buffer) (units_of kept) c.self.inside.bridges.parts strays (units after)))
    c.in_ok-after.ensures.sources) on.attributes (on.laid_parts ∙ go.0)
    c.in_ok-after.ensures.strays (on.laid_strays ∙ go.1) in
    base
    ∙ ap (λ (cs : List Buffer). record (whole_of c.self.inside) {
      buffers = with_tree cs c.args.buffer c.args.tree.now;
      fresh = false;
      shown = record { units = []; pages = [] };
      row_parts = [];
      stores = Carry c.args.buffer c.args.mods.now cs (view_stores_of c.self.inside)
          (with_tree cs c.args.buffer c.args.tree.now);
    }) c.deref-3.ensures.value
    ∙ ap (λ (w : WholeView). record w {
      buffers = with_tree w.buffers c.args.buffer c.args.tree.now;
      fresh = false;
      shown = record { units = []; pages = [] };
      row_parts = [];
      stores = Carry c.args.buffer c.args.mods.now w.buffers w.stores
          (with_tree w.buffers c.args.buffer c.args.tree.now);
    }) c.self.view_is
