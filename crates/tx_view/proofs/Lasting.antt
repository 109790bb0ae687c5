-- What is known after an edit of the one unit that it changes.
use Rattle.std.proofs.Common.{◌≡◌, ℕ, List, true, Option, Some, None, slice_set, ap, sym, subst, ◌∙◌, arith}
use Rattle.std.specs.Prelude.{if◌then◌else◌, IfSome}
use Rattle.tx_tree.specs.WideTree.{WideTree}
use Rattle.tx_mod.specs.declared.mods.Mod.{Mod}
use Rattle.tx_units.specs.declared.kinds.Unit.{Unit as DocUnit}
use Rattle.tx_bridge.specs.Entries.{Kept, units_of}
use Rattle.tx_bridge.specs.Names.{Sources, CarryTraces as CarryKept}
use Rattle.tx_view.specs.declared.carrying.Former.{Former}
use Rattle.tx_view.specs.declared.carrying.Target.{Target}
use Rattle.tx_view.specs.declared.lone.Lone.{Lone}
use Rattle.tx_view.specs.declared.paging.Pagination.{Pagination}
use Rattle.tx_unit_layout.specs.Views.{unit_view}
use Rattle.tx_unit_layout.specs.declared.shown.Shown.{Shown}
use Rattle.tx_view.specs.declared.view.View.TheInside.{Inside}
use Rattle.tx_view.specs.Laid.{StayBut, IsTarget, HasGone, SetNoName, IsFormer}
use Rattle.tx_view.specs.Lone.{IsLone, IsPaged, WerePages}
use Rattle.tx_view.specs.Units.{unit_views}
use Rattle.tx_view.specs.WholeViews.{IsKept, all_of}
use Rattle.tx_view.proofs.Leaving.{left_alone, laid_there, fresh_along, view_there, views_but}

-- the pages of a fresh view are those of its units
paged_is : (v : Inside) → IsKept v → v.fresh ≡ true → IsPaged v.height (unit_views (all_of v)) v.paged
paged_is v h on =
    subst (λ (xs : List Shown). IsPaged v.height (unit_views xs) v.paged)
    (ap (λ b. if b then v.units.items else v.hidden.items) (sym on))
    (record { pages = (h.fresh on).paged; rows = h.rows; errors = h.errors })

pub left_by : (v : Inside) (buffer : ℕ) (ms : List Mod) (t : WideTree) (new : Kept) (xs : List Shown) (to : Target)
    (ss : List (Option ℕ)) (vs : List DocUnit) (former : Option Former) (paged : Pagination) (lone : Option Lone)
    → IsKept v → new ≡ CarryKept buffer ms t v.bridges.kept vs
    → ss ≡ Sources buffer ms t (units_of v.bridges.kept) vs → IsTarget (units_of v.bridges.kept) vs ss to
    → HasGone to ss (all_of v) xs → SetNoName v.bridges.kept to
    → IfSome former (λ f. IsFormer to v.fresh (all_of v) f)
    → IfSome lone (λ l. (former ≡ Some (record { unit = l.unit; attrs = l.attrs; unmarked = l.unmarked }))
    × (l.paged ≡ paged)) → paged ≡ v.paged
    → IfSome lone (λ l. IsLone new xs l.unit l.attrs × WerePages v.height (unit_views xs) l)
left_by v buffer ms t new xs to ss vs former paged None h is_new is_ss target moved silent known is same = tt
left_by v buffer ms t new xs to ss vs former paged (Some l) h is_new is_ss target moved silent known is same =
    let was : Former = record { unit = l.unit; attrs = l.attrs; unmarked = l.unmarked } in
    let f : IsFormer to v.fresh (all_of v) was =
    subst (λ (o : Option Former). IfSome o (λ p. IsFormer to v.fresh (all_of v) p)) is.0 known in
    let stay : StayBut f.places.items l.unit 0 (all_of v) xs =
    subst (λ (o : Target). HasGone o ss (all_of v) xs) f.target moved in (
      left_alone v.width buffer ms t v.bridges.kept new v.bridges.parts (all_of v) xs to ss vs l.unit l.attrs f.places
          h.laid is_new is_ss target moved silent f.target (fresh_along v h f.was_fresh)
          (laid_there (all_of v) l.unit f.was.shown l.attrs f.was.there f.was.laid),
      record {
        there = view_there f.places.items l.unit f.was.shown (all_of v) xs stay f.was.there;
        former = unit_view f.was.shown;
        paged =
            subst (λ (p : Pagination). IsPaged v.height (slice_set (unit_views xs) l.unit (unit_view f.was.shown)) p)
            (sym (is.1 ∙ same))
            (subst (λ us. IsPaged v.height us v.paged)
            (sym (views_but f.places.items l.unit 0 l.unit f.was.shown (all_of v) xs (omega arith) stay f.was.there))
            (paged_is v h f.was_fresh));
        unmarked = f.was.unmarked;
      },
    )
