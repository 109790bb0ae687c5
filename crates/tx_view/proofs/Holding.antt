-- What is cached is of the units of the buffers.
use Rattle.std.proofs.Common.{◌≡◌, map, sym, ◌∙◌, subst}
use Rattle.std.proofs.lemmas.List.{length-map}
use Rattle.tx_doc.specs.Buffers.{document_of}
use Rattle.tx_bridge.specs.Entries.{units_of}
use Rattle.tx_bridge.specs.HeldParts.{AllPartsHold}
use Rattle.tx_bridge.specs.Sound.{AllHold}
use Rattle.tx_bridge.specs.Strays.{AreStrays}
use Rattle.tx_unit_layout.specs.LaidAts.{laid_at}
use Rattle.tx_unit_layout.specs.declared.shown.Shown.{Shown}
use Rattle.tx_view.specs.Names.{Holds}
use Rattle.tx_view.specs.WholeViews.{WholeView, whole_of, all_of, IsKept}
use Rattle.tx_view.specs.declared.view.View.TheInside.{Inside}
use Rattle.tx_view.proofs.Aside.{all_hold_aside}
use Rattle.tx_view.proofs.Blank.{as_many_laid}

pub kept_holds : (v : Inside) (w : WholeView) → whole_of v ≡ w → IsKept v → AllHold v.bridges.kept
    → AllPartsHold v.bridges.kept v.bridges.parts → AreStrays (units_of v.bridges.kept) v.bridges.strays
    → Holds w.buffers w.stores
unfolding Holds
kept_holds v w is kept hold parts strays =
    let many = as_many_laid v.width v.bridges.kept v.bridges.parts (all_of v) kept.laid in
    subst (λ (x : WholeView). Holds x.buffers x.stores) is (
      hold,
      parts,
      kept.of_buffers,
      many,
      length-map (all_of v) (λ (x : Shown). map laid_at x.parts)
          ∙ sym (length-map (all_of v) (λ (x : Shown). x.laid)) ∙ many,
      all_hold_aside (document_of v.buffers.items) (units_of v.bridges.kept) v.bridges.strays strays kept.aside,
      kept.alike,
    )
