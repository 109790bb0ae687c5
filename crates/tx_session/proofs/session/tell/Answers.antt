use Rattle.std.proofs.Common.{◌≡◌, Some, subst, sym}
use Rattle.tx_mod.specs.Followed.{changed_by_all}
use Rattle.tx_doc.specs.Buffers.{tree_of}
use Rattle.tx_session.proofs.Carried.{in_turn}
use Rattle.tx_session.proofs.session.tell.Goals as goal

pub edited-requires-clause-changed : goal.edited-requires-clause-changed
edited-requires-clause-changed g c =
    let prepared = c.args.prepared.now in
    let before = tree_of c.args.view.now.buffers prepared.buffer in
    subst (λ ms. changed_by_all ms before ≡ Some prepared.tree) (sym c.as_slice-mods.ensures)
    (in_turn prepared.mods before prepared.tree c.requires.changed)
