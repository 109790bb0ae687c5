use Rattle.std.proofs.Common.{◌≡◌, ℕ, ◌≤◌, min, List, length, get_or, subst, arith}
use Rattle.tx_lines.specs.declared.cut.Cut.{Cut}
use Rattle.tx_lines.specs.declared.first_fit.Piece.{Piece}
use Rattle.tx_lines.proofs.Cells.{cells_of_one}
use Rattle.tx_lines.proofs.Filling.{FillsTo, min_width, later_behind, fills_more, fills_all}
use Rattle.tx_lines.proofs.first_fit.fill.Goals as goal

pub line_end-to-requires-clause-narrow : goal.line_end-to-requires-clause-narrow
line_end-to-requires-clause-narrow c =
    let nothing : Piece = record { before = 0; cells = 0 } in
    let alone = cells_of_one c.args.pieces.now c.loop-from.from nothing (omega arith) in
    let narrow : (get_or c.args.pieces.now c.loop-from.from nothing).cells ≤ min c.args.first c.args.later =
    c.requires.narrow_pieces c.loop-from.from nothing (omega arith) in
    omega (arith, alone, narrow, min_width c.args.first c.args.later (length c.loop-from.lines.items))

pub loop-from-preserved : goal.loop-from-preserved
loop-from-preserved c =
    let line : Cut = record { from = c.loop-from.from; to = c.line_end-to.result } in
    let so_far : List Cut = c.loop-from.lines.items in
    let ends = c.line_end-to.ensures in
    record {
      filled = rw c.in_ok-push.ensures.items
          (fills_more c.args.pieces.now c.args.first c.args.later c.loop-from.width so_far line
          c.loop-from.invariant.filled c.loop-from.invariant.next_width ends.some ends.fits ends.full);
      within = ends.within;
      next_width = rw c.in_ok-push.ensures.items (later_behind c.args.first c.args.later so_far line);
    }

pub returns : goal.returns
returns c =
    let pieces = c.args.pieces.now in
    let lines = c.loop-from.lines.items in
    let whole : c.loop-from.from ≡ length pieces = omega arith in
    let P : ℕ → Type 0 = λ end. FillsTo pieces c.args.first c.args.later end lines in
    record { first_fit = fills_all pieces c.args.first c.args.later lines (subst P whole c.loop-from.invariant.filled) }
