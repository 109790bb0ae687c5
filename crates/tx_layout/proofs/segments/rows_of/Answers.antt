use Rattle.std.proofs.Common.{arith, length, ap, ◌∙◌}
use Rattle.std.proofs.lemmas.List.{length-map}
use Rattle.std.proofs.lemmas.Result.{IfOk-weaker}
use Rattle.tx_layout.specs.Segments.{piece_of, width_at}
use Rattle.tx_layout.specs.Rows.{capped_piece}
use Rattle.tx_layout.proofs.Spans.{each_onward, each_some, each_within, few_spans, narrow_pieces, rises, at_least}
use Rattle.tx_layout.proofs.Widths.{are_rows}
use Rattle.tx_layout.proofs.segments.rows_of.Goals as goal

pub pieces_of-requires-clause-onward : goal.pieces_of-requires-clause-onward
pieces_of-requires-clause-onward c =
    rw c.deref.ensures.value (each_onward c.least_width-least.result c.args.segment.now 0 _ c.in_ok-spans.ensures)

pub pieces_of-requires-clause-some : goal.pieces_of-requires-clause-some
pieces_of-requires-clause-some c =
    rw c.deref.ensures.value (each_some c.least_width-least.result c.args.segment.now 0 _ c.in_ok-spans.ensures)

pub pieces_of-requires-clause-within : goal.pieces_of-requires-clause-within
pieces_of-requires-clause-within c =
    rw c.deref.ensures.value (each_within c.least_width-least.result c.args.segment.now 0 _ c.in_ok-spans.ensures)

pub fill-requires-clause-few_pieces : goal.fill-requires-clause-few_pieces
fill-requires-clause-few_pieces c =
    let few = few_spans c.least_width-least.result c.args.segment.now 0 c.in_ok-spans.spans.items c.in_ok-spans.ensures
    (omega arith) in
    let same = ap length c.deref-2.ensures.value ∙ ap length c.in_ok-pieces.ensures
    ∙ length-map c.deref.result.now (λ s. capped_piece (piece_of c.args.segment.now s))
    ∙ ap length c.deref.ensures.value in
    let short = c.requires.few in
    omega arith

pub fill-requires-clause-narrow_pieces : goal.fill-requires-clause-narrow_pieces
fill-requires-clause-narrow_pieces c =
    let frame = c.args.frame in
    let is = c.least_width-least.ensures in
    let least = at_least frame c.args.is_first in
    rw (c.deref-2.ensures.value, c.in_ok-pieces.ensures, c.width_at.ensures)
    (narrow_pieces c.least_width-least.result (width_at frame c.args.is_first) frame.later_width c.args.segment.now 0
    c.deref.result.now (rw c.deref.ensures.value c.in_ok-spans.ensures) (omega arith) (omega arith))

pub cut_rows-requires-clause-rise : goal.cut_rows-requires-clause-rise
cut_rows-requires-clause-rise c =
    rw c.deref-3.ensures.value (rises c.least_width-least.result c.args.segment.now _ c.in_ok-spans.ensures)

pub returns : goal.returns
returns c =
    IfOk-weaker c.cut_rows.result _ _
    (λ rows made. are_rows c.args.frame c.args.is_first c.args.start c.least_width-least.result c.width_at.result
    c.args.segment.now c.in_ok-spans.spans.items c.deref.result.now c.deref-3.result.now c.in_ok-pieces.pieces.items
    c.deref-2.result.now c.in_ok-cuts.cuts.items c.deref-4.result.now rows.items c.requires.frame
    c.least_width-least.ensures c.width_at.ensures c.in_ok-spans.ensures c.deref.ensures.value
    c.in_ok-pieces.ensures c.deref-2.ensures.value c.in_ok-cuts.ensures.first_fit c.deref-3.ensures.value
    c.deref-4.ensures.value made)
    c.cut_rows.ensures
