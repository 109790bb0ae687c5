use Rattle.tx_layout.proofs.Spans.{span_more, spans_done}
use Rattle.tx_layout.proofs.pieces.spans_of.Goals as goal

pub loop-from-preserved : goal.loop-from-preserved
loop-from-preserved c =
    let so_far = c.loop-from.invariant in
    let piece = c.piece_end-to.ensures in
    let next = c.spaces_end-from-in-loop-from.ensures in
    record {
      so_far = span_more c.args.least c.args.items.now _ _ _ c.in_ok-push.ensures.items
          (record {
            onward = so_far.onward;
            some = piece.some;
            within = piece.within;
            blank = so_far.blank;
            solid = piece.solid;
            unbroken = piece.unbroken;
            narrow = piece.narrow;
            greatest = piece.greatest;
          })
          so_far.so_far;
      onward = next.onward;
      within = next.within;
      blank = next.blank;
      begins = next.stops;
    }

pub returns : goal.returns
returns c =
    let h = c.loop-from.invariant in
    spans_done c.args.least c.args.items.now _ c.loop-from.at c.loop-from.from h.so_far h.onward h.within
    c.loop-from-test.false h.blank
