use Rattle.std.proofs.Common.{◌≡◌, ◌++◌, drop, map}
use Rattle.tx_layout.specs.Segments.{piece_of}
use Rattle.tx_layout.specs.Rows.{capped_piece}
use Rattle.tx_layout.proofs.pieces.pieces_of.Given as goal

abbrev pub invariant-loop-span : goal.invariant-loop-span
invariant-loop-span l =
    l.pieces.items ++ map (λ s. capped_piece (piece_of l.items s)) (drop l.span-index l.spans)
    ≡ map (λ s. capped_piece (piece_of l.items s)) l.spans
