use Rattle.std.proofs.Common.{◌≡◌, ◌++◌, length, map, true}
use Rattle.std.specs.List.{All}
use Rattle.unicode_segmentation.specs.Grapheme.{graphemes}
use Rattle.unicode_segmentation.specs.Segments.{with_offsets}
use Rattle.unicode_segmentation.specs.Iter.{grapheme_indices_left}
use Rattle.tx_text.specs.Places.{cluster_at}
use Rattle.tx_text.proofs.Pieces.{IsInside}
use Rattle.tx_text.proofs.cutting.cut_display.Given as goal

abbrev pub invariant-loop-at : goal.invariant-loop-at
invariant-loop-at l = record {
  so_far : l.found.items ++ map (cluster_at l.places) (grapheme_indices_left l.at-iterator) ≡
      map (cluster_at l.places) (with_offsets 0 (graphemes true l.display));
  inside : All (IsInside (length l.places)) (grapheme_indices_left l.at-iterator);
}
