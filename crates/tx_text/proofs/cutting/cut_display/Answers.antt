use Rattle.std.proofs.Common.{length, refl}
use Rattle.std.proofs.lemmas.List.Elements.{All-head, All-rest}
use Rattle.tx_text.specs.Places.{cluster_at}
use Rattle.tx_text.proofs.Pieces.{IsInside, clusters_inside, cut_more, cut_all}
use Rattle.tx_text.proofs.cutting.cut_display.Goals as goal

pub loop-at-init : goal.loop-at-init
loop-at-init c =
    rw (c.into_iter-at-iterator.ensures.into_iter_gives, c.grapheme_indices-at-items.ensures.left)
    (record { so_far = rw c.new-found.ensures.items refl; inside = clusters_inside _ _ c.utf8.display c.requires })

pub cluster_at-requires-clause-some : goal.cluster_at-requires-clause-some
cluster_at-requires-clause-some c =
    (All-head (IsInside (length c.args.places.now)) _ _ (rw c.in-Some.ensures.steps at c.loop-at.invariant.inside)).some

pub cluster_at-requires-clause-within : goal.cluster_at-requires-clause-within
cluster_at-requires-clause-within c =
    (All-head (IsInside (length c.args.places.now)) _ _
    (rw c.in-Some.ensures.steps at c.loop-at.invariant.inside)).within

pub loop-at-preserved : goal.loop-at-preserved
loop-at-preserved c = record {
  so_far =
      rw c.in_ok-push.ensures.items
      (cut_more (cluster_at c.args.places.now) _ _ _ _ (c.in-Some.at, c.in-Some.glyphs.now) _ c.in-Some.ensures.steps
      c.in_ok-cluster_at.ensures c.loop-at.invariant.so_far);
  inside = All-rest (IsInside (length c.args.places.now)) _ _ _ c.in-Some.ensures.steps c.loop-at.invariant.inside;
}

pub returns : goal.returns
returns c = cut_all (cluster_at c.args.places.now) _ _ _ c.in-None.ensures.steps.0 c.loop-at.invariant.so_far
