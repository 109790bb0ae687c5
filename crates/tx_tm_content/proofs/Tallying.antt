-- Where the tags pass what the counts allow, neither a collection nor a document within the limits has them.
use mathlib.Core.Logic.{inl, inr}
use Rattle.std.proofs.Common.{◌≡◌, ℕ, suc, ◌+◌, ◌≤◌, Bool, true, false, List, [], ◌∷◌, ◌++◌, length, map, Option, Some}
use Rattle.std.proofs.Common.{None, refl, sym, subst, length-append, arith}
use Rattle.std.proofs.lemmas.List.{map-append}
use Rattle.std.proofs.lemmas.Bool.{ltb-true, ltb-false}
use Rattle.tx_tree.specs.WideTree.{WideTree, forest, size_of, total_size}
use Rattle.tx_tree.proofs.Children.{total_size-append}
use Rattle.tx_tm_form.specs.declared.bytes.White.{White}
use Rattle.tx_tm_form.specs.declared.bytes.White.TheVariants.{Spaces, Line, Break}
use Rattle.tx_tm_form.specs.declared.places.Stage.{Stage}
use Rattle.tx_tm_form.specs.declared.places.Stage.TheVariants.{Empty, Alone, Ordinary}
use Rattle.tx_tm_form.specs.Parts.{tag, leaf_before}
use Rattle.tx_tm_form.specs.Growing.{Inline, no_parts, grow, grown, no_paragraphs, widen, ended, resumed}
use Rattle.tx_tm_form.specs.Growing.{CollectionEntry}
use Rattle.tx_tm_form.specs.Growing.{tree_of_entry, behind_run, with_entries}
use Rattle.tx_tm_content.specs.declared.tag_rows.TagEntry.{TagEntry}
use Rattle.tx_tm_content.specs.declared.tag_rows.Tally.{Tally}
use Rattle.tx_tm_content.specs.ContentFits.{RowFits, BlockFits, TagRowFits}
use Rattle.tx_tm_content.specs.Tallies.{begins_paragraph, tally_at, tally_more, tally_from, no_tally, tally_of}
use Rattle.tx_tm_content.specs.Tallies.{IsTallyWithinLimits}
use Rattle.tx_tm_content.specs.Blocks.{block_at, tag_stage}
use Rattle.tx_tm_content.specs.TagRows.{entry_of, IsTagRow}
use Rattle.tx_tm_content.proofs.Fitting.{grown_light}

-- ---- one tag more

tally_append : (n : Tally) (es fs : List CollectionEntry) → tally_from n (es ++ fs) ≡ tally_from (tally_from n es) fs
tally_append n [] fs = refl
tally_append n (e ∷ es) fs = tally_append (tally_more n e) es fs

pub counted_more : (es : List TagEntry) (e : TagEntry) (n m : Tally) → IsTagRow es n → m ≡ tally_more n (entry_of e)
    → m ≡ tally_of (map entry_of (es ++ e ∷ []))
counted_more es e n m h i =
    rw (map-append entry_of es (e ∷ []), tally_append no_tally (map entry_of es) (entry_of e ∷ []), ← h.counted) i

-- ---- as a collection

-- after so many tags of this size
record IsBelow (n : Tally) (count whole : ℕ) : Type 0 where
  ended : n.ended ≤ count
  tags : n.tags ≤ count
  size : n.size ≡ whole

below_at : (z : Bool) (n : Tally) (k m size : ℕ) → IsBelow n k m → IsBelow (tally_at z n size) (suc k) (m + size)
below_at true n k m size h = record { ended = omega (arith, h.ended); tags = omega arith; size = omega (arith, h.size) }
below_at false n k m size h =
    record { ended = omega (arith, h.ended); tags = omega (arith, h.tags); size = omega (arith, h.size) }

below : (es : List CollectionEntry) (n : Tally) (k m : ℕ) → IsBelow n k m
    → IsBelow (tally_from n es) (k + length (map tree_of_entry es)) (m + total_size (forest (map tree_of_entry es)))
below [] n k m h = record { ended = omega (arith, h.ended); tags = omega (arith, h.tags); size = omega (arith, h.size) }
below (e ∷ es) n k m h =
    let i = below es (tally_more n e) (suc k) (m + size_of e.tree)
    (below_at (begins_paragraph e.before n.tags) n k m (size_of e.tree) h) in
    record { ended = omega (arith, i.ended); tags = omega (arith, i.tags); size = omega (arith, i.size) }

row_few : (k : ℕ) (es : List CollectionEntry) → RowFits k (map tree_of_entry es) → IsTallyWithinLimits (tally_of es)
row_few k es h =
    let i = below es no_tally 0 0 (record { ended = omega arith; tags = omega arith; size = refl }) in
    record {
      ended = omega (arith, i.ended, h.few);
      tags = omega (arith, i.tags, h.few);
      size = omega (arith, i.size, h.light);
    }

-- ---- as paragraphs

abbrev ended_in : Stage → List WideTree → ℕ
ended_in Ordinary full = length full
ended_in s full = 0

abbrev tags_in : Stage → Inline → ℕ
tags_in Empty now = 0
tags_in s now = length now.done

abbrev size_in : Stage → List WideTree → Inline → ℕ
size_in Empty full now = 0
size_in Alone full now = total_size (forest now.done)
size_in Ordinary full now = total_size (forest full) + total_size (forest now.done)

-- the block has no fewer paragraphs, trees and bytes
record IsUnder (n : Tally) (s : Stage) (full : List WideTree) (now : Inline) : Type 0 where
  ended : n.ended ≤ ended_in s full
  tags : n.tags ≤ tags_in s now
  size : n.size ≤ size_in s full now

-- what a tag finds after a run
abbrev full_with : Stage → Option White → List WideTree → Inline → List WideTree
full_with Empty r full now = []
full_with s r full now = ended r full now

abbrev now_with : Stage → Option White → Inline → Inline
now_with Empty r now = no_parts
now_with s r now = resumed r now

widened : (s : Stage) (full : List WideTree) (now : Inline) (r : Option White) (c : Bool) (t : WideTree)
    → widen (behind_run (block_at s full now) r) (tag c t) ≡ block_at (tag_stage s c) (full_with s r full now)
    (grow (now_with s r now) (tag false t))
widened Empty full now None true t = refl
widened Empty full now None false t = refl
widened Empty full now (Some w) true t = refl
widened Empty full now (Some w) false t = refl
widened Alone full now None c t = refl
widened Alone full now (Some w) c t = refl
widened Ordinary full now None c t = refl
widened Ordinary full now (Some w) c t = refl

-- a line with a tag more
tagged_length : (g : Inline) (t : WideTree) → suc (length g.done) ≤ length (grow g (tag false t)).done
tagged_length g t =
    omega (
      arith,
      length-append (g.done ++ leaf_before g.bytes []) (t ∷ []),
      length-append g.done (leaf_before g.bytes []),
    )

tagged_size : (g : Inline) (t : WideTree)
    → total_size (forest g.done) + size_of t ≤ total_size (forest (grow g (tag false t)).done)
tagged_size g t =
    omega (
      arith,
      total_size-append (g.done ++ leaf_before g.bytes []) (t ∷ []),
      total_size-append g.done (leaf_before g.bytes []),
    )

-- the first tag of a block
first_under : (z : Bool) (n : Tally) (r : Option White) (c : Bool) (t : WideTree) → begins_paragraph r n.tags ≡ z
    → n.ended ≤ 0
    → n.tags ≤ 0 → n.size ≤ 0 → IsUnder (tally_at z n (size_of t)) (tag_stage Empty c) [] (grow no_parts (tag false t))
first_under true n (Some Break) c t e f g h = absurd (omega (arith, g, ltb-true 0 n.tags e))
first_under true n (Some Spaces) c t e f g h = absurd cc
first_under true n (Some Line) c t e f g h = absurd cc
first_under true n None c t e f g h = absurd cc
first_under false n r true t e f g h = record { ended = f; tags = omega (arith, g); size = omega (arith, h) }
first_under false n r false t e f g h = record { ended = f; tags = omega (arith, g); size = omega (arith, h) }

-- a later one, after so many paragraphs, trees and bytes
later_under : (z : Bool) (n : Tally) (r : Option White) (t : WideTree) (full : List WideTree) (now : Inline)
    → begins_paragraph r n.tags ≡ z → n.ended ≤ length full → n.tags ≤ length now.done
    → n.size ≤ total_size (forest full) + total_size (forest now.done)
    → IsUnder (tally_at z n (size_of t)) Ordinary (ended r full now) (grow (resumed r now) (tag false t))
later_under true n (Some Break) t full now e f g h = record {
  ended = omega (arith, f, length-append full (grown now ∷ []));
  tags = omega arith;
  size = omega (arith, h, grown_light now, total_size-append full (grown now ∷ []));
}
later_under true n (Some Spaces) t full now e f g h = absurd cc
later_under true n (Some Line) t full now e f g h = absurd cc
later_under true n None t full now e f g h = absurd cc
later_under false n (Some Break) t full now e f g h = record {
  ended = omega (arith, f, length-append full (grown now ∷ []));
  tags = omega (arith, ltb-false 0 n.tags e);
  size = omega (arith, h, grown_light now, total_size-append full (grown now ∷ []));
}
later_under false n (Some Spaces) t full now e f g h =
    record {
      ended = f;
      tags = omega (arith, g, tagged_length (resumed (Some Spaces) now) t);
      size = omega (arith, h, tagged_size (resumed (Some Spaces) now) t);
    }
later_under false n (Some Line) t full now e f g h =
    record {
      ended = f;
      tags = omega (arith, g, tagged_length (resumed (Some Line) now) t);
      size = omega (arith, h, tagged_size (resumed (Some Line) now) t);
    }
later_under false n None t full now e f g h =
    record { ended = f; tags = omega (arith, g, tagged_length now t); size = omega (arith, h, tagged_size now t) }

more_under : (n : Tally) (s : Stage) (full : List WideTree) (now : Inline) (r : Option White) (c : Bool) (t : WideTree)
    → IsUnder n s full now
    → IsUnder (tally_at (begins_paragraph r n.tags) n (size_of t)) (tag_stage s c) (full_with s r full now)
    (grow (now_with s r now) (tag false t))
more_under n Empty full now r c t h = first_under (begins_paragraph r n.tags) n r c t refl h.ended h.tags h.size
more_under n Alone full now r c t h =
    later_under (begins_paragraph r n.tags) n r t full now refl (omega (arith, h.ended)) h.tags (omega (arith, h.size))
more_under n Ordinary full now r c t h =
    later_under (begins_paragraph r n.tags) n r t full now refl h.ended h.tags h.size

under_few : (k : ℕ) (n : Tally) (s : Stage) (full : List WideTree) (now : Inline) → IsUnder n s full now
    → BlockFits k (block_at s full now) → IsTallyWithinLimits n
under_few k n Empty full now h i =
    record { ended = omega (arith, h.ended); tags = omega (arith, h.tags); size = omega (arith, h.size) }
under_few k n Alone full now h i =
    record {
      ended = omega (arith, h.ended);
      tags = omega (arith, h.tags, i.done.few);
      size = omega (arith, h.size, i.done.light);
    }
under_few k n Ordinary full now h i =
    record {
      ended = omega (arith, h.ended, i.0.few);
      tags = omega (arith, h.tags, i.1.done.few);
      size = omega (arith, h.size, i.2);
    }

under : (k : ℕ) (es : List CollectionEntry) (n : Tally) (s : Stage) (full : List WideTree) (now : Inline)
    → IsUnder n s full now
    → BlockFits k (with_entries (block_at s full now) es) → IsTallyWithinLimits (tally_from n es)
under k [] n s full now h i = under_few k n s full now h i
under k (e ∷ es) n s full now h i =
    under k es (tally_more n e) (tag_stage s e.collects) (full_with s e.before full now)
    (grow (now_with s e.before now) (tag false e.tree)) (more_under n s full now e.before e.collects e.tree h)
    (subst (λ b. BlockFits k (with_entries b es)) (widened s full now e.before e.collects e.tree) i)

block_few : (k : ℕ) (es : List CollectionEntry) → BlockFits k (with_entries no_paragraphs es)
    → IsTallyWithinLimits (tally_of es)
block_few k es h =
    under k es no_tally Empty [] no_parts (record { ended = omega arith; tags = omega arith; size = omega arith }) h

-- ---- either

tags_few : (k : ℕ) (es : List CollectionEntry) → TagRowFits k es → IsTallyWithinLimits (tally_of es)
tags_few k es (inl h) = row_few k es h
tags_few k es (inr h) = block_few k es h

pub too_many_tags : (es : List TagEntry) (n : Tally) → n ≡ tally_of (map entry_of es) → (IsTallyWithinLimits n → ⊥)
    → (k : ℕ)
    → TagRowFits k (map entry_of es) → ⊥
too_many_tags es n e h k f = h (subst IsTallyWithinLimits (sym e) (tags_few k (map entry_of es) f))

pub more_stuck : (es : List TagEntry) (e : TagEntry) → ((k : ℕ) → TagRowFits k (map entry_of (es ++ e ∷ [])) → ⊥)
    → (k : ℕ) → TagRowFits k (map entry_of es ++ entry_of e ∷ []) → ⊥
more_stuck es e h k f = h k (subst (TagRowFits k) (sym (map-append entry_of es (e ∷ []))) f)

pub no_tag_row : IsTagRow [] no_tally
no_tag_row = record { counted = refl; few = record { ended = omega arith; tags = omega arith; size = omega arith } }
