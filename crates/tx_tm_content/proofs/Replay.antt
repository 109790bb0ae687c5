-- Tags and white as an ordinary block.
use Rattle.std.proofs.Common.{◌≡◌, ℕ, ◌+◌, ◌≤◌, List, [], ◌∷◌, ◌++◌, map, Option, Some, None, refl, sym, ap, subst, ◌∙◌}
use Rattle.std.proofs.Common.{append_assoc, arith}
use Rattle.std.proofs.lemmas.List.{map-append}
use Rattle.tx_tree.specs.WideTree.{nodes_of}
use Rattle.tx_tm_form.specs.declared.bytes.White.{White}
use Rattle.tx_tm_form.specs.declared.places.Stage.{Stage}
use Rattle.tx_tm_form.specs.declared.places.Stage.TheVariants.{Empty, Alone, Ordinary}
use Rattle.tx_tm_form.specs.Parts.{tag}
use Rattle.tx_tm_form.specs.Growing.{Block, no_paragraphs, longer, with_white, widen, tree_of_entry, behind_run}
use Rattle.tx_tm_form.specs.Growing.{with_entries, as_block}
use Rattle.tx_tm_form.proofs.Growth.{entries_append}
use Rattle.tx_tm_content.specs.declared.tag_rows.TagEntry.{TagEntry}
use Rattle.tx_tm_content.specs.declared.blocks.TagList.{TagList}
use Rattle.tx_tm_content.specs.ContentFits.{BlockFits}
use Rattle.tx_tm_content.specs.ContentNodes.{nodes_in, block_nodes_at, block_nodes}
use Rattle.tx_tm_content.specs.Blocks.{tags_of}
use Rattle.tx_tm_content.specs.TagRows.{entry_of}
use Rattle.tx_tm_content.proofs.Counts.{entries_nodes}
use Rattle.tx_tm_content.proofs.Fitting.{entries_fit, run_fits}

-- the entries so far are in the block, and so many steps were taken
pub record IsReplayed (before after : ℕ) (all es rest : List TagEntry) (b : Block) : Type 0 where
  pub left : all ≡ es ++ rest
  pub block : b ≡ with_entries no_paragraphs (map entry_of es)
  pub counted : after + nodes_in (map tree_of_entry (map entry_of es)) ≤ before + block_nodes b

white_nodes : (s : Stage) (b : Block) (w : White) → b.stage ≡ s → block_nodes (with_white s b w) ≡ block_nodes b
white_nodes Empty b w e = refl
white_nodes Alone b w e =
    ap (λ s. block_nodes_at s (record { full = b.full; now = b.now; run = Some (longer b.run w); stage = b.stage })) e
    ∙ sym (ap (λ s. block_nodes_at s b) e)
white_nodes Ordinary b w e =
    ap (λ s. block_nodes_at s (record { full = b.full; now = b.now; run = Some (longer b.run w); stage = b.stage })) e
    ∙ sym (ap (λ s. block_nodes_at s b) e)

pub run_nodes : (b : Block) (r : Option White) → block_nodes (behind_run b r) ≡ block_nodes b
run_nodes b None = refl
run_nodes b (Some w) = white_nodes b.stage b w refl

pub replayed_more : (before m n : ℕ) (all es rest more : List TagEntry) (e : TagEntry) (b a d : Block)
    → IsReplayed before m all es rest b → rest ≡ e ∷ more → a ≡ behind_run b e.before
    → d ≡ widen a (tag e.collects e.tree)
    → n + (block_nodes a + nodes_of e.tree) ≤ m + block_nodes d → IsReplayed before n all (es ++ e ∷ []) more d
replayed_more before m n all es rest more e b a d h r o i j =
    let entries : map entry_of (es ++ e ∷ []) ≡ map entry_of es ++ entry_of e ∷ [] = map-append entry_of es (e ∷ []) in
    record {
      left = h.left ∙ ap (λ z. es ++ z) r ∙ sym (append_assoc es (e ∷ []) more);
      block = i ∙ ap (λ z. widen z (tag e.collects e.tree)) o
          ∙ ap (λ z. widen (behind_run z e.before) (tag e.collects e.tree)) h.block
          ∙ sym (entries_append (map entry_of es) (entry_of e ∷ []) no_paragraphs)
          ∙ ap (with_entries no_paragraphs) (sym entries);
      counted = rw entries
          (omega (
            arith,
            h.counted,
            j,
            ap block_nodes o ∙ run_nodes b e.before,
            entries_nodes (map entry_of es) (entry_of e),
          ));
    }

pub replay_stuck : (before m : ℕ) (x : TagList) (es rest fs : List TagEntry) (e : TagEntry) (b a : Block)
    → IsReplayed before m x.entries es rest b → rest ≡ e ∷ fs → a ≡ behind_run b e.before
    → ((k : ℕ) → BlockFits k (widen a (tag e.collects e.tree)) → ⊥) → (k : ℕ) → BlockFits k (as_block (tags_of x)) → ⊥
replay_stuck before m x es rest fs e b a h i o j k l =
    let z : BlockFits k (with_entries no_paragraphs (map entry_of x.entries)) =
    run_fits k (with_entries no_paragraphs (map entry_of x.entries)) x.run l in
    let c : BlockFits k (with_entries no_paragraphs (map entry_of es ++ entry_of e ∷ map entry_of fs)) =
    subst (λ z. BlockFits k (with_entries no_paragraphs z)) (ap (map entry_of) (h.left ∙ ap (λ z. es ++ z) i)
    ∙ map-append entry_of es (e ∷ fs)) z in
    let d : BlockFits k (with_entries (with_entries no_paragraphs (map entry_of es)) (entry_of e ∷ map entry_of fs)) =
    subst (BlockFits k) (entries_append (map entry_of es) (entry_of e ∷ map entry_of fs) no_paragraphs) c in
    let f : BlockFits k (with_entries b (entry_of e ∷ map entry_of fs)) =
    subst (λ z. BlockFits k (with_entries z (entry_of e ∷ map entry_of fs))) (sym h.block) d in
    j k (subst (λ y. BlockFits k (widen y (tag e.collects e.tree))) (sym o)
    (entries_fit k (map entry_of fs) (widen (behind_run b e.before) (tag e.collects e.tree)) f).0)
