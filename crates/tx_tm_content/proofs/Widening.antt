-- A block with one part more.
use Rattle.std.proofs.Common.{◌≡◌, ℕ, ◌+◌, ◌≤◌, Bool, true, false, List, [], ◌∷◌, ◌++◌, Option, Some, None, Result, Ok}
use Rattle.std.proofs.Common.{Err, IfOk, IfSome, refl, sym, ap, subst, ◌∙◌, arith}
use Rattle.tx_base.specs.declared.out_of_memory.Memory.{Memory}
use Rattle.tx_tree.specs.WideTree.{WideTree, nodes_of}
use Rattle.tx_tm_form.specs.declared.places.Stage.{Stage}
use Rattle.tx_tm_form.specs.declared.places.Stage.TheVariants.{Empty, Alone, Ordinary}
use Rattle.tx_tm_form.specs.Parts.{text, tag, leaf_before}
use Rattle.tx_tm_form.specs.Growing.{Inline, grow, Block, widen, with_part}
use Rattle.tx_tm_content.specs.ContentFits.{RowFits, LineFits, BlockFits}
use Rattle.tx_tm_content.specs.ContentNodes.{nodes_in, line_nodes, block_nodes_at, block_nodes}
use Rattle.tx_tm_content.specs.declared.blocks.Paragraphs.{Paragraphs}
use Rattle.tx_tm_content.specs.Blocks.{block_of, IsBlock, IsTagged, block_at, full_at, now_at, full_behind, now_behind}
use Rattle.tx_tm_content.specs.Blocks.{tag_stage}
use Rattle.tx_tm_content.proofs.Counts.{nodes_both, line_trees}
use Rattle.tx_tm_content.proofs.Fitting.{grow_fits, no_row}

text_at : (s : Stage) (b : Block) (x : List ℕ)
    → with_part s b (text x) ≡ block_at Ordinary (full_at s b) (grow (now_at s b) (text x))
text_at Empty b x = refl
text_at Alone b x = refl
text_at Ordinary b x = refl

pub text_widens : (b : Block) (x : List ℕ)
    → widen b (text x) ≡ block_at Ordinary (full_behind b) (grow (now_behind b) (text x))
text_widens b x = text_at b.stage b x

tag_at : (s : Stage) (b : Block) (c : Bool) (t : WideTree)
    → with_part s b (tag c t) ≡ block_at (tag_stage s c) (full_at s b) (grow (now_at s b) (tag false t))
tag_at Empty b true t = refl
tag_at Empty b false t = refl
tag_at Alone b c t = refl
tag_at Ordinary b c t = refl

pub tag_widens : (b : Block) (c : Bool) (t : WideTree)
    → widen b (tag c t) ≡ block_at (tag_stage b.stage c) (full_behind b) (grow (now_behind b) (tag false t))
tag_widens b c t = tag_at b.stage b c t

-- where no part can be added, there is no block with it
pub text_stuck : (b : Block) (x : List ℕ) → ((k : ℕ) → RowFits k (full_behind b) → LineFits k (now_behind b) → ⊥)
    → (k : ℕ) → BlockFits k (widen b (text x)) → ⊥
text_stuck b x h k i =
    let j : BlockFits k (block_at Ordinary (full_behind b) (grow (now_behind b) (text x))) =
    subst (BlockFits k) (text_widens b x) i in h k j.0 (grow_fits k (now_behind b) (text x) j.1)

tag_stuck_at : (s : Stage) (b : Block) (c : Bool) (t : WideTree)
    → ((k : ℕ) → RowFits k (full_at s b) → LineFits k (now_at s b) → ⊥) → (k : ℕ)
    → BlockFits k (with_part s b (tag c t)) → ⊥
tag_stuck_at Empty b c t h k i = h k (no_row k) (record { done = no_row k; short = omega arith })
tag_stuck_at Alone b c t h k i = h k i.0 (grow_fits k (now_at Alone b) (tag c t) i.1)
tag_stuck_at Ordinary b c t h k i = h k i.0 (grow_fits k (now_at Ordinary b) (tag c t) i.1)

pub tag_stuck : (b : Block) (c : Bool) (t : WideTree)
    → ((k : ℕ) → RowFits k (full_behind b) → LineFits k (now_behind b) → ⊥) → (k : ℕ) → BlockFits k (widen b (tag c t))
    → ⊥
tag_stuck b c t h k i = tag_stuck_at b.stage b c t h k i

line_there : (s : Stage) (k : ℕ) (b : Block) (c : Bool) (t : WideTree) → BlockFits k (with_part s b (tag c t))
    → LineFits k (grow (now_at s b) (tag false t))
line_there Empty k b true t i = i
line_there Empty k b false t i = i.1
line_there Alone k b c t i = i.1
line_there Ordinary k b c t i = i.1

pub tag_nodes : (g : Inline) (t : WideTree) → line_nodes (grow g (tag false t)) ≡ line_nodes g + nodes_of t
tag_nodes g t = omega (arith, nodes_both (g.done ++ leaf_before g.bytes []) (t ∷ []), line_trees g.done g.bytes)

stage_nodes : (s : Stage) (b : Block) (c : Bool) (full : List WideTree) (now : Inline) (m n : ℕ) (t : WideTree)
    → full ≡ full_at s b → now ≡ now_at s b → m + block_nodes_at s b ≤ n + (nodes_in full + line_nodes now)
    → m + (block_nodes_at s b + nodes_of t) ≤ n + block_nodes (block_at (tag_stage s c) full (grow now (tag false t)))
stage_nodes Empty b true full now m n t e f h = let z : m + 0 ≤ n + (0 + line_nodes now) =
    subst (λ us. m + 0 ≤ n + (nodes_in us + line_nodes now)) e h in omega (arith, tag_nodes now t, z)
stage_nodes Empty b false full now m n t e f h = omega (arith, tag_nodes now t)
stage_nodes Alone b c full now m n t e f h = omega (arith, tag_nodes now t)
stage_nodes Ordinary b c full now m n t e f h = omega (arith, tag_nodes now t)

pub tag_counts : (b : Block) (c : Bool) (full : List WideTree) (now : Inline) (m n : ℕ) (t : WideTree)
    → full ≡ full_behind b → now ≡ now_behind b → m + block_nodes b ≤ n + (nodes_in full + line_nodes now)
    → m + (block_nodes b + nodes_of t) ≤ n + block_nodes (block_at (tag_stage b.stage c) full (grow now (tag false t)))
tag_counts b c full now m n t e f h = stage_nodes b.stage b c full now m n t e f h

pub tag_counted : (b : Block) (c : Bool) (full : List WideTree) (now : Inline) (m n : ℕ) (t : WideTree) (s : Stage)
    (d : Block) → d ≡ block_at s full (grow now (tag false t)) → s ≡ tag_stage b.stage c → full ≡ full_behind b
    → now ≡ now_behind b
    → m + block_nodes b ≤ n + (nodes_in full + line_nodes now) → m + (block_nodes b + nodes_of t) ≤ n + block_nodes d
tag_counted b c full now m n t s d i j e f h =
    subst (λ z. m + (block_nodes b + nodes_of t) ≤ n + block_nodes z)
    (sym (i ∙ ap (λ z. block_at z full (grow now (tag false t))) j)) (tag_counts b c full now m n t e f h)

-- ---- a block with a tag more

pub tagged_block : (b : Block) (c : Bool) (t : WideTree) (full : List WideTree) (now : Inline) (s : Stage)
    (r : Result (Option Paragraphs) Memory) → s ≡ tag_stage b.stage c → full ≡ full_behind b → now ≡ now_behind b
    → IfOk r (λ next. IsTagged next s full (grow now (tag false t))) → IfOk r (λ next. IsBlock next (widen b (tag c t)))
tagged_block b c t full now s (Ok None) j e f h =
    λ k i. h k (subst (λ z. LineFits k (grow z (tag false t))) (sym f) (line_there b.stage k b c t i))
tagged_block b c t full now s (Ok (Some p)) j e f h =
    h ∙ ap (λ z. block_at z full (grow now (tag false t))) j
    ∙ ap (λ z. block_at (tag_stage b.stage c) z (grow now (tag false t))) e
    ∙ ap (λ z. block_at (tag_stage b.stage c) (full_behind b) (grow z (tag false t))) f ∙ sym (tag_widens b c t)
tagged_block b c t full now s (Err y) j e f h = tt

pub tagged_nodes : (b : Block) (c : Bool) (t : WideTree) (full : List WideTree) (now : Inline) (s : Stage)
    (r : Result (Option Paragraphs) Memory) (m n : ℕ) → s ≡ tag_stage b.stage c → full ≡ full_behind b
    → now ≡ now_behind b
    → m + block_nodes b ≤ n + (nodes_in full + line_nodes now)
    → IfOk r (λ next. IsTagged next s full (grow now (tag false t)))
    → IfOk r (λ next. IfSome next (λ d. m + (block_nodes b + nodes_of t) ≤ n + block_nodes (block_of d)))
tagged_nodes b c t full now s (Ok None) m n j e f h i = tt
tagged_nodes b c t full now s (Ok (Some p)) m n j e f h i = tag_counted b c full now m n t s (block_of p) i j e f h
tagged_nodes b c t full now s (Err y) m n j e f h i = tt

pub line_tagged : (g h : Inline) (t : WideTree) (m : ℕ) → h ≡ grow g (tag false t)
    → m + (line_nodes g + nodes_of t) ≤ m + line_nodes h
line_tagged g h t m e = omega (arith, ap line_nodes e, tag_nodes g t)
