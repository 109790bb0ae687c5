-- Credits of lines and blocks.
use Rattle.std.proofs.Common.{◌≡◌, ℕ, ◌-◌, ◌≤◌, min, List, [], ◌∷◌, ◌++◌, length}
use Rattle.std.proofs.Common.{Option, Some, None, refl, arith}
use Rattle.std.proofs.lemmas.List.{length-append}
use Rattle.tx_tree.specs.WideTree.{WideTree}
use Rattle.tx_tm_form.specs.declared.bytes.White.{White}
use Rattle.tx_tm_form.specs.declared.places.Stage.{Stage}
use Rattle.tx_tm_form.specs.declared.places.Stage.TheVariants.{Empty, Alone, Ordinary}
use Rattle.tx_tm_form.specs.Parts.{leaf_before}
use Rattle.tx_tm_form.specs.Growing.{Block, behind_run, with_white}
use Rattle.tx_tm_content.specs.ContentCredits.{line_credit}

leaf_count : (s : List ℕ) → length (leaf_before s []) ≤ 1
leaf_count [] = omega arith
leaf_count (b ∷ s) = omega arith

pub line_paid : (ts : List WideTree) (s : List ℕ)
    → min 1 (length (ts ++ leaf_before s []) - 1) ≤ min 1 (length ts)
line_paid ts s = omega (arith, leaf_count s, length-append ts (leaf_before s []))

white_line : (s : Stage) (b : Block) (w : White) → line_credit (with_white s b w).now ≡ line_credit b.now
white_line Empty b w = refl
white_line Alone b w = refl
white_line Ordinary b w = refl

pub behind_credit : (b : Block) (r : Option White) → line_credit (behind_run b r).now ≡ line_credit b.now
behind_credit b None = refl
behind_credit b (Some w) = white_line b.stage b w
