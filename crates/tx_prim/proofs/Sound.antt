-- What is known to be right fails only where memory runs out.
use Rattle.std.proofs.Common.{◌≡◌, ℕ, ◌≤◌, List, [], ◌∷◌, ◌++◌, length, take, refl, sym, subst, ◌∙◌, arith}
use Rattle.std.proofs.lemmas.List.{append-nil, take_all}
use Rattle.tx_base.specs.Fronts.{IsLongestFront}
use Rattle.tx_tree.specs.Texts.{IsText, IsTextFault}
use Rattle.tx_tree.specs.Labels.{IsLabel, IsLabelFault}
use Rattle.tx_tree.specs.Limits.{IsWithinLimits, IsTreeFault}
use Rattle.tx_tree.specs.WideTree.{WideTree, node, forest}
use Rattle.tx_tree.specs.declared.texts.TextFault.{TextFault}
use Rattle.tx_tree.specs.declared.texts.TextFault.TheVariants.{TooLong, BadByte, BadSymbol, Memory as TextMemory}
use Rattle.tx_tree.specs.declared.faults.TreeFault.{TreeFault}
use Rattle.tx_tree.specs.declared.faults.TreeFault.TheVariants.{TooWide, TooDeep, TooBig, Memory as TreeMemory}
use Rattle.tx_tree.proofs.Children.{count-forest}

at_end : (P : List ℕ → Type 0) (bytes : List ℕ) (n : ℕ) → P bytes → IsLongestFront P bytes n → length bytes ≤ n
at_end P bytes n h front =
    front.longest (length bytes) (
      omega arith,
      ([], subst P (sym (append-nil (take (length bytes) bytes) ∙ take_all (length bytes) bytes (omega arith))) h),
    )

pub right_text : (bytes : List ℕ) (fault : TextFault) → IsText bytes → length bytes ≤ 1048575 → IsTextFault bytes fault
    → fault ≡ TextMemory
right_text bytes (TooLong n) h short f = absurd (omega (arith, f.0))
right_text bytes (BadByte n) h short f = let most = at_end IsText bytes n h f.1 in absurd (omega (arith, f.2, most))
right_text bytes (BadSymbol n) h short f =
    absurd (f.2 (subst IsText (sym (take_all n bytes (at_end IsText bytes n h f.1))) h))
right_text bytes TextMemory h short f = refl

pub right_node : (label : List ℕ) (ts : List WideTree) (fault : TreeFault) → IsWithinLimits (node label (forest ts))
    → IsTreeFault label ts fault → fault ≡ TreeMemory
right_node label ts (TooWide n) w f = absurd (omega (arith, w.arity, f.0, count-forest ts))
right_node label ts (TooDeep n) w f = absurd (omega (arith, w.depth, f.1))
right_node label ts (TooBig n) w f = absurd (omega (arith, w.size, f.2))
right_node label ts TreeMemory w f = refl

pub ruleset right = (right_text, right_node)
