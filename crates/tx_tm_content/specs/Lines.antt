-- An argument or a paragraph of the program.
use Rattle.std.specs.Prelude.{◌≡◌, ◌≤◌, ℕ, Bool, List, length, Option, Some, None, refl}
use Rattle.std.specs.Coded.{Coded, code_by, coded×, coded_ℕ, coded_bool, coded_list}
use Rattle.tx_tree.specs.declared.TheConstants.{MOST_TEXT}
use Rattle.tx_tree.specs.Texts.{IsText}
use Rattle.tx_tree.specs.WideTree.{WideTree, coded_WideTree}
use Rattle.tx_tree.specs.Limits.{IsWithinLimits}
use Rattle.tx_tm_form.specs.Growing.{Inline}
use Rattle.tx_tm_content.specs.ContentFits.{LineFits}

abbrev pub inline_code : Coded Inline
inline_code =
    code_by (List WideTree × (List ℕ × Bool))
    (coded× (coded_list coded_WideTree) (coded× (coded_list coded_ℕ) coded_bool)) (λ g. (g.done, (g.bytes, g.in_run)))
    (λ p. record { done = p.0; bytes = p.1.0; in_run = p.1.1 }) (λ _. refl)

-- the bytes after the last tag are a text within the limit
pub record IsLineText (bytes : List ℕ) : Type 0 where
  pub text : IsText bytes
  pub short : length bytes ≤ MOST_TEXT

-- made, or else no tree within the limits
abbrev pub IsMade : Option WideTree → WideTree → Type 0
IsMade None t = IsWithinLimits t → ⊥
IsMade (Some u) t = u ≡ t

-- grown, or else it leads to no tree within the limits
abbrev pub IsLine : Option Inline → Inline → Type 0
IsLine None g = (around : ℕ) → LineFits around g → ⊥
IsLine (Some h) g = h ≡ g
