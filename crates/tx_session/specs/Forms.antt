-- Bytes that spell one tree or none, and the file of a tree, in each of the two syntaxes.
use Rattle.std.specs.Prelude.{◌≡◌, ℕ, Bool, true, List, if◌then◌else◌, nat_le, length}
use Rattle.tx_tree.specs.WideTree.{WideTree}
use Rattle.tx_tree.specs.Limits.{IsWithinLimits}
use Rattle.tx_scm.specs.Canonical.{scheme_text}
use Rattle.tx_tm_write.specs.Canonical.{tm_text}
use Rattle.tx_tm_write.specs.Shapes.{is_block}
use Rattle.tx_doc.specs.declared.forms.Form.{Form}
use Rattle.tx_doc.specs.declared.forms.Form.TheVariants.{Tm, Scheme}
use Rattle.tx_open.specs.Forms.{SpellsIn}
use Rattle.tx_outside.specs.declared.file_store.TheConstants.{MOST_FILE}
use Rattle.tx_print.specs.Lines.{line}

-- no tree within the limits is spelled
abbrev pub SpellsNoTree : Form → List ℕ → Type 0
SpellsNoTree form bytes = (t : WideTree) → IsWithinLimits t → SpellsIn form bytes t → ⊥

-- the bytes spell this tree and no other
abbrev pub SpellsAloneIn : Form → List ℕ → WideTree → Type 0
SpellsAloneIn form bytes t = SpellsIn form bytes t × ((u : WideTree) → SpellsIn form bytes u → u ≡ t)

-- every tree has a text in the Scheme syntax, and a block has one in TM
abbrev pub has_text_in : Form → WideTree → Bool
has_text_in Scheme t = true
has_text_in Tm t = is_block t

abbrev pub form_text : Form → WideTree → List ℕ
form_text Scheme t = scheme_text t
form_text Tm t = tm_text t

-- The result of saving a tree: the tree has no text in this form, or the file would have so many bytes, which are too
-- many, or it has these bytes.
pub data Saving : Type 0 where
  no_form : Saving
  file_long : (count : ℕ) → Saving
  writes : (bytes : List ℕ) → Saving

abbrev pub fitting : List ℕ → Saving
fitting bytes = if nat_le (length bytes) MOST_FILE then writes bytes else file_long (length bytes)

-- a file is the canonical text and one byte 10
abbrev pub saving : Form → WideTree → Saving
saving form t = if has_text_in form t then fitting (line (form_text form t)) else no_form
