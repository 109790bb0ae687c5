-- What the bytes of a file spell, in each of the two syntaxes.
use Rattle.std.specs.Prelude.{ℕ, List}
use Rattle.tx_tree.specs.WideTree.{WideTree}
use Rattle.tx_tree.specs.declared.faults.ReadFault.{ReadFault}
use Rattle.tx_scm.specs.Spelling.{Spells as SpellsScheme}
use Rattle.tx_scm.specs.Faults.{IsSchemeFault}
use Rattle.tx_tm_form.specs.Forms.{Spells as SpellsTm}
use Rattle.tx_tm_form.specs.Faults.{IsTmFault}
use Rattle.tx_doc.specs.declared.forms.Form.{Form}
use Rattle.tx_doc.specs.declared.forms.Form.TheVariants.{Tm, Scheme}

abbrev pub SpellsIn : Form → List ℕ → WideTree → Type 0
SpellsIn Scheme bytes t = SpellsScheme bytes t
SpellsIn Tm bytes t = SpellsTm bytes t

-- why the bytes spell no tree within the limits
abbrev pub IsFaultIn : Form → List ℕ → ReadFault → Type 0
IsFaultIn Scheme bytes fault = IsSchemeFault bytes fault
IsFaultIn Tm bytes fault = IsTmFault bytes fault
