use Rattle.tx_units.proofs.Sound.{undefined_style_text, error_label}
use Rattle.tx_units.proofs.styles.absent_unit.Goals as goal

pub words-requires-clause-text : goal.words-requires-clause-text
words-requires-clause-text g c = undefined_style_text

pub label-requires : goal.label-requires
label-requires g c = error_label
