use Rattle.std.proofs.Common.{◌++◌, ap, ◌∙◌, append_assoc, take, length}
use Rattle.std.specs.Prelude.{codes, decimal}
use Rattle.std.specs.List.{flat_map}
use Rattle.tx_view_form.specs.Errors.{errors_of}
use Rattle.tx_print.specs.Lines.{line}
use Rattle.tx_print.specs.Errors.{error_text}
use Rattle.tx_print.proofs.Adding.{adds_then, adds_also}
use Rattle.tx_print.proofs.Ranges.{take_text}
use Rattle.tx_print.proofs.errors.push_errors.Goals as goal

pub loop-k-preserved : goal.loop-k-preserved
loop-k-preserved g c =
    let errors = errors_of c.args.view.now.shown.units in
    let head = line (codes "errors " ++ decimal (length errors)) in
    adds_also (append_assoc head (flat_map error_text (take c.loop-k.k errors)) _
    ∙ ap (λ t. head ++ t) (take_text error_text errors c.loop-k.k))
    (adds_then c.loop-k.invariant c.push_numbered_error.ensures)
