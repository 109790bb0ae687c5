use Rattle.std.proofs.Common.{◌∷◌, ◌∙◌, sym, ap}
use Rattle.std.specs.Prelude.{decimal}
use Rattle.std.proofs.lemmas.List.Concat.{flat_map-append}
use Rattle.tx_tree.specs.PathSpelling.{numbers_text}
use Rattle.tx_print.proofs.Adding.{adds_then, adds_also}
use Rattle.tx_print.proofs.places.push_base.Goals as goal

pub returns : goal.returns
returns g c =
    adds_also (sym (flat_map-append (λ i. 47 ∷ decimal i) c.pieces.result.0.now
    c.pieces.result.1.now) ∙ ap numbers_text (sym c.pieces.ensures))
    (adds_then c.push_steps.ensures c.push_steps-2.ensures)
