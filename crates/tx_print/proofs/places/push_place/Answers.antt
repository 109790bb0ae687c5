use Rattle.std.proofs.Common.{◌∷◌, ◌++◌, ◌∙◌, ap}
use Rattle.std.specs.Prelude.{decimal}
use Rattle.tx_tree.specs.PathSpelling.{numbers_text}
use Rattle.tx_print.specs.Lines.{line}
use Rattle.tx_print.proofs.Adding.{adds_then, adds_also}
use Rattle.tx_print.proofs.Wording.{place_words}
use Rattle.tx_print.proofs.places.push_place.Goals as goal

pub returns : goal.returns
returns g c =
    adds_also (ap (λ ps. numbers_text ps ++ line (47 ∷ decimal c.args.place.now.offset)) c.steps.ensures
    ∙ place_words c.args.place.now.path c.args.place.now.offset)
    (adds_then c.push_steps.ensures c.push_offset.ensures)
