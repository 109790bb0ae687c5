use Rattle.tx_doc.specs.Buffers.{document_of}
use Rattle.tx_view_form.proofs.Located.{view_located}
use Rattle.tx_view_form.proofs.Placing.{position_there, stops_there}
use Rattle.tx_view_form.proofs.laws.place_law.Goals as goal

pub returns-clause-positions : goal.returns-clause-positions
returns-clause-positions c = λ width height row column v p h e.
    position_there (document_of c.args.buffers.now) v.units width row column p
    (view_located c.args.buffers.now width height v c.formed_law.ensures h) e

pub returns-clause-stops : goal.returns-clause-stops
returns-clause-stops c = λ width height v h.
    stops_there (document_of c.args.buffers.now) v.units
    (view_located c.args.buffers.now width height v c.formed_law.ensures h)
