use Rattle.tx_view.specs.Units.{unit_views}
use Rattle.tx_doc.specs.Buffers.{document_of}
use Rattle.tx_view.proofs.Apart.{units_apart}
use Rattle.tx_view.proofs.around.apart_law.Goals as goal

pub returns : goal.returns
returns c =
    units_apart c.args.buffers.now c.args.width (unit_views c.args.all.now)
    (c.body_laws.ensures.apart (document_of c.args.buffers.now)) c.requires
