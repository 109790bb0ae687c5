use Rattle.tx_layout.proofs.Room.{shape_room}
use Rattle.tx_layout.proofs.layout.within_page.Goals as goal

pub returns : goal.returns
returns c = λ p width lines. shape_room p width lines
