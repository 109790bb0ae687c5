use Rattle.tx_moves.proofs.Seeing.{stop_row, covered_stop, no_stop}
use Rattle.tx_moves.proofs.Beyond.{start_drawn, stop_after}
use Rattle.tx_moves.proofs.Stopping.{stop_among}
use Rattle.tx_moves.proofs.stops.stop_laws.Goals as goal

pub returns-clause-up_to : goal.returns-clause-up_to
returns-clause-up_to c = stop_row

pub returns-clause-covered : goal.returns-clause-covered
returns-clause-covered c = λ xs r goal path line item m row e has. covered_stop xs r path line row goal item m e has

pub returns-clause-none : goal.returns-clause-none
returns-clause-none c = λ xs r goal path line row none. no_stop xs r path line row goal none

pub returns-clause-after : goal.returns-clause-after
returns-clause-after c = stop_after

pub returns-clause-stops : goal.returns-clause-stops
returns-clause-stops c = stop_among

pub returns-clause-starts : goal.returns-clause-starts
returns-clause-starts c = start_drawn
