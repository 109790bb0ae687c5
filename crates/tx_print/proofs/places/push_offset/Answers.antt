use Rattle.tx_print.proofs.places.push_offset.Goals as goal

pub returns : goal.returns
returns g c = c.push_numbered.ensures
