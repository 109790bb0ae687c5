use Rattle.tx_tm_read.proofs.Growths.{plain_is_text}
use Rattle.tx_tm_read.proofs.taking.take_part.Goals as goal

pub put_text-requires : goal.put_text-requires
put_text-requires g c = plain_is_text c.in-Plain.byte (rw c.in-Plain.is at c.requires)
