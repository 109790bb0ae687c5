use Rattle.std.proofs.Common.{◌≡◌, drop}
use Rattle.tx_keys.specs.Typing.{byte_among}
use Rattle.tx_keys.proofs.typing.byte_among.Given as goal

abbrev pub invariant-loop-row : goal.invariant-loop-row
invariant-loop-row l = byte_among (drop l.row-index l.rows) l.code ≡ byte_among l.rows l.code
