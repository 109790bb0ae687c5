use Rattle.std.proofs.Common.{◌≡◌, map, drop}
use Rattle.tx_text.specs.Tables.{code_among}
use Rattle.tx_text.proofs.tables.char_among.Given as goal

abbrev pub invariant-loop-row : goal.invariant-loop-row
invariant-loop-row l =
    code_among (map (λ row. (row.0.now, row.1)) (drop l.row-index l.rows)) l.name ≡
    code_among (map (λ row. (row.0.now, row.1)) l.rows) l.name
