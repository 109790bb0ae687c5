-- How the steps of a refresh are printed.
use Rattle.std.specs.Prelude.{ℕ, List, ◌++◌, decimal, codes}
use Rattle.tx_print.specs.Lines.{line}

abbrev pub work_reply : ℕ → List ℕ
work_reply n = line (codes "work " ++ decimal n)
