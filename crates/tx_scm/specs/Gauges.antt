-- What the program measures, as contracts see it.
use Rattle.std.specs.Prelude.{ℕ, List, reverse}
use Rattle.tx_scm.specs.declared.measures.Gauge as program
use Rattle.tx_scm.specs.Measuring.{Gauge}

-- the innermost first
abbrev pub counts_of : List ℕ → List ℕ
counts_of counts = reverse counts

abbrev pub gauge_of : program.Gauge → Gauge
gauge_of g =
    record {
      part = g.part;
      counts = counts_of g.counts.items;
      text = g.text;
      arity = g.arity;
      depth = g.depth;
      size = g.size;
    }
