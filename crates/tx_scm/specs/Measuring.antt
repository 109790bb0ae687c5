-- Measuring bytes that spell a tree, byte by byte. Only private clauses cite it.
use Rattle.std.specs.Prelude.{◌≡◌, ℕ, ◌+◌, ◌<◌, max, List, [], ◌∷◌, length}
use Rattle.std.specs.List.{AllByRecursion}
use Rattle.tx_tree.specs.WideTree.{WideTree, text_length_of, arity_of, depth_of, size_of}
use Rattle.tx_scm.specs.declared.kinds.Kind.{Kind}
use Rattle.tx_scm.specs.declared.kinds.Kind.TheVariants.{Opens, Closes, Quote, Backslash}
use Rattle.tx_scm.specs.declared.measures.Part.{Part}
use Rattle.tx_scm.specs.declared.measures.Part.TheVariants.{Outside, Inside, Escaped}
use Rattle.tx_scm.specs.Kinds.{kind_of}

-- What was measured: the greatest text length, arity and depth, the size, and how many children each open bracket has
-- so far, the innermost first.
pub record Gauge : Type 0 where
  pub part : Part
  pub counts : List ℕ
  pub text : ℕ
  pub arity : ℕ
  pub depth : ℕ
  pub size : ℕ

-- a child more in the innermost bracket
abbrev pub counted : List ℕ → List ℕ
counted [] = []
counted (n ∷ counts) = (n + 1) ∷ counts

-- a tree begins
abbrev pub gauge_begun : Gauge → Part → List ℕ → Gauge
gauge_begun g part counts =
    record {
      part = part;
      counts = counts;
      text = g.text;
      arity = g.arity;
      depth = max g.depth (length g.counts + 1);
      size = g.size + 1;
    }

-- the innermost bracket closes
abbrev pub gauge_closed : Gauge → List ℕ → Gauge
gauge_closed g [] = g
gauge_closed g (n ∷ counts) =
    record {
      part = g.part;
      counts = counted counts;
      text = g.text;
      arity = max g.arity n;
      depth = g.depth;
      size = g.size;
    }

unfoldable pub outside_step : Gauge → Kind → Gauge
outside_step g Opens = gauge_begun g g.part (0 ∷ g.counts)
outside_step g Quote = gauge_begun g (Inside 0) g.counts
outside_step g Closes = gauge_closed g g.counts
outside_step g _ = g

-- one more byte of a text that has so many
abbrev pub gauge_longer : Gauge → ℕ → Gauge
gauge_longer g n =
    record {
      part = Inside (n + 1);
      counts = g.counts;
      text = g.text;
      arity = g.arity;
      depth = g.depth;
      size = g.size + 1;
    }

unfoldable pub inside_step : Gauge → ℕ → Kind → Gauge
inside_step g n Quote =
    record {
      part = Outside;
      counts = counted g.counts;
      text = max g.text n;
      arity = g.arity;
      depth = g.depth;
      size = g.size;
    }
inside_step g n Backslash =
    record { part = Escaped n; counts = g.counts; text = g.text; arity = g.arity; depth = g.depth; size = g.size }
inside_step g n _ = gauge_longer g n

abbrev pub step_in : Part → Gauge → Kind → Gauge
step_in Outside g kind = outside_step g kind
step_in (Inside n) g kind = inside_step g n kind
step_in (Escaped n) g kind = gauge_longer g n

abbrev pub step : Gauge → Kind → Gauge
step g kind = step_in g.part g kind

-- the gauge after more bytes
abbrev pub measured : Gauge → List ℕ → Gauge
measured g [] = g
measured g (b ∷ bytes) = measured (step g (kind_of b)) bytes

abbrev pub empty_gauge : Gauge
empty_gauge = record { part = Outside; counts = []; text = 0; arity = 0; depth = 0; size = 0 }

-- the numbers are those of the tree
pub record Measures (g : Gauge) (t : WideTree) : Type 0 where
  pub text : g.text ≡ text_length_of t
  pub arity : g.arity ≡ arity_of t
  pub depth : g.depth ≡ depth_of t
  pub size : g.size ≡ size_of t

-- ---- numbers that can be counted on

abbrev pub AreCountsBelow : ℕ → List ℕ → Type 0
AreCountsBelow bound counts = AllByRecursion (λ n. n < bound) counts

abbrev pub IsShortPart : ℕ → Part → Type 0
IsShortPart bound Outside = Unit {0}
IsShortPart bound (Inside n) = n < bound
IsShortPart bound (Escaped n) = n < bound

pub record IsSmallGauge (bound : ℕ) (g : Gauge) : Type 0 where
  pub part : IsShortPart bound g.part
  pub counts : AreCountsBelow bound g.counts
  pub size : g.size < bound
