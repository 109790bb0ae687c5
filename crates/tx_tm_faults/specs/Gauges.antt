-- The state of measuring, as a state of the machine with measures.
use Rattle.std.specs.Prelude.{◌≡◌, List, map, reverse, Option, Some, None}
use Rattle.tx_tm_form.specs.declared.measures.ContentSums.{ContentSums}
use Rattle.tx_tm_form.specs.declared.measures.ContentSums.TheVariants as sums
use Rattle.tx_tm_form.specs.declared.measures.OpenSums.{OpenSums}
use Rattle.tx_tm_form.specs.Machine.{Bytewise, at, lost}
use Rattle.tx_tm_form.specs.Measures as machine
use Rattle.tx_tm_form.specs.Measures.{Gauged}
use Rattle.tx_tm_faults.specs.declared.opens.Before.{Before}
use Rattle.tx_tm_faults.specs.declared.opens.Before.TheVariants.{Argument, Block, Tags}
use Rattle.tx_tm_faults.specs.declared.opens.OpenGauge.{OpenGauge}
use Rattle.tx_tm_faults.specs.declared.measuring.Gauge.{Gauge}
use Rattle.tx_tm_faults.specs.declared.measuring.Meter.{Meter}
use Rattle.tx_tm_words.specs.Words.{lex_of}

abbrev pub sums_before : Before → ContentSums
sums_before (Argument p g) = sums.Argument p g
sums_before (Block b) = sums.Block b.value
sums_before (Tags s b) = sums.Tags s.value b.value

abbrev pub open_of : OpenGauge → OpenSums
open_of o = record { before = sums_before o.before; collects = o.collects; children = o.children }

-- the innermost first
abbrev pub opens_of : List OpenGauge → List OpenSums
opens_of os = map open_of (reverse os)

abbrev pub gauge_of : Gauge → machine.Gauge
gauge_of g = record { within = g.within; here = g.here; opens = opens_of g.opens.items }

abbrev pub meter_of : Meter → Bytewise Gauged
meter_of m = at (lex_of m.lexer) (record { behind_join = m.behind_join; gauge = gauge_of m.gauge })

-- this, or else the bytes are no words
abbrev pub IsMeter : Option Meter → Bytewise Gauged → Type 0
IsMeter None w = w ≡ lost
IsMeter (Some m) w = meter_of m ≡ w
