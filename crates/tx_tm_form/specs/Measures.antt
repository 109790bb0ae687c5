-- The machine once more, with the measures of trees in place of the trees. It takes every token, also one that is no
-- token there.
use Rattle.std.specs.Prelude.{◌≡◌, ℕ, ◌+◌, max, Bool, true, false, ◌==◌, ◌&&◌}
use Rattle.std.specs.Prelude.{if◌then◌else◌, List, [], ◌∷◌, length, Option, Some, None}
use Rattle.tx_tree.specs.WideTree.{WideTree, forest, longest_text, widest, deepest, total_size}
use Rattle.tx_tm_form.specs.declared.bytes.White.{White}
use Rattle.tx_tm_form.specs.declared.bytes.White.TheVariants.{Break}
use Rattle.tx_tm_form.specs.declared.bytes.Escaped.{Escaped}
use Rattle.tx_tm_form.specs.declared.places.TagForm.{TagForm}
use Rattle.tx_tm_form.specs.declared.places.TagForm.TheVariants.{Short, Long, Middle, Closing}
use Rattle.tx_tm_form.specs.declared.places.TagPlace.{TagPlace}
use Rattle.tx_tm_form.specs.declared.places.TagPlace.TheVariants.{InShort, InHeader, InClosing}
use Rattle.tx_tm_form.specs.declared.places.Stage.{Stage}
use Rattle.tx_tm_form.specs.declared.places.Stage.TheVariants.{Empty, Alone, Ordinary}
use Rattle.tx_tm_form.specs.declared.measures.Sums.{Sums}
use Rattle.tx_tm_form.specs.declared.measures.LineSums.{LineSums}
use Rattle.tx_tm_form.specs.declared.measures.BlockSums.{BlockSums}
use Rattle.tx_tm_form.specs.declared.measures.ContentSums.{ContentSums}
use Rattle.tx_tm_form.specs.declared.measures.ContentSums.TheVariants.{Argument, Block, Tags}
use Rattle.tx_tm_form.specs.declared.measures.PartSums.{PartSums}
use Rattle.tx_tm_form.specs.declared.measures.PartSums.TheVariants.{Gap, Text, Tag}
use Rattle.tx_tm_form.specs.declared.measures.OpenSums.{OpenSums}
use Rattle.tx_tm_form.specs.declared.measures.Within.{Within}
use Rattle.tx_tm_form.specs.declared.measures.Within.TheVariants.{Parts, Symbol, Digits}
use Rattle.tx_tm_form.specs.Bytes.{escape_of, escaped_bytes, white_of}
use Rattle.tx_tm_form.specs.Tokens.{Token, white, join, plain, escape, raw, head, bar, close, is_dropped}
use Rattle.tx_tm_form.specs.Parts.{collection_label, same_bytes}
use Rattle.tx_tm_form.specs.Growing.{longer}
use Rattle.tx_tm_form.specs.Machine.{header_place, ready, Bytewise, at, lost}

-- ---- trees

-- the measures of these trees
abbrev pub sums_of : List WideTree → Sums
sums_of ts =
    record {
      count = length ts;
      text = longest_text (forest ts);
      arity = widest (forest ts);
      depth = deepest (forest ts);
      size = total_size (forest ts);
    }

abbrev pub no_sums : Sums
no_sums = record { count = 0; text = 0; arity = 0; depth = 0; size = 0 }

abbrev pub both : Sums → Sums → Sums
both a b =
    record {
      count = a.count + b.count;
      text = max a.text b.text;
      arity = max a.arity b.arity;
      depth = max a.depth b.depth;
      size = a.size + b.size;
    }

-- a leaf of so many bytes
abbrev pub leaf_sums : ℕ → Sums
leaf_sums n = record { count = 1; text = n; arity = 0; depth = 1; size = 1 + n }

-- a node with these children
abbrev pub node_sums : Sums → Sums
node_sums s = record { count = 1; text = s.text; arity = max s.count s.arity; depth = 1 + s.depth; size = 1 + s.size }

abbrev pub concat_sums : Sums → Sums
concat_sums s = if s.count == 0 then leaf_sums 0 else if s.count == 1 then s else node_sums s

-- ---- an argument, or a paragraph

abbrev pub line_so_far : Sums → ℕ → Bool → LineSums
line_so_far done n in_run = record { done = done; length = n; in_run = in_run }

abbrev pub no_line : LineSums
no_line = line_so_far no_sums 0 false

abbrev pub ended_line : LineSums → Sums
ended_line g = if g.length == 0 then g.done else both g.done (leaf_sums g.length)

abbrev pub line_sums : LineSums → Sums
line_sums g = concat_sums (ended_line g)

abbrev pub grow_line : LineSums → PartSums → LineSums
grow_line g (Gap w) = line_so_far g.done (if g.in_run then g.length else g.length + 1) true
grow_line g (Text n) = line_so_far g.done (g.length + n) false
grow_line g (Tag c s) = line_so_far (both (ended_line g) s) 0 false

-- ---- a block

abbrev pub block_sums_of : Sums → LineSums → Option White → Stage → BlockSums
block_sums_of full now run stage = record { full = full; now = now; run = run; stage = stage }

abbrev pub no_block : BlockSums
no_block = block_sums_of no_sums no_line None Empty

abbrev pub first_stage_of : PartSums → Stage
first_stage_of (Tag true s) = Alone
first_stage_of p = Ordinary

abbrev pub ended_sums : Option White → Sums → LineSums → Sums
ended_sums (Some Break) full now = both full (line_sums now)
ended_sums r full now = full

abbrev pub resumed_line : Option White → LineSums → LineSums
resumed_line None now = now
resumed_line (Some Break) now = no_line
resumed_line (Some w) now = grow_line now (Gap w)

abbrev pub white_block : Stage → BlockSums → White → BlockSums
white_block Empty b w = b
white_block s b w = block_sums_of b.full b.now (Some (longer b.run w)) b.stage

abbrev pub part_block : Stage → BlockSums → PartSums → BlockSums
part_block Empty b p = block_sums_of no_sums (grow_line no_line p) None (first_stage_of p)
part_block s b p = block_sums_of (ended_sums b.run b.full b.now) (grow_line (resumed_line b.run b.now) p) None Ordinary

abbrev pub widen_block : BlockSums → PartSums → BlockSums
widen_block b (Gap w) = white_block b.stage b w
widen_block b (Text n) = part_block b.stage b (Text n)
widen_block b (Tag c s) = part_block b.stage b (Tag c s)

abbrev pub block_sums_at : Stage → BlockSums → Sums
block_sums_at Empty b = node_sums (leaf_sums 0)
block_sums_at Alone b = line_sums b.now
block_sums_at Ordinary b = node_sums (both b.full (line_sums b.now))

abbrev pub block_sums : BlockSums → Sums
block_sums b = block_sums_at b.stage b

-- ---- either

abbrev pub put_sums : ContentSums → PartSums → ContentSums
put_sums (Argument p g) q = Argument p (grow_line g q)
put_sums (Block b) q = Block (widen_block b q)
put_sums (Tags s b) (Gap w) = Tags s (widen_block b (Gap w))
put_sums (Tags s b) (Tag c t) = Tags (both s t) (widen_block b (Tag c t))
put_sums (Tags s b) (Text n) = Block (widen_block b (Text n))

abbrev pub tag_place : ContentSums → Option TagPlace
tag_place (Argument p g) = Some p
tag_place _ = None

-- the numbers of an argument
abbrev pub argument_sums : ContentSums → Sums
argument_sums (Argument p g) = line_sums g
argument_sums _ = leaf_sums 0

-- the numbers of a block
abbrev pub body_sums : ContentSums → Sums
body_sums (Argument p g) = leaf_sums 0
body_sums (Block b) = block_sums b
body_sums (Tags s b) = block_sums b

-- a long tag with one block
abbrev pub long_sums : Sums → ContentSums → PartSums
long_sums children (Tags s b) = Tag true (node_sums s)
long_sums children c = Tag false (node_sums (both children (body_sums c)))

abbrev pub body_behind : Bool → Sums → ContentSums
body_behind collects children = if collects && children.count == 0 then Tags no_sums no_block else Block no_block

abbrev pub opening_sums : Option TagPlace → Bool → Sums → ContentSums
opening_sums (Some p) collects children = Argument p no_line
opening_sums None collects children = body_behind collects children

-- ---- tokens

pub record Gauge : Type 0 where
  pub within : Within
  pub here : ContentSums
  pub opens : List OpenSums

abbrev pub gauge_between : ContentSums → List OpenSums → Gauge
gauge_between here os = record { within = Parts; here = here; opens = os }

abbrev pub open_sums : ContentSums → Bool → Sums → OpenSums
open_sums before collects children = record { before = before; collects = collects; children = children }

abbrev pub in_open : Option TagPlace → OpenSums → List OpenSums → Gauge
in_open p o os = gauge_between (opening_sums p o.collects o.children) (o ∷ os)

abbrev pub with_child_sums : OpenSums → Sums → OpenSums
with_child_sums o s = open_sums o.before o.collects (both o.children s)

abbrev pub closed_open : OpenSums → List OpenSums → Gauge
closed_open o os = gauge_between (put_sums o.before (Tag false (node_sums o.children))) os

abbrev pub bar_gauge : ContentSums → List OpenSums → Gauge
bar_gauge (Argument p g) (o ∷ os) = in_open (Some p) (with_child_sums o (line_sums g)) os
bar_gauge here os = gauge_between here os

abbrev pub close_gauge : ContentSums → List OpenSums → Gauge
close_gauge (Argument InHeader g) (o ∷ os) = in_open None (with_child_sums o (line_sums g)) os
close_gauge (Argument p g) (o ∷ os) = closed_open (with_child_sums o (line_sums g)) os
close_gauge here os = gauge_between here os

abbrev pub next_gauge : Option TagPlace → ContentSums → List OpenSums → Gauge
next_gauge p here [] = gauge_between here []
next_gauge p here (o ∷ os) = in_open p (with_child_sums o (body_sums here)) os

abbrev pub last_gauge : ContentSums → List OpenSums → Gauge
last_gauge here [] = gauge_between here []
last_gauge here (o ∷ os) = gauge_between (put_sums o.before (long_sums o.children here)) os

abbrev pub begun_gauge : TagForm → Bool → List ℕ → ContentSums → List OpenSums → Gauge
begun_gauge Short true label here os =
    in_open (Some InShort) (open_sums here (same_bytes label collection_label) no_sums) os
begun_gauge Short false label here os = gauge_between (put_sums here (Tag false (node_sums no_sums))) os
begun_gauge Long more label here os =
    in_open (header_place more) (open_sums here (same_bytes label collection_label) no_sums) os
begun_gauge Middle more label here os = next_gauge (header_place more) here os
begun_gauge Closing true label here os = next_gauge (Some InClosing) here os
begun_gauge Closing false label here os = last_gauge here os

abbrev pub escape_gauge : Option Escaped → ContentSums → List OpenSums → Gauge
escape_gauge (Some e) here os = gauge_between (put_sums here (Text (length (escaped_bytes e)))) os
escape_gauge None here os = record { within = Symbol 0; here = here; opens = os }

abbrev pub part_gauge : ContentSums → List OpenSums → Token → Gauge
part_gauge here os (white b) = gauge_between (put_sums here (Gap (white_of b))) os
part_gauge here os (join r) = gauge_between here os
part_gauge here os (plain b) = gauge_between (put_sums here (Text 1)) os
part_gauge here os (escape b) = escape_gauge (escape_of b) here os
part_gauge here os raw = record { within = Digits 0; here = here; opens = os }
part_gauge here os (head form label more) = begun_gauge form more label here os
part_gauge here os bar = bar_gauge here os
part_gauge here os close = close_gauge here os

abbrev pub name_gauge : Bool → ℕ → ContentSums → List OpenSums → Gauge
name_gauge true n here os = gauge_between (put_sums here (Text (n + 2))) os
name_gauge false n here os = record { within = Symbol (n + 1); here = here; opens = os }

abbrev pub symbol_gauge : ℕ → ContentSums → List OpenSums → Token → Gauge
symbol_gauge n here os (escape b) = name_gauge (b == 62) n here os
symbol_gauge n here os t = record { within = Symbol (n + 1); here = here; opens = os }

abbrev pub digit_gauge : ℕ → ContentSums → List OpenSums → Token → Gauge
digit_gauge n here os close = gauge_between (put_sums here (Tag false (node_sums (leaf_sums n)))) os
digit_gauge n here os t = record { within = Digits (n + 1); here = here; opens = os }

abbrev pub feed_in : Within → ContentSums → List OpenSums → Token → Gauge
feed_in Parts here os t = part_gauge here os t
feed_in (Symbol n) here os t = symbol_gauge n here os t
feed_in (Digits n) here os t = digit_gauge n here os t

abbrev pub feed_gauge : Gauge → Token → Gauge
feed_gauge g t = feed_in g.within g.here g.opens t

pub record Gauged : Type 0 where
  pub behind_join : Bool
  pub gauge : Gauge

abbrev pub keep_gauge : Gauged → Token → Gauged
keep_gauge k t =
    if is_dropped k.behind_join t
    then record { behind_join = true; gauge = k.gauge }
    else record { behind_join = false; gauge = feed_gauge k.gauge t }

abbrev pub start_gauge : Bytewise Gauged
start_gauge = at ready (record { behind_join = false; gauge = gauge_between (Block no_block) [] })

-- where the machine is after bytes that spell this tree
abbrev pub IsMeasured : Bytewise Gauged → WideTree → Type 0
IsMeasured (at q k) t = body_sums k.gauge.here ≡ sums_of (t ∷ [])
IsMeasured lost t = ⊥
