-- What is counted of a slice fits 64 bits: its bounds rise by at most 3 for each 2 bytes.
use Rattle.std.proofs.Common.{◌≡◌, ℕ, zero, suc, ◌+◌, ◌*◌, ◌^◌, ◌<◌, ◌≤◌, Bool, true, false, ◌==◌, ◌&&◌, if◌then◌else◌}
use Rattle.std.proofs.Common.{List, [], ◌∷◌, ◌++◌, length, take, nat_lt, nat_le, Option, Some, None, refl, ap}
use Rattle.std.proofs.Common.{subst, ◌∙◌, map, arith}
use Rattle.std.proofs.lemmas.List.{length-take, reverse-append}
use Rattle.tx_tree.specs.declared.TheConstants.{MOST_LABEL}
use Rattle.tx_tm_form.specs.declared.bytes.ByteKind.{ByteKind}
use Rattle.tx_tm_form.specs.declared.bytes.ByteKind.TheVariants.{Name, Blank, Newline, Return, Less, Greater, Bar}
use Rattle.tx_tm_form.specs.declared.bytes.ByteKind.TheVariants.{Backslash, Hash, Slash, Other}
use Rattle.tx_tm_form.specs.declared.bytes.White.{White}
use Rattle.tx_tm_form.specs.declared.bytes.White.TheVariants.{Spaces, Line, Break}
use Rattle.tx_tm_form.specs.declared.bytes.Escaped.{Escaped}
use Rattle.tx_tm_form.specs.declared.bytes.Escaped.TheVariants.{Mark, Byte}
use Rattle.tx_tm_form.specs.declared.places.TagForm.{TagForm}
use Rattle.tx_tm_form.specs.declared.places.TagForm.TheVariants.{Short, Long, Middle, Closing}
use Rattle.tx_tm_form.specs.declared.places.TagPlace.{TagPlace}
use Rattle.tx_tm_form.specs.declared.places.TagPlace.TheVariants.{InShort, InHeader, InClosing}
use Rattle.tx_tm_form.specs.declared.places.Stage.{Stage}
use Rattle.tx_tm_form.specs.declared.places.Stage.TheVariants.{Empty, Alone, Ordinary}
use Rattle.tx_tm_form.specs.declared.measures.Sums.{Sums}
use Rattle.tx_tm_form.specs.declared.measures.LineSums.{LineSums}
use Rattle.tx_tm_form.specs.declared.measures.BlockSums.{BlockSums}
use Rattle.tx_tm_form.specs.declared.measures.ContentSums.{ContentSums}
use Rattle.tx_tm_form.specs.declared.measures.ContentSums.TheVariants as of
use Rattle.tx_tm_form.specs.declared.measures.PartSums.{PartSums}
use Rattle.tx_tm_form.specs.declared.measures.PartSums.TheVariants.{Gap, Text, Tag}
use Rattle.tx_tm_form.specs.declared.measures.OpenSums.{OpenSums}
use Rattle.tx_tm_form.specs.declared.measures.Within.{Within}
use Rattle.tx_tm_form.specs.declared.measures.Within.TheVariants.{Parts, Symbol, Digits}
use Rattle.tx_tm_form.specs.Measures.{no_sums, both, leaf_sums, node_sums, concat_sums, no_line, ended_line, line_sums}
use Rattle.tx_tm_form.specs.Measures.{grow_line, no_block, ended_sums, resumed_line, white_block, part_block}
use Rattle.tx_tm_form.specs.Measures.{widen_block, block_sums_at, block_sums, put_sums, body_sums, long_sums}
use Rattle.tx_tm_form.specs.Measures.{opening_sums}
use Rattle.tx_tm_form.specs.Measures.{Gauge, with_child_sums, closed_open, bar_gauge, close_gauge, next_gauge}
use Rattle.tx_tm_form.specs.Measures.{last_gauge}
use Rattle.tx_tm_form.specs.Measures.{begun_gauge, escape_gauge, part_gauge, name_gauge, symbol_gauge, digit_gauge}
use Rattle.tx_tm_form.specs.Measures.{feed_in, feed_gauge, Gauged, keep_gauge, start_gauge}
use Rattle.tx_tm_form.specs.Bytes.{kind_of, escape_of, white_of, can_escape}
use Rattle.tx_tm_form.specs.Tokens.{Token, white, join, plain, escape, raw, head, bar, close, is_dropped}
use Rattle.tx_tm_form.specs.Parts.{collection_label, same_bytes}
use Rattle.tx_tm_form.specs.Machine.{header_place, Lex, ready, slashed, returned, angled, labelled, Lexed, within, done}
use Rattle.tx_tm_form.specs.Machine.{bad, if_good, lex_ready, lex_slashed, lex_returned, lex_angled, lex_labelled, lex}
use Rattle.tx_tm_form.specs.Machine.{Bytewise, at, lost, after_lexed, step, run}
use Rattle.tx_tm_faults.specs.declared.measuring.Meter.{Meter}
use Rattle.tx_tm_faults.specs.declared.opens.OpenGauge.{OpenGauge}
use Rattle.tx_tm_faults.specs.Gauges.{open_of, opens_of, gauge_of, meter_of}
use Rattle.tx_tm_faults.specs.Bounds.{IsSmallCount, most_of, most_in_line, most_in_part, of_run, most_in_block}
use Rattle.tx_tm_faults.specs.Bounds.{most_in_content, most_in_open, most_in_opens, most_within, most_at, most_in}

-- ---- trees

both_most : (a b : Sums) → most_of (both a b) ≤ most_of a + most_of b
both_most a b = omega arith

pub both_small : (a b s : Sums) → s ≡ both a b → most_of s ≤ most_of a + most_of b
both_small a b s e = rw e (both_most a b)

leaf_most : (n : ℕ) → most_of (leaf_sums n) ≤ n + 1
leaf_most n = omega arith

node_most : (s : Sums) → most_of (node_sums s) ≤ most_of s + 1
node_most s = omega arith

not_zero : (n : ℕ) (x y : Sums) → 1 ≤ n → y ≡ (if n == 0 then x else y)
not_zero n x y h = grind arith

more_than_one : (n : ℕ) (x y z : Sums) → 2 ≤ n → z ≡ (if n == 0 then x else if n == 1 then y else z)
more_than_one n x y z h = grind arith

-- what holds of each branch of a test holds of its result
by_zero : (P : Sums → Type 0) (n : ℕ) (x y : Sums) → (n ≡ 0 → P x) → (1 ≤ n → P y) → P (if n == 0 then x else y)
by_zero P zero x y f g = f refl
by_zero P (suc n) x y f g = subst P (not_zero (suc n) x y (omega arith)) (g (omega arith))

by_one : (P : Sums → Type 0) (n : ℕ) (x y z : Sums) → (n ≡ 0 → P x) → (n ≡ 1 → P y) → (2 ≤ n → P z)
    → P (if n == 0 then x else if n == 1 then y else z)
by_one P zero x y z f g h = f refl
by_one P (suc zero) x y z f g h = g refl
by_one P (suc (suc n)) x y z f g h = subst P (more_than_one (suc (suc n)) x y z (omega arith)) (h (omega arith))

concat_bound : (s : Sums) (m : ℕ) → 1 ≤ m → (s.count ≡ 1 → most_of s ≤ m) → (2 ≤ s.count → most_of s + 1 ≤ m)
    → most_of (concat_sums s) ≤ m
concat_bound s m h f g =
    by_one (λ x. most_of x ≤ m) s.count (leaf_sums 0) s (node_sums s) (λ e. omega (arith, h)) f
    (λ e. omega (arith, g e))

-- ---- lines

pub ended_most : (g : LineSums) → most_of (ended_line g) ≤ most_of g.done + g.length + 1
ended_most g =
    by_zero (λ s. most_of s ≤ most_of g.done + g.length + 1) g.length g.done (both g.done (leaf_sums g.length))
    (λ e. omega arith) (λ e. omega arith)

pub line_most : (g : LineSums) → most_of (line_sums g) ≤ most_in_line g
line_most g =
    by_zero (λ s. most_of (concat_sums s) ≤ most_in_line g) g.length g.done (both g.done (leaf_sums g.length))
    (λ z. concat_bound g.done (most_in_line g) (omega arith) (λ e. omega arith) (λ e. omega arith))
    (λ z. concat_bound (both g.done (leaf_sums g.length)) (most_in_line g) (omega arith) (λ e. omega arith)
    (λ e. omega arith))

gap_most : (r : Bool) (n : ℕ) → (if r then n else n + 1) ≤ n + 1
gap_most true n = omega arith
gap_most false n = omega arith

pub grow_most : (g : LineSums) (p : PartSums) → most_in_line (grow_line g p) ≤ most_in_line g + most_in_part p
grow_most g (Gap w) = omega (arith, gap_most g.in_run g.length)
grow_most g (Text n) = omega arith
grow_most g (Tag c s) = omega (arith, ended_most g, both_most (ended_line g) s)

-- ---- blocks

pub later_most : (r : Option White) (full : Sums) (now : LineSums) (p : PartSums)
    → most_of (ended_sums r full now) + most_in_line (grow_line (resumed_line r now) p) ≤ most_of full + most_in_line
    now + of_run r + most_in_part p
later_most None full now p = omega (arith, grow_most now p)
later_most (Some Break) full now p = omega (arith, both_most full (line_sums now), line_most now, grow_most no_line p)
later_most (Some Spaces) full now p =
    omega (arith, grow_most (grow_line now (Gap Spaces)) p, grow_most now (Gap Spaces))
later_most (Some Line) full now p = omega (arith, grow_most (grow_line now (Gap Line)) p, grow_most now (Gap Line))

pub resumed_most : (r : Option White) (now line : LineSums) → line ≡ resumed_line r now
    → most_in_line line ≤ most_in_line now + of_run r
resumed_most None now line e = rw e (omega arith)
resumed_most (Some Break) now line e = rw e (omega arith)
resumed_most (Some Spaces) now line e = rw e (omega (arith, grow_most now (Gap Spaces)))
resumed_most (Some Line) now line e = rw e (omega (arith, grow_most now (Gap Line)))

part_most : (s : Stage) (b : BlockSums) (p : PartSums)
    → most_in_block (part_block s b p) ≤ most_in_block b + most_in_part p
part_most Empty b p = omega (arith, grow_most no_line p)
part_most Alone b p = omega (arith, later_most b.run b.full b.now p)
part_most Ordinary b p = omega (arith, later_most b.run b.full b.now p)

white_most : (s : Stage) (b : BlockSums) (w : White) → most_in_block (white_block s b w) ≤ most_in_block b + 1
white_most Empty b w = omega arith
white_most Alone b w = omega arith
white_most Ordinary b w = omega arith

widen_most : (b : BlockSums) (p : PartSums) → most_in_block (widen_block b p) ≤ most_in_block b + most_in_part p
widen_most b (Gap w) = white_most b.stage b w
widen_most b (Text n) = part_most b.stage b (Text n)
widen_most b (Tag c s) = part_most b.stage b (Tag c s)

block_at_most : (s : Stage) (b : BlockSums) → most_of (block_sums_at s b) ≤ most_in_block b
block_at_most Empty b = omega arith
block_at_most Alone b = omega (arith, line_most b.now)
block_at_most Ordinary b =
    omega (arith, line_most b.now, node_most (both b.full (line_sums b.now)), both_most b.full (line_sums b.now))

block_most : (b : BlockSums) → most_of (block_sums b) ≤ most_in_block b
block_most b = block_at_most b.stage b

-- ---- content

pub put_most : (c : ContentSums) (p : PartSums) → most_in_content (put_sums c p) ≤ most_in_content c + most_in_part p
put_most (of.Argument q g) p = omega (arith, grow_most g p)
put_most (of.Block b) p = widen_most b p
put_most (of.Tags s b) (Gap w) = omega (arith, widen_most b (Gap w))
put_most (of.Tags s b) (Text n) = omega (arith, widen_most b (Text n))
put_most (of.Tags s b) (Tag c t) = omega (arith, widen_most b (Tag c t), both_most s t)

pub body_most : (c : ContentSums) → most_of (body_sums c) ≤ most_in_content c
body_most (of.Argument p g) = omega arith
body_most (of.Block b) = block_most b
body_most (of.Tags s b) = omega (arith, block_most b)

pub body_small : (c : ContentSums) (s : Sums) → s ≡ body_sums c → most_of s ≤ most_in_content c
body_small c s e = rw e (body_most c)

long_most : (children : Sums) (c : ContentSums)
    → most_in_part (long_sums children c) ≤ most_of children + most_in_content c + 3
long_most children (of.Argument p g) = omega arith
long_most children (of.Block b) =
    omega (arith, block_most b, both_most children (block_sums b), node_most (both children (block_sums b)))
long_most children (of.Tags s b) = omega (arith, node_most s)

chosen_most : (c : Bool) → most_in_content (if c then of.Tags no_sums no_block else of.Block no_block) ≤ 2
chosen_most true = omega arith
chosen_most false = omega arith

opening_most : (p : Option TagPlace) (collects : Bool) (s : Sums) → most_in_content (opening_sums p collects s) ≤ 2
opening_most (Some InHeader) collects s = omega arith
opening_most (Some InShort) collects s = omega arith
opening_most (Some InClosing) collects s = omega arith
opening_most None collects s = chosen_most (collects && s.count == 0)

-- ---- tokens

-- what a token adds at most
abbrev cost : Token → ℕ
cost (head form label more) = 4
cost raw = 3
cost (escape b) = 2
cost t = 1

bar_most : (here : ContentSums) (os : List OpenSums) → most_in (bar_gauge here os) ≤ most_at here os + 1
bar_most (of.Argument p g) [] = omega arith
bar_most (of.Argument p g) (o ∷ os) = omega (arith, both_most o.children (line_sums g), line_most g)
bar_most (of.Block b) os = omega arith
bar_most (of.Tags s b) os = omega arith

closed_most : (o : OpenSums) (os : List OpenSums) → most_in (closed_open o os) ≤ most_in_opens (o ∷ os) + 1
closed_most o os = omega (arith, put_most o.before (Tag false (node_sums o.children)), node_most o.children)

closed_with : (o : OpenSums) (g : LineSums) (os : List OpenSums)
    → most_in (closed_open (with_child_sums o (line_sums g)) os) ≤ most_in_line g + most_in_opens (o ∷ os) + 1
closed_with o g os =
    omega (arith, closed_most (with_child_sums o (line_sums g)) os, both_most o.children (line_sums g), line_most g)

close_most : (here : ContentSums) (os : List OpenSums) → most_in (close_gauge here os) ≤ most_at here os + 1
close_most (of.Argument InHeader g) [] = omega arith
close_most (of.Argument InShort g) [] = omega arith
close_most (of.Argument InClosing g) [] = omega arith
close_most (of.Argument InHeader g) (o ∷ os) =
    omega (
      arith,
      both_most o.children (line_sums g),
      line_most g,
      opening_most None o.collects (both o.children (line_sums g)),
    )
close_most (of.Argument InShort g) (o ∷ os) = omega (arith, closed_with o g os)
close_most (of.Argument InClosing g) (o ∷ os) = omega (arith, closed_with o g os)
close_most (of.Block b) os = omega arith
close_most (of.Tags s b) os = omega arith

next_most : (p : Option TagPlace) (here : ContentSums) (os : List OpenSums)
    → most_in (next_gauge p here os) ≤ most_at here os + 2
next_most p here [] = omega arith
next_most p here (o ∷ os) =
    omega (
      arith,
      both_most o.children (body_sums here),
      body_most here,
      opening_most p o.collects (both o.children (body_sums here)),
    )

last_most : (here : ContentSums) (os : List OpenSums) → most_in (last_gauge here os) ≤ most_at here os + 1
last_most here [] = omega arith
last_most here (o ∷ os) = omega (arith, put_most o.before (long_sums o.children here), long_most o.children here)

begun_most : (form : TagForm) (more : Bool) (label : List ℕ) (here : ContentSums) (os : List OpenSums)
    → most_in (begun_gauge form more label here os) ≤ most_at here os + 4
begun_most Short true label here os = omega arith
begun_most Short false label here os = omega (arith, put_most here (Tag false (node_sums no_sums)))
begun_most Long more label here os =
    omega (arith, opening_most (header_place more) (same_bytes label collection_label) no_sums)
begun_most Middle more label here os = omega (arith, next_most (header_place more) here os)
begun_most Closing true label here os = omega (arith, next_most (Some InClosing) here os)
begun_most Closing false label here os = omega (arith, last_most here os)

escape_most : (o : Option Escaped) (here : ContentSums) (os : List OpenSums)
    → most_in (escape_gauge o here os) ≤ most_at here os + 2
escape_most (Some Mark) here os = omega (arith, put_most here (Text 0))
escape_most (Some (Byte b)) here os = omega (arith, put_most here (Text 1))
escape_most None here os = omega arith

part_token_most : (here : ContentSums) (os : List OpenSums) (t : Token)
    → most_in (part_gauge here os t) ≤ most_at here os + cost t
part_token_most here os (white b) = omega (arith, put_most here (Gap (white_of b)))
part_token_most here os (join r) = omega arith
part_token_most here os (plain b) = omega (arith, put_most here (Text 1))
part_token_most here os (escape b) = escape_most (escape_of b) here os
part_token_most here os raw = omega arith
part_token_most here os (head form label more) = begun_most form more label here os
part_token_most here os bar = bar_most here os
part_token_most here os close = close_most here os

name_most : (over : Bool) (n : ℕ) (here : ContentSums) (os : List OpenSums)
    → most_in (name_gauge over n here os) ≤ n + 2 + most_at here os + 2
name_most true n here os = omega (arith, put_most here (Text (n + 2)))
name_most false n here os = omega arith

symbol_most : (n : ℕ) (here : ContentSums) (os : List OpenSums) (t : Token)
    → most_in (symbol_gauge n here os t) ≤ n + 2 + most_at here os + cost t
symbol_most n here os (escape b) = name_most (b == 62) n here os
symbol_most n here os (white b) = omega arith
symbol_most n here os (join r) = omega arith
symbol_most n here os (plain b) = omega arith
symbol_most n here os raw = omega arith
symbol_most n here os (head form label more) = omega arith
symbol_most n here os bar = omega arith
symbol_most n here os close = omega arith

digit_most : (n : ℕ) (here : ContentSums) (os : List OpenSums) (t : Token)
    → most_in (digit_gauge n here os t) ≤ n + 3 + most_at here os + cost t
digit_most n here os close = omega (arith, put_most here (Tag false (node_sums (leaf_sums n))))
digit_most n here os (white b) = omega arith
digit_most n here os (join r) = omega arith
digit_most n here os (plain b) = omega arith
digit_most n here os (escape b) = omega arith
digit_most n here os raw = omega arith
digit_most n here os (head form label more) = omega arith
digit_most n here os bar = omega arith

feed_in_most : (w : Within) (here : ContentSums) (os : List OpenSums) (t : Token)
    → most_in (feed_in w here os t) ≤ most_within w + most_at here os + cost t
feed_in_most Parts here os t = omega (arith, part_token_most here os t)
feed_in_most (Symbol n) here os t = symbol_most n here os t
feed_in_most (Digits n) here os t = digit_most n here os t

feed_most : (g : Gauge) (t : Token) → most_in (feed_gauge g t) ≤ most_in g + cost t
feed_most g t = feed_in_most g.within g.here g.opens t

keep_most : (k : Gauged) (t : Token) → most_in (keep_gauge k t).gauge ≤ most_in k.gauge + cost t
keep_most k t =
    elim (is_dropped k.behind_join t)
    as (λ z. most_in
    (if z then (let g : Gauged = record { behind_join = true; gauge = k.gauge } in g)
    else record { behind_join = false; gauge = feed_gauge k.gauge t }).gauge ≤ most_in k.gauge + cost t) [
      | true ↦ omega arith
      | false ↦ feed_most k.gauge t
    ]

-- the innermost tag apart from the others
pub popped_most : (here : ContentSums) (items rest : List OpenGauge) (o : OpenGauge) → items ≡ rest ++ o ∷ []
    → most_at here (opens_of items) ≡ most_in_content here + (most_in_open (open_of o) + most_in_opens (opens_of rest))
popped_most here items rest o e =
    ap (λ os. most_at here (opens_of os)) e ∙ ap (λ os. most_at here (map open_of os)) (reverse-append rest (o ∷ []))

-- ---- bytes

-- how many bytes of a token have been read, up to two
abbrev begun_by : Lex → ℕ
begun_by ready = 0
begun_by slashed = 1
begun_by angled = 1
begun_by returned = 2
begun_by (labelled form label) = 2

-- twice what a token adds is at most 3 for each of its bytes
abbrev IsPaid : ℕ → Lexed → Type 0
IsPaid n (within q) = begun_by q ≤ n + 1
IsPaid n (done t) = 2 * cost t ≤ 3 * n + 3
IsPaid n bad = Unit {0}

if_paid : (good : Bool) (n : ℕ) (r : Lexed) → IsPaid n r → IsPaid n (if_good good r)
if_paid true n r h = h
if_paid false n r h = tt

ready_paid : (k : ByteKind) (b : ℕ) → IsPaid 0 (lex_ready k b)
unfolding lex_ready
ready_paid Blank b = omega arith
ready_paid Newline b = omega arith
ready_paid Return b = omega arith
ready_paid Less b = omega arith
ready_paid Greater b = omega arith
ready_paid Bar b = omega arith
ready_paid Backslash b = omega arith
ready_paid Name b = omega arith
ready_paid Hash b = omega arith
ready_paid Slash b = omega arith
ready_paid Other b = omega arith

slashed_paid : (k : ByteKind) (b : ℕ) → IsPaid 1 (lex_slashed k b)
unfolding lex_slashed
slashed_paid Newline b = omega arith
slashed_paid Return b = omega arith
slashed_paid Blank b = if_paid (can_escape b) 1 (done (escape b)) (omega arith)
slashed_paid Less b = if_paid (can_escape b) 1 (done (escape b)) (omega arith)
slashed_paid Greater b = if_paid (can_escape b) 1 (done (escape b)) (omega arith)
slashed_paid Bar b = if_paid (can_escape b) 1 (done (escape b)) (omega arith)
slashed_paid Backslash b = if_paid (can_escape b) 1 (done (escape b)) (omega arith)
slashed_paid Name b = if_paid (can_escape b) 1 (done (escape b)) (omega arith)
slashed_paid Hash b = if_paid (can_escape b) 1 (done (escape b)) (omega arith)
slashed_paid Slash b = if_paid (can_escape b) 1 (done (escape b)) (omega arith)
slashed_paid Other b = if_paid (can_escape b) 1 (done (escape b)) (omega arith)

returned_paid : (k : ByteKind) → IsPaid 2 (lex_returned k)
unfolding lex_returned
returned_paid Newline = omega arith
returned_paid _ = tt

angled_paid : (k : ByteKind) (b : ℕ) → IsPaid 1 (lex_angled k b)
unfolding lex_angled
angled_paid Backslash b = omega arith
angled_paid Bar b = omega arith
angled_paid Slash b = omega arith
angled_paid Hash b = omega arith
angled_paid Name b = omega arith
angled_paid _ b = tt

labelled_paid : (form : TagForm) (label : List ℕ) (k : ByteKind) (b : ℕ) → IsPaid 2 (lex_labelled form label k b)
unfolding lex_labelled
labelled_paid form label Name b =
    if_paid (nat_lt (length label) MOST_LABEL) 2 (within (labelled form (label ++ b ∷ []))) (omega arith)
labelled_paid form label Bar b = if_paid (nat_le 1 (length label)) 2 (done (head form label true)) (omega arith)
labelled_paid form label Greater b = if_paid (nat_le 1 (length label)) 2 (done (head form label false)) (omega arith)
labelled_paid form label _ b = tt

lex_paid : (q : Lex) (k : ByteKind) (b : ℕ) → IsPaid (begun_by q) (lex q k b)
lex_paid ready k b = ready_paid k b
lex_paid slashed k b = slashed_paid k b
lex_paid returned k b = returned_paid k
lex_paid angled k b = angled_paid k b
lex_paid (labelled form label) k b = labelled_paid form label k b

abbrev most_of_bytes : Bytewise Gauged → ℕ
most_of_bytes (at q k) = 2 * most_in k.gauge + 3 * begun_by q
most_of_bytes lost = 0

given_most : (n : ℕ) (k : Gauged) (r : Lexed) → IsPaid n r
    → most_of_bytes (after_lexed keep_gauge k r) ≤ 2 * most_in k.gauge + 3 * n + 3
given_most n k (within q) h = omega (arith, h)
given_most n k (done t) h = omega (arith, h, keep_most k t)
given_most n k bad h = omega arith

step_most : (w : Bytewise Gauged) (b : ℕ) → most_of_bytes (step keep_gauge w b) ≤ most_of_bytes w + 3
step_most (at q k) b = given_most (begun_by q) k (lex q (kind_of b) b) (lex_paid q (kind_of b) b)
step_most lost b = omega arith

run_most : (x : List ℕ) (w : Bytewise Gauged) → most_of_bytes (run keep_gauge w x) ≤ most_of_bytes w + 3 * length x
run_most [] w = omega arith
run_most (b ∷ x) w = omega (arith, run_most x (step keep_gauge w b), step_most w b)

front_short : (bytes : List ℕ) (n : ℕ) → length (take n bytes) ≤ length bytes
front_short bytes n = omega (arith, length-take n bytes)

-- what is counted of a slice, and of a token more
pub metered_small : (bytes : List ℕ) (n : ℕ) (m : Meter) → length bytes < 2 ^ 63
    → run keep_gauge start_gauge (take n bytes) ≡ meter_of m → IsSmallCount (most_in (gauge_of m.gauge) + 4)
metered_small bytes n m h e =
    let all : 2 * most_in (gauge_of m.gauge) ≤ 4 + 3 * length (take n bytes) =
    omega (
      arith,
      subst (λ w. most_of_bytes w ≤ most_of_bytes start_gauge + 3 * length (take n bytes)) e
          (run_most (take n bytes) start_gauge),
    ) in
    omega (arith, all, front_short bytes n, h)

pub metered_end : (bytes : List ℕ) (n : ℕ) (m : Meter) → length bytes < 2 ^ 63
    → run keep_gauge start_gauge (take n bytes) ≡ meter_of m → IsSmallCount (most_in_content m.gauge.here)
metered_end bytes n m h e = omega (arith, metered_small bytes n m h e)
