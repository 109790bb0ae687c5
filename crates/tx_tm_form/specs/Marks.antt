-- The machine once more, with no trees and with the places of the open tags, and the fault where it stops.
use Rattle.std.specs.Prelude.{ℕ, suc, ◌+◌, Bool, true, false, ◌==◌, ◌||◌, ◌&&◌, nat_lt}
use Rattle.std.specs.Prelude.{nat_le, if◌then◌else◌, List, [], ◌∷◌, length, Option, Some, None}
use Rattle.tx_tree.specs.declared.TheConstants.{MOST_NAME}
use Rattle.tx_tree.specs.declared.faults.ReadFault.{ReadFault}
use Rattle.tx_tree.specs.declared.faults.ReadFault.TheVariants.{Unclosed, Stray, BadEscape, BadLabel, BadText, Mismatch}
use Rattle.tx_tree.specs.Texts.{is_name_byte}
use Rattle.tx_tm_form.specs.declared.bytes.Escaped.{Escaped}
use Rattle.tx_tm_form.specs.declared.places.TagForm.{TagForm}
use Rattle.tx_tm_form.specs.declared.places.TagForm.TheVariants.{Short, Long, Middle, Closing}
use Rattle.tx_tm_form.specs.declared.places.TagPlace.{TagPlace}
use Rattle.tx_tm_form.specs.declared.places.TagPlace.TheVariants.{InShort, InHeader, InClosing}
use Rattle.tx_tm_form.specs.declared.marks.TagMark.{TagMark}
use Rattle.tx_tm_form.specs.declared.marks.Inside.{Inside}
use Rattle.tx_tm_form.specs.declared.marks.Inside.TheVariants.{Parts, Symbol, Digits}
use Rattle.tx_tm_form.specs.Bytes.{escape_of, is_digit}
use Rattle.tx_tm_form.specs.Tokens.{Token, white, join, plain, escape, raw, head, bar, close, written, is_dropped}
use Rattle.tx_tm_form.specs.Parts.{same_bytes}
use Rattle.tx_tm_form.specs.Machine.{header_place, Lex, ready, slashed, returned}
use Rattle.tx_tm_form.specs.Machine.{angled, labelled, Bytewise, at, lost, step}
use Rattle.tx_tm_form.specs.Fronts.{begins}

-- where a byte is, and the open tags round it, the innermost first
pub record Standing : Type 0 where
  pub inside : Inside
  pub marks : List TagMark

abbrev pub standing_in : Inside → List TagMark → Option Standing
standing_in inside ms = Some (record { inside = inside; marks = ms })

abbrev pub with_inner : Option TagPlace → TagMark → TagMark
with_inner p m = record { at = m.at; label = m.label; inner = p }

abbrev pub new_mark : ℕ → List ℕ → Option TagPlace → TagMark
new_mark n label p = record { at = n; label = label; inner = p }

abbrev pub if_marked : Bool → Inside → List TagMark → Option Standing
if_marked true inside ms = standing_in inside ms
if_marked false inside ms = None

-- after | in an argument
abbrev pub mark_bar : Option TagPlace → List TagMark → Option Standing
mark_bar (Some p) ms = standing_in Parts ms
mark_bar None ms = None

-- after > in an argument of the first tag
abbrev pub mark_close : Option TagPlace → TagMark → List TagMark → Option Standing
mark_close (Some InHeader) m ms = standing_in Parts (with_inner None m ∷ ms)
mark_close (Some p) m ms = standing_in Parts ms
mark_close None m ms = None

-- after a block of the first tag, where a middle or closing tag goes on
abbrev pub mark_next : Option TagPlace → List ℕ → Option TagPlace → TagMark → List TagMark → Option Standing
mark_next None label p m ms = if_marked (same_bytes label m.label) Parts (with_inner p m ∷ ms)
mark_next (Some w) label p m ms = None

-- after a block of the first tag, where there is a closing tag without arguments
abbrev pub mark_last : Option TagPlace → List ℕ → TagMark → List TagMark → Option Standing
mark_last None label m ms = if_marked (same_bytes label m.label) Parts ms
mark_last (Some w) label m ms = None

abbrev pub bar_marks : List TagMark → Option Standing
bar_marks [] = None
bar_marks (m ∷ ms) = mark_bar m.inner (m ∷ ms)

abbrev pub close_marks : List TagMark → Option Standing
close_marks [] = None
close_marks (m ∷ ms) = mark_close m.inner m ms

abbrev pub next_marks : List ℕ → Option TagPlace → List TagMark → Option Standing
next_marks label p [] = None
next_marks label p (m ∷ ms) = mark_next m.inner label p m ms

abbrev pub last_marks : List ℕ → List TagMark → Option Standing
last_marks label [] = None
last_marks label (m ∷ ms) = mark_last m.inner label m ms

-- after the beginning of a tag, whose < is at place n
abbrev pub begun_marks : ℕ → TagForm → Bool → List ℕ → List TagMark → Option Standing
begun_marks n Short true label ms = standing_in Parts (new_mark n label (Some InShort) ∷ ms)
begun_marks n Short false label ms = standing_in Parts ms
begun_marks n Long more label ms = standing_in Parts (new_mark n label (header_place more) ∷ ms)
begun_marks n Middle more label ms = next_marks label (header_place more) ms
begun_marks n Closing true label ms = next_marks label (Some InClosing) ms
begun_marks n Closing false label ms = last_marks label ms

abbrev pub escape_marks : Option Escaped → ℕ → List TagMark → Option Standing
escape_marks (Some e) b ms = standing_in Parts ms
escape_marks None b ms = if_marked (b == 60) (Symbol 0) ms

abbrev pub part_marks : ℕ → List TagMark → Token → Option Standing
part_marks n ms (white b) = standing_in Parts ms
part_marks n ms (join r) = None
part_marks n ms (plain b) = standing_in Parts ms
part_marks n ms (escape b) = escape_marks (escape_of b) b ms
part_marks n ms raw = standing_in Digits ms
part_marks n ms (head form label more) = begun_marks n form more label ms
part_marks n ms bar = bar_marks ms
part_marks n ms close = close_marks ms

abbrev pub name_marks : Bool → ℕ → List TagMark → Option Standing
name_marks good length ms = if_marked (good && nat_lt length MOST_NAME) (Symbol (suc length)) ms

abbrev pub symbol_marks : ℕ → List TagMark → Token → Option Standing
symbol_marks length ms (plain b) = name_marks (is_name_byte b) length ms
symbol_marks length ms (escape b) =
    if b == 62 then if_marked (nat_le 1 length) Parts ms else name_marks (b == 124 || b == 92) length ms
symbol_marks length ms _ = None

abbrev pub digit_marks : List TagMark → Token → Option Standing
digit_marks ms (plain b) = if_marked (is_digit b) Digits ms
digit_marks ms close = standing_in Parts ms
digit_marks ms _ = None

-- after a token at place n, or None where it can't be
abbrev pub feed_marks : ℕ → Inside → List TagMark → Token → Option Standing
feed_marks n Parts ms t = part_marks n ms t
feed_marks n (Symbol length) ms t = symbol_marks length ms t
feed_marks n Digits ms t = digit_marks ms t

abbrev pub feed_standing : ℕ → Option Standing → Token → Option Standing
feed_standing n None t = None
feed_standing n (Some s) t = feed_marks n s.inside s.marks t

-- how many bytes have been read as tokens, whether the last ones are a join and then only spaces and tabs, and where
-- the next byte is
pub record Marked : Type 0 where
  pub taken : ℕ
  pub behind_join : Bool
  pub now : Option Standing

abbrev pub keep_marks : Marked → Token → Marked
keep_marks k t =
    if is_dropped k.behind_join t
    then record { taken = k.taken + length (written t); behind_join = true; now = k.now }
    else record { taken = k.taken + length (written t); behind_join = false; now = feed_standing k.taken k.now t }

abbrev pub start_marks : Bytewise Marked
start_marks = at ready (record { taken = 0; behind_join = false; now = standing_in Parts [] })

abbrev pub is_parts : Inside → Bool
is_parts Parts = true
is_parts _ = false

abbrev pub is_symbol : Inside → Bool
is_symbol (Symbol length) = true
is_symbol _ = false

-- the label of a middle or closing tag goes on to that of the first tag, of which a block is open
abbrev pub begins_mark : Option TagPlace → List ℕ → TagMark → Bool
begins_mark None label m = begins label m.label
begins_mark (Some p) label m = false

abbrev pub begins_marks : List ℕ → List TagMark → Bool
begins_marks label [] = false
begins_marks label (m ∷ ms) = begins_mark m.inner label m

abbrev pub form_goes_on : TagForm → List ℕ → List TagMark → Bool
form_goes_on Short label ms = true
form_goes_on Long label ms = true
form_goes_on Middle label ms = begins_marks label ms
form_goes_on Closing label ms = begins_marks label ms

-- a token that has begun can go on to one that may be there
abbrev pub lex_goes_on : Lex → Inside → List TagMark → Bool
lex_goes_on ready inside ms = true
lex_goes_on slashed inside ms = true
lex_goes_on returned inside ms = true
lex_goes_on angled inside ms = is_parts inside
lex_goes_on (labelled form label) inside ms = is_parts inside && form_goes_on form label ms

abbrev pub standing_goes_on : Lex → Option Standing → Bool
standing_goes_on q None = false
standing_goes_on q (Some s) = lex_goes_on q s.inside s.marks

abbrev pub marks_go_on : Bytewise Marked → Bool
marks_go_on (at q k) = standing_goes_on q k.now
marks_go_on lost = false

-- ---- the fault where the machine stops: the byte b at place n

abbrev pub mismatch : List TagMark → ℕ → ReadFault
mismatch [] n = Stray n
mismatch (m ∷ ms) n = Mismatch m.at n

abbrev pub fault_by : Lex → Inside → List TagMark → ℕ → ℕ → ReadFault
fault_by ready inside ms b n = if is_symbol inside then BadText n else Stray n
fault_by slashed inside ms b n = if is_symbol inside || b == 62 then BadText n else BadEscape n
fault_by returned inside ms b n = BadEscape n
fault_by angled inside ms b n = if b == 124 || b == 47 then Stray n else BadLabel n
fault_by (labelled Short label) inside ms b n = BadLabel n
fault_by (labelled Long label) inside ms b n = BadLabel n
fault_by (labelled Middle label) inside ms b n = mismatch ms n
fault_by (labelled Closing label) inside ms b n = mismatch ms n

abbrev pub standing_fault : Lex → Option Standing → ℕ → ℕ → ReadFault
standing_fault q None b n = Stray n
standing_fault q (Some s) b n = fault_by q s.inside s.marks b n

abbrev pub stop_fault : Bytewise Marked → ℕ → ℕ → ReadFault
stop_fault (at q k) b n = standing_fault q k.now b n
stop_fault lost b n = Stray n

-- ---- the fault of bytes, or None where they spell a tree

abbrev pub is_whole : Option Standing → Bool
is_whole (Some s) = is_parts s.inside && length s.marks == 0
is_whole None = false

abbrev pub spells_whole : Bytewise Marked → Bool
spells_whole (at ready k) = is_whole k.now
spells_whole _ = false

-- from place n on
abbrev pub fault_from : ℕ → Bytewise Marked → List ℕ → Option ReadFault
fault_from n w [] = if spells_whole w then None else Some (Unclosed n)
fault_from n w (b ∷ bytes) =
    if marks_go_on (step keep_marks w b)
    then fault_from (suc n) (step keep_marks w b) bytes
    else Some (stop_fault w b n)

unfoldable pub fault_of : List ℕ → Option ReadFault
fault_of bytes = fault_from 0 start_marks bytes
