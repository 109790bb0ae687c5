-- The keys that the bytes of a terminal stand for, read by read.
use Rattle.std.specs.Prelude.{ℕ, ◌+◌, ◌-◌, ◌*◌, ◌==◌, ◌&&◌, ◌||◌, nat_lt, nat_le, Bool, true, false, List, [], ◌∷◌}
use Rattle.std.specs.Prelude.{◌++◌, Option, Some, None, if◌then◌else◌}
use Rattle.tx_keys.specs.declared.sequences.Key.{Key}
use Rattle.tx_keys.specs.declared.sequences.Key.TheVariants.{Char, Control, Enter, Backspace, Escape, Up, Down}
use Rattle.tx_keys.specs.declared.sequences.Key.TheVariants.{Right, Left, Home, End, CtrlHome, CtrlEnd}
use Rattle.tx_keys.specs.declared.sequences.Key.TheVariants.{PageUp, PageDown, Delete, F1, Click, Report}
use Rattle.tx_keys.specs.declared.sequences.Key.TheVariants.{PasteBegins, PasteEnds}
use Rattle.tx_keys.specs.declared.sequences.Begun.{Begun}
use Rattle.tx_keys.specs.declared.sequences.Begun.TheVariants.{Nothing, Escape as AnEscape, LoneEscape, SingleShift}
use Rattle.tx_keys.specs.declared.sequences.Begun.TheVariants.{Bracket, Numbers, Foreign, Skipping, Character}

-- ---- the key that a sequence ends with

-- A character of a code point, of which there is none below the least one of its length, nor a surrogate, nor one past
-- the last.
abbrev pub char_key : ℕ → ℕ → Option Key
char_key code least =
    if nat_lt code least || (nat_lt 0x10FFFF code || (nat_le 0xD800 code && nat_le code 0xDFFF)) then None
    else Some (Char code)

-- by its last letter: A, B, C, D, F, H, P
abbrev pub cursor_key : ℕ → Option Key
cursor_key b =
    if b == 65 then Some Up else if b == 66 then Some Down else if b == 67 then Some Right
    else if b == 68 then Some Left else if b == 70 then Some End else if b == 72 then Some Home
    else if b == 80 then Some F1 else None

-- by its number, where it ends with ~
abbrev pub numbered_key : ℕ → Option Key
numbered_key n =
    if n == 1 || n == 7 then Some Home else if n == 3 then Some Delete else if n == 4 || n == 8 then Some End
    else if n == 5 then Some PageUp else if n == 6 then Some PageDown else if n == 11 then Some F1
    else if n == 200 then Some PasteBegins else if n == 201 then Some PasteEnds else None

-- the key with Ctrl
abbrev pub ctrl_key : Key → Key
ctrl_key Home = CtrlHome
ctrl_key End = CtrlEnd
ctrl_key other = other

abbrev pub with_ctrl : Option Key → Option Key
with_ctrl None = None
with_ctrl (Some key) = Some (ctrl_key key)

-- a key and the number of what is held down with it, which is 5 for Ctrl
abbrev pub held_key : Option Key → ℕ → Option Key
held_key key held = if held == 5 then with_ctrl key else key

-- a key that has a place, counted from 1
abbrev pub placed_key : ℕ → ℕ → Key → Option Key
placed_key a b key = if nat_le 1 a && nat_le 1 b then Some key else None

-- The key that a byte ends after the last three numbers of a sequence. After `<` it is one of the mouse: a press (M) of
-- the first button (0).
abbrev pub sequence_key : Bool → ℕ → ℕ → ℕ → ℕ → Option Key
sequence_key true first second last b =
    if b == 77 && (first == 0) then placed_key second last (Click second last) else None
sequence_key false first second last b =
    if b == 82 then placed_key second last (Report second last)
    else if b == 126 then (if second == 0 then numbered_key last else held_key (numbered_key second) last)
    else held_key (cursor_key b) last

-- ---- one byte

-- a digit, where a number has five at most
abbrev pub digit_byte : Bool → ℕ → ℕ → ℕ → ℕ → Begun
digit_byte marked first second last b =
    if nat_lt last 10000 then Numbers marked first second (last * 10 + (b - 48)) else Foreign

abbrev pub number_byte : Bool → ℕ → ℕ → ℕ → ℕ → Option (Begun × Option Key)
number_byte marked first second last b =
    if nat_le 48 b && nat_le b 57 then Some (digit_byte marked first second last b, None)
    else if b == 59 then Some (Numbers marked second last 0, None)
    else if nat_le 32 b && nat_le b 63 then Some (Foreign, None)
    else if nat_le 64 b && nat_le b 126 then Some (Nothing, sequence_key marked first second last b)
    else None

-- `CSI <` begins what a mouse sends, `CSI M` what an old one sends, `CSI [` a key of another terminal.
abbrev pub bracket_byte : ℕ → Option (Begun × Option Key)
bracket_byte b =
    if b == 60 then Some (Numbers true 0 0 0, None)
    else if b == 77 then Some (Skipping 3, None)
    else if b == 91 then Some (Skipping 1, None)
    else number_byte false 0 0 0 b

abbrev pub char_byte : ℕ → ℕ → ℕ → ℕ → Option (Begun × Option Key)
char_byte left bits least b =
    if nat_lt b 128 || (nat_lt 191 b || nat_le 65536 bits) then None
    else if nat_le left 1 then Some (Nothing, char_key (bits * 64 + (b - 128)) least)
    else Some (Character (left - 1) (bits * 64 + (b - 128)) least, None)

-- What a byte makes of what has begun, and the key that it ends; None where it doesn't go on with it.
abbrev pub later_byte : Begun → ℕ → Option (Begun × Option Key)
later_byte Nothing b = None
later_byte LoneEscape b = None
later_byte AnEscape b =
    if b == 79 then Some (SingleShift, None) else if b == 91 then Some (Bracket, None) else None
later_byte SingleShift b = if nat_le 64 b && nat_le b 126 then Some (Nothing, cursor_key b) else None
later_byte Bracket b = bracket_byte b
later_byte (Numbers marked first second last) b = number_byte marked first second last b
later_byte Foreign b =
    if nat_le 32 b && nat_le b 63 then Some (Foreign, None)
    else if nat_le 64 b && nat_le b 126 then Some (Nothing, None) else None
later_byte (Skipping left) b = Some (if nat_le left 1 then Nothing else Skipping (left - 1), None)
later_byte (Character left bits least) b = char_byte left bits least b

-- what a byte begins where nothing has begun, and its key
abbrev pub first_byte : ℕ → Begun × Option Key
first_byte b =
    if b == 13 then (Nothing, Some Enter)
    else if b == 8 || b == 127 then (Nothing, Some Backspace)
    else if b == 27 then (AnEscape, None)
    else if nat_lt b 32 then (Nothing, Some (Control b))
    else if nat_lt b 127 then (Nothing, Some (Char b))
    else if nat_le 194 b && nat_le b 223 then (Character 1 (b - 192) 0x80, None)
    else if nat_le 224 b && nat_le b 239 then (Character 2 (b - 224) 0x800, None)
    else if nat_le 240 b && nat_le b 244 then (Character 3 (b - 240) 0x10000, None)
    else (Nothing, None)

abbrev pub listed : Option Key → List Key
listed None = []
listed (Some key) = key ∷ []

-- An escape that a byte doesn't go on with is a key. All else that is broken off is dropped.
abbrev pub broken_off : Begun → List Key
broken_off AnEscape = Escape ∷ []
broken_off other = []

abbrev pub gone_on : Option (Begun × Option Key) → Begun → ℕ → Begun × List Key
gone_on (Some step) begun b = (step.0, listed step.1)
gone_on None begun b = ((first_byte b).0, broken_off begun ++ listed (first_byte b).1)

-- what has begun after a byte, and the keys that it ends
abbrev pub byte_keys : Begun → ℕ → Begun × List Key
byte_keys begun b = gone_on (later_byte begun b) begun b

-- ---- reads

-- the keys of bytes, one after the other
abbrev pub bytes_keys : Begun → List ℕ → Begun × List Key
bytes_keys begun [] = (begun, [])
bytes_keys begun (b ∷ bs) =
    let one = byte_keys begun b in let rest = bytes_keys one.0 bs in (rest.0, one.1 ++ rest.1)

-- an escape at the end of a read is a key
abbrev pub ended_read : Begun → List Key → Begun × List Key
ended_read AnEscape keys = (LoneEscape, keys ++ Escape ∷ [])
ended_read other keys = (other, keys)

-- The key that a last byte has ended, where each further byte goes on.
abbrev pub key_after : Option (Begun × Option Key) → List ℕ → Option Key
key_after None bs = None
key_after (Some step) [] = step.1
key_after (Some step) (b ∷ bs) = key_after (later_byte step.0 b) bs

-- the one key of all these bytes, which follow an escape
abbrev pub whole_key : List ℕ → Option Key
whole_key bs = key_after (Some (AnEscape, None)) bs

abbrev pub after_escape : Option Key → Begun → List ℕ → Begun × List Key
after_escape (Some key) begun bs = (Nothing, key ∷ [])
after_escape None begun bs = let all = bytes_keys begun bs in ended_read all.0 all.1

-- What has begun after a read, and its keys. Over a slow line an escape and the rest of its sequence may come in two
-- reads: a read after an escape that is the whole rest of a sequence is that sequence's key.
abbrev pub read_keys : Begun → List ℕ → Begun × List Key
read_keys LoneEscape bs = after_escape (whole_key bs) LoneEscape bs
read_keys other bs = after_escape None other bs

-- the keys of reads in order
abbrev pub keys_of : Begun → List (List ℕ) → List Key
keys_of begun [] = []
keys_of begun (read ∷ reads) = let one = read_keys begun read in one.1 ++ keys_of one.0 reads
