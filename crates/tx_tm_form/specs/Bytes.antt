-- What a byte is to the syntax of TM.
use Rattle.std.specs.Prelude.{ℕ, ◌-◌, Bool, true, false, ◌==◌, ◌||◌, ◌&&◌, nat_le}
use Rattle.std.specs.Prelude.{is_some, if◌then◌else◌, List, [], ◌∷◌, Option, Some, None}
use Rattle.tx_tree.specs.Labels.{is_label_byte}
use Rattle.tx_tm_form.specs.declared.bytes.ByteKind.{ByteKind}
use Rattle.tx_tm_form.specs.declared.bytes.ByteKind.TheVariants.{Name, Blank, Newline, Return, Less}
use Rattle.tx_tm_form.specs.declared.bytes.ByteKind.TheVariants.{Greater, Bar, Backslash, Hash, Slash, Other}
use Rattle.tx_tm_form.specs.declared.bytes.Escaped.{Escaped}
use Rattle.tx_tm_form.specs.declared.bytes.Escaped.TheVariants.{Mark, Byte}
use Rattle.tx_tm_form.specs.declared.bytes.White.{White}
use Rattle.tx_tm_form.specs.declared.bytes.White.TheVariants.{Spaces, Line, Break}

unfoldable pub kind_of : ℕ → ByteKind
kind_of b =
    if is_label_byte b then Name
    else if b == 32 || b == 9 then Blank
    else if b == 10 then Newline
    else if b == 13 then Return
    else if b == 60 then Less
    else if b == 62 then Greater
    else if b == 124 then Bar
    else if b == 92 then Backslash
    else if b == 35 then Hash
    else if b == 47 then Slash
    else Other

-- white is the bytes 9, 10, 13 and 32
abbrev pub is_white : ByteKind → Bool
is_white Blank = true
is_white Newline = true
is_white Return = true
is_white _ = false

-- a byte that stands for itself: no white, and none of < > | \
abbrev pub is_plain : ByteKind → Bool
is_plain Name = true
is_plain Hash = true
is_plain Slash = true
is_plain Other = true
is_plain _ = false

-- what a backslash and a byte stand for outside symbols
unfoldable pub escape_of : ℕ → Option Escaped
escape_of b =
    if b == 59 then Some Mark
    else if b == 124 || b == 92 || b == 32 then Some (Byte b)
    else if b == 48 then Some (Byte 0)
    else if b == 73 || b == 74 || b == 77 then None
    else if nat_le 64 b && nat_le b 95 then Some (Byte (b - 64))
    else None

-- the bytes of an item that is written with a backslash
abbrev pub escaped_bytes : Escaped → List ℕ
escaped_bytes Mark = []
escaped_bytes (Byte b) = b ∷ []

-- < and > after a backslash are the ends of a symbol
abbrev pub is_angle : ℕ → Bool
is_angle b = b == 60 || b == 62

-- a byte that may be after a backslash, joins aside
abbrev pub can_escape : ℕ → Bool
can_escape b = is_some (escape_of b) || is_angle b

-- hexadecimal digits
abbrev pub is_digit : ℕ → Bool
is_digit b = (nat_le 48 b && nat_le b 57) || (nat_le 65 b && nat_le b 70) || (nat_le 97 b && nat_le b 102)

-- a byte of white as a run
abbrev pub white_of : ℕ → White
white_of b = if b == 10 then Line else Spaces

-- two runs side by side are one, with the bytes 10 of both
abbrev pub joint_run : White → White → White
joint_run Spaces w = w
joint_run Line Spaces = Line
joint_run Line Line = Break
joint_run Line Break = Break
joint_run Break w = Break
