-- Reading a text byte by byte.
use Rattle.std.specs.Prelude.{ℕ, ◌+◌, Bool, true, false, ◌==◌, ◌&&◌, nat_lt, is_some, if◌then◌else◌, List, [], ◌∷◌}
use Rattle.std.specs.Prelude.{◌++◌, length, Option, Some, None}
use Rattle.tx_tree.specs.declared.TheConstants.{MOST_NAME, MOST_TEXT}
use Rattle.tx_tree.specs.declared.texts.TextPlace.{TextPlace}
use Rattle.tx_tree.specs.declared.texts.TextPlace.TheVariants.{Between, InSymbol}
use Rattle.tx_tree.specs.declared.texts.TextFault.{TextFault}
use Rattle.tx_tree.specs.declared.texts.TextFault.TheVariants.{BadByte, BadSymbol}
use Rattle.tx_tree.specs.Texts.{is_item_byte, is_name_byte}

-- the place after one more byte, if a text can go on with it
unfoldable pub text_step : TextPlace → ℕ → Option TextPlace
text_step Between b = if b == 60 then Some (InSymbol 0) else (if is_item_byte b then Some Between else None)
text_step (InSymbol n) b =
    if b == 62 then (if n == 0 then None else Some Between)
    else (if is_name_byte b && nat_lt n MOST_NAME then Some (InSymbol (n + 1)) else None)

-- the place after more bytes
abbrev pub text_run : Option TextPlace → List ℕ → Option TextPlace
text_run None bytes = None
text_run (Some p) [] = Some p
text_run (Some p) (b ∷ bytes) = text_run (text_step p b) bytes

abbrev pub is_between : Option TextPlace → Bool
is_between None = false
is_between (Some Between) = true
is_between (Some (InSymbol n)) = false

-- the bytes are a text
unfoldable pub is_text : List ℕ → Bool
is_text bytes = is_between (text_run (Some Between) bytes)

-- the bytes begin a text
unfoldable pub begins_text : List ℕ → Bool
begins_text bytes = is_some (text_run (Some Between) bytes)

-- the fault at i, where no text goes on from there
abbrev pub fault_at : TextPlace → ℕ → TextFault
fault_at Between i = BadByte i
fault_at (InSymbol n) i = BadSymbol i

-- one byte more begins a text within the limit
abbrev pub takes_byte : List ℕ → ℕ → Bool
takes_byte bytes b = nat_lt (length bytes) MOST_TEXT && begins_text (bytes ++ b ∷ [])

-- each of these bytes is taken, in order
abbrev pub takes_all : List ℕ → List ℕ → Bool
takes_all bytes [] = true
takes_all bytes (b ∷ more) = takes_byte bytes b && takes_all (bytes ++ b ∷ []) more
