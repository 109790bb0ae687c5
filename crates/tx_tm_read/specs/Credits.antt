-- Nodes that bytes which have been read pay for, and that haven't been made yet: a byte pays for one. Each open tag has
-- one, each line with a tag one for its concat, and each tag of what may be a collection one for the line that it may
-- be in.
use Rattle.std.specs.Prelude.{ℕ, ◌+◌, ◌≤◌, List, [], ◌∷◌, Option, Some, None}
use Rattle.tx_tm_content.specs.ContentCredits.{content_credit}
use Rattle.tx_tm_form.specs.Tokens.{Token, head}
use Rattle.tx_tm_form.specs.Machine.{Open, State, reading, naming, counting, failed, Lex, labelled, Lexed, within}
use Rattle.tx_tm_form.specs.Machine.{done, bad}
use Rattle.tx_tm_read.specs.declared.tags.Spot.{Spot}
use Rattle.tx_tm_read.specs.declared.reader.Reader.{Reader}
use Rattle.tx_tm_read.specs.declared.reader.Advance.{Advance}
use Rattle.tx_tm_words.specs.Words.{lex_of}
use Rattle.tx_tm_read.specs.Spots.{state_of}

abbrev pub opens_credit : List Open → ℕ
opens_credit [] = 0
opens_credit (f ∷ fs) = 1 + content_credit f.before + opens_credit fs

abbrev pub state_credit : State → ℕ
state_credit (reading here fs) = content_credit here + opens_credit fs
state_credit (naming name here fs) = content_credit here + opens_credit fs
state_credit (counting digits here fs) = content_credit here + opens_credit fs + 1
state_credit failed = 0

abbrev pub lex_credit : Lex → ℕ
lex_credit (labelled form label) = 1
lex_credit _ = 0

-- how many nodes a token makes at most that aren't paid for yet, those included that it leaves paid for
abbrev pub token_credit : Token → ℕ
token_credit (head form label more) = 2
token_credit _ = 1

abbrev pub lexed_credit : Lexed → ℕ
lexed_credit (within q) = lex_credit q
lexed_credit (done t) = token_credit t
lexed_credit bad = 0

abbrev pub spot_credit : Spot → ℕ
spot_credit s = state_credit (state_of s)

abbrev pub reader_credit : Reader → ℕ
reader_credit r = lex_credit (lex_of r.lexer) + state_credit (state_of r.spot)

abbrev pub advance_credit : Advance → ℕ
advance_credit a = reader_credit a.reader

-- the steps rose by no more than what was paid for and the bytes that were taken
abbrev pub AdvancePaid : ℕ → ℕ → ℕ → Option Advance → Type 0
AdvancePaid before after credit None = Unit {0}
AdvancePaid before after credit (Some a) = after + advance_credit a ≤ before + credit + a.taken
