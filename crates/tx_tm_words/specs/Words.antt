-- The program's words, as those of the syntax.
use Rattle.std.specs.Prelude.{◌≡◌, true, Option, Some, None}
use Rattle.tx_tm_form.specs.Bytes.{kind_of, is_plain}
use Rattle.tx_tm_form.specs.Tokens.{Token, white, join, plain, escape, raw, head, bar, close}
use Rattle.tx_tm_form.specs.Machine as machine
use Rattle.tx_tm_form.specs.Machine.{Lex, ready, slashed, returned, angled, labelled, within, done, bad}
use Rattle.tx_tm_words.specs.declared.lexer.TmWord.{TmWord}
use Rattle.tx_tm_words.specs.declared.lexer.TmWord.TheVariants as words
use Rattle.tx_tm_words.specs.declared.lexer.Lexer.{Lexer}
use Rattle.tx_tm_words.specs.declared.lexer.Lexer.TheVariants as lexers
use Rattle.tx_tm_words.specs.declared.lexer.Lexed.{Lexed}
use Rattle.tx_tm_words.specs.declared.lexer.Lexed.TheVariants as lexeds

abbrev pub token_of : TmWord → Token
token_of (words.White b) = white b
token_of (words.Join r) = join r
token_of (words.Plain b) = plain b
token_of (words.Escape b) = escape b
token_of words.Raw = raw
token_of (words.Head form label more) = head form label more
token_of words.Bar = bar
token_of words.Close = close

abbrev pub lex_of : Lexer → Lex
lex_of lexers.Ready = ready
lex_of lexers.Slashed = slashed
lex_of lexers.Returned = returned
lex_of lexers.Angled = angled
lex_of (lexers.Labelled form label) = labelled form label

-- None where no word goes on so
abbrev pub lexed_of : Option Lexed → machine.Lexed
lexed_of None = bad
lexed_of (Some (lexeds.Within q)) = within (lex_of q)
lexed_of (Some (lexeds.Done w)) = done (token_of w)

-- a plain word is a byte that stands for itself
abbrev pub IsGoodWord : TmWord → Type 0
IsGoodWord (words.Plain b) = is_plain (kind_of b) ≡ true
IsGoodWord w = Unit {0}

abbrev pub IsGoodLexed : Option Lexed → Type 0
IsGoodLexed None = Unit {0}
IsGoodLexed (Some (lexeds.Within q)) = Unit {0}
IsGoodLexed (Some (lexeds.Done w)) = IsGoodWord w
