use Rattle.tx_tm_words.specs.Words.{token_of, lex_of}
use Rattle.tx_tm_faults.proofs.Lexing.{word_there}
use Rattle.tx_tm_faults.proofs.scan.Scan.step.Goals as goal

pub behind_word-requires-clause-there : goal.behind_word-requires-clause-there
behind_word-requires-clause-there c =
    let next = rw (c.in-Some-Done.is, c.in-Some-Done.field-0-is) at c.in_ok-step.ensures.next in
    word_there c.args.bytes.now c.args.self.taken (lex_of c.args.self.lexer) c.args.byte (token_of c.in-Some-Done.word)
    next c.requires.there
