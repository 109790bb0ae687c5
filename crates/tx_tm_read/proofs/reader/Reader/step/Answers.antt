use Rattle.std.proofs.Common.{arith, ap}
use Rattle.tx_tm_form.specs.Bytes.{kind_of}
use Rattle.tx_tm_words.specs.Words.{lex_of}
use Rattle.tx_tm_read.specs.Credits.{lexed_credit}
use Rattle.tx_tm_read.proofs.Crediting.{lex_paid}
use Rattle.tx_tm_read.proofs.reader.Reader.step.Goals as goal

pub returns-in-Ok-clause-bounded : goal.returns-in-Ok-clause-bounded
returns-in-Ok-clause-bounded g c =
    omega (
      arith,
      c.behind_lexed.ensures.bounded,
      ap lexed_credit c.in-Ok.ensures.next,
      lex_paid (lex_of c.args.self.lexer) (kind_of c.args.byte) c.args.byte,
    )
