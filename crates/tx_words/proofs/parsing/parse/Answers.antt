use Rattle.std.proofs.Common.{◌≡◌, ◌∙◌, map, rules, ap}
use Rattle.std.specs.String.{string_bytes}
use Rattle.clap.specs.Words.{App, kind_of, takes}
use Rattle.clap.specs.declared.error.kind.ErrorKind.TheVariants.{OutOfMemory}
use Rattle.tx_words.proofs.TheCommand.{taken}
use Rattle.tx_words.proofs.parsing.parse.Goals as goal

pub returns-in-Ok-clause-taken : goal.returns-in-Ok-clause-taken
returns-in-Ok-clause-taken c = taken _ _ c.in_ok-tmx.ensures c.in-Ok.ensures.kinds

pub returns-clause-faulty : goal.returns-clause-faulty
returns-clause-faulty c is takes_them =
    let same = ap (λ (a : App). takes a (map string_bytes c.args.words.now)) c.in_ok-tmx.ensures in
    let memory : kind_of c.in-Err.error ≡ OutOfMemory = c.in-Err.ensures.passes (same ∙ takes_them) in
    search (rules, memory)
