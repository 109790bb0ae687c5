use Rattle.std.proofs.Common.{ap, ◌∙◌}
use Rattle.tx_terminal.specs.Characters.{is_character}
use Rattle.tx_page.proofs.Encoding.{encoded}
use Rattle.tx_page.proofs.clusters.encoded.Goals as goal

pub known-requires-clause-one : goal.known-requires-clause-one
known-requires-clause-one c =
    ap is_character (c.as_bytes.ensures.value ∙ c.encode_utf8.ensures.value)
    ∙ encoded c.args.code c.ranges.code.0 c.requires.alone
