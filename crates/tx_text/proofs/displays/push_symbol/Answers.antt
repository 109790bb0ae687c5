use Rattle.std.proofs.Common.{rules, append_assoc}
use Rattle.std.proofs.lemmas.Str.{encodes-append}
use Rattle.tx_text.proofs.displays.push_symbol.Goals as goal

pub returns-in_ok-push_codes-in-None : goal.returns-in_ok-push_codes-in-None
returns-in_ok-push_codes-in-None c = search (rules, encodes-append, append_assoc)
