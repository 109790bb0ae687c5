use Rattle.std.proofs.Common.{◌≡◌, ◌++◌, drop}
use Rattle.std.specs.Prelude.{string_bytes, encode_utf8_all}
use Rattle.tx_text.proofs.displays.push_codes.Given as goal

abbrev pub invariant-loop-code : goal.invariant-loop-code
invariant-loop-code l =
    string_bytes l.text ++ encode_utf8_all (drop l.code-index l.codes) ≡
    string_bytes l.fn.text ++ encode_utf8_all l.codes
