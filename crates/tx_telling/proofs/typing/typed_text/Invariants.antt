use Rattle.std.proofs.Common.{take}
use Rattle.tx_telling.specs.Characters.{IsTypedText}
use Rattle.tx_telling.proofs.typing.typed_text.Given as goal

abbrev pub invariant-loop-code : goal.invariant-loop-code
invariant-loop-code l = IsTypedText (take l.code-index l.codes) l.text.items
