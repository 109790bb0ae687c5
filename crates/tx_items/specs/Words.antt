-- The texts that the rules make by themselves.
use Rattle.std.specs.Prelude.{ℕ, List, codes}
use Rattle.tx_items.specs.declared.words.Word.{Word}
use Rattle.tx_items.specs.declared.words.Word.TheVariants.{ErrorFront, TagFront, End, Bar, Blank, Bad, UndefinedTag}
use Rattle.tx_items.specs.declared.words.Word.TheVariants.{Medium, Right, Black, Left}

-- `<` and `>` are symbols in a text
abbrev pub word_bytes : Word → List ℕ
word_bytes ErrorFront = codes "<less>!"
word_bytes TagFront = codes "<less>"
word_bytes End = codes "<gtr>"
word_bytes Bar = codes "|"
word_bytes Blank = codes " "
word_bytes Bad = codes "bad"
word_bytes UndefinedTag = codes "undefined-tag"
word_bytes Medium = codes "medium"
word_bytes Right = codes "right"
word_bytes Black = codes "black"
word_bytes Left = codes "left"
