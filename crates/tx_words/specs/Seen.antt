-- The words of files as contracts see them.
use Rattle.tx_words.specs.declared.asked.FileWord.{FileWord}
use Rattle.tx_words.specs.Names.{Named}

abbrev pub named_of : FileWord → Named
named_of f = record { word = f.word.now; name = f.name.now }
