use Rattle.std.proofs.Common.{map, Global}
use Rattle.std.specs.String.{string_bytes}
use Rattle.tx_outside.proofs.GoingOn.{store_goes_on_then}
use Rattle.tx_screen.proofs.Endings.{faulty_words_end}
use Rattle.tx_screen.proofs.Going.{told_goes_on}
use Rattle.tx_screen.proofs.run.run_screen.Goals as goal

pub returns-in-Ok-clause-store_goes_on : goal.returns-in-Ok-clause-store_goes_on
returns-in-Ok-clause-store_goes_on g c =
    let told = c.run_opened-ending.ensures.told in
    store_goes_on_then _ _ _ c.in-Ok.ensures.begins.loaded.1 (told_goes_on _ told.0 _ told.1)

pub returns-in-Err-clause-words : goal.returns-in-Err-clause-words
returns-in-Err-clause-words g c = λ e width height source asked.
    faulty_words_end (map (string_bytes {Z = Global}) c.args.words.now) c.in-Err.ending _ _ c.in-Err.ensures.unopened e
    width height source asked
