use Rattle.std.proofs.Common.{take}
use Rattle.tx_tm_content.specs.Blocks.{content_of}
use Rattle.tx_tm_read.specs.Spots.{opens_of}
use Rattle.tx_tm_read.proofs.Running.{words_text, words_none, words_some}
use Rattle.tx_tm_read.proofs.reader.with_words.Goals as goal

pub put_text-requires : goal.put_text-requires
put_text-requires g c = words_text (take c.args.taken c.args.rest.now) c.requires.words

pub returns-in-None-clause-next : goal.returns-in-None-clause-next
returns-in-None-clause-next g c =
    let next = rw c.in-None.is at c.in_ok-put_text.ensures.next in
    λ j.
    words_none j (content_of c.args.here) (opens_of c.args.opens.items) c.args.taken c.args.rest.now c.requires.words
    next

pub returns-in-Some-clause-next : goal.returns-in-Some-clause-next
returns-in-Some-clause-next g c =
    let next = rw c.in-Some.is at c.in_ok-put_text.ensures.next in
    λ j.
    words_some j (content_of c.args.here) (opens_of c.args.opens.items) c.args.taken c.args.rest.now c.in-Some.spot
    c.requires.some c.requires.within c.requires.words next
