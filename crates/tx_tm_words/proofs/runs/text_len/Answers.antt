use Rattle.std.proofs.Common.{get_or, arith}
use Rattle.tx_tm_words.proofs.Stopping.{no_stop, stop_there}
use Rattle.tx_tm_words.proofs.runs.text_len.Goals as goal

pub returns-in-Some-clause-plain : goal.returns-in-Some-clause-plain
returns-in-Some-clause-plain c =
    λ k n s.
    no_stop c.in-Some.stops (get_or c.args.bytes.now k 0) c.in-Some.ensures.value
    (c.first_stop.ensures.before k (omega arith) n) s

pub returns-in-Some-clause-stop : goal.returns-in-Some-clause-stop
returns-in-Some-clause-stop c =
    λ n h.
    stop_there c.in-Some.stops (get_or c.args.bytes.now c.first_stop.result 0) c.in-Some.ensures.value
    (c.first_stop.ensures.found n) h
