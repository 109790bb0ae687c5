use Rattle.std.proofs.Common.{length-take-le, length, ◌≤◌, arith}
use Rattle.tx_tm_words.proofs.Stopping.{plain_of_front, stop_of_front}
use Rattle.tx_tm_words.proofs.runs.short_text_len.Goals as goal

pub returns-clause-within : goal.returns-clause-within
returns-clause-within c =
    let within : c.looked_at-size.result ≤ length c.args.bytes.now = omega (arith, c.looked_at-size.ensures) in
    omega (arith, c.text_len.ensures.within, length-take-le c.looked_at-size.result c.args.bytes.now within)

pub returns-clause-plain : goal.returns-clause-plain
returns-clause-plain c =
    let within : c.looked_at-size.result ≤ length c.args.bytes.now = omega (arith, c.looked_at-size.ensures) in
    plain_of_front c.args.bytes.now c.looked_at-size.result c.text_len.result c.text_len.ensures.within within
    c.text_len.ensures.plain

pub returns-clause-stop : goal.returns-clause-stop
returns-clause-stop c =
    let within : c.looked_at-size.result ≤ length c.args.bytes.now = omega (arith, c.looked_at-size.ensures) in
    λ n m h.
    stop_of_front c.args.bytes.now c.looked_at-size.result c.text_len.result within
    (omega (arith, n, m, c.looked_at-size.ensures)) c.text_len.ensures.stop h
