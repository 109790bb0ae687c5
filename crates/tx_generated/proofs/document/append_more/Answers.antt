use Rattle.std.proofs.Common.{arith}
use Rattle.tx_generated.proofs.Turns.{next_word, all_words}
use Rattle.tx_generated.proofs.document.append_more.Goals as goal

pub loop-j-preserved : goal.loop-j-preserved
loop-j-preserved c =
    next_word c.args.a c.args.step c.loop-j.j c.args.out.now.items c.loop-j.out.items c.append.new.out.items
    c.word.result.now (omega arith) c.loop-j.invariant c.in_ok-append.ensures c.word.ensures

pub returns : goal.returns
returns c =
    all_words c.args.a c.args.step c.loop-j.j c.args.out.now.items c.loop-j.out.items (omega arith) c.loop-j.invariant
