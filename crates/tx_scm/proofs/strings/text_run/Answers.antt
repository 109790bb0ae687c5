use Rattle.std.proofs.Common.{arith}
use Rattle.tx_scm.proofs.TextRuns.{run_reads, run_leads, run_stops, run_plain}
use Rattle.tx_scm.proofs.strings.text_run.Goals as goal

pub returns-then-taken-run : goal.returns-then-taken-run
returns-then-taken-run c =
    let more = c.in_ok-taken.ensures in
    let plain = run_plain c.args.bytes.now c.args.at c.plain_end-end.result c.plain_end-end.ensures.plain in
    record {
      next = λ opens.
          run_stops c.args.bytes.now c.args.text.now _ c.args.at c.plain_end-end.result _ opens (omega arith)
          plain more.after more.taken c.if-taken-run.true
          (more.stops c.if-taken-run.true);
    }

pub returns : goal.returns
returns c =
    let more = c.in_ok-taken.ensures in
    let plain = run_plain c.args.bytes.now c.args.at c.plain_end-end.result c.plain_end-end.ensures.plain in
    let end = c.plain_end-end.result in
    record {
      next = λ opens.
          record {
            later = c.plain_end-end.ensures.later;
            there = c.plain_end-end.ensures.there;
            same = run_reads c.args.bytes.now c.args.text.now _ c.args.at end _ opens (omega arith)
                plain more.after more.taken c.if-taken-run.false;
            led = run_leads c.args.bytes.now c.args.text.now _ c.args.at end _ opens (omega arith)
                plain more.after more.taken c.if-taken-run.false;
          };
    }
