use Rattle.std.proofs.Common.{◌≡◌, ◌+◌, arith}
use Rattle.std.specs.Fn.{iterate}
use Rattle.tx_generated.specs.Document.{next}
use Rattle.tx_generated.proofs.Turns.{next_number, next_paragraph, all_paragraphs}
use Rattle.tx_generated.proofs.document.generated.Goals as goal

pub loop-i-preserved : goal.loop-i-preserved
loop-i-preserved c =
    let number : c.next-x.result ≡ iterate next (c.loop-i.i + 1) c.args.number
    = next_number c.args.number c.loop-i.i c.loop-i.x c.next-x.result c.loop-i.invariant.number c.next-x.ensures in
    record {
      number = number;
      text = next_paragraph c.args.number c.loop-i.i c.next-x.result c.loop-i.text.items
          c.extend_from_slice-in-loop-i.new.self.items c.append_paragraph.new.out.items number
          c.loop-i.invariant.text c.in_ok-extend_from_slice-2.ensures.items c.in_ok-append_paragraph.ensures;
    }

pub returns : goal.returns
returns c =
    all_paragraphs c.args.number c.loop-i.i c.args.count c.loop-i.text.items (omega arith) c.loop-i.invariant.text
