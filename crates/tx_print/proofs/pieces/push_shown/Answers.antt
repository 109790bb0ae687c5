use Rattle.tx_print.proofs.Adding.{adds_also, adds_nothing}
use Rattle.tx_print.proofs.Wording.{empty_length, first_cut, front_of, leaves_all, leaves_less, shown_empty, shown_less}
use Rattle.tx_print.proofs.pieces.push_shown.Goals as goal

pub returns-then-is_empty : goal.returns-then-is_empty
returns-then-is_empty g c =
    adds_also (shown_empty c.args.text.now (empty_length _ _ _ c.is_empty.ensures c.bytes.ensures.bytes
    c.if-is_empty.true))
    adds_nothing

pub loop-count-init : goal.loop-count-init
loop-count-init g c =
    record { cut = first_cut c.args.text.now c.bytes.ensures.text; left = leaves_all _ }

pub loop-count-preserved : goal.loop-count-preserved
loop-count-preserved g c =
    let next = c.in-Some.next in
    let put = front_of _ _ _ _ c.in-Some.ensures.shown c.in-Some.ensures.count in
    record {
      cut = c.in-Some.ensures.next_cut;
      left = leaves_less _ _ _ _ (shown_less c.args.text.now c.loop-count.at next c.in-Some.ensures.rest)
          c.loop-count.invariant.left (adds_also put c.push.ensures);
    }
