use Rattle.std.proofs.Common.{length, ap, sym, ◌∙◌, arith}
use Rattle.std.proofs.lemmas.Grind.{common_steps}
use Rattle.tx_session.proofs.KeptLines.{command_length, kept_text}
use Rattle.tx_session.proofs.kept_line.KeptLine.text.Goals as goal

pub slice_bounds-result-end : goal.slice_bounds-result-end
slice_bounds-result-end c =
    let k = c.requires.kept.1 in
    c.text_count-count.ensures _ k
    ∙ sym (ap length
    (kept_text c.requires.kept.0 c.deref.result.now 1048576 c.text_count-count.result _
    (c.deref.ensures.value ∙ k.front) k.returned (c.text_count-count.ensures _ k ∙ command_length _ _ k.returned)
    c.if-count-gt-MOST_LINE.false))

pub returns : goal.returns
returns c =
    record {
      text = λ bytes k. kept_text bytes c.deref.result.now 1048576 c.text_count-count.result _
          (c.deref.ensures.value ∙ k.front) k.returned (c.text_count-count.ensures bytes k
          ∙ command_length _ _ k.returned)
          c.if-count-gt-MOST_LINE.false;
      short = grind (arith, common_steps, c.if-count-gt-MOST_LINE.false);
    }
