use Rattle.std.proofs.Common.{◌∙◌, ap, arith, rules}
use Rattle.tx_items.specs.Shows.{show}
use Rattle.tx_part_layout.specs.LaidParts.{items_in}
use Rattle.tx_part_layout.specs.Laying.{given_back_by}
use Rattle.tx_part_layout.proofs.Blanks.{ended_are}
use Rattle.tx_part_layout.proofs.Few.{each_few, few_items}
use Rattle.tx_part_layout.proofs.part.laid_anew.Goals as goal

pub lines_of-requires-clause-few : goal.lines_of-requires-clause-few
lines_of-requires-clause-few g c =
    let s = show c.args.before c.args.value in
    let end = given_back_by c.args.frames.now c.in_ok-shown.shown.after in
    let few = few_items c.args.before end c.args.value _ c.weight_laws.ensures.items
    (c.weight_laws.ensures.value c.args.before c.args.value c.size-size.ensures.well_formed) c.requires.small in
    let own = ended_are s.form c.in_ok-shown.shown.blank s.after end c.in_ok-shown.shown.paragraphs.items
    c.in_ok-paragraphs.paragraphs.items c.in_ok-shown.ensures.blank c.in_ok-shown.ensures.paragraphs
    c.in_ok-paragraphs.ensures in
    let same = ap items_in (c.deref.ensures.value ∙ own) in
    each_few c.deref.result.now 4294967296 (omega (arith, few, same))

pub returns-clause-laid : goal.returns-clause-laid
returns-clause-laid g c =
    let s = show c.args.before c.args.value in
    let end = given_back_by c.args.frames.now c.in_ok-shown.shown.after in
    record {
      end = end;
      paragraphs = ended_are s.form c.in_ok-shown.shown.blank s.after end c.in_ok-shown.shown.paragraphs.items
          c.in_ok-paragraphs.paragraphs.items c.in_ok-shown.ensures.blank c.in_ok-shown.ensures.paragraphs
          c.in_ok-paragraphs.ensures;
      errors = c.in_ok-shown.ensures.errors;
      after = c.in_ok-shown.ensures.after;
      blank = c.in_ok-shown.ensures.blank;
      lines = search rules;
    }

pub returns-clause-few : goal.returns-clause-few
returns-clause-few g c =
    let s = show c.args.before c.args.value in
    let end = given_back_by c.args.frames.now c.in_ok-shown.shown.after in
    let few = few_items c.args.before end c.args.value _ c.weight_laws.ensures.items
    (c.weight_laws.ensures.value c.args.before c.args.value c.size-size.ensures.well_formed) c.requires.small in
    let own = ended_are s.form c.in_ok-shown.shown.blank s.after end c.in_ok-shown.shown.paragraphs.items
    c.in_ok-paragraphs.paragraphs.items c.in_ok-shown.ensures.blank c.in_ok-shown.ensures.paragraphs
    c.in_ok-paragraphs.ensures in
    let same = ap items_in own in omega (arith, few, same)
