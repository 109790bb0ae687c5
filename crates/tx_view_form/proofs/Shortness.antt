-- Marks in the texts of a value within the limits end where such a text can end.
use Rattle.std.proofs.Common.{◌≤◌, Some, None, arith}
use Rattle.std.specs.Prelude.{All}
use Rattle.tx_tree.specs.declared.TheConstants.{MOST_TEXT}
use Rattle.tx_tree.specs.WideTree.{text_length_of, longest_text}
use Rattle.tx_tree.specs.Limits.{IsWellFormed, AreWellFormed, IsWithinLimits}
use Rattle.tx_tree.proofs.Cutting.{cut_within}
use Rattle.tx_origin.specs.Values.{WideValue, WideValues, text, made, none, also, plain, plains}
use Rattle.tx_items.specs.declared.attributes.Attrs.{Attrs}
use Rattle.tx_items.specs.Shows.{shown_paragraphs}
use Rattle.tx_view_form.specs.Positions.{Mark, IsShort}
use Rattle.tx_view_form.proofs.ShownItems.{EachText, EachTexts}
use Rattle.tx_view_form.proofs.Marking.{InText, shown_marked}

abbrev EndsShort : Mark → Type 0
EndsShort m = m.stop ≤ MOST_TEXT

mutual
  short_text : (v : WideValue) → IsWellFormed (plain v) → text_length_of (plain v) ≤ MOST_TEXT
      → EachText (InText EndsShort) v
  short_text (text words None) h le = tt
  short_text (text words (Some p)) h le =
      (h, (λ start stop a b. let within = cut_within words stop b in omega arith))
  short_text (made label vs at) h le = short_texts vs h.1 le

  short_texts : (vs : WideValues) → AreWellFormed (plains vs) → longest_text (plains vs) ≤ MOST_TEXT
      → EachTexts (InText EndsShort) vs
  short_texts none h le = tt
  short_texts (also v vs) h le = (short_text v h.0 (omega arith), short_texts vs h.1 (omega arith))

pub short_items : (a : Attrs) (v : WideValue) → IsWellFormed (plain v) → IsWithinLimits (plain v)
    → All (λ p. All IsShort p.items) (shown_paragraphs a v)
short_items a v h within = shown_marked EndsShort a v (short_text v h within.text)
