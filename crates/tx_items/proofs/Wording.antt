-- The words of the rules are texts.
use Rattle.std.proofs.Common.{◌≡◌, ℕ, ◌≤◌, nat_le, true, List, length, refl, arith}
use Rattle.std.specs.Prelude.{codes}
use Rattle.std.proofs.lemmas.Bool.{leb-true}
use Rattle.tx_tree.specs.TextScan.{is_text, text_step}
use Rattle.tx_tree.specs.Texts.{IsText}
use Rattle.tx_tree.proofs.Scanning.{text_test}
use Rattle.tx_tree.specs.Labels.{IsLabel}
use Rattle.tx_prim.proofs.Plain.{label_text}
use Rattle.tx_prim.proofs.Sound.{right_text}
use Rattle.tx_items.specs.declared.words.Word.{Word}
use Rattle.tx_items.specs.declared.words.Word.TheVariants.{ErrorFront, TagFront, End, Bar, Blank, Bad, UndefinedTag}
use Rattle.tx_items.specs.declared.words.Word.TheVariants.{Medium, Right, Black, Left}
use Rattle.tx_items.specs.Words.{word_bytes}

pub word_text : (w : Word) → IsText (word_bytes w)
unfolding is_text text_step
word_text ErrorFront = text_test (codes "<less>!") refl
word_text TagFront = text_test (codes "<less>") refl
word_text End = text_test (codes "<gtr>") refl
word_text Bar = text_test (codes "|") refl
word_text Blank = text_test (codes " ") refl
word_text Bad = text_test (codes "bad") refl
word_text UndefinedTag = text_test (codes "undefined-tag") refl
word_text Medium = text_test (codes "medium") refl
word_text Right = text_test (codes "right") refl
word_text Black = text_test (codes "black") refl
word_text Left = text_test (codes "left") refl

short_test : (w : Word) → nat_le (length (word_bytes w)) 1048575 ≡ true
short_test ErrorFront = refl
short_test TagFront = refl
short_test End = refl
short_test Bar = refl
short_test Blank = refl
short_test Bad = refl
short_test UndefinedTag = refl
short_test Medium = refl
short_test Right = refl
short_test Black = refl
short_test Left = refl

pub word_short : (w : Word) → length (word_bytes w) ≤ 1048575
word_short w = leb-true (length (word_bytes w)) 1048575 (short_test w)

pub label_is_text : (label : List ℕ) → IsLabel label → IsText label
label_is_text label h = label_text label h

pub label_short : (label : List ℕ) → IsLabel label → length label ≤ 1048575
label_short label h = omega (arith, h.short)

pub ruleset words = (word_text, word_short, label_is_text, label_short, right_text)
