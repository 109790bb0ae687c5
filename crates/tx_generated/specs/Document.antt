-- The text of a document that is generated from a number.
use Rattle.std.specs.Prelude.{ℕ, ◌+◌, ◌*◌, ◌/◌, ◌%◌, ◌^◌, ◌==◌, if◌then◌else◌, List, [], ◌∷◌, ◌++◌, map, get_or}
use Rattle.std.specs.Prelude.{codes, flat_map}
use Rattle.std.specs.Fn.{iterate}
use Rattle.std.specs.List.{join_by, range_with_len}

-- ---- numbers

-- a linear congruential generator: the number after this one
abbrev pub next : ℕ → ℕ
next x = (x * 1103515245 + 12345) % 2 ^ 31

-- the i-th number after the first one, without its 16 low bits
abbrev pub drawn_number : ℕ → ℕ → ℕ
drawn_number first i = iterate next i first / 2 ^ 16

-- ---- paragraphs

abbrev pub words : List (List ℕ)
words =
    codes "tree" ∷ codes "path" ∷ codes "style" ∷ codes "macro" ∷ codes "value" ∷ codes "cell" ∷ codes "line"
    ∷ codes "page" ∷ []

-- the word of this number, where the words go round
abbrev pub word : ℕ → List ℕ
word n = get_or words (n % 8) []

-- the first word: as it is, in a tag, after an assignment of it, or after the value
abbrev pub leading_word : ℕ → List ℕ → List ℕ
leading_word kind w =
    if kind == 0 then w
    else if kind == 1 then codes "<em|" ++ w ++ codes ">"
    else if kind == 2 then codes "<assign|v|" ++ w ++ codes ">" ++ w
    else codes "<value|v> " ++ w

-- five words more, a space before each
abbrev pub more_words : ℕ → ℕ → List ℕ
more_words a step = flat_map (λ j. codes " " ++ word (a + j * step)) (range_with_len 1 5)

-- Six words, of which each is so many further than the one before. The low bits of the number that was drawn give the
-- first word, those above them the step, which is odd, and the two above these the kind.
abbrev pub generated_paragraph : ℕ → List ℕ
generated_paragraph drawn =
    leading_word (drawn / 64 % 4) (word (drawn % 8)) ++ more_words (drawn % 8) (2 * (drawn / 8 % 8) + 1)

-- ---- the document

-- an assignment, and so many paragraphs after it
abbrev pub generated_paragraphs : ℕ → ℕ → List (List ℕ)
generated_paragraphs number count =
    codes "<assign|v|tree>" ∷ map (λ i. generated_paragraph (drawn_number number i)) (range_with_len 1 count)

-- an empty line between two paragraphs
abbrev pub document_text : ℕ → ℕ → List ℕ
document_text number count = join_by (λ text. text) (10 ∷ 10 ∷ []) (generated_paragraphs number count)
