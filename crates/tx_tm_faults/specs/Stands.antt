-- Where a byte is among open tags, as the machine with marks sees it.
use Rattle.std.specs.Prelude.{◌≡◌, ℕ, List, [], ◌∷◌, length, take, drop, map, reverse, Option, Some, None}
use Rattle.tx_tm_form.specs.declared.marks.TagMark.{TagMark}
use Rattle.tx_tm_form.specs.Marks.{Standing}
use Rattle.tx_tm_faults.specs.declared.marking.OpenMark.{OpenMark}
use Rattle.tx_tm_faults.specs.declared.marking.Stand.{Stand}

-- the part is at this place of the bytes
abbrev pub BytesStandAt : List ℕ → ℕ → List ℕ → Type 0
BytesStandAt bytes at part = take (length part) (drop at bytes) ≡ part

abbrev pub label_of_mark : List ℕ → OpenMark → List ℕ
label_of_mark bytes m = take m.label_len (drop m.label_at bytes)

abbrev pub mark_in : List ℕ → OpenMark → TagMark
mark_in bytes m = record { at = m.at; label = label_of_mark bytes m; inner = m.inner }

-- the innermost first
abbrev pub tag_marks : List ℕ → List OpenMark → List TagMark
tag_marks bytes ms = map (mark_in bytes) (reverse ms)

abbrev pub standing_of : List ℕ → Stand → Standing
standing_of bytes s = record { inside = s.inside; marks = tag_marks bytes s.marks.items }

abbrev pub stood : List ℕ → Option Stand → Option Standing
stood bytes None = None
stood bytes (Some s) = Some (standing_of bytes s)

abbrev pub first_mark : List OpenMark → Option OpenMark
first_mark [] = None
first_mark (m ∷ ms) = Some m
