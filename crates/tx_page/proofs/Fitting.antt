-- A text is shown character by character while they fit.
use Rattle.std.proofs.Common.{◌≡◌, ℕ, ◌+◌, ◌-◌, ◌<◌, ◌≤◌, List, [], ◌∷◌, ◌++◌, append_assoc, length}
use Rattle.std.proofs.Common.{get_or, drop, map, refl, sym, ap, ◌∙◌, arith}
use Rattle.std.proofs.lemmas.Bool.{le-leb, lt-leb}
use Rattle.std.proofs.lemmas.List.{append-nil, at_drop_more, at_drop_all}
use Rattle.tx_terminal.specs.declared.inks.Ink.{Ink}
use Rattle.tx_terminal.specs.Characters.{Shown}
use Rattle.tx_page.specs.Texts.{code_cells, code_character, fitting}

-- what fits of the characters from one on
abbrev pub fitting_from : Ink → ℕ → List ℕ → List Shown
fitting_from ink left codes = fitting left (map (code_character ink) codes)

-- the next of the characters
abbrev pub IsNext : List ℕ → ℕ → ℕ → Type 0
IsNext codes n code = (n < length codes) × (code ≡ get_or codes n code)

from_next : (ink : Ink) (codes : List ℕ) (left n code : ℕ) → IsNext codes n code
    → fitting_from ink left (drop n codes) ≡ fitting_from ink left (code ∷ drop (n + 1) codes)
from_next ink codes left n code next =
    at_drop_more (fitting_from ink left) codes n code next.0
    ∙ ap (λ c. fitting_from ink left (c ∷ drop (n + 1) codes)) (sym next.1)

fits_next : (ink : Ink) (codes : List ℕ) (left code : ℕ) → code_cells code ≤ left
    → fitting_from ink left (code ∷ codes)
    ≡ code_character ink code ∷ fitting_from ink (left - code_cells code) codes
fits_next ink codes left code room = rw (le-leb (code_cells code) left room) refl

no_room : (ink : Ink) (codes : List ℕ) (left code : ℕ) → left < code_cells code
    → fitting_from ink left (code ∷ codes) ≡ []
no_room ink codes left code full = rw (lt-leb (code_cells code) left full) refl

pub goes_on : (ink : Ink) (codes : List ℕ) (row next whole : List Shown) (left n m code cells : ℕ) (s : Shown)
    → next ≡ row ++ s ∷ [] → s ≡ code_character ink code → cells ≡ code_cells code → cells ≤ left
    → IsNext codes n code → m ≡ n + 1 → row ++ fitting_from ink left (drop n codes) ≡ whole
    → next ++ fitting_from ink (left - cells) (drop m codes) ≡ whole
goes_on ink codes row next whole left n m code cells s pushed is same room at one before =
    let rest : List Shown = fitting_from ink (left - cells) (drop m codes) in
    let first : fitting_from ink left (drop n codes)
    ≡ code_character ink code ∷ fitting_from ink (left - code_cells code) (drop (n + 1) codes)
    = from_next ink codes left n code at ∙ fits_next ink (drop (n + 1) codes) left code (omega (arith, room, same)) in
    let step : s ∷ rest ≡ fitting_from ink left (drop n codes) = cc in
    ap (λ xs. xs ++ rest) pushed ∙ append_assoc row (s ∷ []) rest ∙ ap (λ xs. row ++ xs) step ∙ before

pub stops : (ink : Ink) (codes : List ℕ) (row whole : List Shown) (left n code cells : ℕ)
    → cells ≡ code_cells code → left < cells → IsNext codes n code
    → row ++ fitting_from ink left (drop n codes) ≡ whole → row ≡ whole
stops ink codes row whole left n code cells same full at before =
    let none : fitting_from ink left (drop n codes) ≡ []
    = from_next ink codes left n code at ∙ no_room ink (drop (n + 1) codes) left code (omega (arith, full, same)) in
    sym (append-nil row) ∙ ap (λ xs. row ++ xs) (sym none) ∙ before

pub ends : (ink : Ink) (codes : List ℕ) (row whole : List Shown) (left n : ℕ) → length codes ≤ n
    → row ++ fitting_from ink left (drop n codes) ≡ whole → row ≡ whole
ends ink codes row whole left n all before =
    let none : fitting_from ink left (drop n codes) ≡ [] = at_drop_all (fitting_from ink left) codes n all in
    sym (append-nil row) ∙ ap (λ xs. row ++ xs) (sym none) ∙ before
