-- Lines that are commands.
use Rattle.std.proofs.Common.{◌≡◌, ℕ, ◌+◌, ◌≤◌, List, [], ◌∷◌, ◌++◌, length, refl, sym, ap}
use Rattle.std.proofs.Common.{arith, length-append}
use Rattle.std.specs.Prelude.{codes, decimal, Option, Some, None, MatchOption}
use Rattle.std.proofs.lemmas.List.{append-nil}
use Rattle.tx_tree.specs.Texts.{IsText}
use Rattle.tx_tree.specs.PathSpelling.{SpellsPath}
use Rattle.tx_tree.specs.Limits.{IsWithinLimits}
use Rattle.tx_tree.specs.WideTree.{leaf}
use Rattle.tx_tree.proofs.PathsPrinted.{decimal_number}
use Rattle.tx_scm.specs.Spelling.{Spells, string_of}
use Rattle.tx_mod.specs.declared.mods.Mod.TheVariants.{Join, Remove}
use Rattle.tx_cmd.specs.declared.command.Command.TheVariants.{At, Change, Go, Save, Typed}
use Rattle.tx_cmd.specs.Values.{Means, a_text}
use Rattle.tx_cmd.specs.Words.{IsFileName}
use Rattle.tx_telling.specs.Lines.{HasNoLine, HasNoLineEnd, IsScriptLine}
use Rattle.tx_telling.proofs.Ends.{above, both, file_name_ends_none, number_ends_none, path_ends_none}
use Rattle.tx_telling.proofs.Ends.{string_ends_none}
use Rattle.tx_telling.proofs.Lengths.{path_short, string_short}

after_word : (piece : List ℕ) → 32 ∷ piece ≡ 32 ∷ (piece ++ [])
after_word piece = ap (λ x. 32 ∷ x) (sym (append-nil piece))

-- ---- names

pub at_name : (name : List ℕ) → IsFileName name → IsScriptLine (codes "at" ++ 32 ∷ name) (At name)
at_name name h =
    record {
      is_command = (
        omega (arith, h.short),
        (32 ∷ name, (name, [], (h, refl), refl, after_word name), refl),
      );
      no_end = (
        above 97 (omega arith),
        (above 116 (omega arith), (above 32 (omega arith), file_name_ends_none name h)),
      );
    }

pub save_name : (name : List ℕ) → IsFileName name → IsScriptLine (codes "save" ++ 32 ∷ name) (Save name)
save_name name h =
    record {
      is_command = (
        omega (arith, h.short),
        (32 ∷ name, (name, [], (h, refl), refl, after_word name), refl),
      );
      no_end = both (codes "save ") name save_ends_none (file_name_ends_none name h);
    }
  where
    save_ends_none : HasNoLineEnd (codes "save ")
    save_ends_none = (
      above 115 (omega arith),
      (above 97 (omega arith), (above 118 (omega arith), (above 101 (omega arith), (above 32 (omega arith), tt)))),
    )

-- ---- paths

pub go_path : (piece path : List ℕ) → SpellsPath piece path → IsScriptLine (codes "go " ++ piece) (Go path)
go_path piece path h =
    record {
      is_command = (
        omega (arith, path_short piece path h),
        (32 ∷ piece, (piece, [], h, refl, after_word piece), refl),
      );
      no_end = (
        above 103 (omega arith),
        (above 111 (omega arith), (above 32 (omega arith), path_ends_none piece path h)),
      );
    }

-- ---- modifications

pub remove_from : (piece path : List ℕ) (from count : ℕ) → SpellsPath piece path → from ≤ 4294967295
    → count ≤ 4294967295
    → IsScriptLine (codes "remove " ++ (piece ++ 32 ∷ (decimal from ++ 32 ∷ decimal count)))
    (Change (Remove path from count))
remove_from piece path from count h small few =
    let first = decimal_number from small in
    let second = decimal_number count few in
    let last = 32 ∷ decimal count in
    let more = 32 ∷ (decimal from ++ last) in
    record {
      is_command = (
        omega (
          arith,
          path_short piece path h,
          first.short,
          second.short,
          length-append piece more,
          length-append (decimal from) last,
        ),
        (
          32 ∷ (piece ++ more),
          (
            piece,
            more,
            h,
            (decimal from, last, first, (decimal count, [], second, refl, after_word (decimal count)), refl),
            refl,
          ),
          refl,
        ),
      );
      no_end = both (codes "remove ") (piece ++ more) remove_ends_none
          (both piece more (path_ends_none piece path h) (
            above 32 (omega arith),
            both (decimal from) last (number_ends_none (decimal from) from first)
                (above 32 (omega arith), number_ends_none (decimal count) count second),
          ));
    }
  where
    remove_ends_none : HasNoLineEnd (codes "remove ")
    remove_ends_none = (
      above 114 (omega arith),
      (
        above 101 (omega arith),
        (
          above 109 (omega arith),
          (
            above 111 (omega arith),
            (above 118 (omega arith), (above 101 (omega arith), (above 32 (omega arith), tt))),
          ),
        ),
      ),
    )

pub join_at : (piece path : List ℕ) (child : ℕ) → SpellsPath piece path → child ≤ 4294967295
    → IsScriptLine (codes "join " ++ (piece ++ 32 ∷ decimal child)) (Change (Join path child))
join_at piece path child h small =
    let number = decimal_number child small in
    let last = 32 ∷ decimal child in
    record {
      is_command = (
        omega (arith, path_short piece path h, number.short, length-append piece last),
        (
          32 ∷ (piece ++ last),
          (piece, last, h, (decimal child, [], number, refl, after_word (decimal child)), refl),
          refl,
        ),
      );
      no_end = both (codes "join ") (piece ++ last) join_ends_none
          (both piece last (path_ends_none piece path h)
          (above 32 (omega arith), number_ends_none (decimal child) child number));
    }
  where
    join_ends_none : HasNoLineEnd (codes "join ")
    join_ends_none = (
      above 106 (omega arith),
      (above 111 (omega arith), (above 105 (omega arith), (above 110 (omega arith), (above 32 (omega arith), tt)))),
    )

-- ---- texts

leaf_within : (text : List ℕ) → length text ≤ 1048575 → IsWithinLimits (leaf text)
leaf_within text h = record { text = h; arity = omega arith; depth = omega arith; size = omega arith }

string_spells : (text : List ℕ) → IsText text → Spells (string_of text) (leaf text)
string_spells text h = ([], string_of text, [], tt, (h, refl), tt, sym (append-nil (string_of text)))

pub type_text : (text : List ℕ) → IsText text → length text ≤ 1048575 → 5 + length (string_of text) ≤ 1048576
    → IsScriptLine (codes "type " ++ string_of text) (Typed text)
type_text text h short room =
    let string = string_of text in
    let spells : Means string (a_text text) = (string_spells text h, leaf_within text short) in
    record {
      is_command = (
        omega arith,
        (32 ∷ string, (string, [], spells, refl, after_word string), refl),
      );
      no_end = both (codes "type ") string type_ends_none (string_ends_none text h);
    }
  where
    type_ends_none : HasNoLineEnd (codes "type ")
    type_ends_none = (
      above 116 (omega arith),
      (above 121 (omega arith), (above 112 (omega arith), (above 101 (omega arith), (above 32 (omega arith), tt)))),
    )

pub has_line : (text : List ℕ) → IsText text → length text ≤ 520000 → HasNoLine (Typed text) → ⊥
has_line text h short none =
    let line = type_text text h (omega arith) (omega (arith, string_short text)) in
    none (codes "type " ++ string_of text) line.is_command

-- ---- lines that there may be

-- what follows of a line, where there is one
pub told_weaker : {V : Type 0} (told : Option V) (N : Type 0) (P Q : V → Type 0) → ((v : V) → P v → Q v)
    → MatchOption told N P → MatchOption told N Q
told_weaker None N P Q f h = h
told_weaker (Some v) N P Q f h = f v h
