-- Words are spelled differently, and without a space.
use Rattle.std.proofs.Common.{◌≡◌, ℕ, eqb, Bool, true, false, not, ◌&&◌, cond, List, [], ◌∷◌, find, Option, Some, None}
use Rattle.std.proofs.Common.{refl, sym, ap, subst, ◌∙◌}
use Rattle.std.specs.Prelude.{MatchOption}
use Rattle.std.proofs.lemmas.Slice.Eq.{bytes_eq-Decides}
use Rattle.std.specs.Str.{bytes_eq}
use Rattle.std.proofs.lemmas.Bool.{and_parts}
use borrow.Author.Tests.{eqb-false}
use Rattle.tx_cmd.specs.declared.words.ModWord.TheVariants.{Assign, Insert, Remove, Split, Join, AssignNode, InsertNode}
use Rattle.tx_cmd.specs.declared.words.ModWord.TheVariants.{RemoveNode}
use Rattle.tx_cmd.specs.declared.words.Word.{Word}
use Rattle.tx_cmd.specs.declared.words.Word.TheVariants.{Change, Undo, Redo, At, Go, Click, Left, Right, Typed}
use Rattle.tx_cmd.specs.declared.words.Word.TheVariants.{UndoAt}
use Rattle.tx_cmd.specs.declared.words.Word.TheVariants.{Backspace, Enter, Show, Page, Errors, Where, Cursor, Attrs}
use Rattle.tx_cmd.specs.declared.words.Word.TheVariants.{Work, Tree, Save, Quit}
use Rattle.tx_cmd.specs.Words.{word_text, arguments_of, HasNoSpace, IsKnown}
use Rattle.tx_cmd.specs.Pieces.{tree_is_last}

-- all words, and the one that is spelled so
abbrev all_words : List Word
all_words =
    Change Assign ∷ Change Insert ∷ Change Remove ∷ Change Split ∷ Change Join ∷ Change AssignNode ∷ Change InsertNode
    ∷ Change RemoveNode ∷ Undo ∷ UndoAt ∷ Redo ∷ At ∷ Go ∷ Click ∷ Left ∷ Right ∷ Typed ∷ Backspace ∷ Enter
    ∷ Show ∷ Page ∷ Errors ∷ Where ∷ Cursor ∷ Attrs ∷ Work ∷ Tree ∷ Save ∷ Quit ∷ []

abbrev pub word_named : List ℕ → Option Word
word_named x = find (λ w. bytes_eq (word_text w) x) all_words

named : (w : Word) → word_named (word_text w) ≡ Some w
named (Change Assign) = refl
named (Change Insert) = refl
named (Change Remove) = refl
named (Change Split) = refl
named (Change Join) = refl
named (Change AssignNode) = refl
named (Change InsertNode) = refl
named (Change RemoveNode) = refl
named Undo = refl
named UndoAt = refl
named Redo = refl
named At = refl
named Go = refl
named Click = refl
named Left = refl
named Right = refl
named Typed = refl
named Backspace = refl
named Enter = refl
named Show = refl
named Page = refl
named Errors = refl
named Where = refl
named Cursor = refl
named Attrs = refl
named Work = refl
named Tree = refl
named Save = refl
named Quit = refl

pub one_word : (w v : Word) → word_text w ≡ word_text v → w ≡ v
one_word w v e = let same : Some w ≡ Some v = sym (named w) ∙ ap word_named e ∙ named v in cc

passes : (p : Word → Bool) (ws : List Word) (w : Word) → find p ws ≡ Some w → p w ≡ true
passes p [] w e = absurd cc
passes p (v ∷ ws) w e =
    elim (p v) as (λ c. p v ≡ c → cond c (Some v) (find p ws) ≡ Some w → p w ≡ true) [
      | true ↦ λ t f. let same : v ≡ w = cc in subst (λ u. p u ≡ true) same t
      | false ↦ λ t f. passes p ws w f
    ] refl e

-- what a search for the word returns
pub known : (x : List ℕ) (r : Option Word) → r ≡ word_named x → MatchOption r (¬ IsKnown x) (λ w. x ≡ word_text w)
known x None e = λ k. let there : None ≡ Some k.0 = e ∙ ap word_named k.1 ∙ named k.0 in absurd cc
known x (Some w) e =
    sym ((bytes_eq-Decides (word_text w) x).0 (passes (λ w. bytes_eq (word_text w) x) all_words w (sym e)))

abbrev has_no_space : List ℕ → Bool
has_no_space [] = true
has_no_space (b ∷ x) = not (eqb b 32) && has_no_space x

not_true : (c : Bool) → not c ≡ true → c ≡ false
not_true true e = absurd cc
not_true false e = refl

tested : (x : List ℕ) → has_no_space x ≡ true → HasNoSpace x
tested [] h = tt
tested (b ∷ x) h = let parts = and_parts _ _ h in (eqb-false b 32 (not_true (eqb b 32) parts.0), tested x parts.1)

spelled_without : (w : Word) → has_no_space (word_text w) ≡ true
spelled_without (Change Assign) = refl
spelled_without (Change Insert) = refl
spelled_without (Change Remove) = refl
spelled_without (Change Split) = refl
spelled_without (Change Join) = refl
spelled_without (Change AssignNode) = refl
spelled_without (Change InsertNode) = refl
spelled_without (Change RemoveNode) = refl
spelled_without Undo = refl
spelled_without UndoAt = refl
spelled_without Redo = refl
spelled_without At = refl
spelled_without Go = refl
spelled_without Click = refl
spelled_without Left = refl
spelled_without Right = refl
spelled_without Typed = refl
spelled_without Backspace = refl
spelled_without Enter = refl
spelled_without Show = refl
spelled_without Page = refl
spelled_without Errors = refl
spelled_without Where = refl
spelled_without Cursor = refl
spelled_without Attrs = refl
spelled_without Work = refl
spelled_without Tree = refl
spelled_without Save = refl
spelled_without Quit = refl

pub word_no_space : (w : Word) → HasNoSpace (word_text w)
word_no_space w = tested (word_text w) (spelled_without w)

pub arguments_in_order : (w : Word) → tree_is_last (arguments_of w) ≡ true
arguments_in_order (Change Assign) = refl
arguments_in_order (Change Insert) = refl
arguments_in_order (Change Remove) = refl
arguments_in_order (Change Split) = refl
arguments_in_order (Change Join) = refl
arguments_in_order (Change AssignNode) = refl
arguments_in_order (Change InsertNode) = refl
arguments_in_order (Change RemoveNode) = refl
arguments_in_order Undo = refl
arguments_in_order UndoAt = refl
arguments_in_order Redo = refl
arguments_in_order At = refl
arguments_in_order Go = refl
arguments_in_order Click = refl
arguments_in_order Left = refl
arguments_in_order Right = refl
arguments_in_order Typed = refl
arguments_in_order Backspace = refl
arguments_in_order Enter = refl
arguments_in_order Show = refl
arguments_in_order Page = refl
arguments_in_order Errors = refl
arguments_in_order Where = refl
arguments_in_order Cursor = refl
arguments_in_order Attrs = refl
arguments_in_order Work = refl
arguments_in_order Tree = refl
arguments_in_order Save = refl
arguments_in_order Quit = refl
