-- What the pieces of a line that has the form of a command evaluate to.
use Rattle.std.proofs.Common.{◌≡◌, ◌≢◌, ℕ, ◌+◌, ◌≤◌, true, List, [], ◌∷◌, ◌++◌, length, Some, Result, Ok, Err, inl, inr}
use Rattle.std.proofs.Common.{⊎_elim, refl, sym, ap, subst, ◌∙◌}
use Rattle.std.specs.Result.{IfErr, result_err}
use Rattle.tx_base.specs.Fronts.{IsLongestFront}
use Rattle.tx_cmd.specs.declared.command.CmdFault.{CmdFault}
use Rattle.tx_cmd.specs.declared.command.CmdFault.TheVariants.{Long, Unknown, Args, Path, Tree, Memory}
use Rattle.tx_cmd.specs.declared.words.ArgumentKind.{ArgumentKind}
use Rattle.tx_cmd.specs.declared.words.ArgumentKind.TheVariants.{Path as PathArgument, Number as NumberArgument}
use Rattle.tx_cmd.specs.declared.words.ArgumentKind.TheVariants.{Label as LabelArgument, Name as NameArgument}
use Rattle.tx_cmd.specs.declared.words.ArgumentKind.TheVariants.{Tree as TreeArgument, Text as TextArgument}
use Rattle.tx_cmd.specs.declared.words.Word.{Word}
use Rattle.tx_cmd.specs.Words.{up_to_space, word_text, arguments_of, AreLoose, IsLoose}
use Rattle.tx_cmd.specs.Values.{Value, argument_kind, Means, HasMeaning}
use Rattle.tx_cmd.specs.Pieces.{IsCutPiece, tree_is_last, IsMisfit}
use Rattle.tx_cmd.specs.Refusals.{IsBadPath, IsBadTree, SpellsNode, IsBadPiece, IsFirstFault, HasNoForm}
use Rattle.tx_cmd.specs.Refusals.{IsRefused, IsCmdFault}
use Rattle.tx_cmd.specs.declared.TheConstants.{MOST_LINE}
use Rattle.tx_cmd.proofs.LooseFronts.{loose_cut, line_misfit}

-- the first piece is bad
pub fault_here : (a : ArgumentKind) (more : List ArgumentKind) (bytes piece rest : List ℕ) (at : ℕ) (fault : CmdFault)
    → tree_is_last (a ∷ more) ≡ true → IsCutPiece a bytes piece rest → AreLoose (a ∷ more) bytes
    → IsBadPiece a piece (at + 1) fault → IsFirstFault (a ∷ more) bytes at fault
fault_here a more bytes piece rest at fault o c h bad =
    let w = loose_cut a more bytes piece rest o c h in (piece, rest, c.are, w.0, w.1, inl bad)

-- the first piece is good, and one after it is bad
pub fault_behind : (v : Value) (more : List ArgumentKind) (bytes piece rest : List ℕ) (at : ℕ) (fault : CmdFault)
    → tree_is_last (argument_kind v ∷ more) ≡ true → IsCutPiece (argument_kind v) bytes piece rest
    → AreLoose (argument_kind v ∷ more) bytes → Means piece v → IsFirstFault more rest (at + 1 + length piece) fault
    → IsFirstFault (argument_kind v ∷ more) bytes at fault
fault_behind v more bytes piece rest at fault o c h means bad =
    let w = loose_cut (argument_kind v) more bytes piece rest o c h in
    (piece, rest, c.are, w.0, w.1, inr ((v, refl, means), bad))

-- a line that has not the form of a command with its first word
pub args_fault : (w : Word) (line first rest : List ℕ) (n : ℕ) → length line ≤ MOST_LINE → first ≡ up_to_space line
    → first ≡ word_text w → line ≡ first ++ rest → IsMisfit (arguments_of w) rest (Some n)
    → IsCmdFault line (Args (length first + n))
args_fault w line first rest n short is_first is_word are h =
    let m = line_misfit w rest n h in
    let same : word_text w ≡ up_to_space line = sym is_word ∙ is_first in
    let whole : word_text w ++ rest ≡ line = ap (λ x. x ++ rest) (sym is_word) ∙ sym are in
    let none : IsLoose (up_to_space line) line
    → ⊥ = subst (λ x. IsLoose x line → ⊥) same (subst (λ x. IsLoose (word_text w) x → ⊥) whole m.0) in
    let front : IsLongestFront (IsLoose (up_to_space line)) line (length (word_text w) + n) = subst
    (λ x. IsLongestFront (IsLoose x) line (length (word_text w) + n)) same
    (subst (λ x. IsLongestFront (IsLoose (word_text w)) x (length (word_text w) + n)) whole m.1) in
    let there = subst (λ x. IsLongestFront (IsLoose (up_to_space line)) line (length x + n)) (sym is_word) front in
    let form : HasNoForm line (length first + n) = record { known = (w, sym same); none = none; front = there } in
    (short, inl form)

-- ---- which faults pieces have

abbrev pub IsPieceFault : CmdFault → Type 0
IsPieceFault (Path n) = Unit {0}
IsPieceFault (Tree fault) = Unit {0}
IsPieceFault (Args n) = Unit {0}
IsPieceFault (Long n) = ⊥
IsPieceFault Unknown = ⊥
IsPieceFault Memory = ⊥

bad_path_kind : (piece : List ℕ) (at : ℕ) (f : CmdFault) → IsBadPath piece at f → IsPieceFault f
bad_path_kind piece at (Path n) h = tt
bad_path_kind piece at (Tree fault) h = absurd h
bad_path_kind piece at (Long n) h = h
bad_path_kind piece at Unknown h = h
bad_path_kind piece at (Args n) h = absurd h
bad_path_kind piece at Memory h = h

bad_tree_kind : (piece : List ℕ) (at : ℕ) (f : CmdFault) → IsBadTree piece at f → IsPieceFault f
bad_tree_kind piece at (Tree fault) h = tt
bad_tree_kind piece at (Path n) h = absurd h
bad_tree_kind piece at (Long n) h = h
bad_tree_kind piece at Unknown h = h
bad_tree_kind piece at (Args n) h = absurd h
bad_tree_kind piece at Memory h = h

bad_kind : (a : ArgumentKind) (piece : List ℕ) (at : ℕ) (f : CmdFault) → IsBadPiece a piece at f → IsPieceFault f
bad_kind PathArgument piece at f h = bad_path_kind piece at f h
bad_kind TreeArgument piece at f h = bad_tree_kind piece at f h
bad_kind TextArgument piece at f h =
    ⊎_elim
    (λ (x : IsBadTree piece at f). bad_tree_kind piece at f x)
    (λ (y : SpellsNode piece × (f ≡ Args at)). subst IsPieceFault (sym y.1) tt)
    h
bad_kind NumberArgument piece at f h = absurd h
bad_kind LabelArgument piece at f h = absurd h
bad_kind NameArgument piece at f h = absurd h

pub first_kind : (arguments : List ArgumentKind) (bytes : List ℕ) (at : ℕ) (f : CmdFault)
    → IsFirstFault arguments bytes at f → IsPieceFault f
first_kind [] bytes at f h = absurd h
first_kind (a ∷ more) bytes at f h =
    ⊎_elim (λ (x : IsBadPiece a h.0 (at + 1) f). bad_kind a h.0 (at + 1) f x)
    (λ (y : HasMeaning a h.0 × IsFirstFault more h.1 (at + 1 + length h.0) f). first_kind more h.1
    (at + 1 + length h.0) f y.1) h.5

refused : (w : Word) (line first rest : List ℕ) (f : CmdFault) → first ≡ word_text w → line ≡ first ++ rest
    → IsFirstFault (arguments_of w) rest (length first) f → IsRefused line f
refused w line first rest f is_word are h =
    let behind = subst (λ x. IsFirstFault (arguments_of w) rest (length x) f) is_word h in
    (w, rest, are ∙ ap (λ x. x ++ rest) is_word, behind)

-- a line whose pieces have a fault
pub piece_fault : (w : Word) (line first rest : List ℕ) (f : CmdFault) → length line ≤ MOST_LINE → first ≡ word_text w
    → line ≡ first ++ rest
    → (f ≢ Memory → IsFirstFault (arguments_of w) rest (length first) f) → IsCmdFault line f
piece_fault w line first rest (Long n) short is_word are h =
    absurd (first_kind (arguments_of w) rest (length first) (Long n) (h (λ e. cc)))
piece_fault w line first rest Unknown short is_word are h =
    absurd (first_kind (arguments_of w) rest (length first) Unknown (h (λ e. cc)))
piece_fault w line first rest (Args n) short is_word are h =
    (short, inr (refused w line first rest (Args n) is_word are (h (λ e. cc))))
piece_fault w line first rest (Path n) short is_word are h =
    (short, refused w line first rest (Path n) is_word are (h (λ e. cc)))
piece_fault w line first rest (Tree fault) short is_word are h =
    (short, refused w line first rest (Tree fault) is_word are (h (λ e. cc)))
piece_fault w line first rest Memory short is_word are h = tt

-- ---- results of calls

pub err_there : {A E : Type 0} (P : E → Type 0) (r : Result A E) (x : E) → result_err r ≡ Some x → IfErr r P → P x
err_there P (Ok y) x e h = absurd cc
err_there P (Err y) x e h = let same : y ≡ x = cc in subst P same h
