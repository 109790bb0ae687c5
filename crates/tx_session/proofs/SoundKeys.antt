-- What keys put into a document is sound.
use Rattle.std.proofs.Common.{ℕ, zero, suc, ◌+◌, ◌==◌, if◌then◌else◌, List, [], ◌∷◌, ◌++◌, Option, Some, None, Result}
use Rattle.std.proofs.Common.{Ok, Err}
use Rattle.std.specs.Prelude.{slice_get}
use Rattle.std.specs.Option.{option_map_or}
use Rattle.tx_tree.specs.Texts.{IsText}
use Rattle.tx_tree.specs.WideTree.{WideTree, leaf}
use Rattle.tx_tree.specs.declared.places.Place.{Place}
use Rattle.tx_scm.proofs.Spelled.{well_formed}
use Rattle.tx_mod.specs.InTurn.{AreSoundMods}
use Rattle.tx_mod.proofs.Cases.{by_test}
use Rattle.tx_edit.specs.declared.faults.EditFault.{EditFault}
use Rattle.tx_edit.specs.declared.faults.EditFault.TheVariants.{NoText, AtStart, AtEnd, NotInParagraph}
use Rattle.tx_edit.specs.declared.moves.Move.{Move}
use Rattle.tx_edit.specs.declared.moves.Move.TheVariants.{Edit as KeyEdit, Go as MoveTo}
use Rattle.tx_edit.specs.Keys.{text_at, is_document_at, is_concat_at, parent_of, cut_before, typed, without_item}
use Rattle.tx_edit.specs.Keys.{erased}
use Rattle.tx_edit.specs.Keys.{erased_in, joined_to_former, joined_in, split_text, split_both, split_in_concat}
use Rattle.tx_edit.specs.Keys.{split_in}
use Rattle.tx_edit.specs.Keys.{entered}
use Rattle.tx_edit.specs.Stops.{to_stop, to_left_of, to_right_of}
use Rattle.tx_cmd.specs.declared.command.Command.TheVariants.{Typed}
use Rattle.tx_cmd.specs.Commands.{IsCommand}

-- the modifications of a key are sound
abbrev pub IsSoundKey : Result Move EditFault → Type 0
IsSoundKey (Ok (KeyEdit mods to)) = AreSoundMods mods
IsSoundKey (Ok (MoveTo to)) = Unit {0}
IsSoundKey (Err fault) = Unit {0}

-- what holds of all results holds of the result
by_option : {X : Type 0} (f : X → Result Move EditFault) (d : Result Move EditFault) (o : Option X) → IsSoundKey d
    → ((x : X) → IsSoundKey (f x)) → IsSoundKey (option_map_or f o d)
by_option f d None h k = h
by_option f d (Some x) h k = k x

pub typed_sound : (text : List ℕ) (t : WideTree) (at : Place) → IsText text → IsSoundKey (typed t at text)
typed_sound text t at h = by_option _ (Err NoText) (text_at t at.path) tt (λ old. (h, tt))

joined_sound : (t : WideTree) (path : List ℕ) (k : ℕ) → IsSoundKey (joined_to_former t path k)
joined_sound t path zero = tt
joined_sound t path (suc i) = by_option _ (Err AtStart) (text_at t (path ++ i ∷ [])) tt (λ text. (tt, tt))

joined_in_sound : (t : WideTree) (last : Option (List ℕ × ℕ)) → IsSoundKey (joined_in t last)
joined_in_sound t None = tt
joined_in_sound t (Some last) =
    by_test IsSoundKey (is_document_at t last.0) (joined_to_former t last.0 last.1) (Err AtStart)
    (λ e. joined_sound t last.0 last.1) (λ e. tt)

pub erased_sound : (t : WideTree) (at : Place) → IsSoundKey (erased t at)
erased_sound t at =
    by_option (erased_in t at.path at.offset) (Err NoText) (text_at t at.path) tt
    (λ text. by_test IsSoundKey (at.offset == 0) (joined_in t (parent_of at.path))
    (Ok (without_item at.path (cut_before text at.offset) at.offset)) (λ e. joined_in_sound t (parent_of at.path))
    (λ e. (tt, tt)))

concat_sound : (t : WideTree) (j o : ℕ) (above : Option (List ℕ × ℕ)) → IsSoundKey (split_in_concat t j o above)
concat_sound t j o None = tt
concat_sound t j o (Some last) =
    by_test IsSoundKey (is_document_at t last.0) (Ok (split_both last.0 last.1 j o)) (Err NotInParagraph)
    (λ e. (tt, (tt, tt))) (λ e. tt)

split_sound : (t : WideTree) (o : ℕ) (above : Option (List ℕ × ℕ)) → IsSoundKey (split_in t o above)
split_sound t o None = tt
split_sound t o (Some last) =
    by_test IsSoundKey (is_document_at t last.0) (Ok (split_text last.0 last.1 o))
    (if is_concat_at t last.0 then split_in_concat t last.1 o (parent_of last.0) else Err NotInParagraph)
    (λ e. (tt, tt))
    (λ e. by_test IsSoundKey (is_concat_at t last.0) (split_in_concat t last.1 o (parent_of last.0))
    (Err NotInParagraph) (λ f. concat_sound t last.1 o (parent_of last.0)) (λ f. tt))

pub entered_sound : (t : WideTree) (at : Place) → IsSoundKey (entered t at)
entered_sound t at =
    by_option (λ text. split_in t at.offset (parent_of at.path)) (Err NoText) (text_at t at.path) tt
    (λ text. split_sound t at.offset (parent_of at.path))

stop_sound : (stops : List Place) (k : ℕ) (cause : EditFault) → IsSoundKey (to_stop stops k cause)
stop_sound stops k cause = by_option (λ stop. Ok (MoveTo stop)) (Err cause) (slice_get stops k) tt (λ stop. tt)

pub left_sound : (stops : List Place) (o : Option ℕ) → IsSoundKey (to_left_of stops o)
left_sound stops None = stop_sound stops 0 AtStart
left_sound stops (Some zero) = tt
left_sound stops (Some (suc k)) = stop_sound stops k AtStart

pub right_sound : (stops : List Place) (o : Option ℕ) → IsSoundKey (to_right_of stops o)
right_sound stops None = stop_sound stops 0 AtEnd
right_sound stops (Some k) = stop_sound stops (k + 1) AtEnd

-- the text that a line types is a text
pub typed_text : (line text : List ℕ) → IsCommand line (Typed text) → IsText text
typed_text line text h = well_formed h.1.1.0 (leaf text) h.1.1.2.0
