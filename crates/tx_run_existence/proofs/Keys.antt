-- Where a key does nothing, the cause is another than that memory ran out.
use Rattle.std.proofs.Common.{◌≢◌, ◌==◌, ℕ, zero, suc, ◌+◌, if◌then◌else◌, List, [], ◌∷◌, ◌++◌, Option, Some, None}
use Rattle.std.proofs.Common.{Result}
use Rattle.std.proofs.Common.{Ok, Err}
use Rattle.std.specs.Prelude.{slice_get}
use Rattle.std.specs.Option.{option_map_or}
use Rattle.tx_tree.specs.WideTree.{WideTree}
use Rattle.tx_tree.specs.declared.places.Place.{Place}
use Rattle.tx_mod.proofs.Cases.{by_test}
use Rattle.tx_edit.specs.declared.faults.EditFault.{EditFault}
use Rattle.tx_edit.specs.declared.faults.EditFault.TheVariants.{NoText, AtStart, AtEnd, NotInParagraph, Memory}
use Rattle.tx_edit.specs.declared.moves.Move.{Move}
use Rattle.tx_edit.specs.declared.moves.Move.TheVariants.{Go as MoveTo}
use Rattle.tx_edit.specs.Keys.{text_at, is_document_at, is_concat_at, parent_of, cut_before, typed, without_item}
use Rattle.tx_edit.specs.Keys.{erased, erased_in, joined_to_former, joined_in, split_text, split_both, split_in_concat}
use Rattle.tx_edit.specs.Keys.{split_in, entered}
use Rattle.tx_edit.specs.Stops.{to_stop, to_left_of, to_right_of}

abbrev pub IsKeyCause : Result Move EditFault → Type 0
IsKeyCause (Ok move) = Unit {0}
IsKeyCause (Err fault) = fault ≢ Memory

by_option : {X : Type 0} (f : X → Result Move EditFault) (d : Result Move EditFault) (o : Option X) → IsKeyCause d
    → ((x : X) → IsKeyCause (f x)) → IsKeyCause (option_map_or f o d)
by_option f d None h k = h
by_option f d (Some x) h k = k x

pub typed_cause : (t : WideTree) (at : Place) (text : List ℕ) → IsKeyCause (typed t at text)
typed_cause t at text = by_option _ (Err NoText) (text_at t at.path) (λ e. cc) (λ old. tt)

joined_cause : (t : WideTree) (path : List ℕ) (k : ℕ) → IsKeyCause (joined_to_former t path k)
joined_cause t path zero = λ e. cc
joined_cause t path (suc i) = by_option _ (Err AtStart) (text_at t (path ++ i ∷ [])) (λ e. cc) (λ text. tt)

joined_in_cause : (t : WideTree) (last : Option (List ℕ × ℕ)) → IsKeyCause (joined_in t last)
joined_in_cause t None = λ e. cc
joined_in_cause t (Some last) =
    by_test IsKeyCause (is_document_at t last.0) (joined_to_former t last.0 last.1) (Err AtStart)
    (λ e. joined_cause t last.0 last.1) (λ e f. cc)

pub erased_cause : (t : WideTree) (at : Place) → IsKeyCause (erased t at)
erased_cause t at =
    by_option (erased_in t at.path at.offset) (Err NoText) (text_at t at.path) (λ e. cc)
    (λ text. by_test IsKeyCause (at.offset == 0) (joined_in t (parent_of at.path))
    (Ok (without_item at.path (cut_before text at.offset) at.offset)) (λ e. joined_in_cause t (parent_of at.path))
    (λ e. tt))

concat_cause : (t : WideTree) (j o : ℕ) (above : Option (List ℕ × ℕ)) → IsKeyCause (split_in_concat t j o above)
concat_cause t j o None = λ e. cc
concat_cause t j o (Some last) =
    by_test IsKeyCause (is_document_at t last.0) (Ok (split_both last.0 last.1 j o)) (Err NotInParagraph)
    (λ e. tt) (λ e f. cc)

split_cause : (t : WideTree) (o : ℕ) (above : Option (List ℕ × ℕ)) → IsKeyCause (split_in t o above)
split_cause t o None = λ e. cc
split_cause t o (Some last) =
    by_test IsKeyCause (is_document_at t last.0) (Ok (split_text last.0 last.1 o))
    (if is_concat_at t last.0 then split_in_concat t last.1 o (parent_of last.0) else Err NotInParagraph)
    (λ e. tt)
    (λ e. by_test IsKeyCause (is_concat_at t last.0) (split_in_concat t last.1 o (parent_of last.0))
    (Err NotInParagraph) (λ f. concat_cause t last.1 o (parent_of last.0)) (λ f g. cc))

pub entered_cause : (t : WideTree) (at : Place) → IsKeyCause (entered t at)
entered_cause t at =
    by_option (λ text. split_in t at.offset (parent_of at.path)) (Err NoText) (text_at t at.path) (λ e. cc)
    (λ text. split_cause t at.offset (parent_of at.path))

stop_cause : (stops : List Place) (k : ℕ) (cause : EditFault) → cause ≢ Memory → IsKeyCause (to_stop stops k cause)
stop_cause stops k cause h = by_option (λ stop. Ok (MoveTo stop)) (Err cause) (slice_get stops k) h (λ stop. tt)

pub left_cause : (stops : List Place) (o : Option ℕ) → IsKeyCause (to_left_of stops o)
left_cause stops None = stop_cause stops 0 AtStart (λ e. cc)
left_cause stops (Some zero) = λ e. cc
left_cause stops (Some (suc k)) = stop_cause stops k AtStart (λ e. cc)

pub right_cause : (stops : List Place) (o : Option ℕ) → IsKeyCause (to_right_of stops o)
right_cause stops None = stop_cause stops 0 AtEnd (λ e. cc)
right_cause stops (Some k) = stop_cause stops (k + 1) AtEnd (λ e. cc)
