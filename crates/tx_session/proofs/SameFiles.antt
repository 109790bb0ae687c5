-- Lines with the same marks leave the same files.
use Rattle.std.proofs.Common.{◌≡◌, ◌≢◌, ℕ, Bool, true, false, List, [], ◌∷◌, Option, Some, None, refl}
use Rattle.std.proofs.Common.{ap, sym, subst, ◌∙◌, arith}
use Rattle.std.specs.Prelude.{bytes_eq}
use Rattle.std.proofs.lemmas.Slice.Eq.{bytes_eq-Decides}
use Rattle.tx_outside.specs.Files.{Files, file_of, WithFile}
use Rattle.tx_outside.specs.Known.{WhereKnown}
use Rattle.tx_outside.specs.Outside.{StoreSeen}
use Rattle.tx_session.specs.declared.status.Status.{Status}
use Rattle.tx_session.specs.declared.status.Status.TheVariants as statuses
use Rattle.tx_session.specs.Differences.{HoldSameFiles}
use Rattle.tx_open.specs.Outcomes.{OpenOutcome, faulty_words, missing, too_long as file_too_long, no_tree, store_fault}
use Rattle.tx_open.specs.Outcomes.{no_memory, opened, generated, ComesTo}
use Rattle.tx_session.specs.Replies.{Reading, nothing, too_long, unread, command, faulty, IsReplyTo}
use Rattle.tx_session.specs.Replies.{IsLineReply}
use Rattle.tx_session.specs.Runs.{IsFinal, IsPlayed, IsWhole, Outside, start_with}
use Rattle.tx_session.specs.Scripts.{Answered, before_quit, command_line}
use Rattle.tx_session.specs.States.{saved_by}
use Rattle.tx_session.specs.Worlds.{SeenSession, World, LineMark, plain, lacking, unsaved, told, StoresFile}
use Rattle.tx_session.specs.Worlds.{unsaved_in}
use Rattle.tx_session.proofs.Answering.{OneView}
use Rattle.tx_session.proofs.Determined.{one_reading, was_read, one_line_reply, decided, told_script}
use Rattle.tx_session.proofs.Determined.{one_run as one_text_run}
use Rattle.tx_session.proofs.Openings.{OneOutcome}
use Rattle.tx_session.proofs.Lining.{script_lines_once}

-- both hold these files
pub both_tell : (a b : Option Files) (all : Files) → a ≡ Some all → b ≡ Some all → HoldSameFiles a b
both_tell a b all e f =
    subst (λ z. HoldSameFiles a z) (sym f) (subst (λ z. HoldSameFiles z (Some all)) (sym e) (λ name. refl))

moved : (a b c d : Option Files) → b ≡ a → d ≡ c → HoldSameFiles a c → HoldSameFiles b d
moved a b c d e f h = subst (λ z. HoldSameFiles b z) (sym f) (subst (λ z. HoldSameFiles z c) (sym e) h)

-- one file is put into both
module _ (name bytes : List ℕ) where
  put_in : (a b c d : Files) → WithFile name bytes a b → WithFile name bytes c d
      → ((n : List ℕ) → file_of c n ≡ file_of a n) → (n : List ℕ) → file_of d n ≡ file_of b n
  put_in a b c d h k same n = by_name (bytes_eq n name) refl
    where
      by_name : (t : Bool) → bytes_eq n name ≡ t → file_of d n ≡ file_of b n
      by_name true e =
          let is : n ≡ name = (bytes_eq-Decides n name).0 e in
          ap (file_of d) is ∙ k.file ∙ sym h.file ∙ ap (file_of b) (sym is)
      by_name false e =
          let other : n ≢ name = λ is. let yes_it : bytes_eq n name ≡ true = (bytes_eq-Decides n name).1 is in cc in
          k.others n other ∙ same n ∙ sym (h.others n other)

  pub put_in_both : (a b c d : Option Files) → WhereKnown (WithFile name bytes) a b
      → WhereKnown (WithFile name bytes) c d → HoldSameFiles a c → HoldSameFiles b d
  put_in_both (Some a) (Some b) (Some c) (Some d) h k same = put_in a b c d h k same
  put_in_both None None None None h k same = tt
  put_in_both (Some a) (Some b) None None h k same = absurd same
  put_in_both None None (Some c) (Some d) h k same = absurd same
  put_in_both (Some a) None c d h k same = absurd h
  put_in_both None (Some b) c d h k same = absurd h
  put_in_both (Some a) (Some b) (Some c) None h k same = absurd k
  put_in_both (Some a) (Some b) None (Some d) h k same = absurd k
  put_in_both None None (Some c) None h k same = absurd k
  put_in_both None None None (Some d) h k same = absurd k

stored_same : (o : Option (List ℕ × List ℕ)) (v s w t : StoreSeen) → StoresFile o v s → StoresFile o w t
    → HoldSameFiles v.files w.files → HoldSameFiles s.files t.files
stored_same None v s w t h k same =
    moved v.files s.files w.files t.files (ap (λ x. x.files) h) (ap (λ x. x.files) k) same
stored_same (Some file) v s w t h k same = put_in_both file.0 file.1 v.files s.files w.files t.files h.0 k.0 same

abbrev files_of : World → Option Files
files_of w = w.store.files

abbrev seen_of : World → SeenSession
seen_of w = w.session.seen

lacked_files : (v : World) (reading : Reading) (next : World) (reply : List ℕ) → IsReplyTo v reading lacking next reply
    → files_of next ≡ files_of v
lacked_files v nothing next reply h = ap files_of h.1
lacked_files v (too_long n) next reply h = ap (λ s. s.files) h.0.0.store
lacked_files v unread next reply h = ap (λ s. s.files) h.1.store
lacked_files v (command c) next reply h = let r = h.1.replied in r.2.0
lacked_files v (faulty f) next reply h = ap (λ s. s.files) h.0.store

told_files : (n : ℕ) (v : World) (reading : Reading) (next : World) (reply : List ℕ)
    → IsReplyTo v reading (told n) next reply → files_of next ≡ files_of v
told_files n v nothing next reply h = ap files_of h.1
told_files n v (too_long m) next reply h = absurd h.0
told_files n v unread next reply h = ap (λ s. s.files) h.1.store
told_files n v (command c) next reply h = ap (λ s. s.files) h.1.replied.stored
told_files n v (faulty f) next reply h = absurd h

module _ (v w : World) (same : seen_of v ≡ seen_of w) (hold : HoldSameFiles (files_of v) (files_of w)) where
  plain_files : (reading : Reading) (s t : World) (a b : List ℕ) → IsReplyTo v reading plain s a
      → IsReplyTo w reading plain t b → HoldSameFiles (files_of s) (files_of t)
  plain_files nothing s t a b h k =
      moved (files_of v) (files_of s) (files_of w) (files_of t) (ap files_of h.1) (ap files_of k.1) hold
  plain_files (too_long n) s t a b h k = stored_same None v.store s.store w.store t.store h.0.0.store k.0.0.store hold
  plain_files unread s t a b h k = stored_same None v.store s.store w.store t.store h.1.store k.1.store hold
  plain_files (command c) s t a b h k =
      stored_same (saved_by v.session.seen.state c) v.store s.store w.store t.store h.1.replied.stored
      (subst (λ x. StoresFile (saved_by x.state c) w.store t.store) (sym same) k.1.replied.stored) hold
  plain_files (faulty f) s t a b h k = stored_same None v.store s.store w.store t.store h.0.store k.0.store hold

  line_files : (text : List ℕ) (mark : LineMark) (s t : World) (a b : List ℕ) → mark ≢ unsaved
      → IsLineReply v text mark s a → IsLineReply w text mark t b → HoldSameFiles (files_of s) (files_of t)
  line_files text unsaved s t a b n h k = absurd (n refl)
  line_files text lacking s t a b n h k =
      moved (files_of v) (files_of s) (files_of w) (files_of t) (lacked_files v h.0 s a h.2)
      (lacked_files w k.0 t b k.2) hold
  line_files text (told m) s t a b n h k =
      moved (files_of v) (files_of s) (files_of w) (files_of t) (told_files m v h.0 s a h.2)
      (told_files m w k.0 t b k.2) hold
  line_files text plain s t a b n h k =
      plain_files h.0 s t a b h.2
      (subst (λ r. IsReplyTo w r plain t b)
      (one_reading text k.0 h.0 (was_read w k.0 plain t b tt k.2) (was_read v h.0 plain s a tt h.2) k.1 h.1) k.2)

saves : (m : LineMark) (marks : List LineMark) → unsaved_in (m ∷ marks) ≡ 0 → (m ≢ unsaved) × (unsaved_in marks ≡ 0)
saves plain marks e = (λ f. cc, e)
saves lacking marks e = (λ f. cc, e)
saves unsaved marks e = absurd (omega (arith, e))
saves (told n) marks e = (λ f. cc, e)

pub answered_files : (law : OneView) (v w s t : World) (lines : List (List ℕ)) (marks : List LineMark) (a b : List ℕ)
    → unsaved_in marks ≡ 0 → seen_of v ≡ seen_of w → HoldSameFiles (files_of v) (files_of w)
    → Answered v lines marks s a → Answered w lines marks t b → HoldSameFiles (files_of s) (files_of t)
answered_files law v w s t [] [] a b u same hold h k =
    moved (files_of v) (files_of s) (files_of w) (files_of t) (ap files_of h.0) (ap files_of k.0) hold
answered_files law v w s t [] (m ∷ marks) a b u same hold h k = absurd h
answered_files law v w s t (l ∷ lines) [] a b u same hold h k = absurd h
answered_files law v w s t (l ∷ lines) (m ∷ marks) a b u same hold h k =
    let one = one_line_reply law v w same (command_line l) m h.0 k.0 h.1 k.1 h.3 k.3 in
    let kept = saves m marks u in
    answered_files law h.0 k.0 s t lines marks h.2 k.2 kept.1 one.0
    (line_files v w same hold (command_line l) m h.0 k.0 h.1 k.1 kept.0 h.3 k.3) h.4 k.4

played_files : (law : OneView) (v w x y : World) (script : List ℕ) (marks : List LineMark) (r q : Option (List ℕ))
    (s : Status) (a b : List ℕ) → unsaved_in marks ≡ 0 → seen_of v ≡ seen_of w → HoldSameFiles (files_of v) (files_of w)
    → IsFinal s → IsPlayed v script marks r s x a → IsPlayed w script marks q s y b
    → HoldSameFiles (files_of x) (files_of y)
played_files law v w x y script marks r q statuses.Ok a b u e hold f h k =
    answered_files law v w x y (before_quit h.lines) marks a b u e hold h.answered
    (subst (λ ls. Answered w (before_quit ls) marks y b) (script_lines_once script k.lines h.lines k.are h.are)
    k.answered)
played_files law v w x y script marks r q statuses.ScriptLong a b u e hold f h k =
    answered_files law v w x y h.lines marks a b u e hold h.answered
    (subst (λ ls. Answered w ls marks y b) (script_lines_once script k.lines h.lines k.are h.are) k.answered)
played_files law v w x y script marks r q statuses.InputFault a b u e hold f h k = absurd f
played_files law v w x y script marks r q statuses.NoMemory a b u e hold f h k = absurd f
played_files law v w x y script marks r q statuses.Words a b u e hold f h k = absurd h
played_files law v w x y script marks r q statuses.Missing a b u e hold f h k = absurd h
played_files law v w x y script marks r q statuses.Refused a b u e hold f h k = absurd h
played_files law v w x y script marks r q statuses.StoreFault a b u e hold f h k = absurd h
played_files law v w x y script marks r q statuses.OutputFault a b u e hold f h k = absurd h

module _ (law : OneView) (v w x y : Outside) (files : Files) (ev : v.store.files ≡ Some files)
    (ew : w.store.files ≡ Some files) (script : List ℕ) (sv : v.input.left ≡ Some script)
    (sw : w.input.left ≡ Some script) (marks : List LineMark) (s : Status) (a b : List ℕ) (final : IsFinal s) where
  unopened_files : x.store.files ≡ v.store.files → y.store.files ≡ w.store.files
      → HoldSameFiles x.store.files y.store.files
  unopened_files g h = both_tell x.store.files y.store.files files (g ∙ ev) (h ∙ ew)

  pub whole_files : (o : OpenOutcome) → unsaved_in marks ≡ 0 → IsWhole o v x marks s a → IsWhole o w y marks s b
      → HoldSameFiles x.store.files y.store.files
  whole_files (opened all) none g h =
      let first : World = start_with all g.first g.steps in
      let other : World = start_with all h.first h.steps in
      let hold : HoldSameFiles g.last.store.files h.last.store.files =
      played_files law first other g.last h.last script marks x.input.left y.input.left s g.replies h.replies none refl
      (both_tell g.first.files h.first.files files (g.loaded.0 ∙ ev) (h.loaded.0 ∙ ew)) final
      (subst (λ z. IsPlayed first z marks x.input.left s g.last g.replies)
      (told_script v.input.left script g.script sv g.tells) g.played)
      (subst (λ z. IsPlayed other z marks y.input.left s h.last h.replies)
      (told_script w.input.left script h.script sw h.tells) h.played) in
      moved g.last.store.files x.store.files h.last.store.files y.store.files (sym (ap (λ z. z.files) g.stored))
      (sym (ap (λ z. z.files) h.stored)) hold
  whole_files (generated all) none g h = unopened_files (ap (λ z. z.files) g.stored) (ap (λ z. z.files) h.stored)
  whole_files faulty_words none g h = unopened_files g.kept.0 h.kept.0
  whole_files (missing f) none g h = unopened_files g.kept.0 h.kept.0
  whole_files (file_too_long f) none g h = unopened_files g.kept.0 h.kept.0
  whole_files (no_tree f c) none g h = unopened_files g.kept.0 h.kept.0
  whole_files (store_fault f) none g h = unopened_files g.kept.0 h.kept.0
  whole_files no_memory none g h = unopened_files g.kept.0 h.kept.0

pub one_run : (law : OneView) (opens : OneOutcome) (words : List (List ℕ)) (all : Files) (script : List ℕ)
    (marks : List LineMark) (o p : OpenOutcome) (v w x y : Outside) (s t : Status) (a b : List ℕ) → IsFinal s
    → IsFinal t
    → v.store.files ≡ Some all → w.store.files ≡ Some all → v.input.left ≡ Some script → w.input.left ≡ Some script
    → ComesTo words (Some all) o → ComesTo words (Some all) p → IsWhole o v x marks s a → IsWhole p w y marks t b
    → (s ≡ t) × (a ≡ b) × (unsaved_in marks ≡ 0 → HoldSameFiles x.store.files y.store.files)
one_run law opens words all script marks o p v w x y s t a b fs ft ev ew sv sw ho hp g h =
    let said = one_text_run law opens words all script marks o p v w x y s t a b fs ft sv sw ho hp g h in
    let same = opens words all p o hp ho (decided p w y marks t b ft h) (decided o v x marks s a fs g) in
    let other : IsWhole o w y marks s b =
    subst (λ z. IsWhole o w y marks z b) (sym said.0) (subst (λ z. IsWhole z w y marks t b) same h) in
    (said.0, said.1, λ none. whole_files law v w x y all ev ew script sv sw marks s a b fs o none g other)
