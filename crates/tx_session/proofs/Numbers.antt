-- Where memory sufficed, the numbers that `work` prints are determined.
use Rattle.std.proofs.Common.{◌≡◌, ◌≢◌, ℕ, true, List, [], ◌∷◌, map, refl, ap, sym, subst, ◌∙◌, Option, Some}
use Rattle.tx_outside.specs.Files.{Files}
use Rattle.tx_cmd.specs.declared.command.Command.{Command}
use Rattle.tx_cmd.specs.declared.command.Command.TheVariants.{Work}
use Rattle.tx_open.specs.Outcomes.{OpenOutcome, faulty_words, missing, too_long as file_too_long, no_tree, store_fault}
use Rattle.tx_open.specs.Outcomes.{no_memory, opened, generated, ComesTo}
use Rattle.tx_session.specs.declared.status.Status.{Status}
use Rattle.tx_session.specs.declared.status.Status.TheVariants as statuses
use Rattle.tx_session.specs.Differences.{Suffices}
use Rattle.tx_session.specs.Keeps.{kept_after}
use Rattle.tx_session.specs.Replies.{Reading, nothing, too_long, unread, command, faulty, IsDone, IsReplyTo}
use Rattle.tx_session.specs.Replies.{IsLineReply}
use Rattle.tx_session.specs.Runs.{IsWhole, IsPlayed, IsPlayedAlone, IsFinal, Outside, start_with, generated_script}
use Rattle.tx_session.specs.Runs.{no_files}
use Rattle.tx_session.specs.Scripts.{Answered, before_quit, command_line}
use Rattle.tx_session.specs.States.{IsAnswer}
use Rattle.tx_session.specs.Worlds.{WholeSession, SeenWorld, World, seen_of_world, LineMark, plain, lacking, unsaved}
use Rattle.tx_session.specs.Worlds.{told, untold}
use Rattle.tx_session.proofs.Answering.{OneView}
use Rattle.tx_session.proofs.Determined.{one_reading, one_reply, was_read, IsSomeMark, decided, told_script}
use Rattle.tx_session.proofs.Lining.{script_lines_once, long_unread}
use Rattle.tx_session.proofs.Openings.{OneOutcome}
use Rattle.tx_session.proofs.Turning.{same_session}

-- `work` has no reply but the number that is printed
not_work : (v w : SeenWorld) (it : Command) (reply : List ℕ) → it ≡ Work → IsDone v it w reply → ⊥
not_work v w it reply e h =
    let none : IsAnswer v.session.width v.session.height v.session.state Work w.session.state reply =
    subst (λ c. IsAnswer v.session.width v.session.height v.session.state c w.session.state reply) e h.answer in none

-- what is cached after a command is decided by what was before it and by what is seen after it
one_keep : (it : Command) (a b c d : WholeSession) → a ≡ b → c.seen ≡ d.seen
    → c.keep ≡ kept_after a.seen.state it c.seen.state a.keep → d.keep ≡ kept_after b.seen.state it d.seen.state b.keep
    → c ≡ d
one_keep it a b c d e f g h =
    same_session c d f
    (g ∙ (λ i. kept_after (e i).seen.state it (f i).state (e i).keep) ∙ sym h)

module _ (law : OneView) (v w : World) (same : v.session ≡ w.session) where
  abbrev Once : LineMark → LineMark → World → World → Type 0
  Once m n s t = (m ≡ n) × (s.session ≡ t.session)

  both_stay : (s t : World) → s.session ≡ v.session → t.session ≡ w.session → s.session ≡ t.session
  both_stay s t e f = e ∙ same ∙ sym f

  abbrev seen_same : v.session.seen ≡ w.session.seen
  seen_same = ap (λ x. x.seen) same

  plain_once : (reading : Reading) (s t : World) (a b : List ℕ) → IsReplyTo v reading plain s a
      → IsReplyTo w reading plain t b → s.session ≡ t.session
  plain_once nothing s t a b h k = both_stay s t (ap (λ x. x.session) h.1) (ap (λ x. x.session) k.1)
  plain_once (too_long n) s t a b h k = both_stay s t h.0.0.session k.0.0.session
  plain_once unread s t a b h k = both_stay s t h.1.session k.1.session
  plain_once (command c) s t a b h k =
      one_keep c v.session w.session s.session t.session same
      (one_reply law (seen_of_world v) (seen_of_world w) seen_same c plain (seen_of_world s)
      (seen_of_world t) a b h.1.replied k.1.replied).0
      h.1.keeps k.1.keeps
  plain_once (faulty f) s t a b h k = both_stay s t h.0.session k.0.session

  told_once : (m n : ℕ) (reading : Reading) (s t : World) (a b : List ℕ) → IsReplyTo v reading (told m) s a
      → IsReplyTo w reading (told n) t b → Once (told m) (told n) s t
  told_once m n nothing s t a b h k = let bad = h.0 in absurd cc
  told_once m n (too_long c) s t a b h k = absurd h.0
  told_once m n unread s t a b h k = let bad = h.0 in absurd cc
  told_once m n (command c) s t a b h k =
      let x = h.1.replied in
      let y = k.1.replied in
      let seen : s.session.seen ≡ t.session.seen =
      x.session ∙ (λ i. record (seen_same i) { fresh = true }) ∙ sym y.session in
      let all : s.session ≡ t.session = one_keep c v.session w.session s.session t.session same seen h.1.keeps.0
      k.1.keeps.0 in
      (ap (λ z. told z) (h.1.keeps.1 ∙ ap (λ z. z.keep.work) all ∙ sym k.1.keeps.1), all)
  told_once m n (faulty f) s t a b h k = absurd h

  unsaved_once : (reading : Reading) (s t : World) (a b : List ℕ) → IsReplyTo v reading unsaved s a
      → IsReplyTo w reading unsaved t b → s.session ≡ t.session
  unsaved_once nothing s t a b h k = let bad = h.0 in absurd cc
  unsaved_once (too_long c) s t a b h k = absurd h.0
  unsaved_once unread s t a b h k = let bad = h.0 in absurd cc
  unsaved_once (command c) s t a b h k =
      let x = h.1.replied in
      let y = k.1.replied in
      same_session s.session t.session (x.3 ∙ seen_same ∙ sym y.3)
      (h.1.keeps ∙ ap (λ z. z.keep) same ∙ sym k.1.keeps)
  unsaved_once (faulty f) s t a b h k = absurd h

-- a line has no reply of its own where it prints a number
told_or_plain : (v w : World) (n : ℕ) (reading : Reading) (s t : World) (a b : List ℕ) → IsReplyTo v reading plain s a
    → IsReplyTo w reading (told n) t b → ⊥
told_or_plain v w n nothing s t a b h k = let bad = k.0 in cc
told_or_plain v w n (too_long c) s t a b h k = k.0
told_or_plain v w n unread s t a b h k = let bad = k.0 in cc
told_or_plain v w n (command c) s t a b h k =
    let done = h.1.replied in
    let it = k.1.replied in
    not_work (seen_of_world v) (seen_of_world s) c a it.work done
told_or_plain v w n (faulty f) s t a b h k = k

module _ (law : OneView) (v w : World) (same : v.session ≡ w.session) (text : List ℕ) (s t : World)
    (a b : List ℕ) where
  -- both lines were read alike
  read_alike : (m n : LineMark) → IsSomeMark m → IsSomeMark n → (h : IsLineReply v text m s a)
      → (k : IsLineReply w text n t b) → IsReplyTo w h.0 n t b
  read_alike m n p q h k =
      subst (λ r. IsReplyTo w r n t b)
      (one_reading text k.0 h.0 (was_read w k.0 n t b q k.2) (was_read v h.0 m s a p h.2) k.1 h.1) k.2

  line_once : (m n : LineMark) → m ≢ lacking → untold m ≡ untold n → IsLineReply v text m s a → IsLineReply w text n t b
      → Once law v w same m n s t
  line_once lacking n x e h k = absurd (x refl)
  line_once plain plain x e h k =
      (refl, plain_once law v w same h.0 s t a b h.2 (read_alike plain plain tt tt h k))
  line_once plain (told j) x e h k =
      absurd (told_or_plain v w j h.0 s t a b h.2 (read_alike plain (told j) tt tt h k))
  line_once plain lacking x e h k = absurd cc
  line_once plain unsaved x e h k = absurd cc
  line_once unsaved unsaved x e h k =
      (refl, unsaved_once law v w same h.0 s t a b h.2 (read_alike unsaved unsaved tt tt h k))
  line_once unsaved plain x e h k = absurd cc
  line_once unsaved lacking x e h k = absurd cc
  line_once unsaved (told j) x e h k = absurd cc
  line_once (told i) (told j) x e h k =
      told_once law v w same i j h.0 s t a b h.2 (read_alike (told i) (told j) tt tt h k)
  line_once (told i) plain x e h k =
      absurd (told_or_plain w v i h.0 t s b a (read_alike (told i) plain tt tt h k) h.2)
  line_once (told i) lacking x e h k = absurd cc
  line_once (told i) unsaved x e h k = absurd cc

abbrev first_mark : List LineMark → LineMark
first_mark [] = plain
first_mark (m ∷ marks) = m

abbrev later_marks : List LineMark → List LineMark
later_marks [] = []
later_marks (m ∷ marks) = marks

marks_once : (law : OneView) (v w s t : World) (lines : List (List ℕ)) (marks others : List LineMark) (a b : List ℕ)
    → v.session ≡ w.session → Suffices marks → map untold marks ≡ map untold others → Answered v lines marks s a
    → Answered w lines others t b → marks ≡ others
marks_once law v w s t [] [] [] a b same x e h k = refl
marks_once law v w s t [] [] (n ∷ others) a b same x e h k = absurd k
marks_once law v w s t [] (m ∷ marks) others a b same x e h k = absurd h
marks_once law v w s t (l ∷ lines) [] others a b same x e h k = absurd h
marks_once law v w s t (l ∷ lines) (m ∷ marks) [] a b same x e h k = absurd k
marks_once law v w s t (l ∷ lines) (m ∷ marks) (n ∷ others) a b same x e h k =
    let one = line_once law v w same (command_line l) h.0 k.0 h.1 k.1 m n x.0 (ap first_mark e) h.3 k.3 in
    let more = marks_once law h.0 k.0 s t lines marks others h.2 k.2 one.1 x.1 (ap later_marks e) h.4 k.4 in
    (λ i. one.0 i ∷ more i)

played_marks : (law : OneView) (v w x y : World) (script : List ℕ) (marks others : List LineMark)
    (r q : Option (List ℕ)) (s t : Status) (a b : List ℕ) → v.session ≡ w.session → Suffices marks
    → map untold marks ≡ map untold others → IsFinal s → IsFinal t → IsPlayed v script marks r s x a
    → IsPlayed w script others q t y b → marks ≡ others
played_marks law v w x y script marks others r q statuses.Ok statuses.Ok a b e c d f g h k =
    marks_once law v w x y (before_quit h.lines) marks others a b e c d h.answered
    (subst (λ ls. Answered w (before_quit ls) others y b) (script_lines_once script k.lines h.lines k.are h.are)
    k.answered)
played_marks law v w x y script marks others r q statuses.ScriptLong statuses.ScriptLong a b e c d f g h k =
    marks_once law v w x y h.lines marks others a b e c d h.answered
    (subst (λ ls. Answered w ls others y b) (script_lines_once script k.lines h.lines k.are h.are) k.answered)
played_marks law v w x y script marks others r q statuses.Ok statuses.ScriptLong a b e c d f g h k =
    absurd (long_unread script w y k.lines others b k.are k.long k.answered h.readable)
played_marks law v w x y script marks others r q statuses.ScriptLong statuses.Ok a b e c d f g h k =
    absurd (long_unread script v x h.lines marks a h.are h.long h.answered k.readable)
played_marks law v w x y script marks others r q statuses.Words t a b e c d f g h k = absurd h
played_marks law v w x y script marks others r q statuses.Missing t a b e c d f g h k = absurd h
played_marks law v w x y script marks others r q statuses.Refused t a b e c d f g h k = absurd h
played_marks law v w x y script marks others r q statuses.StoreFault t a b e c d f g h k = absurd h
played_marks law v w x y script marks others r q statuses.InputFault t a b e c d f g h k = absurd f
played_marks law v w x y script marks others r q statuses.OutputFault t a b e c d f g h k = absurd h
played_marks law v w x y script marks others r q statuses.NoMemory t a b e c d f g h k = absurd f
played_marks law v w x y script marks others r q statuses.Ok statuses.Words a b e c d f g h k = absurd k
played_marks law v w x y script marks others r q statuses.Ok statuses.Missing a b e c d f g h k = absurd k
played_marks law v w x y script marks others r q statuses.Ok statuses.Refused a b e c d f g h k = absurd k
played_marks law v w x y script marks others r q statuses.Ok statuses.StoreFault a b e c d f g h k = absurd k
played_marks law v w x y script marks others r q statuses.Ok statuses.InputFault a b e c d f g h k = absurd g
played_marks law v w x y script marks others r q statuses.Ok statuses.OutputFault a b e c d f g h k = absurd k
played_marks law v w x y script marks others r q statuses.Ok statuses.NoMemory a b e c d f g h k = absurd g
played_marks law v w x y script marks others r q statuses.ScriptLong statuses.Words a b e c d f g h k = absurd k
played_marks law v w x y script marks others r q statuses.ScriptLong statuses.Missing a b e c d f g h k = absurd k
played_marks law v w x y script marks others r q statuses.ScriptLong statuses.Refused a b e c d f g h k = absurd k
played_marks law v w x y script marks others r q statuses.ScriptLong statuses.StoreFault a b e c d f g h k = absurd k
played_marks law v w x y script marks others r q statuses.ScriptLong statuses.InputFault a b e c d f g h k = absurd g
played_marks law v w x y script marks others r q statuses.ScriptLong statuses.OutputFault a b e c d f g h k = absurd k
played_marks law v w x y script marks others r q statuses.ScriptLong statuses.NoMemory a b e c d f g h k = absurd g

module _ (law : OneView) (v w x y : Outside) (script : List ℕ) (ev : v.input.left ≡ Some script)
    (ew : w.input.left ≡ Some script) (marks others : List LineMark) (s t : Status) (a b : List ℕ) (fs : IsFinal s)
    (ft : IsFinal t) (c : Suffices marks) (d : map untold marks ≡ map untold others) where
  whole_marks : (o : OpenOutcome) → IsWhole o v x marks s a → IsWhole o w y others t b → marks ≡ others
  whole_marks (opened all) g h =
      let first : World = start_with all g.first g.steps in
      let other : World = start_with all h.first h.steps in
      played_marks law first other g.last h.last script marks others x.input.left y.input.left s t g.replies h.replies
      refl c d fs ft
      (subst (λ z. IsPlayed first z marks x.input.left s g.last g.replies)
      (told_script v.input.left script g.script ev g.tells) g.played)
      (subst (λ z. IsPlayed other z others y.input.left t h.last h.replies)
      (told_script w.input.left script h.script ew h.tells) h.played)
  whole_marks (generated all) g h =
      let p : IsPlayedAlone all v.steps x.steps marks s g.replies = g.played in
      let m : IsPlayedAlone all w.steps y.steps others t h.replies = h.played in
      played_marks law (start_with all no_files p.steps) (start_with all no_files m.steps) p.last m.last
      generated_script marks others (Some p.left) (Some m.left) s t g.replies h.replies refl c d fs ft p.played m.played
  whole_marks faulty_words g h = g.unmarked ∙ sym h.unmarked
  whole_marks (missing f) g h = g.unmarked ∙ sym h.unmarked
  whole_marks (file_too_long f) g h = g.unmarked ∙ sym h.unmarked
  whole_marks (no_tree f z) g h = g.unmarked ∙ sym h.unmarked
  whole_marks (store_fault f) g h = g.unmarked ∙ sym h.unmarked
  whole_marks no_memory g h = g.unmarked ∙ sym h.unmarked

pub numbers_determined : (law : OneView) (opens : OneOutcome) (words : List (List ℕ)) (all : Files) (script : List ℕ)
    (marks others : List LineMark) (o p : OpenOutcome) (v w x y : Outside) (s t : Status) (a b : List ℕ) → IsFinal s
    → IsFinal t → v.input.left ≡ Some script → w.input.left ≡ Some script → ComesTo words (Some all) o
    → ComesTo words (Some all) p → Suffices marks → map untold marks ≡ map untold others → IsWhole o v x marks s a
    → IsWhole p w y others t b → marks ≡ others
numbers_determined law opens words all script marks others o p v w x y s t a b fs ft ev ew ho hp c d g h =
    let same = opens words all p o hp ho (decided p w y others t b ft h) (decided o v x marks s a fs g) in
    whole_marks law v w x y script ev ew marks others s t a b fs ft c d o g
    (subst (λ z. IsWhole z w y others t b) same h)
