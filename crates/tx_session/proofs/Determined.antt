-- Words, files, script and marks have one run.
use Rattle.std.proofs.Common.{◌≡◌, ◌≢◌, ℕ, List, [], ◌∷◌, ◌++◌, length, refl, ap, sym}
use Rattle.std.proofs.Common.{subst, ◌∙◌, Option, Some, arith, true}
use Rattle.tx_outside.specs.Files.{Files}
use Rattle.tx_cmd.specs.declared.command.Command.{Command}
use Rattle.tx_cmd.proofs.Once.{one_command, one_cause, no_cause}
use Rattle.tx_session.specs.declared.status.Status.{Status}
use Rattle.tx_session.specs.declared.status.Status.TheVariants as statuses
use Rattle.tx_session.specs.States.{IsAnswer}
use Rattle.tx_session.specs.Worlds.{SeenSession, SeenWorld, World, seen_of_world, LineMark, plain, lacking, unsaved}
use Rattle.tx_session.specs.Worlds.{told}
use Rattle.tx_session.specs.Replies.{fresh_after, Reading, nothing, too_long, unread, command, faulty, wanting_reply}
use Rattle.tx_session.specs.Replies.{IsLineRead, IsReply, IsReplyTo, IsRefusalReply, IsLineReply}
use Rattle.tx_session.specs.Scripts.{Answered, before_quit, command_line}
use Rattle.tx_open.specs.Outcomes.{OpenOutcome, faulty_words, missing, too_long as file_too_long, no_tree, store_fault}
use Rattle.tx_open.specs.Outcomes.{no_memory, opened, generated, ComesTo, IsDecided}
use Rattle.tx_session.specs.Runs.{IsWhole, IsPlayed, IsPlayedAlone, IsFinal, own_line, start_with, generated_script}
use Rattle.tx_session.specs.Runs.{Outside, TellsScript, no_files}
use Rattle.tx_session.proofs.Answering.{OneView, one_answer}
use Rattle.tx_session.proofs.Turning.{same_seen}
use Rattle.tx_session.proofs.Lining.{script_lines_once, long_unread}
use Rattle.tx_session.proofs.Openings.{OneOutcome}

-- two readings of a text that don't run out of memory are one
pub one_reading : (text : List ℕ) (a b : Reading) → a ≢ unread → b ≢ unread → IsLineRead text a → IsLineRead text b
    → a ≡ b
one_reading text unread b n m h k = absurd (n refl)
one_reading text nothing unread n m h k = absurd (m refl)
one_reading text (too_long c) unread n m h k = absurd (m refl)
one_reading text (command c) unread n m h k = absurd (m refl)
one_reading text (faulty c) unread n m h k = absurd (m refl)
one_reading text nothing nothing n m h k = refl
one_reading text nothing (too_long c) n m h k = absurd (omega (arith, k.0, ap length h))
one_reading text nothing (command c) n m h k = absurd (k.0.0 h)
one_reading text nothing (faulty f) n m h k = absurd (k.0.0 h)
one_reading text (too_long c) nothing n m h k = absurd (omega (arith, h.0, ap length k))
one_reading text (too_long c) (too_long d) n m h k = ap (λ n. too_long n) (h.1 ∙ sym k.1)
one_reading text (too_long c) (command d) n m h k = absurd (omega (arith, h.0, k.0.1))
one_reading text (too_long c) (faulty f) n m h k = absurd (omega (arith, h.0, k.0.1))
one_reading text (command c) nothing n m h k = absurd (h.0.0 k)
one_reading text (command c) (too_long d) n m h k = absurd (omega (arith, h.0.1, k.0))
one_reading text (command c) (command d) n m h k = ap (λ c. command c) (one_command text c d h.1 k.1)
one_reading text (command c) (faulty f) n m h k = absurd (no_cause text c f k.1 h.1 k.2)
one_reading text (faulty f) nothing n m h k = absurd (h.0.0 k)
one_reading text (faulty f) (too_long d) n m h k = absurd (omega (arith, h.0.1, k.0))
one_reading text (faulty f) (command d) n m h k = absurd (no_cause text d f h.1 k.1 h.2)
one_reading text (faulty f) (faulty e) n m h k = ap (λ f. faulty f) (one_cause text f e h.1 k.1 h.2 k.2)

-- with a fresh view
abbrev made_fresh : SeenSession → SeenSession
made_fresh x = record x { fresh = true }

-- what the reply depends on
module _ (law : OneView) (v w : SeenWorld) (same : v.session ≡ w.session) where
  pub one_reply : (it : Command) (mark : LineMark) (s t : SeenWorld) (a b : List ℕ) → IsReply v it mark s a
      → IsReply w it mark t b → (s.session ≡ t.session) × (a ≡ b)
  one_reply it plain s t a b h k =
      let again : IsAnswer v.session.width v.session.height v.session.state it t.session.state b =
      subst (λ x. IsAnswer x.width x.height x.state it t.session.state b) (sym same) k.answer in
      let both = one_answer law v.session.width v.session.height v.session.state it s.session.state t.session.state a b
      h.answer again in (
        same_seen s.session t.session both.0 (h.width ∙ ap (λ x. x.width) same ∙ sym k.width)
            (h.height ∙ ap (λ x. x.height) same ∙ sym k.height) (h.fresh ∙ ap (λ x. fresh_after x it) same
            ∙ sym k.fresh),
        both.1,
      )
  one_reply it lacking s t a b h k = (h.1 ∙ same ∙ sym k.1, h.3 ∙ sym k.3)
  one_reply it unsaved s t a b h k = (h.3 ∙ same ∙ sym k.3, h.5 ∙ sym k.5)
  one_reply it (told n) s t a b h k =
      (h.session ∙ ap made_fresh same ∙ sym k.session, h.said ∙ sym k.said)

-- as it is seen
abbrev seen_of : World → SeenSession
seen_of w = w.session.seen

both_before : (v w s t : World) → seen_of v ≡ seen_of w → s.session ≡ v.session → t.session ≡ w.session
    → seen_of s ≡ seen_of t
both_before v w s t same e f = ap (λ x. x.seen) e ∙ same ∙ sym (ap (λ x. x.seen) f)

module _ (law : OneView) (v w : World) (same : seen_of v ≡ seen_of w) where
  one_refusal : (text : List ℕ) (mark : LineMark) (s t : World) (a b : List ℕ) → IsRefusalReply v text mark s a
      → IsRefusalReply w text mark t b → (seen_of s ≡ seen_of t) × (a ≡ b)
  one_refusal text plain s t a b h k = (both_before v w s t same h.0.session k.0.session, h.1 ∙ sym k.1)
  one_refusal text lacking s t a b h k = (both_before v w s t same h.0.session k.0.session, h.1 ∙ sym k.1)
  one_refusal text unsaved s t a b h k = absurd h
  one_refusal text (told n) s t a b h k = absurd h

  one_reply_to : (reading : Reading) (mark : LineMark) (s t : World) (a b : List ℕ) → IsReplyTo v reading mark s a
      → IsReplyTo w reading mark t b → (seen_of s ≡ seen_of t) × (a ≡ b)
  one_reply_to nothing mark s t a b h k =
      (both_before v w s t same (ap (λ x. x.session) h.1) (ap (λ x. x.session) k.1), h.2 ∙ sym k.2)
  one_reply_to (too_long n) mark s t a b h k = one_refusal _ mark s t a b h.0 k.0
  one_reply_to unread mark s t a b h k = (both_before v w s t same h.1.session k.1.session, h.2 ∙ sym k.2)
  one_reply_to (command c) mark s t a b h k =
      one_reply law (seen_of_world v) (seen_of_world w) same c mark (seen_of_world s)
      (seen_of_world t) a b h.1.replied k.1.replied
  one_reply_to (faulty f) mark s t a b h k = one_refusal _ mark s t a b h k

-- where memory ran out, what is seen of the session has not changed, whatever the line is
lacked : (v : World) (reading : Reading) (next : World) (reply : List ℕ) → IsReplyTo v reading lacking next reply
    → (seen_of next ≡ seen_of v) × (reply ≡ wanting_reply)
lacked v nothing next reply h = let other = h.0 in absurd cc
lacked v (too_long n) next reply h = (ap (λ x. x.seen) h.0.0.session, h.0.1)
lacked v unread next reply h = (ap (λ x. x.seen) h.1.session, h.2)
lacked v (command c) next reply h = let r = h.1.replied in (r.1, r.3)
lacked v (faulty f) next reply h = (ap (λ x. x.seen) h.0.session, h.1)

-- with another mark the line was read
abbrev pub IsSomeMark : LineMark → Type 0
IsSomeMark lacking = ⊥
IsSomeMark mark = Unit {0}

pub was_read : (v : World) (reading : Reading) (mark : LineMark) (next : World) (reply : List ℕ) → IsSomeMark mark
    → IsReplyTo v reading mark next reply → reading ≢ unread
was_read v nothing mark next reply m h e = cc
was_read v (too_long n) mark next reply m h e = cc
was_read v unread mark next reply m h e = subst IsSomeMark h.0 m
was_read v (command c) mark next reply m h e = cc
was_read v (faulty f) mark next reply m h e = cc

module _ (law : OneView) (v w : World) (same : seen_of v ≡ seen_of w) (text : List ℕ) where
  read_reply : (mark : LineMark) (s t : World) (a b : List ℕ) → IsSomeMark mark → IsLineReply v text mark s a
      → IsLineReply w text mark t b → (seen_of s ≡ seen_of t) × (a ≡ b)
  read_reply mark s t a b m h k =
      one_reply_to law v w same h.0 mark s t a b h.2
      (subst (λ r. IsReplyTo w r mark t b)
      (one_reading text k.0 h.0 (was_read w k.0 mark t b m k.2) (was_read v h.0 mark s a m h.2) k.1 h.1) k.2)

  pub one_line_reply : (mark : LineMark) (s t : World) (a b : List ℕ) → IsLineReply v text mark s a
      → IsLineReply w text mark t b → (seen_of s ≡ seen_of t) × (a ≡ b)
  one_line_reply lacking s t a b h k = let x = lacked v h.0 s a h.2 in let y = lacked w k.0 t b k.2 in
      (x.0 ∙ same ∙ sym y.0, x.1 ∙ sym y.1)
  one_line_reply plain s t a b h k = read_reply plain s t a b tt h k
  one_line_reply unsaved s t a b h k = read_reply unsaved s t a b tt h k
  one_line_reply (told n) s t a b h k = read_reply (told n) s t a b tt h k

-- lines with the same marks have the same replies
pub answered_once : (law : OneView) (v w s t : World) (lines : List (List ℕ)) (marks : List LineMark) (a b : List ℕ)
    → seen_of v ≡ seen_of w → Answered v lines marks s a → Answered w lines marks t b
    → (seen_of s ≡ seen_of t) × (a ≡ b)
answered_once law v w s t [] [] a b same h k =
    (ap seen_of h.0 ∙ same ∙ sym (ap seen_of k.0), h.1 ∙ sym k.1)
answered_once law v w s t [] (m ∷ marks) a b same h k = absurd h
answered_once law v w s t (l ∷ lines) [] a b same h k = absurd h
answered_once law v w s t (l ∷ lines) (m ∷ marks) a b same h k =
    let one = one_line_reply law v w same (command_line l) m h.0 k.0 h.1 k.1 h.3 k.3 in
    let more = answered_once law h.0 k.0 s t lines marks h.2 k.2 one.0 h.4 k.4 in
    (more.0, h.5 ∙ (λ i. one.1 i ++ more.1 i) ∙ sym k.5)

played_once : (law : OneView) (v w x y : World) (script : List ℕ) (marks : List LineMark) (r q : Option (List ℕ))
    (s t : Status)
    (a b : List ℕ) → seen_of v ≡ seen_of w → IsFinal s → IsFinal t → IsPlayed v script marks r s x a
    → IsPlayed w script marks q t y b → (s ≡ t) × (a ≡ b)
played_once law v w x y script marks r q statuses.Ok statuses.Ok a b e f g h k =
    let same = script_lines_once script k.lines h.lines k.are h.are in (
      refl,
      (answered_once law v w x y (before_quit h.lines) marks a b e h.answered
          (subst (λ ls. Answered w (before_quit ls) marks y b) same k.answered)).1,
    )
played_once law v w x y script marks r q statuses.ScriptLong statuses.ScriptLong a b e f g h k =
    let same = script_lines_once script k.lines h.lines k.are h.are in (
      refl,
      (answered_once law v w x y h.lines marks a b e h.answered
          (subst (λ ls. Answered w ls marks y b) same k.answered)).1,
    )
played_once law v w x y script marks r q statuses.Ok statuses.ScriptLong a b e f g h k =
    absurd (long_unread script w y k.lines marks b k.are k.long k.answered h.readable)
played_once law v w x y script marks r q statuses.ScriptLong statuses.Ok a b e f g h k =
    absurd (long_unread script v x h.lines marks a h.are h.long h.answered k.readable)
played_once law v w x y script marks r q statuses.Words t a b e f g h k = absurd h
played_once law v w x y script marks r q statuses.Missing t a b e f g h k = absurd h
played_once law v w x y script marks r q statuses.Refused t a b e f g h k = absurd h
played_once law v w x y script marks r q statuses.StoreFault t a b e f g h k = absurd h
played_once law v w x y script marks r q statuses.InputFault t a b e f g h k = absurd f
played_once law v w x y script marks r q statuses.OutputFault t a b e f g h k = absurd h
played_once law v w x y script marks r q statuses.NoMemory t a b e f g h k = absurd f
played_once law v w x y script marks r q statuses.Ok statuses.Words a b e f g h k = absurd k
played_once law v w x y script marks r q statuses.Ok statuses.Missing a b e f g h k = absurd k
played_once law v w x y script marks r q statuses.Ok statuses.Refused a b e f g h k = absurd k
played_once law v w x y script marks r q statuses.Ok statuses.StoreFault a b e f g h k = absurd k
played_once law v w x y script marks r q statuses.Ok statuses.InputFault a b e f g h k = absurd g
played_once law v w x y script marks r q statuses.Ok statuses.OutputFault a b e f g h k = absurd k
played_once law v w x y script marks r q statuses.Ok statuses.NoMemory a b e f g h k = absurd g
played_once law v w x y script marks r q statuses.ScriptLong statuses.Words a b e f g h k = absurd k
played_once law v w x y script marks r q statuses.ScriptLong statuses.Missing a b e f g h k = absurd k
played_once law v w x y script marks r q statuses.ScriptLong statuses.Refused a b e f g h k = absurd k
played_once law v w x y script marks r q statuses.ScriptLong statuses.StoreFault a b e f g h k = absurd k
played_once law v w x y script marks r q statuses.ScriptLong statuses.InputFault a b e f g h k = absurd g
played_once law v w x y script marks r q statuses.ScriptLong statuses.OutputFault a b e f g h k = absurd k
played_once law v w x y script marks r q statuses.ScriptLong statuses.NoMemory a b e f g h k = absurd g

-- a run that ends with a final status had no fault of the store and didn't run out of memory at opening
pub decided : (o : OpenOutcome) (before after : Outside) (marks : List LineMark) (s : Status) (a : List ℕ) → IsFinal s
    → IsWhole o before after marks s a → IsDecided o
decided (store_fault f) before after marks s a fin w = absurd (subst IsFinal w.ended fin)
decided no_memory before after marks s a fin w = absurd (subst IsFinal w.ended fin)
decided faulty_words before after marks s a fin w = tt
decided (missing f) before after marks s a fin w = tt
decided (file_too_long f) before after marks s a fin w = tt
decided (no_tree f c) before after marks s a fin w = tt
decided (opened all) before after marks s a fin w = tt
decided (generated all) before after marks s a fin w = tt

-- the script that the input holds
pub told_script : (input : Option (List ℕ)) (script other : List ℕ) → input ≡ Some script → TellsScript input other
    → other ≡ script
told_script input script other e tells = sym (subst (λ i. TellsScript i other) e tells)

module _ (law : OneView) (v w x y : Outside) (script : List ℕ) (ev : v.input.left ≡ Some script)
    (ew : w.input.left ≡ Some script) (marks : List LineMark) (s t : Status) (a b : List ℕ) (fs : IsFinal s)
    (ft : IsFinal t) where
  same_whole : (o : OpenOutcome) → IsWhole o v x marks s a → IsWhole o w y marks t b → (s ≡ t) × (a ≡ b)
  same_whole (opened all) g h =
      let first : World = start_with all g.first g.steps in
      let other : World = start_with all h.first h.steps in
      let same = played_once law first other g.last h.last script marks x.input.left y.input.left s t g.replies
      h.replies refl fs ft
      (subst (λ z. IsPlayed first z marks x.input.left s g.last g.replies)
      (told_script v.input.left script g.script ev g.tells) g.played)
      (subst (λ z. IsPlayed other z marks y.input.left t h.last h.replies)
      (told_script w.input.left script h.script ew h.tells) h.played) in
      (same.0, g.written ∙ (λ n. same.1 n ++ own_line (same.0 n)) ∙ sym h.written)
  same_whole (generated all) g h =
      let p : IsPlayedAlone all v.steps x.steps marks s g.replies = g.played in
      let m : IsPlayedAlone all w.steps y.steps marks t h.replies = h.played in
      let same = played_once law (start_with all no_files p.steps) (start_with all no_files m.steps) p.last m.last
      generated_script marks (Some p.left) (Some m.left) s t g.replies h.replies refl fs ft p.played m.played in
      (same.0, g.written ∙ (λ n. same.1 n ++ own_line (same.0 n)) ∙ sym h.written)
  same_whole faulty_words g h = (g.ended ∙ sym h.ended, g.written ∙ sym h.written)
  same_whole (missing f) g h = (g.ended ∙ sym h.ended, g.written ∙ sym h.written)
  same_whole (file_too_long f) g h = (g.ended ∙ sym h.ended, g.written ∙ sym h.written)
  same_whole (no_tree f c) g h = (g.ended ∙ sym h.ended, g.written ∙ sym h.written)
  same_whole (store_fault f) g h = (g.ended ∙ sym h.ended, g.written ∙ sym h.written)
  same_whole no_memory g h = (g.ended ∙ sym h.ended, g.written ∙ sym h.written)

pub one_run : (law : OneView) (opens : OneOutcome) (words : List (List ℕ)) (all : Files) (script : List ℕ)
    (marks : List LineMark) (o p : OpenOutcome) (v w x y : Outside) (s t : Status) (a b : List ℕ) → IsFinal s
    → IsFinal t
    → v.input.left ≡ Some script → w.input.left ≡ Some script → ComesTo words (Some all) o → ComesTo words (Some all) p
    → IsWhole o v x marks s a → IsWhole p w y marks t b → (s ≡ t) × (a ≡ b)
one_run law opens words all script marks o p v w x y s t a b fs ft ev ew ho hp g h =
    let same = opens words all p o hp ho (decided p w y marks t b ft h) (decided o v x marks s a fs g) in
    same_whole law v w x y script ev ew marks s t a b fs ft o g (subst (λ z. IsWhole z w y marks t b) same h)
