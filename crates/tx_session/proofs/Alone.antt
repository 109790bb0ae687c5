-- The session of a generated document, which has no store and no input.
use Rattle.std.proofs.Common.{◌≡◌, ◌≢◌, ◌⊎◌, ◌≤◌, ◌+◌, ◌++◌, inl, inr, ℕ, List, Option, Some, refl, sym, subst}
use Rattle.std.proofs.Common.{IfSome, arith}
use Rattle.std.specs.Io.KnownBytes.{append_known}
use Rattle.tx_outside.specs.Counts.{Rose}
use Rattle.tx_outside.specs.Known.{AppendsPart}
use Rattle.tx_outside.specs.Outside.{SinkSeen, SourceSeen, StoreSeen}
use Rattle.tx_open.specs.declared.opening.Opened.{Opened}
use Rattle.tx_open.specs.Outcomes.{ComesTo, generated, no_memory}
use Rattle.tx_session.specs.declared.status.Status.{Status}
use Rattle.tx_session.specs.declared.status.Status.TheVariants as statuses
use Rattle.tx_session.specs.Playing.{IsClosedInPart, IsCutOff, IsUnopenedLine, IsServed, IsServedAlone}
use Rattle.tx_session.specs.Runs.{IsOwnLineAlone, IsPlayed, IsPlayedAlone, IsReplyAlone, IsReplyBehind, IsRun}
use Rattle.tx_session.specs.Runs.{CanBeRead, generated_script, no_files, generating_cost, seen_outside, own_line}
use Rattle.tx_session.specs.Runs.{start_with}
use Rattle.tx_session.specs.Worlds.{KeepsFiles, LineMark, World}
use Rattle.tx_session.proofs.Causes.{line_run, run_of, served_closed}

pub never_rose : Rose 0 0 → ⊥
never_rose (inl lt) = omega (arith, lt)
never_rose (inr e) = omega (arith, e)

module _ (all : Opened) (old steps : ℕ) (last : World) (left : List ℕ) (before after : Option (List ℕ))
    (begun : steps ≤ old + generating_cost all) (kept : last.store ≡ no_files) where
  abbrev beginning : World
  beginning = start_with all no_files steps

  played_alone : (script : List ℕ) (marks : List LineMark) (status : Status) (text : List ℕ) → generated_script ≡ script
      → status ≢ statuses.InputFault → IsPlayed beginning script marks (Some left) status last text
      → IsPlayedAlone all old last.steps marks status text
  played_alone script marks status text e n p =
      record {
        steps = steps;
        last = last;
        left = left;
        begun = begun;
        played = subst (λ z. IsPlayed beginning z marks (Some left) status last text) (sym e) p;
        unfailing = n;
        kept = kept;
        counted = refl;
      }

  abbrev IsPart : List ℕ → List ℕ → Type 0
  IsPart done part = IsReplyAlone all old last.steps done part ⊎ IsOwnLineAlone all old last.steps done part

  cut_alone : IsCutOff beginning last (Some generated_script) before after
      ⊎ IsClosedInPart (Rose 0 0) beginning last (Some generated_script) (Some left) before after
      → (done part : List ℕ) × IsPart done part × AppendsPart part (append_known before done) after
  cut_alone (inl c) = (
    c.done,
    c.reply,
    inl (record {
      steps = steps;
      next = last;
      begun = begun;
      behind = subst (λ z. IsReplyBehind beginning z last c.done c.reply) (sym c.tells) c.behind;
      kept = kept;
      counted = refl;
    }),
    c.part,
  )
  cut_alone (inr c) = (
    c.played.replies,
    own_line c.status,
    inr (record {
      status = c.status;
      marks = c.played.marks;
      played = played_alone c.played.script c.played.marks c.status c.played.replies c.played.tells
          (λ e. never_rose (c.caused e)) c.played.played;
      own = refl;
    }),
    subst (λ b. AppendsPart (own_line c.status) b after) c.played.written c.part,
  )

  pub served_alone : (status : Status) → status ≢ statuses.InputFault
      → IsServed (Rose 0 0) status beginning last (Some generated_script) (Some left) before after
      → IsServedAlone all old last.steps status before after
  served_alone status n s =
      record {
        done = λ d. let c = served_closed (Rose 0 0) status beginning last (Some generated_script) (Some left) before
            after d s in
            (c.marks, c.replies, played_alone c.script c.marks status c.replies c.tells n c.played, c.written);
        cut = λ e. cut_alone
            (subst (λ z. IsServed (Rose 0 0) z beginning last (Some generated_script) (Some left) before after) e s);
      }

-- the script for it is short
pub short_script : CanBeRead generated_script
short_script = inl (omega arith)

pub short_read : IfSome (Some generated_script) (λ script. ¬ CanBeRead script) → ⊥
short_read h = h short_script

-- the run of a generated document
module _ (words : List (List ℕ)) (stored later : StoreSeen) (old new : ℕ) (input : SourceSeen) (all : Opened)
    (status : Status) (before after : SinkSeen) (loaded : KeepsFiles stored later) (same : later ≡ stored)
    (comes : ComesTo words stored.files (generated all)) where
  pub generated_run : IsUnopenedLine no_memory status before.written after.written
      ⊎ IsServedAlone all old new status before.written after.written
      → IsRun words status (seen_outside stored input before old) (seen_outside later input after new)
  generated_run (inl l) =
      line_run words stored later old new input no_memory status before after loaded tt
      (λ all. ((λ e. cc), (λ e. cc))) tt l.done l.cut
  generated_run (inr s) =
      run_of words status (seen_outside stored input before old) (seen_outside later input after new)
      (λ n. let d = s.done n in
      record {
        outcome = generated all;
        marks = d.0;
        text = d.1 ++ own_line status;
        comes = comes;
        caused = tt;
        whole = record { replies = d.1; played = d.2; written = refl; left = refl; stored = same };
        written = d.3;
      })
      (λ e. let d = s.cut e in
      record {
        outcome = generated all;
        done = d.0;
        part = d.1;
        comes = comes;
        being = record { being = d.2; left = refl; stored = same };
        cut = d.3;
      })
