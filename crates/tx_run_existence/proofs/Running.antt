-- Words, files and a script have a run.
use Rattle.std.proofs.Common.{◌≡◌, ◌≢◌, ◌⊎◌, inl, inr, ℕ, zero, suc, ◌+◌, ◌-◌, ◌^◌, ◌==◌, ◌≤◌, Bool, true, false, not}
use Rattle.std.proofs.Common.{List, []}
use Rattle.std.proofs.Common.{◌∷◌, ◌++◌, length, take, drop, Option, Some, refl, sym, subst, arith, append-nil}
use Rattle.std.specs.Prelude.{All, Contains, ◌&&◌}
use Rattle.std.specs.List.{AllByRecursion, position_or_len}
use Rattle.std.specs.Io.KnownBytes.{append_known}
use Rattle.std.proofs.lemmas.Bool.{cases_lt, cases_eq, cases_Bool}
use Rattle.std.proofs.lemmas.List.Elements.{All-nil, All-cons, Contains-append_right}
use Rattle.tx_outside.specs.Counts.{Rose, NeverFalls}
use Rattle.tx_outside.specs.Files.{Files}
use Rattle.tx_outside.specs.Outside.{StoreGoesOn, StoreSeen}
use Rattle.tx_open.specs.Outcomes.{OpenOutcome, faulty_words, missing, too_long, no_tree, store_fault, no_memory}
use Rattle.tx_open.specs.Outcomes.{opened, generated, ComesTo, IsCaused, IsDecided}
use Rattle.tx_open.specs.declared.opening.Opened.{Opened}
use Rattle.tx_session.specs.declared.TheConstants.{MOST_SCRIPT}
use Rattle.tx_session.specs.declared.status.Status.{Status}
use Rattle.tx_session.specs.declared.status.Status.TheVariants as statuses
use Rattle.tx_session.specs.Outcomes.{outcome_text, status_of}
use Rattle.tx_session.specs.Runs.{IsWhole, IsWholeOpened, IsWholeGenerated, IsWholeUnopened}
use Rattle.tx_session.specs.Runs.{IsPlayed, own_line, generated_lines, generated_script, no_files, Outside, start_with}
use Rattle.tx_session.specs.Runs.{IsRunWritten, IsRun, IsFinal, IsPlayedAlone, TellsScript}
use Rattle.tx_session.specs.Scripts.{IsOneLine, HasEndedLines, AreLinesOf, is_quit, before_quit}
use Rattle.tx_session.specs.Worlds.{World, LineMark, plain, lacking, unsaved, told, unsaved_in, KeepsFiles}
use Rattle.tx_session.specs.Differences.{Suffices}
use Rattle.tx_run_existence.proofs.Lines.{IsNoQuit, has_lines, none_quits}
use Rattle.tx_run_existence.proofs.Opening.{SpellDocuments, some_outcome}
use Rattle.tx_run_existence.proofs.Playing.{IsNoSave, answers}
use Rattle.tx_run_existence.proofs.Ready.{opened_ready, generated_ready, ready_runs}
use Rattle.tx_run_existence.proofs.Replies.{IsFine, IsRunning}
use Rattle.tx_run_existence.specs.UnfailingRuns.{IsUnfailingRun}
use Rattle.tx_run_existence.proofs.Stores.{stays, store_stays}

-- ---- a script

record HasEnd (start : World) (script : List ℕ) : Type 0 where
  status : Status
  marks : List LineMark
  rest : List ℕ
  last : World
  text : List ℕ
  final : IsFinal status
  fine : AllByRecursion IsFine marks
  played : IsPlayed start script marks (Some rest) status last text

abbrev HasQuit : List (List ℕ) → Type 0
HasQuit lines = (quitting : List ℕ) × Contains lines quitting × (is_quit quitting ≡ true)

quits_or_not : (lines : List (List ℕ)) → HasQuit lines ⊎ AllByRecursion IsNoQuit lines
quits_or_not [] = inr tt
quits_or_not (x ∷ lines) = elim (cases_Bool (is_quit x)) [
  | inl quit ↦ inl (x, (0, omega arith, refl), quit)
  | inr goes ↦ elim (quits_or_not lines) [
    | inl later ↦ inl (later.0, Contains-append_right (x ∷ []) lines later.0 later.1, later.2)
    | inr none ↦ inr (goes, none)
  ]
]

ended : (start : World) (script : List ℕ) → IsRunning start → HasEnd start script
ended start script h = elim (cases_lt MOST_SCRIPT (length script)) [
  | inr short ↦
      let l = has_lines script in
      let lines : List (List ℕ) = l.ended ++ l.rest ∷ [] in
      let a = answers start (before_quit lines) h (none_quits lines) in
      record {
        status = statuses.Ok;
        marks = a.marks;
        rest = [];
        last = a.last;
        text = a.text;
        final = tt;
        fine = a.fine;
        played = record {
          lines = lines;
          are = inl (short, (l.ended, l.rest, l.lines, refl));
          readable = inl short;
          answered = a.answered;
          left = inl refl;
        };
      }
  | inl long ↦
      let l = has_lines (take MOST_SCRIPT script) in
      let are : AreLinesOf script l.ended = inr (long, (l.rest, l.lines)) in
      elim (quits_or_not l.ended) [
        | inl quit ↦
            let a = answers start (before_quit l.ended) h (none_quits l.ended) in
            record {
              status = statuses.Ok;
              marks = a.marks;
              rest = [];
              last = a.last;
              text = a.text;
              final = tt;
              fine = a.fine;
              played = record {
                lines = l.ended;
                are = are;
                readable = inr (l.ended, are, quit);
                answered = a.answered;
                left = inl refl;
              };
            }
        | inr none ↦
            let a = answers start l.ended h none in
            record {
              status = statuses.ScriptLong;
              marks = a.marks;
              rest = drop (length script) script;
              last = a.last;
              text = a.text;
              final = tt;
              fine = a.fine;
              played = record {
                lines = l.ended;
                are = are;
                long = long;
                answered = a.answered;
                left = (length script, long, omega arith, refl);
              };
            }
      ]
]

-- ---- the script of a generated document

abbrev is_plain : List ℕ → Bool
is_plain [] = true
is_plain (b ∷ bs) = not (b == 10) && is_plain bs

both_true : (a b : Bool) → a && b ≡ true → (a ≡ true) × (b ≡ true)
both_true true b e = (refl, e)
both_true false b e = absurd (cc)

plain_is : (text : List ℕ) → is_plain text ≡ true → IsOneLine text
plain_is [] e = All-nil (λ b. b ≢ 10)
plain_is (b ∷ bs) e =
    let both = both_true (not (b == 10)) (is_plain bs) e in
    All-cons (λ c. c ≢ 10) b bs (λ same. by_number b same both.0) (plain_is bs both.1)
  where
    by_number : (c : ℕ) → c ≡ 10 → not (c == 10) ≡ true → ⊥
    by_number c same f = let ten : not (10 == 10) ≡ true = subst (λ d. not (d == 10) ≡ true) same f in cc

abbrev are_plain : List (List ℕ) → Bool
are_plain [] = true
are_plain (x ∷ lines) = is_plain x && are_plain lines

plain_are : (lines : List (List ℕ)) → are_plain lines ≡ true → All IsOneLine lines
plain_are [] e = All-nil IsOneLine
plain_are (x ∷ lines) e =
    let both = both_true (is_plain x) (are_plain lines) e in
    All-cons IsOneLine x lines (plain_is x both.0) (plain_are lines both.1)

abbrev lines_alone : List (List ℕ)
lines_alone = generated_lines ++ [] ∷ []

ended_alone : HasEndedLines generated_script generated_lines []
ended_alone = record {
  whole = sym (append-nil generated_script);
  each = plain_are generated_lines refl;
  last = All-nil (λ b. b ≢ 10);
}

front_of : (n : ℕ) (lines : List (List ℕ)) → AllByRecursion IsNoSave lines → AllByRecursion IsNoSave (take n lines)
front_of zero lines h = tt
front_of (suc n) [] h = tt
front_of (suc n) (x ∷ lines) h = (h.0, front_of n lines h.1)

saves_none : AllByRecursion IsNoSave lines_alone
saves_none =
    (refl, (refl, (refl, (refl, (refl, (refl, (refl, (refl, (refl, (refl, (refl, tt)))))))))))

record HasEndAlone (all : Opened) (steps : ℕ) : Type 0 where
  marks : List LineMark
  text : List ℕ
  new : ℕ
  fine : AllByRecursion IsFine marks
  played : IsPlayedAlone all steps new marks statuses.Ok text

ended_alone_by : (all : Opened) (steps : ℕ) → IsRunning (start_with all no_files steps) → HasEndAlone all steps
ended_alone_by all steps h =
    let short : length generated_script ≤ MOST_SCRIPT = omega arith in
    let a = answers (start_with all no_files steps) (before_quit lines_alone) h (none_quits lines_alone) in
    record {
      marks = a.marks;
      text = a.text;
      new = a.last.steps;
      fine = a.fine;
      played = record {
        steps = steps;
        last = a.last;
        left = [];
        begun = omega arith;
        played = record {
          lines = lines_alone;
          are = inl (short, (generated_lines, [], ended_alone, refl));
          readable = inl short;
          answered = a.answered;
          left = inl refl;
        };
        unfailing = λ e. cc;
        kept = a.kept (front_of (position_or_len is_quit lines_alone) lines_alone saves_none);
        counted = refl;
      };
    }

-- ---- counts

-- a count that rises by one, unless it is at its last value
record HasRisen (old : ℕ) : Type 0 where
  new : ℕ
  rose : Rose old new
  rises : NeverFalls old new

risen : (old : ℕ) → HasRisen old
risen old = elim (cases_eq old (2 ^ 64 - 1)) [
  | inl last ↦ record { new = old; rose = inr last; rises = stays old }
  | inr other ↦ record {
    new = old + 1;
    rose = inl (omega arith);
    rises = record {
      kept = omega arith;
      within = λ le. elim (cases_lt old (2 ^ 64 - 1)) [
        | inl less ↦ omega (arith, less)
        | inr most ↦ absurd (other (omega (arith, le, most)))
      ];
    };
  }
]

-- ---- all runs

written_run : (words : List (List ℕ)) (status : Status) (before after : Outside) → IsFinal status
    → IsRunWritten words status before after → IsRun words status before after
written_run words statuses.OutputFault before after f h = absurd f
written_run words status before after f h = h

suffice : (marks : List LineMark) → AllByRecursion IsFine marks → Suffices marks
suffice [] h = tt
suffice (mark ∷ marks) h = ((λ e. subst IsFine e h.0), suffice marks h.1)

all_saved : (marks : List LineMark) → AllByRecursion IsFine marks → unsaved_in marks ≡ 0
all_saved [] h = refl
all_saved (plain ∷ marks) h = all_saved marks h.1
all_saved (lacking ∷ marks) h = absurd h.0
all_saved (unsaved ∷ marks) h = absurd h.0
all_saved (told n ∷ marks) h = all_saved marks h.1

abbrev pub HasRun : List (List ℕ) → Files → Outside → Type 0
HasRun words files before =
    (after : Outside) × (marks : List LineMark) × (status : Status) × (text : List ℕ)
    × IsUnfailingRun words files before after marks status text

module _ (words : List (List ℕ)) (before : Outside) (files : Files) (script : List ℕ)
    (known : before.store.files ≡ Some files) (tells : before.input.left ≡ Some script) where
  -- what is outside after the text is written
  abbrev after_text : StoreSeen → Option (List ℕ) → ℕ → List ℕ → Outside
  after_text store left steps text = record {
    store = store;
    input = record before.input { left = left };
    output = record before.output { written = append_known before.output.written text };
    steps = steps;
  }

  -- a run of an outcome, which has written the text
  has_run : (o : OpenOutcome) (store : StoreSeen) (left : Option (List ℕ)) (steps : ℕ) (marks : List LineMark)
      (status : Status) (text : List ℕ) → ComesTo words (Some files) o → IsDecided o → IsFinal status
      → AllByRecursion IsFine marks → IsCaused before.store store o
      → IsWhole o before (after_text store left steps text) marks status text → HasRun words files before
  has_run o store left steps marks status text comes decided final fine caused whole =
      let after : Outside = after_text store left steps text in
      let written : IsRunWritten words status before after = record {
        outcome = o;
        marks = marks;
        text = text;
        comes = subst (λ (fs : Option Files). ComesTo words fs o) (sym known) comes;
        caused = caused;
        whole = whole;
        written = refl;
      } in (
        after,
        marks,
        status,
        text,
        record {
          outcome = o;
          comes = comes;
          decided = decided;
          final = final;
          whole = whole;
          suffices = suffice marks fine;
          saved = all_saved marks fine;
          run = written_run words status before after final written;
        },
      )

  -- nothing is opened
  unopened : (o : OpenOutcome) (store : StoreSeen) → KeepsFiles before.store store
      → IsWholeUnopened o before (after_text store before.input.left before.steps (outcome_text o)) [] (status_of o)
      (outcome_text o)
  unopened o store kept =
      record { unmarked = refl; ended = refl; written = refl; left = refl; kept = kept }

  by_outcome : (o : OpenOutcome) → ComesTo words (Some files) o → IsDecided o → HasRun words files before
  by_outcome faulty_words h d =
      has_run faulty_words before.store before.input.left before.steps [] statuses.Words (outcome_text faulty_words) h d
      tt tt tt (unopened faulty_words before.store (refl, store_stays before.store))
  by_outcome (missing word) h d =
      let o : OpenOutcome = missing word in
      let count = risen before.store.misses in
      let store : StoreSeen = record before.store { misses = count.new } in
      let goes_on : StoreGoesOn before.store store = record {
        known = refl;
        faults = stays before.store.faults;
        misses = count.rises;
        longs = stays before.store.longs;
      } in
      has_run o store before.input.left before.steps [] statuses.Missing (outcome_text o) h d tt tt count.rose
      (unopened o store (refl, goes_on))
  by_outcome (too_long word) h d =
      let o : OpenOutcome = too_long word in
      let count = risen before.store.longs in
      let store : StoreSeen = record before.store { longs = count.new } in
      let goes_on : StoreGoesOn before.store store = record {
        known = refl;
        faults = stays before.store.faults;
        misses = stays before.store.misses;
        longs = count.rises;
      } in
      has_run o store before.input.left before.steps [] statuses.Refused (outcome_text o) h d tt tt count.rose
      (unopened o store (refl, goes_on))
  by_outcome (no_tree word fault) h d =
      let o : OpenOutcome = no_tree word fault in
      has_run o before.store before.input.left before.steps [] statuses.Refused (outcome_text o) h d tt tt tt
      (unopened o before.store (refl, store_stays before.store))
  by_outcome (store_fault word) h d = absurd d
  by_outcome no_memory h d = absurd d
  by_outcome (opened all) h d =
      let runs = ready_runs all before.store before.steps (opened_ready words (Some files) all h) in
      let e = ended (start_with all before.store before.steps) script runs in
      let text : List ℕ = e.text ++ own_line e.status in
      let whole : IsWholeOpened all before (after_text e.last.store (Some e.rest) e.last.steps text) e.marks e.status
      text = record {
        script = script;
        replies = e.text;
        first = before.store;
        steps = before.steps;
        last = e.last;
        loaded = (refl, store_stays before.store);
        begun = omega arith;
        tells = subst (λ (o : Option (List ℕ)). TellsScript o script) (sym tells) refl;
        played = e.played;
        stored = refl;
        counted = refl;
        written = refl;
      } in
      has_run (opened all) e.last.store (Some e.rest) e.last.steps e.marks e.status text h d e.final e.fine tt whole
  by_outcome (generated all) h d =
      let runs = ready_runs all no_files before.steps (generated_ready words all h) in
      let e = ended_alone_by all before.steps runs in
      let text : List ℕ = e.text ++ own_line statuses.Ok in
      let whole : IsWholeGenerated all before (after_text before.store before.input.left e.new text) e.marks
      statuses.Ok text =
      record { replies = e.text; played = e.played; written = refl; left = refl; stored = refl } in
      has_run (generated all) before.store before.input.left e.new e.marks statuses.Ok text h d tt e.fine tt whole

  pub some_run : SpellDocuments → HasRun words files before
  some_run law = let o = some_outcome law words files in by_outcome o.0 o.1 o.2
