-- Why a run ends as it does.
use Rattle.std.proofs.Common.{◌≡◌, ◌≢◌, ◌⊎◌, ◌≤◌, ◌+◌, ◌*◌, inl, inr, ℕ, List, [], ◌++◌, Option, Some, None, IfSome}
use Rattle.std.proofs.Common.{refl, sym, ap, subst, ◌∙◌, arith}
use Rattle.std.specs.Io.KnownBytes.{append_known}
use Rattle.tx_outside.specs.Files.{Files}
use Rattle.tx_outside.specs.Counts.{Rose}
use Rattle.tx_outside.specs.Known.{AppendsPart}
use Rattle.tx_outside.specs.Outside.{SinkSeen, SourceSeen, StoreSeen}
use Rattle.tx_outside.proofs.Pieces.{append_known-then, append_known-nil}
use Rattle.tx_session.specs.declared.status.Status.{Status}
use Rattle.tx_session.specs.declared.status.Status.TheVariants as statuses
use Rattle.tx_words.specs.declared.asked.Source.TheVariants.{Files as AllFiles}
use Rattle.tx_words.specs.Words.{Ask, AreFaulty}
use Rattle.tx_open.specs.declared.opening.Opened.{Opened}
use Rattle.tx_open.specs.declared.opening.Opening.{Opening}
use Rattle.tx_open.specs.declared.opening.Opening.TheVariants as openings
use Rattle.tx_open.specs.Openings.{open_outcome}
use Rattle.tx_open.specs.Outcomes.{OpenOutcome, faulty_words, missing, too_long, no_tree, store_fault, no_memory}
use Rattle.tx_open.specs.Outcomes.{opened, generated, ComesTo, EndsOf, FileHolds, IsCaused, nodes_in_buffers}
use Rattle.tx_open.proofs.Files.{no_fault}
use Rattle.tx_session.specs.Forms.{SpellsNoTree}
use Rattle.tx_session.specs.Outcomes.{status_of, outcome_text}
use Rattle.tx_session.specs.Worlds.{WholeSession, World, KeepsFiles, world}
use Rattle.tx_units.specs.Units.{made}
use Rattle.tx_doc.specs.Forms.{form_of}
use Rattle.tx_session.specs.Runs.{Outside, seen_outside, IsFileRefused, CanBeRead, TellsScript, IsRun, IsRunWritten}
use Rattle.tx_session.specs.Runs.{IsCutShort, IsWhole, IsBeingWritten, IsWholeUnopened, IsCutUnopened, opening_cost}
use Rattle.tx_session.specs.Runs.{own_line, start_with}
use Rattle.tx_session.specs.Differences.{EndsAtOpening}
use Rattle.tx_session.specs.Playing.{HasPlayed, IsCutOff, IsEnd, IsClosed, IsClosedInPart, IsServed, IsUnopenedLine}
use Rattle.tx_session.proofs.Lining.{long_unread}

-- a run that was written, whole or in part
pub run_of : (words : List (List ℕ)) (status : Status) (before after : Outside)
    → (status ≢ statuses.OutputFault → IsRunWritten words status before after)
    → (status ≡ statuses.OutputFault → IsCutShort words before after) → IsRun words status before after
run_of words statuses.OutputFault before after done cut = cut refl
run_of words statuses.Ok before after done cut = done (λ e. cc)
run_of words statuses.Words before after done cut = done (λ e. cc)
run_of words statuses.Missing before after done cut = done (λ e. cc)
run_of words statuses.Refused before after done cut = done (λ e. cc)
run_of words statuses.StoreFault before after done cut = done (λ e. cc)
run_of words statuses.InputFault before after done cut = done (λ e. cc)
run_of words statuses.NoMemory before after done cut = done (λ e. cc)
run_of words statuses.ScriptLong before after done cut = done (λ e. cc)

-- nothing was opened
abbrev pub IsUnopened : OpenOutcome → Type 0
IsUnopened o = (all : Opened) → (o ≢ opened all) × (o ≢ generated all)

module _ (before after : Outside) (loaded : KeepsFiles before.store after.store)
    (left : after.input.left ≡ before.input.left) where
  nothing_opened : (o : OpenOutcome) → IsWholeUnopened o before after [] (status_of o) (outcome_text o)
  nothing_opened o = record { unmarked = refl; ended = refl; written = refl; left = left; kept = loaded }

  whole_line : (o : OpenOutcome) → IsUnopened o → IsWhole o before after [] (status_of o) (outcome_text o)
  whole_line faulty_words u = nothing_opened faulty_words
  whole_line (missing file) u = nothing_opened (missing file)
  whole_line (too_long file) u = nothing_opened (too_long file)
  whole_line (no_tree file fault) u = nothing_opened (no_tree file fault)
  whole_line (store_fault file) u = nothing_opened (store_fault file)
  whole_line no_memory u = nothing_opened no_memory
  whole_line (opened all) u = absurd ((u all).0 refl)
  whole_line (generated all) u = absurd ((u all).1 refl)

  nothing_done : (o : OpenOutcome) → IsCaused before.store after.store o
      → IsCutUnopened o before after [] (outcome_text o)
  nothing_done o c = record { none = refl; being = refl; left = left; kept = loaded; caused = c }

  line_being : (o : OpenOutcome) → IsCaused before.store after.store o → IsUnopened o
      → IsBeingWritten o before after [] (outcome_text o)
  line_being faulty_words c u = nothing_done faulty_words c
  line_being (missing file) c u = nothing_done (missing file) c
  line_being (too_long file) c u = nothing_done (too_long file) c
  line_being (no_tree file fault) c u = nothing_done (no_tree file fault) c
  line_being (store_fault file) c u = nothing_done (store_fault file) c
  line_being no_memory c u = nothing_done no_memory c
  line_being (opened all) c u = absurd ((u all).0 refl)
  line_being (generated all) c u = absurd ((u all).1 refl)

nothing_before : (before after : Option (List ℕ)) (part : List ℕ) → AppendsPart part before after
    → AppendsPart part (append_known before []) after
nothing_before before after part p = subst (λ b. AppendsPart part b after) (sym (append_known-nil before)) p

-- the line of an outcome that opened nothing
pub line_run : (words : List (List ℕ)) (stored later : StoreSeen) (old new : ℕ) (input : SourceSeen) (o : OpenOutcome)
    (status : Status) (before after : SinkSeen) → KeepsFiles stored later → IsCaused stored later o → IsUnopened o
    → ComesTo words stored.files o
    → (status ≢ statuses.OutputFault
    → (status ≡ status_of o) × (after.written ≡ append_known before.written (outcome_text o)))
    → (status ≡ statuses.OutputFault → AppendsPart (outcome_text o) before.written after.written)
    → IsRun words status (seen_outside stored input before old) (seen_outside later input after new)
line_run words stored later old new input o status before after loaded caused u comes done cut =
    run_of words status (seen_outside stored input before old) (seen_outside later input after new)
    (λ n. let d = done n in
    record {
      outcome = o;
      marks = [];
      text = outcome_text o;
      comes = comes;
      caused = caused;
      whole = subst
          (λ s. IsWhole o (seen_outside stored input before old) (seen_outside later input after new) [] s
          (outcome_text o)) (sym d.0)
          (whole_line (seen_outside stored input before old) (seen_outside later input after new) loaded refl o u);
      written = d.1;
    })
    (λ e. record {
      outcome = o;
      done = [];
      part = outcome_text o;
      comes = comes;
      being = line_being (seen_outside stored input before old) (seen_outside later input after new) loaded refl o
          caused u;
      cut = nothing_before before.written after.written (outcome_text o) (cut e);
    })

closed : (start last : World) (told rest : Option (List ℕ)) (status result : Status)
    (before between after : Option (List ℕ)) → HasPlayed start last told rest status before between
    → (result ≡ status) × (after ≡ append_known between (own_line status))
    → IsClosed start last told rest result before after
closed start last told rest status result before between after p d =
    subst (λ s. IsClosed start last told rest s before after) (sym d.0)
    (record {
      script = p.script;
      marks = p.marks;
      replies = p.replies;
      tells = p.tells;
      played = p.played;
      written =
          append_known-then before between after p.replies (own_line status) p.written d.1;
    })

-- a session that was served
pub served : (failed : Type 0) (start last : World) (told rest : Option (List ℕ)) (status result : Status)
    (before between after : Option (List ℕ)) → (status ≡ statuses.InputFault → failed)
    → HasPlayed start last told rest status before between
    → (result ≢ statuses.OutputFault → (result ≡ status) × (after ≡ append_known between (own_line status)))
    → (result ≡ statuses.OutputFault → AppendsPart (own_line status) between after)
    → IsServed failed result start last told rest before after
served failed start last told rest status statuses.OutputFault before between after caused p done cut =
    inr (record { status = status; between = between; played = p; part = cut refl; caused = caused })
served failed start last told rest status statuses.Ok before between after caused p done cut =
    closed start last told rest status statuses.Ok before between after p (done (λ e. cc))
served failed start last told rest status statuses.Words before between after caused p done cut =
    closed start last told rest status statuses.Words before between after p (done (λ e. cc))
served failed start last told rest status statuses.Missing before between after caused p done cut =
    closed start last told rest status statuses.Missing before between after p (done (λ e. cc))
served failed start last told rest status statuses.Refused before between after caused p done cut =
    closed start last told rest status statuses.Refused before between after p (done (λ e. cc))
served failed start last told rest status statuses.StoreFault before between after caused p done cut =
    closed start last told rest status statuses.StoreFault before between after p (done (λ e. cc))
served failed start last told rest status statuses.InputFault before between after caused p done cut =
    closed start last told rest status statuses.InputFault before between after p (done (λ e. cc))
served failed start last told rest status statuses.NoMemory before between after caused p done cut =
    closed start last told rest status statuses.NoMemory before between after p (done (λ e. cc))
served failed start last told rest status statuses.ScriptLong before between after caused p done cut =
    closed start last told rest status statuses.ScriptLong before between after p (done (λ e. cc))

-- a session that ended without a fault of the output
pub end_played : (status : Status) (start last : World) (told rest before after : Option (List ℕ))
    → status ≢ statuses.OutputFault → IsEnd status start last told rest before after
    → HasPlayed start last told rest status before after
end_played statuses.OutputFault start last told rest before after n e = absurd (n refl)
end_played statuses.Ok start last told rest before after n e = e
end_played statuses.Words start last told rest before after n e = e
end_played statuses.Missing start last told rest before after n e = e
end_played statuses.Refused start last told rest before after n e = e
end_played statuses.StoreFault start last told rest before after n e = e
end_played statuses.InputFault start last told rest before after n e = e
end_played statuses.NoMemory start last told rest before after n e = e
end_played statuses.ScriptLong start last told rest before after n e = e

pub served_closed : (failed : Type 0) (status : Status) (start last : World) (told rest before after : Option (List ℕ))
    → status ≢ statuses.OutputFault → IsServed failed status start last told rest before after
    → IsClosed start last told rest status before after
served_closed failed statuses.OutputFault start last told rest before after n e = absurd (n refl)
served_closed failed statuses.Ok start last told rest before after n e = e
served_closed failed statuses.Words start last told rest before after n e = e
served_closed failed statuses.Missing start last told rest before after n e = e
served_closed failed statuses.Refused start last told rest before after n e = e
served_closed failed statuses.StoreFault start last told rest before after n e = e
served_closed failed statuses.InputFault start last told rest before after n e = e
served_closed failed statuses.NoMemory start last told rest before after n e = e
served_closed failed statuses.ScriptLong start last told rest before after n e = e

-- the run of a file that was opened
module _ (words : List (List ℕ)) (stored first : StoreSeen) (old steps : ℕ) (last : World) (input behind : SourceSeen)
    (all : Opened) (before after : SinkSeen) (loaded : KeepsFiles stored first)
    (within : steps ≤ old + opening_cost all) (comes : ComesTo words stored.files (opened all)) where
  abbrev beginning : World
  beginning = start_with all first steps

  abbrev began : Outside
  began = seen_outside stored input before old

  abbrev ended : Outside
  ended = seen_outside last.store behind after last.steps

  abbrev input_rose : Type 0
  input_rose = Rose input.faults behind.faults

  cut_run : IsCutOff beginning last input.left before.written after.written
      ⊎ IsClosedInPart input_rose beginning last input.left behind.left before.written after.written
      → IsCutShort words began ended
  cut_run (inl c) =
      record {
        outcome = opened all;
        done = c.done;
        part = c.reply;
        comes = comes;
        being = record {
          script = c.script;
          first = first;
          steps = steps;
          last = last;
          loaded = loaded;
          begun = within;
          tells = c.tells;
          stored = refl;
          counted = refl;
          being = inl c.behind;
        };
        cut = c.part;
      }
  cut_run (inr c) =
      record {
        outcome = opened all;
        done = c.played.replies;
        part = own_line c.status;
        comes = comes;
        being = record {
          script = c.played.script;
          first = first;
          steps = steps;
          last = last;
          loaded = loaded;
          begun = within;
          tells = c.played.tells;
          stored = refl;
          counted = refl;
          being = inr (record {
            status = c.status;
            marks = c.played.marks;
            played = c.played.played;
            own = refl;
            caused = c.caused;
          });
        };
        cut = subst (λ b. AppendsPart (own_line c.status) b after.written) c.played.written c.part;
      }

  pub opened_run : (status : Status)
      → IsServed input_rose status beginning last input.left behind.left before.written after.written
      → IsRun words status began ended
  opened_run status s =
      run_of words status began ended
      (λ n. let c = served_closed input_rose status beginning last input.left behind.left before.written
      after.written n s in
      record {
        outcome = opened all;
        marks = c.marks;
        text = c.replies ++ own_line status;
        comes = comes;
        caused = tt;
        whole = record {
          script = c.script;
          replies = c.replies;
          first = first;
          steps = steps;
          last = last;
          loaded = loaded;
          begun = within;
          tells = c.tells;
          played = c.played;
          stored = refl;
          counted = refl;
          written = refl;
        };
        written = c.written;
      })
      (λ e. cut_run
      (subst (λ st. IsServed input_rose st beginning last input.left behind.left before.written after.written) e s))

-- a whole run, or memory ran out before its session began
module _ (words : List (List ℕ)) (stored first later : StoreSeen) (old mid new : ℕ) (input behind : SourceSeen)
    (all : Opened) (status : Status) (before after : SinkSeen) (loaded : KeepsFiles stored first)
    (within : mid ≤ old + 2 * nodes_in_buffers all.buffers) (comes : ComesTo words stored.files (opened all)) where
  abbrev IsThis : StoreSeen → SourceSeen → Type 0
  IsThis store source = IsRun words status (seen_outside stored input before old) (seen_outside store source after new)

  pub whole_run : ((later ≡ first) × (behind ≡ input) × IsUnopenedLine no_memory status before.written after.written)
      ⊎ ((begun : ℕ) × (last : WholeSession) × (begun ≤ mid + made all.buffers)
      × IsServed (Rose input.faults behind.faults) status (start_with all first begun) (world last later new) input.left
      behind.left before.written after.written) → IsThis later behind
  whole_run (inl l) =
      subst (λ s. IsThis s behind) (sym l.0)
      (subst (λ r. IsThis first r) (sym l.1)
      (line_run words stored first old new input no_memory status before after loaded tt
      (λ all. ((λ e. cc), (λ e. cc))) tt l.2.done l.2.cut))
  whole_run (inr s) =
      opened_run words stored first old s.0 (world s.1 later new) input behind all before after loaded
      (omega (arith, within, s.2)) comes status s.3

-- the line that says why nothing was opened
module _ (words : List (List ℕ)) (stored later : StoreSeen) (old new : ℕ) (o : OpenOutcome) (status : Status)
    (before after : SinkSeen) (loaded : KeepsFiles stored later) (caused : IsCaused stored later o) (u : IsUnopened o)
    (comes : ComesTo words stored.files o)
    (line : IsUnopenedLine o status before.written after.written
    ⊎ IsUnopenedLine no_memory status before.written after.written) where
  pub reported_run : (input : SourceSeen)
      → IsRun words status (seen_outside stored input before old) (seen_outside later input after new)
  reported_run input =
      elim line [
        | inl l ↦ line_run words stored later old new input o status before after loaded caused u comes l.done l.cut
        | inr l ↦ line_run words stored later old new input no_memory status before after loaded tt
            (λ all. ((λ e. cc), (λ e. cc))) tt l.done l.cut
      ]

  pub reported_status : status ≢ statuses.OutputFault → (status ≡ status_of o) ⊎ (status ≡ statuses.NoMemory)
  reported_status m = elim line [ inl l ↦ inl (l.done m).0 | inr l ↦ inr (l.done m).0 ]

-- what became of the words, and why
unopened : (r : Opening) → ((all : Opened) → r ≡ openings.Opened all → ⊥)
    → ((all : Opened) → r ≡ openings.Generated all → ⊥) → IsUnopened (open_outcome r)
unopened openings.FaultyWords n m all = ((λ e. cc), (λ e. cc))
unopened (openings.Missing f) n m all = ((λ e. cc), (λ e. cc))
unopened (openings.TooLong f) n m all = ((λ e. cc), (λ e. cc))
unopened (openings.NoTree f c) n m all = ((λ e. cc), (λ e. cc))
unopened (openings.StoreFault f) n m all = ((λ e. cc), (λ e. cc))
unopened openings.UnreadWords n m all = ((λ e. cc), (λ e. cc))
unopened openings.NoMemory n m all = ((λ e. cc), (λ e. cc))
unopened (openings.Opened found) n m all = absurd (n found refl)
unopened (openings.Generated found) n m all = absurd (m found refl)

worded : (r : Opening) → r ≢ openings.FaultyWords → open_outcome r ≢ faulty_words
worded openings.FaultyWords n e = n refl
worded (openings.Missing f) n e = cc
worded (openings.TooLong f) n e = cc
worded (openings.NoTree f c) n e = cc
worded (openings.StoreFault f) n e = cc
worded openings.UnreadWords n e = cc
worded openings.NoMemory n e = cc
worded (openings.Opened all) n e = cc
worded (openings.Generated all) n e = cc

-- an outcome that opened nothing, with a status
abbrev pub Fits : OpenOutcome → Status → Type 0
Fits o status = (status ≡ status_of o) ⊎ (status ≡ statuses.NoMemory)

words_status : (o : OpenOutcome) → o ≢ faulty_words → status_of o ≡ statuses.Words → ⊥
words_status faulty_words n e = n refl
words_status (missing f) n e = cc
words_status (too_long f) n e = cc
words_status (no_tree f c) n e = cc
words_status (store_fault f) n e = cc
words_status no_memory n e = cc
words_status (opened all) n e = cc
words_status (generated all) n e = cc

early_status : (o : OpenOutcome) → (status_of o ≡ statuses.InputFault → ⊥) × (status_of o ≡ statuses.ScriptLong → ⊥)
    × (status_of o ≡ statuses.OutputFault → ⊥)
early_status faulty_words = ((λ e. cc), (λ e. cc), (λ e. cc))
early_status (missing f) = ((λ e. cc), (λ e. cc), (λ e. cc))
early_status (too_long f) = ((λ e. cc), (λ e. cc), (λ e. cc))
early_status (no_tree f c) = ((λ e. cc), (λ e. cc), (λ e. cc))
early_status (store_fault f) = ((λ e. cc), (λ e. cc), (λ e. cc))
early_status no_memory = ((λ e. cc), (λ e. cc), (λ e. cc))
early_status (opened all) = ((λ e. cc), (λ e. cc), (λ e. cc))
early_status (generated all) = ((λ e. cc), (λ e. cc), (λ e. cc))

refused_of : (words : List (List ℕ)) (old new : StoreSeen) (o : OpenOutcome) (h : EndsOf words old.files o)
    → (Rose old.longs new.longs ⊎ ((bytes : List ℕ) × FileHolds old.files h.ends.file.word bytes
    × SpellsNoTree (form_of h.ends.file.word) bytes)) → IsFileRefused words old new
refused_of words old new o h why =
    let ends = h.ends in
    record {
      width = h.width;
      height = h.height;
      before = ends.before;
      buffers = ends.buffers;
      file = ends.file;
      behind = ends.behind;
      asked = subst (λ names. Ask words h.width h.height (AllFiles names)) ends.parts h.asked;
      read = ends.read;
      refused = why;
    }

refused_outcome : (words : List (List ℕ)) (old new : StoreSeen) (o : OpenOutcome) → ComesTo words old.files o
    → IsCaused old new o → status_of o ≡ statuses.Refused → IsFileRefused words old new
refused_outcome words old new (too_long f) h c e = refused_of words old new (too_long f) h (inl c)
refused_outcome words old new (no_tree f fault) h c e =
    let why = h.ends.ends.1 in
    refused_of words old new (no_tree f fault) h
    (inr (why.bytes, why.held, λ t w k. no_fault (form_of h.ends.file.word) why.bytes fault t why.misspelled k w))
refused_outcome words old new faulty_words h c e = cc
refused_outcome words old new (missing f) h c e = cc
refused_outcome words old new (store_fault f) h c e = cc
refused_outcome words old new no_memory h c e = cc
refused_outcome words old new (opened all) h c e = cc
refused_outcome words old new (generated all) h c e = cc

-- a served session, by its status
unread_told : (told : Option (List ℕ)) (script : List ℕ) → TellsScript told script → (CanBeRead script → ⊥)
    → IfSome told (λ s. ¬ CanBeRead s)
unread_told None script tells h = tt
unread_told (Some s) script tells h = λ r. h (subst CanBeRead tells r)

pub served_long : (failed : Type 0) (status : Status) (start last : World) (told rest before after : Option (List ℕ))
    → IsServed failed status start last told rest before after → status ≡ statuses.ScriptLong
    → IfSome told (λ s. ¬ CanBeRead s)
served_long failed status start last told rest before after s e =
    long failed told rest (subst (λ st. IsServed failed st start last told rest before after) e s)
  where
    long : (failed : Type 0) (told rest : Option (List ℕ))
        → IsServed failed statuses.ScriptLong start last told rest before after → IfSome told (λ s. ¬ CanBeRead s)
    long failed told rest c =
        unread_told told c.script c.tells
        (long_unread c.script start last c.played.lines c.marks c.replies c.played.are c.played.long c.played.answered)

some_unread : (told : Option (List ℕ)) (script : List ℕ) → told ≡ Some script → IfSome told (λ s. ¬ CanBeRead s)
    → CanBeRead script → ⊥
some_unread told script e h = subst (λ t. IfSome t (λ s. ¬ CanBeRead s)) e h

pub served_complete : (failed : Type 0) (status : Status) (start last : World)
    (told rest before after : Option (List ℕ)) (script : List ℕ)
    → IsServed failed status start last told rest before after → told ≡ Some script → CanBeRead script
    → (status ≡ statuses.InputFault → ⊥) → (status ≡ statuses.OutputFault → ⊥)
    → (status ≡ statuses.Ok) ⊎ (status ≡ statuses.NoMemory)
served_complete failed statuses.Ok start last told rest before after script s e can i o = inl refl
served_complete failed statuses.NoMemory start last told rest before after script s e can i o = inr refl
served_complete failed statuses.InputFault start last told rest before after script s e can i o = absurd (i refl)
served_complete failed statuses.OutputFault start last told rest before after script s e can i o = absurd (o refl)
served_complete failed statuses.ScriptLong start last told rest before after script s e can i o =
    absurd (some_unread told script e (served_long failed statuses.ScriptLong start last told rest before after s refl)
    can)
served_complete failed statuses.Words start last told rest before after script s e can i o = absurd s.played
served_complete failed statuses.Missing start last told rest before after script s e can i o = absurd s.played
served_complete failed statuses.Refused start last told rest before after script s e can i o = absurd s.played
served_complete failed statuses.StoreFault start last told rest before after script s e can i o = absurd s.played

module _ (old new : StoreSeen) where
  missed : (o : OpenOutcome) → IsCaused old new o → status_of o ≡ statuses.Missing → Rose old.misses new.misses
  missed faulty_words c e = cc
  missed (missing word) c e = c
  missed (too_long word) c e = cc
  missed (no_tree word fault) c e = cc
  missed (store_fault word) c e = cc
  missed no_memory c e = cc
  missed (opened all) c e = cc
  missed (generated all) c e = cc

  failed_store : (o : OpenOutcome) → IsCaused old new o → status_of o ≡ statuses.StoreFault → Rose old.faults new.faults
  failed_store faulty_words c e = cc
  failed_store (missing word) c e = cc
  failed_store (too_long word) c e = cc
  failed_store (no_tree word fault) c e = cc
  failed_store (store_fault word) c e = c
  failed_store no_memory c e = cc
  failed_store (opened all) c e = cc
  failed_store (generated all) c e = cc

-- what became of the words where nothing was opened
pub record Unopened (words : List (List ℕ)) (old new : StoreSeen) (r : Opening) (status : Status) : Type 0 where
  pub not_words : status ≡ statuses.Words → ⊥
  pub missing_counted : status ≡ statuses.Missing → Rose old.misses new.misses
  pub refused : status ≡ statuses.Refused → IsFileRefused words old new
  pub fault_counted : status ≡ statuses.StoreFault → Rose old.faults new.faults
  pub not_input : status ≡ statuses.InputFault → ⊥
  pub not_long : status ≡ statuses.ScriptLong → ⊥
  pub words_only : AreFaulty words
      → (status ≡ statuses.Words) ⊎ (status ≡ statuses.NoMemory) ⊎ (status ≡ statuses.OutputFault)
  pub complete : (open_outcome r ≡ no_memory) ⊎ ((all : Opened) × (r ≡ openings.Opened all))
      → (status ≡ statuses.OutputFault → ⊥) → status ≡ statuses.NoMemory
  pub complete_generated : (open_outcome r ≡ no_memory) ⊎ ((all : Opened) × (r ≡ openings.Generated all))
      → (status ≡ statuses.OutputFault → ⊥) → status ≡ statuses.NoMemory

is_output_fault : (s : Status) → (s ≡ statuses.OutputFault) ⊎ (s ≢ statuses.OutputFault)
is_output_fault statuses.OutputFault = inl refl
is_output_fault statuses.Ok = inr (λ e. cc)
is_output_fault statuses.Words = inr (λ e. cc)
is_output_fault statuses.Missing = inr (λ e. cc)
is_output_fault statuses.Refused = inr (λ e. cc)
is_output_fault statuses.StoreFault = inr (λ e. cc)
is_output_fault statuses.InputFault = inr (λ e. cc)
is_output_fault statuses.NoMemory = inr (λ e. cc)
is_output_fault statuses.ScriptLong = inr (λ e. cc)

-- where a file decided, the words ask for files
asking : (words : List (List ℕ)) (files : Option Files) (o : OpenOutcome) → EndsOf words files o → AreFaulty words → ⊥
asking words files o h faulty = faulty h.width h.height (AllFiles h.names) h.asked

nothing_asked : (words : List (List ℕ)) (files : Option Files) (o : OpenOutcome) → ComesTo words files o → IsUnopened o
    → o ≢ faulty_words → AreFaulty words → status_of o ≡ statuses.NoMemory
nothing_asked words files faulty_words h u n faulty = absurd (n refl)
nothing_asked words files (missing word) h u n faulty = absurd (asking words files (missing word) h faulty)
nothing_asked words files (too_long word) h u n faulty = absurd (asking words files (too_long word) h faulty)
nothing_asked words files (no_tree word c) h u n faulty = absurd (asking words files (no_tree word c) h faulty)
nothing_asked words files (store_fault word) h u n faulty = absurd (asking words files (store_fault word) h faulty)
nothing_asked words files no_memory h u n faulty = refl
nothing_asked words files (opened all) h u n faulty = absurd ((u all).0 refl)
nothing_asked words files (generated all) h u n faulty = absurd ((u all).1 refl)

module _ (words : List (List ℕ)) (stored later : StoreSeen) (old new : ℕ) (r : Opening) (status : Status)
    (before after : SinkSeen) (loaded : KeepsFiles stored later) (comes : ComesTo words stored.files (open_outcome r))
    (caused : IsCaused stored later (open_outcome r)) (n : r ≢ openings.FaultyWords)
    (u : (all : Opened) → r ≡ openings.Opened all → ⊥) (m : (all : Opened) → r ≡ openings.Generated all → ⊥)
    (line : IsUnopenedLine (open_outcome r) status before.written after.written
    ⊎ IsUnopenedLine no_memory status before.written after.written) where
  pub unopened_run : (input : SourceSeen)
      → IsRun words status (seen_outside stored input before old) (seen_outside later input after new)
  unopened_run input =
      reported_run words stored later old new (open_outcome r) status before after loaded caused (unopened r u m) comes
      line input

  fits : status ≢ statuses.OutputFault → Fits (open_outcome r) status
  fits d =
      reported_status words stored later old new (open_outcome r) status before after loaded caused (unopened r u m)
      comes line d

  by_outcome : (s : Status) → status ≡ s → s ≢ statuses.OutputFault → s ≢ statuses.NoMemory
      → status_of (open_outcome r) ≡ s
  by_outcome s e o w = elim (fits (λ d. o (sym e ∙ d))) [ inl is ↦ sym is ∙ e | inr is ↦ absurd (w (sym e ∙ is)) ]

  -- the words ask for nothing, or memory ran out before they were read
  none_asked : AreFaulty words → status_of (open_outcome r) ≡ statuses.NoMemory
  none_asked faulty = nothing_asked words stored.files (open_outcome r) comes (unopened r u m) (worded r n) faulty

  opened_not : (open_outcome r ≡ no_memory) ⊎ ((all : Opened) × (r ≡ openings.Opened all))
      → status_of (open_outcome r) ≡ statuses.NoMemory
  opened_not (inl e) = ap status_of e
  opened_not (inr e) = absurd (u e.0 e.1)

  generated_not : (open_outcome r ≡ no_memory) ⊎ ((all : Opened) × (r ≡ openings.Generated all))
      → status_of (open_outcome r) ≡ statuses.NoMemory
  generated_not (inl e) = ap status_of e
  generated_not (inr e) = absurd (m e.0 e.1)

  wanting : status_of (open_outcome r) ≡ statuses.NoMemory → status ≢ statuses.OutputFault
      → status ≡ statuses.NoMemory
  wanting e d = elim (fits d) [ inl is ↦ is ∙ e | inr is ↦ is ]

  pub unopened_causes : Unopened words stored later r status
  unopened_causes =
      record {
        not_words = λ e. words_status (open_outcome r) (worded r n) (by_outcome statuses.Words e (λ d. cc) (λ d. cc));
        missing_counted = λ e. missed stored later (open_outcome r) caused
            (by_outcome statuses.Missing e (λ d. cc) (λ d. cc));
        refused = λ e. refused_outcome words stored later (open_outcome r) comes caused
            (by_outcome statuses.Refused e (λ d. cc) (λ d. cc));
        fault_counted = λ e. failed_store stored later (open_outcome r) caused
            (by_outcome statuses.StoreFault e (λ d. cc) (λ d. cc));
        not_input = λ e. (early_status (open_outcome r)).0 (by_outcome statuses.InputFault e (λ d. cc) (λ d. cc));
        not_long = λ e. (early_status (open_outcome r)).1 (by_outcome statuses.ScriptLong e (λ d. cc) (λ d. cc));
        words_only = λ faulty. elim (is_output_fault status) [
          | inl e ↦ inr (inr e)
          | inr d ↦ inr (inl (wanting (none_asked faulty) d))
        ];
        complete = λ found d. wanting (opened_not found) d;
        complete_generated = λ found d. wanting (generated_not found) d;
      }

-- a session that was served has opened its file
pub served_unread : (failed : Type 0) (status : Status) (start last : World) (told rest before after : Option (List ℕ))
    → IsServed failed status start last told rest before after → EndsAtOpening status → ⊥
served_unread failed statuses.Words start last told rest before after h e = h.played
served_unread failed statuses.Missing start last told rest before after h e = h.played
served_unread failed statuses.Refused start last told rest before after h e = h.played
served_unread failed statuses.StoreFault start last told rest before after h e = h.played
served_unread failed statuses.Ok start last told rest before after h e = e
served_unread failed statuses.InputFault start last told rest before after h e = e
served_unread failed statuses.OutputFault start last told rest before after h e = e
served_unread failed statuses.NoMemory start last told rest before after h e = e
served_unread failed statuses.ScriptLong start last told rest before after h e = e

-- a status of opening, where it is none
pub opens_not : (status other : Status) → (EndsAtOpening status → ⊥) → status ≡ other → EndsAtOpening other → ⊥
opens_not status other n e = subst (λ s. EndsAtOpening s → ⊥) e n
