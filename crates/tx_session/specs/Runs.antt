-- A whole run: its status, and what it wrote.
use Rattle.std.specs.Prelude.{◌≡◌, ◌⊎◌, ◌<◌, ◌≤◌, ℕ, true, false, List, [], ◌∷◌, ◌++◌}
use Rattle.std.specs.Prelude.{length, take, drop, codes, Option, Some, IfSome, Contains, ◌+◌, ◌*◌, ◌≢◌}
use Rattle.std.specs.List.{flat_map}
use Rattle.std.specs.Io.KnownBytes.{append_known}
use Rattle.tx_outside.specs.Counts.{Rose}
use Rattle.tx_outside.specs.Known.{AppendsPart}
use Rattle.tx_outside.specs.Outside.{SinkSeen, SourceSeen, StoreSeen}
use Rattle.tx_doc.specs.Forms.{form_of}
use Rattle.tx_doc.specs.declared.buffer.Buffer.{Buffer}
use Rattle.tx_words.specs.declared.asked.Source.TheVariants.{Files as AllFiles, Generated}
use Rattle.tx_words.specs.Words.{Ask, Named}
use Rattle.tx_open.specs.declared.opening.Opened.{Opened}
use Rattle.tx_open.specs.Outcomes.{OpenOutcome, opened, generated, AreRead, ComesTo, FileHolds, IsCaused}
use Rattle.tx_open.specs.Outcomes.{nodes_in_buffers}
use Rattle.tx_state.specs.States.{opening_state}
use Rattle.tx_units.specs.Units.{made}
use Rattle.tx_view.specs.Names.{Empty}
use Rattle.tx_cmd.specs.declared.TheConstants.{MOST_LINE}
use Rattle.tx_session.specs.declared.TheConstants.{MOST_SCRIPT}
use Rattle.tx_session.specs.declared.status.Status.{Status}
use Rattle.tx_session.specs.declared.status.Status.TheVariants.{Ok, StoreFault, InputFault}
use Rattle.tx_session.specs.declared.status.Status.TheVariants.{OutputFault, NoMemory, ScriptLong}
use Rattle.tx_print.specs.Lines.{line}
use Rattle.tx_session.specs.Forms.{SpellsNoTree}
use Rattle.tx_session.specs.Outcomes.{status_of, outcome_text}
use Rattle.tx_session.specs.Replies.{IsLineReply}
use Rattle.tx_session.specs.Worlds.{SeenSession, WholeSession, World, LineMark, KeepsFiles}
use Rattle.tx_session.specs.Scripts.{HasEndedLines, AreLinesOf, Answered, before_quit, command_line, is_quit}

-- the session of what was opened, on pages of the size that was asked for; nothing is shown yet
abbrev pub seen_start : Opened → SeenSession
seen_start all =
    record {
      state = opening_state all.buffers;
      width = all.width;
      height = all.height;
      fresh = false;
    }

-- such a session with its view's cache, which is empty
abbrev pub whole_start : Opened → WholeSession
whole_start all =
    record { seen = seen_start all; keep = record { fresh = false; stores = Empty all.buffers; work = 0 } }

-- The most steps of opening these files and starting their session: each node is read, and may be made modern, and
-- nodes are made for units.
abbrev pub opening_cost : Opened → ℕ
opening_cost all = 2 * nodes_in_buffers all.buffers + made all.buffers

-- the most steps of reading this generated document and starting its session
abbrev pub generating_cost : Opened → ℕ
generating_cost all = nodes_in_buffers all.buffers + made all.buffers

-- where a session of what was opened begins, when the count of steps is this
abbrev pub start_with : Opened → StoreSeen → ℕ → World
start_with all store steps = record { session = whole_start all; store = store; steps = steps }

-- the script is this one, as far as the input is known
abbrev pub TellsScript : Option (List ℕ) → List ℕ → Type 0
TellsScript told script = IfSome told (λ bytes. bytes ≡ script)

-- a script is read to its end, or to a line `quit` that ends within the limit
abbrev pub CanBeRead : List ℕ → Type 0
CanBeRead script =
    (length script ≤ MOST_SCRIPT)
    ⊎ ((lines : List (List ℕ)) × AreLinesOf script lines
    × ((quitting : List ℕ) × Contains lines quitting × (is_quit quitting ≡ true)))

-- a line `quit` ended in what was taken of the script; this rest of it wasn't taken
pub record EndedByQuit (script rest : List ℕ) : Type 0 where
  pub upto : List ℕ
  pub between : List ℕ
  pub quitting : List ℕ
  pub ended : List (List ℕ)
  pub parts : script ≡ upto ++ 10 ∷ (between ++ rest)
  pub lines : HasEndedLines upto ended quitting
  pub quits : is_quit quitting ≡ true

-- ---- how a session ends, over a script of which the input still holds a rest afterwards
-- The text is the replies, from the first line's on, none left out.

-- the script was read to its end, or to a line `quit`
pub record IsPlayedThrough (start : World) (script : List ℕ) (marks : List LineMark) (rest : Option (List ℕ))
    (last : World) (text : List ℕ) : Type 0 where
  pub lines : List (List ℕ)
  pub are : AreLinesOf script lines
  pub readable : CanBeRead script
  pub answered : Answered start (before_quit lines) marks last text
  pub left : IfSome rest (λ bytes. (bytes ≡ []) ⊎ EndedByQuit script bytes)

-- the script is too long, and the lines that end within the limit were executed
pub record IsPlayedToLimit (start : World) (script : List ℕ) (marks : List LineMark) (rest : Option (List ℕ))
    (last : World) (text : List ℕ) : Type 0 where
  pub lines : List (List ℕ)
  pub are : AreLinesOf script lines
  pub long : MOST_SCRIPT < length script
  pub answered : Answered start lines marks last text
  pub left : IfSome rest (λ bytes. (n : ℕ) × (MOST_SCRIPT < n) × (n ≤ length script) × (bytes ≡ drop n script))

-- the input failed, and the lines that had ended in the bytes that were taken were executed
pub record IsPlayedToFault (start : World) (script : List ℕ) (marks : List LineMark) (rest : Option (List ℕ))
    (last : World) (text : List ℕ) : Type 0 where
  pub taken : ℕ
  pub ended : List (List ℕ)
  pub unended : List ℕ
  pub there : taken ≤ length script
  pub within : taken ≤ MOST_SCRIPT
  pub left : IfSome rest (λ bytes. bytes ≡ drop taken script)
  pub lines : HasEndedLines (take taken script) ended unended
  pub answered : Answered start ended marks last text

-- memory didn't suffice to store a byte of a line, and the lines before that line were executed
pub record IsPlayedToWant (start : World) (script : List ℕ) (marks : List LineMark) (rest : Option (List ℕ))
    (last : World) (text : List ℕ) : Type 0 where
  pub upto : List ℕ
  pub more : List ℕ
  pub byte : ℕ
  pub ended : List (List ℕ)
  pub unended : List ℕ
  pub parts : script ≡ upto ++ byte ∷ more
  pub inside : byte ≢ 10
  pub short : length unended ≤ MOST_LINE
  pub within : length upto < MOST_SCRIPT
  pub lines : HasEndedLines upto ended unended
  pub answered : Answered start ended marks last text
  pub left : IfSome rest (λ bytes. (between : List ℕ) × (more ≡ between ++ bytes))

abbrev pub IsPlayed : World → (script : List ℕ) → (marks : List LineMark) → (rest : Option (List ℕ)) → Status
    → (last : World) → (text : List ℕ) → Type 0
IsPlayed start script marks rest Ok last text = IsPlayedThrough start script marks rest last text
IsPlayed start script marks rest ScriptLong last text = IsPlayedToLimit start script marks rest last text
IsPlayed start script marks rest InputFault last text = IsPlayedToFault start script marks rest last text
IsPlayed start script marks rest NoMemory last text = IsPlayedToWant start script marks rest last text
IsPlayed start script marks rest _ last text = ⊥

-- a status's own line, after the replies
abbrev pub own_line : Status → List ℕ
own_line InputFault = line (codes "input")
own_line ScriptLong = line (codes "script-long")
own_line NoMemory = line (codes "memory")
own_line _ = []

-- ---- a generated document

-- the lines that the session of a generated document executes
abbrev pub generated_lines : List (List ℕ)
generated_lines =
    codes "page 0" ∷ codes "where 4294967295 0" ∷ codes "errors" ∷ codes "insert / 0 (tuple \"top\")" ∷ codes "page 0"
    ∷ codes "undo" ∷ codes "page 0" ∷ codes "page 1" ∷ codes "cursor" ∷ codes "quit" ∷ []

abbrev pub generated_script : List ℕ
generated_script = flat_map line generated_lines

-- the store of such a session, which saves nothing: it holds no file
abbrev pub no_files : StoreSeen
no_files = record { files = Some []; faults = 0; misses = 0; longs = 0 }

-- The session of a generated document executes its script, over a store without files, which doesn't change, and
-- without an input that could fail. It ends with a status, and has written this text.
pub record IsPlayedAlone (all : Opened) (old new : ℕ) (marks : List LineMark) (status : Status) (text : List ℕ) : Type 0
  where
    pub steps : ℕ
    pub last : World
    pub left : List ℕ
    pub begun : steps ≤ old + generating_cost all
    pub played : IsPlayed (start_with all no_files steps) generated_script marks (Some left) status last text
    pub unfailing : status ≢ InputFault
    pub kept : last.store ≡ no_files
    pub counted : last.steps ≡ new

-- ---- all runs

-- what is seen of what a run has outside itself, and how many steps were counted
pub record Outside : Type 0 where
  pub store : StoreSeen
  pub input : SourceSeen
  pub output : SinkSeen
  pub steps : ℕ

abbrev pub seen_outside : StoreSeen → SourceSeen → SinkSeen → ℕ → Outside
seen_outside store input output steps = record { store = store; input = input; output = output; steps = steps }

-- Files were opened, and their session, which begins with the steps of opening, has ended and written this text. The
-- store and the count of steps are then as its commands left them.
pub record IsWholeOpened (all : Opened) (before after : Outside) (marks : List LineMark) (status : Status)
    (text : List ℕ) : Type 0 where
  pub script : List ℕ
  pub replies : List ℕ
  pub first : StoreSeen
  pub steps : ℕ
  pub last : World
  pub loaded : KeepsFiles before.store first
  pub begun : steps ≤ before.steps + opening_cost all
  pub tells : TellsScript before.input.left script
  pub played : IsPlayed (start_with all first steps) script marks after.input.left status last replies
  pub stored : last.store ≡ after.store
  pub counted : last.steps ≡ after.steps
  pub written : text ≡ replies ++ own_line status

-- a document was generated; its session leaves the store and the rest of the input as they were
pub record IsWholeGenerated (all : Opened) (before after : Outside) (marks : List LineMark) (status : Status)
    (text : List ℕ) : Type 0 where
  pub replies : List ℕ
  pub played : IsPlayedAlone all before.steps after.steps marks status replies
  pub written : text ≡ replies ++ own_line status
  pub left : after.input.left ≡ before.input.left
  pub stored : after.store ≡ before.store

-- nothing was opened, and nothing is taken of the input
pub record IsWholeUnopened (unopened : OpenOutcome) (before after : Outside) (marks : List LineMark) (status : Status)
    (text : List ℕ) : Type 0 where
  pub unmarked : marks ≡ []
  pub ended : status ≡ status_of unopened
  pub written : text ≡ outcome_text unopened
  pub left : after.input.left ≡ before.input.left
  pub kept : KeepsFiles before.store after.store

abbrev pub IsWhole : OpenOutcome → (before after : Outside) → List LineMark → Status → List ℕ → Type 0
IsWhole (opened all) before after marks status text = IsWholeOpened all before after marks status text
IsWhole (generated all) before after marks status text = IsWholeGenerated all before after marks status text
IsWhole unopened before after marks status text = IsWholeUnopened unopened before after marks status text

-- ---- a run that the output cuts short

-- the reply to one of the script's lines, after the replies to all lines before it
pub record IsReplyBehind (start : World) (script : List ℕ) (next : World) (done reply : List ℕ) : Type 0 where
  pub lines : List (List ℕ)
  pub before : List (List ℕ)
  pub behind : List (List ℕ)
  pub one : List ℕ
  pub marks : List LineMark
  pub seen : World
  pub mark : LineMark
  pub are : AreLinesOf script lines
  pub parts : lines ≡ before ++ one ∷ behind
  pub answered : Answered start before marks seen done
  pub replied : IsLineReply seen (command_line one) mark next reply

-- the status's own line, after all replies
pub record IsOwnLine (input_failed : Type 0) (start : World) (script : List ℕ) (rest : Option (List ℕ)) (last : World)
    (done part : List ℕ) : Type 0 where
  pub status : Status
  pub marks : List LineMark
  pub played : IsPlayed start script marks rest status last done
  pub own : part ≡ own_line status
  pub caused : status ≡ InputFault → input_failed

-- such a reply in the session of a generated document
pub record IsReplyAlone (all : Opened) (old new : ℕ) (done reply : List ℕ) : Type 0 where
  pub steps : ℕ
  pub next : World
  pub begun : steps ≤ old + generating_cost all
  pub behind : IsReplyBehind (start_with all no_files steps) generated_script next done reply
  pub kept : next.store ≡ no_files
  pub counted : next.steps ≡ new

pub record IsOwnLineAlone (all : Opened) (old new : ℕ) (done part : List ℕ) : Type 0 where
  pub status : Status
  pub marks : List LineMark
  pub played : IsPlayedAlone all old new marks status done
  pub own : part ≡ own_line status

-- files were opened, and this part is being written after what is done
pub record IsCutOpened (all : Opened) (before after : Outside) (done part : List ℕ) : Type 0 where
  pub script : List ℕ
  pub first : StoreSeen
  pub steps : ℕ
  pub last : World
  pub loaded : KeepsFiles before.store first
  pub begun : steps ≤ before.steps + opening_cost all
  pub tells : TellsScript before.input.left script
  pub stored : last.store ≡ after.store
  pub counted : last.steps ≡ after.steps
  pub being : IsReplyBehind (start_with all first steps) script last done part
      ⊎ IsOwnLine (Rose before.input.faults after.input.faults) (start_with all first steps) script after.input.left
      last done part

-- a document was generated
pub record IsCutGenerated (all : Opened) (before after : Outside) (done part : List ℕ) : Type 0 where
  pub being : IsReplyAlone all before.steps after.steps done part
      ⊎ IsOwnLineAlone all before.steps after.steps done part
  pub left : after.input.left ≡ before.input.left
  pub stored : after.store ≡ before.store

-- nothing was opened, and the line that says why is being written
pub record IsCutUnopened (unopened : OpenOutcome) (before after : Outside) (done part : List ℕ) : Type 0 where
  pub none : done ≡ []
  pub being : part ≡ outcome_text unopened
  pub left : after.input.left ≡ before.input.left
  pub kept : KeepsFiles before.store after.store
  pub caused : IsCaused before.store after.store unopened

-- what is being written: some of it is, and this part not yet whole
abbrev pub IsBeingWritten : OpenOutcome → (before after : Outside) → (done part : List ℕ) → Type 0
IsBeingWritten (opened all) before after done part = IsCutOpened all before after done part
IsBeingWritten (generated all) before after done part = IsCutGenerated all before after done part
IsBeingWritten unopened before after done part = IsCutUnopened unopened before after done part

-- The words and the files have an outcome, and a run of it ends with the status. After a fault of the output only a
-- part of what was being written is written, from its start on.
pub record IsRunWritten (words : List (List ℕ)) (status : Status) (before after : Outside) : Type 0 where
  pub outcome : OpenOutcome
  pub marks : List LineMark
  pub text : List ℕ
  pub comes : ComesTo words before.store.files outcome
  pub caused : IsCaused before.store after.store outcome
  pub whole : IsWhole outcome before after marks status text
  pub written : after.output.written ≡ append_known before.output.written text

pub record IsCutShort (words : List (List ℕ)) (before after : Outside) : Type 0 where
  pub outcome : OpenOutcome
  pub done : List ℕ
  pub part : List ℕ
  pub comes : ComesTo words before.store.files outcome
  pub being : IsBeingWritten outcome before after done part
  pub cut : AppendsPart part (append_known before.output.written done) after.output.written

abbrev pub IsRun : List (List ℕ) → Status → (before after : Outside) → Type 0
IsRun words OutputFault before after = IsCutShort words before after
IsRun words status before after = IsRunWritten words status before after

-- a status that words, files, script and marks determine: no device failed, and memory sufficed
abbrev pub IsFinal : Status → Type 0
IsFinal StoreFault = ⊥
IsFinal InputFault = ⊥
IsFinal OutputFault = ⊥
IsFinal NoMemory = ⊥
IsFinal _ = Unit {0}

-- the words ask for a document that is generated from a number
abbrev pub AskToGenerate : List (List ℕ) → Type 0
AskToGenerate words = (width height number count : ℕ) × Ask words width height (Generated number count)

-- A file that the words ask for, where those before it are read, is refused: it was too long, or its bytes spell no
-- tree within the limits.
pub record IsFileRefused (words : List (List ℕ)) (old new : StoreSeen) : Type 0 where
  pub width : ℕ
  pub height : ℕ
  pub before : List Named
  pub buffers : List Buffer
  pub file : Named
  pub behind : List Named
  pub asked : Ask words width height (AllFiles (before ++ file ∷ behind))
  pub read : AreRead old.files before buffers
  pub refused : Rose old.longs new.longs
      ⊎ ((bytes : List ℕ) × FileHolds old.files file.word bytes × SpellsNoTree (form_of file.word) bytes)
