-- The outcome of opening, by the words and the files.
use Rattle.std.specs.Prelude.{◌≡◌, ◌≤◌, ℕ, List, [], ◌∷◌, ◌++◌, length, sum_by, codes, Option, Some, IfSome}
use Rattle.tx_outside.specs.Counts.{Rose}
use Rattle.tx_outside.specs.Files.{Files, IsAbsent, IsTooLong, file_of}
use Rattle.tx_outside.specs.Outside.{StoreSeen}
use Rattle.tx_outside.specs.declared.file_store.TheConstants.{MOST_FILE}
use Rattle.tx_tree.specs.WideTree.{WideTree, nodes_of}
use Rattle.tx_tree.specs.Limits.{IsWithinLimits}
use Rattle.tx_tree.specs.declared.faults.ReadFault.{ReadFault}
use Rattle.tx_doc.specs.declared.buffer.Buffer.{Buffer}
use Rattle.tx_doc.specs.Forms.{form_of}
use Rattle.tx_doc.specs.Modern.{modern}
use Rattle.tx_tm_form.specs.Forms.{Spells as SpellsTm}
use Rattle.tx_generated.specs.Document.{document_text}
use Rattle.tx_words.specs.declared.asked.Source.TheVariants as sources
use Rattle.tx_words.specs.Words.{Ask, AreFaulty, Named}
use Rattle.tx_open.specs.Forms.{SpellsIn, IsFaultIn}
use Rattle.tx_open.specs.declared.opening.Opened.{Opened}

-- an outcome names a file by its word
pub data OpenOutcome : Type 0 where
  faulty_words : OpenOutcome
  missing : (word : List ℕ) → OpenOutcome
  too_long : (word : List ℕ) → OpenOutcome
  no_tree : (word : List ℕ) → (fault : ReadFault) → OpenOutcome
  store_fault : (word : List ℕ) → OpenOutcome
  no_memory : OpenOutcome
  opened : (all : Opened) → OpenOutcome
  generated : (all : Opened) → OpenOutcome

-- the words ask for files
abbrev pub AskForFiles : List (List ℕ) → Type 0
AskForFiles words = (width height : ℕ) × (names : List Named) × Ask words width height (sources.Files names)

-- ---- one file

-- the file has these bytes, as far as the files are known, and they are not too many
abbrev pub FileHolds : Option Files → List ℕ → List ℕ → Type 0
FileHolds files word bytes = IfSome files (λ all. file_of all word ≡ Some bytes) × (length bytes ≤ MOST_FILE)

-- the file's bytes spell this tree, in the form by the word, and within the limits
pub record IsTreeOfFile (files : Option Files) (word : List ℕ) (tree : WideTree) : Type 0 where
  pub bytes : List ℕ
  pub held : FileHolds files word bytes
  pub spelled : SpellsIn (form_of word) bytes tree
  pub within : IsWithinLimits tree

-- the file's bytes spell none, and this is why
pub record IsFaultOf (files : Option Files) (word : List ℕ) (fault : ReadFault) : Type 0 where
  pub bytes : List ℕ
  pub held : FileHolds files word bytes
  pub misspelled : IsFaultIn (form_of word) bytes fault

-- the buffer has the name of the file, and the modern form of the tree that its bytes spell
pub record IsReadAs (files : Option Files) (file : Named) (buffer : Buffer) : Type 0 where
  pub named : buffer.name ≡ file.name
  pub spelled : WideTree
  pub read : IsTreeOfFile files file.word spelled
  pub made : buffer.tree ≡ modern spelled

-- Opening ends at the file of this word. A fault of the store may come at each file, and memory may run out.
abbrev pub EndsAt : Option Files → List ℕ → OpenOutcome → Type 0
EndsAt files file (missing word) = (word ≡ file) × IfSome files (IsAbsent file)
EndsAt files file (too_long word) = (word ≡ file) × IfSome files (IsTooLong file)
EndsAt files file (no_tree word fault) = (word ≡ file) × IsFaultOf files file fault
EndsAt files file (store_fault word) = word ≡ file
EndsAt files file no_memory = Unit {0}
EndsAt files file _ = ⊥

-- ---- all files

-- each file is read as the buffer of the same number
abbrev pub AreRead : Option Files → List Named → List Buffer → Type 0
AreRead files [] [] = Unit {0}
AreRead files (file ∷ others) (buffer ∷ buffers) = IsReadAs files file buffer × AreRead files others buffers
AreRead files _ _ = ⊥

-- the nodes of the trees of buffers, leaves left out
abbrev pub nodes_in_buffers : List Buffer → ℕ
nodes_in_buffers buffers = sum_by (λ buffer. nodes_of buffer.tree) buffers

-- one of the files ends it with this outcome, and those before it are read
pub record EndsIn (files : Option Files) (names : List Named) (outcome : OpenOutcome) : Type 0 where
  pub before : List Named
  pub buffers : List Buffer
  pub file : Named
  pub behind : List Named
  pub parts : names ≡ before ++ file ∷ behind
  pub read : AreRead files before buffers
  pub ends : EndsAt files file.word outcome

-- the files that the words ask for end it with this outcome
pub record EndsOf (words : List (List ℕ)) (files : Option Files) (outcome : OpenOutcome) : Type 0 where
  pub width : ℕ
  pub height : ℕ
  pub names : List Named
  pub asked : Ask words width height (sources.Files names)
  pub ends : EndsIn files names outcome

-- the words ask for pages of this size and for files that are read as these buffers
pub record IsOpenedAs (words : List (List ℕ)) (files : Option Files) (all : Opened) : Type 0 where
  pub names : List Named
  pub asked : Ask words all.width all.height (sources.Files names)
  pub read : AreRead files names all.buffers

-- the buffer has the name `gen` and the tree that the generated text spells
abbrev pub IsGenerated : ℕ → ℕ → Buffer → Type 0
IsGenerated number count buffer = (buffer.name ≡ codes "gen") × SpellsTm (document_text number count) buffer.tree

-- the words ask for pages of this size and for a generated document, which is this one buffer
pub record IsGeneratedAs (words : List (List ℕ)) (all : Opened) : Type 0 where
  pub number : ℕ
  pub count : ℕ
  pub asked : Ask words all.width all.height (sources.Generated number count)
  pub buffer : Buffer
  pub alone : all.buffers ≡ buffer ∷ []
  pub made : IsGenerated number count buffer

-- The outcome of the words and the files: the first file that isn't read decides. Memory may run out at any time, also
-- while the words are read.
abbrev pub ComesTo : List (List ℕ) → Option Files → OpenOutcome → Type 0
ComesTo words files faulty_words = AreFaulty words
ComesTo words files no_memory = Unit {0}
ComesTo words files (opened all) = IsOpenedAs words files all
ComesTo words files (generated all) = IsGeneratedAs words all
ComesTo words files ended = EndsOf words files ended

-- neither a fault of the store nor out of memory
abbrev pub IsDecided : OpenOutcome → Type 0
IsDecided (store_fault word) = ⊥
IsDecided no_memory = ⊥
IsDecided _ = Unit {0}

-- an outcome that blames the store comes only where its count rose
abbrev pub IsCaused : (before after : StoreSeen) → OpenOutcome → Type 0
IsCaused before after (missing word) = Rose before.misses after.misses
IsCaused before after (too_long word) = Rose before.longs after.longs
IsCaused before after (store_fault word) = Rose before.faults after.faults
IsCaused before after _ = Unit {0}

-- the files are known, and the words ask for some that are read
pub record CanBeOpened (words : List (List ℕ)) (files : Option Files) : Type 0 where
  pub told : Files
  pub known : files ≡ Some told
  pub all : Opened
  pub opens : IsOpenedAs words files all
