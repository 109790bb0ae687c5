-- What the words of the command line ask for.
use Rattle.std.specs.Prelude.{◌≡◌, ◌≢◌, ◌≤◌, ℕ, Bool, true, false, List, [], ◌∷◌, ◌++◌, map, length, codes, nat_eq}
use Rattle.std.specs.Prelude.{Option, Some, None, unwrap_or}
use Rattle.std.specs.List.{AllByRecursion, starts_with}
use Rattle.clap.specs.Words.{App, Row, Rule, all_of, first_of, matches_of, new_app, new_rule, takes, with_rule}
use Rattle.clap.specs.declared.builder.ArgAction.TheVariants.{Set, Append}
use Rattle.tx_tree.specs.PathSpelling.{IsNumber}
use Rattle.tx_words.specs.declared.TheConstants.{MOST_FILES}
use Rattle.tx_words.specs.declared.asked.Source.{Source}
use Rattle.tx_words.specs.declared.asked.Source.TheVariants.{Files, Generated}
pub use Rattle.tx_words.specs.Names.{Named, named_file}

-- ---- the command, in the words of `clap`

-- an option `--name` with one value
abbrev pub option : List ℕ → Rule
option name = record (new_rule name) { long = Some name; action = Some Set }

-- the document's file, which has to be there
abbrev pub document_rule : Rule
document_rule = record (new_rule (codes "FILE")) { required = true; action = Some Set }

-- the files of styles, any number of them
abbrev pub styles : Rule
styles = record (new_rule (codes "STYLE")) { action = Some Append }

-- tmx [--width N] [--height N] FILE [STYLE]...
abbrev pub tmx : App
tmx =
    let sizes = with_rule (with_rule (new_app (codes "tmx")) (option (codes "width"))) (option (codes "height")) in
    with_rule (with_rule sizes document_rule) styles

-- ---- what is asked for

-- the digits write a number between these
abbrev pub IsNumberIn : (least most : ℕ) → List ℕ → ℕ → Type 0
IsNumberIn least most digits n = IsNumber digits n × (least ≤ n) × (n ≤ most)

-- the size that an option asks for, or the usual one where it isn't there
abbrev pub IsSize : (usual least most : ℕ) → Option (List ℕ) → ℕ → Type 0
IsSize usual least most None n = n ≡ usual
IsSize usual least most (Some digits) n = IsNumberIn least most digits n

-- ---- files

-- each has a name
abbrev pub HaveNames : List Named → Type 0
HaveNames = AllByRecursion (λ file. file.name ≢ [])

-- no two have one name
abbrev pub AreNamedApart : List Named → Type 0
AreNamedApart [] = Unit {0}
AreNamedApart (file ∷ others) = AllByRecursion (λ other. other.name ≢ file.name) others × AreNamedApart others

-- at most 64 files, each with a name of its own
pub record MayOpen (files : List Named) : Type 0 where
  pub few : length files ≤ MOST_FILES
  pub have_names : HaveNames files
  pub differ : AreNamedApart files

-- ---- generated documents

-- a word that begins so names no file
abbrev pub is_generator : List ℕ → Bool
is_generator word = starts_with nat_eq word (codes "gen:")

-- the word is gen:, a number below 2^31, a colon, and a count of paragraphs
pub record Generates (word : List ℕ) (number count : ℕ) : Type 0 where
  pub digits : List ℕ
  pub others : List ℕ
  pub parts : word ≡ codes "gen:" ++ (digits ++ 58 ∷ others)
  pub numbered : IsNumberIn 0 2147483647 digits number
  pub counted : IsNumberIn 1 60000 others count

-- ---- all words

-- The word of the document and those of the styles after it ask for this: files that may be opened, or a generated
-- document, which no style may follow.
abbrev pub IsSource : Option (List ℕ) → List (List ℕ) → Source → Type 0
IsSource None behind source = ⊥
IsSource (Some word) behind (Files files) =
    (is_generator word ≡ false) × (files ≡ map named_file (word ∷ behind)) × MayOpen files
IsSource (Some word) behind (Generated number count) = Generates word number count × (behind ≡ [])

-- the words of the styles that `clap` found
abbrev pub styles_in : List Row → List (List ℕ)
styles_in rows = unwrap_or (all_of (codes "STYLE") rows) []

-- What `clap` found asks for pages of this width and height over this: a width is 20 to 500, or 80 where none is given,
-- and a height is 5 to 500, or 24.
pub record RowsAsk (rows : List Row) (width height : ℕ) (source : Source) : Type 0 where
  pub wide : IsSize 80 20 500 (first_of (codes "width") rows) width
  pub high : IsSize 24 5 500 (first_of (codes "height") rows) height
  pub each : IsSource (first_of (codes "FILE") rows) (styles_in rows) source

-- the words ask for that: `clap` takes them, and what it finds in them does
pub record Ask (words : List (List ℕ)) (width height : ℕ) (source : Source) : Type 0 where
  pub taken : takes tmx words ≡ true
  pub found : RowsAsk (matches_of tmx words) width height source

-- they ask for nothing that there is
abbrev pub AreFaulty : List (List ℕ) → Type 0
AreFaulty words = (width height : ℕ) (source : Source) → Ask words width height source → ⊥

-- ---- what holds of what is asked for

-- this holds of the files, where files are asked for
abbrev pub IfFiles : Source → (List Named → Type 0) → Type 0
IfFiles (Files files) P = P files
IfFiles (Generated number count) P = Unit {0}

-- this holds of the number and the count, where a generated document is
abbrev pub IfGenerated : Source → (ℕ → ℕ → Type 0) → Type 0
IfGenerated (Files files) P = Unit {0}
IfGenerated (Generated number count) P = P number count
