-- A session can begin with what was opened.
use Rattle.std.proofs.Common.{ℕ, ◌<◌, ◌≤◌, List, [], ◌∷◌, length, codes, Option, Some, None, sym, subst, arith}
use Rattle.tx_tree.specs.Limits.{IsWellFormed}
use Rattle.tx_tree.specs.WideTree.{WideTree}
use Rattle.tx_scm.proofs.Spelled.{well_formed}
use Rattle.tx_tm_form.proofs.Formed.{spelled_tree}
use Rattle.tx_doc.specs.Forms.{form_of}
use Rattle.tx_doc.specs.declared.buffer.Buffer.{Buffer}
use Rattle.tx_doc.specs.declared.forms.Form.{Form}
use Rattle.tx_doc.specs.declared.forms.Form.TheVariants.{Tm, Scheme}
use Rattle.tx_doc.proofs.WithoutCalls.{modern_formed}
use Rattle.tx_generated.specs.Document.{document_text}
use Rattle.tx_outside.specs.Files.{Files}
use Rattle.tx_outside.specs.Outside.{StoreSeen}
use Rattle.clap.specs.Words.{first_of, matches_of}
use Rattle.tx_words.specs.declared.asked.Source.{Source}
use Rattle.tx_words.specs.declared.asked.Source.TheVariants as sources
use Rattle.tx_words.specs.Words.{Ask, IsSize, IsSource, Named, styles_in, tmx}
use Rattle.tx_open.specs.Forms.{SpellsIn}
use Rattle.tx_open.specs.Outcomes.{AreRead, IsOpenedAs, IsGeneratedAs}
use Rattle.tx_open.specs.declared.opening.Opened.{Opened}
use Rattle.tx_session.specs.Runs.{start_with}
use Rattle.tx_run_existence.proofs.Replies.{IsRunning}
use Rattle.tx_run_existence.proofs.States.{AreWell, opening_sound}

-- pages have a size with a view, and buffers are some and well formed
pub record IsReady (all : Opened) : Type 0 where
  pub wide : 20 ≤ all.width
  pub high : 0 < all.height
  pub well : AreWell all.buffers
  pub some : 0 < length all.buffers

pub ready_runs : (all : Opened) (store : StoreSeen) (steps : ℕ) → IsReady all → IsRunning (start_with all store steps)
ready_runs all store steps h =
    record { wide = h.wide; high = h.high; sound = opening_sound all.buffers h.well h.some }

-- ---- sizes

least_size : (usual least most : ℕ) (value : Option (List ℕ)) (n : ℕ) → least ≤ usual
    → IsSize usual least most value n → least ≤ n
least_size usual least most None n le h = omega (arith, le, h)
least_size usual least most (Some digits) n le h = h.1

wide_asked : (words : List (List ℕ)) (w h : ℕ) (s : Source) → Ask words w h s → 20 ≤ w
wide_asked words w h s a =
    least_size 80 20 500 (first_of (codes "width") (matches_of tmx words)) w (omega arith) a.found.wide

high_asked : (words : List (List ℕ)) (w h : ℕ) (s : Source) → Ask words w h s → 0 < h
high_asked words w h s a =
    let high = least_size 24 5 500 (first_of (codes "height") (matches_of tmx words)) h (omega arith) a.found.high in
    omega (arith, high)

-- ---- files

spelled_well : (form : Form) (bytes : List ℕ) (t : WideTree) → SpellsIn form bytes t → IsWellFormed t
spelled_well Scheme bytes t h = well_formed bytes t h
spelled_well Tm bytes t h = spelled_tree bytes t h

read_well : (files : Option Files) (names : List Named) (bs : List Buffer) → AreRead files names bs → AreWell bs
read_well files [] [] h = tt
read_well files [] (b ∷ bs) h = absurd h
read_well files (file ∷ names) [] h = absurd h
read_well files (file ∷ names) (b ∷ bs) h =
    let one = h.0 in
    let read = one.read in (
      subst IsWellFormed (sym one.made)
          (modern_formed one.spelled (spelled_well (form_of file.word) read.bytes one.spelled read.spelled)),
      read_well files names bs h.1,
    )

some_read : (files : Option Files) (names : List Named) (bs : List Buffer) → AreRead files names bs
    → 0 < length names → 0 < length bs
some_read files [] bs h lt = absurd (omega arith)
some_read files (file ∷ names) [] h lt = absurd h
some_read files (file ∷ names) (b ∷ bs) h lt = omega arith

some_names : (first : Option (List ℕ)) (styles : List (List ℕ)) (names : List Named)
    → IsSource first styles (sources.Files names) → 0 < length names
some_names None styles names h = absurd h
some_names (Some word) styles names h = subst (λ (ns : List Named). 0 < length ns) (sym h.1) (omega arith)

pub opened_ready : (words : List (List ℕ)) (files : Option Files) (all : Opened) → IsOpenedAs words files all
    → IsReady all
opened_ready words files all h =
    let rows = matches_of tmx words in
    let asked = h.asked in
    record {
      wide = wide_asked words all.width all.height (sources.Files h.names) asked;
      high = high_asked words all.width all.height (sources.Files h.names) asked;
      well = read_well files h.names all.buffers h.read;
      some = some_read files h.names all.buffers h.read
          (some_names (first_of (codes "FILE") rows) (styles_in rows) h.names asked.found.each);
    }

pub generated_ready : (words : List (List ℕ)) (all : Opened) → IsGeneratedAs words all → IsReady all
generated_ready words all h =
    let source : Source = sources.Generated h.number h.count in
    let well : IsWellFormed h.buffer.tree =
    spelled_tree (document_text h.number h.count) h.buffer.tree h.made.1 in
    record {
      wide = wide_asked words all.width all.height source h.asked;
      high = high_asked words all.width all.height source h.asked;
      well = subst AreWell (sym h.alone) (well, tt);
      some = subst (λ (bs : List Buffer). 0 < length bs) (sym h.alone) (omega arith);
    }
