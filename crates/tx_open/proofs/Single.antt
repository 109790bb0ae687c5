-- Words and files have one outcome.
use Rattle.std.proofs.Common.{◌≡◌, ℕ, List, [], ◌∷◌, ◌++◌, Some, refl, sym, subst, ap, ap₂, ◌∙◌}
use Rattle.tx_tm_form.specs.Forms.{Spells as SpellsTm}
use Rattle.tx_tm_form.proofs.Words.{one_tree as tm_tree_once}
use Rattle.tx_generated.specs.Document.{document_text}
use Rattle.tx_outside.specs.Files.{Files}
use Rattle.tx_doc.specs.declared.buffer.Buffer.{Buffer}
use Rattle.tx_doc.specs.Modern.{modern}
use Rattle.tx_words.specs.declared.asked.Source.{Source}
use Rattle.tx_words.specs.declared.asked.Source.TheVariants.{Files as AllFiles, Generated as FromNumber}
use Rattle.tx_words.specs.Words.{Ask, AreFaulty, Named}
use Rattle.tx_open.specs.declared.opening.Opened.{Opened}
use Rattle.tx_open.specs.Outcomes.{AreRead, ComesTo, EndsIn, EndsOf, IsDecided, IsGenerated, IsGeneratedAs, IsOpenedAs}
use Rattle.tx_open.specs.Outcomes.{IsReadAs, OpenOutcome, faulty_words, missing, too_long, no_tree, store_fault}
use Rattle.tx_open.specs.Outcomes.{no_memory, opened, generated}
use Rattle.tx_open.proofs.Files.{Cause, cause_of, cause_once, read_on, tree_once}

module _ (told : Files) where
  -- a file has one buffer, and some files have one list of buffers
  buffer_once : (file : Named) (b c : Buffer) → IsReadAs (Some told) file b → IsReadAs (Some told) file c → b ≡ c
  buffer_once file b c h k =
      let name : b.name ≡ c.name = h.named ∙ sym k.named in
      let spelled = tree_once told file.word h.spelled k.spelled h.read k.read in
      let tree : b.tree ≡ c.tree = h.made ∙ ap modern spelled ∙ sym k.made in
      λ i. record { name = name i; tree = tree i }

  read_once : (names : List Named) (bs cs : List Buffer) → AreRead (Some told) names bs → AreRead (Some told) names cs
      → bs ≡ cs
  read_once [] [] [] h k = refl
  read_once [] (b ∷ bs) cs h k = absurd h
  read_once [] [] (c ∷ cs) h k = absurd k
  read_once (f ∷ fs) [] cs h k = absurd h
  read_once (f ∷ fs) (b ∷ bs) [] h k = absurd k
  read_once (f ∷ fs) (b ∷ bs) (c ∷ cs) h k =
      ap₂ (λ (x : Buffer) (xs : List Buffer). x ∷ xs) (buffer_once f b c h.0 k.0) (read_once fs bs cs h.1 k.1)

  -- files that are read have no place at which it ends
  read_all : (before behind : List Named) (file : Named) (bs : List Buffer) (o : OpenOutcome)
      → AreRead (Some told) (before ++ file ∷ behind) bs → Cause told file.word o → ⊥
  read_all [] behind file [] o h c = h
  read_all [] behind file (b ∷ bs) o h c = let own = h.0 in read_on told file.word o own.spelled c own.read
  read_all (f ∷ before) behind file [] o h c = h
  read_all (f ∷ before) behind file (b ∷ bs) o h c = read_all before behind file bs o h.1 c

  -- it ends at the file that is read: it doesn't
  other_file : (f g : Named) (b : Buffer) (o : OpenOutcome) → f ≡ g → Cause told f.word o → IsReadAs (Some told) g b → ⊥
  other_file f g b o e c h = read_on told g.word o h.spelled (subst (λ (x : Named). Cause told x.word o) e c) h.read

  -- there is one place at most
  one_place : (before later behind beyond : List Named) (f g : Named) (bs cs : List Buffer) (o p : OpenOutcome)
      → before ++ f ∷ behind ≡ later ++ g ∷ beyond → AreRead (Some told) before bs → AreRead (Some told) later cs
      → Cause told f.word o → Cause told g.word p → o ≡ p
  one_place [] [] behind beyond f g bs cs o p e h k c d =
      let same : f ≡ g = cc in
      cause_once told g.word o p (subst (λ (x : Named). Cause told x.word o) same c) d
  one_place [] (y ∷ later) behind beyond f g bs [] o p e h k c d = absurd k
  one_place [] (y ∷ later) behind beyond f g bs (b ∷ cs) o p e h k c d =
      let same : f ≡ y = cc in absurd (other_file f y b o same c k.0)
  one_place (x ∷ before) [] behind beyond f g [] cs o p e h k c d = absurd h
  one_place (x ∷ before) [] behind beyond f g (b ∷ bs) cs o p e h k c d =
      let same : g ≡ x = cc in absurd (other_file g x b p same d h.0)
  one_place (x ∷ before) (y ∷ later) behind beyond f g [] cs o p e h k c d = absurd h
  one_place (x ∷ before) (y ∷ later) behind beyond f g (b ∷ bs) [] o p e h k c d = absurd k
  one_place (x ∷ before) (y ∷ later) behind beyond f g (b ∷ bs) (a ∷ cs) o p e h k c d =
      let rest : before ++ f ∷ behind ≡ later ++ g ∷ beyond = cc in
      one_place before later behind beyond f g bs cs o p rest h.1 k.1 c d

  ends_once : (names others : List Named) (o p : OpenOutcome) → names ≡ others → EndsIn (Some told) names o
      → EndsIn (Some told) others p → IsDecided o → IsDecided p → o ≡ p
  ends_once names others o p e h k d q =
      one_place h.before k.before h.behind k.behind h.file k.file h.buffers k.buffers o p
      (sym h.parts ∙ e ∙ k.parts) h.read k.read (cause_of told h.file.word o h.ends d)
      (cause_of told k.file.word p k.ends q)

  pub ends_or_opens : (names others : List Named) (o : OpenOutcome) (bs : List Buffer) → names ≡ others
      → EndsIn (Some told) names o → IsDecided o → AreRead (Some told) others bs → ⊥
  ends_or_opens names others o bs e h d read =
      read_all h.before h.behind h.file bs o
      (subst (λ (ns : List Named). AreRead (Some told) ns bs) (sym e ∙ h.parts) read)
      (cause_of told h.file.word o h.ends d)

-- words ask for one thing at most
abbrev pub AskOnce : List (List ℕ) → Type 0
AskOnce words =
    (width height w h : ℕ) (source other : Source) → Ask words width height source → Ask words w h other
    → (width ≡ w) × (height ≡ h) × (source ≡ other)

pub same_files : (names others : List Named) → AllFiles names ≡ AllFiles others → names ≡ others
same_files names others e = cc

pub not_files : (names : List Named) (number count : ℕ) → AllFiles names ≡ FromNumber number count → ⊥
not_files names number count e = cc

same_numbers : (n c m d : ℕ) → FromNumber n c ≡ FromNumber m d → (n ≡ m) × (c ≡ d)
same_numbers n c m d e = (cc, cc)

-- a generated document is one buffer
same_buffer : (n c m d : ℕ) (a b : Buffer) → n ≡ m → c ≡ d → IsGenerated n c a → IsGenerated m d b → a ≡ b
same_buffer n c m d a b e f h k =
    let name : a.name ≡ b.name = h.0 ∙ sym k.0 in
    let text : document_text n c ≡ document_text m d = ap₂ document_text e f in
    let tree = tm_tree_once (document_text m d) a.tree b.tree (subst (λ bytes. SpellsTm bytes a.tree) text h.1) k.1 in
    λ i. record { name = name i; tree = tree i }

module _ (told : Files) (words : List (List ℕ)) (asked_once : AskOnce words) where
  -- what a decided outcome comes from
  data Came (o : OpenOutcome) : Type 0 where
    by_words : o ≡ faulty_words → AreFaulty words → Came o
    at_end : (all : Opened) → o ≡ opened all → IsOpenedAs words (Some told) all → Came o
    at_once : (all : Opened) → o ≡ generated all → IsGeneratedAs words all → Came o
    at_file : IsDecided o → EndsOf words (Some told) o → Came o

  came_of : (o : OpenOutcome) → ComesTo words (Some told) o → IsDecided o → Came o
  came_of faulty_words h d = by_words refl h
  came_of (missing word) h d = at_file d h
  came_of (too_long word) h d = at_file d h
  came_of (no_tree word fault) h d = at_file d h
  came_of (store_fault word) h d = absurd d
  came_of no_memory h d = absurd d
  came_of (opened all) h d = at_end all refl h
  came_of (generated all) h d = at_once all refl h

  -- two lists of files that the words ask for are one, and beside files they ask for no document
  one_list : (width height w h : ℕ) (names others : List Named) → Ask words width height (AllFiles names)
      → Ask words w h (AllFiles others) → names ≡ others
  one_list width height w h names others a b =
      let asked = asked_once width height w h (AllFiles names) (AllFiles others) a b in
      same_files names others asked.2

  no_document : (width height w h : ℕ) (names : List Named) (number count : ℕ)
      → Ask words width height (AllFiles names) → Ask words w h (FromNumber number count) → ⊥
  no_document width height w h names number count a b =
      let asked = asked_once width height w h (AllFiles names) (FromNumber number count) a b in
      not_files names number count asked.2

  opened_once : (all other : Opened) → IsOpenedAs words (Some told) all → IsOpenedAs words (Some told) other
      → all ≡ other
  opened_once all other h k =
      let asked = asked_once all.width all.height other.width other.height (AllFiles h.names) (AllFiles k.names) h.asked
      k.asked in
      let names = same_files h.names k.names asked.2 in
      let buffers = read_once told k.names all.buffers other.buffers
      (subst (λ (ns : List Named). AreRead (Some told) ns all.buffers) names h.read) k.read in
      λ i. record { width = asked.0 i; height = asked.1 i; buffers = buffers i }

  generated_once : (all other : Opened) → IsGeneratedAs words all → IsGeneratedAs words other → all ≡ other
  generated_once all other h k =
      let asked = asked_once all.width all.height other.width other.height (FromNumber h.number h.count)
      (FromNumber k.number k.count) h.asked k.asked in
      let numbers = same_numbers h.number h.count k.number k.count asked.2 in
      let one = same_buffer h.number h.count k.number k.count h.buffer k.buffer numbers.0 numbers.1 h.made k.made in
      let buffers : all.buffers ≡ other.buffers = h.alone ∙ ap (λ (b : Buffer). b ∷ []) one ∙ sym k.alone in
      λ i. record { width = asked.0 i; height = asked.1 i; buffers = buffers i }

  came_once : (o p : OpenOutcome) → Came o → Came p → o ≡ p
  came_once o p (by_words e h) (by_words i k) = e ∙ sym i
  came_once o p (by_words e h) (at_end all i k) = absurd (h all.width all.height (AllFiles k.names) k.asked)
  came_once o p (by_words e h) (at_once all i k) =
      absurd (h all.width all.height (FromNumber k.number k.count) k.asked)
  came_once o p (by_words e h) (at_file d k) = absurd (h k.width k.height (AllFiles k.names) k.asked)
  came_once o p (at_end all e h) (by_words i k) = absurd (k all.width all.height (AllFiles h.names) h.asked)
  came_once o p (at_end all e h) (at_end other i k) = e ∙ ap opened (opened_once all other h k) ∙ sym i
  came_once o p (at_end all e h) (at_once other i k) =
      absurd (no_document all.width all.height other.width other.height h.names k.number k.count h.asked k.asked)
  came_once o p (at_end all e h) (at_file d k) =
      let names = one_list k.width k.height all.width all.height k.names h.names k.asked h.asked in
      absurd (ends_or_opens told k.names h.names p all.buffers names k.ends d h.read)
  came_once o p (at_once all e h) (by_words i k) =
      absurd (k all.width all.height (FromNumber h.number h.count) h.asked)
  came_once o p (at_once all e h) (at_end other i k) =
      absurd (no_document other.width other.height all.width all.height k.names h.number h.count k.asked h.asked)
  came_once o p (at_once all e h) (at_once other i k) = e ∙ ap generated (generated_once all other h k) ∙ sym i
  came_once o p (at_once all e h) (at_file d k) =
      absurd (no_document k.width k.height all.width all.height k.names h.number h.count k.asked h.asked)
  came_once o p (at_file d h) (by_words i k) = absurd (k h.width h.height (AllFiles h.names) h.asked)
  came_once o p (at_file d h) (at_end all i k) =
      let names = one_list h.width h.height all.width all.height h.names k.names h.asked k.asked in
      absurd (ends_or_opens told h.names k.names o all.buffers names h.ends d k.read)
  came_once o p (at_file d h) (at_once all i k) =
      absurd (no_document h.width h.height all.width all.height h.names k.number k.count h.asked k.asked)
  came_once o p (at_file d h) (at_file q k) =
      let names = one_list h.width h.height k.width k.height h.names k.names h.asked k.asked in
      ends_once told h.names k.names o p names h.ends k.ends d q

  pub one_outcome : (o p : OpenOutcome) → ComesTo words (Some told) o → ComesTo words (Some told) p → IsDecided o
      → IsDecided p → o ≡ p
  one_outcome o p h k d e = came_once o p (came_of o h d) (came_of p k e)
