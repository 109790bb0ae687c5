-- Words ask for one thing at most.
use Rattle.std.proofs.Common.{◌≡◌, ◌∙◌, ℕ, List, codes, Option, Some, None, sym, ap, ap₂}
use Rattle.clap.specs.Words.{first_of, matches_of}
use Rattle.tx_words.specs.declared.asked.Source.{Source}
use Rattle.tx_words.specs.declared.asked.Source.TheVariants.{Files, Generated}
use Rattle.tx_words.specs.Words.{Ask, IsSize, IsSource, styles_in, tmx}
use Rattle.tx_words.proofs.Cutting.{generates_once, no_generator, number_once}

-- the document and its styles ask for one thing
one_source : (first : Option (List ℕ)) (styles : List (List ℕ)) (source other : Source) → IsSource first styles source
    → IsSource first styles other → source ≡ other
one_source None styles source other a b = absurd a
one_source (Some word) styles (Files files) (Files others) a b = ap Files (a.1 ∙ sym b.1)
one_source (Some word) styles (Files files) (Generated number count) a b =
    absurd (no_generator word number count a.0 b.0)
one_source (Some word) styles (Generated number count) (Files files) a b =
    absurd (no_generator word number count b.0 a.0)
one_source (Some word) styles (Generated number count) (Generated n c) a b =
    let same = generates_once word number count n c a.0 b.0 in ap₂ Generated same.0 same.1

one_size : (usual least most : ℕ) (value : Option (List ℕ)) (n m : ℕ) → IsSize usual least most value n
    → IsSize usual least most value m → n ≡ m
one_size usual least most None n m a b = a ∙ sym b
one_size usual least most (Some digits) n m a b = number_once least most digits n m a b

pub asked_once : (words : List (List ℕ)) (w h v g : ℕ) (source other : Source) → Ask words w h source
    → Ask words v g other → (w ≡ v) × (h ≡ g) × (source ≡ other)
asked_once words w h v g source other a b =
    let rows = matches_of tmx words in
    let one = a.found in
    let two = b.found in (
      one_size 80 20 500 (first_of (codes "width") rows) w v one.wide two.wide,
      one_size 24 5 500 (first_of (codes "height") rows) h g one.high two.high,
      one_source (first_of (codes "FILE") rows) (styles_in rows) source other one.each two.each,
    )
