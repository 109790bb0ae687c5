-- Words and files have an outcome.
use Rattle.std.proofs.Common.{◌≡◌, ◌⊎◌, ◌<◌, ℕ, List, [], ◌∷◌, length, inl, inr, codes, Option, Some, None, refl, sym}
use Rattle.std.proofs.Common.{ap, subst}
use Rattle.std.specs.Prelude.{IsSomeAnd}
use Rattle.std.proofs.lemmas.Bool.{cases_lt}
use Rattle.tx_outside.specs.Files.{Files, file_of}
use Rattle.tx_outside.specs.declared.file_store.TheConstants.{MOST_FILE}
use Rattle.tx_tree.specs.Limits.{IsWithinLimits}
use Rattle.tx_tree.specs.WideTree.{WideTree}
use Rattle.tx_tree.specs.declared.faults.ReadFault.{ReadFault}
use Rattle.tx_scm.proofs.SomeFault.{read_or_fault}
use Rattle.tx_tm_form.proofs.OneFault.{tree_or_fault}
use Rattle.tx_tm_form.specs.Forms.{Spells as SpellsTm}
use Rattle.tx_doc.specs.Forms.{form_of}
use Rattle.tx_doc.specs.Modern.{modern}
use Rattle.tx_doc.specs.declared.buffer.Buffer.{Buffer}
use Rattle.tx_doc.specs.declared.forms.Form.{Form}
use Rattle.tx_doc.specs.declared.forms.Form.TheVariants.{Tm, Scheme}
use Rattle.tx_generated.specs.Document.{document_text}
use Rattle.tx_generated.specs.Tree.{document}
use Rattle.tx_words.specs.declared.asked.Source.{Source}
use Rattle.tx_words.specs.declared.asked.Source.TheVariants as sources
use Rattle.tx_words.specs.Words.{Ask, Named}
use Rattle.tx_open.specs.Forms.{SpellsIn, IsFaultIn}
use Rattle.tx_open.specs.Outcomes.{OpenOutcome, faulty_words, missing, too_long, no_tree, store_fault, no_memory}
use Rattle.tx_open.specs.Outcomes.{opened, generated, EndsAt, IsReadAs, AreRead, EndsIn, EndsOf, ComesTo, IsDecided}
use Rattle.tx_run_existence.proofs.Asked.{asked}

-- bytes spell a tree, or have a fault
spelled : (form : Form) (bytes : List ℕ)
    → ((t : WideTree) × SpellsIn form bytes t × IsWithinLimits t) ⊎ ((f : ReadFault) × IsFaultIn form bytes f)
spelled Scheme bytes = read_or_fault bytes
spelled Tm bytes = tree_or_fault bytes

-- an outcome that opening ends with at a file
record IsEnding (told : Files) (word : List ℕ) (o : OpenOutcome) : Type 0 where
  ends : EndsAt (Some told) word o
  decided : IsDecided o

read_or_ended : (told : Files) (file : Named) (r : Option (List ℕ)) → file_of told file.word ≡ r
    → ((b : Buffer) × IsReadAs (Some told) file b) ⊎ ((o : OpenOutcome) × IsEnding told file.word o)
read_or_ended told file None e = inr (missing file.word, record { ends = (refl, e); decided = tt })
read_or_ended told file (Some bytes) e = elim (cases_lt MOST_FILE (length bytes)) [
  | inl long ↦ inr (
    too_long file.word,
    record {
      ends = (refl, subst (λ o. IsSomeAnd o (λ bs. MOST_FILE < length bs)) (sym e) long);
      decided = tt;
    },
  )
  | inr fits ↦ elim (spelled (form_of file.word) bytes) [
    | inl read ↦ inl (
      record { name = file.name; tree = modern read.0 },
      record {
        named = refl;
        spelled = read.0;
        read = record { bytes = bytes; held = (e, fits); spelled = read.1; within = read.2 };
        made = refl;
      },
    )
    | inr fault ↦ inr (
      no_tree file.word fault.0,
      record {
        ends = (refl, record { bytes = bytes; held = (e, fits); misspelled = fault.1 });
        decided = tt;
      },
    )
  ]
]

-- an outcome with which opening files ends
record IsFailure (told : Files) (names : List Named) (o : OpenOutcome) : Type 0 where
  ends : EndsIn (Some told) names o
  decided : IsDecided o

all_read_or_ended : (told : Files) (names : List Named)
    → ((bs : List Buffer) × AreRead (Some told) names bs) ⊎ ((o : OpenOutcome) × IsFailure told names o)
all_read_or_ended told [] = inl ([], tt)
all_read_or_ended told (file ∷ names) = elim (read_or_ended told file (file_of told file.word) refl) [
  | inr e ↦ inr (
    e.0,
    record {
      ends = record {
        before = [];
        buffers = [];
        file = file;
        behind = names;
        parts = refl;
        read = tt;
        ends = e.1.ends;
      };
      decided = e.1.decided;
    },
  )
  | inl b ↦ elim (all_read_or_ended told names) [
    | inl bs ↦ inl (b.0 ∷ bs.0, (b.1, bs.1))
    | inr e ↦
        let rest = e.1.ends in
        inr (
          e.0,
          record {
            ends = record {
              before = file ∷ rest.before;
              buffers = b.0 ∷ rest.buffers;
              file = rest.file;
              behind = rest.behind;
              parts = ap (λ ns. file ∷ ns) rest.parts;
              read = (b.1, rest.read);
              ends = rest.ends;
            };
            decided = e.1.decided;
          },
        )
  ]
]

ended : (words : List (List ℕ)) (told : Files) (o : OpenOutcome) (word : List ℕ) → EndsAt (Some told) word o
    → EndsOf words (Some told) o → ComesTo words (Some told) o
ended words told faulty_words word at h = absurd at
ended words told (missing w) word at h = h
ended words told (too_long w) word at h = h
ended words told (no_tree w fault) word at h = h
ended words told (store_fault w) word at h = h
ended words told no_memory word at h = tt
ended words told (opened all) word at h = absurd at
ended words told (generated all) word at h = absurd at

-- the text of each generated document spells its tree
abbrev pub SpellDocuments : Type 0
SpellDocuments = (number count : ℕ) → SpellsTm (document_text number count) (document number count)

abbrev HasOutcome : List (List ℕ) → Files → Type 0
HasOutcome words told = (o : OpenOutcome) × ComesTo words (Some told) o × IsDecided o

by_source : SpellDocuments → (words : List (List ℕ)) (told : Files) (w h : ℕ) (s : Source) → Ask words w h s
    → HasOutcome words told
by_source law words told w h (sources.Files names) ask = elim (all_read_or_ended told names) [
  | inl bs ↦ (
    opened (record { width = w; height = h; buffers = bs.0 }),
    record {
      names = names;
      asked = ask;
      read = bs.1;
    },
    tt,
  )
  | inr e ↦
      let is = e.1.ends in (
        e.0,
        ended words told e.0 is.file.word is.ends (record {
          width = w;
          height = h;
          names = names;
          asked = ask;
          ends = is;
        }),
        e.1.decided,
      )
]
by_source law words told w h (sources.Generated number count) ask =
    let b : Buffer = record { name = codes "gen"; tree = document number count } in (
      generated (record { width = w; height = h; buffers = b ∷ [] }),
      record {
        number = number;
        count = count;
        asked = ask;
        buffer = b;
        alone = refl;
        made = (refl, law number count);
      },
      tt,
    )

pub some_outcome : SpellDocuments → (words : List (List ℕ)) (told : Files) → HasOutcome words told
some_outcome law words told = elim (asked words) [
  | inr faulty ↦ (faulty_words, faulty, tt)
  | inl a ↦ by_source law words told a.0 a.1 a.2 a.3
]
