-- Files that are read one after the other.
use Rattle.std.proofs.Common.{◌≡◌, ◌≢◌, ℕ, ◌+◌, ◌<◌, List, [], ◌∷◌, ◌++◌, length, map, take, drop, get_or, Option}
use Rattle.std.proofs.Common.{refl, sym, subst, ap, ◌∙◌, arith}
use Rattle.std.proofs.lemmas.List.{take_more, drop_more, map-append, take-append-drop}
use Rattle.std.proofs.lemmas.List.Sums.{sum_by_push}
use Rattle.std.specs.List.{AllByRecursion}
use Rattle.tx_outside.specs.Files.{Files}
use Rattle.tx_tree.specs.WideTree.{nodes_of}
use Rattle.tx_doc.specs.declared.buffer.Buffer.{Buffer}
use Rattle.tx_doc.specs.Buffers.{NamesDiffer}
use Rattle.tx_words.specs.declared.asked.FileWord.{FileWord}
use Rattle.tx_words.specs.Seen.{named_of}
use Rattle.tx_words.specs.Words.{Named, AreNamedApart}
use Rattle.tx_open.specs.Outcomes.{AreRead, EndsAt, EndsIn, IsReadAs, OpenOutcome, nodes_in_buffers}

-- one file more
one_more : (files : Option Files) (names : List Named) (buffers : List Buffer) (file : Named) (buffer : Buffer)
    → AreRead files names buffers → IsReadAs files file buffer
    → AreRead files (names ++ file ∷ []) (buffers ++ buffer ∷ [])
one_more files [] [] file buffer h k = (k, tt)
one_more files [] (b ∷ bs) file buffer h k = absurd h
one_more files (f ∷ fs) [] file buffer h k = absurd h
one_more files (f ∷ fs) (b ∷ bs) file buffer h k = (h.0, one_more files fs bs file buffer h.1 k)

module _ (files now : Option Files) (kept : now ≡ files) (all : List FileWord) (i : ℕ) (d : FileWord)
    (lt : i < length all) (buffers : List Buffer) (read : AreRead files (map named_of (take i all)) buffers) where
  pub read_more : (buffer : Buffer) (later : List Buffer) → later ≡ buffers ++ buffer ∷ []
      → IsReadAs now (named_of (get_or all i d)) buffer → AreRead files (map named_of (take (i + 1) all)) later
  read_more buffer later pushed k =
      let names : map named_of (take i all) ++ named_of (get_or all i d) ∷ [] ≡ map named_of (take (i + 1) all) =
      sym (ap (map named_of) (take_more all i d lt) ∙ map-append named_of (take i all) (get_or all i d ∷ [])) in
      let own = subst (λ (fs : Option Files). IsReadAs fs (named_of (get_or all i d)) buffer) kept k in
      rw pushed (subst (λ (ns : List Named). AreRead files ns (buffers ++ buffer ∷ [])) names
      (one_more files (map named_of (take i all)) buffers (named_of (get_or all i d)) buffer read own))

  -- opening ends at the file of this number
  pub ends_there : (outcome : OpenOutcome) → EndsAt now (get_or all i d).word.now outcome
      → EndsIn files (map named_of all) outcome
  ends_there outcome ends =
      record {
        before = map named_of (take i all);
        buffers = buffers;
        file = named_of (get_or all i d);
        behind = map named_of (drop (i + 1) all);
        parts = ap (map named_of) (sym (take-append-drop i all)
            ∙ ap (λ (r : List FileWord). take i all ++ r) (drop_more all i d lt))
            ∙ map-append named_of (take i all) (get_or all i d ∷ drop (i + 1) all);
        read = read;
        ends = subst (λ (fs : Option Files). EndsAt fs (get_or all i d).word.now outcome) kept ends;
      }

-- one buffer more
pub nodes_more : (buffers : List Buffer) (buffer : Buffer) (later : List Buffer) → later ≡ buffers ++ buffer ∷ []
    → nodes_in_buffers later ≡ nodes_in_buffers buffers + nodes_of buffer.tree
nodes_more buffers buffer later pushed = rw pushed (sum_by_push (λ b. nodes_of b.tree) buffers buffer)

-- as many buffers as files
pub as_many : (files : Option Files) (names : List Named) (buffers : List Buffer) → AreRead files names buffers
    → length names ≡ length buffers
as_many files [] [] h = refl
as_many files [] (b ∷ bs) h = absurd h
as_many files (f ∷ fs) [] h = absurd h
as_many files (f ∷ fs) (b ∷ bs) h = let rest : length fs ≡ length bs = as_many files fs bs h.1 in omega arith

-- the buffers have the names of the files
own_name : (files : Option Files) (name : List ℕ) (names : List Named) (buffers : List Buffer)
    → AreRead files names buffers → AllByRecursion (λ other. other.name ≢ name) names
    → AllByRecursion (λ other. other.name ≢ name) buffers
own_name files name [] [] h a = tt
own_name files name [] (b ∷ bs) h a = absurd h
own_name files name (f ∷ fs) [] h a = absurd h
own_name files name (f ∷ fs) (b ∷ bs) h a =
    let own = h.0 in
    ((λ e. a.0 (sym own.named ∙ e)), own_name files name fs bs h.1 a.1)

pub names_differ : (files : Option Files) (names : List Named) (buffers : List Buffer) → AreRead files names buffers
    → AreNamedApart names → NamesDiffer buffers
names_differ files [] [] h a = tt
names_differ files [] (b ∷ bs) h a = absurd h
names_differ files (f ∷ fs) [] h a = absurd h
names_differ files (f ∷ fs) (b ∷ bs) h a =
    let own = h.0 in (
      subst (λ (name : List ℕ). AllByRecursion (λ (other : Buffer). other.name ≢ name) bs) (sym own.named)
          (own_name files f.name fs bs h.1 a.0),
      names_differ files fs bs h.1 a.1,
    )
