-- A file has one tree or one fault.
use Rattle.std.proofs.Common.{◌≡◌, ◌<◌, ◌≤◌, ℕ, List, length, Option, Some, None, sym, ap, subst, ◌∙◌, arith}
use Rattle.std.specs.Prelude.{IsSomeAnd}
use Rattle.tx_outside.specs.Files.{Files, IsAbsent, IsTooLong, file_of}
use Rattle.tx_outside.specs.declared.file_store.TheConstants.{MOST_FILE}
use Rattle.tx_tree.specs.Limits.{IsWithinLimits}
use Rattle.tx_tree.specs.WideTree.{WideTree}
use Rattle.tx_tree.specs.declared.faults.ReadFault.{ReadFault}
use Rattle.tx_tree.proofs.OneFault.{no_fault as no_fault_of}
use Rattle.tx_scm.proofs.Complete.{spelled_once}
use Rattle.tx_scm.proofs.OneFault.{once as scheme_fault_once, none as scheme_no_fault}
use Rattle.tx_tm_form.specs.Forms.{Spells as SpellsTm}
use Rattle.tx_tm_form.specs.Faults.{IsKind as IsTmKind}
use Rattle.tx_tm_form.proofs.Words.{one_tree as tm_tree_once}
use Rattle.tx_tm_form.proofs.OneFault.{one_fault as tm_fault_once}
use Rattle.tx_doc.specs.declared.forms.Form.{Form}
use Rattle.tx_doc.specs.declared.forms.Form.TheVariants.{Tm, Scheme}
use Rattle.tx_doc.specs.Forms.{form_of}
use Rattle.tx_open.specs.Forms.{SpellsIn, IsFaultIn}
use Rattle.tx_open.specs.Outcomes.{EndsAt, FileHolds, IsDecided, IsFaultOf, IsTreeOfFile, OpenOutcome}
use Rattle.tx_open.specs.Outcomes.{faulty_words, missing, too_long, no_tree, store_fault, no_memory, opened}
use Rattle.tx_open.specs.Outcomes.{generated}

-- bytes have one tree or one fault, in each form
one_tree : (form : Form) (bytes : List ℕ) (t u : WideTree) → SpellsIn form bytes t → SpellsIn form bytes u → t ≡ u
one_tree Scheme bytes t u h k = spelled_once bytes t u h k
one_tree Tm bytes t u h k = tm_tree_once bytes t u h k

one_fault : (form : Form) (bytes : List ℕ) (f g : ReadFault) → IsFaultIn form bytes f → IsFaultIn form bytes g → f ≡ g
one_fault Scheme bytes f g h k = scheme_fault_once bytes f g h k
one_fault Tm bytes f g h k = tm_fault_once bytes f g h k

pub no_fault : (form : Form) (bytes : List ℕ) (f : ReadFault) (t : WideTree) → IsFaultIn form bytes f
    → SpellsIn form bytes t → IsWithinLimits t → ⊥
no_fault Scheme bytes f t h k w = scheme_no_fault bytes f t h k w
no_fault Tm bytes f t h k w = no_fault_of SpellsTm IsTmKind tm_tree_once bytes f t h k w

-- what is known of a file that holds these bytes
there_not : (file : Option (List ℕ)) (bytes : List ℕ) → file ≡ Some bytes → file ≡ None → ⊥
there_not file bytes e n = cc

there_once : (file : Option (List ℕ)) (a b : List ℕ) → file ≡ Some a → file ≡ Some b → a ≡ b
there_once file a b e k = cc

there_short : (file : Option (List ℕ)) (bytes : List ℕ) → file ≡ Some bytes → length bytes ≤ MOST_FILE
    → IsSomeAnd file (λ all. MOST_FILE < length all) → ⊥
there_short None bytes e le h = h
there_short (Some all) bytes e le h = let same : all ≡ bytes = cc in
    let long : MOST_FILE < length bytes = subst (λ (bs : List ℕ). MOST_FILE < length bs) same h in omega arith

gone_long : (file : Option (List ℕ)) → file ≡ None → IsSomeAnd file (λ all. MOST_FILE < length all) → ⊥
gone_long None e h = h
gone_long (Some all) e h = cc

module _ (told : Files) (word : List ℕ) where
  held_once : (a b : List ℕ) → FileHolds (Some told) word a → FileHolds (Some told) word b → b ≡ a
  held_once a b h k = there_once (file_of told word) b a k.0 h.0

  pub tree_once : (t u : WideTree) → IsTreeOfFile (Some told) word t → IsTreeOfFile (Some told) word u → t ≡ u
  tree_once t u h k =
      one_tree (form_of word) h.bytes t u h.spelled
      (subst (λ (bs : List ℕ). SpellsIn (form_of word) bs u) (held_once h.bytes k.bytes h.held k.held) k.spelled)

  fault_once : (f g : ReadFault) → IsFaultOf (Some told) word f → IsFaultOf (Some told) word g → f ≡ g
  fault_once f g h k =
      one_fault (form_of word) h.bytes f g h.misspelled
      (subst (λ (bs : List ℕ). IsFaultIn (form_of word) bs g) (held_once h.bytes k.bytes h.held k.held) k.misspelled)

  fault_or_tree : (f : ReadFault) (t : WideTree) → IsFaultOf (Some told) word f → IsTreeOfFile (Some told) word t → ⊥
  fault_or_tree f t h k =
      no_fault (form_of word) h.bytes f t h.misspelled
      (subst (λ (bs : List ℕ). SpellsIn (form_of word) bs t) (held_once h.bytes k.bytes h.held k.held) k.spelled)
      k.within

  -- why opening ends at the file
  pub data Cause (o : OpenOutcome) : Type 0 where
    lacks : o ≡ missing word → IsAbsent word told → Cause o
    too_much : o ≡ too_long word → IsTooLong word told → Cause o
    faulty : (fault : ReadFault) → o ≡ no_tree word fault → IsFaultOf (Some told) word fault → Cause o

  pub cause_of : (o : OpenOutcome) → EndsAt (Some told) word o → IsDecided o → Cause o
  cause_of (missing w) h d = lacks (ap missing h.0) h.1
  cause_of (too_long w) h d = too_much (ap too_long h.0) h.1
  cause_of (no_tree w fault) h d = faulty fault (ap (λ v. no_tree v fault) h.0) h.1
  cause_of (store_fault w) h d = absurd d
  cause_of no_memory h d = absurd d
  cause_of faulty_words h d = absurd h
  cause_of (opened all) h d = absurd h
  cause_of (generated all) h d = absurd h

  pub cause_once : (o p : OpenOutcome) → Cause o → Cause p → o ≡ p
  cause_once o p (lacks e h) (lacks i k) = e ∙ sym i
  cause_once o p (lacks e h) (too_much i k) = absurd (gone_long (file_of told word) h k)
  cause_once o p (lacks e h) (faulty g i k) =
      let held = k.held in absurd (there_not (file_of told word) k.bytes held.0 h)
  cause_once o p (too_much e h) (lacks i k) = absurd (gone_long (file_of told word) k h)
  cause_once o p (too_much e h) (too_much i k) = e ∙ sym i
  cause_once o p (too_much e h) (faulty g i k) =
      let held = k.held in absurd (there_short (file_of told word) k.bytes held.0 held.1 h)
  cause_once o p (faulty f e h) (lacks i k) =
      let held = h.held in absurd (there_not (file_of told word) h.bytes held.0 k)
  cause_once o p (faulty f e h) (too_much i k) =
      let held = h.held in absurd (there_short (file_of told word) h.bytes held.0 held.1 k)
  cause_once o p (faulty f e h) (faulty g i k) = e ∙ ap (no_tree word) (fault_once f g h k) ∙ sym i

  -- a file that is read ends nothing
  pub read_on : (o : OpenOutcome) (t : WideTree) → Cause o → IsTreeOfFile (Some told) word t → ⊥
  read_on o t (lacks e h) k = let held = k.held in there_not (file_of told word) k.bytes held.0 h
  read_on o t (too_much e h) k = let held = k.held in there_short (file_of told word) k.bytes held.0 held.1 h
  read_on o t (faulty f e h) k = fault_or_tree f t h k
