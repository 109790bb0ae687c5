-- The file of a tree.
use Rattle.std.proofs.Common.{◌≡◌, ℕ, ◌≤◌, ◌<◌, Bool, true, false, List, [], ◌∷◌, length}
use Rattle.std.proofs.Common.{Some, None, refl, sym, ap, subst, ◌∙◌, arith}
use Rattle.std.specs.Prelude.{if◌then◌else◌, nat_le}
use Rattle.tx_outside.specs.declared.file_store.TheConstants.{MOST_FILE}
use Rattle.tx_outside.specs.Files.{Files, file_of}
use Rattle.tx_outside.proofs.GoingOn.{store_goes_on_refl}
use Rattle.tx_outside.specs.Outside.{StoreSeen}
use Rattle.tx_tree.specs.Limits.{IsWellFormed, IsWithinLimits}
use Rattle.tx_tree.specs.WideTree.{WideTree}
use Rattle.tx_scm.proofs.Spelled.{line_alone as scheme_alone}
use Rattle.tx_tm_write.proofs.Spelling.{line_alone as tm_alone}
use Rattle.tx_doc.specs.declared.forms.Form.{Form}
use Rattle.tx_doc.specs.declared.forms.Form.TheVariants.{Tm, Scheme}
use Rattle.tx_doc.specs.Forms.{form_of}
use Rattle.tx_doc.specs.Modern.{modern}
use Rattle.tx_session.specs.declared.replies.Reply.{Reply}
use Rattle.tx_session.specs.declared.replies.Reply.TheVariants.{Done, Fixed, Made, Wanting, Unsaved}
use Rattle.tx_session.specs.Forms.{Saving, no_form, file_long, writes, fitting, saving, has_text_in, form_text}
use Rattle.tx_session.specs.Forms.{SpellsAloneIn}
use Rattle.tx_print.specs.Lines.{line}
use Rattle.tx_session.specs.Saying.{reply_text, Says}
use Rattle.tx_session.specs.Saves.{IsSaveReply, IsKeepReply}
use Rattle.tx_session.specs.States.{save_reply, file_saved}
use Rattle.tx_session.specs.Worlds.{StoresFile}
use Rattle.tx_words.specs.Names.{buffer_name}
use Rattle.tx_words.specs.Words.{Ask, named_file}
use Rattle.tx_words.specs.declared.asked.Source.TheVariants.{Files as AllFiles}
use Rattle.tx_open.specs.declared.opening.Opened.{Opened}
use Rattle.tx_open.specs.Outcomes.{OpenOutcome, opened, ComesTo, IsDecided, IsOpenedAs, IsReadAs, IsTreeOfFile}
use Rattle.tx_open.proofs.Files.{tree_once}
use Rattle.tx_session.proofs.Openings.{OneOutcome}

-- ---- the result of saving

pub saves_nothing : (form : Form) (t : WideTree) → has_text_in form t ≡ false → saving form t ≡ no_form
saves_nothing form t e = ap (λ b. if b then fitting (line (form_text form t)) else no_form) e

saves_fitting : (form : Form) (t : WideTree) → has_text_in form t ≡ true
    → saving form t ≡ fitting (line (form_text form t))
saves_fitting form t e = ap (λ b. if b then fitting (line (form_text form t)) else no_form) e

fits_not : (bytes : List ℕ) (b : Bool) → nat_le (length bytes) MOST_FILE ≡ b → b ≡ false
    → fitting bytes ≡ file_long (length bytes)
fits_not bytes b e f = ap (λ c. if c then writes bytes else file_long (length bytes)) (e ∙ f)

fits_is : (bytes : List ℕ) (b : Bool) → nat_le (length bytes) MOST_FILE ≡ b → b ≡ true → fitting bytes ≡ writes bytes
fits_is bytes b e f = ap (λ c. if c then writes bytes else file_long (length bytes)) (e ∙ f)

too_many : (n : ℕ) → MOST_FILE < n → nat_le n MOST_FILE ≡ false
too_many n lt = grind arith

at_most : (n : ℕ) → nat_le n MOST_FILE ≡ true → n ≤ MOST_FILE
at_most n e = grind arith

few_enough : (n : ℕ) → n ≤ MOST_FILE → nat_le n MOST_FILE ≡ true
few_enough n le = grind arith

pub saves_too_many : (form : Form) (t : WideTree) → has_text_in form t ≡ true
    → MOST_FILE < length (line (form_text form t)) → saving form t ≡ file_long (length (line (form_text form t)))
saves_too_many form t e lt = saves_fitting form t e ∙ fits_not (line (form_text form t)) false (too_many _ lt) refl

pub saves_bytes : (form : Form) (t : WideTree) → has_text_in form t ≡ true
    → length (line (form_text form t)) ≤ MOST_FILE → saving form t ≡ writes (line (form_text form t))
saves_bytes form t e le = saves_fitting form t e ∙ fits_is (line (form_text form t)) true (few_enough _ le) refl

-- ---- replies

-- a reply that saves nothing
pub said_save : (name : List ℕ) (t : WideTree) (x : Saving) (reply : Reply) (store : StoreSeen)
    → saving (form_of name) t ≡ x → file_saved name x ≡ None → Says reply (save_reply x)
    → IsSaveReply name t reply store store
said_save name t x Wanting store e none says = (refl, store_goes_on_refl store)
said_save name t x Unsaved store e none says = absurd says
said_save name t x Done store e none says =
    (says ∙ ap save_reply (sym e), subst (λ o. StoresFile o store store) (sym (ap (file_saved name) e ∙ none)) refl)
said_save name t x (Fixed text) store e none says =
    (says ∙ ap save_reply (sym e), subst (λ o. StoresFile o store store) (sym (ap (file_saved name) e ∙ none)) refl)
said_save name t x (Made text) store e none says =
    (says ∙ ap save_reply (sym e), subst (λ o. StoresFile o store store) (sym (ap (file_saved name) e ∙ none)) refl)

-- the reply where the bytes were given to the store
module _ (name : List ℕ) (t : WideTree) (bytes : List ℕ) (before after : StoreSeen)
    (e : saving (form_of name) t ≡ writes bytes) where
  stored_save : (reply : Reply) → Says reply (save_reply (writes bytes)) → reply_text reply ≡ save_reply (writes bytes)
      → StoresFile (Some (name, bytes)) before after
      → (reply_text reply ≡ save_reply (saving (form_of name) t))
      × StoresFile (file_saved name (saving (form_of name) t))
      before after
  stored_save reply says same s =
      (same ∙ ap save_reply (sym e), subst (λ o. StoresFile o before after) (sym (ap (file_saved name) e)) s)

  pub kept_save : (given result : Reply) → Says given (save_reply (writes bytes))
      → IsKeepReply name bytes given result before after → IsSaveReply name t result before after
  kept_save given Wanting says k = k
  kept_save given Unsaved says k = (bytes, e, k)
  kept_save given Done says k = let same : Says Done (save_reply (writes bytes)) =
      subst (λ r. Says r (save_reply (writes bytes))) (sym k.0) says in stored_save Done same same k.1
  kept_save given (Fixed text) says k = let same : Says (Fixed text) (save_reply (writes bytes)) =
      subst (λ r. Says r (save_reply (writes bytes))) (sym k.0) says in stored_save (Fixed text) same same k.1
  kept_save given (Made text) says k = let same : Says (Made text) (save_reply (writes bytes)) =
      subst (λ r. Says r (save_reply (writes bytes))) (sym k.0) says in stored_save (Made text) same same k.1

-- a reply that was given, where the store stored the bytes
pub keeps_given : (name bytes : List ℕ) (given : Reply) (before after : StoreSeen) → (given ≡ Wanting → ⊥)
    → (given ≡ Unsaved → ⊥) → StoresFile (Some (name, bytes)) before after
    → IsKeepReply name bytes given given before after
keeps_given name bytes Wanting before after n u s = absurd (n refl)
keeps_given name bytes Unsaved before after n u s = absurd (u refl)
keeps_given name bytes Done before after n u s = (refl, s)
keeps_given name bytes (Fixed text) before after n u s = (refl, s)
keeps_given name bytes (Made text) before after n u s = (refl, s)

pub says_something : (reply : Reply) (text : List ℕ) → Says reply text → reply ≡ Unsaved → ⊥
says_something Wanting text h e = cc
says_something Unsaved text h e = h
says_something Done text h e = cc
says_something (Fixed t) text h e = cc
says_something (Made t) text h e = cc

-- ---- what is saved spells the tree alone

saved_text : (form : Form) (t : WideTree) (bytes : List ℕ) (b : Bool) → has_text_in form t ≡ b
    → saving form t ≡ writes bytes → (has_text_in form t ≡ true) × (bytes ≡ line (form_text form t))
saved_text form t bytes false h e = let none : no_form ≡ writes bytes = sym (saves_nothing form t h) ∙ e in absurd cc
saved_text form t bytes true h e = (h, by_size (nat_le (length (line (form_text form t))) MOST_FILE) refl)
  where
    by_size : (c : Bool) → nat_le (length (line (form_text form t))) MOST_FILE ≡ c → bytes ≡ line (form_text form t)
    by_size false k = let long : file_long (length (line (form_text form t))) ≡ writes bytes =
        sym (saves_fitting form t h ∙ fits_not (line (form_text form t)) false k refl) ∙ e in absurd cc
    by_size true k = let same : writes (line (form_text form t)) ≡ writes bytes =
        sym (saves_fitting form t h ∙ fits_is (line (form_text form t)) true k refl) ∙ e in cc

line_alone : (form : Form) (t : WideTree) → IsWellFormed t → has_text_in form t ≡ true
    → SpellsAloneIn form (line (form_text form t)) t
line_alone Scheme t formed h = let a = scheme_alone t formed in (a.spelled, a.alone)
line_alone Tm t formed h = let a = tm_alone t formed h in (a.spelled, a.alone)

pub saved_alone : (form : Form) (t : WideTree) (bytes : List ℕ) → IsWellFormed t → saving form t ≡ writes bytes
    → SpellsAloneIn form bytes t
saved_alone form t bytes formed e =
    let text = saved_text form t bytes (has_text_in form t) refl e in
    subst (λ bs. SpellsAloneIn form bs t) (sym text.1) (line_alone form t formed text.0)

-- ---- and opens again

saved_short : (form : Form) (t : WideTree) (bytes : List ℕ) → saving form t ≡ writes bytes → length bytes ≤ MOST_FILE
saved_short form t bytes e = by_form (has_text_in form t) refl
  where
    by_size : has_text_in form t ≡ true → (c : Bool) → nat_le (length (line (form_text form t))) MOST_FILE ≡ c
        → length bytes ≤ MOST_FILE
    by_size h false k = let long : file_long (length (line (form_text form t))) ≡ writes bytes =
        sym (saves_fitting form t h ∙ fits_not (line (form_text form t)) false k refl) ∙ e in absurd cc
    by_size h true k =
        let same : writes (line (form_text form t)) ≡ writes bytes =
        sym (saves_fitting form t h ∙ fits_is (line (form_text form t)) true k refl) ∙ e in
        let is : line (form_text form t) ≡ bytes = cc in
        subst (λ bs. length bs ≤ MOST_FILE) is (at_most (length (line (form_text form t))) k)

    by_form : (b : Bool) → has_text_in form t ≡ b → length bytes ≤ MOST_FILE
    by_form false h = let none : no_form ≡ writes bytes = sym (saves_nothing form t h) ∙ e in absurd cc
    by_form true h = by_size h (nat_le (length (line (form_text form t))) MOST_FILE) refl

module _ (told : Files) (word bytes : List ℕ) (t : WideTree) (formed : IsWellFormed t) (within : IsWithinLimits t)
    (e : saving (form_of word) t ≡ writes bytes) (held : file_of told word ≡ Some bytes) where
  read_again : IsTreeOfFile (Some told) word t
  read_again =
      record {
        bytes = bytes;
        held = (held, saved_short (form_of word) t bytes e);
        spelled = (saved_alone (form_of word) t bytes formed e).0;
        within = within;
      }

  pub reads_again : IsTreeOfFile (Some told) word t × ((u : WideTree) → IsTreeOfFile (Some told) word u → u ≡ t)
  reads_again = (read_again, λ u h. tree_once told word u t h read_again)

  pub opens_alone : (law : OneOutcome) (words : List (List ℕ)) (width height : ℕ) (o : OpenOutcome)
      → Ask words width height (AllFiles (named_file word ∷ [])) → ComesTo words (Some told) o → IsDecided o
      → o ≡ opened (record {
        width = width;
        height = height;
        buffers = record { name = buffer_name word; tree = modern t } ∷ [];
      })
  opens_alone law words width height o asked comes decided =
      let all : Opened = record {
        width = width;
        height = height;
        buffers = record { name = buffer_name word; tree = modern t } ∷ [];
      } in
      let own : IsReadAs (Some told) (named_file word) (record { name = buffer_name word; tree = modern t }) =
      record { named = refl; spelled = t; read = read_again; made = refl } in
      let opens : IsOpenedAs words (Some told) all =
      record { names = named_file word ∷ []; asked = asked; read = (own, tt) } in
      law words told o (opened all) comes opens decided tt
