-- How a run ends, by what is opened.
use Rattle.std.proofs.Common.{◌≡◌, ◌⊎◌, inl, inr, ℕ, List, Option, sym, subst}
use Rattle.std.specs.Prelude.{[], IfOk, IfErr, IfSome, Some, None, Result, Ok, Err}
use Rattle.std.specs.Io.KnownBytes.{prepend_known}
use Rattle.tx_outside.specs.Counts.{Rose}
use Rattle.tx_outside.specs.Files.{Files}
use Rattle.tx_outside.specs.Outside.{SinkGoesOn, SinkSeen, SourceGoesOn, SourceSeen, StoreSeen}
use Rattle.tx_outside.proofs.Counting.{then_rose}
use Rattle.tx_words.specs.Words.{AreFaulty}
use Rattle.tx_open.specs.Outcomes.{OpenOutcome, faulty_words, missing, too_long, no_tree, store_fault, no_memory}
use Rattle.tx_open.specs.Outcomes.{opened, generated, ComesTo, IsCaused}
use Rattle.tx_session.specs.Worlds.{KeepsFiles}
use Rattle.tx_screen.specs.declared.ending.Ending.{Ending}
use Rattle.tx_screen.specs.declared.ending.Ending.TheVariants as endings
use Rattle.tx_screen.specs.Runs.{EndsAtOpening, EndsSo, EndsUnopened, HasCause}

-- an outcome that opens nothing, and its ending
module _ (words : List (List ℕ)) (before after : StoreSeen) (kept : KeepsFiles before after) where
  pub unopened : (o : OpenOutcome) (ending : Ending) → ComesTo words before.files o → IsCaused before after o
      → EndsSo o ending → EndsUnopened words ending before after
  unopened o ending comes caused so = record { outcome = o; comes = comes; caused = caused; so = so; kept = kept }

  pub out_of_memory : (ending : Ending) → ending ≡ endings.NoMemory → EndsUnopened words ending before after
  out_of_memory ending e = unopened no_memory ending tt tt e

-- the causes of an ending, where nothing was opened
words_of : (words : List (List ℕ)) (files : Option Files) (o : OpenOutcome) → ComesTo words files o
    → EndsSo o endings.Words → AreFaulty words
words_of words files faulty_words comes so = comes
words_of words files (missing word) comes so = absurd cc
words_of words files (too_long word) comes so = absurd cc
words_of words files (no_tree word fault) comes so = absurd cc
words_of words files (store_fault word) comes so = absurd cc
words_of words files no_memory comes so = absurd cc
words_of words files (opened all) comes so = absurd so
words_of words files (generated all) comes so = absurd so

missing_of : (before after : StoreSeen) (o : OpenOutcome) → IsCaused before after o → EndsSo o endings.Missing
    → Rose before.misses after.misses
missing_of before after faulty_words caused so = absurd cc
missing_of before after (missing word) caused so = caused
missing_of before after (too_long word) caused so = absurd cc
missing_of before after (no_tree word fault) caused so = absurd cc
missing_of before after (store_fault word) caused so = absurd cc
missing_of before after no_memory caused so = absurd cc
missing_of before after (opened all) caused so = absurd so
missing_of before after (generated all) caused so = absurd so

failed_of : (before after : StoreSeen) (o : OpenOutcome) → IsCaused before after o → EndsSo o endings.StoreFault
    → Rose before.faults after.faults
failed_of before after faulty_words caused so = absurd cc
failed_of before after (missing word) caused so = absurd cc
failed_of before after (too_long word) caused so = absurd cc
failed_of before after (no_tree word fault) caused so = absurd cc
failed_of before after (store_fault word) caused so = caused
failed_of before after no_memory caused so = absurd cc
failed_of before after (opened all) caused so = absurd so
failed_of before after (generated all) caused so = absurd so

pub faulty_words_end : (words : List (List ℕ)) (ending : Ending) (before after : StoreSeen)
    → EndsUnopened words ending before after → ending ≡ endings.Words → AreFaulty words
faulty_words_end words ending before after h e =
    words_of words before.files h.outcome h.comes (subst (EndsSo h.outcome) e h.so)

pub missing_end : (words : List (List ℕ)) (ending : Ending) (before after : StoreSeen)
    → EndsUnopened words ending before after → ending ≡ endings.Missing → Rose before.misses after.misses
missing_end words ending before after h e =
    missing_of before after h.outcome h.caused (subst (EndsSo h.outcome) e h.so)

pub failed_end : (words : List (List ℕ)) (ending : Ending) (before after : StoreSeen)
    → EndsUnopened words ending before after → ending ≡ endings.StoreFault → Rose before.faults after.faults
failed_end words ending before after h e =
    failed_of before after h.outcome h.caused (subst (EndsSo h.outcome) e h.so)

-- the ending of an outcome isn't one of the input, nor of the output
never : (o : OpenOutcome) (ending : Ending) → (ending ≡ endings.Words → ⊥) → (ending ≡ endings.Missing → ⊥)
    → (ending ≡ endings.Refused → ⊥) → (ending ≡ endings.StoreFault → ⊥) → (ending ≡ endings.NoMemory → ⊥)
    → EndsSo o ending → ⊥
never faulty_words ending w m r s n so = w so
never (missing word) ending w m r s n so = m so
never (too_long word) ending w m r s n so = r so
never (no_tree word fault) ending w m r s n so = r so
never (store_fault word) ending w m r s n so = s so
never no_memory ending w m r s n so = n so
never (opened all) ending w m r s n so = so
never (generated all) ending w m r s n so = so

module _ (words : List (List ℕ)) (before after : StoreSeen) where
  not_so : (ending found : Ending) → EndsUnopened words ending before after → ending ≡ found
      → (found ≡ endings.Words → ⊥) → (found ≡ endings.Missing → ⊥) → (found ≡ endings.Refused → ⊥)
      → (found ≡ endings.StoreFault → ⊥) → (found ≡ endings.NoMemory → ⊥) → ⊥
  not_so ending found h e w m r s n = never h.outcome found w m r s n (subst (EndsSo h.outcome) e h.so)

  pub no_input_fault : (ending : Ending) → EndsUnopened words ending before after → ending ≡ endings.InputFault → ⊥
  no_input_fault ending h e =
      not_so ending endings.InputFault h e (λ f. cc) (λ f. cc) (λ f. cc) (λ f. cc) (λ f. cc)

  pub no_output_fault : (ending : Ending) → EndsUnopened words ending before after → ending ≡ endings.OutputFault → ⊥
  no_output_fault ending h e =
      not_so ending endings.OutputFault h e (λ f. cc) (λ f. cc) (λ f. cc) (λ f. cc) (λ f. cc)

  pub no_input_ended : (ending : Ending) → EndsUnopened words ending before after
      → (ending ≡ endings.InputEnded) ⊎ (ending ≡ endings.Unsaved) → ⊥
  no_input_ended ending h (inl e) =
      not_so ending endings.InputEnded h e (λ f. cc) (λ f. cc) (λ f. cc) (λ f. cc) (λ f. cc)
  no_input_ended ending h (inr e) =
      not_so ending endings.Unsaved h e (λ f. cc) (λ f. cc) (λ f. cc) (λ f. cc) (λ f. cc)

-- an ending that says that nothing was opened is none where something was
pub opens_not : (ending found : Ending) → ¬ EndsAtOpening ending → ending ≡ found → EndsAtOpening found → ⊥
opens_not ending found served e ends = served (subst EndsAtOpening (sym e) ends)

-- ---- what is opened

pub if_ok_map : {A B : Type 0} {P Q : A → Type 0} (r : Result A B) → ((x : A) → P x → Q x) → IfOk r P → IfOk r Q
if_ok_map (Ok a) f p = f a p
if_ok_map (Err b) f p = tt

pub if_err_map : {A B : Type 0} {P Q : B → Type 0} (r : Result A B) → ((x : B) → P x → Q x) → IfErr r P → IfErr r Q
if_err_map (Ok a) f p = tt
if_err_map (Err b) f p = f b p

-- ---- where the ending of a screen that was opened comes

-- the last read returned nothing
pub ended_now : (old new : Option (List ℕ)) → old ≡ prepend_known [] new → IfSome old (λ bytes. bytes ≡ [])
    → IfSome new (λ bytes. bytes ≡ [])
ended_now old None e h = tt
ended_now old (Some bytes) e h = subst (λ (o : Option (List ℕ)). IfSome o (λ b. b ≡ [])) e h

module _ (input next : SourceSeen) (out after : SinkSeen) where
  pub left_by_user : HasCause endings.Left input next out after
  left_by_user =
      record {
        served = λ e. e;
        input_fault = λ e. absurd cc;
        output_fault = λ e. absurd cc;
        at_end = λ e. elim e [ inl a ↦ absurd cc | inr b ↦ absurd cc ];
      }

  pub memory_lacked : HasCause endings.NoMemory input next out after
  memory_lacked =
      record {
        served = λ e. e;
        input_fault = λ e. absurd cc;
        output_fault = λ e. absurd cc;
        at_end = λ e. elim e [ inl a ↦ absurd cc | inr b ↦ absurd cc ];
      }

  pub input_was_long : HasCause endings.InputLong input next out after
  input_was_long =
      record {
        served = λ e. e;
        input_fault = λ e. absurd cc;
        output_fault = λ e. absurd cc;
        at_end = λ e. elim e [ inl a ↦ absurd cc | inr b ↦ absurd cc ];
      }

  pub input_failed : Rose input.faults next.faults → HasCause endings.InputFault input next out after
  input_failed rose =
      record {
        served = λ e. e;
        input_fault = λ e. rose;
        output_fault = λ e. absurd cc;
        at_end = λ e. elim e [ inl a ↦ absurd cc | inr b ↦ absurd cc ];
      }

  pub output_failed : Rose out.faults after.faults → HasCause endings.OutputFault input next out after
  output_failed rose =
      record {
        served = λ e. e;
        input_fault = λ e. absurd cc;
        output_fault = λ e. rose;
        at_end = λ e. elim e [ inl a ↦ absurd cc | inr b ↦ absurd cc ];
      }

  pub input_at_end : (ending : Ending) → (ending ≡ endings.InputEnded) ⊎ (ending ≡ endings.Unsaved)
      → IfSome next.left (λ bytes. bytes ≡ []) → HasCause ending input next out after
  input_at_end endings.InputEnded is last =
      record {
        served = λ e. e;
        input_fault = λ e. absurd cc;
        output_fault = λ e. absurd cc;
        at_end = λ e. last;
      }
  input_at_end endings.Unsaved is last =
      record {
        served = λ e. e;
        input_fault = λ e. absurd cc;
        output_fault = λ e. absurd cc;
        at_end = λ e. last;
      }
  input_at_end endings.Left is last = absurd (elim is [ inl a ↦ cc | inr b ↦ cc ])
  input_at_end endings.Words is last = absurd (elim is [ inl a ↦ cc | inr b ↦ cc ])
  input_at_end endings.Missing is last = absurd (elim is [ inl a ↦ cc | inr b ↦ cc ])
  input_at_end endings.Refused is last = absurd (elim is [ inl a ↦ cc | inr b ↦ cc ])
  input_at_end endings.StoreFault is last = absurd (elim is [ inl a ↦ cc | inr b ↦ cc ])
  input_at_end endings.InputFault is last = absurd (elim is [ inl a ↦ cc | inr b ↦ cc ])
  input_at_end endings.OutputFault is last = absurd (elim is [ inl a ↦ cc | inr b ↦ cc ])
  input_at_end endings.NoMemory is last = absurd (elim is [ inl a ↦ cc | inr b ↦ cc ])
  input_at_end endings.InputLong is last = absurd (elim is [ inl a ↦ cc | inr b ↦ cc ])

-- after what came before
pub caused_later : (ending : Ending) (input between next : SourceSeen) (out done after : SinkSeen)
    → SourceGoesOn input between → SinkGoesOn out done → HasCause ending between next done after
    → HasCause ending input next out after
caused_later ending input between next out done after read written h =
    record {
      served = h.served;
      input_fault = λ e. then_rose _ _ _ read.faults (h.input_fault e);
      output_fault = λ e. then_rose _ _ _ written.faults (h.output_fault e);
      at_end = h.at_end;
    }
