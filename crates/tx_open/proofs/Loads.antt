-- Files that are loaded one after the other, and what their loads count.
use Rattle.std.proofs.Common.{◌≡◌, inr, ℕ, ◌+◌, ◌<◌, List, [], ◌∷◌, ◌++◌, length, map, take, drop, get_or}
use Rattle.std.proofs.Common.{Ok, refl, sym, subst, ap, ◌∙◌}
use Rattle.std.proofs.lemmas.List.{take_more, drop_more, map-append, take-append-drop}
use Rattle.tx_outside.specs.Outside.{StoreGoesOn, StoreSeen}
use Rattle.tx_outside.proofs.Counting.{then_rose}
use Rattle.tx_words.specs.declared.asked.FileWord.{FileWord}
use Rattle.tx_words.specs.declared.asked.Source.TheVariants.{Files as AllFiles}
use Rattle.tx_words.specs.Seen.{named_of}
use Rattle.tx_words.specs.Words.{Ask, Named}
use Rattle.tx_open.specs.declared.failure.Failure.{Failure}
use Rattle.tx_open.specs.declared.failure.Failure.TheVariants as failures
use Rattle.tx_open.specs.declared.opening.Opening.{Opening}
use Rattle.tx_open.specs.Openings.{failed_as, open_outcome}
use Rattle.tx_open.specs.Outcomes.{IsCaused, OpenOutcome, faulty_words, missing, too_long, no_tree, store_fault}
use Rattle.tx_open.specs.Outcomes.{no_memory, opened, generated}
use Rattle.tx_open.specs.Loads.{AreLoaded, AreLoadedUpTo, AskForFilesThat, IsLastLoad, LoadOf, StoreIsAsked}

-- one file more
loaded_then : {S : Type 0} (load : LoadOf S) (files : List Named) (file : Named) (a b c : S) → AreLoaded load files a b
    → load file.word (Ok tt) b c → AreLoaded load (files ++ file ∷ []) a c
loaded_then load [] file a b c h k = (c, subst (λ s. load file.word (Ok tt) s c) h k, refl)
loaded_then load (f ∷ fs) file a b c h k = (h.0, h.1, loaded_then load fs file h.0 b c h.2 k)

module _ {S : Type 0} (load : LoadOf S) (all : List FileWord) (i : ℕ) (d : FileWord) (lt : i < length all)
    (old between : S) (loaded : AreLoaded load (map named_of (take i all)) old between) where
  pub load_more : (new : S) → load (get_or all i d).word.now (Ok tt) between new
      → AreLoaded load (map named_of (take (i + 1) all)) old new
  load_more new k =
      let names : map named_of (take i all) ++ named_of (get_or all i d) ∷ [] ≡ map named_of (take (i + 1) all) =
      sym (ap (map named_of) (take_more all i d lt) ∙ map-append named_of (take i all) (get_or all i d ∷ [])) in
      subst (λ (ns : List Named). AreLoaded load ns old new) names
      (loaded_then load (map named_of (take i all)) (named_of (get_or all i d)) old between new loaded k)

  -- the file of this number is the last that is asked for
  pub last_there : (seen : S → StoreSeen) → StoreGoesOn (seen old) (seen between) → (outcome : OpenOutcome) (new : S)
      → IsLastLoad load seen (get_or all i d).word.now outcome between new
      → AreLoadedUpTo load seen (map named_of all) outcome old new
  last_there seen goes_on outcome new last =
      record {
        before = map named_of (take i all);
        file = named_of (get_or all i d);
        behind = map named_of (drop (i + 1) all);
        parts = ap (map named_of) (sym (take-append-drop i all)
            ∙ ap (λ (r : List FileWord). take i all ++ r) (drop_more all i d lt))
            ∙ map-append named_of (take i all) (get_or all i d ∷ drop (i + 1) all);
        between = between;
        loaded = loaded;
        goes_on = goes_on;
        last = last;
      }

module _ {S : Type 0} (load : LoadOf S) (seen : S → StoreSeen) (old new : S) where
  -- a load that failed is counted in all loads up to it
  pub caused_up_to : (names : List Named) (o : OpenOutcome) → AreLoadedUpTo load seen names o old new
      → IsCaused (seen old) (seen new) o
  caused_up_to names faulty_words h = tt
  caused_up_to names (missing word) h =
      let goes = h.goes_on in
      let last = h.last in
      then_rose (seen old).misses (seen h.between).misses (seen new).misses goes.misses last.2
  caused_up_to names (too_long word) h =
      let goes = h.goes_on in
      let last = h.last in
      then_rose (seen old).longs (seen h.between).longs (seen new).longs goes.longs last.2
  caused_up_to names (no_tree word fault) h = tt
  caused_up_to names (store_fault word) h =
      let goes = h.goes_on in
      let last = h.last in
      then_rose (seen old).faults (seen h.between).faults (seen new).faults goes.faults last.2
  caused_up_to names no_memory h = tt
  caused_up_to names (opened all) h = tt
  caused_up_to names (generated all) h = tt

  pub caused_by_loads : (words : List (List ℕ)) (o : OpenOutcome) → StoreIsAsked load seen words o old new
      → IsCaused (seen old) (seen new) o
  caused_by_loads words faulty_words h = tt
  caused_by_loads words (missing word) h = caused_up_to h.names (missing word) h.hold
  caused_by_loads words (too_long word) h = caused_up_to h.names (too_long word) h.hold
  caused_by_loads words (no_tree word fault) h = tt
  caused_by_loads words (store_fault word) h = caused_up_to h.names (store_fault word) h.hold
  caused_by_loads words no_memory h = tt
  caused_by_loads words (opened all) h = tt
  caused_by_loads words (generated all) h = tt

  -- one of the files that the words ask for isn't read
  module _ (words : List (List ℕ)) (width height : ℕ) (names : List Named)
      (asked : Ask words width height (AllFiles names)) where
    up_to : (o : OpenOutcome) → AreLoadedUpTo load seen names o old new
        → AskForFilesThat words (λ files. AreLoadedUpTo load seen files o old new)
    up_to o h = record { width = width; height = height; names = names; asked = asked; hold = h }

    failed : (f : Failure) → AreLoadedUpTo load seen names (failed_as f) old new
        → StoreIsAsked load seen words (failed_as f) old new
    failed (failures.Missing word) h = up_to (missing word.now) h
    failed (failures.TooLong word) h = up_to (too_long word.now) h
    failed (failures.NoTree word fault) h = up_to (no_tree word.now fault) h
    failed (failures.StoreFault word) h = up_to (store_fault word.now) h
    failed failures.NoMemory h = inr (up_to no_memory h)

    pub asked_from : (r : Opening) (f : Failure) → open_outcome r ≡ failed_as f
        → AreLoadedUpTo load seen names (failed_as f) old new → StoreIsAsked load seen words (open_outcome r) old new
    asked_from r f e h = subst (λ (o : OpenOutcome). StoreIsAsked load seen words o old new) (sym e) (failed f h)
