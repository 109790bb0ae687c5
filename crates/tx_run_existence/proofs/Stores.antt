-- A store that keeps a file, or does nothing.
use Rattle.std.proofs.Common.{◌≡◌, ℕ, cond, List, ◌∷◌, Option, Some, None, refl, ap}
use Rattle.std.proofs.Common.{inl, inr, arith}
use Rattle.std.specs.Str.{bytes_eq}
use Rattle.std.proofs.lemmas.Bool.{cases_Bool}
use Rattle.std.proofs.lemmas.Slice.Eq.{bytes_eq-Decides}
use Rattle.tx_outside.specs.Counts.{NeverFalls}
use Rattle.tx_outside.specs.Files.{Files, file_of, OthersKept, WithFile}
use Rattle.tx_outside.specs.Known.{StaysKnown, WhereKnown}
use Rattle.tx_outside.specs.Outside.{StoreGoesOn, StoreSeen}
use Rattle.tx_session.specs.Worlds.{StoresFile}

pub stays : (n : ℕ) → NeverFalls n n
stays n = record { kept = omega arith; within = λ h. h }

pub store_stays : (store : StoreSeen) → StoreGoesOn store store
store_stays store = record {
  known = refl;
  faults = stays store.faults;
  misses = stays store.misses;
  longs = stays store.longs;
}

file_there : (name bytes : List ℕ) (old : Files) → file_of ((name, bytes) ∷ old) name ≡ Some bytes
file_there name bytes old =
    ap (λ b. cond b (Some bytes) (file_of old name)) ((bytes_eq-Decides name name).1 refl)

others_there : (name bytes : List ℕ) (old : Files) → OthersKept name old ((name, bytes) ∷ old)
others_there name bytes old other apart = elim (cases_Bool (bytes_eq other name)) [
  | inl same ↦ absurd (apart ((bytes_eq-Decides other name).0 same))
  | inr differ ↦ ap (λ b. cond b (Some bytes) (file_of old other)) differ
]

abbrev Keeping : List ℕ × List ℕ → Option Files → Type 0
Keeping file old =
    (new : Option Files) × WhereKnown (WithFile file.0 file.1) old new × StaysKnown old new

keeping : (file : List ℕ × List ℕ) (old : Option Files) → Keeping file old
keeping file None = (None, tt, refl)
keeping file (Some old) = (
  Some ((file.0, file.1) ∷ old),
  record {
    file = file_there file.0 file.1 old;
    others = others_there file.0 file.1 old;
  },
  refl,
)

-- some store is the one afterwards, and it is as before where nothing is saved
pub record IsStored (file : Option (List ℕ × List ℕ)) (before : StoreSeen) : Type 0 where
  pub after : StoreSeen
  pub stored : StoresFile file before after
  pub kept : file ≡ None → after ≡ before

pub some_store : (file : Option (List ℕ × List ℕ)) (before : StoreSeen) → IsStored file before
some_store None before = record { after = before; stored = refl; kept = λ e. refl }
some_store (Some file) before =
    let new = keeping file before.files in
    record {
      after = record before { files = new.0 };
      stored = (
        new.1,
        record {
          known = new.2;
          faults = stays before.faults;
          misses = stays before.misses;
          longs = stays before.longs;
        },
      );
      kept = λ e. absurd (cc);
    }
