-- Keys of bytes that come in two parts.
use Rattle.std.proofs.Common.{◌≡◌, ◌≢◌, ℕ, List, [], ◌∷◌, ◌++◌, append_assoc, refl, sym, ap}
use Rattle.tx_keys.specs.declared.sequences.Key.{Key}
use Rattle.tx_keys.specs.declared.sequences.Key.TheVariants.{Escape}
use Rattle.tx_keys.specs.declared.sequences.Begun.{Begun}
use Rattle.tx_keys.specs.declared.sequences.Begun.TheVariants.{Nothing, Escape as AnEscape, LoneEscape, SingleShift}
use Rattle.tx_keys.specs.declared.sequences.Begun.TheVariants.{Bracket, Numbers, Foreign, Skipping, Character}
use Rattle.tx_keys.specs.Keys.{byte_keys, bytes_keys, ended_read, read_keys}
use Rattle.tx_keys.specs.Encodings.{in_turn}

pub bytes_both : (xs ys : List ℕ) (begun : Begun) → bytes_keys begun (xs ++ ys)
    ≡ (let one = bytes_keys begun xs in let two = bytes_keys one.0 ys in (two.0, one.1 ++ two.1))
bytes_both [] ys begun = refl
bytes_both (x ∷ xs) ys begun =
    let one = byte_keys begun x in
    let rest = bytes_keys one.0 xs in
    let last = bytes_keys rest.0 ys in
    rw (bytes_both xs ys one.0) (ap (λ keys. (last.0, keys)) (sym (append_assoc one.1 rest.1 last.1)))

-- keys before those of a read are still before them at its end
ended_front : (begun : Begun) (keys more : List Key)
    → ended_read begun (keys ++ more) ≡ ((ended_read begun more).0, keys ++ (ended_read begun more).1)
ended_front AnEscape keys more = ap (λ all. (LoneEscape, all)) (append_assoc keys more (Escape ∷ []))
ended_front Nothing keys more = refl
ended_front LoneEscape keys more = refl
ended_front SingleShift keys more = refl
ended_front Bracket keys more = refl
ended_front (Numbers marked first second last) keys more = refl
ended_front Foreign keys more = refl
ended_front (Skipping left) keys more = refl
ended_front (Character left bits least) keys more = refl

abbrev gone : Begun → List Key → List ℕ → Begun × List Key
gone begun keys ys = let rest = bytes_keys begun ys in ended_read rest.0 (keys ++ rest.1)

abbrev stopped : Begun → List Key → List ℕ → Begun × List Key
stopped begun keys ys =
    let one = ended_read begun keys in let two = read_keys one.0 ys in (two.0, one.1 ++ two.1)

-- a read that ends after no escape may as well go on
goes_on : (begun : Begun) (keys : List Key) (ys : List ℕ) → (ended_read begun keys).0 ≢ LoneEscape
    → gone begun keys ys ≡ stopped begun keys ys
goes_on AnEscape keys ys other = absurd (other refl)
goes_on LoneEscape keys ys other = absurd (other refl)
goes_on Nothing keys ys other = ended_front (bytes_keys Nothing ys).0 keys (bytes_keys Nothing ys).1
goes_on SingleShift keys ys other = ended_front (bytes_keys SingleShift ys).0 keys (bytes_keys SingleShift ys).1
goes_on Bracket keys ys other = ended_front (bytes_keys Bracket ys).0 keys (bytes_keys Bracket ys).1
goes_on (Numbers m a b c) keys ys other =
    ended_front (bytes_keys (Numbers m a b c) ys).0 keys (bytes_keys (Numbers m a b c) ys).1
goes_on Foreign keys ys other = ended_front (bytes_keys Foreign ys).0 keys (bytes_keys Foreign ys).1
goes_on (Skipping n) keys ys other = ended_front (bytes_keys (Skipping n) ys).0 keys (bytes_keys (Skipping n) ys).1
goes_on (Character n a b) keys ys other =
    ended_front (bytes_keys (Character n a b) ys).0 keys (bytes_keys (Character n a b) ys).1

abbrev Cut : Begun → List ℕ → List ℕ → Type 0
Cut begun xs ys = (read_keys begun xs).0 ≢ LoneEscape → read_keys begun (xs ++ ys) ≡ in_turn begun xs ys

abbrev plain : Begun → List ℕ → Begun × List Key
plain begun bs = let all = bytes_keys begun bs in ended_read all.0 all.1

plainly : (begun : Begun) (xs ys : List ℕ) → (plain begun xs).0 ≢ LoneEscape
    → plain begun (xs ++ ys) ≡ stopped (bytes_keys begun xs).0 (bytes_keys begun xs).1 ys
plainly begun xs ys other =
    rw (bytes_both xs ys begun) (goes_on (bytes_keys begun xs).0 (bytes_keys begun xs).1 ys other)

-- Where a read ends is the same, unless it ends after an escape.
pub cut_anywhere : (begun : Begun) (xs ys : List ℕ) → begun ≢ LoneEscape → Cut begun xs ys
cut_anywhere LoneEscape xs ys apart other = absurd (apart refl)
cut_anywhere AnEscape xs ys apart other = plainly AnEscape xs ys other
cut_anywhere Nothing xs ys apart other = plainly Nothing xs ys other
cut_anywhere SingleShift xs ys apart other = plainly SingleShift xs ys other
cut_anywhere Bracket xs ys apart other = plainly Bracket xs ys other
cut_anywhere (Numbers m a b c) xs ys apart other = plainly (Numbers m a b c) xs ys other
cut_anywhere Foreign xs ys apart other = plainly Foreign xs ys other
cut_anywhere (Skipping n) xs ys apart other = plainly (Skipping n) xs ys other
cut_anywhere (Character n a b) xs ys apart other = plainly (Character n a b) xs ys other
