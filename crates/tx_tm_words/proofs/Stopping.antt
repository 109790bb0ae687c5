-- Bytes that end no run.
use Rattle.std.proofs.Common.{◌≡◌, ◌≢◌, ◌≤◌, ◌<◌, ℕ, Bool, true, false, ◌==◌, ◌||◌, nat_lt, [], ◌∷◌, List, length}
use Rattle.std.proofs.Common.{take, get_or, refl, sym, ap}
use Rattle.std.proofs.Common.{subst, ◌∙◌, get_or-take, length-take-le, arith}
use Rattle.std.proofs.lemmas.Bool.{ltb-true}
use Rattle.std.specs.List.{AllByRecursion, list_any}
use Rattle.tx_scan.specs.Stops.{is_stop}
use Rattle.tx_tree.specs.Labels.{is_label_byte}
use Rattle.tx_tm_form.specs.declared.bytes.ByteKind.{ByteKind}
use Rattle.tx_tm_form.specs.declared.bytes.ByteKind.TheVariants.{Name, Blank, Newline, Return, Less}
use Rattle.tx_tm_form.specs.declared.bytes.ByteKind.TheVariants.{Greater, Bar, Backslash, Hash, Slash, Other}
use Rattle.tx_tm_form.specs.Bytes.{kind_of, is_plain}
use Rattle.tx_tm_form.proofs.Words.{newline_only, return_only}

abbrev text_stops : List ℕ
text_stops = 60 ∷ 62 ∷ 124 ∷ 92 ∷ []

blank_only : (b : ℕ) → kind_of b ≡ Blank → b ≢ 32 → b ≡ 9
unfolding kind_of
blank_only b e n = grind arith

less_only : (b : ℕ) → kind_of b ≡ Less → b ≡ 60
unfolding kind_of
less_only b e = grind arith

pub greater_only : (b : ℕ) → kind_of b ≡ Greater → b ≡ 62
unfolding kind_of
greater_only b e = grind arith

pub bar_only : (b : ℕ) → kind_of b ≡ Bar → b ≡ 124
unfolding kind_of
bar_only b e = grind arith

backslash_only : (b : ℕ) → kind_of b ≡ Backslash → b ≡ 92
unfolding kind_of
backslash_only b e = grind arith

no_stop_at : (b n : ℕ) → b ≡ n → is_stop text_stops n ≡ true → is_stop text_stops b ≡ false → ⊥
no_stop_at b n e h k = let a : is_stop text_stops b ≡ true = ap (is_stop text_stops) e ∙ h in absurd cc

plain_kind : (k : ByteKind) (b : ℕ) → kind_of b ≡ k → is_stop text_stops b ≡ false → b ≢ 32 → is_plain k ≡ true
plain_kind Name b e h n = refl
plain_kind Blank b e h n = absurd (no_stop_at b 9 (blank_only b e n) refl h)
plain_kind Newline b e h n = absurd (no_stop_at b 10 (newline_only b e) refl h)
plain_kind Return b e h n = absurd (no_stop_at b 13 (return_only b e) refl h)
plain_kind Less b e h n = absurd (no_stop_at b 60 (less_only b e) refl h)
plain_kind Greater b e h n = absurd (no_stop_at b 62 (greater_only b e) refl h)
plain_kind Bar b e h n = absurd (no_stop_at b 124 (bar_only b e) refl h)
plain_kind Backslash b e h n = absurd (no_stop_at b 92 (backslash_only b e) refl h)
plain_kind Hash b e h n = refl
plain_kind Slash b e h n = refl
plain_kind Other b e h n = refl

pub no_stop : (s : List ℕ) (b : ℕ) → s ≡ 60 ∷ 62 ∷ 124 ∷ 92 ∷ [] → is_stop s b ≡ false → b ≢ 32
    → is_plain (kind_of b) ≡ true
no_stop s b e h n = plain_kind (kind_of b) b refl (ap (λ s. is_stop s b) (sym e) ∙ h) n

no_text_there : (z : Bool) (n : ℕ) (s : List ℕ) (b : ℕ) → (n == b) ≡ z → is_plain (kind_of n) ≡ false
    → (list_any (λ n. n == b) s ≡ true → is_plain (kind_of b) ≡ false) → (z || list_any (λ n. n == b) s) ≡ true
    → is_plain (kind_of b) ≡ false
no_text_there true n s b i k f e = let same : n ≡ b = grind arith in subst (λ b. is_plain (kind_of b) ≡ false) same k
no_text_there false n s b i k f e = f e

no_text_in : (s : List ℕ) (b : ℕ) → AllByRecursion (λ n. is_plain (kind_of n) ≡ false) s
    → list_any (λ n. n == b) s ≡ true → is_plain (kind_of b) ≡ false
no_text_in [] b h e = absurd cc
no_text_in (n ∷ s) b h e = no_text_there (n == b) n s b refl h.0 (no_text_in s b h.1) e

stops_are_no_text : AllByRecursion (λ n. is_plain (kind_of n) ≡ false) text_stops
unfolding kind_of is_label_byte
stops_are_no_text = (refl, (refl, (refl, (refl, tt))))

stop_kind : (z : Bool) (b : ℕ) → nat_lt b 32 ≡ z → (z || list_any (λ n. n == b) text_stops) ≡ true → 32 ≤ b
    → is_plain (kind_of b) ≡ false
stop_kind true b i h n = absurd (omega (arith, ltb-true b 32 i))
stop_kind false b i h n = no_text_in text_stops b stops_are_no_text h

pub stop_there : (s : List ℕ) (b : ℕ) → s ≡ 60 ∷ 62 ∷ 124 ∷ 92 ∷ [] → is_stop s b ≡ true → 32 ≤ b
    → is_plain (kind_of b) ≡ false
stop_there s b e h n = stop_kind (nat_lt b 32) b refl (ap (λ s. is_stop s b) (sym e) ∙ h) n

-- what is said of the first n bytes holds there
pub plain_of_front : (x : List ℕ) (n m : ℕ) → m ≤ length (take n x) → n ≤ length x
    → ((k : ℕ) → k < m → get_or (take n x) k 0 ≢ 32 → is_plain (kind_of (get_or (take n x) k 0)) ≡ true)
    → (k : ℕ) → k < m → get_or x k 0 ≢ 32 → is_plain (kind_of (get_or x k 0)) ≡ true
plain_of_front x n m h l f k i e =
    let same : get_or (take n x) k 0 ≡ get_or x k 0 = get_or-take n x k 0 (omega (arith, length-take-le n x l)) in
    subst (λ b. is_plain (kind_of b) ≡ true) same (f k i (subst (λ b. b ≢ 32) (sym same) e))

pub stop_of_front : (x : List ℕ) (n m : ℕ) → n ≤ length x → m < n
    → (m < length (take n x) → 32 ≤ get_or (take n x) m 0 → is_plain (kind_of (get_or (take n x) m 0)) ≡ false)
    → 32 ≤ get_or x m 0 → is_plain (kind_of (get_or x m 0)) ≡ false
stop_of_front x n m l k f h =
    let same : get_or (take n x) m 0 ≡ get_or x m 0 = get_or-take n x m 0 k in
    subst (λ b. is_plain (kind_of b) ≡ false) same
    (f (omega (arith, length-take-le n x l)) (subst (λ b. 32 ≤ b) (sym same) h))

pub space_is_no_text : (b : ℕ) → b ≡ 32 → is_plain (kind_of b) ≡ false
unfolding kind_of is_label_byte
space_is_no_text b e = ap (λ b. is_plain (kind_of b)) e
