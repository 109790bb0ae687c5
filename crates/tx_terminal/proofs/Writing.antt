-- The bytes of a character put it at the cursor.
use Rattle.std.proofs.Common.{◌≡◌, ℕ, ◌+◌, ◌-◌, ◌<◌, ◌≤◌, Bool, true, false, List, [], ◌∷◌, ◌++◌}
use Rattle.std.proofs.Common.{append_assoc, length, Some}
use Rattle.std.proofs.Common.{refl, ap, subst, ◌∙◌, arith}
use Rattle.std.specs.Prelude.{◌==◌, ◌&&◌, nat_le, if◌then◌else◌}
use Rattle.std.specs.List.{list_all}
use Rattle.std.proofs.lemmas.Bool.{and_parts, eqb-true, ne_eqb, false≢true}
use Rattle.tx_terminal.specs.Characters.{character_length, is_second, is_later, is_character, least_second, most_second}
use Rattle.tx_terminal.specs.Terminals.{Terminal, after_byte, after_bytes, put, standing_at}
use Rattle.tx_terminal.specs.Terminals.Mode.{character}

-- the terminal within a character
abbrev within : Terminal → ℕ → ℕ → ℕ → List ℕ → Terminal
within t r c left bytes = record t { cursor = Some (r, c); mode = character left bytes }

-- the terminal after these bytes, which are one character
abbrev shown : Terminal → ℕ → ℕ → List ℕ → Terminal
shown t r c glyphs = put (standing_at t r c) r c glyphs (t.cells_of glyphs)

later_parts : (x : ℕ) → is_later x ≡ true → (nat_le 128 x ≡ true) × (nat_le x 191 ≡ true)
later_parts x later = and_parts (nat_le 128 x) (nat_le x 191) later

second_parts : (a b : ℕ) → is_second a b ≡ true → (nat_le (least_second a) b ≡ true) × (nat_le b (most_second a) ≡ true)
second_parts a b second = and_parts (nat_le (least_second a) b) (nat_le b (most_second a)) second

later_bytes : (t : Terminal) (r c a b : ℕ) (more : List ℕ) (x : ℕ) (xs : List ℕ) → list_all is_later (x ∷ xs) ≡ true
    → after_bytes (within t r c (length xs + 1) (a ∷ b ∷ more)) (x ∷ xs) ≡ shown t r c (a ∷ b ∷ (more ++ x ∷ xs))
later_bytes t r c a b more x [] all =
    let ok = later_parts x (and_parts (is_later x) true all).0 in rw (ok.0, ok.1) refl
later_bytes t r c a b more x (y ∷ ys) all =
    let rest = and_parts (is_later x) (list_all is_later (y ∷ ys)) all in
    let ok = later_parts x rest.0 in
    let other : (length (y ∷ ys) + 1 == 1) ≡ false = ne_eqb (length (y ∷ ys) + 1) 1 (λ e. omega (arith, e)) in
    let fewer : length (y ∷ ys) + 1 - 1 ≡ length ys + 1 = omega arith in
    rw (ok.0, ok.1, other, fewer)
    (later_bytes t r c a b (more ++ x ∷ []) y ys rest.1
    ∙ ap (λ bytes. shown t r c (a ∷ b ∷ bytes)) (append_assoc more (x ∷ []) (y ∷ ys)))

-- what begins a character is no escape
no_escape : (a n : ℕ) → character_length a ≡ n → 0 < n → (a == 27) ≡ false
no_escape a n long some =
    ne_eqb a 27 (λ e. let none : 0 ≡ n = subst (λ x. character_length x ≡ n) e long in omega (arith, none, some))

-- the first byte of a character of several
first_byte : (t : Terminal) (r c a n : ℕ) → character_length a ≡ n + 2
    → after_byte (standing_at t r c) a ≡ within t r c (n + 1) (a ∷ [])
first_byte t r c a n long =
    let some : (n + 2 == 0) ≡ false = ne_eqb (n + 2) 0 (λ e. omega (arith, e)) in
    let several : (n + 2 == 1) ≡ false = ne_eqb (n + 2) 1 (λ e. omega (arith, e)) in
    let left : n + 2 - 1 ≡ n + 1 = omega arith in
    rw (no_escape a (n + 2) long (omega arith), long, some, several, left) refl

second_byte : (t : Terminal) (r c a b : ℕ) (bs : List ℕ) → is_second a b ≡ true → list_all is_later bs ≡ true
    → after_bytes (within t r c (length bs + 1) (a ∷ [])) (b ∷ bs) ≡ shown t r c (a ∷ b ∷ bs)
second_byte t r c a b [] second all = let ok = second_parts a b second in rw (ok.0, ok.1) refl
second_byte t r c a b (x ∷ xs) second all =
    let ok = second_parts a b second in
    let other : (length (x ∷ xs) + 1 == 1) ≡ false = ne_eqb (length (x ∷ xs) + 1) 1 (λ e. omega (arith, e)) in
    let fewer : length (x ∷ xs) + 1 - 1 ≡ length xs + 1 = omega arith in
    rw (ok.0, ok.1, other, fewer) (later_bytes t r c a b [] x xs all)

pub put_whole : (t : Terminal) (r c : ℕ) (glyphs : List ℕ) → is_character glyphs ≡ true
    → after_bytes (standing_at t r c) glyphs ≡ shown t r c glyphs
put_whole t r c [] one = absurd (false≢true one)
put_whole t r c (a ∷ []) one =
    let long : character_length a ≡ 1 = eqb-true (character_length a) 1 one in
    rw (no_escape a 1 long (omega arith), long) refl
put_whole t r c (a ∷ b ∷ bs) one =
    let parts = and_parts (character_length a == length bs + 2) (is_second a b && list_all is_later bs) one in
    let rest = and_parts (is_second a b) (list_all is_later bs) parts.1 in
    let long : character_length a ≡ length bs + 2 = eqb-true (character_length a) (length bs + 2) parts.0 in
    rw (first_byte t r c a (length bs) long) (second_byte t r c a b bs rest.0 rest.1)

at_most_4 : (test : Bool) (x y : ℕ) → x ≤ 4 → y ≤ 4 → (if test then x else y) ≤ 4
at_most_4 true x y p q = p
at_most_4 false x y p q = q

most : (a : ℕ) → character_length a ≤ 4
most a =
    let four : ℕ = if nat_le 240 a && nat_le a 244 then 4 else 0 in
    let three : ℕ = if nat_le 224 a && nat_le a 239 then 3 else four in
    let two : ℕ = if nat_le 194 a && nat_le a 223 then 2 else three in
    at_most_4 (nat_le 32 a && nat_le a 126) 1 two (omega arith)
    (at_most_4 (nat_le 194 a && nat_le a 223) 2 three (omega arith)
    (at_most_4 (nat_le 224 a && nat_le a 239) 3 four (omega arith)
    (at_most_4 (nat_le 240 a && nat_le a 244) 4 0 (omega arith) (omega arith))))

pub glyphs_length : (glyphs : List ℕ) → is_character glyphs ≡ true → length glyphs ≤ 4
glyphs_length [] one = omega arith
glyphs_length (a ∷ []) one = omega arith
glyphs_length (a ∷ b ∷ bs) one =
    let parts = and_parts (character_length a == length bs + 2) (is_second a b && list_all is_later bs) one in
    let long : character_length a ≡ length bs + 2 = eqb-true (character_length a) (length bs + 2) parts.0 in
    let few = most a in
    omega (arith, long, few)
