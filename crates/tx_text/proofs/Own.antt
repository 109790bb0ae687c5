-- The display text of a symbol without a code point, and of any item at the start of a buffer.
use Rattle.std.proofs.Common.{◌≡◌, ℕ, zero, suc, ◌+◌, ◌-◌, ◌<◌, ◌≤◌, true, false, ◌==◌, cond, List, [], ◌∷◌, ◌++◌}
use Rattle.std.proofs.Common.{length, drop, get_or, set, slice_index, None, refl, sym, ap, ◌∙◌, arith, append_assoc}
use Rattle.std.proofs.Common.{lit<}
use Rattle.std.specs.Prelude.{encode_utf8_all}
use Rattle.std.specs.List.{AllByRecursion}
use Rattle.std.proofs.lemmas.Bool.Decides.{nat_tests}
use Rattle.std.proofs.lemmas.List.{drop_more, set_at}
use Rattle.std.proofs.lemmas.Str.{encodes-IsAscii}
use borrow.Rule.Slice.PartMut.{put_mid}
use Rattle.tx_tree.specs.Texts.{symbol, IsName, is_name_byte}
use Rattle.tx_text.specs.Displays.{item_text, symbol_code, symbol_codes}
use Rattle.tx_text.specs.Tables.{named_code}

ascii_name : (name : List ℕ) → AllByRecursion (λ b. is_name_byte b ≡ true) name → (i : ℕ)
    → slice_index (name ++ 62 ∷ []) i < 128
ascii_name [] h zero = lit< tt
ascii_name [] h (suc i) = lit< tt
ascii_name (b ∷ name) h zero = let part = h.0 in grind (arith, nat_tests)
ascii_name (b ∷ name) h (suc i) = ascii_name name h.1 i

ascii_symbol : (name : List ℕ) → AllByRecursion (λ b. is_name_byte b ≡ true) name → (i : ℕ)
    → slice_index (60 ∷ (name ++ 62 ∷ [])) i < 128
ascii_symbol name h zero = lit< tt
ascii_symbol name h (suc i) = ascii_name name h i

-- a symbol without a code point shows as its own bytes
pub own_text : (name : List ℕ) → IsName name → symbol_code name ≡ None
    → item_text (symbol name) ≡ 60 ∷ (name ++ 62 ∷ [])
own_text name h e =
    ap (λ code. encode_utf8_all (symbol_codes name code)) e
    ∙ encodes-IsAscii (60 ∷ (name ++ 62 ∷ [])) (ascii_symbol name h.each)

-- a symbol whose name begins with no # shows by its name
pub shows_by_name : (name : List ℕ) → (get_or name 0 0 ≡ 35 → ⊥) → named_code name ≡ symbol_code name
unfolding named_code
shows_by_name [] other = refl
shows_by_name (b ∷ bs) other =
    let no : (b == 35) ≡ false = grind (arith, nat_tests) in
    ap (λ t. cond t (symbol_code (35 ∷ bs)) (named_code (b ∷ bs))) (sym no)

pub symbol_put : (xs name : List ℕ) → length name + 2 ≤ length xs
    → set (put_mid 1 (length name + 1 - 1) (set xs 0 60) name) (length name + 1) 62 ≡
    (60 ∷ (name ++ 62 ∷ [])) ++ drop (length name + 1 + 1) xs
symbol_put [] name le = absurd (omega arith)
symbol_put (x ∷ xs) name le =
    let k : ℕ = length name in
    let same : k + 1 - 1 ≡ k = omega arith in
    let one : k + 1 ≡ suc k = omega arith in
    let two : suc (k + 1) ≡ k + 1 + 1 = omega arith in
    let later : drop k xs ≡ get_or xs k 0 ∷ drop (k + 1) xs = drop_more xs k 0 (omega arith) in
    ap (λ n. set (60 ∷ (name ++ drop n xs)) (k + 1) 62) same
    ∙ ap (λ n. set (60 ∷ (name ++ drop k xs)) n 62) one
    ∙ ap (λ l. 60 ∷ set (name ++ l) k 62) later
    ∙ ap (λ l. 60 ∷ l) (set_at name (get_or xs k 0) (drop (k + 1) xs) 62 k refl)
    ∙ ap (λ n. 60 ∷ (name ++ 62 ∷ drop n (x ∷ xs))) two
    ∙ sym (ap (λ l. 60 ∷ l) (append_assoc name (62 ∷ []) (drop (k + 1 + 1) (x ∷ xs))))
