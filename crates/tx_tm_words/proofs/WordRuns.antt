-- Words, and runs of white, from byte to byte.
use Rattle.std.proofs.Common.{◌≡◌, ℕ, ◌+◌, ◌<◌, true, List, [], ◌∷◌, ◌++◌, length, take}
use Rattle.std.proofs.Common.{get_or, zero, suc, sym, ap, subst, ◌∙◌}
use Rattle.std.proofs.Common.{append_assoc, arith}
use Rattle.std.proofs.lemmas.List.{take_more}
use Rattle.tx_tm_form.specs.declared.bytes.White.{White}
use Rattle.tx_tm_form.specs.Bytes.{kind_of, is_plain, is_white, white_of, joint_run}
use Rattle.tx_tm_words.specs.Runs.{AreWords, one_byte, byte_more, space_and_byte, IsWhiteRun, white_more}

pub word_next : (x : List ℕ) (i b : ℕ) → (0 < i → AreWords (take i x)) → i < length x → get_or x i 0 ≡ b
    → is_plain (kind_of b) ≡ true → AreWords (take (i + 1) x)
word_next [] zero b w n e k = absurd (omega arith)
word_next (a ∷ x) zero b w n e k = subst (λ z. AreWords (z ∷ [])) (sym e) (one_byte b k)
word_next x (suc i) b w n e k =
    subst AreWords (sym (take_more x (suc i) 0 n ∙ ap (λ z. take (suc i) x ++ z ∷ []) e))
    (byte_more (take (suc i) x) b (w (omega arith)) k)

pub word_behind_space : (x : List ℕ) (i b : ℕ) → AreWords (take i x) → i + 1 < length x → get_or x i 0 ≡ 32
    → get_or x (i + 1) 0 ≡ b → is_plain (kind_of b) ≡ true → AreWords (take (i + 2) x)
word_behind_space x i b w n s e k =
    let two : take (i + 1 + 1) x ≡ take i x ++ 32 ∷ b ∷ [] =
    take_more x (i + 1) 0 n ∙ ap (λ z. take (i + 1) x ++ z ∷ []) e
    ∙ ap (λ z. z ++ b ∷ []) (take_more x i 0 (omega arith) ∙ ap (λ z. take i x ++ z ∷ []) s)
    ∙ append_assoc (take i x) (32 ∷ []) (b ∷ []) in
    let same : i + 1 + 1 ≡ i + 2 = omega arith in
    subst (λ n. AreWords (take n x)) same (subst AreWords (sym two) (space_and_byte (take i x) b w k))

pub white_next : (x : List ℕ) (i b : ℕ) (v u : White) → IsWhiteRun (take i x) v → i < length x → get_or x i 0 ≡ b
    → is_white (kind_of b) ≡ true → u ≡ joint_run v (white_of b) → IsWhiteRun (take (i + 1) x) u
white_next x i b v u w n e k d =
    subst (IsWhiteRun (take (i + 1) x)) (sym d)
    (subst (λ y. IsWhiteRun y (joint_run v (white_of b)))
    (sym (take_more x i 0 n ∙ ap (λ z. take i x ++ z ∷ []) e)) (white_more (take i x) v b w k))
