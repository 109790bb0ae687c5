-- Bytes have one list of lines.
use Rattle.std.proofs.Common.{◌≡◌, ◌≢◌, inl, inr, ◌<◌, ℕ, true, false, List, [], ◌∷◌, ◌++◌, length, take, get_or}
use Rattle.std.proofs.Common.{zero, suc, refl, ap, sym, subst, ◌∙◌, All, append_assoc, arith}
use Rattle.std.specs.List.{flat_map}
use Rattle.std.proofs.lemmas.List.Elements.{All-head, All-tail}
use Rattle.tx_session.specs.declared.TheConstants.{MOST_SCRIPT}
use Rattle.tx_print.specs.Lines.{line}
use Rattle.tx_session.specs.Worlds.{World, LineMark}
use Rattle.tx_session.specs.Scripts.{IsOneLine, HasEndedLines, AreLinesOf, Answered, command_line, is_quit}
use Rattle.tx_session.specs.Runs.{CanBeRead}
use Rattle.tx_session.proofs.Quits.{replied_goes_on}

head_of : (b : ℕ) (bytes : List ℕ) → IsOneLine (b ∷ bytes) → b ≢ 10
head_of b bytes h = All-head (λ b. b ≢ 10) b bytes h

tail_of : (b : ℕ) (bytes : List ℕ) → IsOneLine (b ∷ bytes) → IsOneLine bytes
tail_of b bytes h = All-tail (λ b. b ≢ 10) b bytes h

-- a line has no byte 10
no_end : (one more : List ℕ) → IsOneLine (one ++ 10 ∷ more) → ⊥
no_end [] more h = head_of 10 more h refl
no_end (b ∷ one) more h = no_end one more (tail_of b (one ++ 10 ∷ more) h)

heads : (a b : ℕ) (x y : List ℕ) → a ∷ x ≡ b ∷ y → a ≡ b
heads a b x y e = ap (λ l. get_or l 0 0) e

tails : (a b : ℕ) (x y : List ℕ) → a ∷ x ≡ b ∷ y → x ≡ y
tails a b x y e = cc

first_line : (x y more others : List ℕ) → IsOneLine x → IsOneLine y → x ++ 10 ∷ more ≡ y ++ 10 ∷ others
    → (x ≡ y) × (more ≡ others)
first_line [] [] more others h k e = (refl, tails 10 10 more others e)
first_line [] (b ∷ y) more others h k e = absurd (head_of b y k (sym (heads 10 b more (y ++ 10 ∷ others) e)))
first_line (a ∷ x) [] more others h k e = absurd (head_of a x h (heads a 10 (x ++ 10 ∷ more) others e))
first_line (a ∷ x) (b ∷ y) more others h k e =
    let rest = first_line x y more others (tail_of a x h) (tail_of b y k)
    (tails a b (x ++ 10 ∷ more) (y ++ 10 ∷ others) e) in
    (λ i. heads a b (x ++ 10 ∷ more) (y ++ 10 ∷ others) e i ∷ rest.0 i, rest.1)

first_of : (one : List ℕ) (lines : List (List ℕ)) → All IsOneLine (one ∷ lines) → IsOneLine one
first_of one lines h = All-head IsOneLine one lines h

others_of : (one : List ℕ) (lines : List (List ℕ)) → All IsOneLine (one ∷ lines) → All IsOneLine lines
others_of one lines h = All-tail IsOneLine one lines h

-- the bytes of a line and what follows
spelled : (one : List ℕ) (lines : List (List ℕ)) (rest : List ℕ)
    → flat_map line (one ∷ lines) ++ rest ≡ one ++ 10 ∷ (flat_map line lines ++ rest)
spelled one lines rest = append_assoc (line one) (flat_map line lines) rest
    ∙ append_assoc one (10 ∷ []) (flat_map line lines ++ rest)

same_lines : (a b : List (List ℕ)) (r s : List ℕ) → All IsOneLine a → All IsOneLine b → IsOneLine r → IsOneLine s
    → flat_map line a ++ r ≡ flat_map line b ++ s → (a ≡ b) × (r ≡ s)
same_lines [] [] r s ha hb hr hs e = (refl, e)
same_lines [] (y ∷ b) r s ha hb hr hs e =
    absurd (no_end y (flat_map line b ++ s) (subst IsOneLine (e ∙ spelled y b s) hr))
same_lines (x ∷ a) [] r s ha hb hr hs e =
    absurd (no_end x (flat_map line a ++ r) (subst IsOneLine (sym e ∙ spelled x a r) hs))
same_lines (x ∷ a) (y ∷ b) r s ha hb hr hs e =
    let f = first_line x y (flat_map line a ++ r) (flat_map line b ++ s) (first_of x a ha) (first_of y b hb)
    (sym (spelled x a r) ∙ e ∙ spelled y b s) in
    let o = same_lines a b r s (others_of x a ha) (others_of y b hb) hr hs f.1 in
    (λ i. f.0 i ∷ o.0 i, o.1)

pub lines_once : (bytes : List ℕ) (a b : List (List ℕ)) (r s : List ℕ) → HasEndedLines bytes a r
    → HasEndedLines bytes b s → (a ≡ b) × (r ≡ s)
lines_once bytes a b r s h k = same_lines a b r s h.each k.each h.last k.last (sym h.whole ∙ k.whole)

pub script_lines_once : (script : List ℕ) (a b : List (List ℕ)) → AreLinesOf script a → AreLinesOf script b → a ≡ b
script_lines_once script a b (inl h) (inl k) = let o = lines_once script h.1.0 k.1.0 h.1.1 k.1.1 h.1.2 k.1.2 in
    h.1.3 ∙ (λ i. o.0 i ++ o.1 i ∷ []) ∙ sym k.1.3
script_lines_once script a b (inl h) (inr k) = absurd (omega (arith, h.0, k.0))
script_lines_once script a b (inr h) (inl k) = absurd (omega (arith, h.0, k.0))
script_lines_once script a b (inr h) (inr k) = (lines_once (take MOST_SCRIPT script) a b h.1.0 k.1.0 h.1.1 k.1.1).0

-- no line that was executed is `quit`
answered_not_quit : (seen last : World) (lines : List (List ℕ)) (marks : List LineMark) (text one : List ℕ) (k : ℕ)
    → Answered seen lines marks last text → k < length lines → get_or lines k one ≡ one → is_quit one ≡ true → ⊥
answered_not_quit seen last [] marks text one k a lt e q = omega (arith, lt)
answered_not_quit seen last (l ∷ lines) [] text one k a lt e q = a
answered_not_quit seen last (l ∷ lines) (m ∷ marks) text one zero a lt e q = let goes : is_quit l ≡ false =
    replied_goes_on seen a.0 (command_line l) m a.1 a.3 in cc
answered_not_quit seen last (l ∷ lines) (m ∷ marks) text one (suc k) a lt e q =
    answered_not_quit a.0 last lines marks a.2 one k a.4 (omega (arith, lt)) e q

-- a script that is too long and whose lines were all executed can't be read
pub long_unread : (script : List ℕ) (seen last : World) (lines : List (List ℕ)) (marks : List LineMark) (text : List ℕ)
    → AreLinesOf script lines → MOST_SCRIPT < length script → Answered seen lines marks last text → CanBeRead script → ⊥
long_unread script seen last lines marks text are long a (inl short) = omega (arith, long, short)
long_unread script seen last lines marks text are long a (inr (others, those, (one, (k, lt, e), q))) =
    answered_not_quit seen last others marks text one k
    (subst (λ ls. Answered seen ls marks last text) (script_lines_once script lines others are those) a) lt e q
