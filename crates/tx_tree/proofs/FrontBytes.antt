-- What continues a front of a text, a label or a path can be bytes: numbers below 256.
use Rattle.std.proofs.Common.{◌≡◌, ℕ, zero, suc, ◌<◌, true, List, [], ◌∷◌, ◌++◌, Option, Some, None}
use Rattle.std.proofs.Common.{is_some, refl, sym, ap, subst, ◌∙◌, append_assoc, length-append, arith}
use Rattle.std.specs.List.{AllByRecursion}
use Rattle.std.proofs.lemmas.List.{append-nil}
use Rattle.tx_tree.specs.declared.texts.TextPlace.{TextPlace}
use Rattle.tx_tree.specs.declared.texts.TextPlace.TheVariants.{Between, InSymbol}
use Rattle.tx_tree.specs.Labels.{is_label_byte, IsLabel}
use Rattle.tx_tree.specs.PathSpelling.{is_digit, AreNumbers, SpellsPath, IsPathSpelling}
use Rattle.tx_tree.specs.Texts.{symbol, IsName, IsText}
use Rattle.tx_tree.specs.TextScan.{text_run, begins_text}
use Rattle.tx_tree.proofs.Scanning.{all_snoc, text_snoc, TookAll, Took, took, begins_tested}

abbrev pub AreBytes : List ℕ → Type 0
AreBytes = AllByRecursion (λ b. b < 256)

-- some bytes continue the front to what P is true of
abbrev pub GoesOn : (List ℕ → Type 0) → List ℕ → Type 0
GoesOn P front = (bytes : List ℕ) × AreBytes bytes × P (front ++ bytes)

bytes_behind : (x y : List ℕ) → AreBytes (x ++ y) → AreBytes y
bytes_behind [] y h = h
bytes_behind (b ∷ x) y h = bytes_behind x y h.1

pub bytes_together : (x y : List ℕ) → AreBytes x → AreBytes y → AreBytes (x ++ y)
bytes_together [] y h k = k
bytes_together (b ∷ x) y h k = (h.0, bytes_together x y h.1 k)

-- ---- texts

-- a symbol whose name has a byte
named : (before name : List ℕ) → IsText before → IsName name → IsText (before ++ (60 ∷ (name ++ 62 ∷ [])))
named before name h k = text_snoc before (symbol name) h k

text_closes : (p : TextPlace) (x : List ℕ) → Took p x → GoesOn IsText x
text_closes Between x h = ([], tt, subst IsText (sym (append-nil x)) h)
text_closes (InSymbol zero) x h =
    let name : IsName (h.name ++ 97 ∷ []) = record {
      each = all_snoc _ h.name 97 h.each refl;
      some = omega (arith, length-append h.name (97 ∷ []));
      short = omega (arith, h.count, length-append h.name (97 ∷ []));
    } in
    let are : x ++ 97 ∷ 62 ∷ [] ≡ h.before ++ (60 ∷ ((h.name ++ 97 ∷ []) ++ 62 ∷ [])) =
    ap (λ z. z ++ 97 ∷ 62 ∷ []) h.are ∙ append_assoc h.before (60 ∷ h.name) (97 ∷ 62 ∷ [])
    ∙ ap (λ z. h.before ++ (60 ∷ z)) (sym (append_assoc h.name (97 ∷ []) (62 ∷ []))) in (
      97 ∷ 62 ∷ [],
      (omega arith, (omega arith, tt)),
      subst IsText (sym are) (named h.before (h.name ++ 97 ∷ []) h.text name),
    )
text_closes (InSymbol (suc n)) x h =
    let name : IsName h.name =
    record { each = h.each; some = omega (arith, h.count); short = omega (arith, h.count, h.short) } in
    let are : x ++ 62 ∷ [] ≡ h.before ++ (60 ∷ (h.name ++ 62 ∷ [])) =
    ap (λ z. z ++ 62 ∷ []) h.are ∙ append_assoc h.before (60 ∷ h.name) (62 ∷ []) in
    (62 ∷ [], (omega arith, tt), subst IsText (sym are) (named h.before h.name h.text name))

pub text_closed : (x : List ℕ) → begins_text x ≡ true → GoesOn IsText x
unfolding begins_text
text_closed x e = closed (text_run (Some Between) x) e (took x)
  where
    closed : (p : Option TextPlace) → is_some p ≡ true → TookAll p x → GoesOn IsText x
    closed (Some p) e k = text_closes p x k
    closed None e k = absurd cc

pub text_goes_on : (front more : List ℕ) → IsText (front ++ more) → GoesOn IsText front
text_goes_on front more h = text_closed front (begins_tested front more h)

-- ---- labels

label_byte_small : (b : ℕ) → is_label_byte b ≡ true → b < 256
unfolding is_label_byte
label_byte_small b h = grind arith

pub label_bytes : (label : List ℕ) → AllByRecursion (λ b. is_label_byte b ≡ true) label → AreBytes label
label_bytes [] h = tt
label_bytes (b ∷ label) h = (label_byte_small b h.0, label_bytes label h.1)

pub label_goes_on : (front more : List ℕ) → IsLabel (front ++ more) → GoesOn IsLabel front
label_goes_on front more h = (more, bytes_behind front more (label_bytes (front ++ more) h.each), h)

-- ---- paths

digit_small : (b : ℕ) → is_digit b ≡ true → b < 256
digit_small b h = grind arith

digit_bytes : (digits : List ℕ) → AllByRecursion (λ b. is_digit b ≡ true) digits → AreBytes digits
digit_bytes [] h = tt
digit_bytes (b ∷ digits) h = (digit_small b h.0, digit_bytes digits h.1)

number_bytes : (path bytes : List ℕ) → AreNumbers bytes path → AreBytes bytes
number_bytes [] bytes h = subst AreBytes (sym h) tt
number_bytes (n ∷ path) bytes h =
    subst AreBytes (sym h.3)
    (omega arith, bytes_together h.0 h.1 (digit_bytes h.0 h.2.each) (number_bytes path h.1 h.4))

path_bytes : (path bytes : List ℕ) → SpellsPath bytes path → AreBytes bytes
path_bytes [] bytes h = subst AreBytes (sym h) (omega arith, tt)
path_bytes (n ∷ path) bytes h = number_bytes (n ∷ path) bytes h.0

pub path_goes_on : (front more : List ℕ) → IsPathSpelling (front ++ more) → GoesOn IsPathSpelling front
path_goes_on front more h = (more, bytes_behind front more (path_bytes h.0 (front ++ more) h.1), h)
