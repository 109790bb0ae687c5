-- A text that grows by several bytes.
use Rattle.std.proofs.Common.{◌≡◌, ℕ, ◌+◌, ◌<◌, ◌≤◌, true, false, ◌&&◌, List, [], ◌∷◌, ◌++◌}
use Rattle.std.proofs.Common.{length, take, get_or, Some, refl, sym, ap, subst, ◌∙◌, arith}
use Rattle.std.proofs.Common.{append_assoc, length-append}
use Rattle.std.proofs.lemmas.List.{append-nil, take_more, length-take-le}
use Rattle.std.proofs.lemmas.Bool.{and_from, and_parts, le-ltb}
use Rattle.tx_tree.specs.declared.texts.TextPlace.{TextPlace}
use Rattle.tx_tree.specs.declared.texts.TextPlace.TheVariants.{Between}
use Rattle.tx_tree.specs.TextScan.{text_step, text_run, begins_text, takes_byte, takes_all}
use Rattle.tx_tree.proofs.Scanning.{takes_more, takes_yes}

-- the place after the first n of these bytes
pub record IsReached (read bytes : List ℕ) (n : ℕ) (place : TextPlace) : Type 0 where
  pub run : text_run (Some Between) (read ++ take n bytes) ≡ Some place
  pub taken : takes_all read (take n bytes) ≡ true

pub takes_all-snoc : (read bytes : List ℕ) (b : ℕ) → takes_all read bytes ≡ true → takes_byte (read ++ bytes) b ≡ true
    → takes_all read (bytes ++ b ∷ []) ≡ true
takes_all-snoc read [] b h k = and_from _ _ (ap (λ x. takes_byte x b) (sym (append-nil read)) ∙ k) refl
takes_all-snoc read (c ∷ bytes) b h k =
    let p = and_parts _ _ h in
    and_from _ _ p.0
    (takes_all-snoc (read ++ c ∷ []) bytes b p.1
    (ap (λ x. takes_byte x b) (append_assoc read (c ∷ []) bytes) ∙ k))

pub reached_none : (read bytes : List ℕ) (place : TextPlace) → text_run (Some Between) read ≡ Some place
    → IsReached read bytes 0 place
reached_none read bytes place e =
    record { run = ap (text_run (Some Between)) (append-nil read) ∙ e; taken = refl }

pub reached_more : (read bytes : List ℕ) (n : ℕ) (p q : TextPlace) (b : ℕ) → n < length bytes
    → length read + n < 1048575 → IsReached read bytes n p → b ≡ get_or bytes n 0 → text_step p b ≡ Some q
    → IsReached read bytes (n + 1) q
reached_more read bytes n p q b lt short r is s =
    let more : take (n + 1) bytes ≡ take n bytes ++ b ∷ [] =
    take_more bytes n 0 lt ∙ ap (λ x. take n bytes ++ x ∷ []) (sym is) in
    let few : length (read ++ take n bytes) < 1048575 =
    omega (arith, length-append read (take n bytes), length-take-le n bytes (omega arith)) in
    record {
      run = ap (λ x. text_run (Some Between) (read ++ x)) more
          ∙ ap (text_run (Some Between)) (sym (append_assoc read (take n bytes) (b ∷ [])))
          ∙ takes_more (read ++ take n bytes) p q b r.run s;
      taken = ap (takes_all read) more
          ∙ takes_all-snoc read (take n bytes) b r.taken (sym (takes_yes (read ++ take n bytes) p q b few r.run s));
    }

pub reached_end : (read bytes : List ℕ) (n end : ℕ) (place : TextPlace) → n ≤ end → end ≤ n
    → IsReached read bytes n place
    → IsReached read bytes end place
reached_end read bytes n end place le ge r =
    let same : n ≡ end = omega arith in subst (λ m. IsReached read bytes m place) same r

-- at the limit no byte is taken
pub full_takes_none : (read bytes : List ℕ) (n b : ℕ) → n ≤ length bytes → 1048575 ≤ length read + n
    → takes_byte (read ++ take n bytes) b ≡ false
full_takes_none read bytes n b le full =
    let many : 1048575 ≤ length (read ++ take n bytes) =
    omega (arith, length-append read (take n bytes), length-take-le n bytes le) in
    ap (λ x. x && begins_text ((read ++ take n bytes) ++ b ∷ [])) (le-ltb _ _ many)
