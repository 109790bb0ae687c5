-- What the bytes of an ink make of a terminal.
use Rattle.std.proofs.Common.{◌≡◌, ℕ, ◌*◌, ◌≤◌, Bool, true, false, [], ◌++◌, length, Option, Some, None}
use Rattle.std.proofs.Common.{refl, ap, ◌∙◌, arith}
use Rattle.std.specs.Prelude.{◌&&◌, slice_get, if◌then◌else◌}
use Rattle.std.proofs.Math.Bool.{beq}
use Rattle.std.proofs.lemmas.Bool.{and_parts, eqb-true, false≢true}
use Rattle.std.proofs.lemmas.List.{length-append}
use Rattle.tx_terminal.specs.declared.inks.Color.{Color}
use Rattle.tx_terminal.specs.declared.inks.Color.TheVariants.{Black, Red, Green, Yellow, Blue, Magenta, Cyan, White}
use Rattle.tx_terminal.specs.declared.inks.Ink.{Ink}
use Rattle.tx_terminal.specs.Inks.{plain, color_number, colors, is_same_color, is_same_ink}
use Rattle.tx_terminal.specs.Terminals.{Terminal, after_bytes, quiet, writing_in}
use Rattle.tx_terminal.specs.Painting.{sgr, part_bytes, color_bytes, ink_bytes, change_bytes}
use Rattle.tx_terminal.proofs.Sequences.{after_both}

-- ---- inks that are the same

same_bool : (a b : Bool) → beq a b ≡ true → a ≡ b
same_bool true true same = refl
same_bool true false same = absurd (false≢true same)
same_bool false true same = absurd (false≢true same)
same_bool false false same = refl

-- the color of a number
numbered : (c : Color) → slice_get colors (color_number c) ≡ Some c
numbered Black = refl
numbered Red = refl
numbered Green = refl
numbered Yellow = refl
numbered Blue = refl
numbered Magenta = refl
numbered Cyan = refl
numbered White = refl

same_color : (c d : Option Color) → is_same_color c d ≡ true → c ≡ d
same_color None None same = refl
same_color None (Some d) same = absurd (false≢true same)
same_color (Some c) None same = absurd (false≢true same)
same_color (Some c) (Some d) same =
    let one : color_number c ≡ color_number d = eqb-true (color_number c) (color_number d) same in
    let first = numbered c in
    let second = numbered d in
    cc

abbrev ink_of : Bool → Bool → Bool → Option Color → Ink
ink_of bold italic reverse color = record { bold = bold; italic = italic; reverse = reverse; color = color }

same_ink : (a b : Ink) → is_same_ink a b ≡ true → a ≡ b
same_ink a b same =
    let color : Bool = is_same_color a.color b.color in
    let reverse : Bool = beq a.reverse b.reverse in
    let italic : Bool = beq a.italic b.italic in
    let first = and_parts (beq a.bold b.bold) (italic && (reverse && color)) same in
    let second = and_parts italic (reverse && color) first.1 in
    let third = and_parts reverse color second.1 in
    ap (λ x. ink_of x a.italic a.reverse a.color) (same_bool a.bold b.bold first.0)
    ∙ ap (λ x. ink_of b.bold x a.reverse a.color) (same_bool a.italic b.italic second.0)
    ∙ ap (λ x. ink_of b.bold b.italic x a.color) (same_bool a.reverse b.reverse third.0)
    ∙ ap (λ x. ink_of b.bold b.italic b.reverse x) (same_color a.color b.color third.1)

-- ---- each part of an ink

bold_set : (t : Terminal) (bold : Bool)
    → after_bytes (writing_in t plain) (part_bytes bold 49) ≡ writing_in t (ink_of bold false false None)
bold_set t true = refl
bold_set t false = refl

italic_set : (t : Terminal) (bold italic : Bool)
    → after_bytes (writing_in t (ink_of bold false false None)) (part_bytes italic 51)
    ≡ writing_in t (ink_of bold italic false None)
italic_set t bold true = refl
italic_set t bold false = refl

reverse_set : (t : Terminal) (bold italic reverse : Bool)
    → after_bytes (writing_in t (ink_of bold italic false None)) (part_bytes reverse 55)
    ≡ writing_in t (ink_of bold italic reverse None)
reverse_set t bold italic true = refl
reverse_set t bold italic false = refl

color_set : (t : Terminal) (bold italic reverse : Bool) (color : Option Color)
    → after_bytes (writing_in t (ink_of bold italic reverse None)) (color_bytes color)
    ≡ writing_in t (ink_of bold italic reverse color)
color_set t bold italic reverse None = refl
color_set t bold italic reverse (Some Black) = refl
color_set t bold italic reverse (Some Red) = refl
color_set t bold italic reverse (Some Green) = refl
color_set t bold italic reverse (Some Yellow) = refl
color_set t bold italic reverse (Some Blue) = refl
color_set t bold italic reverse (Some Magenta) = refl
color_set t bold italic reverse (Some Cyan) = refl
color_set t bold italic reverse (Some White) = refl

-- ---- changes

ink_set : (t : Terminal) (ink : Ink) → after_bytes (quiet t) (ink_bytes ink) ≡ writing_in t ink
ink_set t ink =
    let color = color_bytes ink.color in
    let reverse = part_bytes ink.reverse 55 in
    let italic = part_bytes ink.italic 51 in
    let bold = part_bytes ink.bold 49 in
    after_both (sgr []) (bold ++ (italic ++ (reverse ++ color))) (quiet t)
    ∙ after_both bold (italic ++ (reverse ++ color)) (writing_in t plain)
    ∙ ap (λ u. after_bytes u (italic ++ (reverse ++ color))) (bold_set t ink.bold)
    ∙ after_both italic (reverse ++ color) (writing_in t (ink_of ink.bold false false None))
    ∙ ap (λ u. after_bytes u (reverse ++ color)) (italic_set t ink.bold ink.italic)
    ∙ after_both reverse color (writing_in t (ink_of ink.bold ink.italic false None))
    ∙ ap (λ u. after_bytes u color) (reverse_set t ink.bold ink.italic ink.reverse)
    ∙ color_set t ink.bold ink.italic ink.reverse ink.color

pub changed : (t : Terminal) (from to : Ink)
    → after_bytes (writing_in t from) (change_bytes from to) ≡ writing_in t to
changed t from to = by_test (is_same_ink from to) (same_ink from to)
  where
    by_test : (test : Bool) → (test ≡ true → from ≡ to)
        → after_bytes (writing_in t from) (if test then [] else ink_bytes to) ≡ writing_in t to
    by_test true same = ap (writing_in t) (same refl)
    by_test false same = ink_set (writing_in t from) to

-- ---- how many bytes they are

part_length : (is_set : Bool) (digit : ℕ) → length (part_bytes is_set digit) ≤ 4
part_length true digit = omega arith
part_length false digit = omega arith

color_length : (color : Option Color) → length (color_bytes color) ≤ 5
color_length None = omega arith
color_length (Some color) = omega arith

ink_length : (ink : Ink) → length (ink_bytes ink) ≤ 20
ink_length ink =
    let color = color_bytes ink.color in
    let reverse = part_bytes ink.reverse 55 in
    let italic = part_bytes ink.italic 51 in
    let bold = part_bytes ink.bold 49 in
    let a = length-append (sgr []) (bold ++ (italic ++ (reverse ++ color))) in
    let b = length-append bold (italic ++ (reverse ++ color)) in
    let c = length-append italic (reverse ++ color) in
    let d = length-append reverse color in
    let e = part_length ink.bold 49 in
    let f = part_length ink.italic 51 in
    let g = part_length ink.reverse 55 in
    let h = color_length ink.color in
    omega (arith, a, b, c, d, e, f, g, h)

pub change_length : (from to : Ink)
    → length (change_bytes from to) ≤ 20 * (if is_same_ink from to then 0 else 1)
change_length from to = by_test (is_same_ink from to)
  where
    by_test : (test : Bool) → length (if test then [] else ink_bytes to) ≤ 20 * (if test then 0 else 1)
    by_test true = omega arith
    by_test false = let few = ink_length to in omega (arith, few)

pub last_length : (from : Ink) → length (change_bytes from plain) ≤ 3
last_length from = by_test (is_same_ink from plain)
  where
    by_test : (test : Bool) → length (if test then [] else ink_bytes plain) ≤ 3
    by_test true = omega arith
    by_test false = omega arith
