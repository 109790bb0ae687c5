-- The items of a text, byte by byte.
use Rattle.std.proofs.Common.{◌≡◌, ℕ, ◌+◌, ◌-◌, ◌<◌, ◌≤◌, Bool, true, false, ◌==◌, cond, List, [], ◌∷◌, ◌++◌, length}
use Rattle.std.proofs.Common.{take, drop, get_or, replicate, Option, Some, None, refl, sym, ap, ap₂, ◌∙◌, subst, arith}
use Rattle.std.proofs.Common.{append_assoc, length-append, append-nil}
use Rattle.std.specs.Prelude.{slice_range}
use Rattle.std.proofs.lemmas.List.{take_more, drop_more, get_or-drop, length-drop, length-take-le}
use Rattle.std.proofs.Math.ListN.{length-replicate}
use Rattle.std.specs.List.{AllByRecursion, flat_map}
use Rattle.std.proofs.lemmas.Bool.Decides.{nat_tests}
use Rattle.tx_tree.specs.Texts.{Item, byte, symbol, item_bytes, IsItem, is_name_byte}
use Rattle.tx_text.specs.Displays.{item_text, display_text}
use Rattle.tx_text.specs.Clusters.{items_of, items_behind}
use Rattle.tx_text.specs.Places.{spread}
use Rattle.tx_text.specs.declared.cutting.Stretch.{Stretch}

-- what has been read at a place of the symbol that began at another, if one has begun
abbrev pub name_read : Bool → List ℕ → ℕ → ℕ → Option (List ℕ)
name_read false bytes from at = None
name_read true bytes from at = Some (slice_range bytes (from + 1) at)

-- the display text and its places, as far as the bytes are read
pub record ReadTo (bytes : List ℕ) (in_symbol : Bool) (from at : ℕ) (text : List ℕ) (places : List Stretch) : Type 0
  where
    pub text_so_far : text ++ display_text (items_behind (name_read in_symbol bytes from at) (drop at bytes)) ≡
        display_text (items_of bytes)
    pub places_so_far : places ++ spread from (items_behind (name_read in_symbol bytes from at) (drop at bytes)) ≡
        spread 0 (items_of bytes)
    pub same_length : length places ≡ length text
    pub outside : in_symbol ≡ false → from ≡ at
    pub inside : in_symbol ≡ true → from < at

test-not : (b n : ℕ) → (b ≡ n → ⊥) → (b == n) ≡ false
test-not b n h = grind arith

slice_more : (bytes : List ℕ) (from at : ℕ) → from ≤ at → at < length bytes
    → slice_range bytes from (at + 1) ≡ slice_range bytes from at ++ get_or bytes at 0 ∷ []
slice_more bytes from at le lt =
    let longer : at + 1 - from ≡ (at - from) + 1 = omega arith in
    let within : at - from < length (drop from bytes) = omega (arith, length-drop from bytes) in
    let place : from + (at - from) ≡ at = omega arith in
    let last : get_or (drop from bytes) (at - from) 0 ≡ get_or bytes at 0 =
    get_or-drop from bytes (at - from) 0 ∙ ap (λ i. get_or bytes i 0) place in
    ap (λ n. take n (drop from bytes)) longer ∙ take_more (drop from bytes) (at - from) 0 within
    ∙ ap (λ b. slice_range bytes from at ++ b ∷ []) last

-- one byte more of a name
name_more : (bytes : List ℕ) (from at : ℕ) → from < at → at < length bytes → (get_or bytes at 0 ≡ 62 → ⊥)
    → items_behind (Some (slice_range bytes (from + 1) at)) (drop at bytes) ≡
    items_behind (Some (slice_range bytes (from + 1) (at + 1))) (drop (at + 1) bytes)
name_more bytes from at lt there other =
    ap (items_behind (Some (slice_range bytes (from + 1) at))) (drop_more bytes at 0 there)
    ∙ ap
    (λ t. cond t (symbol (slice_range bytes (from + 1) at) ∷ items_behind None (drop (at + 1) bytes))
    (items_behind (Some (slice_range bytes (from + 1) at ++ get_or bytes at 0 ∷ [])) (drop (at + 1) bytes)))
    (test-not _ _ other)
    ∙ ap (λ name. items_behind (Some name) (drop (at + 1) bytes))
    (sym (slice_more bytes (from + 1) at (omega arith) there))

-- a name begins
name_begins : (bytes : List ℕ) (at : ℕ) → at < length bytes → get_or bytes at 0 ≡ 60
    → items_behind None (drop at bytes) ≡
    items_behind (Some (slice_range bytes (at + 1) (at + 1))) (drop (at + 1) bytes)
name_begins bytes at there e =
    let none : at + 1 - (at + 1) ≡ 0 = omega arith in
    ap (items_behind None) (drop_more bytes at 0 there)
    ∙ ap (λ b. items_behind None (b ∷ drop (at + 1) bytes)) e
    ∙ ap (λ n. items_behind (Some (take n (drop (at + 1) bytes))) (drop (at + 1) bytes)) (sym none)

name_ends : (bytes name : List ℕ) (at : ℕ) → at < length bytes → get_or bytes at 0 ≡ 62
    → items_behind (Some name) (drop at bytes) ≡ symbol name ∷ items_behind None (drop (at + 1) bytes)
name_ends bytes name at there e =
    ap (items_behind (Some name)) (drop_more bytes at 0 there)
    ∙ ap (λ b. items_behind (Some name) (b ∷ drop (at + 1) bytes)) e

byte_alone : (bytes : List ℕ) (at : ℕ) → at < length bytes → (get_or bytes at 0 ≡ 60 → ⊥)
    → items_behind None (drop at bytes) ≡ byte (get_or bytes at 0) ∷ items_behind None (drop (at + 1) bytes)
byte_alone bytes at there other =
    ap (items_behind None) (drop_more bytes at 0 there)
    ∙ ap
    (λ t. cond t (items_behind (Some []) (drop (at + 1) bytes))
    (byte (get_or bytes at 0) ∷ items_behind None (drop (at + 1) bytes))) (test-not _ _ other)

-- an item is done
shows : (bytes : List ℕ) (s : Bool) (from at : ℕ) (text text' : List ℕ) (places places' : List Stretch) (item : Item)
    → ReadTo bytes s from at text places
    → items_behind (name_read s bytes from at) (drop at bytes) ≡ item ∷ items_behind None (drop (at + 1) bytes)
    → from + length (item_bytes item) ≡ at + 1
    → text' ≡ text ++ item_text item
    → places' ≡ places ++ replicate (length (item_text item)) (record { from = from; to = at + 1 })
    → ReadTo bytes false (at + 1) (at + 1) text' places'
shows bytes s from at text text' places places' item h next end e f =
    let rest : List Item = items_behind None (drop (at + 1) bytes) in
    let here : List ℕ = item_text item in
    let stand : ℕ → Stretch = λ to. record { from = from; to = to } in
    record {
      text_so_far =
          ap (λ t. t ++ display_text rest) e ∙ append_assoc text here (display_text rest)
          ∙ ap (λ items. text ++ display_text items) (sym next) ∙ h.text_so_far;
      places_so_far =
          ap (λ t. t ++ spread (at + 1) rest) f
          ∙ append_assoc places (replicate (length here) (stand (at + 1))) (spread (at + 1) rest)
          ∙ ap (λ n. places ++ (replicate (length here) (stand n) ++ spread n rest)) (sym end)
          ∙ ap (λ items. places ++ spread from items) (sym next) ∙ h.places_so_far;
      same_length =
          ap length f ∙ length-append places (replicate (length here) (stand (at + 1)))
          ∙ ap₂ (λ n m. n + m) h.same_length (length-replicate (length here) (stand (at + 1)))
          ∙ sym (length-append text here) ∙ ap length (sym e);
      outside = λ _. refl;
      inside = λ on. cc;
    }

pub shows_symbol : (bytes : List ℕ) (s : Bool) (from at : ℕ) (text text' : List ℕ) (places places' : List Stretch)
    → ReadTo bytes s from at text places → s ≡ true → at < length bytes → get_or bytes at 0 ≡ 62
    → text' ≡ text ++ item_text (symbol (slice_range bytes (from + 1) at))
    → places' ≡ places ++ replicate (length (item_text (symbol (slice_range bytes (from + 1) at))))
    (record { from = from; to = at + 1 })
    → ReadTo bytes false (at + 1) (at + 1) text' places'
shows_symbol bytes s from at text text' places places' h on there is e f =
    let name : List ℕ = slice_range bytes (from + 1) at in
    let before : from < at = h.inside on in
    let long : length name ≡ at - (from + 1) =
    length-take-le (at - (from + 1)) (drop (from + 1) bytes) (omega (arith, length-drop (from + 1) bytes)) in
    let whole : length (item_bytes (symbol name)) ≡ 1 + (length name + 1) =
    omega (arith, length-append name (62 ∷ [])) in
    let reads : items_behind (name_read s bytes from at) (drop at bytes) ≡
    symbol name ∷ items_behind None (drop (at + 1) bytes) =
    ap (λ b. items_behind (name_read b bytes from at) (drop at bytes)) on ∙ name_ends bytes name at there is in
    shows bytes s from at text text' places places' (symbol name) h reads (omega arith) e f

pub shows_byte : (bytes : List ℕ) (s : Bool) (from at b : ℕ) (text text' : List ℕ) (places places' : List Stretch)
    → ReadTo bytes s from at text places → s ≡ false → at < length bytes → b ≡ get_or bytes at 0 → (b ≡ 60 → ⊥)
    → text' ≡ text ++ item_text (byte b)
    → places' ≡ places ++ replicate (length (item_text (byte b))) (record { from = from; to = at + 1 })
    → ReadTo bytes s (at + 1) (at + 1) text' places'
shows_byte bytes s from at b text text' places places' h off there is other e f =
    let here : from ≡ at = h.outside off in
    let reads : items_behind (name_read s bytes from at) (drop at bytes) ≡
    byte b ∷ items_behind None (drop (at + 1) bytes) =
    ap (λ t. items_behind (name_read t bytes from at) (drop at bytes)) off
    ∙ byte_alone bytes at there (λ k. other (is ∙ k))
    ∙ ap (λ x. byte x ∷ items_behind None (drop (at + 1) bytes)) (sym is) in
    let P : Bool → Type 0 = λ t. ReadTo bytes t (at + 1) (at + 1) text' places' in
    subst P (sym off) (shows bytes s from at text text' places places' (byte b) h reads (omega arith) e f)

pub goes_on : (bytes : List ℕ) (s : Bool) (from at : ℕ) (text : List ℕ) (places : List Stretch)
    → ReadTo bytes s from at text places → s ≡ true → at < length bytes → (get_or bytes at 0 ≡ 62 → ⊥)
    → ReadTo bytes s from (at + 1) text places
goes_on bytes s from at text places h on there other =
    let before : from < at = h.inside on in
    let next : items_behind (name_read s bytes from at) (drop at bytes) ≡
    items_behind (name_read s bytes from (at + 1)) (drop (at + 1) bytes) =
    ap (λ b. items_behind (name_read b bytes from at) (drop at bytes)) on ∙ name_more bytes from at before there other
    ∙ ap (λ b. items_behind (name_read b bytes from (at + 1)) (drop (at + 1) bytes)) (sym on) in
    record {
      text_so_far = ap (λ items. text ++ display_text items) (sym next) ∙ h.text_so_far;
      places_so_far = ap (λ items. places ++ spread from items) (sym next) ∙ h.places_so_far;
      same_length = h.same_length;
      outside = λ off. cc;
      inside = λ _. omega arith;
    }

pub begins : (bytes : List ℕ) (s : Bool) (from at : ℕ) (text : List ℕ) (places : List Stretch)
    → ReadTo bytes s from at text places → s ≡ false → at < length bytes → get_or bytes at 0 ≡ 60
    → ReadTo bytes true from (at + 1) text places
begins bytes s from at text places h off there is =
    let here : from ≡ at = h.outside off in
    let next : items_behind (name_read s bytes from at) (drop at bytes) ≡
    items_behind (name_read true bytes from (at + 1)) (drop (at + 1) bytes) =
    ap (λ b. items_behind (name_read b bytes from at) (drop at bytes)) off ∙ name_begins bytes at there is
    ∙ ap (λ n. items_behind (Some (slice_range bytes (n + 1) (at + 1))) (drop (at + 1) bytes)) (sym here) in
    record {
      text_so_far = ap (λ items. text ++ display_text items) (sym next) ∙ h.text_so_far;
      places_so_far = ap (λ items. places ++ spread from items) (sym next) ∙ h.places_so_far;
      same_length = h.same_length;
      outside = λ on. cc;
      inside = λ _. omega arith;
    }

-- the bytes of a name, and its end
name_passes : (front name rest : List ℕ) → AllByRecursion (λ b. is_name_byte b ≡ true) name
    → items_behind (Some front) (name ++ 62 ∷ rest) ≡ symbol (front ++ name) ∷ items_behind None rest
name_passes front [] rest h = ap (λ n. symbol n ∷ items_behind None rest) (sym (append-nil front))
name_passes front (b ∷ name) rest h =
    let part = h.0 in
    let other : (b == 62) ≡ false = grind (arith, nat_tests) in
    ap
    (λ t. cond t (symbol front ∷ items_behind None (name ++ 62 ∷ rest))
    (items_behind (Some (front ++ b ∷ [])) (name ++ 62 ∷ rest))) other
    ∙ name_passes (front ++ b ∷ []) name rest h.1
    ∙ ap (λ n. symbol n ∷ items_behind None rest) (append_assoc front (b ∷ []) name)

-- the bytes of items are read as these items
pub items_again : (items : List Item) → AllByRecursion IsItem items → items_of (flat_map item_bytes items) ≡ items
items_again [] h = refl
items_again (byte b ∷ items) h =
    let part = h.0 in
    let other : (b == 60) ≡ false = grind (arith, nat_tests) in
    ap
    (λ t. cond t (items_behind (Some []) (flat_map item_bytes items))
    (byte b ∷ items_of (flat_map item_bytes items))) other
    ∙ ap (λ l. byte b ∷ l) (items_again items h.1)
items_again (symbol name ∷ items) h =
    ap (items_behind (Some [])) (append_assoc name (62 ∷ []) (flat_map item_bytes items))
    ∙ name_passes [] name (flat_map item_bytes items) h.0.each ∙ ap (λ l. symbol name ∷ l) (items_again items h.1)
