-- How long paths, texts and their strings are.
use Rattle.std.proofs.Common.{ℕ, ◌+◌, ◌*◌, ◌≤◌, List, [], ◌∷◌, length, inl, inr, sym, ap, subst}
use Rattle.std.proofs.Common.{arith, length-append}
use Rattle.std.specs.Prelude.{cond, ◌==◌, ◌||◌}
use Rattle.std.specs.List.{AllByRecursion, flat_map}
use Rattle.std.proofs.lemmas.Bool.{cases_Bool}
use Rattle.tx_tree.specs.Texts.{Item, byte, symbol, IsItem, item_bytes}
use Rattle.tx_tree.specs.PathSpelling.{AreNumbers, SpellsPath}
use Rattle.tx_scm.specs.Spelling.{escaped, string_of}

numbers_short : (path bytes : List ℕ) → AreNumbers bytes path → length bytes ≤ 11 * length path
numbers_short [] bytes h = omega (arith, ap length h)
numbers_short (n ∷ path) bytes h =
    omega (arith, ap length h.3, length-append h.0 h.1, h.2.short, numbers_short path h.1 h.4)

-- a path of at most 400 numbers of at most 10 digits
pub path_short : (bytes path : List ℕ) → SpellsPath bytes path → length bytes ≤ 4400
path_short bytes [] h = omega (arith, ap length h)
path_short bytes (n ∷ path) h = omega (arith, numbers_short (n ∷ path) bytes h.0, h.1)

escaped_short : (b : ℕ) → length (escaped b) ≤ 2
escaped_short b =
    elim (cases_Bool (b == 34 || b == 92)) [
      | inl is ↦ subst (λ t. length (cond t (92 ∷ b ∷ []) (b ∷ [])) ≤ 2) (sym is) (omega arith)
      | inr other ↦ subst (λ t. length (cond t (92 ∷ b ∷ []) (b ∷ [])) ≤ 2) (sym other) (omega arith)
    ]

all_escaped : (text : List ℕ) → length (flat_map escaped text) ≤ 2 * length text
all_escaped [] = omega arith
all_escaped (b ∷ text) =
    omega (arith, length-append (escaped b) (flat_map escaped text), escaped_short b, all_escaped text)

pub string_short : (text : List ℕ) → length (string_of text) ≤ 2 + 2 * length text
string_short text = omega (arith, length-append (flat_map escaped text) (34 ∷ []), all_escaped text)

pub item_short : (item : Item) → IsItem item → length (item_bytes item) ≤ 257
item_short (byte b) h = omega arith
item_short (symbol name) h = omega (arith, length-append name (62 ∷ []), h.short)

pub items_short : (items : List Item) → AllByRecursion IsItem items
    → length (flat_map item_bytes items) ≤ 257 * length items
items_short [] h = omega arith
items_short (item ∷ items) h =
    omega (
      arith,
      length-append (item_bytes item) (flat_map item_bytes items),
      item_short item h.0,
      items_short items h.1,
    )
