-- A path and an offset are a place of a tree or have one fault.
use Rattle.std.proofs.Common.{◌≡◌, ℕ, ◌<◌, ◌≤◌, Bool, true, false, ◌&&◌, List, [], ◌∷◌, ◌++◌, length, Option, Some}
use Rattle.std.proofs.Common.{None, refl, sym, ap, ◌∙◌, arith, ◌⊎◌, inl, inr, ⊎_elim}
use Rattle.std.specs.Prelude.{IsSomeAnd, MatchOption}
use Rattle.std.specs.List.{AllByRecursion}
use Rattle.std.proofs.lemmas.Bool.{cases_lt, and_from, and_parts}
use Rattle.std.proofs.lemmas.List.Concat.{flat_map-append}
use Rattle.tx_tree.specs.declared.faults.PlaceFault.{PlaceFault}
use Rattle.tx_tree.specs.declared.faults.PlaceFault.TheVariants.{NoPath, BadPlace, CutsSymbol}
use Rattle.tx_tree.specs.Texts.{Item, IsItem, item_bytes, IsText, IsCut}
use Rattle.tx_tree.specs.TextScan.{is_text}
use Rattle.tx_tree.specs.Cuts.{is_cut}
use Rattle.tx_tree.specs.WideTree.{WideTree, leaf, node}
use Rattle.tx_tree.specs.Paths.{subtree, leading}
use Rattle.tx_tree.specs.Places.{IsOffset, IsOffsetFault, IsPlace, IsPlaceFault}
use Rattle.tx_tree.proofs.Scanning.{text_test, text_tested}
use Rattle.tx_tree.proofs.Cutting.{cut_within, cut_test, cut_tested}

-- ---- offsets

offset_fault_once : (s : WideTree) (o : ℕ) (f g : PlaceFault) → IsOffsetFault s o f → IsOffsetFault s o g → f ≡ g
offset_fault_once s o (NoPath n) g h k = absurd h
offset_fault_once s o (BadPlace n) (NoPath m) h k = absurd k
offset_fault_once s o (BadPlace n) (BadPlace m) h k = ap (λ n. BadPlace n) (h.1 ∙ sym k.1)
offset_fault_once (leaf text) o (BadPlace n) (CutsSymbol m) h k = absurd (omega (arith, h.0, k.0))
offset_fault_once (node label ts) o (BadPlace n) (CutsSymbol m) h k = absurd k
offset_fault_once s o (CutsSymbol n) (NoPath m) h k = absurd k
offset_fault_once (leaf text) o (CutsSymbol n) (BadPlace m) h k = absurd (omega (arith, h.0, k.0))
offset_fault_once (node label ts) o (CutsSymbol n) (BadPlace m) h k = absurd h
offset_fault_once (leaf text) o (CutsSymbol n) (CutsSymbol m) h k = ap (λ n. CutsSymbol n) (h.2 ∙ sym k.2)
offset_fault_once (node label ts) o (CutsSymbol n) (CutsSymbol m) h k = absurd h

offset_has_no_fault : (s : WideTree) (o : ℕ) (f : PlaceFault) → IsOffset s o → IsOffsetFault s o f → ⊥
offset_has_no_fault s o (NoPath n) h k = k
offset_has_no_fault (leaf text) o (BadPlace n) h k = omega (arith, cut_within text o h, k.0)
offset_has_no_fault (node label ts) o (BadPlace n) h k = omega (arith, h, k.0)
offset_has_no_fault (leaf text) o (CutsSymbol n) h k = k.1 h
offset_has_no_fault (node label ts) o (CutsSymbol n) h k = k

pub items_append : (x y : List Item) → AllByRecursion IsItem x → AllByRecursion IsItem y
    → AllByRecursion IsItem (x ++ y)
items_append [] y h k = k
items_append (i ∷ x) y h k = (h.0, items_append x y h.1 k)

-- what has a cut is a text
pub cut_of_text : (bytes : List ℕ) (n : ℕ) → IsCut bytes n → IsText bytes
cut_of_text bytes n h = (h.0 ++ h.1, items_append h.0 h.1 h.2 h.3, h.4 ∙ sym (flat_map-append item_bytes h.0 h.1))

cut_or_not : (bytes : List ℕ) (n : ℕ) → IsCut bytes n ⊎ (IsCut bytes n → ⊥)
cut_or_not bytes n = by_test (is_text bytes && is_cut bytes n) refl
  where
    by_test : (c : Bool) → (is_text bytes && is_cut bytes n) ≡ c → IsCut bytes n ⊎ (IsCut bytes n → ⊥)
    by_test true e = let parts = and_parts (is_text bytes) (is_cut bytes n) e in
        inl (cut_test bytes n (text_test bytes parts.0) parts.1)
    by_test false e =
        inr (λ h. let both = and_from (is_text bytes) (is_cut bytes n) (text_tested bytes (cut_of_text bytes n h))
        (cut_tested bytes n h) in absurd cc)

offset_or_fault : (s : WideTree) (o : ℕ) → IsOffset s o ⊎ ((fault : PlaceFault) × IsOffsetFault s o fault)
offset_or_fault (leaf text) o =
    ⊎_elim
    (λ (past : length text < o). inr (BadPlace (length text), (past, refl)))
    (λ (within : o ≤ length text). ⊎_elim
    (λ (cut : IsCut text o). inl cut)
    (λ (none : IsCut text o → ⊥). inr (CutsSymbol o, (within, none, refl)))
    (cut_or_not text o))
    (cases_lt (length text) o)
offset_or_fault (node label ts) o =
    ⊎_elim (λ (past : 1 < o). inr (BadPlace 1, (past, refl))) (λ (within : o ≤ 1). inl within) (cases_lt 1 o)

-- ---- places

pub place_fault_once : (t : WideTree) (p : List ℕ) (o : ℕ) (f g : PlaceFault) → IsPlaceFault t p o f
    → IsPlaceFault t p o g → f ≡ g
place_fault_once t p o f g h k = by_subtree (subtree t p) h k
  where
    by_subtree : (u : Option WideTree) → MatchOption u (f ≡ NoPath (leading t p)) (λ s. IsOffsetFault s o f)
        → MatchOption u (g ≡ NoPath (leading t p)) (λ s. IsOffsetFault s o g) → f ≡ g
    by_subtree None h k = h ∙ sym k
    by_subtree (Some s) h k = offset_fault_once s o f g h k

pub place_has_no_fault : (t : WideTree) (p : List ℕ) (o : ℕ) (f : PlaceFault) → IsPlace t p o → IsPlaceFault t p o f → ⊥
place_has_no_fault t p o f h k = by_subtree (subtree t p) h k
  where
    by_subtree : (u : Option WideTree) → IsSomeAnd u (λ s. IsOffset s o)
        → MatchOption u (f ≡ NoPath (leading t p)) (λ s. IsOffsetFault s o f) → ⊥
    by_subtree None h k = h
    by_subtree (Some s) h k = offset_has_no_fault s o f h k

pub place_or_fault : (t : WideTree) (p : List ℕ) (o : ℕ)
    → IsPlace t p o ⊎ ((fault : PlaceFault) × IsPlaceFault t p o fault)
place_or_fault t p o = by_subtree (subtree t p)
  where
    by_subtree : (u : Option WideTree) → IsSomeAnd u (λ s. IsOffset s o)
        ⊎ ((fault : PlaceFault) × MatchOption u (fault ≡ NoPath (leading t p)) (λ s. IsOffsetFault s o fault))
    by_subtree None = inr (NoPath (leading t p), refl)
    by_subtree (Some s) = offset_or_fault s o
