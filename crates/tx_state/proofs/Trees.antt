-- Buffers with one tree in place of another.
use Rattle.std.proofs.Common.{◌≡◌, ℕ, zero, suc, ◌<◌, List, [], ◌∷◌, length, set, Some, refl, sym, ap, subst, ◌∙◌}
use Rattle.std.proofs.Common.{arith}
use Rattle.std.specs.Prelude.{slice_get, slice_set, ◌≢◌}
use Rattle.std.specs.List.{AllByRecursion}
use Rattle.std.specs.Option.{option_map_or}
use Rattle.tx_tree.specs.WideTree.{WideTree, leaf}
use Rattle.tx_mod.proofs.Lists.{get_of_set, set_to_same}
use Rattle.tx_doc.specs.declared.buffer.Buffer.{Buffer}
use Rattle.tx_doc.specs.Buffers.{tree_of, with_tree, document_of, NamesDiffer}

pub buffer_at : (bs : List Buffer) (k : ℕ) → k < length bs → (b : Buffer) × (slice_get bs k ≡ Some b)
buffer_at [] k lt = absurd (omega arith)
buffer_at (b ∷ bs) zero lt = (b, refl)
buffer_at (b ∷ bs) (suc k) lt = buffer_at bs k (omega arith)

pub tree_at : (bs : List Buffer) (k : ℕ) (b : Buffer) → slice_get bs k ≡ Some b → tree_of bs k ≡ b.tree
tree_at bs k b e = ap (λ o. option_map_or (λ b. b.tree) o (leaf [])) e

pub put_at : (bs : List Buffer) (k : ℕ) (b : Buffer) (u : WideTree) → slice_get bs k ≡ Some b
    → with_tree bs k u ≡ set bs k (record { name = b.name; tree = u })
put_at bs k b u e = ap (λ o. option_map_or (λ b. slice_set bs k (record { name = b.name; tree = u })) o bs) e

set_again : (bs : List Buffer) (k : ℕ) (b c : Buffer) → set (set bs k b) k c ≡ set bs k c
set_again [] k b c = refl
set_again (a ∷ bs) zero b c = refl
set_again (a ∷ bs) (suc k) b c = ap (λ z. a ∷ z) (set_again bs k b c)

length_set : (bs : List Buffer) (k : ℕ) (b : Buffer) → length (set bs k b) ≡ length bs
length_set [] k b = refl
length_set (a ∷ bs) zero b = refl
length_set (a ∷ bs) (suc k) b = ap suc (length_set bs k b)

-- what is there, and what else is there, after a tree is put in
pub tree_put : (bs : List Buffer) (k : ℕ) (u : WideTree) → k < length bs → tree_of (with_tree bs k u) k ≡ u
tree_put bs k u lt =
    let found = buffer_at bs k lt in
    ap (λ cs. tree_of cs k) (put_at bs k found.0 u found.1)
    ∙ tree_at (set bs k (record { name = found.0.name; tree = u })) k (record { name = found.0.name; tree = u })
    (get_of_set bs k found.0 (record { name = found.0.name; tree = u }) found.1)

pub length_put : (bs : List Buffer) (k : ℕ) (u : WideTree) → k < length bs → length (with_tree bs k u) ≡ length bs
length_put bs k u lt =
    let found = buffer_at bs k lt in
    ap length (put_at bs k found.0 u found.1) ∙ length_set bs k (record { name = found.0.name; tree = u })

-- the tree is put back
pub put_back : (bs : List Buffer) (k : ℕ) (u : WideTree) → k < length bs
    → with_tree (with_tree bs k u) k (tree_of bs k) ≡ bs
put_back bs k u lt =
    let found = buffer_at bs k lt in
    let b : Buffer = found.0 in
    let put : with_tree bs k u ≡ set bs k (record { name = b.name; tree = u }) = put_at bs k b u found.1 in
    let there : slice_get (set bs k (record { name = b.name; tree = u })) k ≡ Some
    (record { name = b.name; tree = u }) = get_of_set bs k b (record { name = b.name; tree = u }) found.1 in
    ap (λ cs. with_tree cs k (tree_of bs k)) put
    ∙ ap (λ t. with_tree (set bs k (record { name = b.name; tree = u })) k t) (tree_at bs k b found.1)
    ∙ put_at (set bs k (record { name = b.name; tree = u })) k (record { name = b.name; tree = u }) b.tree there
    ∙ set_again bs k (record { name = b.name; tree = u }) b
    ∙ set_to_same bs k b found.1

-- the tree of another buffer is unchanged
get_other : (bs : List Buffer) (k : ℕ) (b : Buffer) → slice_get (set bs (suc k) b) 0 ≡ slice_get bs 0
get_other [] k b = refl
get_other (a ∷ bs) k b = refl

pub document_kept : (bs : List Buffer) (k : ℕ) (u : WideTree) → 0 < k → k < length bs
    → document_of (with_tree bs k u) ≡ document_of bs
document_kept bs zero u some lt = absurd (omega arith)
document_kept bs (suc k) u some lt =
    let found = buffer_at bs (suc k) lt in
    ap document_of (put_at bs (suc k) found.0 u found.1)
    ∙ ap (λ o. option_map_or (λ b. b.tree) o (leaf [])) (get_other bs k (record { name = found.0.name; tree = u }))

-- ---- names

abbrev with_same_name : Buffer → WideTree → Buffer
with_same_name b u = record { name = b.name; tree = u }

differ_put : (n : List ℕ) (bs : List Buffer) (k : ℕ) (b : Buffer) (u : WideTree) → slice_get bs k ≡ Some b
    → AllByRecursion (λ o. o.name ≢ n) bs
    → AllByRecursion (λ o. o.name ≢ n) (set bs k (with_same_name b u))
differ_put n [] k b u e h = absurd (cc)
differ_put n (a ∷ bs) zero b u e h = let same : a ≡ b = cc in (subst (λ x. x.name ≢ n) same h.0, h.1)
differ_put n (a ∷ bs) (suc k) b u e h = (h.0, differ_put n bs k b u e h.1)

names_set : (bs : List Buffer) (k : ℕ) (b : Buffer) (u : WideTree) → slice_get bs k ≡ Some b → NamesDiffer bs
    → NamesDiffer (set bs k (with_same_name b u))
names_set [] k b u e h = absurd (cc)
names_set (a ∷ bs) zero b u e h = let same : a ≡ b =
    cc in (subst (λ x. AllByRecursion (λ o. o.name ≢ x.name) bs) same h.0, h.1)
names_set (a ∷ bs) (suc k) b u e h = (differ_put a.name bs k b u e h.0, names_set bs k b u e h.1)

pub names_put : (bs : List Buffer) (k : ℕ) (u : WideTree) → k < length bs → NamesDiffer bs
    → NamesDiffer (with_tree bs k u)
names_put bs k u lt h =
    let found = buffer_at bs k lt in
    subst NamesDiffer (sym (put_at bs k found.0 u found.1)) (names_set bs k found.0 u found.1 h)
