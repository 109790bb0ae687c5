-- How a tree is gone into.
use Rattle.std.proofs.Common.{◌≡◌, ℕ, zero, suc, ◌+◌, ◌-◌, ◌%◌, ◌/◌, List, [], ◌∷◌, length, take, refl}
use Rattle.std.proofs.Common.{ap, sym, ◌∙◌}
use Rattle.std.proofs.Common.{arith}
use Rattle.std.specs.Prelude.{Bool, true, false, is_some, Option, Some, None, codes, if◌then◌else◌}
use Rattle.std.specs.List.{list_all}
use Rattle.std.specs.Str.{bytes_eq}
use Rattle.tx_tree.specs.WideTree.{WideTree, leaf, node, trees, text_of, label_of, children_of}
use Rattle.tx_parts.specs.Openness.{Settings, With, Shut, settings_in, and_setting, with_openness, document_openness}
use Rattle.tx_parts.specs.Openness.{openness}

abbrev is_text : WideTree → Bool
is_text t = is_some (text_of t)

some_with : (x words : List ℕ) (o : Option (Settings × WideTree)) → is_some (and_setting x words o) ≡ is_some o
some_with x words None = refl
some_with x words (Some p) = refl

-- an even number of children
pub settings_even : (ts : List WideTree) (n : ℕ) → length ts ≡ n + n → is_some (settings_in ts) ≡ false
settings_even [] n h = refl
settings_even (b ∷ []) n h = absurd (omega (arith, h))
settings_even (leaf x ∷ leaf words ∷ ts) zero h = absurd (omega (arith, h))
settings_even (leaf x ∷ leaf words ∷ ts) (suc n) h =
    some_with x words (settings_in ts) ∙ settings_even ts n (omega (arith, h))
settings_even (leaf x ∷ node l us ∷ ts) n h = refl
settings_even (node l us ∷ t ∷ ts) n h = refl

-- an odd number
pub settings_odd : (ts : List WideTree) (n : ℕ) → length ts ≡ suc (n + n) →
    list_all is_text (take (n + n) ts) ≡ is_some (settings_in ts)
settings_odd [] n h = absurd (omega (arith, h))
settings_odd (b ∷ []) zero h = refl
settings_odd (b ∷ []) (suc n) h = absurd (omega (arith, h))
settings_odd (leaf x ∷ leaf words ∷ ts) zero h = absurd (omega (arith, h))
settings_odd (leaf x ∷ leaf words ∷ ts) (suc n) h =
    let two : suc n + suc n ≡ suc (suc (n + n)) = omega arith in
    ap (λ m. list_all is_text (take m (leaf x ∷ leaf words ∷ ts))) two
    ∙ settings_odd ts n (omega (arith, h)) ∙ sym (some_with x words (settings_in ts))
settings_odd (leaf x ∷ node l us ∷ ts) zero h = absurd (omega (arith, h))
settings_odd (leaf x ∷ node l us ∷ ts) (suc n) h =
    let two : suc n + suc n ≡ suc (suc (n + n)) = omega arith in
    ap (λ m. list_all is_text (take m (leaf x ∷ node l us ∷ ts))) two
settings_odd (node l us ∷ t ∷ ts) zero h = absurd (omega (arith, h))
settings_odd (node l us ∷ t ∷ ts) (suc n) h =
    let two : suc n + suc n ≡ suc (suc (n + n)) = omega arith in
    ap (λ m. list_all is_text (take m (node l us ∷ t ∷ ts))) two

pub even_none : (ts : List WideTree) → length ts % 2 ≡ 0 → false ≡ is_some (settings_in ts)
even_none ts h = sym (settings_even ts (length ts / 2) (omega (arith, h)))

pub odd_some : (ts : List WideTree) (m : ℕ) (r : Bool) → (length ts % 2 ≡ 0 → ⊥) → m ≡ length ts - 1 →
    r ≡ list_all is_text (take m ts) → r ≡ is_some (settings_in ts)
odd_some ts m r h less is =
    let count : length ts ≡ suc (length ts / 2 + length ts / 2) = omega (arith, h) in
    let half : m ≡ length ts / 2 + length ts / 2 = omega (arith, less, count) in
    is ∙ ap (λ n. list_all is_text (take n ts)) half ∙ settings_odd ts (length ts / 2) count

settings_there : (o : Option (Settings × WideTree)) → true ≡ is_some o →
    (p : Settings) × (b : WideTree) × (with_openness o ≡ With p b)
settings_there None h = cc
settings_there (Some p) h = (p.0, p.1, refl)

-- a `with` of names and texts, and a last child
pub with_opens : (t : WideTree) (l : List ℕ) → label_of t ≡ Some l → bytes_eq l (codes "document") ≡ false →
    bytes_eq l (codes "with") ≡ true → true ≡ is_some (settings_in (children_of t)) →
    (p : Settings) × (b : WideTree) × (openness t ≡ With p b)
with_opens (leaf words) l is other named some = cc
with_opens (node m ts) l is other named some =
    let same : m ≡ l = cc in
    let opened = settings_there (settings_in (trees ts)) some in (
      opened.0,
      opened.1,
      ap (λ b. if b then document_openness (trees ts) else
          if bytes_eq m (codes "with") then with_openness (settings_in (trees ts)) else Shut)
          (ap (λ n. bytes_eq n (codes "document")) same ∙ other)
          ∙ ap (λ b. if b then with_openness (settings_in (trees ts)) else Shut)
          (ap (λ n. bytes_eq n (codes "with")) same ∙ named)
          ∙ opened.2,
    )
