-- Attributes that the test finds to be the same are.
use Rattle.std.proofs.Common.{◌≡◌, ℕ, List, true, ℤ, ap, ◌∙◌}
use Rattle.std.specs.Ordering.{int_eq}
use Rattle.std.specs.Str.{bytes_eq}
use Rattle.std.proofs.lemmas.Bool.Decides.{Decides-int_eq}
use Rattle.std.proofs.lemmas.Slice.Eq.{bytes_eq-Decides}
use Rattle.tx_items.specs.declared.attributes.Attrs.{Attrs}
use Rattle.std.proofs.lemmas.Bool.{and_parts}
use Rattle.tx_part_layout.specs.LaidParts.{same_attrs}

abbrev attrs_with : List ℕ → List ℕ → List ℕ → List ℕ → ℤ → ℤ → ℤ → Attrs
attrs_with s h c m l r f =
    record { series = s; shape = h; color = c; mode = m; left = l; right = r; first = f }

same_texts : (s t h i c d m n : List ℕ) (l r f : ℤ) → s ≡ t → h ≡ i → c ≡ d → m ≡ n
    → attrs_with s h c m l r f ≡ attrs_with t i d n l r f
same_texts s t h i c d m n l r f p q u v =
    ap (λ x. attrs_with x h c m l r f) p ∙ ap (λ x. attrs_with t x c m l r f) q
    ∙ ap (λ x. attrs_with t i x m l r f) u ∙ ap (λ x. attrs_with t i d x l r f) v

same_lengths : (s h c m : List ℕ) (l k r q f g : ℤ) → l ≡ k → r ≡ q → f ≡ g
    → attrs_with s h c m l r f ≡ attrs_with s h c m k q g
same_lengths s h c m l k r q f g p u v =
    ap (λ x. attrs_with s h c m x r f) p ∙ ap (λ x. attrs_with s h c m k x f) u ∙ ap (attrs_with s h c m k q) v

pub attrs_are : (a b : Attrs) → same_attrs a b ≡ true → a ≡ b
attrs_are a b e =
    let seven = and_parts _ (bytes_eq a.mode b.mode) e in
    let six = and_parts _ (bytes_eq a.color b.color) seven.0 in
    let five = and_parts _ (bytes_eq a.shape b.shape) six.0 in
    let four = and_parts _ (bytes_eq a.series b.series) five.0 in
    let three = and_parts _ (int_eq a.first b.first) four.0 in
    let two = and_parts (int_eq a.left b.left) (int_eq a.right b.right) three.0 in
    same_texts a.series b.series a.shape b.shape a.color b.color a.mode b.mode a.left a.right a.first
    ((bytes_eq-Decides a.series b.series).0 four.1) ((bytes_eq-Decides a.shape b.shape).0 five.1)
    ((bytes_eq-Decides a.color b.color).0 six.1) ((bytes_eq-Decides a.mode b.mode).0 seven.1)
    ∙ same_lengths b.series b.shape b.color b.mode a.left b.left a.right b.right a.first b.first
    ((Decides-int_eq a.left b.left).0 two.0) ((Decides-int_eq a.right b.right).0 two.1)
    ((Decides-int_eq a.first b.first).0 three.1)
