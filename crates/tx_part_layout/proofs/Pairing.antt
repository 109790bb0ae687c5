-- The names and texts of a `with`, one pair more.
use Rattle.std.proofs.Common.{◌≡◌, ℕ, suc, ◌+◌, ◌*◌, ◌<◌, ◌≤◌, ◌/◌, ◌-◌, List, [], ◌∷◌, ◌++◌, length, take, get_or}
use Rattle.std.proofs.Common.{refl, ap, sym, ◌∙◌, arith}
use Rattle.std.proofs.lemmas.List.{take_more, take_all}
use Rattle.std.proofs.lemmas.Option.{slice_get-get_or}
use Rattle.std.specs.Prelude.{Some, None, slice_get}
use Rattle.tx_tree.specs.WideTree.{WideTree, leaf}
use Rattle.tx_parts.specs.Openness.{Settings as TextSettings, settings_in}
use Rattle.tx_walk.proofs.Texts.{text_same, laid_is, setting_at, SettingAt, settings_count, inner_at}
use Rattle.tx_part_layout.proofs.Reusing.{some_same}

pub pair_more : (ps : TextSettings) (b : WideTree) (ts : List WideTree) → settings_in ts ≡ Some (ps, b) → (i : ℕ) →
    i < length ps → (name words : List ℕ) → slice_get ts (2 * i) ≡ Some (leaf name) →
    slice_get ts (2 * i + 1) ≡ Some (leaf words) → take (i + 1) ps ≡ take i ps ++ (name, words) ∷ []
pair_more ps b ts h i few name words is_name is_words =
    let at : SettingAt ps b i = setting_at ps b i few in
    let first : name ≡ at.setting.0 =
    text_same name at.setting.0 (slice_get ts (2 * i)) is_name
    (ap (λ us. slice_get us (2 * i)) (laid_is ts (ps, b) h) ∙ at.name (2 * i) refl) in
    let second : words ≡ at.setting.1 =
    text_same words at.setting.1 (slice_get ts (2 * i + 1)) is_words
    (ap (λ us. slice_get us (2 * i + 1)) (laid_is ts (ps, b) h) ∙ at.words (2 * i + 1) refl) in
    let there : get_or ps i at.setting ≡ at.setting =
    some_same (get_or ps i at.setting) at.setting (sym (slice_get-get_or ps i at.setting few) ∙ at.there) in
    take_more ps i at.setting few
    ∙ ap (λ p. take i ps ++ p ∷ []) there
    ∙ ap (λ x. take i ps ++ (x, at.setting.1) ∷ []) (sym first)
    ∙ ap (λ y. take i ps ++ (name, y) ∷ []) (sym second)

pub all_pairs : (ps : TextSettings) (i n m : ℕ) → n / 2 ≤ i → n ≡ m → m ≡ suc (2 * length ps) → take i ps ≡ ps
all_pairs ps i n m h e f = take_all i ps (omega (arith, h, e, f))

-- the pairs so far with one more
pub pairs_next : (ps qs rs : TextSettings) (b : WideTree) (ts : List WideTree) → settings_in ts ≡ Some (ps, b) →
    (i : ℕ) → i < length ps → (name words x y : List ℕ) → slice_get ts (2 * i) ≡ Some (leaf name) →
    slice_get ts (2 * i + 1) ≡ Some (leaf words) → x ≡ name → y ≡ words → qs ≡ take i ps → rs ≡ qs ++ (x, y) ∷ [] →
    rs ≡ take (i + 1) ps
pairs_next ps qs rs b ts h i few name words x y is_name is_words e f so_far pushed =
    pushed ∙ ap (λ us. us ++ (x, y) ∷ []) so_far ∙ ap (λ z. take i ps ++ (z, y) ∷ []) e
    ∙ ap (λ z. take i ps ++ (name, z) ∷ []) f ∙ sym (pair_more ps b ts h i few name words is_name is_words)

-- ---- the last child

pub inner_is : (ps : TextSettings) (b t : WideTree) (ts : List WideTree) (i n : ℕ) → settings_in ts ≡ Some (ps, b) →
    i ≡ n - 1 → n ≡ length ts → slice_get ts i ≡ Some t → t ≡ b
inner_is ps b t ts i n h e f at =
    some_same t b (sym at ∙ inner_at ts ps b i h (omega (arith, e, f, settings_count ts ps b h)))

pub no_inner : (ps : TextSettings) (b : WideTree) (ts : List WideTree) (i n : ℕ) → settings_in ts ≡ Some (ps, b) →
    i ≡ n - 1 → n ≡ length ts → slice_get ts i ≡ None → ⊥
no_inner ps b ts i n h e f at =
    some_not b (sym (inner_at ts ps b i h (omega (arith, e, f, settings_count ts ps b h))) ∙ at)
  where
    some_not : (u : WideTree) → Some u ≡ None → ⊥
    some_not u g = cc

pub some_child : (ps : TextSettings) (b : WideTree) (ts : List WideTree) (n : ℕ) → settings_in ts ≡ Some (ps, b) →
    n ≡ length ts → n ≡ 0 → ⊥
some_child ps b ts n h f e = omega (arith, e, f, settings_count ts ps b h)
