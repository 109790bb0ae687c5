-- The names and texts of a `with`, one by one.
use Rattle.std.proofs.Common.{◌≡◌, ℕ, zero, suc, ◌+◌, ◌*◌, ◌/◌, ◌<◌, ◌≤◌, List, [], ◌∷◌, ◌++◌, map, length}
use Rattle.std.proofs.Common.{take, refl}
use Rattle.std.proofs.Common.{ap, sym, ◌∙◌, arith}
use Rattle.std.proofs.lemmas.List.{map-append, take_all}
use Rattle.std.specs.Prelude.{Option, Some, slice_get}
use Rattle.tx_tree.specs.WideTree.{WideTree, leaf, node}
use Rattle.tx_origin.specs.Values.{text}
use Rattle.tx_origin.specs.Under.{value_under}
use Rattle.tx_parts.specs.Openness.{Settings as TextSettings, settings_in}
use Rattle.tx_parts.specs.Composed.{settings_cost, setting_values}
use Rattle.tx_parts.proofs.Settings.{Behind, behind_first}
use Rattle.tx_replay.specs.declared.settings.Settings.{Settings}
use Rattle.tx_replay.specs.Descent.{pairs_of, AreSettings}

-- names and texts in turn, and a last child
abbrev pub laid : TextSettings → WideTree → List WideTree
laid [] b = b ∷ []
laid (p ∷ ps) b = leaf p.0 ∷ leaf p.1 ∷ laid ps b

pub laid_is : (ts : List WideTree) (p : TextSettings × WideTree) → settings_in ts ≡ Some p → ts ≡ laid p.0 p.1
laid_is [] p h = cc
laid_is (t ∷ []) p h = let same : ([], t) ≡ p = cc in ap (λ (q : TextSettings × WideTree). laid q.0 q.1) same
laid_is (leaf x ∷ leaf words ∷ ts) p h =
    (λ (q : Behind x words (settings_in ts) p). ap (λ us. leaf x ∷ leaf words ∷ us) (laid_is ts q.others q.found)
    ∙ ap (λ (r : TextSettings × WideTree). laid r.0 r.1) q.is)
    (behind_first x words (settings_in ts) p h)
laid_is (leaf x ∷ node l us ∷ ts) p h = cc
laid_is (node l us ∷ t ∷ ts) p h = cc

pub laid_count : (ps : TextSettings) (b : WideTree) → length (laid ps b) ≡ suc (2 * length ps)
laid_count [] b = refl
laid_count (p ∷ ps) b = omega (arith, laid_count ps b)

pub laid_inner : (ps : TextSettings) (b : WideTree) (i : ℕ) → i ≡ 2 * length ps → slice_get (laid ps b) i ≡ Some b
laid_inner [] b zero h = refl
laid_inner [] b (suc i) h = absurd (omega (arith, h))
laid_inner (p ∷ ps) b zero h = absurd (omega (arith, h))
laid_inner (p ∷ ps) b (suc zero) h = absurd (omega (arith, h))
laid_inner (p ∷ ps) b (suc (suc i)) h = laid_inner ps b i (omega (arith, h))

-- the setting of number i
pub record SettingAt (ps : TextSettings) (b : WideTree) (i : ℕ) : Type 0 where
  pub setting : List ℕ × List ℕ
  pub there : slice_get ps i ≡ Some setting
  pub name : (n : ℕ) → n ≡ 2 * i → slice_get (laid ps b) n ≡ Some (leaf setting.0)
  pub words : (n : ℕ) → n ≡ 2 * i + 1 → slice_get (laid ps b) n ≡ Some (leaf setting.1)

pub setting_at : (ps : TextSettings) (b : WideTree) (i : ℕ) → i < length ps → SettingAt ps b i
setting_at [] b i h = absurd (omega (arith, h))
setting_at (p ∷ ps) b zero h = record { setting = p; there = refl; name = first; words = second }
  where
    first : (n : ℕ) → n ≡ 2 * 0 → slice_get (laid (p ∷ ps) b) n ≡ Some (leaf p.0)
    first zero e = refl
    first (suc n) e = absurd (omega (arith, e))

    second : (n : ℕ) → n ≡ 2 * 0 + 1 → slice_get (laid (p ∷ ps) b) n ≡ Some (leaf p.1)
    second zero e = absurd (omega (arith, e))
    second (suc zero) e = refl
    second (suc (suc n)) e = absurd (omega (arith, e))
setting_at (p ∷ ps) b (suc i) h = further (setting_at ps b i (omega (arith, h)))
  where
    further : SettingAt ps b i → SettingAt (p ∷ ps) b (suc i)
    further s = record { setting = s.setting; there = s.there; name = first; words = second }
      where
        first : (n : ℕ) → n ≡ 2 * suc i → slice_get (laid (p ∷ ps) b) n ≡ Some (leaf s.setting.0)
        first zero e = absurd (omega (arith, e))
        first (suc zero) e = absurd (omega (arith, e))
        first (suc (suc n)) e = s.name n (omega (arith, e))

        second : (n : ℕ) → n ≡ 2 * suc i + 1 → slice_get (laid (p ∷ ps) b) n ≡ Some (leaf s.setting.1)
        second zero e = absurd (omega (arith, e))
        second (suc zero) e = absurd (omega (arith, e))
        second (suc (suc n)) e = s.words n (omega (arith, e))

take_one : {X : Type 0} (xs : List X) (i m : ℕ) (x : X) → m ≡ suc i → slice_get xs i ≡ Some x →
    take m xs ≡ take i xs ++ x ∷ []
take_one [] i m x e h = cc
take_one (y ∷ xs) i zero x e h = absurd (omega (arith, e))
take_one (y ∷ xs) zero (suc zero) x e h = let same : y ≡ x = cc in ap (λ z. z ∷ []) same
take_one (y ∷ xs) zero (suc (suc m)) x e h = absurd (omega (arith, e))
take_one {X} (y ∷ xs) (suc i) (suc m) x e h =
    ap (λ zs. y ∷ zs) (take_one {X = X} xs i m x (omega (arith, e)) h)

taken_count : {X : Type 0} (xs : List X) (i : ℕ) (x : X) → slice_get xs i ≡ Some x → length (take i xs) ≡ i
taken_count [] i x h = cc
taken_count (y ∷ xs) zero x h = refl
taken_count {X} (y ∷ xs) (suc i) x h = omega (arith, taken_count {X = X} xs i x h)

cost_push : (ps : TextSettings) (p : List ℕ × List ℕ) → settings_cost (ps ++ p ∷ []) ≡
    settings_cost ps + ((1 + length p.0) + (1 + length p.1) + (1 + length p.1))
cost_push [] p = omega arith
cost_push (q ∷ ps) p = omega (arith, cost_push ps p)

cost_taken : (ps : TextSettings) (i : ℕ) → settings_cost (take i ps) ≤ settings_cost ps
cost_taken [] zero = omega arith
cost_taken [] (suc i) = omega arith
cost_taken (p ∷ ps) zero = omega arith
cost_taken (p ∷ ps) (suc i) = omega (arith, cost_taken ps i)

values_push : (n m : ℕ) (ps : TextSettings) (p : List ℕ × List ℕ) → m ≡ n + 2 * length ps →
    setting_values n (ps ++ p ∷ []) ≡
    setting_values n ps ++ text p.0 (Some (m ∷ [])) ∷ text p.1 (Some ((m + 1) ∷ [])) ∷ []
values_push n m [] p h =
    let same : n ≡ m = omega (arith, h) in
    ap (λ k. text p.0 (Some (k ∷ [])) ∷ text p.1 (Some ((k + 1) ∷ [])) ∷ []) same
values_push n m (q ∷ ps) p h =
    ap (λ vs. text q.0 (Some (n ∷ [])) ∷ text q.1 (Some ((n + 1) ∷ [])) ∷ vs)
    (values_push (n + 2) m ps p (omega (arith, h)))

pairs_push : (ps : TextSettings) (p : List ℕ × List ℕ) → pairs_of (ps ++ p ∷ []) ≡ pairs_of ps ++ (p.0, leaf p.1) ∷ []
pairs_push ps p = map-append (λ q. (q.0, leaf q.1)) ps (p ∷ [])

-- after i settings
pub record SoFar (base : List ℕ) (ps : TextSettings) (i : ℕ) (s : Settings) : Type 0 where
  pub pairs : s.pairs.items ≡ pairs_of (take i ps)
  pub values : s.values.items ≡ map (value_under base) (setting_values 0 (take i ps))
  pub cost : s.cost ≡ settings_cost (take i ps)

-- a number below half of the children is that of a setting
pub below : (i n m k : ℕ) → i < n / 2 → n ≡ m → m ≡ suc (2 * k) → i < k
below i n m k h e f = omega (arith, h, e, f)

-- two texts at one place are the same text
pub text_same : (x y : List ℕ) (o : Option WideTree) → o ≡ Some (leaf x) → o ≡ Some (leaf y) → x ≡ y
text_same x y o h g = let same : leaf x ≡ leaf y = cc in cc

module _ (base : List ℕ) (ps : TextSettings) (b : WideTree) (ts : List WideTree) (h : settings_in ts ≡ Some (ps, b))
    (i : ℕ) (few : i < length ps) where
  at : SettingAt ps b i
  at = setting_at ps b i few

  name_at : (n : ℕ) → n ≡ 2 * i → slice_get ts n ≡ Some (leaf at.setting.0)
  name_at n e = ap (λ us. slice_get us n) (laid_is ts (ps, b) h) ∙ at.name n e

  words_at : (n : ℕ) → n ≡ 2 * i + 1 → slice_get ts n ≡ Some (leaf at.setting.1)
  words_at n e = ap (λ us. slice_get us n) (laid_is ts (ps, b) h) ∙ at.words n e

  pub no_name : (n : ℕ) → n ≡ 2 * i → ((words : List ℕ) → slice_get ts n ≡ Some (leaf words) → ⊥) → ⊥
  no_name n e f = f at.setting.0 (name_at n e)

  pub no_words : (n : ℕ) → n ≡ 2 * i + 1 → ((words : List ℕ) → slice_get ts n ≡ Some (leaf words) → ⊥) → ⊥
  no_words n e f = f at.setting.1 (words_at n e)

  pub settings_next : (s s1 : Settings) (n : ℕ) (name words : List ℕ) → n ≡ 2 * i → SoFar base ps i s →
      slice_get ts n ≡ Some (leaf name) → slice_get ts (n + 1) ≡ Some (leaf words) →
      s1.pairs.items ≡ s.pairs.items ++ (name, leaf words) ∷ [] →
      s1.values.items ≡
      s.values.items ++ text name (Some (base ++ n ∷ [])) ∷ text words (Some (base ++ (n + 1) ∷ [])) ∷ [] →
      s1.cost ≡ s.cost + ((1 + length name) + (1 + length words) + (1 + length words)) → SoFar base ps (i + 1) s1
  settings_next s s1 n name words e so_far is_name is_words pairs values cost =
      let first : name ≡ at.setting.0 = text_same name at.setting.0 (slice_get ts n) is_name (name_at n e) in
      let second : words ≡ at.setting.1 =
      text_same words at.setting.1 (slice_get ts (n + 1)) is_words (words_at (n + 1) (omega (arith, e))) in
      let more : take (i + 1) ps ≡ take i ps ++ at.setting ∷ [] = take_one ps i (i + 1) at.setting (omega arith)
      at.there in
      let place : n ≡ 0 + 2 * length (take i ps) = omega (arith, e, taken_count ps i at.setting at.there) in
      record {
        pairs =
            pairs ∙ ap (λ us. us ++ (name, leaf words) ∷ []) so_far.pairs
            ∙ ap (λ x. pairs_of (take i ps) ++ (x, leaf words) ∷ []) first
            ∙ ap (λ y. pairs_of (take i ps) ++ (at.setting.0, leaf y) ∷ []) second
            ∙ sym (pairs_push (take i ps) at.setting) ∙ ap pairs_of (sym more);
        values =
            values
            ∙ ap (λ us. us ++ text name (Some (base ++ n ∷ [])) ∷ text words (Some (base ++ (n + 1) ∷ [])) ∷ [])
            so_far.values
            ∙ ap (λ x. map (value_under base) (setting_values 0 (take i ps))
            ++ text x (Some (base ++ n ∷ [])) ∷ text words (Some (base ++ (n + 1) ∷ [])) ∷ []) first
            ∙ ap (λ y. map (value_under base) (setting_values 0 (take i ps))
            ++ text at.setting.0 (Some (base ++ n ∷ [])) ∷ text y (Some (base ++ (n + 1) ∷ [])) ∷ []) second
            ∙ sym (map-append (value_under base) (setting_values 0 (take i ps))
            (text at.setting.0 (Some (n ∷ [])) ∷ text at.setting.1 (Some ((n + 1) ∷ [])) ∷ []))
            ∙ ap (map (value_under base)) (sym (values_push 0 n (take i ps) at.setting place))
            ∙ ap (λ qs. map (value_under base) (setting_values 0 qs)) (sym more);
        cost =
            cost ∙ ap (λ m. m + ((1 + length name) + (1 + length words) + (1 + length words))) so_far.cost
            ∙ ap (λ x. settings_cost (take i ps) + ((1 + length x) + (1 + length words) + (1 + length words))) first
            ∙ ap (λ y. settings_cost (take i ps) + ((1 + length at.setting.0) + (1 + length y) + (1 + length y))) second
            ∙ sym (cost_push (take i ps) at.setting) ∙ ap settings_cost (sym more);
      }

pub settings_begin : (base : List ℕ) (ps : TextSettings) (s : Settings) → s.pairs.items ≡ [] → s.values.items ≡ [] →
    s.cost ≡ 0 → SoFar base ps 0 s
settings_begin base ps s p v c = record { pairs = p; values = v; cost = c }

pub settings_stop : (base : List ℕ) (ps : TextSettings) (i left : ℕ) (s : Settings) → SoFar base ps i s →
    left < s.cost → left < settings_cost ps
settings_stop base ps i left s so_far dear =
    let cost : s.cost ≡ settings_cost (take i ps) = so_far.cost in
    omega (arith, cost, dear, cost_taken ps i)

pub settings_end : (base : List ℕ) (ps : TextSettings) (i : ℕ) (s : Settings) → SoFar base ps i s → length ps ≤ i →
    AreSettings base ps s
settings_end base ps i s so_far past =
    record {
      pairs = so_far.pairs ∙ ap pairs_of (take_all i ps past);
      values = so_far.values ∙ ap (λ qs. map (value_under base) (setting_values 0 qs)) (take_all i ps past);
      cost = so_far.cost ∙ ap settings_cost (take_all i ps past);
    }

-- how many settings there are, by how many children
pub settings_count : (ts : List WideTree) (ps : TextSettings) (b : WideTree) → settings_in ts ≡ Some (ps, b) →
    length ts ≡ suc (2 * length ps)
settings_count ts ps b h = ap length (laid_is ts (ps, b) h) ∙ laid_count ps b

pub inner_at : (ts : List WideTree) (ps : TextSettings) (b : WideTree) (i : ℕ) → settings_in ts ≡ Some (ps, b) →
    i ≡ 2 * length ps → slice_get ts i ≡ Some b
inner_at ts ps b i h e = ap (λ us. slice_get us i) (laid_is ts (ps, b) h) ∙ laid_inner ps b i e
