-- An open `with` evaluates to its texts and to what its inner tree evaluates to where they are set.
use Rattle.std.proofs.Common.{◌≡◌, ℕ, zero, suc, ◌+◌, ◌*◌, ◌-◌, ◌≤◌, ◌<◌, ◌⊎◌, inl, inr, min, List, [], ◌∷◌, ◌++◌}
use Rattle.std.proofs.Common.{length}
use Rattle.std.proofs.Common.{ap, refl, sym, ◌∙◌, arith}
use Rattle.std.proofs.lemmas.List.{append_assoc, append-nil}
use Rattle.std.proofs.lemmas.Bool.{cases_lt}
use Rattle.std.specs.Prelude.{Bool, true, false, nat_le, if◌then◌else◌, Option, Some, None, codes}
use Rattle.std.specs.Option.{option_map}
use Rattle.std.specs.FinMap.{empty}
use Rattle.std.proofs.lemmas.Grind.{common_steps}
use Rattle.tx_tree.specs.WideTree.{WideTree, Forest, leaf, node, nil, cons, trees}
use Rattle.tx_origin.specs.Values.{WideValue, text, made, vals, value_text, plain}
use Rattle.tx_origin.specs.TaggedTrees.{TaggedTree, kids_from}
use Rattle.tx_exec_form.specs.Runs.{Before, State, Ran, Over, Done, Run, on_done, ◌>>=◌, ◌>>◌, give, pay}
use Rattle.tx_exec_form.specs.Frames.{top}
use Rattle.tx_exec_form.specs.Words.{row_of}
use Rattle.tx_exec_form.specs.Rows.{ex, Sets, set_all, sizes, kept, kept_of, with_body, with_parts, is_odd, if_text}
use Rattle.tx_exec_form.specs.Rows.{row, wrong}
use Rattle.tx_exec_form.specs.declared.rows.Row.TheVariants as rows
use Rattle.tx_exec_form.specs.Evaluated.{WideTrace, traced, evaluated_in}
use Rattle.tx_exec_form.proofs.Tracing.{allowed, supports, agrees}
use Rattle.tx_parts.specs.Atop.{env_atop, past, both_looks}
use Rattle.tx_origin.specs.Under.{value_under}
use Rattle.tx_parts.specs.Adding.{after_part, part_ran}
use Rattle.tx_parts.specs.Openness.{Settings, and_setting, settings_in}
use Rattle.tx_parts.specs.Composed.{alone, evaluates, set_by, settings_cost, setting_values, with_trace}
use Rattle.tx_parts.proofs.PartRuns.{part_is}
use Rattle.tx_parts.proofs.Running.{none_there, fresh, row_alone, node_start, both_paid, text_then}
use Rattle.tx_parts.proofs.Restoring.{sets_of, all_set, set_by_is, restored_is, first_looks}

pub none_low : (c : ℕ) (t : WideTree) (e : Before) → evaluated_in 0 c (alone t) e ≡ None
none_low c t e = none_there c (alone t) e

-- a trace needs a level
pub is_high : (k c : ℕ) (t : WideTree) (e : Before) (trace : WideTrace) → evaluates k c t e ≡ Some trace →
    1 ≤ trace.height
is_high k c t e trace h = by (cases_lt trace.height 1)
  where
    by : (trace.height < 1) ⊎ (1 ≤ trace.height) → 1 ≤ trace.height
    by (inl low) =
        let there : evaluated_in 0 trace.cost (alone t) e ≡ Some trace =
        supports k c (alone t) e trace h 0 trace.cost e (agrees k c (alone t) e trace h) (omega arith)
        (omega (arith, low)) in
        let off : None ≡ Some trace = sym (none_low trace.cost t e) ∙ there in
        cc
    by (inr high) = high

-- ---- the inner tree

module _ (k : ℕ) (label : List ℕ) where
  -- the end of a `with` whose inner tree, at number i, has this trace, with so many steps left before it
  abbrev pub with_ran : ℕ → List WideValue → Settings → ℕ → Option WideTrace → Ran WideValue
  with_ran i vs ps left None = Over
  with_ran i vs ps left (Some trace) =
      Done (made label (vals (vs ++ value_under (i ∷ []) trace.value ∷ [])) (Some []))
      (record {
        own = past (set_by ps) trace.writes;
        looks = past (set_by ps) trace.looks;
        left = left - trace.cost;
        slack = k - trace.height;
      })

  module _ (i : ℕ) (vs : List WideValue) (ps : Settings) (b : WideTree) (e : Before) (left z : ℕ) (near : k ≤ z + 1)
      (low : z ≤ k) where
    last : Run WideValue
    last = ex k (record { tree = b; at = Some (i ∷ []) }) top >>= λ v.
        set_all (kept_of (sets_of ps) empty) >> give (made label (vals (vs ++ v ∷ [])) (Some []))

    begun : State
    begun = record { own = set_by ps; looks = empty; left = left; slack = z }

    ended : (o : Option WideTrace) → evaluates k left b (env_atop (set_by ps) e) ≡ o →
        on_done e (λ v. set_all (kept_of (sets_of ps) empty) >> give (made label (vals (vs ++ v ∷ [])) (Some [])))
        (part_ran k (i ∷ []) begun o) ≡ with_ran i vs ps left o
    unfolding begun
    ended None q = refl
    ended (Some trace) q =
        let high : 1 ≤ trace.height = is_high k left b (env_atop (set_by ps) e) trace q in
        let slack : min z (k - trace.height) ≡ k - trace.height = omega (arith, near, high) in
        let value : WideValue = made label (vals (vs ++ value_under (i ∷ []) trace.value ∷ [])) (Some []) in
        ap (on_done {A = Unit {0}} e (λ _. give value))
        (all_set (kept_of (sets_of ps) empty) e (after_part k begun trace))
        ∙ ap (λ m. Done value (record {
          own = m;
          looks = both_looks empty (set_by ps) trace.looks;
          left = left - trace.cost;
          slack = min z (k - trace.height);
        })) (restored_is ps trace.writes)
        ∙ ap (λ m. Done value (record {
          own = past (set_by ps) trace.writes;
          looks = m;
          left = left - trace.cost;
          slack = min z (k - trace.height);
        })) (first_looks (set_by ps) trace.looks)
        ∙ ap (λ n. Done value (record {
          own = past (set_by ps) trace.writes;
          looks = past (set_by ps) trace.looks;
          left = left - trace.cost;
          slack = n;
        })) slack

    inner_is : (set_all (sets_of ps) >> last) e (fresh left z) ≡
        with_ran i vs ps left (evaluates k left b (env_atop (set_by ps) e))
    unfolding last begun
    inner_is =
        ap (on_done {A = Unit {0}} e (λ _. last)) (all_set (sets_of ps) e (fresh left z))
        ∙ ap (λ m. last e (record { own = m; looks = empty; left = left; slack = z })) (set_by_is ps)
        ∙ ap (on_done e (λ v. set_all (kept_of (sets_of ps) empty) >> give (made label (vals (vs ++ v ∷ []))
        (Some []))))
        (part_is k (i ∷ []) (alone b) e begun low)
        ∙ ended (evaluates k left b (env_atop (set_by ps) e)) refl

  pub body_is : (i : ℕ) (vs : List WideValue) (ps : Settings) (b : WideTree) (e : Before) (left z : ℕ) →
      k ≤ z + 1 → z ≤ k →
      with_body (ex k) top label (Some []) vs (sets_of ps) (record { tree = b; at = Some (i ∷ []) }) e (fresh left z) ≡
      (if nat_le (sizes (sets_of ps)) left
      then with_ran i vs ps (left - sizes (sets_of ps))
      (evaluates k (left - sizes (sets_of ps)) b (env_atop (set_by ps) e))
      else Over)
  unfolding with_body kept pay last
  body_is i vs ps b e left z near low = by (nat_le (sizes (sets_of ps)) left)
    where
      by : (d : Bool) →
          on_done {A = Unit {0}} e (λ _. kept (sets_of ps) >>= λ old. set_all (sets_of ps) >>
          (ex k (record { tree = b; at = Some (i ∷ []) }) top >>= λ v.
          set_all old >> give (made label (vals (vs ++ v ∷ [])) (Some []))))
          (if d then Done tt (fresh (left - sizes (sets_of ps)) z) else Over) ≡
          (if d then with_ran i vs ps (left - sizes (sets_of ps))
          (evaluates k (left - sizes (sets_of ps)) b (env_atop (set_by ps) e)) else Over)
      by true = inner_is i vs ps b e (left - sizes (sets_of ps)) z near low
      by false = refl

-- ---- the texts

-- the steps of the texts, without what is stored
abbrev pub texts_cost : Settings → ℕ
texts_cost [] = 0
texts_cost (p ∷ ps) = (1 + length p.0) + (1 + length p.1) + texts_cost ps

-- one text takes a level
abbrev pub texts_slack : ℕ → Settings → ℕ → ℕ
texts_slack j [] z = z
texts_slack j (p ∷ ps) z = j

slack_near : (j z : ℕ) (ps : Settings) → j ≤ z → z ≤ suc j →
    (suc j ≤ texts_slack j ps z + 1) × (texts_slack j ps z ≤ suc j)
slack_near j z [] near low = (omega (arith, near), low)
slack_near j z (p ∷ ps) near low = (omega arith, omega arith)

slack_same : (j : ℕ) (ps : Settings) → texts_slack j ps j ≡ j
slack_same j [] = refl
slack_same j (p ∷ ps) = refl

costs_are : (ps : Settings) → settings_cost ps ≡ texts_cost ps + sizes (sets_of ps)
costs_are [] = refl
costs_are (p ∷ ps) =
    let rest : settings_cost ps ≡ texts_cost ps + sizes (sets_of ps) = costs_are ps in
    omega (arith, rest)

-- what comes after the first setting
pub record Behind (x words : List ℕ) (o : Option (Settings × WideTree)) (p : Settings × WideTree) : Type 0 where
  pub others : Settings × WideTree
  pub found : o ≡ Some others
  pub is : ((x, words) ∷ others.0, others.1) ≡ p

pub behind_first : (x words : List ℕ) (o : Option (Settings × WideTree)) (p : Settings × WideTree) →
    and_setting x words o ≡ Some p → Behind x words o p
behind_first x words None p h = cc
behind_first x words (Some q) p h =
    let same : ((x, words) ∷ q.0, q.1) ≡ p = cc in
    record { others = q; found = refl; is = same }

is_odd_kids : (i : ℕ) (ts : Forest) (p : Settings × WideTree) → settings_in (trees ts) ≡ Some p →
    is_odd (kids_from (Some []) i ts) ≡ true
is_odd_kids i nil p h = cc
is_odd_kids i (cons (leaf x) nil) p h = refl
is_odd_kids i (cons (node l us) nil) p h = refl
is_odd_kids i (cons (leaf x) (cons (leaf words) ts)) p h =
    (λ (b : Behind x words (settings_in (trees ts)) p). is_odd_kids (i + 1 + 1) ts b.others b.found)
    (behind_first x words (settings_in (trees ts)) p h)
is_odd_kids i (cons (leaf x) (cons (node l us) ts)) p h = cc
is_odd_kids i (cons (node l us) (cons t ts)) p h = cc

module _ (j : ℕ) (label : List ℕ) (e : Before) where
  abbrev body_at : ℕ → List WideValue → Sets → WideTree → ℕ → ℕ → Ran WideValue
  body_at i vs qs b left z =
      with_body (ex (suc j)) top label (Some []) vs qs (record { tree = b; at = Some (i ∷ []) }) e (fresh left z)

  -- the inner tree after the texts
  abbrev pub behind_texts : ℕ → List WideValue → Sets → Settings × WideTree → ℕ → ℕ → Ran WideValue
  behind_texts i vs qs p left z =
      if nat_le (texts_cost p.0) left
      then body_at (i + 2 * length p.0) (vs ++ setting_values i p.0) (qs ++ sets_of p.0) p.1 (left - texts_cost p.0)
      (texts_slack j p.0 z)
      else Over

  none_behind : (i : ℕ) (vs : List WideValue) (qs : Sets) (b : WideTree) (left z : ℕ) →
      body_at i vs qs b left z ≡ behind_texts i vs qs ([], b) left z
  none_behind i vs qs b left z =
      let number : i ≡ i + 2 * 0 = omega arith in
      let steps : left ≡ left - 0 = omega arith in
      let test : true ≡ nat_le 0 left = grind (arith, common_steps) in
      ap (λ n. body_at n vs qs b left z) number
      ∙ ap (λ us. body_at (i + 2 * 0) us qs b left z) (sym (append-nil vs))
      ∙ ap (λ rs. body_at (i + 2 * 0) (vs ++ []) rs b left z) (sym (append-nil qs))
      ∙ ap (λ n. body_at (i + 2 * 0) (vs ++ []) (qs ++ []) b n z) steps
      ∙ ap (λ d. if d then body_at (i + 2 * 0) (vs ++ []) (qs ++ []) b (left - 0) z else Over) test

  one_behind : (i : ℕ) (vs : List WideValue) (qs : Sets) (x words : List ℕ) (p : Settings × WideTree) (left z : ℕ) →
      (if nat_le (1 + length x) left
      then (if nat_le (1 + length words) (left - (1 + length x))
      then behind_texts (i + 2) (vs ++ text x (Some (i ∷ [])) ∷ text words (Some ((i + 1) ∷ [])) ∷ [])
      (qs ++ (x, Some (leaf words)) ∷ []) p (left - (1 + length x) - (1 + length words)) j
      else Over) else Over) ≡
      behind_texts i vs qs ((x, words) ∷ p.0, p.1) left z
  one_behind i vs qs x words p left z =
      let a : ℕ = 1 + length x in
      let b : ℕ = 1 + length words in
      let number : (i + 2) + 2 * length p.0 ≡ i + 2 * suc (length p.0) = omega arith in
      let steps : ((left - (1 + length x)) - (1 + length words)) - texts_cost p.0 ≡
      left - ((1 + length x) + (1 + length words) + texts_cost p.0) = omega arith in
      let enough : ℕ → Bool = λ n. nat_le (texts_cost p.0) n in
      let end : Ran WideValue = body_at ((i + 2) + 2 * length p.0)
      ((vs ++ text x (Some (i ∷ [])) ∷ text words (Some ((i + 1) ∷ [])) ∷ []) ++ setting_values (i + 2) p.0)
      ((qs ++ (x, Some (leaf words)) ∷ []) ++ sets_of p.0) p.1
      (((left - (1 + length x)) - (1 + length words)) - texts_cost p.0) (texts_slack j p.0 j) in
      let tests : ((1 + length x) + ((1 + length words) + texts_cost p.0)) ≡
      (1 + length x) + (1 + length words) + texts_cost p.0 = omega arith in
      ap (λ r. if nat_le (1 + length x) left then r else Over)
      (both_paid (1 + length words) (texts_cost p.0) (left - (1 + length x)) end Over)
      ∙ both_paid (1 + length x) ((1 + length words) + texts_cost p.0) left end Over
      ∙ ap (λ n. if nat_le n left then end else Over) tests
      ∙ ap (λ r. if nat_le ((1 + length x) + (1 + length words) + texts_cost p.0) left then r else Over)
      (ap (λ n. body_at n
      ((vs ++ text x (Some (i ∷ [])) ∷ text words (Some ((i + 1) ∷ [])) ∷ []) ++ setting_values (i + 2) p.0)
      ((qs ++ (x, Some (leaf words)) ∷ []) ++ sets_of p.0) p.1
      (((left - (1 + length x)) - (1 + length words)) - texts_cost p.0) (texts_slack j p.0 j)) number
      ∙ ap (λ us. body_at (i + 2 * suc (length p.0)) us ((qs ++ (x, Some (leaf words)) ∷ []) ++ sets_of p.0) p.1
      (((left - (1 + length x)) - (1 + length words)) - texts_cost p.0) (texts_slack j p.0 j))
      (append_assoc vs (text x (Some (i ∷ [])) ∷ text words (Some ((i + 1) ∷ [])) ∷ []) (setting_values (i + 2) p.0))
      ∙ ap (λ rs. body_at (i + 2 * suc (length p.0))
      (vs ++ text x (Some (i ∷ [])) ∷ text words (Some ((i + 1) ∷ [])) ∷ setting_values (i + 2) p.0) rs p.1
      (((left - (1 + length x)) - (1 + length words)) - texts_cost p.0) (texts_slack j p.0 j))
      (append_assoc qs ((x, Some (leaf words)) ∷ []) (sets_of p.0))
      ∙ ap (λ n. body_at (i + 2 * suc (length p.0))
      (vs ++ text x (Some (i ∷ [])) ∷ text words (Some ((i + 1) ∷ [])) ∷ setting_values (i + 2) p.0)
      (qs ++ (x, Some (leaf words)) ∷ sets_of p.0) p.1 n (texts_slack j p.0 j)) steps
      ∙ ap (body_at (i + 2 * suc (length p.0))
      (vs ++ text x (Some (i ∷ [])) ∷ text words (Some ((i + 1) ∷ [])) ∷ setting_values (i + 2) p.0)
      (qs ++ (x, Some (leaf words)) ∷ sets_of p.0) p.1
      (left - ((1 + length x) + (1 + length words) + texts_cost p.0))) (slack_same j p.0))

  abbrev text_at : ℕ → List ℕ → TaggedTree
  text_at n words = record { tree = leaf words; at = Some (n ∷ []) }

  pub texts_are : (i : ℕ) (vs : List WideValue) (qs : Sets) (ts : Forest) (p : Settings × WideTree) (left z : ℕ) →
      settings_in (trees ts) ≡ Some p → j ≤ z → z ≤ suc j →
      with_parts (suc (suc j)) (ex (suc j)) top label (Some []) vs qs (kids_from (Some []) i ts) e (fresh left z) ≡
      behind_texts i vs qs p left z
  texts_are i vs qs nil p left z h near low = cc
  texts_are i vs qs (cons (leaf x) nil) p left z h near low =
      let same : ([], leaf x) ≡ p = cc in
      none_behind i vs qs (leaf x) left z ∙ ap (λ q. behind_texts i vs qs q left z) same
  texts_are i vs qs (cons (node l us) nil) p left z h near low =
      let same : ([], node l us) ≡ p = cc in
      none_behind i vs qs (node l us) left z ∙ ap (λ q. behind_texts i vs qs q left z) same
  texts_are i vs qs (cons (leaf x) (cons (node l us) ts)) p left z h near low = cc
  texts_are i vs qs (cons (node l us) (cons t ts)) p left z h near low = cc
  texts_are i vs qs (cons (leaf x) (cons (leaf words) ts)) p left z h near low =
      text_then j x (Some (i ∷ [])) e left z
      (λ name. if_text (suc (suc j)) label (λ y. ex (suc j) (text_at (i + 1) words) top >>= λ v.
      with_parts (suc (suc j)) (ex (suc j)) top label (Some []) (vs ++ name ∷ v ∷ [])
      (qs ++ (y, Some (plain v)) ∷ []) (kids_from (Some []) (i + 1 + 1) ts)) (value_text name)) near
      ∙ ap (λ r. if nat_le (1 + length x) left then r else Over)
      (text_then j words (Some ((i + 1) ∷ [])) e (left - (1 + length x)) j
      (λ v. with_parts (suc (suc j)) (ex (suc j)) top label (Some []) (vs ++ text x (Some (i ∷ [])) ∷ v ∷ [])
      (qs ++ (x, Some (plain v)) ∷ []) (kids_from (Some []) (i + 1 + 1) ts)) (omega arith))
      ∙ by (behind_first x words (settings_in (trees ts)) p h)
      (λ q g. texts_are (i + 2) (vs ++ text x (Some (i ∷ [])) ∷ text words (Some ((i + 1) ∷ [])) ∷ [])
      (qs ++ (x, Some (leaf words)) ∷ []) ts q (left - (1 + length x) - (1 + length words)) j g (omega arith)
      (omega arith))
    where
      by : Behind x words (settings_in (trees ts)) p →
          ((q : Settings × WideTree) → settings_in (trees ts) ≡ Some q →
          with_parts (suc (suc j)) (ex (suc j)) top label (Some [])
          (vs ++ text x (Some (i ∷ [])) ∷ text words (Some ((i + 1) ∷ [])) ∷ []) (qs ++ (x, Some (leaf words)) ∷ [])
          (kids_from (Some []) (i + 2) ts) e (fresh (left - (1 + length x) - (1 + length words)) j) ≡
          behind_texts (i + 2) (vs ++ text x (Some (i ∷ [])) ∷ text words (Some ((i + 1) ∷ [])) ∷ [])
          (qs ++ (x, Some (leaf words)) ∷ []) q (left - (1 + length x) - (1 + length words)) j) →
          (if nat_le (1 + length x) left
          then (if nat_le (1 + length words) (left - (1 + length x))
          then with_parts (suc (suc j)) (ex (suc j)) top label (Some [])
          (vs ++ text x (Some (i ∷ [])) ∷ text words (Some ((i + 1) ∷ [])) ∷ []) (qs ++ (x, Some (leaf words)) ∷ [])
          (kids_from (Some []) (i + 1 + 1) ts) e (fresh (left - (1 + length x) - (1 + length words)) j)
          else Over) else Over) ≡ behind_texts i vs qs p left z
      by f go =
          let number : i + 1 + 1 ≡ i + 2 = omega arith in
          ap (λ n. if nat_le (1 + length x) left
          then (if nat_le (1 + length words) (left - (1 + length x))
          then with_parts (suc (suc j)) (ex (suc j)) top label (Some [])
          (vs ++ text x (Some (i ∷ [])) ∷ text words (Some ((i + 1) ∷ [])) ∷ []) (qs ++ (x, Some (leaf words)) ∷ [])
          (kids_from (Some []) n ts) e (fresh (left - (1 + length x) - (1 + length words)) j)
          else Over) else Over) number
          ∙ ap (λ r. if nat_le (1 + length x) left
          then (if nat_le (1 + length words) (left - (1 + length x)) then r else Over) else Over) (go f.others f.found)
          ∙ one_behind i vs qs x words f.others left z
          ∙ ap (λ q. behind_texts i vs qs q left z) f.is

-- ---- the node

abbrev label_with : List ℕ
label_with = codes "with"

with_label : row_of (codes "with") ≡ rows.With
with_label = refl

row_is : (k c : ℕ) (ts : Forest) (p : Settings × WideTree) (e : Before) (s : State) → settings_in (trees ts) ≡ Some p →
    row_alone k c label_with ts e e s ≡
    with_parts (suc k) (ex k) top label_with (Some []) [] [] (kids_from (Some []) 0 ts) e s
unfolding row
row_is k c ts p e s h =
    ap (λ d. (if d then with_parts (suc k) (ex k) top label_with (Some []) [] [] (kids_from (Some []) 0 ts)
    else wrong (suc k) (codes "bad") label_with) e s) (is_odd_kids 0 ts p h)

either : {A : Type 0} (b : Bool) (x : A) → (if b then x else x) ≡ x
either true x = refl
either false x = refl

no_level : (b : WideTree) (e : Before) (left : ℕ) →
    with_body (ex 0) top label_with (Some []) [] [] (record { tree = b; at = Some (0 ∷ []) }) e (fresh left 0) ≡ Over
no_level b e left =
    body_is 0 label_with 0 [] [] b e left 0 (omega arith) (omega arith)
    ∙ ap (λ o. if nat_le 0 left then with_ran 0 label_with 0 [] [] (left - 0) o else Over)
    (none_low (left - 0) b (env_atop (set_by []) e))
    ∙ either (nat_le 0 left) Over

-- without a level for the inner tree
zero_over : (ts : Forest) (p : Settings × WideTree) (e : Before) (left : ℕ) → settings_in (trees ts) ≡ Some p →
    with_parts 1 (ex 0) top label_with (Some []) [] [] (kids_from (Some []) 0 ts) e (fresh left 0) ≡ Over
unfolding ex
zero_over nil p e left h = cc
zero_over (cons (leaf x) nil) p e left h = no_level (leaf x) e left
zero_over (cons (node l us) nil) p e left h = no_level (node l us) e left
zero_over (cons (leaf x) (cons (leaf words) ts)) p e left h = refl
zero_over (cons (leaf x) (cons (node l us) ts)) p e left h = cc
zero_over (cons (node l us) (cons t ts)) p e left h = cc

traced_zero : (c : ℕ) (b : Bool) (ts : Forest) (p : Settings × WideTree) (e : Before) →
    settings_in (trees ts) ≡ Some p →
    traced 1 c (if b then row_alone 0 c label_with ts e e (fresh (c - 1) 0) else Over) ≡ None
traced_zero c true ts p e h = ap (traced 1 c) (row_is 0 c ts p e (fresh (c - 1) 0) h ∙ zero_over ts p e (c - 1) h)
traced_zero c false ts p e h = refl

-- the trace, where the steps round the inner tree are paid
with_traced : (k c : ℕ) (p : Settings × WideTree) (e : Before) (b : Bool) → b ≡ nat_le (1 + settings_cost p.0) c →
    (o : Option WideTrace) → evaluates k (c - (1 + settings_cost p.0)) p.1 (env_atop (set_by p.0) e) ≡ o →
    traced (suc k) c (if b then with_ran k label_with (2 * length p.0) (setting_values 0 p.0) p.0
    (c - (1 + settings_cost p.0)) o else Over) ≡ (if b then option_map (with_trace p.0) o else None)
with_traced k c p e false q o r = refl
with_traced k c p e true q None r = refl
with_traced k c p e true q (Some trace) r =
    let bounds : (trace.cost ≤ c - (1 + settings_cost p.0)) × (trace.height ≤ k) =
    allowed k (c - (1 + settings_cost p.0)) (alone p.1) (env_atop (set_by p.0) e) trace r in
    let paid : 1 + settings_cost p.0 ≤ c = grind (arith, common_steps, q) in
    let cost : c - ((c - (1 + settings_cost p.0)) - trace.cost) ≡ 1 + settings_cost p.0 + trace.cost =
    omega (arith, paid, bounds.0) in
    let height : suc k - (k - trace.height) ≡ 1 + trace.height = omega (arith, bounds.1) in
    ap (λ n. Some (record (with_trace p.0 trace) { cost = n; height = suc k - (k - trace.height) })) cost
    ∙ ap (λ n. Some (record (with_trace p.0 trace) { height = n })) height

module _ (j c : ℕ) (p : Settings × WideTree) (e : Before) where
  abbrev paid_twice : ℕ
  paid_twice = ((c - 1) - texts_cost p.0) - sizes (sets_of p.0)

  abbrev inner_ran : ℕ → Ran WideValue
  inner_ran left = with_ran (suc j) label_with (2 * length p.0) (setting_values 0 p.0) p.0 left
      (evaluates (suc j) left p.1 (env_atop (set_by p.0) e))

  -- the steps round the inner tree
  all_paid : (if nat_le 1 c then (if nat_le (texts_cost p.0) (c - 1)
      then (if nat_le (sizes (sets_of p.0)) ((c - 1) - texts_cost p.0) then inner_ran paid_twice else Over)
      else Over) else Over) ≡
      (if nat_le (1 + settings_cost p.0) c then inner_ran (c - (1 + settings_cost p.0)) else Over)
  all_paid =
      let costs : settings_cost p.0 ≡ texts_cost p.0 + sizes (sets_of p.0) = costs_are p.0 in
      let steps : paid_twice ≡ c - (1 + settings_cost p.0) = omega (arith, costs) in
      let sum : 1 + (texts_cost p.0 + sizes (sets_of p.0)) ≡ 1 + settings_cost p.0 = omega (arith, costs) in
      ap (λ r. if nat_le 1 c then r else Over)
      (both_paid (texts_cost p.0) (sizes (sets_of p.0)) (c - 1) (inner_ran paid_twice) Over)
      ∙ both_paid 1 (texts_cost p.0 + sizes (sets_of p.0)) c (inner_ran paid_twice) Over
      ∙ ap (λ n. if nat_le n c then inner_ran paid_twice else Over) sum
      ∙ ap (λ n. if nat_le (1 + settings_cost p.0) c then inner_ran n else Over) steps

  texts_then_inner : behind_texts j label_with e 0 [] [] p (c - 1) (suc j) ≡
      (if nat_le (texts_cost p.0) (c - 1)
      then (if nat_le (sizes (sets_of p.0)) ((c - 1) - texts_cost p.0) then inner_ran paid_twice else Over) else Over)
  texts_then_inner =
      let near : (suc j ≤ texts_slack j p.0 (suc j) + 1) × (texts_slack j p.0 (suc j) ≤ suc j) =
      slack_near j (suc j) p.0 (omega arith) (omega arith) in
      let number : 0 + 2 * length p.0 ≡ 2 * length p.0 = omega arith in
      ap (λ r. if nat_le (texts_cost p.0) (c - 1) then r else Over)
      (ap (λ n. with_body (ex (suc j)) top label_with (Some []) (setting_values 0 p.0) (sets_of p.0)
      (record { tree = p.1; at = Some (n ∷ []) }) e (fresh ((c - 1) - texts_cost p.0) (texts_slack j p.0
      (suc j)))) number
      ∙ body_is (suc j) label_with (2 * length p.0) (setting_values 0 p.0) p.0 p.1 e ((c - 1) - texts_cost p.0)
      (texts_slack j p.0 (suc j)) near.0 near.1)

pub with_is : (k c : ℕ) (ts : Forest) (p : Settings × WideTree) (e : Before) → settings_in (trees ts) ≡ Some p →
    evaluates (suc k) c (node (codes "with") ts) e ≡
    (if nat_le (1 + settings_cost p.0) c then option_map (with_trace p.0)
    (evaluates k (c - (1 + settings_cost p.0)) p.1 (env_atop (set_by p.0) e)) else None)
unfolding evaluated_in
with_is zero c ts p e h =
    ap (traced 1 c) (node_start 0 c label_with ts e) ∙ traced_zero c (nat_le 1 c) ts p e h
    ∙ sym (either (nat_le (1 + settings_cost p.0) c) None)
    ∙ ap (λ o. if nat_le (1 + settings_cost p.0) c then option_map (with_trace p.0) o else None)
    (sym (none_low (c - (1 + settings_cost p.0)) p.1 (env_atop (set_by p.0) e)))
with_is (suc j) c ts p e h =
    ap (traced (suc (suc j)) c)
    (node_start (suc j) c label_with ts e
    ∙ ap (λ r. if nat_le 1 c then r else Over) (row_is (suc j) c ts p e (fresh (c - 1) (suc j)) h
    ∙ texts_are j label_with e 0 [] [] ts p (c - 1) (suc j) h (omega arith) (omega arith)
    ∙ texts_then_inner j c p e)
    ∙ all_paid j c p e)
    ∙ with_traced (suc j) c p e (nat_le (1 + settings_cost p.0) c) refl
    (evaluates (suc j) (c - (1 + settings_cost p.0)) p.1 (env_atop (set_by p.0) e)) refl
