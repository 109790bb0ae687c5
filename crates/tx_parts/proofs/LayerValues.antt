-- The names and the trees of a layer are evaluated in order, and then the row's last child begins.
use Rattle.std.proofs.Common.{◌≡◌, ℕ, zero, suc, ◌+◌, ◌*◌, ◌-◌, ◌≤◌, List, [], ◌∷◌, ◌++◌, length, map, ap, refl, sym}
use Rattle.std.proofs.Common.{◌∙◌}
use Rattle.std.proofs.Common.{arith}
use Rattle.std.proofs.lemmas.List.{append_assoc}
use Rattle.std.specs.Prelude.{Bool, true, false, nat_le, if◌then◌else◌, Option, Some, None, option_and_then, codes}
use Rattle.std.proofs.lemmas.Grind.{common_steps}
use Rattle.std.specs.FinMap.{empty}
use Rattle.tx_tree.specs.WideTree.{WideTree, leaf}
use Rattle.tx_env.specs.Pairs.{Name}
use Rattle.tx_origin.specs.Values.{WideValue, text, value_text, plain}
use Rattle.tx_origin.specs.TaggedTrees.{TaggedTree}
use Rattle.tx_exec_form.specs.Runs.{Before, State, Ran, Over, Done, Run, on_done, ◌>>=◌, give}
use Rattle.tx_exec_form.specs.Frames.{top}
use Rattle.tx_exec_form.specs.Rows.{ex, Sets, with_body, with_parts, is_odd, if_text}
use Rattle.tx_exec_form.specs.Evaluated.{WideTrace, start, traced, evaluated_in}
use Rattle.tx_parts.specs.Atop.{env_atop}
use Rattle.tx_origin.specs.Under.{value_under}
use Rattle.tx_parts.specs.Adding.{after_part, part_ran}
use Rattle.tx_parts.specs.Shells.{Layer, bare, in_turn}
use Rattle.tx_parts.specs.Composed.{SoFar, with_child, children_from}
use Rattle.tx_parts.specs.Layered.{evaluates_bare, layer_pairs, as_sets}
use Rattle.tx_parts.proofs.UnderValues.{text_under}
use Rattle.tx_parts.proofs.PartRuns.{part_is}
use Rattle.tx_parts.proofs.Running.{none_there, fresh, text_then}
use Rattle.tx_parts.proofs.Children.{IsWithin, tagged_within, state_behind, one_more}
use Rattle.tx_parts.proofs.Layers.{layer_eval}

-- ---- a text evaluates to itself

done_give : (e : Before) (r : Ran WideValue) → on_done e give r ≡ r
done_give e Over = refl
done_give e (Done v s) = refl

text_of_test : (k c : ℕ) (v : WideValue) (s : State) (trace : WideTrace) (b : Bool) →
    traced k c (if b then Done v s else Over) ≡ Some trace → trace.value ≡ v
text_of_test k c v s trace true h = cc
text_of_test k c v s trace false h = cc

text_value : (k c : ℕ) (x : List ℕ) (at : Option (List ℕ)) (e : Before) (trace : WideTrace) →
    evaluated_in k c (record { tree = leaf x; at = at }) e ≡ Some trace → trace.value ≡ text x at
unfolding evaluated_in
text_value zero c x at e trace h =
    let off : None ≡ Some trace = sym (none_there c (record { tree = leaf x; at = at }) e) ∙ h in
    cc
text_value (suc k) c x at e trace h =
    text_of_test (suc k) c (text x at) (fresh (c - (1 + length x)) k) trace (nat_le (1 + length x) c)
    (sym (ap (traced (suc k) c) (sym (done_give e (ex (suc k) (record { tree = leaf x; at = at }) top e
    (start (suc k) c))) ∙ text_then k x at e c (suc k) give (omega arith))) ∙ h)

-- its trace, with a level
pub text_traced : (k c : ℕ) (x : List ℕ) (at : Option (List ℕ)) (e : Before) →
    evaluated_in (suc k) c (record { tree = leaf x; at = at }) e ≡ (if nat_le (1 + length x) c then Some (record {
      value = text x at;
      looks = empty;
      writes = empty;
      cost = 1 + length x;
      height = 1;
    }) else None)
unfolding evaluated_in
text_traced k c x at e =
    ap (traced (suc k) c) (sym (done_give e (ex (suc k) (record { tree = leaf x; at = at }) top e (start (suc k) c)))
    ∙ text_then k x at e c (suc k) give (omega arith))
    ∙ by (nat_le (1 + length x) c) refl
  where
    by : (b : Bool) → b ≡ nat_le (1 + length x) c →
        traced (suc k) c (if b then Done (text x at) (fresh (c - (1 + length x)) k) else Over) ≡
        (if b then Some (record {
          value = text x at;
          looks = empty;
          writes = empty;
          cost = 1 + length x;
          height = 1;
        }) else None)
    by true q =
        let low : 1 + length x ≤ c = grind (arith, common_steps, q) in
        let cost : c - (c - (1 + length x)) ≡ 1 + length x = omega (arith, low) in
        let height : suc k - k ≡ 1 = omega arith in
        ap (λ n. Some (record { value = text x at; looks = empty; writes = empty; cost = n; height = suc k - k })) cost
        ∙ ap (λ n. Some (record { value = text x at; looks = empty; writes = empty; cost = 1 + length x; height = n }))
        height
    by false q = refl

-- ---- names with what they are to have

pub pairs_past : (done xs : List Name) (vs : List WideValue) → length vs ≡ 2 * length done →
    layer_pairs (done ++ xs) vs ≡ layer_pairs done vs
pairs_past [] [] [] h = refl
pairs_past [] (x ∷ xs) [] h = refl
pairs_past [] xs (v ∷ vs) h = absurd (omega (arith, h))
pairs_past (d ∷ ds) xs [] h = absurd (omega (arith, h))
pairs_past (d ∷ ds) xs (u ∷ []) h = absurd (omega (arith, h))
pairs_past (d ∷ ds) xs (u ∷ v ∷ vs) h =
    ap (λ ps. (d, plain v) ∷ ps) (pairs_past ds xs vs (omega (arith, h)))

pub pairs_more : (done : List Name) (x : Name) (vs : List WideValue) (n v : WideValue) → length vs ≡ 2 * length done →
    layer_pairs (done ++ x ∷ []) (vs ++ n ∷ v ∷ []) ≡ layer_pairs done vs ++ (x, plain v) ∷ []
pairs_more [] x [] n v h = refl
pairs_more [] x (u ∷ us) n v h = absurd (omega (arith, h))
pairs_more (d ∷ ds) x [] n v h = absurd (omega (arith, h))
pairs_more (d ∷ ds) x (u ∷ []) n v h = absurd (omega (arith, h))
pairs_more (d ∷ ds) x (u ∷ w ∷ us) n v h =
    ap (λ ps. (d, plain w) ∷ ps) (pairs_more ds x us n v (omega (arith, h)))

sets_more : (ps : List (Name × WideTree)) (x : Name) (t : WideTree) →
    as_sets (ps ++ (x, t) ∷ []) ≡ as_sets ps ++ (x, Some t) ∷ []
sets_more [] x t = refl
sets_more (p ∷ ps) x t = ap (λ qs. (p.0, Some p.1) ∷ qs) (sets_more ps x t)

length_more : (vs : List WideValue) (n v : WideValue) → length (vs ++ n ∷ v ∷ []) ≡ 2 + length vs
length_more [] n v = refl
length_more (u ∷ us) n v =
    let rest : length (us ++ n ∷ v ∷ []) ≡ 2 + length us = length_more us n v in
    omega (arith, rest)

names_more : (done : List Name) (x : Name) → length (done ++ x ∷ []) ≡ 1 + length done
names_more [] x = refl
names_more (d ∷ ds) x =
    let rest : length (ds ++ x ∷ []) ≡ 1 + length ds = names_more ds x in
    omega (arith, rest)

-- ---- the row

module _ (k c : ℕ) (ls : List Layer) (b : TaggedTree) (e : Before) where
  abbrev row_at : List WideValue → Sets → List TaggedTree → Run WideValue
  row_at vs ps kids = with_parts (suc k) (layer_eval k ls) top (codes "with") None vs ps kids

  -- the last child, where these names are set
  abbrev pub body_at : List Name → SoFar → Ran WideValue
  body_at xs z =
      with_body (layer_eval k ls) top (codes "with") None z.values (as_sets (layer_pairs xs z.values)) b e
      (state_behind k c z)

  abbrev pub bodies_at : List Name → Option SoFar → Ran WideValue
  bodies_at xs None = Over
  bodies_at xs (Some z) = body_at xs z

  -- after the children before
  abbrev NextAre : ℕ → List Name → List Name → List WideTree → SoFar → Type 0
  NextAre i done xs ts a =
      row_at a.values (as_sets (layer_pairs done a.values)) (map bare (in_turn xs ts) ++ b ∷ []) e
      (state_behind k c a) ≡
      bodies_at (done ++ xs) (children_from (evaluates_bare k) c i a (in_turn xs ts) e)

  module _ (i : ℕ) (done : List Name) (x : Name) (xs : List Name) (t : WideTree) (ts : List WideTree) (a : SoFar)
      (within : IsWithin k c a) (twice : length a.values ≡ 2 * length done)
      (go : (z : SoFar) → IsWithin k c z → length z.values ≡ 2 * length (done ++ x ∷ []) →
      NextAre (i + 1 + 1) (done ++ x ∷ []) xs ts z) where
    abbrev rest : List TaggedTree
    rest = map bare (in_turn xs ts) ++ b ∷ []

    abbrev sets : Sets
    sets = as_sets (layer_pairs done a.values)

    -- after the name and the tree
    abbrev then_rest : WideValue → WideValue → Run WideValue
    then_rest name v = row_at (a.values ++ name ∷ v ∷ []) (sets ++ (x, Some (plain v)) ∷ []) rest

    both_behind : (name v : WideValue) (z : SoFar) → z.values ≡ (a.values ++ name ∷ []) ++ v ∷ [] → IsWithin k c z →
        then_rest name v e (state_behind k c z) ≡
        bodies_at (done ++ x ∷ xs) (children_from (evaluates_bare k) c (i + 1 + 1) z (in_turn xs ts) e)
    both_behind name v z is here =
        let values : a.values ++ name ∷ v ∷ [] ≡ z.values = sym (append_assoc a.values (name ∷ []) (v ∷ [])) ∙ sym is in
        let two : length (a.values ++ name ∷ v ∷ []) ≡ 2 + length a.values = length_more a.values name v in
        let one : length (done ++ x ∷ []) ≡ 1 + length done = names_more done x in
        let count : length z.values ≡ 2 * length (done ++ x ∷ []) =
        ap length (sym values) ∙ omega (arith, two, one, twice) in
        let pairs : as_sets (layer_pairs (done ++ x ∷ []) z.values) ≡ sets ++ (x, Some (plain v)) ∷ [] =
        ap (λ us. as_sets (layer_pairs (done ++ x ∷ []) us)) (sym values)
        ∙ ap as_sets (pairs_more done x a.values name v twice)
        ∙ sets_more (layer_pairs done a.values) x (plain v) in
        ap (λ us. row_at us (sets ++ (x, Some (plain v)) ∷ []) rest e (state_behind k c z)) values
        ∙ ap (λ ps. row_at z.values ps rest e (state_behind k c z)) (sym pairs)
        ∙ go z here count
        ∙ ap (λ ys. bodies_at ys (children_from (evaluates_bare k) c (i + 1 + 1) z (in_turn xs ts) e))
        (append_assoc done (x ∷ []) xs)

    tree_behind : (name : WideValue) (z : SoFar) → z.values ≡ a.values ++ name ∷ [] → IsWithin k c z →
        (ex k (bare t) top >>= then_rest name) e (state_behind k c z) ≡
        bodies_at (done ++ x ∷ xs) (children_from (evaluates_bare k) c (i + 1) z (t ∷ in_turn xs ts) e)
    tree_behind name z is here =
        ap (on_done e (then_rest name))
        (part_is k ((i + 1) ∷ []) (bare t) e (state_behind k c z) (omega arith))
        ∙ by (evaluated_in k (c - z.cost) (bare t) (env_atop z.writes e)) refl
      where
        by : (o : Option WideTrace) → evaluated_in k (c - z.cost) (bare t) (env_atop z.writes e) ≡ o →
            on_done e (then_rest name) (part_ran k ((i + 1) ∷ []) (state_behind k c z) o) ≡
            bodies_at (done ++ x ∷ xs) (option_and_then
            (λ trace. children_from (evaluates_bare k) c (i + 1 + 1) (with_child (i + 1) z trace) (in_turn xs ts) e) o)
        by None q = refl
        by (Some trace) q =
            let more : IsWithin k c (with_child (i + 1) z trace) =
            tagged_within k c (i + 1) z (bare t) (env_atop z.writes e) trace here q in
            ap (then_rest name (value_under ((i + 1) ∷ []) trace.value) e) (one_more k c (i + 1) z trace here more)
            ∙ both_behind name (value_under ((i + 1) ∷ []) trace.value) (with_child (i + 1) z trace)
            (ap (λ us. us ++ value_under ((i + 1) ∷ []) trace.value ∷ []) is) more

    abbrev then_tree : WideValue → Run WideValue
    then_tree name = if_text (suc k) (codes "with") (λ y. ex k (bare t) top >>= λ v.
        row_at (a.values ++ name ∷ v ∷ []) (sets ++ (y, Some (plain v)) ∷ []) rest) (value_text name)

    pub name_behind : NextAre i done (x ∷ xs) (t ∷ ts) a
    name_behind =
        ap (on_done e then_tree) (part_is k (i ∷ []) (bare (leaf x)) e (state_behind k c a) (omega arith))
        ∙ by (evaluated_in k (c - a.cost) (bare (leaf x)) (env_atop a.writes e)) refl
      where
        by : (o : Option WideTrace) → evaluated_in k (c - a.cost) (bare (leaf x)) (env_atop a.writes e) ≡ o →
            on_done e then_tree (part_ran k (i ∷ []) (state_behind k c a) o) ≡
            bodies_at (done ++ x ∷ xs) (option_and_then
            (λ trace. children_from (evaluates_bare k) c (i + 1) (with_child i a trace) (t ∷ in_turn xs ts) e) o)
        by None q = refl
        by (Some trace) q =
            let more : IsWithin k c (with_child i a trace) =
            tagged_within k c i a (bare (leaf x)) (env_atop a.writes e) trace within q in
            let words : value_text (value_under (i ∷ []) trace.value) ≡ Some x =
            text_under (i ∷ []) trace.value
            ∙ ap value_text (text_value k (c - a.cost) x None (env_atop a.writes e) trace q) in
            ap (λ o. if_text (suc k) (codes "with") (λ y. ex k (bare t) top >>= λ v.
            row_at (a.values ++ value_under (i ∷ []) trace.value ∷ v ∷ []) (sets ++ (y, Some (plain v)) ∷ []) rest) o e
            (after_part k (state_behind k c a) trace)) words
            ∙ ap ((ex k (bare t) top >>= then_rest (value_under (i ∷ []) trace.value)) e)
            (one_more k c i a trace within more)
            ∙ tree_behind (value_under (i ∷ []) trace.value) (with_child i a trace) refl more

  pub values_are : (i : ℕ) (done xs : List Name) (ts : List WideTree) (a : SoFar) → IsWithin k c a →
      length a.values ≡ 2 * length done → NextAre i done xs ts a
  values_are i done [] ts a h g =
      ap (λ ps. with_body (layer_eval k ls) top (codes "with") None a.values (as_sets ps) b e (state_behind k c a))
      (sym (pairs_past done [] a.values g))
  values_are i done (x ∷ xs) [] a h g =
      ap (λ ps. with_body (layer_eval k ls) top (codes "with") None a.values (as_sets ps) b e (state_behind k c a))
      (sym (pairs_past done (x ∷ xs) a.values g))
  values_are i done (x ∷ xs) (t ∷ ts) a h g =
      name_behind i done x xs t ts a h g (λ z p q. values_are (i + 1 + 1) (done ++ x ∷ []) xs ts z p q)

-- ---- their number

pub odd_kids : (xs : List Name) (ts : List WideTree) (b : TaggedTree) →
    is_odd (map bare (in_turn xs ts) ++ b ∷ []) ≡ true
odd_kids [] ts b = refl
odd_kids (x ∷ xs) [] b = refl
odd_kids (x ∷ xs) (t ∷ ts) b = odd_kids xs ts b
