-- The loop over the names and values of a `with`.
use Rattle.std.proofs.Common.{◌≡◌, ℕ, zero, suc, ◌+◌, ◌*◌, ◌-◌, ◌<◌, ◌≤◌, ◌∙◌, List, [], ◌∷◌, ◌++◌, length, drop, ap}
use Rattle.std.proofs.Common.{refl, sym, subst, arith}
use Rattle.std.specs.Prelude.{Bool, true, false, Option, Some, None, Result, slice_get, codes}
use Rattle.std.proofs.lemmas.Grind.{common_steps}
use Rattle.tx_tree.proofs.Walks.{drop_item}
use Rattle.tx_tree.specs.WideTree.{size_of, total_size, depth_of, deepest, nodes_of}
use Rattle.tx_origin.specs.Values.{WideValue, made, value_text, plain, vals, plains}
use Rattle.tx_origin.specs.TaggedTrees.{TaggedTree}
use Rattle.tx_origin.proofs.Parts.{nodes_le_size}
use Rattle.tx_env.specs.Pairs.{Name}
use Rattle.tx_exec_form.specs.Runs.{Before, State, Ran, Over, Done, Run, on_done, ◌>>=◌, ◌>>◌, give, pay}
use Rattle.tx_exec_form.specs.Frames.{Frame}
use Rattle.tx_exec_form.specs.Rows.{Eval, wrong, if_text, Sets, sizes, kept, kept_of, set_all, is_odd}
use Rattle.tx_exec_form.specs.Rows.{assign, assigned, with_body, with_parts, with_row}
use Rattle.tx_exec.specs.declared.stop.Stop.{Stop}
use Rattle.tx_exec.specs.Gives.{Gives, Fails}
use Rattle.tx_exec.specs.Settings.{sets_of, nodes_in}
use Rattle.tx_exec.specs.Told.{AreSettingsCounted}
use Rattle.tx_exec.specs.PartRuns.{kid_run, pair_named, pair_run, paired, stored_pair, assign_run}
use Rattle.tx_exec.specs.PartRuns.{size_in_pair, IsShallowPair, held_run, node_ended, with_run}
use Rattle.tx_exec.specs.declared.withs.Setting.{Setting}
use Rattle.tx_exec.specs.declared.withs.Pair.{Pair}
use Rattle.tx_exec.proofs.Each.{stop_bind, fails_as}
use Rattle.tx_exec.proofs.Kids.{there, kid_run_is}
use Rattle.tx_exec.proofs.SettingLoops.{two_more}
use Rattle.tx_exec_form.proofs.Small.{size_push, depth_push}

pub odd_false : (ts : List TaggedTree) (n : ℕ) → length ts ≡ 2 * n → is_odd ts ≡ false
odd_false [] n h = refl
odd_false (x ∷ []) n h = absurd (omega (arith, h))
odd_false (x ∷ y ∷ ts) zero h = absurd (omega (arith, h))
odd_false (x ∷ y ∷ ts) (suc n) h = odd_false ts n (omega (arith, h))

pub odd_true : (ts : List TaggedTree) (n : ℕ) → length ts ≡ 2 * n + 1 → is_odd ts ≡ true
odd_true [] n h = absurd (omega (arith, h))
odd_true (x ∷ []) n h = refl
odd_true (x ∷ y ∷ ts) zero h = absurd (omega (arith, h))
odd_true (x ∷ y ∷ ts) (suc n) h = odd_true ts n (omega (arith, h))

pub row_even : (k : ℕ) (below : Eval) (f : Frame) (label : List ℕ) (at : Option (List ℕ)) (ts : List TaggedTree)
    (a n : ℕ) → a ≡ length ts → a ≡ 2 * n → with_row k below f label at ts ≡ wrong k (codes "bad") label
row_even k below f label at ts a n h q = rw (odd_false ts n (omega (arith, h, q))) refl

pub row_odd : (k : ℕ) (below : Eval) (f : Frame) (label : List ℕ) (at : Option (List ℕ)) (ts : List TaggedTree) (n : ℕ)
    → length ts ≡ 2 * n + 1 → with_row k below f label at ts ≡ with_parts k below f label at [] [] ts
row_odd k below f label at ts n h = rw (odd_true ts n h) refl

pub two_front : (ts : List TaggedTree) (i : ℕ) (x v : TaggedTree) → slice_get ts (2 * i) ≡ Some x
    → slice_get ts (2 * i + 1) ≡ Some v → drop (2 * i) ts ≡ x ∷ v ∷ drop (2 * (i + 1)) ts
two_front ts i x v a b =
    let next : 2 * i + 1 + 1 ≡ 2 * (i + 1) = omega arith in
    drop_item ts (2 * i) x a ∙ ap (λ us. x ∷ us) (drop_item ts (2 * i + 1) v b) ∙ ap (λ n. x ∷ v ∷ drop n ts) next

-- a name and what is after it, at once
module _ (k : ℕ) (label : List ℕ) (e : Before) (behind : Run WideValue) (go : Pair → Run WideValue) where
  by_value : (name : WideValue) (x : Name) (r : Ran WideValue)
      → on_done e (λ v. go (record { name = name; words = x; value = v })) r
      ≡ on_done e (paired k label go) (on_done e (λ v. give (Some (record { name = name; words = x; value = v }))) r)
  by_value name x Over = refl
  by_value name x (Done v s) = refl

  by_words : (name : WideValue) (o : Option Name) (s : State)
      → if_text k label (λ x. behind >>= λ v. go (record { name = name; words = x; value = v })) o e s
      ≡ on_done e (paired k label go) (pair_named behind name o e s)
  by_words name None s = refl
  by_words name (Some x) s = by_value name x (behind e s)

  by_pair : (r : Ran WideValue)
      → on_done e
      (λ name. if_text k label (λ x. behind >>= λ v. go (record { name = name; words = x; value = v }))
      (value_text name)) r
      ≡ on_done e (paired k label go) (on_done e (λ name. pair_named behind name (value_text name)) r)
  by_pair Over = refl
  by_pair (Done name s) = by_words name (value_text name) s

pub front_run : (k : ℕ) (below : Eval) (f : Frame) (label : List ℕ) (ts : List TaggedTree) (i : ℕ) (x v : TaggedTree)
    (go : Pair → Run WideValue) (e : Before) (s : State) → slice_get ts i ≡ Some x → slice_get ts (i + 1) ≡ Some v
    → on_done e
    (λ name. if_text k label (λ n. below v f >>= λ w. go (record { name = name; words = n; value = w }))
    (value_text name)) (below x f e s)
    ≡ on_done e (paired k label go) (pair_run below f ts i e s)
unfolding pair_run
front_run k below f label ts i x v go e s a b =
    ap (λ m. on_done e
    (λ name. if_text k label (λ n. m >>= λ w. go (record { name = name; words = n; value = w })) (value_text name))
    (below x f e s)) (sym (kid_run_is below f ts (i + 1) v b))
    ∙ ap (λ m. on_done e
    (λ name. if_text k label (λ n. kid_run below f ts (i + 1) >>= λ w.
    go (record { name = name; words = n; value = w })) (value_text name)) (m e s))
    (sym (kid_run_is below f ts i x a))
    ∙ by_pair k label e (kid_run below f ts (i + 1)) go (kid_run below f ts i e s)

pub two_kids : (k : ℕ) (below : Eval) (f : Frame) (label : List ℕ) (at : Option (List ℕ)) (ts : List TaggedTree)
    (e : Before) (s : State) → length ts ≡ 2 → assign k below f label at ts e s ≡ assign_run k below f label at ts e s
unfolding assigned assign_run
two_kids k below f label at [] e s n = absurd (omega (arith, n))
two_kids k below f label at (x ∷ []) e s n = absurd (omega (arith, n))
two_kids k below f label at (x ∷ v ∷ []) e s n =
    front_run k below f label (x ∷ v ∷ []) 0 x v (stored_pair label at) e s refl refl
two_kids k below f label at (x ∷ v ∷ w ∷ ts) e s n = absurd (omega (arith, n))

module _ (k : ℕ) (below : Eval) (f : Frame) (label : List ℕ) (at : Option (List ℕ)) (ts : List TaggedTree) (i : ℕ)
    (vs : List WideValue) (ps : Sets) (e : Before) (s : State) (r : Ran WideValue) (lt : 2 * i + 1 < length ts)
    (run : with_parts k below f label at vs ps (drop (2 * i) ts) e s ≡ r) where
  -- what is done after a name and its value
  further : Pair → Run WideValue
  further p =
      with_parts k below f label at (vs ++ p.name ∷ p.value ∷ []) (ps ++ (p.words, Some (plain p.value)) ∷ [])
      (drop (2 * (i + 1)) ts)

  opened : r ≡ on_done e (paired k label further) (pair_run below f ts (2 * i) e s)
  unfolding further
  opened =
      let x = there ts (2 * i) (omega (arith, lt)) in
      let v = there ts (2 * i + 1) lt in
      sym run ∙ ap (λ us. with_parts k below f label at vs ps us e s) (two_front ts i x.0 v.0 x.1 v.1)
      ∙ front_run k below f label ts (2 * i) x.0 v.0 further e s x.1 v.1

  pub pair_stop : (p : Stop) → Fails p (pair_run below f ts (2 * i) e s) → Fails p r
  pair_stop p h =
      fails_as p r _ opened (stop_bind p e (paired k label further) (pair_run below f ts (2 * i) e s) h)

  pub pair_bad : (s1 : State) → pair_run below f ts (2 * i) e s ≡ Done None s1 → r ≡ wrong k (codes "bad") label e s1
  pair_bad s1 h = opened ∙ ap (on_done e (paired k label further)) h

  pub pair_next : (p : Pair) (s1 : State) (us : List WideValue) (qs : Sets)
      → pair_run below f ts (2 * i) e s ≡ Done (Some p) s1 → us ≡ vs ++ p.name ∷ p.value ∷ []
      → qs ≡ ps ++ (p.words, Some (plain p.value)) ∷ []
      → with_parts k below f label at us qs (drop (2 * (i + 1)) ts) e s1 ≡ r
  unfolding further
  pair_next p s1 us qs h a b =
      ap (λ ws. with_parts k below f label at ws qs (drop (2 * (i + 1)) ts) e s1) a
      ∙ ap (λ xs. with_parts k below f label at (vs ++ p.name ∷ p.value ∷ []) xs (drop (2 * (i + 1)) ts) e s1) b
      ∙ sym (opened ∙ ap (on_done e (paired k label further)) h)

-- ---- the body

-- what is done after the body
abbrev pub closed : List ℕ → Option (List ℕ) → List WideValue → Sets → WideValue → Run WideValue
closed label at vs old v = set_all old >> give (made label (vals (vs ++ v ∷ [])) at)

abbrev pub set_back : Sets → WideValue → Run WideValue
set_back old v = set_all old >> give v

module _ (label : List ℕ) (at : Option (List ℕ)) (vs : List WideValue) (e : Before) (m : Run WideValue) (ps : Sets)
  where
    by_closed : (v : WideValue) (r : Ran (Unit {0}))
        → on_done {A = Unit {0}} e (λ _. give (made label (vals (vs ++ v ∷ [])) at)) r
        ≡ on_done e (node_ended label at vs) (on_done {A = Unit {0}} e (λ _. give v) r)
    by_closed v Over = refl
    by_closed v (Done u s) = refl

    by_body : (old : Sets) (r : Ran WideValue)
        → on_done e (closed label at vs old) r ≡ on_done e (node_ended label at vs) (on_done e (set_back old) r)
    by_body old Over = refl
    by_body old (Done v s) = by_closed v (set_all old e s)

    by_set : (old : Sets) (r : Ran (Unit {0})) → on_done {A = Unit {0}} e (λ _. m >>= closed label at vs old) r
        ≡ on_done e (node_ended label at vs) (on_done {A = Unit {0}} e (λ _. m >>= set_back old) r)
    by_set old Over = refl
    by_set old (Done u s) = by_body old (m e s)

    by_paid : (r : Ran (Unit {0}))
        → on_done {A = Unit {0}} e (λ _. kept ps >>= λ o. set_all ps >> (m >>= closed label at vs o)) r
        ≡ on_done {A = Unit {0}} e (λ _. (kept ps >>= λ o. set_all ps >> (m >>= set_back o))
        >>= node_ended label at vs) r
    unfolding kept
    by_paid Over = refl
    by_paid (Done u s) = by_set (kept_of ps s.own) (set_all ps e s)

body_is : (below : Eval) (f : Frame) (label : List ℕ) (at : Option (List ℕ)) (vs : List WideValue) (ps : Sets)
    (ts : List TaggedTree) (i : ℕ) (b : TaggedTree) (e : Before) (s : State) → slice_get ts i ≡ Some b
    → with_body below f label at vs ps b e s ≡ with_run below f label at vs ps ts i e s
unfolding with_body with_run held_run
body_is below f label at vs ps ts i b e s h =
    ap (λ m. on_done {A = Unit {0}} e (λ _. kept ps >>= λ o. set_all ps >> (m >>= closed label at vs o))
    (pay (sizes ps) e s)) (sym (kid_run_is below f ts i b h))
    ∙ by_paid label at vs e (kid_run below f ts i) ps (pay (sizes ps) e s)

pub with_last : (k : ℕ) (below : Eval) (f : Frame) (label : List ℕ) (at : Option (List ℕ)) (vs : List WideValue)
    (ps : Sets)
    (ts : List TaggedTree) (n : ℕ) (e : Before) (s : State) → length ts ≡ 2 * n + 1
    → with_parts k below f label at vs ps (drop (2 * n) ts) e s ≡ with_run below f label at vs ps ts (2 * n) e s
with_last k below f label at vs ps ts n e s l =
    let b = there ts (2 * n) (omega (arith, l)) in
    let last : drop (2 * n + 1) ts ≡ [] = grind (arith, common_steps, l) in
    ap (λ us. with_parts k below f label at vs ps us e s) (drop_item ts (2 * n) b.0 b.1 ∙ ap (λ us. b.0 ∷ us) last)
    ∙ body_is below f label at vs ps ts (2 * n) b.0 e s b.1

pub with_unpaid : (below : Eval) (f : Frame) (label : List ℕ) (at : Option (List ℕ)) (vs : List WideValue) (ps : Sets)
    (ts : List TaggedTree) (i : ℕ) (e : Before) (s : State) (n : ℕ) (x : Stop) → n ≡ sizes ps → Fails x (pay n e s)
    → Fails x (with_run below f label at vs ps ts i e s)
unfolding with_run
with_unpaid below f label at vs ps ts i e s n x hn h =
    let rest : Unit {0} → Run WideValue = λ _. held_run below f ps ts i >>= node_ended label at vs in
    fails_as x _ _ (ap (λ m. on_done e rest (pay m e s)) (sym hn)) (stop_bind x e rest (pay n e s) h)

pub with_begun : (below : Eval) (f : Frame) (label : List ℕ) (at : Option (List ℕ)) (vs : List WideValue) (ps qs : Sets)
    (ts : List TaggedTree) (i : ℕ) (e : Before) (s s1 : State) (n : ℕ) → n ≡ sizes ps → qs ≡ ps → pay n e s ≡ Done tt s1
    → with_run below f label at vs ps ts i e s ≡ on_done e (node_ended label at vs) (held_run below f qs ts i e s1)
unfolding with_run
with_begun below f label at vs ps qs ts i e s s1 n hn hq hp =
    let paid : pay (sizes ps) e s ≡ Done tt s1 = ap (λ m. pay m e s) (sym hn) ∙ hp in
    ap (on_done {A = Unit {0}} e (λ _. held_run below f ps ts i >>= node_ended label at vs)) paid
    ∙ ap (λ xs. on_done e (node_ended label at vs) (held_run below f xs ts i e s1)) (sym hq)

pub held_begun : (below : Eval) (f : Frame) (ps old : Sets) (ts : List TaggedTree) (i : ℕ) (e : Before) (s s1 : State)
    → old ≡ kept_of ps s.own → set_all ps e s ≡ Done tt s1
    → held_run below f ps ts i e s ≡ on_done e (set_back old) (kid_run below f ts i e s1)
unfolding held_run kept
held_begun below f ps old ts i e s s1 ho hs =
    ap (λ o. on_done {A = Unit {0}} e (λ _. kid_run below f ts i >>= set_back o) (set_all ps e s)) (sym ho)
    ∙ ap (on_done {A = Unit {0}} e (λ _. kid_run below f ts i >>= set_back old)) hs

pub held_done : (old : Sets) (v : WideValue) (e : Before) (r : Ran WideValue) (s s1 : State) → r ≡ Done v s
    → set_all old e s ≡ Done tt s1 → on_done e (set_back old) r ≡ Done v s1
held_done old v e r s s1 h g = ap (on_done e (set_back old)) h ∙ ap (on_done {A = Unit {0}} e (λ _. give v)) g

-- ---- what is counted

sizes_more : (ps : Sets) (x : Name) (v : WideValue)
    → sizes (ps ++ (x, Some (plain v)) ∷ []) ≡ sizes ps + size_of (plain v)
sizes_more [] x v = omega arith
sizes_more (p ∷ ps) x v = omega (arith, sizes_more ps x v)

pub told_next : (vs us : List WideValue) (ss qs : List Setting) (p : Pair)
    (sum count sum' count' left left' start levels i : ℕ) → AreSettingsCounted vs ss sum count left start levels i
    → us ≡ vs ++ p.name ∷ p.value ∷ [] → sets_of qs ≡ sets_of ss ++ (p.words, Some (plain p.value)) ∷ []
    → nodes_in qs ≡ nodes_in ss + nodes_of (plain p.value) → sum' ≡ sum + size_of (plain p.value)
    → count' ≡ count + nodes_of (plain p.value) → size_in_pair (Some p) + left' ≤ left → IsShallowPair levels (Some p)
    → AreSettingsCounted us qs sum' count' left' start levels (i + 1)
told_next vs us ss qs p sum count sum' count' left left' start levels i h a b c et en g d =
    let two : us ≡ (vs ++ p.name ∷ []) ++ p.value ∷ [] = a ∙ sym (two_more vs _ _ p.name p.value refl refl) in
    record {
      total = omega (arith, h.total, et, ap sizes b, sizes_more (sets_of ss) p.words p.value);
      nodes = omega (arith, h.nodes, en, c);
      few = omega (arith, h.few, et, en, nodes_le_size (plain p.value));
      small = rw two (omega (arith, h.small, g, size_push vs p.name, size_push (vs ++ p.name ∷ []) p.value));
      part = rw two (omega (arith, h.part, et, size_push vs p.name, size_push (vs ++ p.name ∷ []) p.value));
      depth = rw two (omega (arith, h.depth, d.0, d.1, depth_push vs p.name, depth_push (vs ++ p.name ∷ []) p.value));
      arity = rw two (grind (arith, common_steps, h.arity));
    }

pub told_within : (vs : List WideValue) (ss : List Setting) (sum count left start levels i : ℕ)
    → AreSettingsCounted vs ss sum count left start levels i → start ≤ 1000000
    → AreSettingsCounted vs ss sum count left 1000000 levels i
told_within vs ss sum count left start levels i h g =
    record {
      total = h.total;
      nodes = h.nodes;
      few = h.few;
      small = omega (arith, h.small, g);
      part = h.part;
      depth = h.depth;
      arity = h.arity;
    }

pub double_fits : (i pairs : ℕ) → i < pairs → pairs < 32768 → 2 * i + 1 < 65536
double_fits i pairs a b = omega (arith, a, b)

pub ruleset with_rules = (told_within, double_fits, common_steps)
