-- What was set at the end, as a finite map.
use Rattle.std.proofs.Common.{◌≡◌, ℕ, Bool, true, false, cond, List, [], ◌∷◌, ◌++◌, append_assoc, refl, sym, ap, subst}
use Rattle.std.proofs.Common.{◌↔◌, ◌∙◌}
use Rattle.std.specs.Prelude.{Option, Some, None}
use Rattle.std.specs.List.{IsDistinct, AllByRecursion}
use Rattle.std.specs.Map.{keys_of}
use Rattle.std.specs.Str.{bytes_eq}
use Rattle.std.specs.Ordering.{nat_cmp, eq_by_cmp}
use Rattle.std.specs.Cmp.Lexicographic.{slice_cmp, nat_list_cmp_total, texts_ties, bytes_decides}
use Rattle.std.specs.FinMap.{find, empty, from_entries, get-from_entries}
use Rattle.tx_tree.specs.WideTree.{WideTree}
use Rattle.tx_env.specs.Pairs as pairs
use Rattle.tx_env.specs.Pairs.{Name, Pairs, listed}
use Rattle.tx_env.specs.Changes.{map_of}
use Rattle.tx_env.proofs.Maps.{get_map}
use Rattle.tx_env.proofs.Finding.{joined_cond}
use Rattle.tx_env.specs.Environments.{NameMap}
use Rattle.tx_origin.specs.Values.{WideValue}
use Rattle.tx_origin.specs.TaggedTrees.{TaggedTree}
use Rattle.tx_exec_form.specs.Maps.{LookMap}
use Rattle.tx_exec_form.specs.Runs.{Before, State, Ran, Over, Done}
use Rattle.tx_exec_form.specs.Frames.{top}
use Rattle.tx_exec_form.specs.Rows.{ex}
use Rattle.tx_exec_form.specs.Evaluated.{WideTrace, start, trace_of, traced, evaluated_in, evaluated}
use Rattle.tx_exec_form.proofs.Agreeing.{same}
use Rattle.tx_exec_form.specs.Laws.{IsPast}
use Rattle.tx_exec_form.proofs.Tracing.{over_past, past_over}
use Rattle.tx_exec.specs.States.{set_pairs}
use Rattle.tx_exec.specs.Outcomes.{wide_trace, wide_outcome}
use Rattle.tx_exec.specs.declared.outcome.Outcome.{Outcome}
use Rattle.tx_exec.specs.declared.outcome.Outcome.TheVariants as outcomes

not_set : (x : Name) (ps : Pairs) → AllByRecursion (λ y. bytes_eq x y ≡ false) (keys_of ps)
    → find (slice_cmp nat_cmp) x (set_pairs ps) ≡ None
not_set x [] h = refl
not_set x ((y, None) ∷ ps) h = not_set x ps h.1
not_set x ((y, Some t) ∷ ps) h =
    ap (λ b. cond b (Some t) (find (slice_cmp nat_cmp) x (set_pairs ps))) (sym (texts_ties x y) ∙ h.0)
    ∙ not_set x ps h.1

by_test : (x q : Name) (ps : Pairs) (b : Bool) → bytes_eq q x ≡ b
    → AllByRecursion (λ y. bytes_eq x y ≡ false) (keys_of ps)
    → find (slice_cmp nat_cmp) q (set_pairs ps) ≡ pairs.find q ps
    → pairs.find q ps ≡ cond b None (pairs.find q ps)
by_test x q ps true e h g = let same_name : q ≡ x = (bytes_decides q x).0 e in
    sym g ∙ ap (λ y. find (slice_cmp nat_cmp) y (set_pairs ps)) same_name ∙ not_set x ps h
by_test x q ps false e h g = refl

pub find_sets : (q : Name) (ps : Pairs) → IsDistinct bytes_eq (keys_of ps)
    → find (slice_cmp nat_cmp) q (set_pairs ps) ≡ pairs.find q ps
unfolding IsDistinct
find_sets q [] h = refl
find_sets q ((x, Some t) ∷ ps) h =
    ap (λ b. cond b (Some t) (find (slice_cmp nat_cmp) q (set_pairs ps))) (sym (texts_ties q x))
    ∙ ap (cond (bytes_eq q x) (Some t)) (find_sets q ps h.1)
    ∙ sym (joined_cond (bytes_eq q x) (Some t) (listed q ps))
find_sets q ((x, None) ∷ ps) h =
    let rest = find_sets q ps h.1 in
    rest ∙ by_test x q ps (bytes_eq q x) refl h.0 rest ∙ sym (joined_cond (bytes_eq q x) None (listed q ps))

-- the pairs of what was set are the map of what was set
pub sets_map : (ps : Pairs) → IsDistinct bytes_eq (keys_of ps)
    → from_entries {R = slice_cmp nat_cmp} (set_pairs ps) ≡ map_of ps
sets_map ps h =
    same (from_entries (set_pairs ps)) (map_of ps) (λ q. get-from_entries nat_list_cmp_total (set_pairs ps) q
    ∙ find_sets q ps h ∙ sym (get_map ps q))

pub more_none : (ps qs : Pairs) (x : Name) → qs ≡ ps ++ (x, None) ∷ [] → set_pairs qs ≡ set_pairs ps
more_none ps qs x e = ap set_pairs e ∙ by ps
  where
    by : (ps : Pairs) → set_pairs (ps ++ (x, None) ∷ []) ≡ set_pairs ps
    by [] = refl
    by ((y, None) ∷ ps) = by ps
    by ((y, Some u) ∷ ps) = ap (λ ws. (y, u) ∷ ws) (by ps)

pub more_some : (ps qs : Pairs) (x : Name) (t : WideTree) → qs ≡ ps ++ (x, Some t) ∷ []
    → set_pairs qs ≡ set_pairs ps ++ (x, t) ∷ []
more_some ps qs x t e = ap set_pairs e ∙ by ps
  where
    by : (ps : Pairs) → set_pairs (ps ++ (x, Some t) ∷ []) ≡ set_pairs ps ++ (x, t) ∷ []
    by [] = refl
    by ((y, None) ∷ ps) = by ps
    by ((y, Some u) ∷ ps) = ap (λ ws. (y, u) ∷ ws) (by ps)

pub ruleset sets_rules = (more_none, more_some)

-- what was gone through and what is left are the whole
pub next_some : (ps qs : List (Name × WideTree)) (rest : Pairs) (whole : List (Name × WideTree)) (n : Name)
    (t : WideTree) → qs ≡ ps ++ (n, t) ∷ [] → ps ++ (n, t) ∷ set_pairs rest ≡ whole → qs ++ set_pairs rest ≡ whole
next_some ps qs rest whole n t e h = ap (λ us. us ++ set_pairs rest) e ∙ append_assoc ps ((n, t) ∷ []) (set_pairs rest)
    ∙ h

abbrev record_of : WideValue → LookMap → NameMap → ℕ → ℕ → WideTrace
record_of v looks writes cost height =
    record { value = v; looks = looks; writes = writes; cost = cost; height = height }

pub trace_is : (v : WideValue) (own looks ls : Pairs) (ws : List (Name × WideTree)) (cost height : ℕ) → ls ≡ looks
    → ws ≡ set_pairs own → IsDistinct bytes_eq (keys_of own)
    → record_of v (from_entries ls) (from_entries ws) cost height ≡ record_of v (from_entries looks) (map_of own) cost
    height
trace_is v own looks ls ws cost height a b once =
    ap (λ us. record_of v (from_entries us) (from_entries ws) cost height) a
    ∙ ap (λ us. record_of v (from_entries looks) (from_entries us) cost height) b
    ∙ ap (λ m. record_of v (from_entries looks) m cost height) (sets_map own once)

module _ (t : TaggedTree) (e : Before) (c : ℕ) (own looks : Pairs) (left slack : ℕ) (a : own ≡ []) (b : looks ≡ [])
    (p : left ≡ c) (q : slack ≡ 400) where
  begun : ex 400 t top e (record { own = map_of own; looks = from_entries looks; left = left; slack = slack }) ≡ ex 400
      t top e (start 400 c)
  begun =
      ap (λ us. ex 400 t top e (record { own = map_of us; looks = from_entries looks; left = left; slack = slack })) a
      ∙ ap (λ us. ex 400 t top e (record { own = empty; looks = from_entries us; left = left; slack = slack })) b
      ∙ ap (λ n. ex 400 t top e (record { own = empty; looks = empty; left = n; slack = slack })) p
      ∙ ap (λ n. ex 400 t top e (record { own = empty; looks = empty; left = c; slack = n })) q

  pub eval_done : (v : WideValue) (s : State)
      → ex 400 t top e (record { own = map_of own; looks = from_entries looks; left = left; slack = slack }) ≡ Done v s
      → Some (trace_of 400 c v s) ≡ evaluated t e c
  unfolding evaluated_in
  eval_done v s h = sym (ap (traced 400 c) (sym begun ∙ h))

  pub eval_over : ex 400 t top e (record { own = map_of own; looks = from_entries looks; left = left; slack = slack })
      ≡ Over → None ≡ evaluated t e c
  unfolding evaluated_in
  eval_over h = sym (ap (traced 400 c) (sym begun ∙ h))

none_among : (x : Name) (ps : Pairs) → AllByRecursion (λ y. bytes_eq x y ≡ false) (keys_of ps)
    → AllByRecursion (λ y. bytes_eq x y ≡ false) (keys_of (set_pairs ps))
none_among x [] h = tt
none_among x ((y, None) ∷ ps) h = none_among x ps h.1
none_among x ((y, Some t) ∷ ps) h = (h.0, none_among x ps h.1)

distinct_sets : (ps : Pairs) → IsDistinct bytes_eq (keys_of ps) → IsDistinct bytes_eq (keys_of (set_pairs ps))
unfolding IsDistinct
distinct_sets [] h = tt
distinct_sets ((y, None) ∷ ps) h = distinct_sets ps h.1
distinct_sets ((y, Some t) ∷ ps) h = (none_among y ps h.0, distinct_sets ps h.1)

-- names that occur once in what was noted do so in what was set
pub sets_once : (ps : Pairs) (ws : List (Name × WideTree)) → ws ≡ set_pairs ps → IsDistinct bytes_eq (keys_of ps)
    → IsDistinct bytes_eq (keys_of ws)
sets_once ps ws e h = subst (λ us. IsDistinct bytes_eq (keys_of us)) (sym e) (distinct_sets ps h)

pub looks_once : (ps ls : Pairs) → ls ≡ ps → IsDistinct bytes_eq (keys_of ps) → IsDistinct bytes_eq (keys_of ls)
looks_once ps ls e h = subst (λ us. IsDistinct bytes_eq (keys_of us)) (sym e) h

-- `Over` exactly where every trace of the tree costs more or is higher
pub over_iff : (o : Outcome) (t : TaggedTree) (e : Before) (c : ℕ) → wide_outcome o ≡ evaluated t e c
    → (o ≡ outcomes.Over) ↔ IsPast 400 c t e
over_iff outcomes.Over t e c h = (λ _. over_past 400 c t e (sym h), λ _. refl)
over_iff (outcomes.Done trace) t e c h = (
  λ q. absurd cc,
  λ past. let none : evaluated t e c ≡ None = past_over 400 c t e past in
      let off : Some (wide_trace trace) ≡ None = h ∙ none in absurd cc,
)
