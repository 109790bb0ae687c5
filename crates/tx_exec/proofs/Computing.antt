-- The operands of a primitive, and what its value costs.
use Rattle.std.proofs.Common.{◌≡◌, ℕ, suc, ◌+◌, ◌-◌, ◌<◌, ◌≤◌, Bool, true, false, List, [], ◌∷◌, ◌++◌, length, drop}
use Rattle.std.proofs.Common.{get_or, map, append_assoc, refl, sym, ap, min, ◌∙◌, ⊎_elim, arith}
use Rattle.std.specs.Prelude.{if◌then◌else◌, nat_le, None}
use Rattle.std.proofs.lemmas.Grind.{common_steps}
use Rattle.std.proofs.lemmas.Bool.{cases_lt}
use Rattle.tx_tree.specs.WideTree.{WideTree, leaf, node, forest, cons, nodes_of, total_nodes, total_size, size_of}
use Rattle.tx_tree.specs.WideTree.{depth_of}
use Rattle.tx_prim.specs.declared.names.Prim.{Prim}
use Rattle.tx_prim.specs.Table.{primitive_value}
use Rattle.tx_origin.specs.Values.{WideValue, vals, plain, plains, whole}
use Rattle.tx_origin.proofs.Wholes.{plain_whole}
use Rattle.tx_origin.proofs.Parts.{nodes_le_size}
use Rattle.tx_env.specs.Environments.{NameMap}
use Rattle.tx_exec_form.specs.Maps.{LookMap}
use Rattle.tx_exec_form.specs.Runs.{Before, State, Over, Done, Run, on_done, ◌>>◌, give, pay, need}
use Rattle.tx_exec_form.specs.Rows.{taken, itself}
use Rattle.tx_exec.specs.declared.stop.Stop.{Stop}
use Rattle.tx_exec.specs.Gives.{Fails}
use Rattle.tx_exec.specs.CallRuns.{computed}
use Rattle.tx_exec.proofs.Kids.{some_size}
use Rattle.tx_exec.proofs.Leading.{item_drop}
use Rattle.tx_exec.proofs.Each.{fails_as, stop_bind}

pub nodes_here : (vs : List WideValue) (i : ℕ) (v : WideValue) → i < length vs → v ≡ get_or vs i v
    → total_nodes (plains (vals (drop i vs))) ≡ nodes_of (plain v) + total_nodes (plains (vals (drop (i + 1) vs)))
nodes_here vs i v lt is = ap (λ us. total_nodes (plains (vals us))) (item_drop vs i v lt is)

pub nodes_end : (vs : List WideValue) (i : ℕ) → length vs ≤ i → total_nodes (plains (vals (drop i vs))) ≡ 0
nodes_end vs i le =
    let end : drop i vs ≡ [] = grind (arith, common_steps, le) in
    ap (λ us. total_nodes (plains (vals us))) end

pub few_nodes : (vs : List WideValue) → total_nodes (plains (vals vs)) ≤ total_size (plains (vals vs))
few_nodes [] = omega arith
few_nodes (v ∷ vs) = omega (arith, nodes_le_size (plain v), few_nodes vs)

pub ruleset node_rules = (nodes_here, nodes_end, few_nodes)

pub trees_next : (vs : List WideValue) (i : ℕ) (v : WideValue) (ts us : List WideTree) (t : WideTree)
    (all : List WideTree) → i < length vs → v ≡ get_or vs i v → us ≡ ts ++ t ∷ [] → t ≡ plain v
    → ts ++ map plain (drop i vs) ≡ all → us ++ map plain (drop (i + 1) vs) ≡ all
trees_next vs i v ts us t all lt is e p run =
    ap (λ ws. ws ++ map plain (drop (i + 1) vs)) e ∙ append_assoc ts (t ∷ []) (map plain (drop (i + 1) vs))
    ∙ ap (λ w. ts ++ w ∷ map plain (drop (i + 1) vs)) p ∙ ap (λ ws. ts ++ map plain ws) (sym (item_drop vs i v lt is))
    ∙ run

no_more : (ts : List WideTree) → ts ++ [] ≡ ts
no_more [] = refl
no_more (t ∷ ts) = ap (λ us. t ∷ us) (no_more ts)

pub trees_end : (vs : List WideValue) (i : ℕ) (ts all : List WideTree) → length vs ≤ i
    → ts ++ map plain (drop i vs) ≡ all → ts ≡ all
trees_end vs i ts all le run =
    let end : drop i vs ≡ [] = grind (arith, common_steps, le) in
    sym (no_more ts) ∙ ap (λ us. ts ++ map plain us) (sym end) ∙ run

pub ruleset tree_rules = (trees_next, trees_end, nodes_here, nodes_end)

-- ---- what the value costs

pub forest_plains : (vs : List WideValue) → forest (map plain vs) ≡ plains (vals vs)
forest_plains [] = refl
forest_plains (v ∷ vs) = ap (λ us. cons (plain v) us) (forest_plains vs)

le_true : (a b : ℕ) → a ≤ b → nat_le a b ≡ true
le_true a b h = grind (arith, common_steps, h)

le_false : (a b : ℕ) → b < a → nat_le a b ≡ false
le_false a b h = grind (arith, common_steps, h)

module _ {A : Type 0} (a : A) (d k : ℕ) (e : Before) (o : NameMap) (q : LookMap) where
  state : ℕ → ℕ → State
  state l i = record { own = o; looks = q; left = l; slack = i }

  paid_by : (b : Bool) (n l i : ℕ) → nat_le n l ≡ b
      → pay n e (state l i) ≡ (if b then Done tt (state (l - n) i) else Over)
  unfolding pay state
  paid_by b n l i h = ap (λ c. if c then Done tt (record { own = o; looks = q; left = l - n; slack = i }) else Over) h

  needed_by : (b : Bool) (l i : ℕ) → nat_le d k ≡ b
      → need d k e (state l i) ≡ (if b then Done tt (state l (min i (k - d))) else Over)
  unfolding need state
  needed_by b l i h =
      ap (λ c. if c then Done tt (record { own = o; looks = q; left = l; slack = min i (k - d) }) else Over) h

  last : ℕ → Run A
  last n = pay n >> give a

  last_over : (n l i : ℕ) → l < n → last n e (state l i) ≡ Over
  unfolding last
  last_over n l i lt = ap (on_done e (λ _. give a)) (paid_by false n l i (le_false n l lt))

  last_done : (n l i : ℕ) → n ≤ l → last n e (state l i) ≡ Done a (state (l - n) i)
  unfolding last
  last_done n l i le = ap (on_done e (λ _. give a)) (paid_by true n l i (le_true n l le))

  -- a step less to pay, and one less to pay it with
  last_less : (n l i : ℕ) → last (n + 1) e (state (l + 1) i) ≡ last n e (state l i)
  last_less n l i = ⊎_elim
      (λ (lt : l < n). last_over (n + 1) (l + 1) i (omega (arith, lt)) ∙ sym (last_over n l i lt))
      (λ (le : n ≤ l). let same : (l + 1) - (n + 1) ≡ l - n = omega arith in
      last_done (n + 1) (l + 1) i (omega (arith, le)) ∙ ap (λ m. Done a (state m i)) same ∙ sym (last_done n l i le))
      (cases_lt l n)

  rest : ℕ → Run A
  rest n = need d k >> last n

  rest_by : (b : Bool) (n l i : ℕ) → nat_le d k ≡ b
      → rest n e (state l i) ≡ (if b then last n e (state l (min i (k - d))) else Over)
  unfolding rest
  rest_by true n l i h = ap (on_done e (λ _. last n)) (needed_by true l i h)
  rest_by false n l i h = ap (on_done e (λ _. last n)) (needed_by false l i h)

  rest_less_by : (b : Bool) (n l i : ℕ) → nat_le d k ≡ b → rest (n + 1) e (state (l + 1) i) ≡ rest n e (state l i)
  rest_less_by true n l i h = rest_by true (n + 1) (l + 1) i h ∙ last_less n l (min i (k - d))
      ∙ sym (rest_by true n l i h)
  rest_less_by false n l i h = rest_by false (n + 1) (l + 1) i h ∙ sym (rest_by false n l i h)

  rest_none_by : (b : Bool) (n i : ℕ) → nat_le d k ≡ b → rest (n + 1) e (state 0 i) ≡ Over
  rest_none_by true n i h = rest_by true (n + 1) 0 i h ∙ last_over (n + 1) 0 (min i (k - d)) (omega arith)
  rest_none_by false n i h = rest_by false (n + 1) 0 i h

  all_over : (m n l i : ℕ) → l < m → (pay m >> rest n) e (state l i) ≡ Over
  all_over m n l i lt = ap (on_done e (λ _. rest n)) (paid_by false m l i (le_false m l lt))

  all_then : (m n l i : ℕ) → m ≤ l → (pay m >> rest n) e (state l i) ≡ rest n e (state (l - m) i)
  all_then m n l i le = ap (on_done e (λ _. rest n)) (paid_by true m l i (le_true m l le))

  with_some : (m n l i : ℕ) → m ≤ l → (pay m >> rest (n + 1)) e (state l i) ≡ (pay (m + 1) >> rest n) e (state l i)
  with_some m n l i le = ⊎_elim
      (λ (lt : l < m + 1). let none : l - m ≡ 0 = omega (arith, lt) in
      all_then m (n + 1) l i le ∙ ap (λ u. rest (n + 1) e (state u i)) none ∙ rest_none_by (nat_le d k) n i refl
      ∙ sym (all_over (m + 1) n l i lt))
      (λ (more : m + 1 ≤ l). let one : l - m ≡ (l - (m + 1)) + 1 = omega (arith, more) in
      all_then m (n + 1) l i le ∙ ap (λ u. rest (n + 1) e (state u i)) one
      ∙ rest_less_by (nat_le d k) n (l - (m + 1)) i refl ∙ sym (all_then (m + 1) n l i more))
      (cases_lt l (m + 1))

  -- one step is paid before the levels are judged, and not after them
  earlier : (m n l i : ℕ) → (pay m >> rest (n + 1)) e (state l i) ≡ (pay (m + 1) >> rest n) e (state l i)
  earlier m n l i = ⊎_elim
      (λ (lt : l < m). all_over m (n + 1) l i lt ∙ sym (all_over (m + 1) n l i (omega (arith, lt))))
      (λ (le : m ≤ l). with_some m n l i le)
      (cases_lt l m)

pub paid_first : {A : Type 0} (a : A) (d k m n : ℕ) (e : Before) (s : State)
    → (pay m >> (need d k >> (pay (n + 1) >> give a))) e s ≡ (pay (m + 1) >> (need d k >> (pay n >> give a))) e s
unfolding state last rest
paid_first a d k m n e s = earlier a d k e s.own s.looks m n s.left s.slack

pub computed_is : (k : ℕ) (which : Prim) (vs : List WideValue) (e : Before) (s : State) (t : WideTree)
    → t ≡ primitive_value which (map plain vs)
    → computed k which vs e s ≡ (pay (total_nodes (plains (vals vs)) + 1) >> itself k (record { tree = t; at = None }))
    e s
unfolding computed taken
computed_is k which vs e s t h =
    let v = whole None t in
    let n : size_of (plain v) ≡ (size_of (plain v) - 1) + 1 = omega (arith, some_size (plain v)) in
    ap (λ u. (pay (total_nodes (plains (vals vs))) >>
    (need (depth_of (plain (whole None u))) k >> (pay (size_of (plain (whole None u))) >> give (whole None u)))) e
    s) (sym h)
    ∙ ap (λ m. (pay (total_nodes (plains (vals vs))) >> (need (depth_of (plain v)) k >> (pay m >> give v))) e s) n
    ∙ paid_first v (depth_of (plain v)) k (total_nodes (plains (vals vs))) (size_of (plain v) - 1) e s
    ∙ ap (λ u. (pay (total_nodes (plains (vals vs)) + 1) >> (need (depth_of u) k >> (pay (size_of u - 1) >> give v))) e
    s) (plain_whole None t)

pub computed_over : (k : ℕ) (which : Prim) (vs : List WideValue) (e : Before) (s : State) (n : ℕ) (x : Stop)
    → n ≡ total_nodes (plains (vals vs)) → Fails x (pay (n + 1) e s)
    → Fails x (computed k which vs e s)
computed_over k which vs e s n x h over =
    let t = primitive_value which (map plain vs) in
    let rest : Unit {0} → Run WideValue = λ _. itself k (record { tree = t; at = None }) in
    fails_as x _ _ (computed_is k which vs e s t refl ∙ ap (λ m. on_done e rest (pay (m + 1) e s)) (sym h))
    (stop_bind x e rest (pay (n + 1) e s) over)

pub computed_then : (k : ℕ) (which : Prim) (vs : List WideValue) (e : Before) (s s1 : State) (n : ℕ) (t : WideTree)
    → n ≡ total_nodes (plains (vals vs)) → pay (n + 1) e s ≡ Done tt s1
    → t ≡ primitive_value which (map plain vs) → computed k which vs e s ≡ itself k (record { tree = t; at = None }) e
    s1
computed_then k which vs e s s1 n t h paid is =
    let rest : Unit {0} → Run WideValue = λ _. itself k (record { tree = t; at = None }) in
    computed_is k which vs e s t is ∙ ap (λ m. on_done e rest (pay (m + 1) e s)) (sym h) ∙ ap (on_done e rest) paid

pub ruleset compute_rules = (few_nodes, forest_plains, some_size, common_steps)
