-- A value is no larger than the steps used, and no deeper than the levels used.
use Rattle.std.proofs.Common.{◌≡◌, ℕ, zero, suc, ◌+◌, ◌-◌, ◌≤◌, min, max, Bool, true, false, List, [], ◌∷◌, ◌++◌}
use Rattle.std.proofs.Common.{length, refl, subst, arith}
use Rattle.std.specs.Prelude.{Option, Some, None, ℤ, nat_le, ◌&&◌, map, codes, if◌then◌else◌}
use Rattle.std.specs.FinMap.{get}
use Rattle.std.proofs.lemmas.Grind.{common_steps}
use Rattle.tx_tree.specs.WideTree.{WideTree, leaf, node, children_of, size_of, total_size, depth_of, deepest}
use Rattle.tx_tree.specs.WideTree.{total_nodes}
use Rattle.tx_prim.specs.declared.names.Prim.{Prim}
use Rattle.tx_prim.specs.Names.{named as primitive_named}
use Rattle.tx_prim.specs.Table.{primitive_value}
use Rattle.tx_origin.specs.Values.{WideValue, text, made, vals, value_text, plain, plains, whole}
use Rattle.tx_origin.specs.TaggedTrees.{TaggedTree, kids_from, kids_of}
use Rattle.tx_origin.proofs.Parts.{total_size-append, deepest-append}
use Rattle.tx_origin.proofs.Wholes.{plain_whole}
use Rattle.tx_env.specs.Pairs.{Name}
use Rattle.tx_exec_form.specs.Runs.{Before, State, Ran, Over, Done, Run, on_done, ◌>>=◌, ◌>>◌, give, pay, need, look}
use Rattle.tx_exec_form.specs.Runs.{from_own}
use Rattle.tx_exec_form.specs.Frames.{Frame, caller_of, Found, Unbound, Missing, Here, All, argument_in}
use Rattle.tx_exec_form.specs.Numbers.{integers_of, part_of, part_among, from_number, to_number, numbers_between}
use Rattle.tx_exec_form.specs.Words.{row_of, is_label}
use Rattle.tx_exec_form.specs.declared.TheConstants.{MOST_TURNS}
use Rattle.tx_exec_form.specs.Rows.{Eval, wrong, taken, each, rebuilt, if_text, stored, assigned, assign, Sets, set_all}
use Rattle.tx_exec_form.specs.Rows.{sizes, kept, kept_of, with_body, with_parts, is_odd, value_found, truth, value_of}
use Rattle.tx_exec_form.specs.Rows.{provides_of, eval_of, unary_run, only_child, unary_row, quote, used, part_used}
use Rattle.tx_exec_form.specs.Rows.{numbered}
use Rattle.tx_exec_form.specs.Rows.{arg_part, arg_found, arg_of, arg_named, arg, macro_in, applied, is_macro, called}
use Rattle.tx_exec_form.specs.Rows.{tag_found, tag_run, macro, row, leaf_run, node_run, level, ex, EvalAll, itself}
use Rattle.tx_exec_form.specs.Rows.{xmacro, all_used, all_numbered, all_part, tuple_of, call_over, evaluated_made}
use Rattle.tx_exec_form.specs.Rows.{mapped, map_numbered, map_parts, map_found, map_args_run, map_named, map_args}
use Rattle.tx_exec_form.specs.Rows.{value_truth, decided, chosen, gathered, turns, while_row, primitive}
use Rattle.tx_exec_form.specs.Rows.{by_name, xmacro_in, is_xmacro, applied_all, tuple_run, ex_all}
use Rattle.tx_exec_form.specs.declared.rows.Row.{Row}
use Rattle.tx_exec_form.specs.declared.rows.Row.TheVariants as rows
use Rattle.tx_exec_form.specs.declared.rows.Unary.{Unary}
use Rattle.tx_exec_form.specs.declared.rows.Unary.TheVariants as unaries
use Rattle.tx_exec_form.specs.declared.rows.Taking.{Taking}
use Rattle.tx_exec_form.specs.declared.rows.Taking.TheVariants as takings

-- at most so many steps are left, and at most so much slack
pub record At (l i : ℕ) (s : State) : Type 0 where
  pub left : s.left ≤ l
  pub slack : s.slack ≤ i

-- where l steps were left: the value is no larger than the steps used, no deeper than the levels used of j, and the
-- slack is at most i
pub record Fits (l j i : ℕ) (v : WideValue) (s : State) : Type 0 where
  pub size : size_of (plain v) + s.left ≤ l
  pub depth : depth_of (plain v) + s.slack ≤ j
  pub slack : s.slack ≤ i

abbrev pub Ends : {A : Type 0} → (A → State → Type 0) → Ran A → Type 0
Ends Q Over = Unit {0}
Ends Q (Done a s) = Q a s

-- from states with P only states with Q are reached
pub record Leads {A : Type 0} (P : State → Type 0) (m : Run A) (Q : A → State → Type 0) : Type 0 where
  pub runs : (e : Before) (s : State) → P s → Ends Q (m e s)

module _ {A : Type 0} {R : A → State → Type 0} where
  then_ends : {B : Type 0} (P : B → State → Type 0) (f : B → Run A) (e : Before) (r : Ran B) → Ends P r →
      ((b : B) → Leads (P b) (f b) R) → Ends R (on_done e f r)
  then_ends P f e Over h g = tt
  then_ends P f e (Done b s) h g = (g b).runs e s h

  pub bind : {B : Type 0} {P : State → Type 0} {Q : B → State → Type 0} {m : Run B} {f : B → Run A} → Leads P m Q →
      ((b : B) → Leads (Q b) (f b) R) → Leads P (m >>= f) R
  bind {Q = Q} {m = m} {f = f} h g = record { runs = λ e s p. then_ends Q f e (m e s) (h.runs e s p) g }

  pub weaker : {P P' : State → Type 0} {m : Run A} → ((s : State) → P' s → P s) → Leads P m R → Leads P' m R
  weaker h g = record { runs = λ e s p. g.runs e s (h s p) }

-- a value after which something else is done
pub after : {A : Type 0} {R : A → State → Type 0} (l j i : ℕ) {m : Run WideValue} {f : WideValue → Run A} →
    Leads (At l i) m (Fits l j i)
    → ((v : WideValue) → size_of (plain v) ≤ l → depth_of (plain v) ≤ j →
    Leads (At (l - size_of (plain v)) (min i (j - depth_of (plain v)))) (f v) R) → Leads (At l i) (m >>= f) R
after l j i {f = f} h g = bind h
    (λ v. record {
      runs = λ e s p.
          (g v (omega (arith, p.size)) (omega (arith, p.depth))).runs e s (record {
            left = omega (arith, p.size);
            slack =
                omega (arith, p.depth, p.slack);
          });
    })

paid : {A : Type 0} {R : A → State → Type 0} (l i n : ℕ) (m : Run A) (e : Before) (s : State) (b : Bool) →
    b ≡ nat_le n s.left → At l i s → (n ≤ l → Leads (At (l - n) i) m R) →
    Ends R (on_done {A = Unit {0}} e (λ _. m) (if b then Done tt (record s { left = s.left - n }) else Over))
paid l i n m e s false q h g = tt
paid l i n m e s true q h g =
    let enough : n ≤ s.left = grind (arith, common_steps, q) in
    (g (omega (arith, enough, h.left))).runs e (record s { left = s.left - n }) (record {
      left =
          omega (arith, h.left);
      slack = h.slack;
    })

pub pays : {A : Type 0} {R : A → State → Type 0} (l i n : ℕ) {m : Run A} → (n ≤ l → Leads (At (l - n) i) m R) →
    Leads (At l i) (pay n >> m) R
unfolding pay
pays l i n {m = m} g = record { runs = λ e s h. paid l i n m e s (nat_le n s.left) refl h g }

needed : {A : Type 0} {R : A → State → Type 0} (l i n k : ℕ) (m : Run A) (e : Before) (s : State) (b : Bool) →
    b ≡ nat_le n k → At l i s → (n ≤ k → Leads (At l (min i (k - n))) m R) →
    Ends R (on_done {A = Unit {0}} e (λ _. m) (if b then Done tt (record s { slack = min s.slack (k - n) }) else Over))
needed l i n k m e s false q h g = tt
needed l i n k m e s true q h g =
    let enough : n ≤ k = grind (arith, common_steps, q) in
    (g enough).runs e (record s { slack = min s.slack (k - n) }) (record {
      left = h.left;
      slack =
          omega (arith, h.slack);
    })

pub needs : {A : Type 0} {R : A → State → Type 0} (l i n k : ℕ) {m : Run A} →
    (n ≤ k → Leads (At l (min i (k - n))) m R) → Leads (At l i) (need n k >> m) R
unfolding need
needs l i n k {m = m} g = record { runs = λ e s h. needed l i n k m e s (nat_le n k) refl h g }

looked : {A : Type 0} {R : A → State → Type 0} (l i : ℕ) (x : Name) (f : Option WideTree →
    Run A) (e : Before) (s : State) (r : Option WideTree) → At l i s →
    ((t : Option WideTree) → Leads (At l i) (f t) R) → Ends R (on_done e f (from_own x r e s))
looked l i x f e s (Some t) h g = (g (Some t)).runs e s h
looked l i x f e s None h g = (g (e x)).runs e _ (record { left = h.left; slack = h.slack })

pub looks : {A : Type 0} {R : A → State → Type 0} (l i : ℕ) (x : Name) {f : Option WideTree → Run A} →
    ((t : Option WideTree) → Leads (At l i) (f t) R) → Leads (At l i) (look x >>= f) R
unfolding look
looks l i x {f = f} g = record { runs = λ e s h. looked l i x f e s (get s.own x) h g }

pub gives : (l i l' j i' : ℕ) (v : WideValue) → size_of (plain v) + l ≤ l' → depth_of (plain v) + i ≤ j → i ≤ i' →
    Leads (At l i) (give v) (Fits l' j i')
gives l i l' j i' v a b c = record {
  runs =
      λ e s h. record {
        size = omega (arith, h.left, a);
        depth = omega (arith, h.slack, b);
        slack =
            omega (arith, h.slack, c);
      };
}

set_ends : {A : Type 0} {R : A → State → Type 0} (l i : ℕ) (m : Run A) → Leads (At l i) m R →
    (ps : Sets) (e : Before) (s : State) → At l i s → Ends R (on_done e (λ _. m) (set_all ps e s))
unfolding set_all
set_ends l i m g [] e s h = g.runs e s h
set_ends l i m g (p ∷ ps) e s h = set_ends l i m g ps e _ (record { left = h.left; slack = h.slack })

set_alls : {A : Type 0} {R : A → State → Type 0} (l i : ℕ) (ps : Sets) {m : Run A} → Leads (At l i) m R →
    Leads (At l i) (set_all ps >> m) R
set_alls l i ps {m = m} g = record { runs = λ e s h. set_ends l i m g ps e s h }

keeps : {A : Type 0} {R : A → State → Type 0} (l i : ℕ) (ps : Sets) {f : Sets → Run A} →
    ((old : Sets) → Leads (At l i) (f old) R) → Leads (At l i) (kept ps >>= f) R
unfolding kept
keeps l i ps g = record { runs = λ e s h. (g (kept_of ps s.own)).runs e s h }

-- so many values, as `Fits`
pub record FitAll (l j i : ℕ) (vs : List WideValue) (s : State) : Type 0 where
  pub size : total_size (plains (vals vs)) + s.left ≤ l
  pub depth : deepest (plains (vals vs)) + s.slack ≤ j
  pub slack : s.slack ≤ i

pub size_push : (vs : List WideValue) (v : WideValue) →
    total_size (plains (vals (vs ++ v ∷ []))) ≡ total_size (plains (vals vs)) + size_of (plain v)
size_push vs v = omega (arith, total_size-append vs (v ∷ []))

pub size_two : (vs : List WideValue) (u v : WideValue) →
    total_size (plains (vals (vs ++ u ∷ v ∷ [])))
    ≡ total_size (plains (vals vs)) + size_of (plain u) + size_of (plain v)
size_two vs u v = omega (arith, total_size-append vs (u ∷ v ∷ []))

pub depth_two : (vs : List WideValue) (u v : WideValue) →
    deepest (plains (vals (vs ++ u ∷ v ∷ [])))
    ≡ max (deepest (plains (vals vs))) (max (depth_of (plain u)) (depth_of (plain v)))
depth_two vs u v = omega (arith, deepest-append vs (u ∷ v ∷ []))

pub depth_push : (vs : List WideValue) (v : WideValue) →
    deepest (plains (vals (vs ++ v ∷ []))) ≡ max (deepest (plains (vals vs))) (depth_of (plain v))
depth_push vs v = omega (arith, deepest-append vs (v ∷ []))

-- ---- the rows, at level j + 1, where l + 1 steps were left and so l are left after the step of the node

module _ (j : ℕ) where
  wrongs : (l l' i i' : ℕ) (kind detail : List ℕ) → l ≤ l' → i ≤ i' →
      Leads (At l i) (wrong (suc j) kind detail) (Fits l' (suc j) i')
  unfolding wrong
  wrongs l l' i i' kind detail le r =
      needs l i 2 (suc j) (λ a. pays l _ _
      (λ b. gives _ _ l' (suc j) i' _ (omega (arith, b, le)) (omega (arith, a)) (omega (arith, r))))

  bads : (label : List ℕ) (l l' i i' : ℕ) → l ≤ l' → i ≤ i' →
      Leads (At l i) (wrong (suc j) (codes "bad") label) (Fits l' (suc j) i')
  bads label l l' i i' le r = wrongs l l' i i' (codes "bad") label le r

  takens : (l l' i i' : ℕ) (v : WideValue) → l ≤ l' → i ≤ i' → Leads (At l i) (taken (suc j) v) (Fits l' (suc j) i')
  unfolding taken
  takens l l' i i' v le r =
      needs l i _ (suc j) (λ a. pays l _ _
      (λ b. gives _ _ l' (suc j) i' v (omega (arith, b, le)) (omega (arith, a)) (omega (arith, r))))

  nameds : (l l' i i' : ℕ) (label : List ℕ) (go : Name → Run WideValue) (r : Option Name) → l ≤ l' → i ≤ i' →
      ((x : Name) → Leads (At l i) (go x) (Fits l' (suc j) i')) →
      Leads (At l i) (if_text (suc j) label go r) (Fits l' (suc j) i')
  nameds l l' i i' label go (Some x) le r h = h x
  nameds l l' i i' label go None le r h = bads label l l' i i' le r

  tests : (b : Bool) (m n : Run WideValue) (l l' i i' : ℕ) → Leads (At l i) m (Fits l' (suc j) i') →
      Leads (At l i) n (Fits l' (suc j) i') → Leads (At l i) (if b then m else n) (Fits l' (suc j) i')
  tests true m n l l' i i' g h = g
  tests false m n l l' i i' g h = h

  value_ofs : (label : List ℕ) (v : WideValue) (l l' i i' : ℕ) → l ≤ l' → i ≤ i' →
      Leads (At l i) (value_of (suc j) label v) (Fits l' (suc j) i')
  unfolding value_of
  value_ofs label v l l' i i' p r = nameds l l' i i' label _ (value_text v) p r (λ n. looks l i n (λ t. found n t))
    where
      found : (n : Name) (t : Option WideTree) → Leads (At l i) (value_found (suc j) n t) (Fits l' (suc j) i')
      found n (Some t) = takens l l' i i' (whole None t) p r
      found n None = wrongs l l' i i' (codes "undefined") n p r

  provides_ofs : (label : List ℕ) (v : WideValue) (l l' i i' : ℕ) → l ≤ l' → i ≤ i' →
      Leads (At l i) (provides_of (suc j) label v) (Fits l' (suc j) i')
  unfolding provides_of
  provides_ofs label v l l' i i' p r =
      nameds l l' i i' label _ (value_text v) p r (λ n. looks l i n (λ t. takens l l' i i' (text (truth t) None) p r))

  quotes : (label : List ℕ) (kids : List TaggedTree) (l i : ℕ) →
      Leads (At l i) (quote (suc j) label kids) (Fits (suc l) (suc j) i)
  quotes label [] l i = bads label l (suc l) i i (omega arith) (omega arith)
  quotes label (t ∷ []) l i = takens l (suc l) i i _ (omega arith) (omega arith)
  quotes label (t ∷ u ∷ ts) l i = bads label l (suc l) i i (omega arith) (omega arith)

  itselves : (t : TaggedTree) (l i : ℕ) → Leads (At l i) (itself (suc j) t) (Fits (suc l) (suc j) i)
  itselves t l i =
      let same = plain_whole t.at t.tree in
      needs l i _ (suc j) (λ a. pays l _ _
      (λ b. gives _ _ (suc l) (suc j) i (whole t.at t.tree) (rw same (omega (arith, b))) (rw same (omega (
        arith,
        a,
      ))) (omega arith)))

  macros : (label : List ℕ) (t : TaggedTree) (kids : List TaggedTree) (l i : ℕ) →
      Leads (At l i) (macro (suc j) label t kids) (Fits (suc l) (suc j) i)
  macros label t [] l i = bads label l (suc l) i i (omega arith) (omega arith)
  macros label t (x ∷ ts) l i = itselves t l i

  xmacros : (label : List ℕ) (t : TaggedTree) (kids : List TaggedTree) (l i : ℕ)
      → Leads (At l i) (xmacro (suc j) label t kids) (Fits (suc l) (suc j) i)
  xmacros label t [] l i = bads label l (suc l) i i (omega arith) (omega arith)
  xmacros label t (x ∷ []) l i = bads label l (suc l) i i (omega arith) (omega arith)
  xmacros label t (x ∷ b ∷ []) l i = itselves t l i
  xmacros label t (x ∷ b ∷ y ∷ ts) l i = bads label l (suc l) i i (omega arith) (omega arith)

  decideds : (label : List ℕ) (go stop : Run WideValue) (o : Option Bool) (l l' i i' : ℕ) → l ≤ l' → i ≤ i'
      → Leads (At l i) go (Fits l' (suc j) i') → Leads (At l i) stop (Fits l' (suc j) i')
      → Leads (At l i) (decided (suc j) label go stop o) (Fits l' (suc j) i')
  decideds label go stop (Some true) l l' i i' p r g h = g
  decideds label go stop (Some false) l l' i i' p r g h = h
  decideds label go stop None l l' i i' p r g h = bads label l l' i i' p r

  joineds : (vs : List WideValue) (l l' i i' : ℕ) → total_size (plains (vals vs)) + l ≤ l' →
      deepest (plains (vals vs)) + i ≤ j
      → i ≤ i' → Leads (At l i) (gathered vs) (Fits (suc l') (suc j) i')
  unfolding gathered
  joineds vs l l' i i' p q r = gives l i (suc l') (suc j) i' _ (omega (arith, p)) (omega (arith, q)) r

  storeds : (label : List ℕ) (at : Option (List ℕ)) (name : WideValue) (x : Name) (w : WideValue) (l l' i i' : ℕ) →
      size_of (plain name) + size_of (plain w) + l ≤ l' → depth_of (plain name) + i ≤ j → depth_of (plain w) + i ≤ j →
      i ≤ i' → Leads (At l i) (stored label at name x w) (Fits (suc l') (suc j) i')
  unfolding stored
  storeds label at name x w l l' i i' a b c d =
      pays l i _ (λ p. record {
        runs =
            λ e s h. record {
              size = omega (arith, h.left, a);
              depth = omega (arith, h.slack, b, c);
              slack =
                  omega (arith, h.slack, d);
            };
      })

  -- a value of the level below is one of this level
  grown : (l l' i i' : ℕ) → l ≤ l' → i ≤ i' → (r : Ran WideValue) → Ends (Fits l j i) r → Ends (Fits l' (suc j) i') r
  grown l l' i i' p r Over h = tt
  grown l l' i i' p r (Done v s) h =
      record { size = omega (arith, h.size, p); depth = omega (arith, h.depth); slack = omega (arith, h.slack, r) }

  module _ (below : Eval) (belows : (t : TaggedTree) (f : Frame) (l i : ℕ) →
      Leads (At l i) (below t f) (Fits l j i)) where
    tails : (t : TaggedTree) (g : Frame) (l l' i i' : ℕ) → l ≤ l' → i ≤ i' →
        Leads (At l i) (below t g) (Fits l' (suc j) i')
    tails t g l l' i i' p r = record {
      runs =
          λ e s a. grown l l' i i' p r (below t g e s) ((belows t g l i).runs e s a);
    }

    module _ (f : Frame) where
      pub eachs : (ts : List TaggedTree) (vs : List WideValue) (l l' i i' : ℕ) →
          total_size (plains (vals vs)) + l ≤ l' →
          deepest (plains (vals vs)) + i ≤ j → i ≤ i' → Leads (At l i) (each below f vs ts) (FitAll l' j i')
      eachs [] vs l l' i i' a b c = record {
        runs =
            λ e s h. record {
              size = omega (arith, a, h.left);
              depth = omega (arith, b, h.slack);
              slack =
                  omega (arith, c, h.slack);
            };
      }
      eachs (t ∷ ts) vs l l' i i' a b c =
          after l j i (belows t f l i)
          (λ v p q.
          eachs ts (vs ++ v ∷ []) (l - size_of (plain v)) l' (min i (j - depth_of (plain v))) i' (omega (
            arith,
            a,
            p,
            size_push vs v,
          )) (omega (arith, b, q, depth_push vs v)) (omega (arith, c)))

      mades : (label : List ℕ) (at : Option (List ℕ)) (l i : ℕ) (vs : List WideValue) →
          Leads (FitAll l j i vs) (give (made label (vals vs) at)) (Fits (suc l) (suc j) i)
      mades label at l i vs = record {
        runs =
            λ e s h. record { size = omega (arith, h.size); depth = omega (arith, h.depth); slack = h.slack };
      }

      rebuilts : (label : List ℕ) (kids : List TaggedTree) (at : Option (List ℕ)) (l i : ℕ) → i ≤ j →
          Leads (At l i) (rebuilt below f label kids at) (Fits (suc l) (suc j) i)
      unfolding rebuilt
      rebuilts label kids at l i le =
          bind (eachs kids [] l l i i (omega arith) (omega (arith, le)) (omega arith)) (λ vs. mades label at l i vs)

      assigns : (label : List ℕ) (at : Option (List ℕ)) (kids : List TaggedTree) (l i : ℕ) → i ≤ j →
          Leads (At l i) (assign (suc j) below f label at kids) (Fits (suc l) (suc j) i)
      unfolding assigned
      assigns label at [] l i le = bads label l (suc l) i i (omega arith) (omega arith)
      assigns label at (x ∷ []) l i le = bads label l (suc l) i i (omega arith) (omega arith)
      assigns label at (x ∷ t ∷ []) l i le =
          after l j i (belows x f l i)
          (λ name p q. nameds (l - size_of (plain name)) (suc l) (min i (j - depth_of (plain name))) i label
          (λ n. below t f >>= stored label at name n) (value_text name) (omega arith) (omega arith)
          (λ n. after (l - size_of (plain name)) j (min i (j - depth_of (plain name)))
          (belows t f (l - size_of (plain name)) (min i (j - depth_of (plain name))))
          (λ w r o.
          storeds label at name n w (l - size_of (plain name) - size_of (plain w)) l
          (min (min i (j - depth_of (plain name))) (j - depth_of (plain w))) i (omega (arith, p, r))
          (omega (arith, q)) (omega (arith, o)) (omega arith))))
      assigns label at (x ∷ t ∷ y ∷ ts) l i le = bads label l (suc l) i i (omega arith) (omega arith)

      bodies : (label : List ℕ) (at : Option (List ℕ)) (vs : List WideValue) (ps : Sets) (b : TaggedTree)
          (l l' i i' : ℕ) → total_size (plains (vals vs)) + l ≤ l' → deepest (plains (vals vs)) + i ≤ j → i ≤ i'
          → Leads (At l i) (with_body below f label at vs ps b) (Fits (suc l') (suc j) i')
      unfolding with_body
      bodies label at vs ps b l l' i i' p q r =
          pays l i _ (λ a. keeps _ i ps (λ old. set_alls _ i ps (after (l - sizes ps) j i (belows b f (l - sizes ps) i)
          (λ v c d. set_alls _ _ old (gives _ _ (suc l') (suc j) i' _ (omega (
            arith,
            a,
            c,
            p,
            size_push vs v,
          )) (omega (arith, q, d, depth_push vs v)) (omega (arith, r)))))))

      withs : (label : List ℕ) (at : Option (List ℕ)) (vs : List WideValue) (ps : Sets) (kids : List TaggedTree)
          (l l' i i' : ℕ) → total_size (plains (vals vs)) + l ≤ l' → deepest (plains (vals vs)) + i ≤ j → i ≤ i'
          → Leads (At l i) (with_parts (suc j) below f label at vs ps kids) (Fits (suc l') (suc j) i')
      withs label at vs ps [] l l' i i' p q r = bads label l (suc l') i i' (omega (arith, p)) r
      withs label at vs ps (b ∷ []) l l' i i' p q r = bodies label at vs ps b l l' i i' p q r
      withs label at vs ps (x ∷ t ∷ ts) l l' i i' p q r =
          after l j i (belows x f l i)
          (λ name a b.
          nameds (l - size_of (plain name)) (suc l') (min i (j - depth_of (plain name))) i' label _ (value_text name)
          (omega (arith, p)) (omega (arith, r))
          (λ n. after (l - size_of (plain name)) j (min i (j - depth_of (plain name)))
          (belows t f (l - size_of (plain name)) (min i (j - depth_of (plain name))))
          (λ w c d. withs label at (vs ++ name ∷ w ∷ []) (ps ++ (n, Some (plain w))
          ∷ []) ts (l - size_of (plain name) - size_of (plain w)) l'
          (min (min i (j - depth_of (plain name))) (j - depth_of (plain w))) i'
          (omega (arith, p, a, c, size_two vs name w)) (omega (arith, q, b, d, depth_two vs name w)) (omega (
            arith,
            r,
          )))))

      eval_ofs : (v : WideValue) (l l' i i' : ℕ) → l ≤ l' → i ≤ i' →
          Leads (At l i) (eval_of below f v) (Fits l' (suc j) i')
      unfolding eval_of
      eval_ofs v l l' i i' p r = pays l i _ (λ a. tails _ f _ l' i i' (omega (arith, p)) r)

      behinds : (unary : Unary) (label : List ℕ) (v : WideValue) (l l' i i' : ℕ) → l ≤ l' → i ≤ i' →
          Leads (At l i) (unary_run unary (suc j) below f label v) (Fits l' (suc j) i')
      behinds unaries.Value label v l l' i i' p r = value_ofs label v l l' i i' p r
      behinds unaries.Provides label v l l' i i' p r = provides_ofs label v l l' i i' p r
      behinds unaries.Eval label v l l' i i' p r = eval_ofs v l l' i i' p r

      onlys : (unary : Unary) (label : List ℕ) (kids : List TaggedTree) (l i : ℕ) →
          Leads (At l i) (unary_row unary (suc j) below f label kids) (Fits (suc l) (suc j) i)
      unfolding only_child
      onlys unary label [] l i = bads label l (suc l) i i (omega arith) (omega arith)
      onlys unary label (x ∷ []) l i =
          after l j i (belows x f l i) (λ v p q. behinds unary label v _ (suc l) _ i (omega arith) (omega arith))
      onlys unary label (x ∷ y ∷ ts) l i = bads label l (suc l) i i (omega arith) (omega arith)

      useds : (taking : Taking) (t : TaggedTree) (l l' i i' : ℕ) → l ≤ l' → i ≤ i' →
          Leads (At l i) (used taking (suc j) below f t) (Fits l' (suc j) i')
      unfolding used
      useds takings.Evaluated t l l' i i' p r = tails t (caller_of f) l l' i i' p r
      useds takings.Quoted t l l' i i' p r = takens l l' i i' _ p r

      part_useds : (taking : Taking) (x : Name) (o : Option TaggedTree) (l l' i i' : ℕ) → l ≤ l' → i ≤ i' →
          Leads (At l i) (part_used taking (suc j) below f x o) (Fits l' (suc j) i')
      part_useds taking x (Some t) l l' i i' p r = useds taking t l l' i i' p r
      part_useds taking x None l l' i i' p r = wrongs l l' i i' (codes "no-part") x p r

      numbereds : (taking : Taking) (label : List ℕ) (x : Name) (t : TaggedTree) (o : Option (List ℤ)) (l l' i i' : ℕ) →
          l ≤ l' → i ≤ i' → Leads (At l i) (numbered taking (suc j) below f label x t o) (Fits l' (suc j) i')
      numbereds taking label x t (Some ns) l l' i i' p r = part_useds taking x (part_of t ns) l l' i i' p r
      numbereds taking label x t None l l' i i' p r = bads label l l' i i' p r

      -- after values of which only the steps and levels left count
      behind_values : (m : List WideValue → Run WideValue) (l i : ℕ) →
          ((vs : List WideValue) → Leads (At l i) (m vs) (Fits (suc l) (suc j) i)) → (vs : List WideValue) →
          Leads (FitAll l j i vs) (m vs) (Fits (suc l) (suc j) i)
      behind_values m l i g vs = weaker (λ s h. record { left = omega (arith, h.size); slack = h.slack }) (g vs)

      applieds : (label : List ℕ) (kids : List TaggedTree) (l i : ℕ) (m : Option (List Name × WideTree)) →
          Leads (At l i) (applied (suc j) below label kids f m) (Fits (suc l) (suc j) i)
      applieds label kids l i None = bads label l (suc l) i i (omega arith) (omega arith)
      applieds label kids l i (Some m) = tails _ _ l (suc l) i i (omega arith) (omega arith)

      applieds_all : (label : List ℕ) (kids : List TaggedTree) (l i : ℕ) (m : Option (Name × WideTree))
          → Leads (At l i) (applied_all (suc j) below label kids f m) (Fits (suc l) (suc j) i)
      applieds_all label kids l i None = bads label l (suc l) i i (omega arith) (omega arith)
      applieds_all label kids l i (Some m) = tails _ _ l (suc l) i i (omega arith) (omega arith)

      tag_founds : (label : List ℕ) (at : Option (List ℕ)) (kids : List TaggedTree) (l i : ℕ) (t : Option WideTree) →
          i ≤ j → Leads (At l i) (tag_found (suc j) below label at kids f t) (Fits (suc l) (suc j) i)
      unfolding called
      tag_founds label at kids l i None le = rebuilts label kids at l i le
      tag_founds label at kids l i (Some m) le =
          tests (is_macro m) _ _ l (suc l) i i (applieds label kids l i (macro_in (children_of m)))
          (tests (is_xmacro m) _ _ l (suc l) i i (applieds_all label kids l i (xmacro_in (children_of m)))
          (wrongs l (suc l) i i (codes "not-macro") label (omega arith) (omega arith)))

      tag_runs : (label : List ℕ) (at : Option (List ℕ)) (kids : List TaggedTree) (l i : ℕ) → i ≤ j →
          Leads (At l i) (tag_run (suc j) below label at kids f) (Fits (suc l) (suc j) i)
      unfolding tag_run
      tag_runs label at kids l i le = looks l i label (λ t. tag_founds label at kids l i t le)

      evaluated_mades : (t : WideTree) (l l' i i' : ℕ) → l ≤ l' → i ≤ i' →
          Leads (At l i) (evaluated_made below f t) (Fits l' (suc j) i')
      unfolding evaluated_made
      evaluated_mades t l l' i i' p r = pays l i _ (λ a. tails _ f _ l' i i' (omega (arith, p)) r)

      mappeds : (foo root x : List ℕ) (o : Option (List ℕ)) (l l' i i' : ℕ) → l ≤ l' → i ≤ i'
          → Leads (At l i) (mapped (suc j) below f foo root x o) (Fits l' (suc j) i')
      mappeds foo root x (Some numbers) l l' i i' p r = evaluated_mades (call_over foo root x numbers) l l' i i' p r
      mappeds foo root x None l l' i i' p r = wrongs l l' i i' (codes "no-part") x p r

      map_numbereds : (label foo root x : List ℕ) (count : ℕ) (o : Option (List ℤ)) (l l' i i' : ℕ) → l ≤ l' → i ≤ i'
          → Leads (At l i) (map_numbered (suc j) below f label foo root x count o) (Fits l' (suc j) i')
      map_numbereds label foo root x count (Some ns) l l' i i' p r =
          mappeds foo root x (numbers_between count (from_number ns) (to_number count ns)) l l' i i' p r
      map_numbereds label foo root x count None l l' i i' p r = bads label l l' i i' p r

      map_partss : (label foo root x : List ℕ) (count : ℕ) (numbers : List TaggedTree) (l i : ℕ) → i ≤ j
          → Leads (At l i) (map_parts (suc j) below f label foo root x count numbers) (Fits (suc l) (suc j) i)
      unfolding map_parts
      map_partss label foo root x count numbers l i le =
          bind (eachs numbers [] l l i i (omega arith) (omega (arith, le)) (omega arith))
          (behind_values (λ vs. map_numbered (suc j) below f label foo root x count (integers_of vs)) l i
          (λ vs. map_numbereds label foo root x count (integers_of vs) l (suc l) i i (omega arith) (omega arith)))

      map_founds : (label foo root x : List ℕ) (numbers : List TaggedTree) (l i : ℕ) (o : Found) → i ≤ j
          → Leads (At l i) (map_found (suc j) below f label foo root x numbers o) (Fits (suc l) (suc j) i)
      map_founds label foo root x numbers l i Unbound le =
          wrongs l (suc l) i i (codes "unbound") x (omega arith) (omega arith)
      map_founds label foo root x numbers l i Missing le =
          wrongs l (suc l) i i (codes "missing") x (omega arith) (omega arith)
      map_founds label foo root x numbers l i (Here t) le =
          map_partss label foo root x (length (kids_of t)) numbers l i le
      map_founds label foo root x numbers l i (All ts) le = map_partss label foo root x (length ts) numbers l i le

      map_nameds : (label : List ℕ) (numbers : List TaggedTree) (foo root x : WideTree) (l i : ℕ) → i ≤ j
          → Leads (At l i) (map_named (suc j) below f label numbers foo root x) (Fits (suc l) (suc j) i)
      unfolding map_args_run
      map_nameds label numbers (leaf foo) (leaf root) (leaf x) l i le =
          tests (is_label foo
          && is_label root) _ _ l (suc l) i i (map_founds label foo root x numbers l i (argument_in x f) le)
          (bads label l (suc l) i i (omega arith) (omega arith))
      map_nameds label numbers (leaf foo) (leaf root) (node m ts) l i le =
          bads label l (suc l) i i (omega arith) (omega arith)
      map_nameds label numbers (leaf foo) (node m ts) x l i le = bads label l (suc l) i i (omega arith) (omega arith)
      map_nameds label numbers (node m ts) root x l i le = bads label l (suc l) i i (omega arith) (omega arith)

      maps : (label : List ℕ) (kids : List TaggedTree) (l i : ℕ) → i ≤ j →
          Leads (At l i) (map_args (suc j) below f label kids) (Fits (suc l) (suc j) i)
      maps label [] l i le = bads label l (suc l) i i (omega arith) (omega arith)
      maps label (foo ∷ []) l i le = bads label l (suc l) i i (omega arith) (omega arith)
      maps label (foo ∷ root ∷ []) l i le = bads label l (suc l) i i (omega arith) (omega arith)
      maps label (foo ∷ root ∷ x ∷ []) l i le = map_nameds label [] foo.tree root.tree x.tree l i le
      maps label (foo ∷ root ∷ x ∷ a ∷ []) l i le = map_nameds label (a ∷ []) foo.tree root.tree x.tree l i le
      maps label (foo ∷ root ∷ x ∷ a ∷ b ∷ []) l i le = map_nameds label (a ∷ b ∷ []) foo.tree root.tree x.tree l i le
      maps label (foo ∷ root ∷ x ∷ a ∷ b ∷ y ∷ ts) l i le = bads label l (suc l) i i (omega arith) (omega arith)

      chosens : (label : List ℕ) (kids : List TaggedTree) (l l' i i' : ℕ) → l ≤ l' → i ≤ i'
          → Leads (At l i) (chosen (suc j) below f label kids) (Fits l' (suc j) i')
      chosens label [] l l' i i' p r = takens l l' i i' (text [] None) p r
      chosens label (b ∷ []) l l' i i' p r = tails b f l l' i i' p r
      chosens label (c ∷ b ∷ ts) l l' i i' p r =
          after l j i (belows c f l i)
          (λ v a d. decideds label _ _ (value_truth v) _ l' _ i' (omega (arith, p)) (omega (arith, r))
          (tails b f _ l' _ i' (omega (arith, p)) (omega (arith, r))) (chosens label ts _ l' _ i' (omega (
            arith,
            p,
          )) (omega (arith, r))))

      turnses : (n : ℕ) (label : List ℕ) (c b : TaggedTree) (vs : List WideValue) (l l' i i' : ℕ)
          → total_size (plains (vals vs)) + l ≤ l' → deepest (plains (vals vs)) + i ≤ j → i ≤ i'
          → Leads (At l i) (turns n (suc j) below f label c b vs) (Fits (suc l') (suc j) i')
      unfolding turns
      turnses zero label c b vs l l' i i' p q r =
          after l j i (belows c f l i)
          (λ v a d. decideds label _ _ (value_truth v) _ (suc l') _ i' (omega (arith, p)) (omega (arith, r))
          (wrongs _ (suc l') _ i' (codes "limit") label (omega (arith, p)) (omega (arith, r)))
          (joineds vs _ l' _ i' (omega (arith, p)) (omega (arith, q)) (omega (arith, r))))
      turnses (suc n) label c b vs l l' i i' p q r =
          after l j i (belows c f l i)
          (λ v a d. decideds label _ _ (value_truth v) _ (suc l') _ i' (omega (arith, p)) (omega (arith, r))
          (after (l - size_of (plain v)) j (min i (j - depth_of (plain v))) (belows b f _ _)
          (λ w x y. turnses n label c b (vs ++ w
          ∷ []) _ l' _ i' (omega (arith, p, x, size_push vs w)) (omega (
            arith,
            q,
            y,
            depth_push vs w,
          )) (omega (arith, r))))
          (joineds vs _ l' _ i' (omega (arith, p)) (omega (arith, q)) (omega (arith, r))))

      whiles : (label : List ℕ) (kids : List TaggedTree) (l i : ℕ) → i ≤ j →
          Leads (At l i) (while_row (suc j) below f label kids) (Fits (suc l) (suc j) i)
      whiles label [] l i le = bads label l (suc l) i i (omega arith) (omega arith)
      whiles label (c ∷ []) l i le = bads label l (suc l) i i (omega arith) (omega arith)
      whiles label (c ∷ b ∷ []) l i le =
          turnses MOST_TURNS label c b [] l l i i (omega arith) (omega (arith, le)) (omega arith)
      whiles label (c ∷ b ∷ x ∷ ts) l i le = bads label l (suc l) i i (omega arith) (omega arith)

      primitives : (which : Prim) (kids : List TaggedTree) (l i : ℕ) → i ≤ j →
          Leads (At l i) (primitive (suc j) below f which kids) (Fits (suc l) (suc j) i)
      unfolding primitive
      primitives which kids l i le =
          bind (eachs kids [] l l i i (omega arith) (omega (arith, le)) (omega arith))
          (behind_values
          (λ vs. pay (total_nodes (plains (vals vs))) >> taken (suc j)
          (whole None (primitive_value which (map plain vs)))) l i
          (λ vs. pays l i _ (λ a. takens _ (suc l) i i _ (omega arith) (omega arith))))

      by_names : (label : List ℕ) (at : Option (List ℕ)) (kids : List TaggedTree) (l i : ℕ) (o : Option Prim) → i ≤ j
          → Leads (At l i) (by_name (suc j) below label at kids f o) (Fits (suc l) (suc j) i)
      by_names label at kids l i (Some which) le = primitives which kids l i le
      by_names label at kids l i None le = tag_runs label at kids l i le

      -- the tuple of all arguments
      module _ (below_all : EvalAll) (alls : (ts : List TaggedTree) (g : Frame) (l i : ℕ) →
          Leads (At l i) (below_all ts g) (Fits l j i)) where
        all_useds : (taking : Taking) (ts : List TaggedTree) (l l' i i' : ℕ) → l ≤ l' → i ≤ i'
            → Leads (At l i) (all_used taking (suc j) below_all f ts) (Fits l' (suc j) i')
        unfolding all_used
        all_useds takings.Evaluated ts l l' i i' p r =
            record {
              runs =
                  λ e s a. grown l l' i i' p r (below_all ts (caller_of f) e s)
                  ((alls ts (caller_of f) l i).runs e s a);
            }
        all_useds takings.Quoted ts l l' i i' p r = takens l l' i i' (tuple_of ts) p r

        all_numbereds : (taking : Taking) (label : List ℕ) (x : Name) (ts : List TaggedTree) (o : Option (List ℤ))
            (l l' i i' : ℕ) → l ≤ l' → i ≤ i'
            → Leads (At l i) (all_numbered taking (suc j) below below_all f label x ts o) (Fits l' (suc j) i')
        all_numbereds taking label x ts (Some []) l l' i i' p r = all_useds taking ts l l' i i' p r
        all_numbereds taking label x ts (Some (n ∷ ns)) l l' i i' p r =
            part_useds taking x (part_among ts n ns) l l' i i' p r
        all_numbereds taking label x ts None l l' i i' p r = bads label l l' i i' p r

        arg_founds : (taking : Taking) (label : List ℕ) (x : Name) (numbers : List TaggedTree) (l i : ℕ) (o : Found) →
            i ≤ j → Leads (At l i) (arg_found taking (suc j) below below_all f label x numbers o)
            (Fits (suc l) (suc j) i)
        unfolding arg_part all_part
        arg_founds taking label x numbers l i Unbound le =
            wrongs l (suc l) i i (codes "unbound") x (omega arith) (omega arith)
        arg_founds taking label x numbers l i Missing le =
            wrongs l (suc l) i i (codes "missing") x (omega arith) (omega arith)
        arg_founds taking label x numbers l i (Here t) le =
            bind (eachs numbers [] l l i i (omega arith) (omega (arith, le)) (omega arith))
            (behind_values (λ vs. numbered taking (suc j) below f label x t (integers_of vs)) l i
            (λ vs. numbereds taking label x t (integers_of vs) l (suc l) i i (omega arith) (omega arith)))
        arg_founds taking label x numbers l i (All ts) le =
            bind (eachs numbers [] l l i i (omega arith) (omega (arith, le)) (omega arith))
            (behind_values (λ vs. all_numbered taking (suc j) below below_all f label x ts (integers_of vs)) l i
            (λ vs. all_numbereds taking label x ts (integers_of vs) l (suc l) i i (omega arith) (omega arith)))

        arg_nameds : (taking : Taking) (label : List ℕ) (numbers : List TaggedTree) (l i : ℕ) (t : WideTree) → i ≤ j →
            Leads (At l i) (arg_named taking (suc j) below below_all f label numbers t) (Fits (suc l) (suc j) i)
        unfolding arg_of
        arg_nameds taking label numbers l i (leaf x) le = arg_founds taking label x numbers l i (argument_in x f) le
        arg_nameds taking label numbers l i (node m ts) le = bads label l (suc l) i i (omega arith) (omega arith)

        args : (taking : Taking) (label : List ℕ) (kids : List TaggedTree) (l i : ℕ) → i ≤ j →
            Leads (At l i) (arg taking (suc j) below below_all f label kids) (Fits (suc l) (suc j) i)
        args taking label [] l i le = bads label l (suc l) i i (omega arith) (omega arith)
        args taking label (x ∷ numbers) l i le = arg_nameds taking label numbers l i x.tree le

        rows_fit : (r : Row) (t : TaggedTree) (label : List ℕ) (kids : List TaggedTree) (l i : ℕ) → i ≤ j →
            Leads (At l i) (row r (suc j) below below_all t label kids f) (Fits (suc l) (suc j) i)
        unfolding row
        rows_fit rows.Same t label kids l i le = rebuilts label kids t.at l i le
        rows_fit rows.Refused t label kids l i le =
            wrongs l (suc l) i i (codes "refused") label (omega arith) (omega arith)
        rows_fit rows.RawData t label kids l i le =
            gives l i (suc l) (suc j) i _ (omega arith) (omega (arith, le)) (omega arith)
        rows_fit rows.DrdProps t label kids l i le =
            gives l i (suc l) (suc j) i _ (omega arith) (omega (arith, le)) (omega arith)
        rows_fit rows.Assign t label kids l i le = assigns label t.at kids l i le
        rows_fit rows.With t label kids l i le =
            tests (is_odd kids) _ _ l (suc l) i i (withs label t.at [] [] kids l l i i (omega arith) (omega (
              arith,
              le,
            )) (omega arith)) (bads label l (suc l) i i (omega arith) (omega arith))
        rows_fit rows.Value t label kids l i le = onlys unaries.Value label kids l i
        rows_fit rows.Provides t label kids l i le = onlys unaries.Provides label kids l i
        rows_fit rows.Eval t label kids l i le = onlys unaries.Eval label kids l i
        rows_fit rows.Macro t label kids l i le = macros label t kids l i
        rows_fit rows.XMacro t label kids l i le = xmacros label t kids l i
        rows_fit rows.Quote t label kids l i le = quotes label kids l i
        rows_fit rows.Arg t label kids l i le = args takings.Evaluated label kids l i le
        rows_fit rows.QuoteArg t label kids l i le = args takings.Quoted label kids l i le
        rows_fit rows.MapArgs t label kids l i le = maps label kids l i le
        rows_fit rows.If t label kids l i le =
            tests (nat_le 2 (length kids) && nat_le (length kids) 3) _ _ l (suc l) i i
            (chosens label kids l (suc l) i i (omega arith) (omega arith))
            (bads label l (suc l) i i (omega arith) (omega arith))
        rows_fit rows.Case t label kids l i le =
            tests (nat_le 2 (length kids)) _ _ l (suc l) i i
            (chosens label kids l (suc l) i i (omega arith) (omega arith))
            (bads label l (suc l) i i (omega arith) (omega arith))
        rows_fit rows.While t label kids l i le = whiles label kids l i le
        rows_fit rows.Tag t label kids l i le = by_names label t.at kids l i (primitive_named label) le

    -- after the step of a node
    nearer : (l i : ℕ) → 1 ≤ l → (r : Ran WideValue) → Ends (Fits (suc (l - 1)) (suc j) (min i (suc j - 1))) r →
        Ends (Fits l (suc j) i) r
    nearer l i b Over h = tt
    nearer l i b (Done v s) h = record {
      size = omega (arith, h.size, b);
      depth = h.depth;
      slack =
          omega (arith, h.slack);
    }

    behind_step : (l i : ℕ) (m : Run WideValue) →
        Leads (At (l - 1) (min i (suc j - 1))) m (Fits (suc (l - 1)) (suc j) (min i (suc j - 1)))
        → Leads (At l i) (need 1 (suc j) >> (pay 1 >> m)) (Fits l (suc j) i)
    behind_step l i m g = needs l i 1 (suc j)
        (λ a. pays l _ 1 (λ b. record { runs = λ e s h. nearer l i b (m e s) (g.runs e s h) }))

    levels_fit : (below_all : EvalAll) →
        ((ts : List TaggedTree) (g : Frame) (l i : ℕ) → Leads (At l i) (below_all ts g) (Fits l j i))
        → (t : TaggedTree) (f : Frame) (p : WideTree) (l i : ℕ) →
        Leads (At l i) (level (suc j) below below_all t f p) (Fits l (suc j) i)
    unfolding leaf_run node_run
    levels_fit below_all alls t f (leaf x) l i =
        needs l i 1 (suc j) (λ a. pays l _ _
        (λ b. gives _ _ l (suc j) i _ (omega (arith, b)) (omega arith) (omega arith)))
    levels_fit below_all alls t f (node label kids) l i =
        behind_step l i _
        (rows_fit f below_all alls (row_of label) t label (kids_from t.at 0 kids) (l - 1) (min i (suc j - 1))
        (omega arith))

    tuples_fit : (ts : List TaggedTree) (f : Frame) (l i : ℕ) →
        Leads (At l i) (tuple_run (suc j) below ts f) (Fits l (suc j) i)
    unfolding tuple_run
    tuples_fit ts f l i =
        behind_step l i _ (rebuilts f (codes "tuple") ts None (l - 1) (min i (suc j - 1)) (omega arith))

mutual
  unfolding ex

  pub ex_fit : (k : ℕ) (t : TaggedTree) (f : Frame) (l i : ℕ) → Leads (At l i) (ex k t f) (Fits l k i)
  ex_fit zero t f l i = record { runs = λ e s h. tt }
  ex_fit (suc k) t f l i = levels_fit k (ex k) (ex_fit k) (ex_all k) (all_fit k) t f t.tree l i

  pub all_fit : (k : ℕ) (ts : List TaggedTree) (f : Frame) (l i : ℕ) → Leads (At l i) (ex_all k ts f) (Fits l k i)
  all_fit zero ts f l i = record { runs = λ e s h. tt }
  all_fit (suc k) ts f l i = tuples_fit k (ex k) (ex_fit k) ts f l i

pub fits : (k : ℕ) (t : TaggedTree) (f : Frame) (e : Before) (s s' : State) (v : WideValue) → ex k t f e s ≡ Done v s' →
    Fits s.left k s.slack v s'
fits k t f e s s' v q = subst (Ends (Fits s.left k s.slack)) q ((ex_fit k t f s.left s.slack).runs e s (record {
  left =
      omega arith;
  slack = omega arith;
}))
