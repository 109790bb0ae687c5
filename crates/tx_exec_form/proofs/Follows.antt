-- Where looks agree, with as many steps and levels or more, an evaluation does the same again.
use Rattle.std.proofs.Common.{◌≡◌, ℕ, zero, suc, ◌+◌, ◌-◌, ◌≤◌, min, Bool, true, false, List, [], ◌∷◌, ◌++◌, length, ap}
use Rattle.std.proofs.Common.{subst, refl, ◌∙◌, arith}
use Rattle.std.proofs.lemmas.Bool.{cond-true}
use Rattle.std.specs.Prelude.{Option, Some, None, ℤ, nat_le, ◌&&◌, codes, if◌then◌else◌}
use Rattle.std.specs.FinMap.{get}
use Rattle.std.proofs.lemmas.Grind.{common_steps}
use Rattle.tx_tree.specs.WideTree.{WideTree, leaf, node, children_of}
use Rattle.tx_prim.specs.declared.names.Prim.{Prim}
use Rattle.tx_prim.specs.Names.{named as primitive_named}
use Rattle.tx_origin.specs.Values.{WideValue, text, made, vals, value_text, plain}
use Rattle.tx_origin.specs.TaggedTrees.{TaggedTree, kids_from, kids_of}
use Rattle.tx_env.specs.Pairs.{Name}
use Rattle.tx_env.specs.Environments.{NameMap}
use Rattle.tx_env.specs.Changes.{with_pair}
use Rattle.tx_exec_form.specs.Maps.{noted}
use Rattle.tx_exec_form.specs.Runs.{Before, State, Ran, Over, Done, Run, on_done, ◌>>=◌, ◌>>◌, give, over, pay, need}
use Rattle.tx_exec_form.specs.Runs.{look, from_own, set}
use Rattle.tx_exec_form.specs.Frames.{Frame, top, caller_of, Found, Unbound, Missing, Here, All, argument_in}
use Rattle.tx_exec_form.specs.Numbers.{integers_of, part_of, part_among, from_number, to_number, numbers_between}
use Rattle.tx_exec_form.specs.Words.{row_of, is_label}
use Rattle.tx_exec_form.specs.declared.TheConstants.{MOST_TURNS}
use Rattle.tx_exec_form.specs.Rows.{Eval, wrong, taken, each, rebuilt, if_text, stored, assigned, assign, Sets, set_all}
use Rattle.tx_exec_form.specs.Rows.{kept, kept_of, with_body, with_parts, is_odd, value_found, value_of, provides_of}
use Rattle.tx_exec_form.specs.Rows.{eval_of, unary_run, only_child, unary_row, quote, used, part_used, numbered}
use Rattle.tx_exec_form.specs.Rows.{arg_part}
use Rattle.tx_exec_form.specs.Rows.{arg_found, arg_of, arg_named, arg, macro_in, applied, is_macro, called, tag_found}
use Rattle.tx_exec_form.specs.Rows.{tag_run, macro, row, leaf_run, node_run, level, ex, EvalAll, itself, xmacro}
use Rattle.tx_exec_form.specs.Rows.{all_used, all_numbered, all_part, call_over, evaluated_made, mapped, map_numbered}
use Rattle.tx_exec_form.specs.Rows.{map_parts, map_found, map_args_run, map_named, map_args, value_truth, decided}
use Rattle.tx_exec_form.specs.Rows.{chosen}
use Rattle.tx_exec_form.specs.Rows.{gathered, turns, while_row, primitive, by_name, xmacro_in}
use Rattle.tx_exec_form.specs.Rows.{is_xmacro, applied_all, tuple_run, ex_all}
use Rattle.tx_exec_form.specs.Evaluated.{start}
use Rattle.tx_exec_form.specs.Laws.{Agrees}
use Rattle.tx_exec_form.specs.declared.rows.Row.{Row}
use Rattle.tx_exec_form.specs.declared.rows.Row.TheVariants as rows
use Rattle.tx_exec_form.specs.declared.rows.Unary.{Unary}
use Rattle.tx_exec_form.specs.declared.rows.Unary.TheVariants as unaries
use Rattle.tx_exec_form.specs.declared.rows.Taking.{Taking}
use Rattle.tx_exec_form.specs.declared.rows.Taking.TheVariants as takings
use Rattle.tx_exec_form.proofs.Agreeing.{agrees_noted, agrees_noted_back, agrees_nothing}

pub record Held {A : Type 0} (k k' : ℕ) (m' : Run A) (e : Before) (s : State) (a : A) (s' : State) : Type 0 where
  pub agrees : Agrees e s'.looks
  pub grows : (e' : Before) → Agrees e' s'.looks → Agrees e' s.looks
  pub fewer : s'.left ≤ s.left
  pub tighter : s'.slack ≤ s.slack
  -- with i more slack at first, and k' levels for k
  pub again : (e' : Before) (c' left' i j : ℕ) → Agrees e' s'.looks → c' + s'.left ≡ s.left + left' →
      i + k ≡ s.slack + k' → j + k ≡ s'.slack + k' →
      m' e' (record s { left = c'; slack = i }) ≡ Done a (record s' { left = left'; slack = j })

abbrev pub Holds : {A : Type 0} → ℕ → ℕ → Run A → Before → State → Ran A → Type 0
Holds k k' m' e s Over = Unit {0}
Holds k k' m' e s (Done a s') = Held k k' m' e s a s'

pub record Follows {A : Type 0} (k k' : ℕ) (m m' : Run A) : Type 0 where
  pub runs : (e : Before) (s : State) → Agrees e s.looks → Holds k k' m' e s (m e s)

module _ (k k' : ℕ) where
  then_holds : {A B : Type 0} (m' : Run A) (f' : A → Run B) (e : Before) (s : State) (a : A) (s1 : State) (r : Ran B) →
      Held k k' m' e s a s1 → Holds k k' (f' a) e s1 r → Holds k k' (m' >>= f') e s r
  then_holds m' f' e s a s1 Over h g = tt
  then_holds m' f' e s a s1 (Done b s2) h g =
      record {
        agrees = g.agrees;
        grows = λ e' q. h.grows e' (g.grows e' q);
        fewer = omega (arith, h.fewer, g.fewer);
        tighter = omega (arith, h.tighter, g.tighter);
        again = λ e' c' left' i j q r u v.
            ap (on_done e' f')
            (h.again e' c' (left' + (s1.left - s2.left)) i (j + (s1.slack - s2.slack)) (g.grows e' q)
            (omega (arith, r, h.fewer, g.fewer)) u (omega (arith, v, h.tighter, g.tighter)))
            ∙ g.again e' (left' + (s1.left - s2.left)) left' (j + (s1.slack - s2.slack)) j q (omega (
              arith,
              g.fewer,
            )) (omega (arith, v, g.tighter)) v;
      }

  bind_holds : {A B : Type 0} (m' : Run A) (f f' : A → Run B) (e : Before) (s : State) (r : Ran A) →
      Holds k k' m' e s r → ((a : A) → Follows k k' (f a) (f' a)) → Holds k k' (m' >>= f') e s (on_done e f r)
  bind_holds m' f f' e s Over h g = tt
  bind_holds m' f f' e s (Done a s1) h g = then_holds m' f' e s a s1 (f a e s1) h ((g a).runs e s1 h.agrees)

  pub bind : {A B : Type 0} {m m' : Run A} {f f' : A → Run B} → Follows k k' m m' →
      ((a : A) → Follows k k' (f a) (f' a)) → Follows k k' (m >>= f) (m' >>= f')
  bind {m = m} {m' = m'} {f = f} {f' = f'} h g =
      record { runs = λ e s q. bind_holds m' f f' e s (m e s) (h.runs e s q) g }

  -- What doesn't look and doesn't pay.
  pub quiet : {A : Type 0} (a : NameMap → A) (g : NameMap → NameMap) →
      Follows k k' (λ e s. Done (a s.own) (record s { own = g s.own }))
      (λ e s. Done (a s.own) (record s { own = g s.own }))
  quiet a g = record {
    runs = λ e s h. record {
      agrees = h;
      grows = λ e' q. q;
      fewer = omega arith;
      tighter = omega arith;
      again = λ e' c' left' i j q r u v.
          let same : c' ≡ left' = omega arith in
          let even : i ≡ j = omega arith in
          ap (λ n. Done (a s.own) (record { own = g s.own; looks = s.looks; left = n; slack = i })) same ∙ ap
          (λ n. Done (a s.own) (record { own = g s.own; looks = s.looks; left = left'; slack = n })) even;
    };
  }

  pub gives : {A : Type 0} (a : A) → Follows k k' (give a) (give a)
  gives a = quiet (λ _. a) (λ own. own)

  pub sets : (x : Name) (t : Option WideTree) → Follows k k' (set x t) (set x t)
  sets x t = quiet (λ _. tt) (with_pair x t)

  needed : (n : ℕ) (e : Before) (s : State) (b : Bool) → b ≡ nat_le n k → Agrees e s.looks →
      Holds {A = Unit {0}} k k' (need n k') e s (if b then Done tt (record s { slack = min s.slack (k - n) }) else Over)
  unfolding need
  needed n e s false q h = tt
  needed n e s true q h =
      let enough : n ≤ k = grind (arith, common_steps, q) in
      record {
        agrees = h;
        grows = λ e' g. g;
        fewer = omega arith;
        tighter = omega arith;
        again = λ e' c' left' i j g r u v.
            let same : c' ≡ left' = omega (arith, r) in
            let less : n ≤ k' = omega (arith, enough, u, v) in
            let test : nat_le n k' ≡ true = grind (arith, common_steps, less) in
            let even : min i (k' - n) ≡ j = omega (arith, enough, u, v) in
            cond-true (nat_le n k') _ _ test ∙ ap
            (λ l. Done tt (record s { left = l; slack = min i (k' - n) })) same ∙ ap
            (λ l. Done tt (record s { left = left'; slack = l })) even;
      }

  pub needs : (n : ℕ) → Follows k k' (need n k) (need n k')
  unfolding need
  needs n = record { runs = λ e s h. needed n e s (nat_le n k) refl h }

  paid : (n : ℕ) (e : Before) (s : State) (b : Bool) → b ≡ nat_le n s.left → Agrees e s.looks →
      Holds {A = Unit {0}} k k' (pay n) e s (if b then Done tt (record s { left = s.left - n }) else Over)
  unfolding pay
  paid n e s false q h = tt
  paid n e s true q h = record {
    agrees = h;
    grows = λ e' g. g;
    fewer = omega arith;
    tighter = omega arith;
    again = λ e' c' left' i j g r u v.
        let enough : n ≤ s.left = grind (arith, common_steps, q) in
        let same : c' - n ≡ left' = omega (arith, r, enough) in
        let even : i ≡ j = omega (arith, u, v) in
        let test : nat_le n c' ≡ true = grind (arith, common_steps, r, enough) in
        cond-true (nat_le n c') _ _ test ∙ ap (λ l. Done tt (record s { left = l; slack = i })) same ∙ ap
        (λ l. Done tt (record s { left = left'; slack = l })) even;
  }

  pub pays : (n : ℕ) → Follows k k' (pay n) (pay n)
  unfolding pay
  pays n = record { runs = λ e s h. paid n e s (nat_le n s.left) refl h }

-- ---- looks

module _ (k k' : ℕ) where
  looked : (x : Name) (e : Before) (s : State) (r : Option WideTree) → get s.own x ≡ r → Agrees e s.looks →
      Holds k k' (look x) e s (from_own x r e s)
  unfolding look
  looked x e s (Some t) q h = record {
    agrees = h;
    grows = λ e' g. g;
    fewer = omega arith;
    tighter = omega arith;
    again = λ e' c' left' i j g r u v.
        let same : c' ≡ left' = omega (arith, r) in
        let even : i ≡ j = omega (arith, u, v) in
        ap (λ o. from_own x o e' (record s { left = c'; slack = i })) q ∙ ap
        (λ n. Done (Some t) (record s { left = n; slack = i })) same ∙ ap
        (λ n. Done (Some t) (record s { left = left'; slack = n })) even;
  }
  looked x e s None q h =
      let back = λ (e' : Before) (g : Agrees e' (noted s.looks x (e x))). agrees_noted_back e e' x s.looks h g in
      record {
        agrees = agrees_noted e x s.looks h;
        grows = λ e' g. (back e' g).1;
        fewer = omega arith;
        tighter = omega arith;
        again = λ e' c' left' i j g r u v.
            let same : c' ≡ left' = omega (arith, r) in
            let even : i ≡ j = omega (arith, u, v) in
            ap (λ o. from_own x o e' (record s { left = c'; slack = i })) q ∙ ap
            (λ t. Done t (record s { looks = noted s.looks x t; left = c'; slack = i })) (back e' g).0
            ∙ ap (λ n. Done (e x) (record s { looks = noted s.looks x (e x); left = n; slack = i })) same ∙ ap
            (λ n. Done (e x) (record s { looks = noted s.looks x (e x); left = left'; slack = n })) even;
      }

  pub lookss : (x : Name) → Follows k k' (look x) (look x)
  unfolding look
  lookss x = record { runs = λ e s h. looked x e s (get s.own x) refl h }

  set_alls : (ps : Sets) → Follows k k' (set_all ps) (set_all ps)
  unfolding set_all
  set_alls [] = gives k k' tt
  set_alls (p ∷ ps) = bind k k' (sets k k' p.0 p.1) (λ _. set_alls ps)

  keeps : (ps : Sets) → Follows k k' (kept ps) (kept ps)
  unfolding kept
  keeps ps = quiet k k' (kept_of ps) (λ own. own)

  wrongs : (kind detail : List ℕ) → Follows k k' (wrong k kind detail) (wrong k' kind detail)
  unfolding wrong
  wrongs kind detail = bind k k' (needs k k' 2) (λ _. bind k k' (pays k k' _) (λ _. gives k k' _))

  bads : (label : List ℕ) → Follows k k' (wrong k (codes "bad") label) (wrong k' (codes "bad") label)
  bads label = wrongs (codes "bad") label

  takens : (v : WideValue) → Follows k k' (taken k v) (taken k' v)
  unfolding taken
  takens v = bind k k' (needs k k' _) (λ _. bind k k' (pays k k' _) (λ _. gives k k' _))

  nameds : (label : List ℕ) (go go' : Name → Run WideValue) (r : Option Name) →
      ((x : Name) → Follows k k' (go x) (go' x)) → Follows k k' (if_text k label go r) (if_text k' label go' r)
  nameds label go go' (Some x) h = h x
  nameds label go go' None h = bads label

  tests : (b : Bool) (m m' n n' : Run WideValue) → Follows k k' m m' → Follows k k' n n' →
      Follows k k' (if b then m else n) (if b then m' else n')
  tests true m m' n n' g h = g
  tests false m m' n n' g h = h

  value_founds : (x : Name) (t : Option WideTree) → Follows k k' (value_found k x t) (value_found k' x t)
  value_founds x (Some t) = takens _
  value_founds x None = wrongs (codes "undefined") x

  value_ofs : (label : List ℕ) (v : WideValue) → Follows k k' (value_of k label v) (value_of k' label v)
  unfolding value_of
  value_ofs label v = nameds label _ _ (value_text v) (λ n. bind k k' (lookss n) (λ t. value_founds n t))

  provides_ofs : (label : List ℕ) (v : WideValue) → Follows k k' (provides_of k label v) (provides_of k' label v)
  unfolding provides_of
  provides_ofs label v = nameds label _ _ (value_text v) (λ n. bind k k' (lookss n) (λ t. takens _))

  quotes : (label : List ℕ) (kids : List TaggedTree) → Follows k k' (quote k label kids) (quote k' label kids)
  quotes label [] = bads label
  quotes label (t ∷ []) = takens _
  quotes label (t ∷ u ∷ ts) = bads label

  itselves : (t : TaggedTree) → Follows k k' (itself k t) (itself k' t)
  itselves t = bind k k' (needs k k' _) (λ _. bind k k' (pays k k' _) (λ _. gives k k' _))

  macros : (label : List ℕ) (t : TaggedTree) (kids : List TaggedTree) →
      Follows k k' (macro k label t kids) (macro k' label t kids)
  macros label t [] = bads label
  macros label t (x ∷ ts) = itselves t

  xmacros : (label : List ℕ) (t : TaggedTree) (kids : List TaggedTree)
      → Follows k k' (xmacro k label t kids) (xmacro k' label t kids)
  xmacros label t [] = bads label
  xmacros label t (x ∷ []) = bads label
  xmacros label t (x ∷ b ∷ []) = itselves t
  xmacros label t (x ∷ b ∷ y ∷ ts) = bads label

  decideds : (label : List ℕ) (go go' stop stop' : Run WideValue) (r : Option Bool)
      → Follows k k' go go' → Follows k k' stop stop' →
      Follows k k' (decided k label go stop r) (decided k' label go' stop' r)
  decideds label go go' stop stop' (Some true) h g = h
  decideds label go go' stop stop' (Some false) h g = g
  decideds label go go' stop stop' None h g = bads label

  joineds : (vs : List WideValue) → Follows k k' (gathered vs) (gathered vs)
  unfolding gathered
  joineds vs = gives k k' _

  storeds : (label : List ℕ) (at : Option (List ℕ)) (name : WideValue) (x : Name) (w : WideValue) →
      Follows k k' (stored label at name x w) (stored label at name x w)
  unfolding stored
  storeds label at name x w = bind k k' (pays k k' _)
      (λ _. bind k k' (sets k k' x (Some (plain w))) (λ _. gives k k' (made label (vals (name ∷ w ∷ [])) at)))

  module _ (below below' : Eval) (belows : (t : TaggedTree) (f : Frame) →
      Follows k k' (below t f) (below' t f)) (f : Frame) where
    pub eachs : (ts : List TaggedTree) (vs : List WideValue) → Follows k k' (each below f vs ts) (each below' f vs ts)
    eachs [] vs = gives k k' vs
    eachs (t ∷ ts) vs = bind k k' (belows t f) (λ v. eachs ts (vs ++ v ∷ []))

    rebuilts : (label : List ℕ) (kids : List TaggedTree) (at : Option (List ℕ)) →
        Follows k k' (rebuilt below f label kids at) (rebuilt below' f label kids at)
    unfolding rebuilt
    rebuilts label kids at = bind k k' (eachs kids []) (λ vs. gives k k' _)

    assigns : (label : List ℕ) (at : Option (List ℕ)) (kids : List TaggedTree) →
        Follows k k' (assign k below f label at kids) (assign k' below' f label at kids)
    unfolding assigned
    assigns label at [] = bads label
    assigns label at (x ∷ []) = bads label
    assigns label at (x ∷ t ∷ []) =
        bind k k' (belows x f) (λ name. nameds label _ _ (value_text name)
        (λ n. bind k k' (belows t f) (λ w. storeds label at name n w)))
    assigns label at (x ∷ t ∷ y ∷ ts) = bads label

    bodies : (label : List ℕ) (at : Option (List ℕ)) (vs : List WideValue) (ps : Sets) (b : TaggedTree) →
        Follows k k' (with_body below f label at vs ps b) (with_body below' f label at vs ps b)
    unfolding with_body
    bodies label at vs ps b = bind k k' (pays k k' _)
        (λ _. bind k k' (keeps ps) (λ old. bind k k' (set_alls ps)
        (λ _. bind k k' (belows b f) (λ v. bind k k' (set_alls old) (λ _. gives k k' _)))))

    withs : (label : List ℕ) (at : Option (List ℕ)) (vs : List WideValue) (ps : Sets) (kids : List TaggedTree) →
        Follows k k' (with_parts k below f label at vs ps kids) (with_parts k' below' f label at vs ps kids)
    withs label at vs ps [] = bads label
    withs label at vs ps (b ∷ []) = bodies label at vs ps b
    withs label at vs ps (x ∷ y ∷ ts) =
        bind k k' (belows x f) (λ name. nameds label _ _ (value_text name)
        (λ n. bind k k' (belows y f) (λ w. withs label at _ _ ts)))

    eval_ofs : (v : WideValue) → Follows k k' (eval_of below f v) (eval_of below' f v)
    unfolding eval_of
    eval_ofs v = bind k k' (pays k k' _) (λ _. belows _ f)

    behinds : (unary : Unary) (label : List ℕ) (v : WideValue) →
        Follows k k' (unary_run unary k below f label v) (unary_run unary k' below' f label v)
    behinds unaries.Value label v = value_ofs label v
    behinds unaries.Provides label v = provides_ofs label v
    behinds unaries.Eval label v = eval_ofs v

    onlys : (unary : Unary) (label : List ℕ) (kids : List TaggedTree) →
        Follows k k' (unary_row unary k below f label kids) (unary_row unary k' below' f label kids)
    unfolding only_child
    onlys unary label [] = bads label
    onlys unary label (x ∷ []) = bind k k' (belows x f) (λ v. behinds unary label v)
    onlys unary label (x ∷ y ∷ ts) = bads label

    useds : (taking : Taking) (t : TaggedTree) → Follows k k' (used taking k below f t) (used taking k' below' f t)
    unfolding used
    useds takings.Evaluated t = belows t (caller_of f)
    useds takings.Quoted t = takens _

    part_useds : (taking : Taking) (x : Name) (r : Option TaggedTree) →
        Follows k k' (part_used taking k below f x r) (part_used taking k' below' f x r)
    part_useds taking x (Some t) = useds taking t
    part_useds taking x None = wrongs (codes "no-part") x

    numbereds : (taking : Taking) (label : List ℕ) (x : Name) (t : TaggedTree) (r : Option (List ℤ)) →
        Follows k k' (numbered taking k below f label x t r) (numbered taking k' below' f label x t r)
    numbereds taking label x t (Some ns) = part_useds taking x (part_of t ns)
    numbereds taking label x t None = bads label

    applieds : (label : List ℕ) (kids : List TaggedTree) (m : Option (List Name × WideTree)) →
        Follows k k' (applied k below label kids f m) (applied k' below' label kids f m)
    applieds label kids None = bads label
    applieds label kids (Some m) = belows _ _

    applieds_all : (label : List ℕ) (kids : List TaggedTree) (m : Option (Name × WideTree))
        → Follows k k' (applied_all k below label kids f m) (applied_all k' below' label kids f m)
    applieds_all label kids None = bads label
    applieds_all label kids (Some m) = belows _ _

    tag_founds : (label : List ℕ) (at : Option (List ℕ)) (kids : List TaggedTree) (t : Option WideTree) →
        Follows k k' (tag_found k below label at kids f t) (tag_found k' below' label at kids f t)
    unfolding called
    tag_founds label at kids None = rebuilts label kids at
    tag_founds label at kids (Some m) =
        tests (is_macro m) _ _ _ _ (applieds label kids (macro_in (children_of m)))
        (tests (is_xmacro m) _ _ _ _ (applieds_all label kids (xmacro_in (children_of m)))
        (wrongs (codes "not-macro") label))

    tag_runs : (label : List ℕ) (at : Option (List ℕ)) (kids : List TaggedTree) →
        Follows k k' (tag_run k below label at kids f) (tag_run k' below' label at kids f)
    unfolding tag_run
    tag_runs label at kids = bind k k' (lookss label) (λ t. tag_founds label at kids t)

    evaluated_mades : (t : WideTree) → Follows k k' (evaluated_made below f t) (evaluated_made below' f t)
    unfolding evaluated_made
    evaluated_mades t = bind k k' (pays k k' _) (λ _. belows _ f)

    mappeds : (foo root x : List ℕ) (r : Option (List ℕ))
        → Follows k k' (mapped k below f foo root x r) (mapped k' below' f foo root x r)
    mappeds foo root x (Some numbers) = evaluated_mades (call_over foo root x numbers)
    mappeds foo root x None = wrongs (codes "no-part") x

    map_numbereds : (label foo root x : List ℕ) (count : ℕ) (r : Option (List ℤ))
        → Follows k k' (map_numbered k below f label foo root x count r)
        (map_numbered k' below' f label foo root x count r)
    map_numbereds label foo root x count (Some ns) =
        mappeds foo root x (numbers_between count (from_number ns) (to_number count ns))
    map_numbereds label foo root x count None = bads label

    map_partss : (label foo root x : List ℕ) (count : ℕ) (numbers : List TaggedTree)
        → Follows k k' (map_parts k below f label foo root x count numbers)
        (map_parts k' below' f label foo root x count numbers)
    unfolding map_parts
    map_partss label foo root x count numbers =
        bind k k' (eachs numbers []) (λ vs. map_numbereds label foo root x count (integers_of vs))

    map_founds : (label foo root x : List ℕ) (numbers : List TaggedTree) (r : Found)
        → Follows k k' (map_found k below f label foo root x numbers r)
        (map_found k' below' f label foo root x numbers r)
    map_founds label foo root x numbers Unbound = wrongs (codes "unbound") x
    map_founds label foo root x numbers Missing = wrongs (codes "missing") x
    map_founds label foo root x numbers (Here t) = map_partss label foo root x (length (kids_of t)) numbers
    map_founds label foo root x numbers (All ts) = map_partss label foo root x (length ts) numbers

    map_nameds : (label : List ℕ) (numbers : List TaggedTree) (foo root x : WideTree)
        → Follows k k' (map_named k below f label numbers foo root x) (map_named k' below' f label numbers foo root x)
    unfolding map_args_run
    map_nameds label numbers (leaf foo) (leaf root) (leaf x) =
        tests (is_label foo
        && is_label root) _ _ _ _ (map_founds label foo root x numbers (argument_in x f)) (bads label)
    map_nameds label numbers (leaf foo) (leaf root) (node l ts) = bads label
    map_nameds label numbers (leaf foo) (node l ts) x = bads label
    map_nameds label numbers (node l ts) root x = bads label

    maps : (label : List ℕ) (kids : List TaggedTree) →
        Follows k k' (map_args k below f label kids) (map_args k' below' f label kids)
    maps label [] = bads label
    maps label (foo ∷ []) = bads label
    maps label (foo ∷ root ∷ []) = bads label
    maps label (foo ∷ root ∷ x ∷ []) = map_nameds label [] foo.tree root.tree x.tree
    maps label (foo ∷ root ∷ x ∷ a ∷ []) = map_nameds label (a ∷ []) foo.tree root.tree x.tree
    maps label (foo ∷ root ∷ x ∷ a ∷ b ∷ []) = map_nameds label (a ∷ b ∷ []) foo.tree root.tree x.tree
    maps label (foo ∷ root ∷ x ∷ a ∷ b ∷ y ∷ ts) = bads label

    chosens : (label : List ℕ) (kids : List TaggedTree) →
        Follows k k' (chosen k below f label kids) (chosen k' below' f label kids)
    chosens label [] = takens _
    chosens label (b ∷ []) = belows b f
    chosens label (c ∷ b ∷ ts) = bind k k' (belows c f)
        (λ v. decideds label _ _ _ _ (value_truth v) (belows b f) (chosens label ts))

    turnses : (n : ℕ) (label : List ℕ) (c b : TaggedTree) (vs : List WideValue)
        → Follows k k' (turns n k below f label c b vs) (turns n k' below' f label c b vs)
    unfolding turns
    turnses zero label c b vs =
        bind k k' (belows c f) (λ v. decideds label _ _ _ _ (value_truth v) (wrongs (codes "limit") label) (joineds vs))
    turnses (suc n) label c b vs =
        bind k k' (belows c f)
        (λ v. decideds label _ _ _ _ (value_truth v) (bind k k' (belows b f)
        (λ w. turnses n label c b (vs ++ w ∷ []))) (joineds vs))

    whiles : (label : List ℕ) (kids : List TaggedTree) →
        Follows k k' (while_row k below f label kids) (while_row k' below' f label kids)
    whiles label [] = bads label
    whiles label (c ∷ []) = bads label
    whiles label (c ∷ b ∷ []) = turnses MOST_TURNS label c b []
    whiles label (c ∷ b ∷ x ∷ ts) = bads label

    primitives : (which : Prim) (kids : List TaggedTree) →
        Follows k k' (primitive k below f which kids) (primitive k' below' f which kids)
    unfolding primitive
    primitives which kids = bind k k' (eachs kids []) (λ vs. bind k k' (pays k k' _) (λ _. takens _))

    by_names : (label : List ℕ) (at : Option (List ℕ)) (kids : List TaggedTree) (r : Option Prim)
        → Follows k k' (by_name k below label at kids f r) (by_name k' below' label at kids f r)
    by_names label at kids (Some which) = primitives which kids
    by_names label at kids None = tag_runs label at kids

    -- the tuple of all arguments
    module _ (below_all below_all' : EvalAll) (alls : (ts : List TaggedTree) (g : Frame) →
        Follows k k' (below_all ts g) (below_all' ts g)) where
      all_useds : (taking : Taking) (ts : List TaggedTree) →
          Follows k k' (all_used taking k below_all f ts) (all_used taking k' below_all' f ts)
      unfolding all_used
      all_useds takings.Evaluated ts = alls ts (caller_of f)
      all_useds takings.Quoted ts = takens _

      all_numbereds : (taking : Taking) (label : List ℕ) (x : Name) (ts : List TaggedTree) (r : Option (List ℤ))
          → Follows k k' (all_numbered taking k below below_all f label x ts r)
          (all_numbered taking k' below' below_all' f label x ts r)
      all_numbereds taking label x ts (Some []) = all_useds taking ts
      all_numbereds taking label x ts (Some (n ∷ ns)) = part_useds taking x (part_among ts n ns)
      all_numbereds taking label x ts None = bads label

      arg_founds : (taking : Taking) (label : List ℕ) (x : Name) (numbers : List TaggedTree) (r : Found) →
          Follows k k' (arg_found taking k below below_all f label x numbers r)
          (arg_found taking k' below' below_all' f label x numbers r)
      unfolding arg_part all_part
      arg_founds taking label x numbers Unbound = wrongs (codes "unbound") x
      arg_founds taking label x numbers Missing = wrongs (codes "missing") x
      arg_founds taking label x numbers (Here t) =
          bind k k' (eachs numbers []) (λ vs. numbereds taking label x t (integers_of vs))
      arg_founds taking label x numbers (All ts) =
          bind k k' (eachs numbers []) (λ vs. all_numbereds taking label x ts (integers_of vs))

      arg_nameds : (taking : Taking) (label : List ℕ) (numbers : List TaggedTree) (t : WideTree) →
          Follows k k' (arg_named taking k below below_all f label numbers t)
          (arg_named taking k' below' below_all' f label numbers t)
      unfolding arg_of
      arg_nameds taking label numbers (leaf x) = arg_founds taking label x numbers (argument_in x f)
      arg_nameds taking label numbers (node m ts) = bads label

      args : (taking : Taking) (label : List ℕ) (kids : List TaggedTree) →
          Follows k k' (arg taking k below below_all f label kids) (arg taking k' below' below_all' f label kids)
      args taking label [] = bads label
      args taking label (x ∷ numbers) = arg_nameds taking label numbers x.tree

      rows_follow : (r : Row) (t : TaggedTree) (label : List ℕ) (kids : List TaggedTree) →
          Follows k k' (row r k below below_all t label kids f) (row r k' below' below_all' t label kids f)
      unfolding row
      rows_follow rows.Same t label kids = rebuilts label kids t.at
      rows_follow rows.Refused t label kids = wrongs (codes "refused") label
      rows_follow rows.RawData t label kids = gives k k' _
      rows_follow rows.DrdProps t label kids = gives k k' _
      rows_follow rows.Assign t label kids = assigns label t.at kids
      rows_follow rows.With t label kids = tests (is_odd kids) _ _ _ _ (withs label t.at [] [] kids) (bads label)
      rows_follow rows.Value t label kids = onlys unaries.Value label kids
      rows_follow rows.Provides t label kids = onlys unaries.Provides label kids
      rows_follow rows.Eval t label kids = onlys unaries.Eval label kids
      rows_follow rows.Macro t label kids = macros label t kids
      rows_follow rows.XMacro t label kids = xmacros label t kids
      rows_follow rows.Quote t label kids = quotes label kids
      rows_follow rows.Arg t label kids = args takings.Evaluated label kids
      rows_follow rows.QuoteArg t label kids = args takings.Quoted label kids
      rows_follow rows.MapArgs t label kids = maps label kids
      rows_follow rows.If t label kids =
          tests (nat_le 2 (length kids) && nat_le (length kids) 3) _ _ _ _ (chosens label kids) (bads label)
      rows_follow rows.Case t label kids = tests (nat_le 2 (length kids)) _ _ _ _ (chosens label kids) (bads label)
      rows_follow rows.While t label kids = whiles label kids
      rows_follow rows.Tag t label kids = by_names label t.at kids (primitive_named label)

  levels_of : (below below' : Eval) (below_all below_all' : EvalAll)
      → ((t : TaggedTree) (f : Frame) → Follows k k' (below t f) (below' t f))
      → ((ts : List TaggedTree) (f : Frame) → Follows k k' (below_all ts f) (below_all' ts f))
      → (t : TaggedTree) (f : Frame) (p : WideTree) →
      Follows k k' (level k below below_all t f p) (level k' below' below_all' t f p)
  unfolding leaf_run node_run
  levels_of below below' below_all below_all' belows alls t f (leaf x) =
      bind k k' (needs k k' 1) (λ _. bind k k' (pays k k' _) (λ _. gives k k' _))
  levels_of below below' below_all below_all' belows alls t f (node label kids) =
      bind k k' (needs k k' 1) (λ _. bind k k' (pays k k' 1)
      (λ _. rows_follow below below' belows f below_all below_all' alls (row_of label) t label (kids_from t.at 0 kids)))

  tuples_of : (below below' : Eval) → ((t : TaggedTree) (f : Frame) → Follows k k' (below t f) (below' t f))
      → (ts : List TaggedTree) (f : Frame) → Follows k k' (tuple_run k below ts f) (tuple_run k' below' ts f)
  unfolding tuple_run
  tuples_of below below' belows ts f =
      bind k k' (needs k k' 1) (λ _. bind k k' (pays k k' 1)
      (λ _. rebuilts below below' belows f (codes "tuple") ts None))

overs : {A : Type 0} (k k' : ℕ) (m : Run A) → Follows k k' over m
overs k k' m = record { runs = λ e s h. tt }

-- what holds for these levels holds where both have one more
lift_holds : {A : Type 0} (k k' : ℕ) (m' : Run A) (e : Before) (s : State) (r : Ran A) → Holds k k' m' e s r →
    Holds (suc k) (suc k') m' e s r
lift_holds k k' m' e s Over h = tt
lift_holds k k' m' e s (Done a s') h = record {
  agrees = h.agrees;
  grows = h.grows;
  fewer = h.fewer;
  tighter = h.tighter;
  again = λ e' c' left' i j g r u v. h.again e' c' left' i j g r (omega (arith, u)) (omega (arith, v));
}

lift : {A : Type 0} (k k' : ℕ) (m m' : Run A) → Follows k k' m m' → Follows (suc k) (suc k') m m'
lift k k' m m' h = record { runs = λ e s g. lift_holds k k' m' e s (m e s) (h.runs e s g) }

-- the slack at the end is at most k
IsTight : {A : Type 0} → ℕ → Ran A → Type 0
IsTight k Over = Unit {0}
IsTight k (Done a s) = s.slack ≤ k

inner_tight : {A : Type 0} (k n : ℕ) (m : Run A) (e : Before) (s : State) (r : Ran A) → s.slack ≤ k →
    Holds n n m e s r → IsTight k r
unfolding IsTight
inner_tight k n m e s Over b h = tt
inner_tight k n m e s (Done a s') b h = omega (arith, h.tighter, b)

need_tight : {A : Type 0} (k n : ℕ) (f : Unit {0} → Run A) (e : Before) (s : State) (b : Bool) →
    ((a : Unit {0}) → Follows n n (f a) (f a)) → Agrees e s.looks →
    IsTight k (on_done {A = Unit {0}} e f (if b then Done tt (record s { slack = min s.slack (suc k - 1) }) else Over))
unfolding IsTight
need_tight k n f e s false h g = tt
need_tight k n f e s true h g =
    inner_tight k n (f tt) e (record s {
      slack =
          min s.slack (suc k - 1);
    }) (f tt e (record s {
      slack =
          min s.slack (suc k - 1);
    })) (omega arith) ((h tt).runs e (record s { slack = min s.slack (suc k - 1) }) g)

never_holds : {A : Type 0} (k n : ℕ) (m : Run A) (e : Before) (s : State) (r : Ran A) → Holds n n m e s r →
    IsTight k r → Holds (suc k) zero over e s r
unfolding IsTight
never_holds k n m e s Over h b = tt
never_holds k n m e s (Done a s') h b = record {
  agrees = h.agrees;
  grows = h.grows;
  fewer = h.fewer;
  tighter = h.tighter;
  again = λ e' c' left' i j g r u v. absurd (omega (arith, v, b));
}

never : {A : Type 0} (k : ℕ) (f : Unit {0} → Run A) → ((a : Unit {0}) → Follows (suc k) (suc k) (f a) (f a)) →
    Follows (suc k) zero (need 1 (suc k) >>= f) over
unfolding need
never k f h = record {
  runs = λ e s g.
      never_holds k (suc k) (need 1 (suc k) >>=
      f) e s ((need 1 (suc k) >>=
      f) e s) ((bind (suc k) (suc k) (needs (suc k) (suc k) 1) h).runs e s g)
      (need_tight k (suc k) f e s (nat_le 1 (suc k)) h g);
}

module _ (k : ℕ) (below : Eval) (belows : (t : TaggedTree) (f : Frame) →
    Follows (suc k) (suc k) (below t f) (below t f)) where
  never_tuples : (ts : List TaggedTree) (f : Frame) → Follows (suc k) zero (tuple_run (suc k) below ts f) over
  unfolding tuple_run
  never_tuples ts f =
      never k (λ _. pay 1 >> rebuilt below f (codes "tuple") ts None)
      (λ _. bind (suc k) (suc k) (pays (suc k) (suc k) 1)
      (λ _. rebuilts (suc k) (suc k) below below belows f (codes "tuple") ts None))

  nevers : (below_all : EvalAll) →
      ((ts : List TaggedTree) (f : Frame) → Follows (suc k) (suc k) (below_all ts f) (below_all ts f))
      → (t : TaggedTree) (f : Frame) (p : WideTree) → Follows (suc k) zero (level (suc k) below below_all t f p) over
  unfolding leaf_run node_run
  nevers below_all alls t f (leaf x) =
      never k (λ _. pay (1 + length x) >> give (text x t.at))
      (λ _. bind (suc k) (suc k) (pays (suc k) (suc k) _) (λ _. gives (suc k) (suc k) _))
  nevers below_all alls t f (node label kids) =
      never k (λ _. pay 1 >> row (row_of label) (suc k) below below_all t label (kids_from t.at 0 kids) f)
      (λ _. bind (suc k) (suc k) (pays (suc k) (suc k) 1)
      (λ _. rows_follow (suc k) (suc k) below below belows f below_all below_all alls (row_of label) t label
      (kids_from t.at 0 kids)))

mutual
  unfolding ex

  pub ex_follows : (k k' : ℕ) (t : TaggedTree) (f : Frame) → Follows k k' (ex k t f) (ex k' t f)
  ex_follows zero k' t f = overs zero k' _
  ex_follows (suc k) zero t f =
      nevers k (ex k) (λ u g. lift k k (ex k u g) (ex k u g) (ex_follows k k u g))
      (ex_all k) (λ ts g. lift k k (ex_all k ts g) (ex_all k ts g) (all_follows k k ts g)) t f t.tree
  ex_follows (suc k) (suc k') t f =
      levels_of (suc k) (suc k') (ex k) (ex k') (ex_all k) (ex_all k')
      (λ u g. lift k k' (ex k u g) (ex k' u g) (ex_follows k k' u g))
      (λ ts g. lift k k' (ex_all k ts g) (ex_all k' ts g) (all_follows k k' ts g)) t f t.tree

  pub all_follows : (k k' : ℕ) (ts : List TaggedTree) (f : Frame) → Follows k k' (ex_all k ts f) (ex_all k' ts f)
  all_follows zero k' ts f = overs zero k' _
  all_follows (suc k) zero ts f =
      never_tuples k (ex k) (λ u g. lift k k (ex k u g) (ex k u g) (ex_follows k k u g)) ts f
  all_follows (suc k) (suc k') ts f =
      tuples_of (suc k) (suc k') (ex k) (ex k') (λ u g. lift k k' (ex k u g) (ex k' u g) (ex_follows k k' u g)) ts f

-- with nothing looked up yet
pub follows_start : (k k' c : ℕ) (t : TaggedTree) (e : Before) (v : WideValue) (s : State) →
    ex k t top e (start k c) ≡ Done v s → Held k k' (ex k' t top) e (start k c) v s
follows_start k k' c t e v s q =
    subst (Holds k k' (ex k' t top) e (start k c)) q ((ex_follows k k' t top).runs e (start k c) (agrees_nothing e))
