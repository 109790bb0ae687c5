-- Evaluation in the whole is evaluation alone, seen in the whole: after what was set and looked up before, with the
-- origins under a path.
use Rattle.std.proofs.Common.{◌≡◌, ℕ, zero, suc, ◌-◌, min, Bool, true, false, List, [], ◌∷◌, ◌++◌, length, map, ap}
use Rattle.std.proofs.Common.{subst, refl, sym, ◌∙◌, arith}
use Rattle.std.specs.Prelude.{Option, Some, None, ℤ, nat_le, ◌&&◌, codes, if◌then◌else◌}
use Rattle.std.specs.Option.{option_or, option_map}
use Rattle.std.specs.FinMap.{get}
use Rattle.tx_tree.specs.WideTree.{WideTree, leaf, node, children_of, size_of, depth_of, total_nodes}
use Rattle.tx_prim.specs.declared.names.Prim.{Prim}
use Rattle.tx_prim.specs.Names.{named as primitive_named}
use Rattle.tx_prim.specs.Table.{primitive_value}
use Rattle.tx_origin.specs.Values.{WideValue, text, made, vals, value_text, plain, plains, whole}
use Rattle.tx_origin.specs.TaggedTrees.{TaggedTree, kids_from, kids_of}
use Rattle.tx_env.specs.Pairs.{Name}
use Rattle.tx_env.specs.Environments.{NameMap}
use Rattle.tx_exec_form.specs.Maps.{LookMap, noted}
use Rattle.tx_exec_form.specs.Runs.{Before, State, Ran, Over, Done, Run, on_done, ◌>>=◌, ◌>>◌, give, over, pay, need}
use Rattle.tx_exec_form.specs.Runs.{look, from_own, set}
use Rattle.tx_exec_form.specs.Frames.{Frame, caller_of, Found, Unbound, Missing, Here, All}
use Rattle.tx_exec_form.specs.Frames.{argument_in}
use Rattle.tx_exec_form.specs.Numbers.{integers_of, part_of, part_among, from_number, to_number, numbers_between}
use Rattle.tx_exec_form.specs.Words.{row_of, is_label}
use Rattle.tx_exec_form.specs.declared.TheConstants.{MOST_TURNS}
use Rattle.tx_exec_form.specs.Rows.{Eval, wrong, taken, each, rebuilt, if_text, stored, assigned, assign, Sets, set_all}
use Rattle.tx_exec_form.specs.Rows.{kept, kept_of, with_body, with_parts, with_row, is_odd, value_found}
use Rattle.tx_exec_form.specs.Rows.{value_of, provides_of}
use Rattle.tx_exec_form.specs.Rows.{eval_of, unary_run, only_child, unary_row, quote, used, part_used, numbered}
use Rattle.tx_exec_form.specs.Rows.{arg_part}
use Rattle.tx_exec_form.specs.Rows.{arg_found, arg_of, arg_named, arg, macro_in, applied, is_macro, called, tag_found}
use Rattle.tx_exec_form.specs.Rows.{tag_run, macro, row, leaf_run, node_run, level, ex, EvalAll, itself, xmacro}
use Rattle.tx_exec_form.specs.Rows.{all_used, all_numbered, all_part, call_over, evaluated_made, mapped, map_numbered}
use Rattle.tx_exec_form.specs.Rows.{map_parts, map_found, map_args_run, map_named, map_args, value_truth, decided}
use Rattle.tx_exec_form.specs.Rows.{chosen}
use Rattle.tx_exec_form.specs.Rows.{gathered, turns, while_row, primitive, by_name, xmacro_in, tuple_of}
use Rattle.tx_exec_form.specs.Rows.{is_xmacro, applied_all, tuple_run, ex_all}
use Rattle.tx_exec_form.specs.declared.rows.Row.{Row}
use Rattle.tx_exec_form.specs.declared.rows.Row.TheVariants as rows
use Rattle.tx_exec_form.specs.declared.rows.Unary.{Unary}
use Rattle.tx_exec_form.specs.declared.rows.Unary.TheVariants as unaries
use Rattle.tx_exec_form.specs.declared.rows.Taking.{Taking}
use Rattle.tx_exec_form.specs.declared.rows.Taking.TheVariants as takings
use Rattle.tx_parts.specs.Atop.{atop, env_atop, both_looks}
use Rattle.tx_origin.specs.Under.{origin_under, tree_under, value_under}
use Rattle.tx_parts.proofs.Maps.{get_atop, atop_pair, both_set, both_unset}
use Rattle.tx_origin.proofs.Under.{plain_under, plains_under, vals_under}
use Rattle.tx_parts.specs.InFrames.{frame_under}
use Rattle.tx_parts.proofs.UnderValues.{found_under, text_under}
use Rattle.tx_parts.proofs.UnderValues.{more_under, two_under, plain_all, whole_under, kids_under, kids_of_under}
use Rattle.tx_parts.proofs.UnderValues.{count_under, odd_under, wholes_of_under, numbers_under, truth_under}
use Rattle.tx_parts.proofs.UnderValues.{part_under, among_under, found_in, caller_under}

-- a state of the part, after what the whole has set and looked up before it, where so many levels were left
abbrev pub added : NameMap → LookMap → ℕ → State → State
added w l n s = record {
  own = atop s.own w;
  looks = both_looks l w s.looks;
  left = s.left;
  slack = min n s.slack;
}

abbrev pub ran_added : {A B : Type 0} → (A → B) → NameMap → LookMap → ℕ → Ran A → Ran B
ran_added g w l n Over = Over
ran_added g w l n (Done a s) = Done (g a) (added w l n s)

-- a name with what it has in the whole
abbrev pub raised : NameMap → Sets → Sets
raised w [] = []
raised w (p ∷ ps) = (p.0, option_or p.1 (get w p.0)) ∷ raised w ps

module _ (w : NameMap) (l : LookMap) (n : ℕ) where
  pub record Shifts {A B : Type 0} (g : A → B) (m : Run A) (m' : Run B) : Type 0 where
    pub runs : (e : Before) (s : State) → ran_added g w l n (m (env_atop w e) s) ≡ m' e (added w l n s)

  bound : {A B C D : Type 0} (g : A → B) (h : C → D) (f : A → Run C) (f' : B → Run D) →
      ((a : A) → Shifts h (f a) (f' (g a))) → (e : Before) (r : Ran A) →
      ran_added h w l n (on_done (env_atop w e) f r) ≡ on_done e f' (ran_added g w l n r)
  bound g h f f' q e Over = refl
  bound g h f f' q e (Done a s) = (q a).runs e s

  pub bind : {A B C D : Type 0} {g : A → B} {h : C → D} {m : Run A} {m' : Run B} {f : A → Run C} (f' : B → Run D) →
      Shifts g m m' → ((a : A) → Shifts h (f a) (f' (g a))) → Shifts h (m >>= f) (m' >>= f')
  bind {g = g} {h = h} {m = m} {f = f} f' p q =
      record { runs = λ e s. bound g h f f' q e (m (env_atop w e) s) ∙ ap (on_done e f') (p.runs e s) }

  -- where the results are the same
  pub next : {A C D : Type 0} {h : C → D} {m m' : Run A} {f : A → Run C} {f' : A → Run D} →
      Shifts {A = A} (λ a. a) m m' → ((a : A) → Shifts h (f a) (f' a)) → Shifts h (m >>= f) (m' >>= f')
  next {A = A} {f' = f'} p q = bind {A = A} {B = A} f' p q

  pub gives : {A B : Type 0} (g : A → B) (a : A) → Shifts g (give a) (give (g a))
  gives g a = record { runs = λ e s. refl }

  pub gives_as : {A B : Type 0} (g : A → B) (a : A) (b : B) → g a ≡ b → Shifts g (give a) (give b)
  gives_as g a b h = subst (λ c. Shifts g (give a) (give c)) h (gives g a)

  pub overs : {A B : Type 0} (g : A → B) → Shifts g over over
  overs g = record { runs = λ e s. refl }

  tested : (b : Bool) (s s' : State) → added w l n s ≡ s' →
      ran_added {A = Unit {0}} {B = Unit {0}} (λ u. u) w l n (if b then Done tt s else Over) ≡
      (if b then Done tt s' else Over)
  tested true s s' h = ap (λ z. Done tt z) h
  tested false s s' h = refl

  pub pays : (i : ℕ) → Shifts {A = Unit {0}} (λ u. u) (pay i) (pay i)
  unfolding pay
  pays i = record { runs = λ e s. tested (nat_le i s.left) (record s { left = s.left - i }) _ refl }

  pub needs : (i k : ℕ) → Shifts {A = Unit {0}} (λ u. u) (need i k) (need i k)
  unfolding need
  needs i k = record {
    runs = λ e s.
        let less : min n (min s.slack (k - i)) ≡ min (min n s.slack) (k - i) = omega arith in
        tested (nat_le i k) (record s { slack = min s.slack (k - i) })
        (record (added w l n s) { slack = min (min n s.slack) (k - i) })
        (ap (λ j. record (added w l n s) { slack = j }) less);
  }

  -- ---- looking up and setting

  looked : (x : Name) (e : Before) (s : State) (o v : Option WideTree) → get w x ≡ v →
      ran_added {A = Option WideTree} (λ u. u) w l n (from_own x o (env_atop w e) s) ≡
      from_own x (option_or o v) e (added w l n s)
  looked x e s (Some t) v q = refl
  looked x e s None (Some t) q =
      ap (λ u. ran_added {A = Option WideTree} (λ u. u) w l n (Done u (record s { looks = noted s.looks x u })))
      (ap (λ u. option_or u (e x)) q)
      ∙ ap (λ m. Done (Some t) (record (added w l n s) { looks = m })) (both_set l w s.looks x t (Some t) q)
  looked x e s None None q =
      ap (λ u. ran_added {A = Option WideTree} (λ u. u) w l n (Done u (record s { looks = noted s.looks x u })))
      (ap (λ u. option_or u (e x)) q)
      ∙ ap (λ m. Done (e x) (record (added w l n s) { looks = m })) (both_unset l w s.looks x (e x) q)

  pub lookss : (x : Name) → Shifts {A = Option WideTree} (λ u. u) (look x) (look x)
  unfolding look
  lookss x = record {
    runs = λ e s. looked x e s (get s.own x) (get w x) refl
        ∙ ap (λ o. from_own x o e (added w l n s)) (sym (get_atop s.own w x));
  }

  sets : (x : Name) (t : Option WideTree) →
      Shifts {A = Unit {0}} (λ u. u) (set x t) (set x (option_or t (get w x)))
  sets x t = record { runs = λ e s. ap (λ m. Done tt (record (added w l n s) { own = m })) (atop_pair x t s.own w) }

  raises : (ps : Sets) → Shifts {A = Unit {0}} (λ u. u) (set_all ps) (set_all (raised w ps))
  unfolding set_all
  raises [] = gives (λ u. u) tt
  raises (p ∷ ps) = next (sets p.0 p.1) (λ _. raises ps)

  -- that each of these is set to a tree
  set_alls : (ps : Sets) → raised w ps ≡ ps → Shifts {A = Unit {0}} (λ u. u) (set_all ps) (set_all ps)
  set_alls ps h = subst (λ qs. Shifts {A = Unit {0}} (λ u. u) (set_all ps) (set_all qs)) h (raises ps)

  raised_more : (ps : Sets) (x : Name) (t : WideTree) → raised w ps ≡ ps →
      raised w (ps ++ (x, Some t) ∷ []) ≡ ps ++ (x, Some t) ∷ []
  raised_more ps x t h = raised_both ps ∙ ap (λ qs. qs ++ (x, Some t) ∷ []) h
    where
      raised_both : (qs : Sets) → raised w (qs ++ (x, Some t) ∷ []) ≡ raised w qs ++ (x, Some t) ∷ []
      raised_both [] = refl
      raised_both (p ∷ qs) = ap (λ rs. (p.0, option_or p.1 (get w p.0)) ∷ rs) (raised_both qs)

  kept_raised : (ps : Sets) (own : NameMap) → raised w (kept_of ps own) ≡ kept_of ps (atop own w)
  kept_raised [] own = refl
  kept_raised (p ∷ ps) own =
      ap (λ o. (p.0, o) ∷ raised w (kept_of ps own)) (sym (get_atop own w p.0))
      ∙ ap (λ qs. (p.0, get (atop own w) p.0) ∷ qs) (kept_raised ps own)

  keeps : (ps : Sets) → Shifts (raised w) (kept ps) (kept ps)
  unfolding kept
  keeps ps = record { runs = λ e s. ap (λ qs. Done qs (added w l n s)) (kept_raised ps s.own) }

  module _ (base : List ℕ) where
    abbrev V : WideValue → WideValue
    V v = value_under base v

    abbrev T : TaggedTree → TaggedTree
    T t = tree_under base t

    abbrev F : Frame → Frame
    F f = frame_under base f

    abbrev Goes : Run WideValue → Run WideValue → Type 0
    Goes m m' = Shifts V m m'

    -- a node of these parts
    node_of : (label : List ℕ) (vs : List WideValue) (at : Option (List ℕ)) →
        V (made label (vals vs) at) ≡ made label (vals (map V vs)) (origin_under base at)
    node_of label vs at = ap (λ ps. made label ps (origin_under base at)) (vals_under base vs)

    mades : (label : List ℕ) (vs : List WideValue) (at : Option (List ℕ)) →
        Goes (give (made label (vals vs) at)) (give (made label (vals (map V vs)) (origin_under base at)))
    mades label vs at = gives_as V _ _ (node_of label vs at)

    wrongs : (k : ℕ) (kind detail : List ℕ) → Goes (wrong k kind detail) (wrong k kind detail)
    unfolding wrong
    wrongs k kind detail = next (needs 2 k) (λ _. next (pays _) (λ _. gives V _))

    bads : (k : ℕ) (label : List ℕ) → Goes (wrong k (codes "bad") label) (wrong k (codes "bad") label)
    bads k label = wrongs k (codes "bad") label

    takens_as : (k : ℕ) (v u : WideValue) → V v ≡ u → Goes (taken k v) (taken k u)
    unfolding taken
    takens_as k v u h = subst (λ r. Goes (taken k v) (taken k r)) h
        (subst (λ t. Goes (taken k v) (need (depth_of t) k >> (pay (size_of t) >> give (V v))))
        (sym (plain_under base v))
        (next (needs _ k) (λ _. next (pays _) (λ _. gives V v))))

    nameds : (k : ℕ) (label : List ℕ) (go go' : Name → Run WideValue) (r : Option Name) →
        ((x : Name) → Goes (go x) (go' x)) → Goes (if_text k label go r) (if_text k label go' r)
    nameds k label go go' (Some x) h = h x
    nameds k label go go' None h = bads k label

    -- by the text of a value
    nameds_in : (k : ℕ) (label : List ℕ) (go go' : Name → Run WideValue) (v : WideValue) →
        ((x : Name) → Goes (go x) (go' x)) →
        Goes (if_text k label go (value_text v)) (if_text k label go' (value_text (V v)))
    nameds_in k label go go' v h =
        subst (λ r. Goes (if_text k label go (value_text v)) (if_text k label go' r)) (sym (text_under base v))
        (nameds k label go go' (value_text v) h)

    tests : (b : Bool) (m m' o o' : Run WideValue) → Goes m m' → Goes o o' →
        Goes (if b then m else o) (if b then m' else o')
    tests true m m' o o' g h = g
    tests false m m' o o' g h = h

    value_founds : (k : ℕ) (x : Name) (t : Option WideTree) → Goes (value_found k x t) (value_found k x t)
    value_founds k x (Some t) = takens_as k (whole None t) (whole None t) (whole_under base None t)
    value_founds k x None = wrongs k (codes "undefined") x

    value_ofs : (k : ℕ) (label : List ℕ) (v : WideValue) → Goes (value_of k label v) (value_of k label (V v))
    unfolding value_of
    value_ofs k label v = nameds_in k label _ _ v (λ x. next (lookss x) (λ t. value_founds k x t))

    provides_ofs : (k : ℕ) (label : List ℕ) (v : WideValue) → Goes (provides_of k label v) (provides_of k label (V v))
    unfolding provides_of
    provides_ofs k label v = nameds_in k label _ _ v (λ x. next (lookss x) (λ t. takens_as k _ _ refl))

    quotes : (k : ℕ) (label : List ℕ) (kids : List TaggedTree) → Goes (quote k label kids) (quote k label (map T kids))
    quotes k label [] = bads k label
    quotes k label (t ∷ []) = takens_as k _ _ (whole_under base t.at t.tree)
    quotes k label (t ∷ u ∷ ts) = bads k label

    itselves : (k : ℕ) (t : TaggedTree) → Goes (itself k t) (itself k (T t))
    itselves k t = next (needs _ k) (λ _. next (pays _) (λ _. gives_as V _ _ (whole_under base t.at t.tree)))

    macros : (k : ℕ) (label : List ℕ) (t : TaggedTree) (kids : List TaggedTree) →
        Goes (macro k label t kids) (macro k label (T t) (map T kids))
    macros k label t [] = bads k label
    macros k label t (x ∷ ts) = itselves k t

    xmacros : (k : ℕ) (label : List ℕ) (t : TaggedTree) (kids : List TaggedTree) →
        Goes (xmacro k label t kids) (xmacro k label (T t) (map T kids))
    xmacros k label t [] = bads k label
    xmacros k label t (x ∷ []) = bads k label
    xmacros k label t (x ∷ b ∷ []) = itselves k t
    xmacros k label t (x ∷ b ∷ y ∷ ts) = bads k label

    decideds : (k : ℕ) (label : List ℕ) (go go' stop stop' : Run WideValue) (r : Option Bool) →
        Goes go go' → Goes stop stop' → Goes (decided k label go stop r) (decided k label go' stop' r)
    decideds k label go go' stop stop' (Some true) h g = h
    decideds k label go go' stop stop' (Some false) h g = g
    decideds k label go go' stop stop' None h g = bads k label

    -- by the truth of a value
    decideds_in : (k : ℕ) (label : List ℕ) (go go' stop stop' : Run WideValue) (v : WideValue) →
        Goes go go' → Goes stop stop' →
        Goes (decided k label go stop (value_truth v)) (decided k label go' stop' (value_truth (V v)))
    decideds_in k label go go' stop stop' v h g =
        subst (λ r. Goes (decided k label go stop (value_truth v)) (decided k label go' stop' r))
        (sym (truth_under base v)) (decideds k label go go' stop stop' (value_truth v) h g)

    joineds : (vs : List WideValue) → Goes (gathered vs) (gathered (map V vs))
    unfolding gathered
    joineds vs = mades (codes "concat") vs None

    storeds : (label : List ℕ) (at : Option (List ℕ)) (name : WideValue) (x : Name) (v : WideValue) →
        Goes (stored label at name x v) (stored label (origin_under base at) (V name) x (V v))
    unfolding stored
    storeds label at name x v =
        subst (λ t. Goes (stored label at name x v)
        (pay (size_of t) >> (set x (Some t) >> give (made label (vals (V name ∷ V v ∷ [])) (origin_under base at)))))
        (sym (plain_under base v)) (next (pays _) (λ _. next (sets x (Some (plain v)))
        (λ _. gives V (made label (vals (name ∷ v ∷ [])) at))))

    module _ (k : ℕ) (below : Eval) (belows : (t : TaggedTree) (f : Frame) → Goes (below t f) (below (T t) (F f)))
        (f : Frame) where
      abbrev Values : Run (List WideValue) → Run (List WideValue) → Type 0
      Values m m' = Shifts (map V) m m'

      pub eachs : (ts : List TaggedTree) (vs : List WideValue) →
          Values (each below f vs ts) (each below (F f) (map V vs) (map T ts))
      eachs [] vs = gives (map V) vs
      eachs (t ∷ ts) vs = bind (λ u. each below (F f) (map V vs ++ u ∷ []) (map T ts)) (belows t f)
          (λ v. subst (λ us. Values (each below f (vs ++ v ∷ []) ts) (each below (F f) us (map T ts)))
          (more_under base vs v) (eachs ts (vs ++ v ∷ [])))

      rebuilts : (label : List ℕ) (kids : List TaggedTree) (at : Option (List ℕ)) →
          Goes (rebuilt below f label kids at) (rebuilt below (F f) label (map T kids) (origin_under base at))
      unfolding rebuilt
      rebuilts label kids at = bind (λ us. give (made label (vals us) (origin_under base at))) (eachs kids [])
          (λ vs. mades label vs at)

      assigns : (label : List ℕ) (at : Option (List ℕ)) (kids : List TaggedTree) →
          Goes (assign k below f label at kids) (assign k below (F f) label (origin_under base at) (map T kids))
      unfolding assigned
      assigns label at [] = bads k label
      assigns label at (x ∷ []) = bads k label
      assigns label at (x ∷ t ∷ []) =
          bind (λ name. if_text k label (λ y. below (T t) (F f) >>= stored label (origin_under base at) name y)
          (value_text name)) (belows x f)
          (λ name. nameds_in k label _ _ name
          (λ y. bind (stored label (origin_under base at) (V name) y) (belows t f) (λ v. storeds label at name y v)))
      assigns label at (x ∷ t ∷ y ∷ ts) = bads k label

      bodies : (label : List ℕ) (at : Option (List ℕ)) (vs : List WideValue) (ps : Sets) (b : TaggedTree) →
          raised w ps ≡ ps → Goes (with_body below f label at vs ps b)
          (with_body below (F f) label (origin_under base at) (map V vs) ps (T b))
      unfolding with_body
      bodies label at vs ps b h = next (pays _)
          (λ _. bind (λ old. set_all ps >> (below (T b) (F f) >>= λ u. set_all old >>
          give (made label (vals (map V vs ++ u ∷ [])) (origin_under base at)))) (keeps ps)
          (λ old. next (set_alls ps h)
          (λ _. bind (λ u. set_all (raised w old) >>
          give (made label (vals (map V vs ++ u ∷ [])) (origin_under base at))) (belows b f)
          (λ v. next (raises old) (λ _. subst (λ us. Goes (give (made label (vals (vs ++ v ∷ [])) at))
          (give (made label (vals us) (origin_under base at)))) (more_under base vs v) (mades label
          (vs ++ v ∷ []) at))))))

      withs : (label : List ℕ) (at : Option (List ℕ)) (vs : List WideValue) (ps : Sets) (kids : List TaggedTree) →
          raised w ps ≡ ps → Goes (with_parts k below f label at vs ps kids)
          (with_parts k below (F f) label (origin_under base at) (map V vs) ps (map T kids))
      withs label at vs ps [] h = bads k label
      withs label at vs ps (b ∷ []) h = bodies label at vs ps b h
      withs label at vs ps (x ∷ t ∷ ts) h =
          bind (λ name. if_text k label (λ y. below (T t) (F f) >>= λ v. with_parts k below (F f) label
          (origin_under base at) (map V vs ++ name ∷ v ∷ []) (ps ++ (y, Some (plain v)) ∷ []) (map T ts))
          (value_text name)) (belows x f)
          (λ name. nameds_in k label _ _ name
          (λ y. bind (λ v. with_parts k below (F f) label (origin_under base at) (map V vs ++ V name ∷ v ∷ [])
          (ps ++ (y, Some (plain v)) ∷ []) (map T ts)) (belows t f)
          (λ v. subst (λ q. Goes
          (with_parts k below f label at (vs ++ name ∷ v ∷ []) (ps ++ (y, Some (plain v)) ∷ []) ts)
          (with_parts k below (F f) label (origin_under base at) (map V vs ++ V name ∷ V v ∷ [])
          (ps ++ (y, Some q) ∷ []) (map T ts))) (sym (plain_under base v))
          (subst (λ us. Goes (with_parts k below f label at (vs ++ name ∷ v ∷ []) (ps ++ (y, Some (plain v)) ∷ []) ts)
          (with_parts k below (F f) label (origin_under base at) us (ps ++ (y, Some (plain v)) ∷ []) (map T ts)))
          (two_under base vs name v)
          (withs label at (vs ++ name ∷ v ∷ []) (ps ++ (y, Some (plain v)) ∷ []) ts (raised_more ps y (plain v) h))))))

      pub with_rows : (label : List ℕ) (at : Option (List ℕ)) (kids : List TaggedTree) →
          Goes (with_row k below f label at kids)
          (with_row k below (F f) label (origin_under base at) (map T kids))
      with_rows label at kids =
          subst (λ b. Goes (with_row k below f label at kids) (if b then with_parts k below (F f) label
          (origin_under base at) [] [] (map T kids) else wrong k (codes "bad") label)) (sym (odd_under base kids))
          (tests (is_odd kids) _ _ _ _ (withs label at [] [] kids refl) (bads k label))

      eval_ofs : (v : WideValue) → Goes (eval_of below f v) (eval_of below (F f) (V v))
      unfolding eval_of
      eval_ofs v = subst (λ t. Goes (eval_of below f v) (pay (size_of t) >> below (record { tree = t; at = None })
          (F f)))
          (sym (plain_under base v)) (next (pays _) (λ _. belows _ f))

      behinds : (unary : Unary) (label : List ℕ) (v : WideValue) →
          Goes (unary_run unary k below f label v) (unary_run unary k below (F f) label (V v))
      behinds unaries.Value label v = value_ofs k label v
      behinds unaries.Provides label v = provides_ofs k label v
      behinds unaries.Eval label v = eval_ofs v

      onlys : (unary : Unary) (label : List ℕ) (kids : List TaggedTree) →
          Goes (unary_row unary k below f label kids) (unary_row unary k below (F f) label (map T kids))
      unfolding only_child
      onlys unary label [] = bads k label
      onlys unary label (x ∷ []) = bind (unary_run unary k below (F f) label) (belows x f) (λ v. behinds unary label v)
      onlys unary label (x ∷ y ∷ ts) = bads k label

      useds : (taking : Taking) (t : TaggedTree) → Goes (used taking k below f t) (used taking k below (F f) (T t))
      unfolding used
      useds takings.Evaluated t = subst (λ g. Goes (below t (caller_of f)) (below (T t) g)) (sym (caller_under base f))
          (belows t (caller_of f))
      useds takings.Quoted t = takens_as k _ _ (whole_under base t.at t.tree)

      part_useds : (taking : Taking) (x : Name) (r : Option TaggedTree) →
          Goes (part_used taking k below f x r) (part_used taking k below (F f) x (option_map T r))
      part_useds taking x (Some t) = useds taking t
      part_useds taking x None = wrongs k (codes "no-part") x

      numbereds : (taking : Taking) (label : List ℕ) (x : Name) (t : TaggedTree) (r : Option (List ℤ)) →
          Goes (numbered taking k below f label x t r) (numbered taking k below (F f) label x (T t) r)
      numbereds taking label x t (Some ns) =
          subst (λ r. Goes (part_used taking k below f x (part_of t ns)) (part_used taking k below (F f) x r))
          (sym (part_under base ns t)) (part_useds taking x (part_of t ns))
      numbereds taking label x t None = bads k label

      applieds : (label : List ℕ) (kids : List TaggedTree) (m : Option (List Name × WideTree)) →
          Goes (applied k below label kids f m) (applied k below label (map T kids) (F f) m)
      applieds label kids None = bads k label
      applieds label kids (Some m) = belows _ _

      applieds_all : (label : List ℕ) (kids : List TaggedTree) (m : Option (Name × WideTree)) →
          Goes (applied_all k below label kids f m) (applied_all k below label (map T kids) (F f) m)
      applieds_all label kids None = bads k label
      applieds_all label kids (Some m) = belows _ _

      pub tag_founds : (label : List ℕ) (at : Option (List ℕ)) (kids : List TaggedTree) (t : Option WideTree) →
          Goes (tag_found k below label at kids f t)
          (tag_found k below label (origin_under base at) (map T kids) (F f) t)
      unfolding called
      tag_founds label at kids None = rebuilts label kids at
      tag_founds label at kids (Some m) =
          tests (is_macro m) _ _ _ _ (applieds label kids (macro_in (children_of m)))
          (tests (is_xmacro m) _ _ _ _ (applieds_all label kids (xmacro_in (children_of m)))
          (wrongs k (codes "not-macro") label))

      tag_runs : (label : List ℕ) (at : Option (List ℕ)) (kids : List TaggedTree) →
          Goes (tag_run k below label at kids f) (tag_run k below label (origin_under base at) (map T kids) (F f))
      unfolding tag_run
      tag_runs label at kids = next (lookss label) (λ t. tag_founds label at kids t)

      evaluated_mades : (t : WideTree) → Goes (evaluated_made below f t) (evaluated_made below (F f) t)
      unfolding evaluated_made
      evaluated_mades t = next (pays _) (λ _. belows _ f)

      mappeds : (foo root x : List ℕ) (r : Option (List ℕ)) →
          Goes (mapped k below f foo root x r) (mapped k below (F f) foo root x r)
      mappeds foo root x (Some numbers) = evaluated_mades (call_over foo root x numbers)
      mappeds foo root x None = wrongs k (codes "no-part") x

      map_numbereds : (label foo root x : List ℕ) (count : ℕ) (r : Option (List ℤ)) →
          Goes (map_numbered k below f label foo root x count r) (map_numbered k below (F f) label foo root x count r)
      map_numbereds label foo root x count (Some ns) =
          mappeds foo root x (numbers_between count (from_number ns) (to_number count ns))
      map_numbereds label foo root x count None = bads k label

      map_partss : (label foo root x : List ℕ) (count : ℕ) (numbers : List TaggedTree) →
          Goes (map_parts k below f label foo root x count numbers)
          (map_parts k below (F f) label foo root x count (map T numbers))
      unfolding map_parts
      map_partss label foo root x count numbers =
          bind (λ us. map_numbered k below (F f) label foo root x count (integers_of us)) (eachs numbers [])
          (λ vs. subst (λ ns. Goes (map_numbered k below f label foo root x count (integers_of vs))
          (map_numbered k below (F f) label foo root x count ns)) (sym (numbers_under base vs))
          (map_numbereds label foo root x count (integers_of vs)))

      -- `map_parts` with as many parts
      parts_counted : (label foo root x : List ℕ) (count other : ℕ) (numbers : List TaggedTree) → count ≡ other →
          Goes (map_parts k below f label foo root x count numbers)
          (map_parts k below (F f) label foo root x other (map T numbers))
      parts_counted label foo root x count other numbers h =
          subst (λ i. Goes (map_parts k below f label foo root x count numbers)
          (map_parts k below (F f) label foo root x i (map T numbers))) h (map_partss label foo root x count numbers)

      map_founds : (label foo root x : List ℕ) (numbers : List TaggedTree) (r : Found) →
          Goes (map_found k below f label foo root x numbers r)
          (map_found k below (F f) label foo root x (map T numbers) (found_under base r))
      map_founds label foo root x numbers Unbound = wrongs k (codes "unbound") x
      map_founds label foo root x numbers Missing = wrongs k (codes "missing") x
      map_founds label foo root x numbers (Here t) =
          parts_counted label foo root x _ _ numbers (sym (ap length (kids_of_under base t)
          ∙ count_under base (kids_of t)))
      map_founds label foo root x numbers (All ts) =
          parts_counted label foo root x _ _ numbers (sym (count_under base ts))

      map_ofs : (label foo root x : List ℕ) (numbers : List TaggedTree) →
          Goes (map_args_run k below f label foo root x numbers)
          (map_args_run k below (F f) label foo root x (map T numbers))
      unfolding map_args_run
      map_ofs label foo root x numbers =
          subst (λ r. Goes (map_args_run k below f label foo root x numbers)
          (map_found k below (F f) label foo root x (map T numbers) r)) (sym (found_in base x f))
          (map_founds label foo root x numbers (argument_in x f))

      map_nameds : (label : List ℕ) (numbers : List TaggedTree) (foo root x : WideTree) →
          Goes (map_named k below f label numbers foo root x) (map_named k below (F f) label (map T numbers) foo root x)
      map_nameds label numbers (leaf foo) (leaf root) (leaf x) =
          tests (is_label foo && is_label root) _ _ _ _ (map_ofs label foo root x numbers) (bads k label)
      map_nameds label numbers (leaf foo) (leaf root) (node m ts) = bads k label
      map_nameds label numbers (leaf foo) (node m ts) x = bads k label
      map_nameds label numbers (node m ts) root x = bads k label

      maps : (label : List ℕ) (kids : List TaggedTree) →
          Goes (map_args k below f label kids) (map_args k below (F f) label (map T kids))
      maps label [] = bads k label
      maps label (foo ∷ []) = bads k label
      maps label (foo ∷ root ∷ []) = bads k label
      maps label (foo ∷ root ∷ x ∷ []) = map_nameds label [] foo.tree root.tree x.tree
      maps label (foo ∷ root ∷ x ∷ a ∷ []) = map_nameds label (a ∷ []) foo.tree root.tree x.tree
      maps label (foo ∷ root ∷ x ∷ a ∷ b ∷ []) = map_nameds label (a ∷ b ∷ []) foo.tree root.tree x.tree
      maps label (foo ∷ root ∷ x ∷ a ∷ b ∷ y ∷ ts) = bads k label

      chosens : (label : List ℕ) (kids : List TaggedTree) →
          Goes (chosen k below f label kids) (chosen k below (F f) label (map T kids))
      chosens label [] = takens_as k _ _ refl
      chosens label (b ∷ []) = belows b f
      chosens label (c ∷ b ∷ ts) =
          bind (λ u. decided k label (below (T b) (F f)) (chosen k below (F f) label (map T ts)) (value_truth u))
          (belows c f)
          (λ v. decideds_in k label _ _ _ _ v (belows b f) (chosens label ts))

      -- where there are so many children
      counted : (test : ℕ → Bool) (label : List ℕ) (kids : List TaggedTree) →
          Goes (if test (length kids) then chosen k below f label kids else wrong k (codes "bad") label)
          (if test (length (map T kids)) then chosen k below (F f) label (map T kids) else wrong k (codes "bad") label)
      counted test label kids =
          subst (λ i. Goes (if test (length kids) then chosen k below f label kids else wrong k (codes "bad") label)
          (if test i then chosen k below (F f) label (map T kids) else wrong k (codes "bad") label))
          (sym (count_under base kids)) (tests (test (length kids)) _ _ _ _ (chosens label kids) (bads k label))

      turnses : (i : ℕ) (label : List ℕ) (c b : TaggedTree) (vs : List WideValue) →
          Goes (turns i k below f label c b vs) (turns i k below (F f) label (T c) (T b) (map V vs))
      unfolding turns
      turnses zero label c b vs =
          bind (λ u. decided k label (wrong k (codes "limit") label) (gathered (map V vs)) (value_truth u)) (belows c f)
          (λ v. decideds_in k label _ _ _ _ v (wrongs k (codes "limit") label) (joineds vs))
      turnses (suc i) label c b vs =
          bind (λ u. decided k label (below (T b) (F f) >>= λ x. turns i k below (F f) label (T c) (T b)
          (map V vs ++ x ∷ []))
          (gathered (map V vs)) (value_truth u)) (belows c f)
          (λ v. decideds_in k label _ _ _ _ v
          (bind (λ x. turns i k below (F f) label (T c) (T b) (map V vs ++ x ∷ [])) (belows b f)
          (λ u. subst (λ us. Goes (turns i k below f label c b (vs ++ u ∷ [])) (turns i k below (F f) label (T c)
          (T b) us))
          (more_under base vs u) (turnses i label c b (vs ++ u ∷ [])))) (joineds vs))

      whiles : (label : List ℕ) (kids : List TaggedTree) →
          Goes (while_row k below f label kids) (while_row k below (F f) label (map T kids))
      whiles label [] = bads k label
      whiles label (c ∷ []) = bads k label
      whiles label (c ∷ b ∷ []) = turnses MOST_TURNS label c b []
      whiles label (c ∷ b ∷ x ∷ ts) = bads k label

      nodes_in : (vs : List WideValue) → plains (vals (map V vs)) ≡ plains (vals vs)
      nodes_in vs = ap plains (sym (vals_under base vs)) ∙ plains_under base (vals vs)

      primitives : (which : Prim) (kids : List TaggedTree) →
          Goes (primitive k below f which kids) (primitive k below (F f) which (map T kids))
      unfolding primitive
      primitives which kids =
          bind (λ us. pay (total_nodes (plains (vals us)))
          >> taken k (whole None (primitive_value which (map plain us))))
          (eachs kids [])
          (λ vs. subst (λ ts. Goes
          (pay (total_nodes (plains (vals vs))) >> taken k (whole None (primitive_value which (map plain vs))))
          (pay (total_nodes ts) >> taken k (whole None (primitive_value which (map plain (map V vs))))))
          (sym (nodes_in vs)) (next (pays _) (λ _. takens_as k _ _ (whole_under base None _
          ∙ ap (λ ts. whole None (primitive_value which ts)) (sym (plain_all base vs))))))

      by_names : (label : List ℕ) (at : Option (List ℕ)) (kids : List TaggedTree) (r : Option Prim) →
          Goes (by_name k below label at kids f r) (by_name k below label (origin_under base at) (map T kids) (F f) r)
      by_names label at kids (Some which) = primitives which kids
      by_names label at kids None = tag_runs label at kids

      -- the tuple of all arguments
      module _ (below_all : EvalAll)
          (alls : (ts : List TaggedTree) (g : Frame) → Goes (below_all ts g) (below_all (map T ts) (F g))) where
        all_useds : (taking : Taking) (ts : List TaggedTree) →
            Goes (all_used taking k below_all f ts) (all_used taking k below_all (F f) (map T ts))
        unfolding all_used
        all_useds takings.Evaluated ts =
            subst (λ g. Goes (below_all ts (caller_of f)) (below_all (map T ts) g)) (sym (caller_under base f))
            (alls ts (caller_of f))
        all_useds takings.Quoted ts =
            takens_as k (tuple_of ts) _ (node_of (codes "tuple") (map (λ t. whole t.at t.tree) ts) None
            ∙ ap (λ vs. made (codes "tuple") (vals vs) None) (wholes_of_under base ts))

        all_numbereds : (taking : Taking) (label : List ℕ) (x : Name) (ts : List TaggedTree) (r : Option (List ℤ)) →
            Goes (all_numbered taking k below below_all f label x ts r)
            (all_numbered taking k below below_all (F f) label x (map T ts) r)
        all_numbereds taking label x ts (Some []) = all_useds taking ts
        all_numbereds taking label x ts (Some (i ∷ is)) =
            subst (λ r. Goes (part_used taking k below f x (part_among ts i is)) (part_used taking k below (F f) x r))
            (sym (among_under base ts i is)) (part_useds taking x (part_among ts i is))
        all_numbereds taking label x ts None = bads k label

        arg_parts : (taking : Taking) (label : List ℕ) (x : Name) (t : TaggedTree) (numbers : List TaggedTree) →
            Goes (arg_part taking k below f label x t numbers)
            (arg_part taking k below (F f) label x (T t) (map T numbers))
        unfolding arg_part
        arg_parts taking label x t numbers =
            bind (λ us. numbered taking k below (F f) label x (T t) (integers_of us)) (eachs numbers [])
            (λ vs. subst (λ ns. Goes (numbered taking k below f label x t (integers_of vs))
            (numbered taking k below (F f) label x (T t) ns)) (sym (numbers_under base vs))
            (numbereds taking label x t (integers_of vs)))

        all_parts : (taking : Taking) (label : List ℕ) (x : Name) (ts : List TaggedTree) (numbers : List TaggedTree) →
            Goes (all_part taking k below below_all f label x ts numbers)
            (all_part taking k below below_all (F f) label x (map T ts) (map T numbers))
        unfolding all_part
        all_parts taking label x ts numbers =
            bind (λ us. all_numbered taking k below below_all (F f) label x (map T ts) (integers_of us))
            (eachs numbers [])
            (λ vs. subst (λ ns. Goes (all_numbered taking k below below_all f label x ts (integers_of vs))
            (all_numbered taking k below below_all (F f) label x (map T ts) ns)) (sym (numbers_under base vs))
            (all_numbereds taking label x ts (integers_of vs)))

        arg_founds : (taking : Taking) (label : List ℕ) (x : Name) (numbers : List TaggedTree) (r : Found) →
            Goes (arg_found taking k below below_all f label x numbers r)
            (arg_found taking k below below_all (F f) label x (map T numbers) (found_under base r))
        arg_founds taking label x numbers Unbound = wrongs k (codes "unbound") x
        arg_founds taking label x numbers Missing = wrongs k (codes "missing") x
        arg_founds taking label x numbers (Here t) = arg_parts taking label x t numbers
        arg_founds taking label x numbers (All ts) = all_parts taking label x ts numbers

        arg_ofs : (taking : Taking) (label : List ℕ) (x : Name) (numbers : List TaggedTree) →
            Goes (arg_of taking k below below_all f label x numbers)
            (arg_of taking k below below_all (F f) label x (map T numbers))
        unfolding arg_of
        arg_ofs taking label x numbers =
            subst (λ r. Goes (arg_of taking k below below_all f label x numbers)
            (arg_found taking k below below_all (F f) label x (map T numbers) r)) (sym (found_in base x f))
            (arg_founds taking label x numbers (argument_in x f))

        arg_nameds : (taking : Taking) (label : List ℕ) (numbers : List TaggedTree) (t : WideTree) →
            Goes (arg_named taking k below below_all f label numbers t)
            (arg_named taking k below below_all (F f) label (map T numbers) t)
        arg_nameds taking label numbers (leaf x) = arg_ofs taking label x numbers
        arg_nameds taking label numbers (node m ts) = bads k label

        args : (taking : Taking) (label : List ℕ) (kids : List TaggedTree) →
            Goes (arg taking k below below_all f label kids) (arg taking k below below_all (F f) label (map T kids))
        args taking label [] = bads k label
        args taking label (x ∷ numbers) = arg_nameds taking label numbers x.tree

        rows_shift : (r : Row) (t : TaggedTree) (label : List ℕ) (kids : List TaggedTree) →
            Goes (row r k below below_all t label kids f) (row r k below below_all (T t) label (map T kids) (F f))
        unfolding row
        rows_shift rows.Same t label kids = rebuilts label kids t.at
        rows_shift rows.Refused t label kids = wrongs k (codes "refused") label
        rows_shift rows.RawData t label kids = gives_as V _ _ refl
        rows_shift rows.DrdProps t label kids = gives_as V _ _ refl
        rows_shift rows.Assign t label kids = assigns label t.at kids
        rows_shift rows.With t label kids = with_rows label t.at kids
        rows_shift rows.Value t label kids = onlys unaries.Value label kids
        rows_shift rows.Provides t label kids = onlys unaries.Provides label kids
        rows_shift rows.Eval t label kids = onlys unaries.Eval label kids
        rows_shift rows.Macro t label kids = macros k label t kids
        rows_shift rows.XMacro t label kids = xmacros k label t kids
        rows_shift rows.Quote t label kids = quotes k label kids
        rows_shift rows.Arg t label kids = args takings.Evaluated label kids
        rows_shift rows.QuoteArg t label kids = args takings.Quoted label kids
        rows_shift rows.MapArgs t label kids = maps label kids
        rows_shift rows.If t label kids = counted (λ i. nat_le 2 i && nat_le i 3) label kids
        rows_shift rows.Case t label kids = counted (λ i. nat_le 2 i) label kids
        rows_shift rows.While t label kids = whiles label kids
        rows_shift rows.Tag t label kids = by_names label t.at kids (primitive_named label)

    levels_shift : (k : ℕ) (below : Eval) (below_all : EvalAll) →
        ((t : TaggedTree) (f : Frame) → Goes (below t f) (below (T t) (F f))) →
        ((ts : List TaggedTree) (f : Frame) → Goes (below_all ts f) (below_all (map T ts) (F f))) →
        (t : TaggedTree) (f : Frame) (p : WideTree) →
        Goes (level k below below_all t f p) (level k below below_all (T t) (F f) p)
    unfolding leaf_run node_run
    levels_shift k below below_all belows alls t f (leaf x) =
        next (needs 1 k) (λ _. next (pays _) (λ _. gives V (text x t.at)))
    levels_shift k below below_all belows alls t f (node label kids) =
        next (needs 1 k) (λ _. next (pays 1)
        (λ _. subst (λ us. Goes (row (row_of label) k below below_all t label (kids_from t.at 0 kids) f)
        (row (row_of label) k below below_all (T t) label us (F f))) (sym (kids_under base t.at 0 kids))
        (rows_shift k below belows f below_all alls (row_of label) t label (kids_from t.at 0 kids))))

    tuples_shift : (k : ℕ) (below : Eval) → ((t : TaggedTree) (f : Frame) → Goes (below t f) (below (T t) (F f))) →
        (ts : List TaggedTree) (f : Frame) → Goes (tuple_run k below ts f) (tuple_run k below (map T ts) (F f))
    unfolding tuple_run
    tuples_shift k below belows ts f =
        next (needs 1 k) (λ _. next (pays 1) (λ _. rebuilts k below belows f (codes "tuple") ts None))

    mutual
      unfolding ex

      pub ex_shifts : (k : ℕ) (t : TaggedTree) (f : Frame) → Goes (ex k t f) (ex k (T t) (F f))
      ex_shifts zero t f = overs V
      ex_shifts (suc k) t f = levels_shift (suc k) (ex k) (ex_all k) (ex_shifts k) (all_shifts k) t f t.tree

      pub all_shifts : (k : ℕ) (ts : List TaggedTree) (f : Frame) → Goes (ex_all k ts f) (ex_all k (map T ts) (F f))
      all_shifts zero ts f = overs V
      all_shifts (suc k) ts f = tuples_shift (suc k) (ex k) (ex_shifts k) ts f
