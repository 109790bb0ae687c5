-- Where the texts and nodes of a value come from.
use Rattle.std.proofs.Common.{◌≡◌, ℕ, zero, suc, ◌+◌, ◌-◌, Bool, true, false, List, [], ◌∷◌, ◌++◌, length, append_assoc}
use Rattle.std.proofs.Common.{append-nil, refl, sym, ap, subst, ◌∙◌, arith}
use Rattle.std.specs.Prelude.{Option, Some, None, ℤ, pos, negsuc, option_and_then, slice_get, nat_le, ◌&&◌, map, codes}
use Rattle.std.specs.Prelude.{if◌then◌else◌}
use Rattle.std.specs.Str.{bytes_eq}
use Rattle.tx_tree.specs.WideTree.{WideTree, Forest, leaf, node, nil, cons, trees, children_of, size_of, depth_of}
use Rattle.tx_tree.specs.WideTree.{total_nodes}
use Rattle.tx_prim.specs.declared.names.Prim.{Prim}
use Rattle.tx_prim.specs.Names.{named as primitive_named}
use Rattle.tx_prim.specs.Table.{primitive_value}
use Rattle.tx_tree.specs.Paths.{subtree}
use Rattle.tx_origin.specs.Values.{WideValue, text, made, none, vals, value_text, plain, plains}
use Rattle.tx_origin.specs.Values.{child_at, whole, wholes}
use Rattle.tx_origin.specs.TaggedTrees.{TaggedTree, kids_from, kids_of}
use Rattle.tx_env.specs.Pairs.{Name}
use Rattle.tx_exec_form.specs.Runs.{Before, State, Ran, Over, Done, Run, on_done, ◌>>=◌, give, pay, need, look}
use Rattle.tx_exec_form.specs.Runs.{set}
use Rattle.tx_exec_form.specs.Frames.{Frame, top, call, call_all, caller_of, Found, Unbound, Missing, Here, All}
use Rattle.tx_exec_form.specs.Frames.{first_argument, others_of, argument, argument_in}
use Rattle.tx_exec_form.specs.Numbers.{integers_of, tree_at, kid_at, part_of, part_among, from_number, to_number}
use Rattle.tx_exec_form.specs.Numbers.{numbers_between}
use Rattle.tx_exec_form.specs.Words.{row_of, is_label}
use Rattle.tx_exec_form.specs.declared.TheConstants.{MOST_TURNS}
use Rattle.tx_exec_form.specs.Rows.{Eval, error_node, wrong, taken, each, rebuilt, if_text, stored, assigned, assign}
use Rattle.tx_exec_form.specs.Rows.{Sets, set_all, sizes, kept, with_body, with_parts, is_odd, value_found, truth}
use Rattle.tx_exec_form.specs.Rows.{value_of, provides_of, eval_of, unary_run, only_child, unary_row, quote, used}
use Rattle.tx_exec_form.specs.Rows.{part_used}
use Rattle.tx_exec_form.specs.Rows.{numbered, arg_part, arg_found, arg_of, arg_named, arg, macro_in, applied, is_macro}
use Rattle.tx_exec_form.specs.Rows.{called, tag_found, tag_run, macro, row, leaf_run, node_run, level, ex, EvalAll}
use Rattle.tx_exec_form.specs.Rows.{itself, xmacro, all_used, all_numbered, all_part, tuple_of, call_over}
use Rattle.tx_exec_form.specs.Rows.{evaluated_made, mapped, map_numbered, map_parts, map_found, map_args_run, map_named}
use Rattle.tx_exec_form.specs.Rows.{map_args, value_truth, decided, chosen, gathered, turns, while_row}
use Rattle.tx_exec_form.specs.Rows.{primitive, by_name, xmacro_in, is_xmacro, applied_all, tuple_run, ex_all}
use Rattle.tx_exec_form.specs.Laws.{LeadsTo, ComesFrom, AllComeFrom}
use Rattle.tx_exec_form.specs.declared.rows.Row.{Row}
use Rattle.tx_exec_form.specs.declared.rows.Row.TheVariants as rows
use Rattle.tx_exec_form.specs.declared.rows.Unary.{Unary}
use Rattle.tx_exec_form.specs.declared.rows.Unary.TheVariants as unaries
use Rattle.tx_exec_form.specs.declared.rows.Taking.{Taking}
use Rattle.tx_exec_form.specs.declared.rows.Taking.TheVariants as takings

-- the tree is the subtree to which its origin leads
abbrev pub Stands : TaggedTree → TaggedTree → Type 0
Stands root t = LeadsTo root t.at (λ u. u ≡ t.tree)

abbrev pub AllStand : TaggedTree → List TaggedTree → Type 0
AllStand root [] = Unit {0}
AllStand root (t ∷ ts) = Stands root t × AllStand root ts

-- each argument of a frame, and of its callers, is the subtree to which its origin leads
abbrev pub FrameStands : TaggedTree → Frame → Type 0
FrameStands root top = Unit {0}
FrameStands root (call parameters arguments caller) = AllStand root arguments × FrameStands root caller
FrameStands root (call_all parameter arguments caller) = AllStand root arguments × FrameStands root caller

-- ---- paths

subtree_push : (t : WideTree) (r : List ℕ) (i : ℕ) (u v : WideTree) → subtree t r ≡ Some u →
    slice_get (children_of u) i ≡ Some v → subtree t (r ++ i ∷ []) ≡ Some v
subtree_push t [] i u v h g = let same : t ≡ u =
    cc in ap (option_and_then (λ w. Some w)) (ap (λ w. slice_get (children_of w) i) same ∙ g)
subtree_push t (j ∷ r) i u v h g = through (slice_get (children_of t) j) h (λ w. subtree_push w r i u v)
  where
    through : (o : Option WideTree) → option_and_then (λ w. subtree w r) o ≡ Some u →
        ((w : WideTree) → subtree w r ≡ Some u → slice_get (children_of u) i ≡ Some v →
        subtree w (r ++ i ∷ []) ≡ Some v) → option_and_then (λ w. subtree w (r ++ i ∷ [])) o ≡ Some v
    through None q k = absurd cc
    through (Some w) q k = k w q g

module _ (root : TaggedTree) where
  weaker : (at : Option (List ℕ)) (P Q : WideTree → Type 0) → ((u : WideTree) → P u → Q u) → LeadsTo root at P →
      LeadsTo root at Q
  weaker None P Q k h = tt
  weaker (Some p) P Q k h = record {
    base = h.base;
    path = h.path;
    there = h.there;
    is_base = h.is_base;
    is_behind =
        h.is_behind;
    leads = h.leads;
    holds = k h.there h.holds;
  }

  in_root : (at : Option (List ℕ)) (u : WideTree) → LeadsTo root at (λ w. w ≡ u) → LeadsTo root at (λ w. Unit {0})
  in_root at u h = weaker at (λ w. w ≡ u) (λ w. Unit {0}) (λ w e. tt) h

  -- the child of a tree is at its number after the tree's origin
  child_stands : (at : Option (List ℕ)) (i : ℕ) (u v : WideTree) → LeadsTo root at (λ w. w ≡ u) →
      slice_get (children_of u) i ≡ Some v → LeadsTo root (child_at at i) (λ w. w ≡ v)
  child_stands None i u v h g = tt
  child_stands (Some p) i u v h g =
      record {
        base = h.base;
        path = h.path ++ i ∷ [];
        there = v;
        is_base = h.is_base;
        is_behind = ap (λ x. x ++ i ∷ []) h.is_behind ∙ append_assoc h.base h.path (i ∷ []);
        leads = subtree_push root.tree h.path i u v (h.leads ∙ ap Some h.holds) g;
        holds = refl;
      }

  -- each of these is at its number, counted from i, after the origin
  abbrev Numbered : Option (List ℕ) → ℕ → Forest → Type 0
  Numbered at i ts = (j : ℕ) (v : WideTree) → slice_get (trees ts) j ≡ Some v →
      LeadsTo root (child_at at (i + j)) (λ w. w ≡ v)

  first_numbered : (at : Option (List ℕ)) (i : ℕ) (t : WideTree) (ts : Forest) → Numbered at i (cons t ts) →
      LeadsTo root (child_at at i) (λ w. w ≡ t)
  first_numbered at i t ts h = let same : i + 0 ≡ i =
      omega arith in subst (λ n. LeadsTo root (child_at at n) (λ w. w ≡ t)) same (h 0 t refl)

  others_numbered : (at : Option (List ℕ)) (i : ℕ) (t : WideTree) (ts : Forest) → Numbered at i (cons t ts) →
      Numbered at (i + 1) ts
  others_numbered at i t ts h = λ j v g. let same : i + suc j ≡ i + 1 + j =
      omega arith in subst (λ n. LeadsTo root (child_at at n) (λ w. w ≡ v)) same (h (suc j) v g)

  kids_numbered : (at : Option (List ℕ)) (label : List ℕ) (ts : Forest) → LeadsTo root at (λ w. w ≡ node label ts) →
      Numbered at 0 ts
  kids_numbered at label ts h = λ j v g. let same : j ≡ 0 + j =
      omega arith in subst (λ n. LeadsTo root (child_at at n)
      (λ w. w ≡ v)) same (child_stands at j (node label ts) v h g)

  numbered_stand : (at : Option (List ℕ)) (i : ℕ) (ts : Forest) → Numbered at i ts → AllStand root (kids_from at i ts)
  numbered_stand at i nil h = tt
  numbered_stand at i (cons t ts) h =
      (first_numbered at i t ts h, numbered_stand at (i + 1) ts (others_numbered at i t ts h))

  kids_stand : (at : Option (List ℕ)) (label : List ℕ) (ts : Forest) → LeadsTo root at (λ w. w ≡ node label ts) →
      AllStand root (kids_from at 0 ts)
  kids_stand at label ts h = numbered_stand at 0 ts (kids_numbered at label ts h)

  mutual
    whole_comes : (at : Option (List ℕ)) (t : WideTree) → LeadsTo root at (λ w. w ≡ t) → ComesFrom root (whole at t)
    whole_comes at (leaf x) h = h
    whole_comes at (node label ts) h = (in_root at (node label ts) h, wholes_come at 0 ts (kids_numbered at label ts h))

    wholes_come : (at : Option (List ℕ)) (i : ℕ) (ts : Forest) → Numbered at i ts → AllComeFrom root (wholes at i ts)
    wholes_come at i nil h = tt
    wholes_come at i (cons t ts) h = (
      whole_comes (child_at at i) t (first_numbered at i t ts h),
      wholes_come at (i + 1) ts (others_numbered at i t ts h),
    )

  push_comes : (vs : List WideValue) (v : WideValue) → AllComeFrom root (vals vs) → ComesFrom root v →
      AllComeFrom root (vals (vs ++ v ∷ []))
  push_comes [] v h g = (g, tt)
  push_comes (u ∷ vs) v h g = (h.0, push_comes vs v h.1 g)

  two_come : (vs : List WideValue) (u v : WideValue) → AllComeFrom root (vals vs) → ComesFrom root u →
      ComesFrom root v → AllComeFrom root (vals (vs ++ u ∷ v ∷ []))
  two_come [] u v h g k = (g, (k, tt))
  two_come (w ∷ vs) u v h g k = (h.0, two_come vs u v h.1 g k)

  -- ---- parts and arguments

  abbrev PartStands : Option TaggedTree → Type 0
  PartStands None = Unit {0}
  PartStands (Some t) = Stands root t

  get_stands : (ts : List TaggedTree) (i : ℕ) → AllStand root ts → PartStands (slice_get ts i)
  get_stands [] i h = tt
  get_stands (t ∷ ts) zero h = h.0
  get_stands (t ∷ ts) (suc i) h = get_stands ts i h.1

  kids_of_stand : (at : Option (List ℕ)) (t : WideTree) → LeadsTo root at (λ w. w ≡ t) →
      AllStand root (kids_of (record { tree = t; at = at }))
  kids_of_stand at (leaf x) h = tt
  kids_of_stand at (node label ts) h = kids_stand at label ts h

  tree_stands : (ts : List TaggedTree) (n : ℤ) → AllStand root ts → PartStands (tree_at ts n)
  tree_stands ts (pos i) h = get_stands ts i h
  tree_stands ts (negsuc i) h = tt

  kid_stands : (t : TaggedTree) (n : ℤ) → Stands root t → PartStands (kid_at t n)
  kid_stands t n h = tree_stands (kids_of t) n (kids_of_stand t.at t.tree h)

  then_stands : (ns : List ℤ) (o : Option TaggedTree) → PartStands o
      → ((u : TaggedTree) → Stands root u → PartStands (part_of u ns)) →
      PartStands (option_and_then (λ u. part_of u ns) o)
  then_stands ns None g k = tt
  then_stands ns (Some u) g k = k u g

  part_stands : (t : TaggedTree) (ns : List ℤ) → Stands root t → PartStands (part_of t ns)
  part_stands t [] h = h
  part_stands t (n ∷ ns) h = then_stands ns (kid_at t n) (kid_stands t n h) (λ u. part_stands u ns)

  among_stands : (ts : List TaggedTree) (n : ℤ) (ns : List ℤ) → AllStand root ts → PartStands (part_among ts n ns)
  among_stands ts n ns h = then_stands ns (tree_at ts n) (tree_stands ts n h) (λ u. part_stands u ns)

  abbrev FoundStands : Found → Type 0
  FoundStands Unbound = Unit {0}
  FoundStands Missing = Unit {0}
  FoundStands (Here t) = Stands root t
  FoundStands (All ts) = AllStand root ts

  first_stands : (ts : List TaggedTree) → AllStand root ts → FoundStands (first_argument ts)
  first_stands [] h = tt
  first_stands (t ∷ ts) h = h.0

  others_stand : (ts : List TaggedTree) → AllStand root ts → AllStand root (others_of ts)
  others_stand [] h = tt
  others_stand (t ∷ ts) h = h.1

  either_stands : (b : Bool) (m n : Found) → FoundStands m → FoundStands n → FoundStands (if b then m else n)
  either_stands true m n g h = g
  either_stands false m n g h = h

  argument_stands : (x : Name) (ps : List Name) (ts : List TaggedTree) → AllStand root ts →
      FoundStands (argument x ps ts)
  argument_stands x [] ts h = tt
  argument_stands x (p ∷ ps) ts h =
      either_stands (bytes_eq p x) _ _ (first_stands ts h) (argument_stands x ps (others_of ts) (others_stand ts h))

  in_frame : (x : Name) (f : Frame) → FrameStands root f → FoundStands (argument_in x f)
  in_frame x top h = tt
  in_frame x (call ps ts caller) h = argument_stands x ps ts h.0
  in_frame x (call_all p ts caller) h = either_stands (bytes_eq p x) (All ts) Unbound h.0 tt

  caller_stands : (f : Frame) → FrameStands root f → FrameStands root (caller_of f)
  caller_stands top h = tt
  caller_stands (call ps ts caller) h = h.1
  caller_stands (call_all p ts caller) h = h.1

  wholes_come_of : (ts : List TaggedTree) → AllStand root ts →
      AllComeFrom root (vals (map (λ (t : TaggedTree). whole t.at t.tree) ts))
  wholes_come_of [] h = tt
  wholes_come_of (t ∷ ts) h = (whole_comes t.at t.tree h.0, wholes_come_of ts h.1)

-- ---- what a run gives

abbrev pub Gave : {A : Type 0} → (A → Type 0) → Ran A → Type 0
Gave P Over = Unit {0}
Gave P (Done a s) = P a

pub record Yields {A : Type 0} (P : A → Type 0) (m : Run A) : Type 0 where
  pub runs : (e : Before) (s : State) → Gave P (m e s)

then_gave : {A B : Type 0} (P : A → Type 0) (Q : B → Type 0) (f : A → Run B) (e : Before) (r : Ran A) → Gave P r →
    ((a : A) → P a → Yields Q (f a)) → Gave Q (on_done e f r)
then_gave P Q f e Over h g = tt
then_gave P Q f e (Done a s) h g = (g a h).runs e s

bind : {A B : Type 0} (P : A → Type 0) (Q : B → Type 0) {m : Run A} {f : A → Run B} → Yields P m →
    ((a : A) → P a → Yields Q (f a)) → Yields Q (m >>= f)
bind P Q {m = m} {f = f} h g = record { runs = λ e s. then_gave P Q f e (m e s) (h.runs e s) g }

any_gave : {A : Type 0} (r : Ran A) → Gave (λ _. Unit {0}) r
any_gave Over = tt
any_gave (Done a s) = tt

-- nothing is said of what the first run gives
skip : {A B : Type 0} (Q : B → Type 0) (m : Run A) {f : A → Run B} → ((a : A) → Yields Q (f a)) → Yields Q (m >>= f)
skip Q m {f = f} g = record { runs = λ e s. then_gave (λ _. Unit {0}) Q f e (m e s) (any_gave (m e s)) (λ a _. g a) }

gives : {A : Type 0} (P : A → Type 0) (a : A) → P a → Yields P (give a)
gives P a h = record { runs = λ e s. h }

-- ---- the rows

module _ (root : TaggedTree) where
  abbrev V : WideValue → Type 0
  V v = ComesFrom root v

  abbrev Vs : List WideValue → Type 0
  Vs vs = AllComeFrom root (vals vs)

  module _ (k : ℕ) where
    wrongs : (kind detail : List ℕ) → Yields V (wrong k kind detail)
    unfolding wrong
    wrongs kind detail = skip V (need 2 k)
        (λ _. skip V (pay (3 + length kind + length detail))
        (λ _. gives V (error_node kind detail) (tt, (tt, (tt, tt)))))

    bads : (label : List ℕ) → Yields V (wrong k (codes "bad") label)
    bads label = wrongs (codes "bad") label

    takens : (v : WideValue) → V v → Yields V (taken k v)
    unfolding taken
    takens v h = skip V (need (depth_of (plain v)) k) (λ _. skip V (pay (size_of (plain v))) (λ _. gives V v h))

    nameds : (label : List ℕ) (go : Name → Run WideValue) (r : Option Name) → ((x : Name) → Yields V (go x)) →
        Yields V (if_text k label go r)
    nameds label go (Some x) h = h x
    nameds label go None h = bads label

    tests : (b : Bool) (m n : Run WideValue) → Yields V m → Yields V n → Yields V (if b then m else n)
    tests true m n g h = g
    tests false m n g h = h

    value_founds : (x : Name) (t : Option WideTree) → Yields V (value_found k x t)
    value_founds x (Some t) = takens _ (whole_comes root None t tt)
    value_founds x None = wrongs (codes "undefined") x

    value_ofs : (label : List ℕ) (v : WideValue) → Yields V (value_of k label v)
    unfolding value_of
    value_ofs label v = nameds label _ (value_text v) (λ n. skip V (look n) (λ t. value_founds n t))

    provides_ofs : (label : List ℕ) (v : WideValue) → Yields V (provides_of k label v)
    unfolding provides_of
    provides_ofs label v = nameds label _ (value_text v) (λ n. skip V (look n) (λ t. takens (text (truth t) None) tt))

    quotes : (label : List ℕ) (kids : List TaggedTree) → AllStand root kids → Yields V (quote k label kids)
    quotes label [] h = bads label
    quotes label (t ∷ []) h = takens _ (whole_comes root t.at t.tree h.0)
    quotes label (t ∷ u ∷ ts) h = bads label

    itselves : (t : TaggedTree) → Stands root t → Yields V (itself k t)
    itselves t h =
        skip V (need (depth_of t.tree) k)
        (λ _. skip V (pay (size_of t.tree - 1)) (λ _. gives V (whole t.at t.tree) (whole_comes root t.at t.tree h)))

    macros : (label : List ℕ) (t : TaggedTree) (kids : List TaggedTree) → Stands root t →
        Yields V (macro k label t kids)
    macros label t [] h = bads label
    macros label t (x ∷ ts) h = itselves t h

    xmacros : (label : List ℕ) (t : TaggedTree) (kids : List TaggedTree) → Stands root t →
        Yields V (xmacro k label t kids)
    xmacros label t [] h = bads label
    xmacros label t (x ∷ []) h = bads label
    xmacros label t (x ∷ b ∷ []) h = itselves t h
    xmacros label t (x ∷ b ∷ y ∷ ts) h = bads label

    decideds : (label : List ℕ) (go stop : Run WideValue) (r : Option Bool) → Yields V go → Yields V stop
        → Yields V (decided k label go stop r)
    decideds label go stop (Some true) g h = g
    decideds label go stop (Some false) g h = h
    decideds label go stop None g h = bads label

    joineds : (vs : List WideValue) → Vs vs → Yields V (gathered vs)
    unfolding gathered
    joineds vs h = gives V (made (codes "concat") (vals vs) None) (tt, h)

    module _ (below : Eval) (belows : (t : TaggedTree) (f : Frame) → Stands root t → FrameStands root f →
        Yields V (below t f)) (f : Frame) (framed : FrameStands root f) where
      eachs : (ts : List TaggedTree) (vs : List WideValue) → AllStand root ts → Vs vs → Yields Vs (each below f vs ts)
      eachs [] vs h g = gives Vs vs g
      eachs (t ∷ ts) vs h g = bind V Vs (belows t f h.0 framed)
          (λ v come. eachs ts (vs ++ v ∷ []) h.1 (push_comes root vs v g come))

      rebuilts : (label : List ℕ) (kids : List TaggedTree) (at : Option (List ℕ)) → AllStand root kids →
          LeadsTo root at (λ u. Unit {0}) → Yields V (rebuilt below f label kids at)
      unfolding rebuilt
      rebuilts label kids at h g = bind Vs V (eachs kids [] h tt)
          (λ vs come. gives V (made label (vals vs) at) (g, come))

      storeds : (label : List ℕ) (at : Option (List ℕ)) (name : WideValue) (x : Name) (w : WideValue) →
          LeadsTo root at (λ u. Unit {0}) → V name → V w → Yields V (stored label at name x w)
      unfolding stored
      storeds label at name x w h g c =
          skip V (pay (size_of (plain w)))
          (λ _. skip V (set x (Some (plain w)))
          (λ _. gives V (made label (vals (name ∷ w ∷ [])) at) (h, (g, (c, tt)))))

      assigns : (label : List ℕ) (at : Option (List ℕ)) (kids : List TaggedTree) → LeadsTo root at (λ u. Unit {0}) →
          AllStand root kids → Yields V (assign k below f label at kids)
      unfolding assigned
      assigns label at [] g h = bads label
      assigns label at (x ∷ []) g h = bads label
      assigns label at (x ∷ t ∷ []) g h =
          bind V V (belows x f h.0 framed)
          (λ name come. nameds label _ (value_text name)
          (λ n. bind V V (belows t f h.1.0 framed) (λ w too. storeds label at name n w g come too)))
      assigns label at (x ∷ t ∷ y ∷ ts) g h = bads label

      bodies : (label : List ℕ) (at : Option (List ℕ)) (vs : List WideValue) (ps : Sets) (b : TaggedTree) →
          LeadsTo root at (λ u. Unit {0}) → Vs vs → Stands root b → Yields V (with_body below f label at vs ps b)
      unfolding with_body
      bodies label at vs ps b g c h =
          skip V (pay (sizes ps)) (λ _. skip V (kept ps)
          (λ old. skip V (set_all ps) (λ _. bind V V (belows b f h framed)
          (λ v come. skip V (set_all old)
          (λ _. gives V (made label (vals (vs ++ v ∷ [])) at) (g, push_comes root vs v c come))))))

      withs : (label : List ℕ) (at : Option (List ℕ)) (vs : List WideValue) (ps : Sets) (kids : List TaggedTree) →
          LeadsTo root at (λ u. Unit {0}) → Vs vs → AllStand root kids →
          Yields V (with_parts k below f label at vs ps kids)
      withs label at vs ps [] g c h = bads label
      withs label at vs ps (b ∷ []) g c h = bodies label at vs ps b g c h.0
      withs label at vs ps (x ∷ t ∷ ts) g c h =
          bind V V (belows x f h.0 framed)
          (λ name come. nameds label _ (value_text name)
          (λ n. bind V V (belows t f h.1.0 framed)
          (λ w too. withs label at _ _ ts g (two_come root vs name w c come too) h.1.1)))

      eval_ofs : (v : WideValue) → Yields V (eval_of below f v)
      unfolding eval_of
      eval_ofs v = skip V (pay (size_of (plain v))) (λ _. belows (record { tree = plain v; at = None }) f tt framed)

      behinds : (unary : Unary) (label : List ℕ) (v : WideValue) → Yields V (unary_run unary k below f label v)
      behinds unaries.Value label v = value_ofs label v
      behinds unaries.Provides label v = provides_ofs label v
      behinds unaries.Eval label v = eval_ofs v

      onlys : (unary : Unary) (label : List ℕ) (kids : List TaggedTree) → AllStand root kids →
          Yields V (unary_row unary k below f label kids)
      unfolding only_child
      onlys unary label [] h = bads label
      onlys unary label (x ∷ []) h = bind V V (belows x f h.0 framed) (λ v _. behinds unary label v)
      onlys unary label (x ∷ y ∷ ts) h = bads label

      useds : (taking : Taking) (t : TaggedTree) → Stands root t → Yields V (used taking k below f t)
      unfolding used
      useds takings.Evaluated t h = belows t (caller_of f) h (caller_stands root f framed)
      useds takings.Quoted t h = takens _ (whole_comes root t.at t.tree h)

      part_useds : (taking : Taking) (x : Name) (r : Option TaggedTree) → PartStands root r →
          Yields V (part_used taking k below f x r)
      part_useds taking x (Some t) h = useds taking t h
      part_useds taking x None h = wrongs (codes "no-part") x

      numbereds : (taking : Taking) (label : List ℕ) (x : Name) (t : TaggedTree) (r : Option (List ℤ)) → Stands root t →
          Yields V (numbered taking k below f label x t r)
      numbereds taking label x t (Some ns) h = part_useds taking x (part_of t ns) (part_stands root t ns h)
      numbereds taking label x t None h = bads label

      applieds : (label : List ℕ) (kids : List TaggedTree) (m : Option (List Name × WideTree)) → AllStand root kids →
          Yields V (applied k below label kids f m)
      applieds label kids None h = bads label
      applieds label kids (Some m) h = belows _ _ tt (h, framed)

      applieds_all : (label : List ℕ) (kids : List TaggedTree) (m : Option (Name × WideTree)) → AllStand root kids
          → Yields V (applied_all k below label kids f m)
      applieds_all label kids None h = bads label
      applieds_all label kids (Some m) h = belows _ _ tt (h, framed)

      tag_founds : (label : List ℕ) (at : Option (List ℕ)) (kids : List TaggedTree) (t : Option WideTree) →
          AllStand root kids → LeadsTo root at (λ u. Unit {0}) → Yields V (tag_found k below label at kids f t)
      unfolding called
      tag_founds label at kids None h g = rebuilts label kids at h g
      tag_founds label at kids (Some m) h g =
          tests (is_macro m) _ _ (applieds label kids (macro_in (children_of m)) h)
          (tests (is_xmacro m) _ _ (applieds_all label kids (xmacro_in (children_of m)) h)
          (wrongs (codes "not-macro") label))

      tag_runs : (label : List ℕ) (at : Option (List ℕ)) (kids : List TaggedTree) → AllStand root kids →
          LeadsTo root at (λ u. Unit {0}) → Yields V (tag_run k below label at kids f)
      unfolding tag_run
      tag_runs label at kids h g = skip V (look label) (λ t. tag_founds label at kids t h g)

      evaluated_mades : (t : WideTree) → Yields V (evaluated_made below f t)
      unfolding evaluated_made
      evaluated_mades t = skip V (pay (size_of t)) (λ _. belows (record { tree = t; at = None }) f tt framed)

      mappeds : (foo root' x : List ℕ) (r : Option (List ℕ)) → Yields V (mapped k below f foo root' x r)
      mappeds foo root' x (Some numbers) = evaluated_mades (call_over foo root' x numbers)
      mappeds foo root' x None = wrongs (codes "no-part") x

      map_numbereds : (label foo root' x : List ℕ) (count : ℕ) (r : Option (List ℤ))
          → Yields V (map_numbered k below f label foo root' x count r)
      map_numbereds label foo root' x count (Some ns) =
          mappeds foo root' x (numbers_between count (from_number ns) (to_number count ns))
      map_numbereds label foo root' x count None = bads label

      map_partss : (label foo root' x : List ℕ) (count : ℕ) (numbers : List TaggedTree) → AllStand root numbers
          → Yields V (map_parts k below f label foo root' x count numbers)
      unfolding map_parts
      map_partss label foo root' x count numbers h =
          bind Vs V (eachs numbers [] h tt) (λ vs _. map_numbereds label foo root' x count (integers_of vs))

      map_founds : (label foo root' x : List ℕ) (numbers : List TaggedTree) (r : Found) → AllStand root numbers
          → Yields V (map_found k below f label foo root' x numbers r)
      map_founds label foo root' x numbers Unbound h = wrongs (codes "unbound") x
      map_founds label foo root' x numbers Missing h = wrongs (codes "missing") x
      map_founds label foo root' x numbers (Here t) h = map_partss label foo root' x (length (kids_of t)) numbers h
      map_founds label foo root' x numbers (All ts) h = map_partss label foo root' x (length ts) numbers h

      map_nameds : (label : List ℕ) (numbers : List TaggedTree) (foo root' x : WideTree) → AllStand root numbers
          → Yields V (map_named k below f label numbers foo root' x)
      unfolding map_args_run
      map_nameds label numbers (leaf foo) (leaf root') (leaf x) h =
          tests (is_label foo
          && is_label root') _ _ (map_founds label foo root' x numbers (argument_in x f) h) (bads label)
      map_nameds label numbers (leaf foo) (leaf root') (node m ts) h = bads label
      map_nameds label numbers (leaf foo) (node m ts) x h = bads label
      map_nameds label numbers (node m ts) root' x h = bads label

      maps : (label : List ℕ) (kids : List TaggedTree) → AllStand root kids → Yields V (map_args k below f label kids)
      maps label [] h = bads label
      maps label (foo ∷ []) h = bads label
      maps label (foo ∷ root' ∷ []) h = bads label
      maps label (foo ∷ root' ∷ x ∷ []) h = map_nameds label [] foo.tree root'.tree x.tree tt
      maps label (foo ∷ root' ∷ x ∷ a ∷ []) h = map_nameds label (a ∷ []) foo.tree root'.tree x.tree h.1.1.1
      maps label (foo ∷ root' ∷ x ∷ a ∷ b ∷ []) h = map_nameds label (a ∷ b ∷ []) foo.tree root'.tree x.tree h.1.1.1
      maps label (foo ∷ root' ∷ x ∷ a ∷ b ∷ y ∷ ts) h = bads label

      chosens : (label : List ℕ) (kids : List TaggedTree) → AllStand root kids → Yields V (chosen k below f label kids)
      chosens label [] h = takens (text [] None) tt
      chosens label (b ∷ []) h = belows b f h.0 framed
      chosens label (c ∷ b ∷ ts) h =
          bind V V (belows c f h.0 framed)
          (λ v _. decideds label _ _ (value_truth v) (belows b f h.1.0 framed) (chosens label ts h.1.1))

      turnses : (n : ℕ) (label : List ℕ) (c b : TaggedTree) (vs : List WideValue) → Stands root c → Stands root b →
          Vs vs
          → Yields V (turns n k below f label c b vs)
      unfolding turns
      turnses zero label c b vs p q h =
          bind V V (belows c f p framed)
          (λ v _. decideds label _ _ (value_truth v) (wrongs (codes "limit") label) (joineds vs h))
      turnses (suc n) label c b vs p q h =
          bind V V (belows c f p framed)
          (λ v _. decideds label _ _ (value_truth v)
          (bind V V (belows b f q framed)
          (λ w come. turnses n label c b (vs ++ w ∷ []) p q (push_comes root vs w h come)))
          (joineds vs h))

      whiles : (label : List ℕ) (kids : List TaggedTree) → AllStand root kids →
          Yields V (while_row k below f label kids)
      whiles label [] h = bads label
      whiles label (c ∷ []) h = bads label
      whiles label (c ∷ b ∷ []) h = turnses MOST_TURNS label c b [] h.0 h.1.0 tt
      whiles label (c ∷ b ∷ x ∷ ts) h = bads label

      primitives : (which : Prim) (kids : List TaggedTree) → AllStand root kids →
          Yields V (primitive k below f which kids)
      unfolding primitive
      primitives which kids h =
          bind Vs V (eachs kids [] h tt)
          (λ vs _. skip V (pay (total_nodes (plains (vals vs))))
          (λ _. takens (whole None (primitive_value which (map plain vs)))
          (whole_comes root None (primitive_value which (map plain vs)) tt)))

      by_names : (label : List ℕ) (at : Option (List ℕ)) (kids : List TaggedTree) (r : Option Prim) → AllStand root kids
          → LeadsTo root at (λ u. Unit {0}) → Yields V (by_name k below label at kids f r)
      by_names label at kids (Some which) h g = primitives which kids h
      by_names label at kids None h g = tag_runs label at kids h g

      -- the tuple of all arguments
      module _ (below_all : EvalAll) (alls : (ts : List TaggedTree) (g : Frame) → AllStand root ts →
          FrameStands root g → Yields V (below_all ts g)) where
        all_useds : (taking : Taking) (ts : List TaggedTree) → AllStand root ts →
            Yields V (all_used taking k below_all f ts)
        unfolding all_used
        all_useds takings.Evaluated ts h = alls ts (caller_of f) h (caller_stands root f framed)
        all_useds takings.Quoted ts h = takens (tuple_of ts) (tt, wholes_come_of root ts h)

        all_numbereds : (taking : Taking) (label : List ℕ) (x : Name) (ts : List TaggedTree) (r : Option (List ℤ)) →
            AllStand root ts
            → Yields V (all_numbered taking k below below_all f label x ts r)
        all_numbereds taking label x ts (Some []) h = all_useds taking ts h
        all_numbereds taking label x ts (Some (n ∷ ns)) h =
            part_useds taking x (part_among ts n ns) (among_stands root ts n ns h)
        all_numbereds taking label x ts None h = bads label

        arg_founds : (taking : Taking) (label : List ℕ) (x : Name) (numbers : List TaggedTree) (r : Found) →
            FoundStands root r → AllStand root numbers →
            Yields V (arg_found taking k below below_all f label x numbers r)
        unfolding arg_part all_part
        arg_founds taking label x numbers Unbound h g = wrongs (codes "unbound") x
        arg_founds taking label x numbers Missing h g = wrongs (codes "missing") x
        arg_founds taking label x numbers (Here t) h g =
            bind Vs V (eachs numbers [] g tt) (λ vs _. numbereds taking label x t (integers_of vs) h)
        arg_founds taking label x numbers (All ts) h g =
            bind Vs V (eachs numbers [] g tt) (λ vs _. all_numbereds taking label x ts (integers_of vs) h)

        arg_nameds : (taking : Taking) (label : List ℕ) (numbers : List TaggedTree) (t : WideTree) →
            AllStand root numbers → Yields V (arg_named taking k below below_all f label numbers t)
        unfolding arg_of
        arg_nameds taking label numbers (leaf x) g =
            arg_founds taking label x numbers (argument_in x f) (in_frame root x f framed) g
        arg_nameds taking label numbers (node m ts) g = bads label

        args : (taking : Taking) (label : List ℕ) (kids : List TaggedTree) → AllStand root kids →
            Yields V (arg taking k below below_all f label kids)
        args taking label [] h = bads label
        args taking label (x ∷ numbers) h = arg_nameds taking label numbers x.tree h.1

        rows_come : (r : Row) (t : TaggedTree) (label : List ℕ) (kids : List TaggedTree) → Stands root t →
            AllStand root kids → Yields V (row r k below below_all t label kids f)
        unfolding row
        rows_come rows.Same t label kids s h = rebuilts label kids t.at h (in_root root t.at t.tree s)
        rows_come rows.Refused t label kids s h = wrongs (codes "refused") label
        rows_come rows.RawData t label kids s h = gives V (made label none t.at) (in_root root t.at t.tree s, tt)
        rows_come rows.DrdProps t label kids s h = gives V (text [] None) tt
        rows_come rows.Assign t label kids s h = assigns label t.at kids (in_root root t.at t.tree s) h
        rows_come rows.With t label kids s h =
            tests (is_odd kids) _ _ (withs label t.at [] [] kids (in_root root t.at t.tree s) tt h) (bads label)
        rows_come rows.Value t label kids s h = onlys unaries.Value label kids h
        rows_come rows.Provides t label kids s h = onlys unaries.Provides label kids h
        rows_come rows.Eval t label kids s h = onlys unaries.Eval label kids h
        rows_come rows.Macro t label kids s h = macros label t kids s
        rows_come rows.XMacro t label kids s h = xmacros label t kids s
        rows_come rows.Quote t label kids s h = quotes label kids h
        rows_come rows.Arg t label kids s h = args takings.Evaluated label kids h
        rows_come rows.QuoteArg t label kids s h = args takings.Quoted label kids h
        rows_come rows.MapArgs t label kids s h = maps label kids h
        rows_come rows.If t label kids s h =
            tests (nat_le 2 (length kids) && nat_le (length kids) 3) _ _ (chosens label kids h) (bads label)
        rows_come rows.Case t label kids s h = tests (nat_le 2 (length kids)) _ _ (chosens label kids h) (bads label)
        rows_come rows.While t label kids s h = whiles label kids h
        rows_come rows.Tag t label kids s h =
            by_names label t.at kids (primitive_named label) h (in_root root t.at t.tree s)

        levels_come : (t : TaggedTree) (p : WideTree) → Stands root t → LeadsTo root t.at (λ w. w ≡ p)
            → Yields V (level k below below_all t f p)
        unfolding leaf_run node_run
        levels_come t (leaf x) s h = skip V (need 1 k) (λ _. skip V (pay (1 + length x)) (λ _. gives V (text x t.at) h))
        levels_come t (node label ts) s h =
            skip V (need 1 k) (λ _. skip V (pay 1)
            (λ _. rows_come (row_of label) t label (kids_from t.at 0 ts) s (kids_stand root t.at label ts h)))

      tuples_come : (ts : List TaggedTree) → AllStand root ts → Yields V (tuple_run k below ts f)
      unfolding tuple_run
      tuples_come ts h = skip V (need 1 k) (λ _. skip V (pay 1) (λ _. rebuilts (codes "tuple") ts None h tt))

  mutual
    unfolding ex

    pub ex_comes : (k : ℕ) (t : TaggedTree) (f : Frame) → Stands root t → FrameStands root f → Yields V (ex k t f)
    ex_comes zero t f s h = record { runs = λ e s. tt }
    ex_comes (suc k) t f s h = levels_come (suc k) (ex k) (ex_comes k) f h (ex_all k) (all_come k) t t.tree s s

    pub all_come : (k : ℕ) (ts : List TaggedTree) (f : Frame) → AllStand root ts → FrameStands root f →
        Yields V (ex_all k ts f)
    all_come zero ts f s h = record { runs = λ e s. tt }
    all_come (suc k) ts f s h = tuples_come (suc k) (ex k) (ex_comes k) f h ts s

-- the root is where it is
root_stands : (root : TaggedTree) (at : Option (List ℕ)) → root.at ≡ at → LeadsTo root at (λ w. w ≡ root.tree)
root_stands root None h = tt
root_stands root (Some p) h = record {
  base = p;
  path = [];
  there = root.tree;
  is_base = h;
  is_behind =
      sym (append-nil p);
  leads = refl;
  holds = refl;
}

pub value_comes : (t : TaggedTree) (k : ℕ) (e : Before) (s s' : State) (v : WideValue) → ex k t top e s ≡ Done v s' →
    ComesFrom t v
value_comes t k e s s' v q = subst (Gave
    (λ u. ComesFrom t u)) q ((ex_comes t k t top (root_stands t t.at refl) tt).runs e s)
