-- A macro whose body is layers of `with` round an argument does what its shell says, where the layers' trees are the
-- same in each frame.
use Rattle.std.proofs.Common.{◌≡◌, ℕ, zero, suc, ◌+◌, ◌-◌, ◌<◌, List, [], ◌∷◌, ◌++◌, length, map, ap, refl, sym, ◌∙◌}
use Rattle.std.proofs.Common.{arith}
use mathlib.Core.Path.{fun_ext}
use Rattle.std.specs.Prelude.{nat_le, if◌then◌else◌, Option, Some, None, slice_get, codes}
use Rattle.std.specs.List.{AllByRecursion}
use Rattle.std.specs.Ordering.{nat_cmp}
use Rattle.std.specs.Cmp.Lexicographic.{slice_cmp}
use Rattle.std.specs.FinMap.{empty, get-empty}
use Rattle.tx_tree.specs.WideTree.{WideTree, Forest, leaf, node, forest, trees}
use Rattle.tx_env.specs.Pairs.{Name}
use Rattle.tx_origin.specs.Values.{WideValue, made, vals, plain, value_text}
use Rattle.tx_origin.specs.TaggedTrees.{TaggedTree, kids_from}
use Rattle.tx_exec_form.specs.Runs.{Before, State, Run, Over, on_done, ◌>>=◌, ◌>>◌, give, pay, need, look, from_own}
use Rattle.tx_exec_form.specs.Frames.{Frame, top, call, Here, argument}
use Rattle.tx_exec_form.specs.Rows.{Eval, Sets, ex, ex_all, row, node_run, set_all, sizes, kept, with_body, with_parts}
use Rattle.tx_exec_form.specs.Rows.{with_row, if_text, wrong, arg_of, arg_found, arg_part, used, tag_found, called}
use Rattle.tx_exec_form.specs.Rows.{applied, macro_in, and_name}
use Rattle.tx_exec_form.specs.Maps.{noted}
use Rattle.tx_exec_form.specs.Evaluated.{start}
use Rattle.tx_exec_form.specs.declared.rows.Taking.TheVariants as takings
use Rattle.tx_parts.specs.Shells.{Layer, Shell, IsShell, bare, in_turn, in_layers, child_in, shell_run}
use Rattle.tx_parts.specs.Composed.{alone}
use Rattle.tx_parts.specs.MacroBodies.{body_in_layers, IsFree, IsFreeLayer, IsCallOf}
use Rattle.tx_parts.proofs.Layers.{layer_eval}
use Rattle.tx_parts.proofs.LayerValues.{odd_kids}
use Rattle.tx_parts.proofs.Running.{fresh, row_alone, node_start, step_start}
use Rattle.tx_parts.proofs.Opened.{kid_got}
use Rattle.tx_parts.proofs.Openers.{run_is}

bare_kids : (i : ℕ) (ts : List WideTree) → kids_from None i (forest ts) ≡ map bare ts
bare_kids i [] = refl
bare_kids i (t ∷ ts) = ap (λ us. bare t ∷ us) (bare_kids (i + 1) ts)

bare_last : (ts : List WideTree) (u : WideTree) → map bare (ts ++ u ∷ []) ≡ map bare ts ++ bare u ∷ []
bare_last [] u = refl
bare_last (t ∷ ts) u = ap (λ us. bare t ∷ us) (bare_last ts u)

text_free : (f : Frame) (x : List ℕ) → IsFree f (leaf x)
unfolding ex
text_free f x zero = refl
text_free f x (suc k) = refl

module _ (f : Frame) (k : ℕ) (ls : List Layer) (body : WideTree) (i : ℕ) (u : WideTree)
    (inside : ex k (bare body) f ≡ in_layers k ls (record { tree = u; at = Some (i ∷ []) }) top) where
  abbrev child : TaggedTree
  child = record { tree = u; at = Some (i ∷ []) }

  last_is : (vs : List WideValue) (ps : Sets) → with_body (ex k) f (codes "with") None vs ps (bare body) ≡
      with_body (layer_eval k ls) top (codes "with") None vs ps child
  unfolding with_body
  last_is vs ps =
      ap (λ m. pay (sizes ps) >> (kept ps >>= λ old. set_all ps >> (m >>= λ v. set_all old >>
      give (made (codes "with") (vals (vs ++ v ∷ [])) None)))) inside

  parts_same : (xs : List Name) (ts : List WideTree) (vs : List WideValue) (ps : Sets) → AllByRecursion (IsFree f) ts →
      with_parts (suc k) (ex k) f (codes "with") None vs ps (map bare (in_turn xs ts) ++ bare body ∷ []) ≡
      with_parts (suc k) (layer_eval k ls) top (codes "with") None vs ps (map bare (in_turn xs ts) ++ child ∷ [])
  parts_same [] ts vs ps h = last_is vs ps
  parts_same (x ∷ xs) [] vs ps h = last_is vs ps
  parts_same (x ∷ xs) (t ∷ ts) vs ps h =
      by (λ name n v. parts_same xs ts (vs ++ name ∷ v ∷ []) (ps ++ (n, Some (plain v)) ∷ []) h.1)
    where
      then_by : Eval → Frame → TaggedTree → Run WideValue → WideValue → Run WideValue
      then_by below g b m name = if_text (suc k) (codes "with") (λ n. m >>= λ v.
          with_parts (suc k) below g (codes "with") None (vs ++ name ∷ v ∷ []) (ps ++ (n, Some (plain v)) ∷ [])
          (map bare (in_turn xs ts) ++ b ∷ [])) (value_text name)

      first : (ex k (bare (leaf x)) f >>= then_by (ex k) f (bare body) (ex k (bare t) f)) ≡
          (ex k (bare (leaf x)) top >>= then_by (ex k) f (bare body) (ex k (bare t) f))
      first = ap (λ m. m >>= then_by (ex k) f (bare body) (ex k (bare t) f)) (text_free f x k)

      second : (ex k (bare (leaf x)) top >>= then_by (ex k) f (bare body) (ex k (bare t) f)) ≡
          (ex k (bare (leaf x)) top >>= then_by (ex k) f (bare body) (ex k (bare t) top))
      second = ap (λ m. ex k (bare (leaf x)) top >>= then_by (ex k) f (bare body) m) (h.0 k)

      rest_at : WideValue → Name → WideValue → Eval → Frame → TaggedTree → Run WideValue
      rest_at name n v below g b = with_parts (suc k) below g (codes "with") None (vs ++ name ∷ v ∷ [])
          (ps ++ (n, Some (plain v)) ∷ []) (map bare (in_turn xs ts) ++ b ∷ [])

      by : ((name : WideValue) (n : Name) (v : WideValue) →
          rest_at name n v (ex k) f (bare body) ≡ rest_at name n v (layer_eval k ls) top child) →
          (ex k (bare (leaf x)) f >>= then_by (ex k) f (bare body) (ex k (bare t) f)) ≡
          (ex k (bare (leaf x)) top >>= then_by (layer_eval k ls) top child (ex k (bare t) top))
      by go =
          first ∙ second ∙ ap (λ then_all. ex k (bare (leaf x)) top >>= then_all) (fun_ext (λ name.
          ap (λ then_named. if_text (suc k) (codes "with") then_named (value_text name)) (fun_ext (λ n.
          ap (λ then_tree. ex k (bare t) top >>= then_tree) (fun_ext (λ v. go name n v))))))

  row_same : (l : Layer) → IsFreeLayer f l →
      with_row (suc k) (ex k) f (codes "with") None (kids_from None 0 (forest (in_turn l.names l.trees ++ body ∷ []))) ≡
      with_row (suc k) (layer_eval k ls) top (codes "with") None (map bare (in_turn l.names l.trees) ++ child ∷ [])
  row_same l h =
      ap (with_row (suc k) (ex k) f (codes "with") None)
      (bare_kids 0 (in_turn l.names l.trees ++ body ∷ []) ∙ bare_last (in_turn l.names l.trees) body)
      ∙ ap (λ d. if d then with_parts (suc k) (ex k) f (codes "with") None [] []
      (map bare (in_turn l.names l.trees) ++ bare body ∷ []) else wrong (suc k) (codes "bad") (codes "with"))
      (odd_kids l.names l.trees (bare body))
      ∙ parts_same l.names l.trees [] [] h
      ∙ ap (λ d. if d then with_parts (suc k) (layer_eval k ls) top (codes "with") None [] []
      (map bare (in_turn l.names l.trees) ++ child ∷ []) else wrong (suc k) (codes "bad") (codes "with"))
      (sym (odd_kids l.names l.trees child))

module _ (params : List Name) (kids : List TaggedTree) (x : Name) (i : ℕ) (u : WideTree)
    (found : argument x params kids ≡ Here (record { tree = u; at = Some (i ∷ []) })) where
  abbrev frame : Frame
  frame = call params kids top

  argument_is : (k : ℕ) → ex (suc k) (bare (body_in_layers [] x)) frame ≡
      in_layers (suc k) [] (record { tree = u; at = Some (i ∷ []) }) top
  unfolding ex in_layers node_run row arg_of arg_part used
  argument_is k =
      ap (λ r. need 1 (suc k) >> (pay 1 >>
      arg_found takings.Evaluated (suc k) (ex k) (ex_all k) frame (codes "arg") x [] r)) found

  pub body_runs : (k : ℕ) (ls : List Layer) → AllByRecursion (IsFreeLayer frame) ls →
      ex k (bare (body_in_layers ls x)) frame ≡ in_layers k ls (record { tree = u; at = Some (i ∷ []) }) top
  unfolding ex in_layers node_run row
  body_runs zero ls h = refl
  body_runs (suc k) [] h = argument_is k
  body_runs (suc k) (l ∷ ls) h =
      ap (λ m. need 1 (suc k) >> (pay 1 >> m))
      (row_same frame k ls (body_in_layers ls x) i u (body_runs k ls h.1) l h.0)

-- ---- the call

trees_of : (ts : List WideTree) → trees (forest ts) ≡ ts
trees_of [] = refl
trees_of (t ∷ ts) = ap (λ us. t ∷ us) (trees_of ts)

read_macro : (params : List Name) (body : WideTree) → macro_in (map leaf params ++ body ∷ []) ≡ Some (params, body)
read_macro [] body = refl
read_macro (x ∷ []) body = refl
read_macro (x ∷ y ∷ ys) body = ap (and_name x) (read_macro (y ∷ ys) body)

module _ (k c : ℕ) (label : List ℕ) (ts : Forest) (e : Before) (params : List Name) (ls : List Layer) (x : Name)
    (i : ℕ) (h : IsCallOf label ts e params ls x i) where
  abbrev shell : Shell
  shell = record { layers = ls; inner = i }

  abbrev kids : List TaggedTree
  kids = kids_from (Some []) 0 ts

  abbrev looked_up : State
  looked_up = record { own = empty; looks = noted empty label (e label); left = c - 1; slack = k }

  abbrev then_child : Option WideTree → Run WideValue
  then_child o = child_in (in_layers k ls) (slice_get kids i)

  shell_looks : (look label >>= then_child) e (fresh (c - 1) k) ≡
      in_layers k ls (record { tree = h.child; at = Some (i ∷ []) }) top e looked_up
  unfolding look
  shell_looks =
      let number : 0 + i ≡ i = omega arith in
      ap (λ o. on_done e then_child (from_own label o e (fresh (c - 1) k))) (get-empty (slice_cmp nat_cmp) label)
      ∙ ap (λ o. child_in (in_layers k ls) o e looked_up) (kid_got ts 0 i h.child h.stands
      ∙ ap (λ n. Some (record { tree = h.child; at = Some (n ∷ []) })) number)

  call_looks : row_alone k c label ts e e (fresh (c - 1) k) ≡
      ex k (bare (body_in_layers ls x)) (call params kids top) e looked_up
  unfolding called
  call_looks =
      run_is k c label ts e e h.other
      ∙ ap (λ o. tag_found (suc k) (ex k) label (Some []) kids top o e looked_up) h.macro
      ∙ ap (λ m. applied (suc k) (ex k) label kids top m e looked_up)
      (ap macro_in (trees_of (map leaf params ++ body_in_layers ls x ∷ [])) ∙ read_macro params (body_in_layers ls x))

  call_runs : ex (suc k) (alone (node label ts)) top e (start (suc k) c) ≡
      shell_run (suc k) shell (node label ts) e (start (suc k) c)
  unfolding shell_run
  call_runs =
      node_start k c label ts e
      ∙ ap (λ r. if nat_le 1 c then r else Over) (call_looks
      ∙ ap (λ m. m e looked_up) (body_runs params kids x i h.child h.found k ls h.free)
      ∙ sym shell_looks)
      ∙ sym (step_start k c (look label >>= then_child) e)

no_level : (c : ℕ) (s : Shell) (t : WideTree) (e : Before) →
    ex 0 (alone t) top e (start 0 c) ≡ shell_run 0 s t e (start 0 c)
unfolding ex shell_run
no_level c s t e = refl

runs_so : (label : List ℕ) (ts : Forest) (e : Before) (params : List Name) (ls : List Layer) (x : Name) (i : ℕ) →
    IsCallOf label ts e params ls x i → (k c : ℕ) → ex k (alone (node label ts)) top e (start k c) ≡
    shell_run k (record { layers = ls; inner = i }) (node label ts) e (start k c)
runs_so label ts e params ls x i h zero c = no_level c (record { layers = ls; inner = i }) (node label ts) e
runs_so label ts e params ls x i h (suc k) c = call_runs k c label ts e params ls x i h

below_count : (us : List WideTree) (i : ℕ) (u : WideTree) → slice_get us i ≡ Some u → i < length us
below_count [] i u h = cc
below_count (t ∷ ts) zero u h = omega arith
below_count (t ∷ ts) (suc i) u h = let rest : i < length ts = below_count ts i u h in omega (arith, rest)

pub call_shell : (label : List ℕ) (ts : Forest) (e : Before) (params : List Name) (ls : List Layer) (x : Name)
    (i : ℕ) → IsCallOf label ts e params ls x i → IsShell (record { layers = ls; inner = i }) (node label ts) e
call_shell label ts e params ls x i h = record {
  inside = below_count (trees ts) i h.child h.stands;
  full = h.full;
  runs = runs_so label ts e params ls x i h;
}
