-- An opener gives for each tag the same shell in all environments that agree with the looks of the tag's evaluation.
use Rattle.std.proofs.Common.{◌≡◌, ℕ, zero, suc, ◌-◌, Bool, true, false, List, [], ap, subst, refl, sym, ◌∙◌, arith}
use mathlib.Core.Path.{fun_ext}
use Rattle.std.specs.Prelude.{Option, Some, None, ◌&&◌, not, is_some, nat_le, if◌then◌else◌, option_and_then}
use Rattle.std.specs.Ordering.{nat_cmp}
use Rattle.std.specs.Cmp.Lexicographic.{slice_cmp}
use Rattle.std.specs.FinMap.{empty, get-empty}
use Rattle.tx_tree.specs.WideTree.{WideTree, Forest, leaf, node}
use Rattle.tx_prim.specs.declared.names.Prim.{Prim}
use Rattle.tx_prim.specs.Names.{named as primitive_named}
use Rattle.tx_origin.specs.Values.{WideValue}
use Rattle.tx_origin.specs.TaggedTrees.{kids_from}
use Rattle.tx_exec_form.specs.Maps.{LookMap, noted}
use Rattle.tx_exec_form.specs.Runs.{Before, State, Ran, Over, Done, Run, on_done, look, from_own}
use Rattle.tx_exec_form.specs.Frames.{top}
use Rattle.tx_exec_form.specs.Words.{row_of}
use Rattle.tx_exec_form.specs.Rows.{ex, ex_all, row, by_name, tag_run, tag_found}
use Rattle.tx_exec_form.specs.declared.rows.Row.{Row}
use Rattle.tx_exec_form.specs.declared.rows.Row.TheVariants as rows
use Rattle.tx_exec_form.specs.Evaluated.{WideTrace, start, traced, evaluated_in}
use Rattle.tx_exec_form.specs.Laws.{Agrees}
use Rattle.tx_exec_form.proofs.Agreeing.{agrees_nothing, agrees_noted_back}
use Rattle.tx_origin.specs.Under.{value_under}
use Rattle.tx_parts.specs.Atop.{env_atop}
use Rattle.tx_parts.specs.Shells.{Shell, Opener, IsShell, IsOpener, is_tag_row, is_other_tag}
use Rattle.tx_parts.specs.Opening.{no_shells, opens_nothing, shells_by}
use Rattle.tx_parts.specs.Composed.{alone, evaluates}
use Rattle.tx_parts.specs.Shellers.{IsSheller}
use Rattle.tx_parts.proofs.UnderValues.{kids_under}
use Rattle.tx_parts.proofs.Shifting.{added, ran_added, tag_founds, ex_shifts}
use Rattle.tx_parts.proofs.PartRuns.{begun, before_fits}
use Rattle.tx_parts.proofs.Running.{fresh, row_alone, node_start}
use Rattle.tx_parts.proofs.Settings.{none_low}

-- ---- the row of any other tag

tag_row : (r : Row) → is_tag_row r ≡ true → r ≡ rows.Tag
tag_row rows.Same h = cc
tag_row rows.Refused h = cc
tag_row rows.RawData h = cc
tag_row rows.DrdProps h = cc
tag_row rows.Assign h = cc
tag_row rows.With h = cc
tag_row rows.Value h = cc
tag_row rows.Provides h = cc
tag_row rows.Eval h = cc
tag_row rows.Macro h = cc
tag_row rows.XMacro h = cc
tag_row rows.Quote h = cc
tag_row rows.Arg h = cc
tag_row rows.QuoteArg h = cc
tag_row rows.MapArgs h = cc
tag_row rows.If h = cc
tag_row rows.Case h = cc
tag_row rows.While h = cc
tag_row rows.Tag h = refl

both_true : (a b : Bool) → (a && b) ≡ true → (a ≡ true) × (b ≡ true)
both_true true true h = (refl, refl)
both_true true false h = cc
both_true false b h = cc

none_named : {A : Type 0} (o : Option A) → not (is_some o) ≡ true → o ≡ None
none_named None h = refl
none_named (Some a) h = cc

-- ---- its label is looked up

module _ (k c : ℕ) (label : List ℕ) (ts : Forest) (e d : Before) where
  abbrev noted_label : LookMap
  noted_label = noted empty label (e label)

  abbrev looked : State
  looked = record { own = empty; looks = noted_label; left = c - 1; slack = k }

  abbrev found : Run WideValue
  found = tag_found (suc k) (ex k) label (Some []) (kids_from (Some []) 0 ts) top (e label)

  pub run_is : is_other_tag label ≡ true → row_alone k c label ts e e (fresh (c - 1) k) ≡ found e looked
  unfolding row tag_run look
  run_is h =
      let both : (is_tag_row (row_of label) ≡ true) × (not (is_some (primitive_named label)) ≡ true) =
      both_true (is_tag_row (row_of label)) (not (is_some (primitive_named label))) h in
      ap (λ r. row r (suc k) (ex k) (ex_all k) (alone (node label ts)) label (kids_from (Some []) 0 ts) top e
      (fresh (c - 1) k)) (tag_row (row_of label) both.0)
      ∙ ap (λ o. by_name (suc k) (ex k) label (Some []) (kids_from (Some []) 0 ts) top o e (fresh (c - 1) k))
      (none_named (primitive_named label) both.1)
      ∙ ap (λ o. on_done e (tag_found (suc k) (ex k) label (Some []) (kids_from (Some []) 0 ts) top)
      (from_own label o e (fresh (c - 1) k))) (get-empty (slice_cmp nat_cmp) label)

  -- what is done after the look at the label adds to the looks
  abbrev IsLookedBefore : Ran WideValue → Type 0
  IsLookedBefore Over = Unit {0}
  IsLookedBefore (Done v s) = Agrees d s.looks → Agrees d noted_label

  added_before : (r : Ran WideValue) → IsLookedBefore (ran_added (value_under []) empty noted_label k r)
  added_before Over = tt
  added_before (Done v z) = before_fits d empty noted_label z.looks

  found_before : IsLookedBefore (found e looked)
  found_before =
      subst IsLookedBefore
      (((tag_founds empty noted_label k [] (suc k) (ex k) (ex_shifts empty noted_label k [] k) top label (Some [])
      (kids_from (Some []) 0 ts) (e label)).runs e (start k (c - 1)))
      ∙ ap (λ us. tag_found (suc k) (ex k) label (Some []) us top (e label) e
      (added empty noted_label k (start k (c - 1)))) (sym (kids_under [] (Some []) 0 ts))
      ∙ ap (found e) (begun k looked (omega arith)))
      (added_before (tag_found (suc k) (ex k) label (Some []) (kids_from (Some []) 0 ts) top (e label)
      (env_atop empty e) (start k (c - 1))))

  label_same : (trace : WideTrace) (r : Ran WideValue) → IsLookedBefore r → (b : Bool) →
      traced (suc k) c (if b then r else Over) ≡ Some trace → Agrees d trace.looks → d label ≡ e label
  label_same trace Over before true h g = cc
  label_same trace (Done v s) before true h g =
      let looks : s.looks ≡ trace.looks = cc in
      (agrees_noted_back e d label empty (agrees_nothing e) (before (subst (Agrees d) (sym looks) g))).0
  label_same trace r before false h g = cc

pub label_looked : (k c : ℕ) (label : List ℕ) (ts : Forest) (e d : Before) (trace : WideTrace) →
    is_other_tag label ≡ true → evaluates k c (node label ts) e ≡ Some trace → Agrees d trace.looks →
    d label ≡ e label
unfolding evaluated_in
label_looked zero c label ts e d trace other h g =
    let off : None ≡ Some trace = sym (none_low c (node label ts) e) ∙ h in
    cc
label_looked (suc k) c label ts e d trace other h g =
    label_same k c label ts e d trace (found k c label ts e d e (looked k c label ts e d))
    (found_before k c label ts e d) (nat_le 1 c)
    (sym (ap (traced (suc k) c) (node_start k c label ts e
    ∙ ap (λ r. if nat_le 1 c then r else Over) (run_is k c label ts e d other))) ∙ h) g

-- ---- its shells

module _ (opener : Opener) (sound : IsOpener opener) where
  is_shell : (label : List ℕ) (ts : Forest) (shell : Shell) (e : Before) (o : Option WideTree) (b : Bool) →
      e label ≡ o → is_other_tag label ≡ b →
      (if b then option_and_then (opener (node label ts)) o else None) ≡ Some shell → IsShell shell (node label ts) e
  is_shell label ts shell e (Some meaning) true p q h = sound label ts meaning shell e q h p
  is_shell label ts shell e None true p q h = cc
  is_shell label ts shell e o false p q h = cc

  shells_are : (t : WideTree) (e : Before) (shell : Shell) → shells_by opener t e ≡ Some shell → IsShell shell t e
  shells_are (leaf words) e shell h = cc
  shells_are (node label ts) e shell h = is_shell label ts shell e (e label) (is_other_tag label) refl refl h

  by_tag : (k c : ℕ) (label : List ℕ) (ts : Forest) (e d : Before) (trace : WideTrace) (b : Bool) →
      is_other_tag label ≡ b → evaluates k c (node label ts) e ≡ Some trace → Agrees d trace.looks →
      (if b then option_and_then (opener (node label ts)) (d label) else None) ≡
      (if b then option_and_then (opener (node label ts)) (e label) else None)
  by_tag k c label ts e d trace true other h g =
      ap (option_and_then (opener (node label ts))) (label_looked k c label ts e d trace other h g)
  by_tag k c label ts e d trace false other h g = refl

  shells_again : (k c : ℕ) (t : WideTree) (e d : Before) (trace : WideTrace) → evaluates k c t e ≡ Some trace →
      Agrees d trace.looks → shells_by opener t d ≡ shells_by opener t e
  shells_again k c (leaf words) e d trace h g = refl
  shells_again k c (node label ts) e d trace h g =
      by_tag k c label ts e d trace (is_other_tag label) refl h g

  pub sheller_is : IsSheller (shells_by opener)
  sheller_is = record { shells = shells_are; again = shells_again }

-- ---- an opener that opens nothing

pub nothing_opens : IsOpener opens_nothing
nothing_opens label ts meaning shell e other h p = cc

none_found : (t : WideTree) (b : Bool) (o : Option WideTree) →
    (if b then option_and_then (opens_nothing t) o else None) ≡ None
none_found t true (Some m) = refl
none_found t true None = refl
none_found t false o = refl

nothing_opened : (t : WideTree) (e : Before) → shells_by opens_nothing t e ≡ no_shells t e
nothing_opened (leaf words) e = refl
nothing_opened (node label ts) e = none_found (node label ts) (is_other_tag label) (e label)

pub closed_by_nothing : shells_by opens_nothing ≡ no_shells
closed_by_nothing = fun_ext (λ t. fun_ext (λ e. nothing_opened t e))
