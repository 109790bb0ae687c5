-- Looks that agree with an environment.
use Rattle.std.proofs.Common.{◌≡◌, Option, Some, None, refl, ap, sym, ◌∙◌}
use Rattle.std.specs.Prelude.{Bool, true, false, cond, is_some, if◌then◌else◌}
use Rattle.std.specs.declared.cmp.Ordering.TheVariants.{Less, Equal, Greater}
use Rattle.std.specs.declared.cmp.Ordering.{Ordering}
use Rattle.std.specs.Ordering.{nat_cmp, eq_by_cmp, is_eq}
use Rattle.std.specs.Cmp.Lexicographic.{slice_cmp, nat_list_cmp_total}
use Rattle.std.specs.Cmp.{tied_itself}
use Rattle.std.specs.FinMap.{get, insert, empty, get-empty, get-insert, same_map}
use Rattle.std.specs.FinMap.{nat_cmp-IsAntisymmetric, slice_cmp-IsAntisymmetric, IsAntisymmetric}
use Rattle.tx_tree.specs.WideTree.{WideTree}
use Rattle.tx_env.specs.Pairs.{Name}
use Rattle.tx_exec_form.specs.Maps.{Map, LookMap, noted}
use Rattle.tx_exec_form.specs.Runs.{Before}
use Rattle.tx_exec_form.specs.Laws.{Agrees}

pub names_alike : IsAntisymmetric (slice_cmp nat_cmp)
names_alike = slice_cmp-IsAntisymmetric nat_cmp-IsAntisymmetric

abbrev pub tied : Name → Name → Bool
tied q x = eq_by_cmp (slice_cmp nat_cmp) q x

eq_is : (o : Ordering) → is_eq o ≡ true → o ≡ Equal
eq_is Less h = cc
eq_is Equal h = refl
eq_is Greater h = cc

pub same_name : (q x : Name) → tied q x ≡ true → q ≡ x
same_name q x h = names_alike q x (eq_is (slice_cmp nat_cmp q x) h)

pub tied_self : (x : Name) → tied x x ≡ true
tied_self x = ap is_eq (tied_itself nat_list_cmp_total x)

-- two maps that have the same at each name are equal
pub same : {X : Type 0} (m n : Map X) → ((q : Name) → get m q ≡ get n q) → m ≡ n
same m n h = same_map nat_list_cmp_total names_alike m n h

insert_case : (e : Before) (q x : Name) (t u : Option WideTree) (looks : LookMap) (b : Bool) → b ≡ tied q x → e x ≡ t →
    Agrees e looks → cond b (Some t) (get looks q) ≡ Some u → e q ≡ u
insert_case e q x t u looks true r p h g = let one : t ≡ u = cc in ap e (same_name q x (sym r)) ∙ p ∙ one
insert_case e q x t u looks false r p h g = h q u g

agrees_insert : (e : Before) (x : Name) (t : Option WideTree) (looks : LookMap) → e x ≡ t → Agrees e looks →
    Agrees e (insert looks x t)
agrees_insert e x t looks p h =
    λ q u g. insert_case e q x t u looks (tied q x) refl p h (sym (get-insert nat_list_cmp_total looks x t q) ∙ g)

kept_case : (q x : Name) (t u : Option WideTree) (looks : LookMap) (b : Bool) → b ≡ tied q x → get looks x ≡ None →
    get looks q ≡ Some u → cond b (Some t) (get looks q) ≡ Some u
kept_case q x t u looks true r l g = let off : get looks q ≡ get looks x =
    ap (get looks) (same_name q x (sym r)) in absurd cc
kept_case q x t u looks false r l g = g

there : (x : Name) (t : Option WideTree) (looks : LookMap) → get (insert looks x t) x ≡ Some t
there x t looks = get-insert nat_list_cmp_total looks x t x ∙ ap (λ b. cond b (Some t) (get looks x)) (tied_self x)

agrees_insert_back : (e : Before) (x : Name) (t : Option WideTree) (looks : LookMap) → get looks x ≡ None →
    Agrees e (insert looks x t) → (e x ≡ t) × Agrees e looks
agrees_insert_back e x t looks l h = (
  h x t (there x t looks),
  λ q u g.
      h q u (get-insert nat_list_cmp_total looks x t q ∙ kept_case q x t u looks (tied q x) refl l g),
)

-- what a look notes, by what the looks have at the name
abbrev noted_by : Option (Option WideTree) → LookMap → Name → Option WideTree → LookMap
noted_by o looks x t = if is_some o then looks else insert looks x t

noted_agrees : (e : Before) (x : Name) (looks : LookMap) (o : Option (Option WideTree)) → get looks x ≡ o →
    Agrees e looks → Agrees e (noted_by o looks x (e x))
noted_agrees e x looks (Some t) l h = h
noted_agrees e x looks None l h = agrees_insert e x (e x) looks refl h

pub agrees_noted : (e : Before) (x : Name) (looks : LookMap) → Agrees e looks → Agrees e (noted looks x (e x))
agrees_noted e x looks h = noted_agrees e x looks (get looks x) refl h

noted_back : (e e' : Before) (x : Name) (looks : LookMap) (o : Option (Option WideTree)) → get looks x ≡ o →
    Agrees e looks → Agrees e' (noted_by o looks x (e x)) → (e' x ≡ e x) × Agrees e' looks
noted_back e e' x looks (Some u) l f h = (h x u l ∙ sym (f x u l), h)
noted_back e e' x looks None l f h = agrees_insert_back e' x (e x) looks l h

-- an environment that agrees with what was noted has the same at the name
pub agrees_noted_back : (e e' : Before) (x : Name) (looks : LookMap) → Agrees e looks →
    Agrees e' (noted looks x (e x)) → (e' x ≡ e x) × Agrees e' looks
agrees_noted_back e e' x looks f h = noted_back e e' x looks (get looks x) refl f h

pub agrees_nothing : (e : Before) → Agrees e empty
agrees_nothing e = λ q u g. let off : None ≡ Some u = sym (get-empty (slice_cmp nat_cmp) q) ∙ g in absurd cc
