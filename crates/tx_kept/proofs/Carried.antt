-- The entries that an edit leaves of entries in order are in order, and each value is still with its tree.
use Rattle.std.proofs.Common.{◌≡◌, ℕ, zero, suc, ◌<◌, List, [], ◌∷◌}
use Rattle.std.proofs.Common.{length, slice_index_or, refl, sym, ap, subst, ◌∙◌, arith}
use Rattle.std.specs.List.{cons_option, Contains}
use Rattle.std.specs.Option.{IsSome}
use Rattle.std.specs.Prelude.{Option, Some, None, Ok, option_and_then, option_map, filter_map}
use Rattle.tx_tree.specs.WideTree.{WideTree}
use Rattle.tx_tree.specs.Paths.{subtree}
use Rattle.tx_mod.specs.declared.mods.Mod.{Mod}
use Rattle.tx_mod.specs.Changes.{changed}
use Rattle.tx_mod.specs.Moves.{carried_path}
use Rattle.tx_mod.specs.Followed.{carried_by_all, changed_by_all}
use Rattle.tx_mod.specs.Orders.{IsBefore}
use Rattle.tx_mod.proofs.Kept.{carries_subtree}
use Rattle.tx_mod.proofs.Ordered.{keeps_order}
use Rattle.tx_kept.specs.declared.path_map.Entry.{Entry}
use Rattle.tx_kept.specs.Carrying.{carried_entry, carry}
use Rattle.tx_kept.specs.Entries.{AllAfter, IsInOrder, AllLead, Holds, AllHold, IsOf}
use Rattle.tx_kept.proofs.Applying.{First, first_of, path_after, some_is, value_of, has_value}

-- where a path leads through the first modification, and then through the others
record Way (m : Mod) (ms : List Mod) (t v : WideTree) (q r : List ℕ) : Type 0 where
  next : List ℕ
  first : carried_path m t q ≡ Some next
  rest : carried_by_all ms v next ≡ Some r

way_of : (m : Mod) (ms : List Mod) (t v : WideTree) (q r : List ℕ) → changed m t ≡ Ok v
    → carried_by_all (m ∷ ms) t q ≡ Some r → Way m ms t v q r
way_of m ms t v q r is h = by (carried_path m t q) refl (sym (path_after m ms t v q is) ∙ h)
  where
    by : (o : Option (List ℕ)) → carried_path m t q ≡ o → option_and_then (carried_by_all ms v) o ≡ Some r
        → Way m ms t v q r
    by None e g = absurd (cc)
    by (Some p) e g = record { next = p; first = e; rest = g }

-- two paths in order are in order after all modifications
pub all_keep : (ms : List Mod) (t u x y : WideTree) (q r q1 r1 : List ℕ) → changed_by_all ms t ≡ Some u
    → subtree t q ≡ Some x → subtree t r ≡ Some y → IsBefore q r → carried_by_all ms t q ≡ Some q1
    → carried_by_all ms t r ≡ Some r1 → IsBefore q1 r1
all_keep [] t u x y q r q1 r1 h lq lr less e f =
    subst (λ z. IsBefore z r1) (some_is q q1 e) (subst (IsBefore q) (some_is r r1 f) less)
all_keep (m ∷ ms) t u x y q r q1 r1 h lq lr less e f =
    let s = first_of m ms t u h in
    let a = way_of m ms t s.between q q1 s.one e in
    let b = way_of m ms t s.between r r1 s.one f in
    all_keep ms s.between u x y a.next b.next q1 r1 s.others
    (carries_subtree m t q s.between x a.next s.one lq a.first)
    (carries_subtree m t r s.between y b.next s.one lr b.first)
    (keeps_order m t q r x y a.next b.next lq lr less a.first b.first) a.rest b.rest

-- where all modifications carry a path, there is the same subtree
pub all_carry : (ms : List Mod) (t u x : WideTree) (q q1 : List ℕ) → changed_by_all ms t ≡ Some u
    → subtree t q ≡ Some x → carried_by_all ms t q ≡ Some q1 → subtree u q1 ≡ Some x
all_carry [] t u x q q1 h lq e =
    subst (λ z. subtree z q1 ≡ Some x) (some_is t u h) (subst (λ p. subtree t p ≡ Some x) (some_is q q1 e) lq)
all_carry (m ∷ ms) t u x q q1 h lq e =
    let s = first_of m ms t u h in
    let a = way_of m ms t s.between q q1 s.one e in
    all_carry ms s.between u x a.next q1 s.others (carries_subtree m t q s.between x a.next s.one lq a.first) a.rest

-- the entry at another path
abbrev pub at_path : {X : Type 0} → Entry X → List ℕ → Entry X
at_path y r = record { path = r; value = y.value }

-- a list by what becomes of its first entry
pub carry_first : {X : Type 0} (ms : List Mod) (t : WideTree) (y : Entry X) (ys : List (Entry X))
    (o : Option (List ℕ)) → carried_by_all ms t y.path ≡ o
    → carry ms t (y ∷ ys) ≡ cons_option (option_map (at_path y) o) (carry ms t ys)
carry_first ms t y ys o f = ap (λ a. cons_option (option_map (at_path y) a) (carry ms t ys)) f

module _ {X : Type 0} (ms : List Mod) (t u : WideTree) (h : changed_by_all ms t ≡ Some u) where
  above : (x : Entry X) (q : List ℕ) (xs : List (Entry X)) → IsSome (subtree t x.path) → AllLead t xs
      → AllAfter x.path xs → carried_by_all ms t x.path ≡ Some q → AllAfter q (carry ms t xs)
  above x q [] lead leads up e = tt
  above x q (y ∷ ys) lead leads up e = by (above x q ys lead leads.1 up.1 e) (carried_by_all ms t y.path) refl
    where
      by : AllAfter q (carry ms t ys) → (o : Option (List ℕ)) → carried_by_all ms t y.path ≡ o
          → AllAfter q (carry ms t (y ∷ ys))
      by rest None f = subst (AllAfter q) (sym (carry_first ms t y ys None f)) rest
      by rest (Some r) f =
          let a = value_of (subtree t x.path) lead in
          let b = value_of (subtree t y.path) leads.0 in
          subst (AllAfter q) (sym (carry_first ms t y ys (Some r) f))
          (all_keep ms t u a.0 b.0 x.path y.path q r h a.1 b.1 up.0 e f, rest)

  pub carry_order : (xs : List (Entry X)) → AllLead t xs → IsInOrder xs → IsInOrder (carry ms t xs)
  carry_order [] leads o = tt
  carry_order (y ∷ ys) leads o = by (carry_order ys leads.1 o.1) (carried_by_all ms t y.path) refl
    where
      by : IsInOrder (carry ms t ys) → (a : Option (List ℕ)) → carried_by_all ms t y.path ≡ a
          → IsInOrder (carry ms t (y ∷ ys))
      by rest None f = subst IsInOrder (sym (carry_first ms t y ys None f)) rest
      by rest (Some r) f =
          subst IsInOrder (sym (carry_first ms t y ys (Some r) f)) (above y r ys leads.0 leads.1 o.0 f, rest)

  pub carry_lead : (xs : List (Entry X)) → AllLead t xs → AllLead u (carry ms t xs)
  carry_lead [] leads = tt
  carry_lead (y ∷ ys) leads = by (carry_lead ys leads.1) (carried_by_all ms t y.path) refl
    where
      by : AllLead u (carry ms t ys) → (a : Option (List ℕ)) → carried_by_all ms t y.path ≡ a
          → AllLead u (carry ms t (y ∷ ys))
      by rest None f = subst (AllLead u) (sym (carry_first ms t y ys None f)) rest
      by rest (Some r) f =
          let a = value_of (subtree t y.path) leads.0 in
          subst (AllLead u) (sym (carry_first ms t y ys (Some r) f))
          (has_value (subtree u r) a.0 (all_carry ms t u a.0 y.path r h a.1 f), rest)

  -- what is true of each value and the tree at its path is true of them afterwards
  pub carry_holds : (P : WideTree → X → Type 0) (xs : List (Entry X)) → AllHold P t xs → AllHold P u (carry ms t xs)
  carry_holds P [] hs = tt
  carry_holds P (y ∷ ys) hs = by (carry_holds P ys hs.1) (carried_by_all ms t y.path) refl
    where
      by : AllHold P u (carry ms t ys) → (a : Option (List ℕ)) → carried_by_all ms t y.path ≡ a
          → AllHold P u (carry ms t (y ∷ ys))
      by rest None f = subst (AllHold P u) (sym (carry_first ms t y ys None f)) rest
      by rest (Some r) f = subst (AllHold P u) (sym (carry_first ms t y ys (Some r) f)) (
        record {
          there = hs.0.there;
          leads = all_carry ms t u hs.0.there y.path r h hs.0.leads f;
          holds = hs.0.holds;
        },
        rest,
      )

-- each entry is one of the list
each_of : {X : Type 0} (t : WideTree) (whole ys : List (Entry X)) → ((y : Entry X) → Contains ys y → Contains whole y)
    → AllLead t ys → AllHold (IsOf t whole) t ys
each_of t whole [] among leads = tt
each_of t whole (y ∷ ys) among leads =
    let a = value_of (subtree t y.path) leads.0 in (
      record {
        there = a.0;
        leads = a.1;
        holds = record { entry = y; among = among y (0, omega arith, refl); leads = a.1; same = refl };
      },
      each_of t whole ys (λ z c. among z (suc c.0, omega (arith, c.1), c.2)) leads.1,
    )

pub carry_same : {X : Type 0} (ms : List Mod) (t u : WideTree) (xs : List (Entry X)) → changed_by_all ms t ≡ Some u
    → AllLead t xs → AllHold (IsOf t xs) u (carry ms t xs)
carry_same ms t u xs h leads = carry_holds ms t u h (IsOf t xs) xs (each_of t xs xs (λ y c. c) leads)
