-- What is noted of names, as finite maps.
use Rattle.std.proofs.Common.{◌≡◌, ℕ, Bool, true, false, cond, List, [], ◌∷◌, ◌++◌, refl, sym, ap, subst, ◌∙◌}
use Rattle.std.specs.Prelude.{Option, Some, None, is_some, if◌then◌else◌}
use Rattle.std.specs.Str.{bytes_eq}
use Rattle.std.specs.Ordering.{nat_cmp}
use Rattle.std.specs.Cmp.Lexicographic.{slice_cmp, nat_list_cmp_total, texts_ties}
use Rattle.std.specs.FinMap.{get, insert, from_entries, find, get-empty, get-insert, get-from_entries}
use Rattle.tx_tree.specs.WideTree.{WideTree}
use Rattle.tx_env.specs.Pairs as pairs
use Rattle.tx_env.specs.Pairs.{Name, Pairs, listed, put}
use Rattle.tx_env.specs.Changes.{map_of}
use Rattle.tx_env.proofs.Maps.{get_map}
use Rattle.tx_env.proofs.Finding.{listed_put}
use Rattle.tx_exec_form.specs.Maps.{LookMap, noted}
use Rattle.tx_exec_form.specs.Runs.{Before, State, Done, look, from_own}
use Rattle.tx_exec_form.proofs.Agreeing.{same}
use Rattle.std.proofs.lemmas.Grind.{common_steps}

find_listed : (ps : Pairs) (q : Name) → find (slice_cmp nat_cmp) q ps ≡ listed q ps
find_listed [] q = refl
find_listed (p ∷ ps) q = ap (λ b. cond b (Some p.1) (find (slice_cmp nat_cmp) q ps)) (sym (texts_ties q p.0))
    ∙ ap (cond (bytes_eq q p.0) (Some p.1)) (find_listed ps q)

-- what is found in the map of what was noted is what was noted first
pub get_noted : (ps : Pairs) (q : Name) → get (from_entries {R = slice_cmp nat_cmp} ps) q ≡ listed q ps
get_noted ps q = get-from_entries nat_list_cmp_total ps q ∙ find_listed ps q

pub noted_put : (x : Name) (t : Option WideTree) (ps : Pairs)
    → from_entries {R = slice_cmp nat_cmp} (put x t ps) ≡ insert (from_entries ps) x t
noted_put x t ps = same (from_entries (put x t ps)) (insert (from_entries ps) x t) (λ q.
    get_noted (put x t ps) q ∙ listed_put x q t ps ∙ ap (cond (bytes_eq q x) (Some t)) (sym (get_noted ps q))
    ∙ ap (λ b. cond b (Some t) (get (from_entries {R = slice_cmp nat_cmp} ps) q)) (texts_ties q x)
    ∙ sym (get-insert nat_list_cmp_total (from_entries ps) x t q))

noted_if : (looks : LookMap) (x : Name) (t : Option WideTree) (b : Bool) → b ≡ is_some (get looks x)
    → noted looks x t ≡ (if b then looks else insert looks x t)
noted_if looks x t b h = ap (λ c. if c then looks else insert looks x t) (sym h)

-- a name of which something was noted, and one of which nothing was
again : (ps : Pairs) (x : Name) (t : Option WideTree) → is_some (listed x ps) ≡ true
    → noted (from_entries ps) x t ≡ from_entries ps
again ps x t h = noted_if (from_entries ps) x t true (sym h ∙ ap is_some (sym (get_noted ps x)))

anew : (ps : Pairs) (x : Name) (t : Option WideTree) → is_some (listed x ps) ≡ false
    → noted (from_entries ps) x t ≡ from_entries (put x t ps)
anew ps x t h = noted_if (from_entries ps) x t false (sym h ∙ ap is_some (sym (get_noted ps x)))
    ∙ sym (noted_put x t ps)

module _ (x : Name) (e : Before) (own looks : Pairs) (left slack : ℕ) where
  abbrev at : Pairs → State
  at ps = record { own = map_of own; looks = from_entries ps; left = left; slack = slack }

  looked : (o : Option WideTree) → pairs.find x own ≡ o → look x e (at looks) ≡ from_own x o e (at looks)
  unfolding look
  looked o h = ap (λ r. from_own x r e (at looks)) (get_map own x ∙ h)

  pub look_own : (t : WideTree) → pairs.find x own ≡ Some t → look x e (at looks) ≡ Done (Some t) (at looks)
  look_own t h = looked (Some t) h

  pub look_again : (u : Option WideTree) → pairs.find x own ≡ None → e x ≡ u → is_some (listed x looks) ≡ true
      → look x e (at looks) ≡ Done u (at looks)
  look_again u h g l =
      looked None h ∙ ap (λ m. Done (e x) (record { own = map_of own; looks = m; left = left; slack = slack }))
      (again looks x (e x) l) ∙ ap (λ r. Done r (at looks)) g

  pub look_anew : (u : Option WideTree) → pairs.find x own ≡ None → e x ≡ u → is_some (listed x looks) ≡ false
      → look x e (at looks) ≡ Done u (at (put x u looks))
  look_anew u h g l =
      looked None h ∙ ap (λ m. Done (e x) (record { own = map_of own; looks = m; left = left; slack = slack }))
      (anew looks x (e x) l) ∙ ap (λ r. Done r (at (put x r looks))) g

pub ruleset look_rules = (look_own, look_again, look_anew, common_steps)
