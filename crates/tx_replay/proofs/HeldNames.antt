-- Names that are set for a while, one by one.
use Rattle.std.proofs.Common.{◌≡◌, ℕ, zero, suc, ◌+◌, ◌<◌, ◌≤◌, List, [], ◌∷◌, ◌++◌, length, take, get_or, refl, ap, sym}
use Rattle.std.proofs.Common.{subst, ◌∙◌, arith}
use Rattle.std.proofs.lemmas.List.{take_more, take_all}
use Rattle.std.specs.Prelude.{Option, Some}
use Rattle.std.specs.Option.{option_or}
use Rattle.std.specs.FinMap.{get}
use Rattle.tx_tree.specs.WideTree.{WideTree}
use Rattle.tx_env.specs.Pairs.{Name}
use Rattle.tx_env.specs.Environments.{NameMap, overlaid}
use Rattle.tx_env.specs.Changes.{with_pair}
use Rattle.tx_exec_form.specs.Runs.{Before, State, Ran, Over, Done, on_done, pay}
use Rattle.tx_exec_form.specs.Rows.{Sets, set_all, kept_of}
use Rattle.tx_parts.specs.Atop.{env_atop}
use Rattle.tx_parts.specs.Layered.{as_sets}
use Rattle.tx_parts.proofs.Restoring.{overlaid_sets}
use Rattle.tx_replay.specs.declared.holding.Held.{Held}
use Rattle.tx_replay.specs.declared.stop.Stop.{Stop}
use Rattle.tx_replay.specs.declared.stop.Stop.TheVariants as stops
use Rattle.tx_replay.specs.Gives.{Fails}
use Rattle.tx_replay.specs.Going.{last_map}
use Rattle.tx_replay.specs.Holding.{held_of, IsHeldFor, AreHeldFor}
use Rattle.tx_replay.specs.OpenRows.{entered, names_set, names_begun}
use Rattle.tx_replay.proofs.Entering.{names_set_is}
use Rattle.tx_replay.proofs.Stepping.{owning}

-- ---- one name

pub held_for : (e : Before) (h : Held) (x : Name) (own : NameMap) → h.name ≡ x → h.own ≡ get own x →
    h.names ≡ env_atop own e x → IsHeldFor e h
held_for e h x own is_name is_own is_names =
    is_names ∙ ap (λ o. option_or o (e x)) (sym is_own) ∙ ap (λ y. option_or h.own (e y)) (sym is_name)

pub back_for : (e : Before) (h : Held) (x : Name) (own names : Option WideTree) → IsHeldFor e h → x ≡ h.name →
    own ≡ h.own → names ≡ h.names → names ≡ option_or own (e x)
back_for e h x own names is is_name is_own is_names =
    is_names ∙ is ∙ ap (λ o. option_or o (e h.name)) (sym is_own) ∙ ap (λ y. option_or own (e y)) (sym is_name)

-- ---- names in order

held_push : (hs : List Held) (h : Held) → held_of (hs ++ h ∷ []) ≡ held_of hs ++ (h.name, h.own) ∷ []
held_push [] h = refl
held_push (g ∷ hs) h = ap (λ zs. (g.name, g.own) ∷ zs) (held_push hs h)

sets_push : (ps : List (Name × WideTree)) (p : Name × WideTree) →
    as_sets (ps ++ p ∷ []) ≡ as_sets ps ++ (p.0, Some p.1) ∷ []
sets_push [] p = refl
sets_push (q ∷ ps) p = ap (λ zs. (q.0, Some q.1) ∷ zs) (sets_push ps p)

kept_push : (ps : Sets) (own : NameMap) (x : Name) (t : Option WideTree) →
    kept_of (ps ++ (x, t) ∷ []) own ≡ kept_of ps own ++ (x, get own x) ∷ []
kept_push [] own x t = refl
kept_push (p ∷ ps) own x t = ap (λ zs. (p.0, get own p.0) ∷ zs) (kept_push ps own x t)

pub kept_next : (items : List (Name × WideTree)) (i : ℕ) (p : Name × WideTree) (own : NameMap) (hs gs : List Held)
    (h : Held) → i < length items → p ≡ get_or items i p → held_of hs ≡ kept_of (as_sets (take i items)) own →
    gs ≡ hs ++ h ∷ [] → h.name ≡ p.0 → h.own ≡ get own p.0 →
    held_of gs ≡ kept_of (as_sets (take (i + 1) items)) own
kept_next items i p own hs gs h lt is run e n t =
    let one : take (i + 1) items ≡ take i items ++ p ∷ [] =
    take_more items i p lt ∙ ap (λ q. take i items ++ q ∷ []) (sym is) in
    ap held_of e ∙ held_push hs h ∙ ap (λ zs. zs ++ (h.name, h.own) ∷ []) run
    ∙ ap (λ x. kept_of (as_sets (take i items)) own ++ (x, h.own) ∷ []) n
    ∙ ap (λ o. kept_of (as_sets (take i items)) own ++ (p.0, o) ∷ []) t
    ∙ sym (kept_push (as_sets (take i items)) own p.0 (Some p.1))
    ∙ ap (λ ps. kept_of ps own) (sym (sets_push (take i items) p))
    ∙ ap (λ ps. kept_of (as_sets ps) own) (sym one)

held_more : (e : Before) (hs : List Held) (h : Held) → AreHeldFor e hs → IsHeldFor e h → AreHeldFor e (hs ++ h ∷ [])
held_more e [] h all one = (one, tt)
held_more e (g ∷ hs) h all one = (all.0, held_more e hs h all.1 one)

pub all_held_next : (e : Before) (hs gs : List Held) (h : Held) → gs ≡ hs ++ h ∷ [] → AreHeldFor e hs →
    IsHeldFor e h → AreHeldFor e gs
all_held_next e hs gs h is all one = subst (AreHeldFor e) (sym is) (held_more e hs h all one)

pub held_at : (e : Before) (hs : List Held) (i : ℕ) (h : Held) → i < length hs → h ≡ get_or hs i h →
    AreHeldFor e hs → IsHeldFor e h
held_at e [] i h lt is all = absurd (omega (arith, lt))
held_at e (g ∷ hs) zero h lt is all = subst (IsHeldFor e) (sym is) all.0
held_at e (g ∷ hs) (suc i) h lt is all = held_at e hs i h (omega (arith, lt)) is all.1

-- what names had depends on the scopes alone
pub held_by_scopes : (ms ns : List NameMap) (hs : List Held) → ms ≡ ns → AreHeldFor (λ x. get (last_map ns) x) hs →
    AreHeldFor (λ x. get (last_map ms) x) hs
held_by_scopes ms ns hs same all = subst (λ ls. AreHeldFor (λ x. get (last_map ls) x) hs) (sym same) all

pub one_by_scopes : (ms ns : List NameMap) (h : Held) → ms ≡ ns → IsHeldFor (λ x. get (last_map ns) x) h →
    IsHeldFor (λ x. get (last_map ms) x) h
one_by_scopes ms ns h same one = subst (λ ls. IsHeldFor (λ x. get (last_map ls) x) h) (sym same) one

-- ---- set

pub names_done : (ps : List (Name × WideTree)) (e : Before) (s z : State) (hs : List Held) →
    held_of hs ≡ kept_of (as_sets ps) s.own → z ≡ owning s (overlaid s.own ps) →
    names_set (as_sets ps) e s ≡ Done (held_of hs) z
names_done ps e s z hs kept is_z =
    names_set_is (as_sets ps) e s
    ∙ ap (λ m. Done (kept_of (as_sets ps) s.own) (owning s m)) (overlaid_sets ps s.own)
    ∙ ap (λ old. Done old (owning s (overlaid s.own ps))) (sym kept)
    ∙ ap (λ (y : State). Done (held_of hs) y) (sym is_z)

-- ---- set back

set_push : (ps : Sets) (x : Name) (t : Option WideTree) (e : Before) (s u : State) → set_all ps e s ≡ Done tt u →
    set_all (ps ++ (x, t) ∷ []) e s ≡ Done tt (owning u (with_pair x t u.own))
unfolding set_all
set_push [] x t e s u h = cc
set_push (p ∷ ps) x t e s u h = set_push ps x t e (owning s (with_pair p.0 p.1 s.own)) u h

pub set_none : (e : Before) (s : State) → set_all [] e s ≡ Done tt s
unfolding set_all
set_none e s = refl

pub set_next : (hs : List Held) (i : ℕ) (h : Held) (e : Before) (s u v : State) → i < length hs →
    h ≡ get_or hs i h → set_all (held_of (take i hs)) e s ≡ Done tt u →
    v ≡ owning u (with_pair h.name h.own u.own) → set_all (held_of (take (i + 1) hs)) e s ≡ Done tt v
set_next hs i h e s u v lt is run q =
    let one : take (i + 1) hs ≡ take i hs ++ h ∷ [] =
    take_more hs i h lt ∙ ap (λ g. take i hs ++ g ∷ []) (sym is) in
    ap (λ gs. set_all (held_of gs) e s) one ∙ ap (λ ps. set_all ps e s) (held_push (take i hs) h)
    ∙ set_push (held_of (take i hs)) h.name h.own e s u run ∙ ap (λ (y : State). Done tt y) (sym q)

pub set_end : (hs : List Held) (i : ℕ) (e : Before) (s u : State) → length hs ≤ i →
    set_all (held_of (take i hs)) e s ≡ Done tt u → set_all (held_of hs) e s ≡ Done tt u
set_end hs i e s u past run = ap (λ gs. set_all (held_of gs) e s) (sym (take_all i hs past)) ∙ run

-- ---- with a level and steps

module _ (k n : ℕ) (ps : Sets) (e : Before) (s : State) where
  abbrev then_names : Unit {0} → Before → State → Ran Sets
  then_names u = names_set ps

  abbrev then_paid : Unit {0} → Before → State → Ran Sets
  then_paid u = λ e1 s1. on_done e1 then_names (pay n e1 s1)

  begun_on : (r : Ran (Unit {0})) → entered k e s ≡ r → names_begun k n ps e s ≡ on_done e then_paid r
  unfolding names_begun
  begun_on r h = ap (on_done e then_paid) h

  pub begun_stop : (x : Stop) → Fails x (entered k e s) → Fails x (names_begun k n ps e s)
  begun_stop stops.Memory h = tt
  begun_stop stops.Over h = begun_on Over h

  pub begun_unpaid : (x : Stop) (s1 : State) → entered k e s ≡ Done tt s1 → Fails x (pay n e s1) →
      Fails x (names_begun k n ps e s)
  begun_unpaid stops.Memory s1 h p = tt
  begun_unpaid stops.Over s1 h p = begun_on (Done tt s1) h ∙ ap (on_done e then_names) p

  pub begun_done : (s1 s2 z : State) (old : Sets) → entered k e s ≡ Done tt s1 → pay n e s1 ≡ Done tt s2 →
      names_set ps e s2 ≡ Done old z → names_begun k n ps e s ≡ Done old z
  begun_done s1 s2 z old h p q = begun_on (Done tt s1) h ∙ ap (on_done e then_names) p ∙ q
