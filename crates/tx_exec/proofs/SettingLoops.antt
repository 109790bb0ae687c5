-- The loops over the names of a `with`.
use Rattle.std.proofs.Common.{◌≡◌, ℕ, zero, suc, ◌+◌, ◌<◌, ◌≤◌, List, [], ◌∷◌, ◌++◌, length, take, drop, get_or, ap}
use Rattle.std.proofs.Common.{refl, sym, subst, ◌∙◌, arith}
use Rattle.std.specs.Prelude.{Option, Some, None}
use Rattle.std.proofs.lemmas.List.{take_more}
use Rattle.tx_tree.specs.WideTree.{WideTree, nodes_of}
use Rattle.tx_origin.specs.Values.{WideValue, plain}
use Rattle.std.specs.FinMap.{get}
use Rattle.tx_env.specs.Environments.{NameMap}
use Rattle.tx_env.specs.Changes.{with_pair}
use Rattle.tx_exec_form.specs.Runs.{Before, State, Ran, Done, set}
use Rattle.tx_exec_form.specs.Rows.{Sets, set_all, kept_of}
use Rattle.tx_exec.specs.Settings.{sets_of, held_of, nodes_in}
use Rattle.tx_exec.specs.declared.withs.Setting.{Setting}
use Rattle.tx_exec.specs.declared.withs.Held.{Held}
use Rattle.tx_exec_form.proofs.Small.{size_push, depth_push}
use Rattle.std.proofs.lemmas.Grind.{common_steps}

pub held_push : (hs : List Held) (h : Held) → held_of (hs ++ h ∷ []) ≡ held_of hs ++ (h.name, h.tree) ∷ []
held_push [] h = refl
held_push (g ∷ hs) h = ap (λ zs. (g.name, g.tree) ∷ zs) (held_push hs h)

pub sets_push : (ss : List Setting) (s : Setting)
    → sets_of (ss ++ s ∷ []) ≡ sets_of ss ++ (s.name, Some (plain s.value)) ∷ []
sets_push [] s = refl
sets_push (t ∷ ss) s = ap (λ zs. (t.name, Some (plain t.value)) ∷ zs) (sets_push ss s)

pub nodes_push : (ss : List Setting) (s : Setting) → nodes_in (ss ++ s ∷ []) ≡ nodes_in ss + nodes_of (plain s.value)
nodes_push [] s = omega arith
nodes_push (t ∷ ss) s = omega (arith, nodes_push ss s)

-- one setting more, whose parts are known
pub sets_more : (ss ts : List Setting) (s : Setting) (x : List ℕ) (v : WideValue) → ts ≡ ss ++ s ∷ [] → s.name ≡ x
    → s.value ≡ v → sets_of ts ≡ sets_of ss ++ (x, Some (plain v)) ∷ []
sets_more ss ts s x v e n w =
    ap sets_of e ∙ sets_push ss s ∙ ap (λ y. sets_of ss ++ (y, Some (plain s.value)) ∷ []) n
    ∙ ap (λ y. sets_of ss ++ (x, Some (plain y)) ∷ []) w

pub nodes_more : (ss ts : List Setting) (s : Setting) (v : WideValue) → ts ≡ ss ++ s ∷ [] → s.value ≡ v
    → nodes_in ts ≡ nodes_in ss + nodes_of (plain v)
nodes_more ss ts s v e w = ap nodes_in e ∙ nodes_push ss s ∙ ap (λ y. nodes_in ss + nodes_of (plain y)) w

pub tree_next : (items : List Setting) (i : ℕ) (s : Setting) (hs gs : List Held) (h : Held) → i < length items
    → s ≡ get_or items i s → held_of hs ≡ sets_of (take i items) → gs ≡ hs ++ h ∷ [] → h.name ≡ s.name
    → h.tree ≡ Some (plain s.value) → held_of gs ≡ sets_of (take (i + 1) items)
tree_next items i s hs gs h lt is run e n t =
    rw (take_more items i s lt, ← is, e) (held_push hs h ∙ ap (λ zs. zs ++ (h.name, h.tree) ∷ []) run
    ∙ ap (λ x. sets_of (take i items) ++ (x, h.tree) ∷ []) n ∙ ap (λ x. sets_of (take i items) ++ (s.name, x) ∷ []) t
    ∙ sym (sets_push (take i items) s))

pub node_next : (items : List Setting) (i : ℕ) (s : Setting) (a b c : ℕ) → i < length items → s ≡ get_or items i s
    → b ≡ a + nodes_in (take i items) → c ≡ b + nodes_of (plain s.value) → c ≡ a + nodes_in (take (i + 1) items)
node_next items i s a b c lt is h e =
    rw (take_more items i s lt, ← is) (omega (arith, h, e, nodes_push (take i items) s))

pub ruleset tree_rules = (tree_next, node_next)

kept_push : (ps : Sets) (own : NameMap) (x : List ℕ) (t : Option WideTree)
    → kept_of (ps ++ (x, t) ∷ []) own ≡ kept_of ps own ++ (x, get own x) ∷ []
kept_push [] own x t = refl
kept_push (p ∷ ps) own x t = ap (λ zs. (p.0, get own p.0) ∷ zs) (kept_push ps own x t)

pub kept_next : (items : List Held) (i : ℕ) (s : Held) (own : NameMap) (hs gs : List Held) (h : Held) → i < length items
    → s ≡ get_or items i s → held_of hs ≡ kept_of (held_of (take i items)) own → gs ≡ hs ++ h ∷ [] → h.name ≡ s.name
    → h.tree ≡ get own s.name → held_of gs ≡ kept_of (held_of (take (i + 1) items)) own
kept_next items i s own hs gs h lt is run e n t =
    rw (take_more items i s lt, ← is, e) (held_push hs h ∙ ap (λ zs. zs ++ (h.name, h.tree) ∷ []) run
    ∙ ap (λ x. kept_of (held_of (take i items)) own ++ (x, h.tree) ∷ []) n
    ∙ ap (λ x. kept_of (held_of (take i items)) own ++ (s.name, x) ∷ []) t
    ∙ sym (kept_push (held_of (take i items)) own s.name s.tree)
    ∙ ap (λ ps. kept_of ps own) (sym (held_push (take i items) s)))

pub ruleset kept_rules = (kept_next)

set_push : (ps : Sets) (x : List ℕ) (t : Option WideTree) (e : Before) (s u : State) → set_all ps e s ≡ Done tt u
    → set_all (ps ++ (x, t) ∷ []) e s ≡ Done tt (record u { own = with_pair x t u.own })
unfolding set_all
set_push [] x t e s u h = cc
set_push (p ∷ ps) x t e s u h = set_push ps x t e (record s { own = with_pair p.0 p.1 s.own }) u h

pub set_next : (items : List Held) (i : ℕ) (h : Held) (e : Before) (s u v : State) → i < length items
    → h ≡ get_or items i h → set_all (held_of (take i items)) e s ≡ Done tt u
    → v ≡ record u { own = with_pair h.name h.tree u.own } → set_all (held_of (take (i + 1) items)) e s ≡ Done tt v
set_next items i h e s u v lt is run q =
    rw (take_more items i h lt, ← is, q) (ap (λ ps. set_all ps e s) (held_push (take i items) h)
    ∙ set_push (held_of (take i items)) h.name h.tree e s u run)

pub set_none : (e : Before) (s : State) → set_all [] e s ≡ Done tt s
unfolding set_all
set_none e s = refl

pub ruleset set_rules = (set_next, set_none)

pub two_more : (vs us ws : List WideValue) (u w : WideValue) → us ≡ vs ++ u ∷ [] → ws ≡ us ++ w ∷ []
    → ws ≡ vs ++ u ∷ w ∷ []
two_more vs us ws u w a b = b ∙ ap (λ zs. zs ++ w ∷ []) a ∙ by vs
  where
    by : (vs : List WideValue) → (vs ++ u ∷ []) ++ w ∷ [] ≡ vs ++ u ∷ w ∷ []
    by [] = refl
    by (v ∷ vs) = ap (λ zs. v ∷ zs) (by vs)

pub ruleset pair_rules = (sets_more, nodes_more, two_more, common_steps)

pub ruleset push_rules = (size_push, depth_push, common_steps)
