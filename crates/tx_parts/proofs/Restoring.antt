-- What names have where pairs are set, and what a `with` leaves of what its inner tree has set and looked up.
use Rattle.std.proofs.Common.{◌≡◌, List, [], ◌∷◌, ap, refl, sym, ◌∙◌}
use mathlib.Core.Path.{fun_ext}
use Rattle.std.specs.Prelude.{Bool, true, false, ◌||◌, not, cond, is_some, Option, Some, None}
use Rattle.std.specs.Option.{option_or}
use Rattle.std.specs.Ordering.{nat_cmp}
use Rattle.std.specs.Cmp.Lexicographic.{slice_cmp, nat_list_cmp_total}
use Rattle.std.specs.FinMap.{get, insert, empty, get-empty, get-insert}
use Rattle.tx_tree.specs.WideTree.{WideTree}
use Rattle.tx_env.specs.Pairs.{Name}
use Rattle.tx_env.specs.Environments.{NameMap, overlaid}
use Rattle.tx_env.specs.Changes.{with_pair}
use Rattle.tx_exec_form.specs.Maps.{Map, LookMap}
use Rattle.tx_exec_form.specs.Runs.{Before, State, Done}
use Rattle.tx_exec_form.specs.Rows.{Sets, set_all, kept_of}
use Rattle.tx_exec_form.proofs.Agreeing.{tied, same_name, same}
use Rattle.tx_parts.specs.Atop.{atop, env_atop, past, both_looks}
use Rattle.tx_parts.specs.Openness.{Settings}
use Rattle.tx_parts.specs.Composed.{setting_pairs, set_by}
use Rattle.tx_parts.specs.Layered.{as_sets}
use Rattle.tx_parts.proofs.Maps.{get_atop, get_past, get_both, get_pair, kept_unless, unless, or_none}

abbrev Pairs : Type 0
Pairs = List (Name × WideTree)

-- ---- setting

abbrev pub set_in : Sets → NameMap → NameMap
set_in [] m = m
set_in (p ∷ ps) m = set_in ps (with_pair p.0 p.1 m)

pub all_set : (ps : Sets) (e : Before) (s : State) → set_all ps e s ≡ Done tt (record s { own = set_in ps s.own })
unfolding set_all
all_set [] e s = refl
all_set (p ∷ ps) e s = all_set ps e (record s { own = with_pair p.0 p.1 s.own })

pub overlaid_sets : (ps : Pairs) (m : NameMap) → set_in (as_sets ps) m ≡ overlaid m ps
overlaid_sets [] m = refl
overlaid_sets (p ∷ ps) m = overlaid_sets ps (insert m p.0 p.1)

one_over : (o m n : Option WideTree) (b : Bool) (t : WideTree) → n ≡ None →
    option_or o (cond b (Some t) m) ≡ option_or (option_or o (cond b (Some t) n)) m
one_over (Some u) m n b t h = refl
one_over None m n true t h = refl
one_over None m n false t h = sym (ap (λ u. option_or u m) h)

over_at : (ps : Pairs) (m : NameMap) (q : Name) →
    get (overlaid m ps) q ≡ option_or (get (overlaid empty ps) q) (get m q)
over_at [] m q = sym (ap (λ o. option_or o (get m q)) (get-empty (slice_cmp nat_cmp) q))
over_at (p ∷ ps) m q =
    over_at ps (insert m p.0 p.1) q
    ∙ ap (option_or (get (overlaid empty ps) q)) (get-insert nat_list_cmp_total m p.0 p.1 q)
    ∙ one_over (get (overlaid empty ps) q) (get m q) (get empty q) (tied q p.0) p.1 (get-empty (slice_cmp nat_cmp) q)
    ∙ ap (λ o. option_or o (get m q)) (sym (over_at ps (insert empty p.0 p.1) q
    ∙ ap (option_or (get (overlaid empty ps) q)) (get-insert nat_list_cmp_total empty p.0 p.1 q)))

-- what is set overrides what was set before
pub set_atop : (ps : Pairs) (m : NameMap) → set_in (as_sets ps) m ≡ atop (overlaid empty ps) m
set_atop ps m = overlaid_sets ps m ∙ same (overlaid m ps) (atop (overlaid empty ps) m)
    (λ q. over_at ps m q ∙ sym (get_atop (overlaid empty ps) m q))

-- ---- what names have again

abbrev is_among : Name → Pairs → Bool
is_among q [] = false
is_among q (p ∷ ps) = tied q p.0 || is_among q ps

or_step : (a b c : Bool) → (b || (a || c)) ≡ ((a || b) || c)
or_step true true c = refl
or_step true false c = refl
or_step false b c = refl

some_cond : (b : Bool) (t : WideTree) (o : Option WideTree) → is_some (cond b (Some t) o) ≡ (b || is_some o)
some_cond true t o = refl
some_cond false t o = refl

some_set : (q : Name) (ps : Pairs) (m : NameMap) →
    is_some (get (overlaid m ps) q) ≡ (is_among q ps || is_some (get m q))
some_set q [] m = refl
some_set q (p ∷ ps) m =
    some_set q ps (insert m p.0 p.1)
    ∙ ap (λ o. is_among q ps || is_some o) (get-insert nat_list_cmp_total m p.0 p.1 q)
    ∙ ap (λ b. is_among q ps || b) (some_cond (tied q p.0) p.1 (get m q))
    ∙ or_step (tied q p.0) (is_among q ps) (is_some (get m q))

or_false : (b : Bool) → (b || false) ≡ b
or_false true = refl
or_false false = refl

among_is : (q : Name) (ps : Pairs) → is_some (get (overlaid empty ps) q) ≡ is_among q ps
among_is q ps =
    some_set q ps empty ∙ ap (λ o. is_among q ps || is_some o) (get-empty (slice_cmp nat_cmp) q)
    ∙ or_false (is_among q ps)

again_at : (b c : Bool) (x y z : Option WideTree) → (b ≡ true → x ≡ y) →
    cond c y (cond b x z) ≡ cond (b || c) y z
again_at true true x y z h = refl
again_at true false x y z h = h refl
again_at false c x y z h = refl

get_again : (q : Name) (ps : Pairs) (before m : NameMap) →
    get (set_in (kept_of (as_sets ps) before) m) q ≡ cond (is_among q ps) (get before q) (get m q)
get_again q [] before m = refl
get_again q (p ∷ ps) before m =
    get_again q ps before (with_pair p.0 (get before p.0) m)
    ∙ ap (cond (is_among q ps) (get before q)) (get_pair p.0 (get before p.0) m q)
    ∙ again_at (tied q p.0) (is_among q ps) (get before p.0) (get before q) (get m q)
    (λ h. ap (get before) (sym (same_name q p.0 h)))

behind_at : (s w m : Option WideTree) (b : Bool) → is_some s ≡ b →
    cond b m (option_or w (option_or s m)) ≡ option_or (cond (not (is_some s)) w None) m
behind_at (Some t) w m true h = refl
behind_at (Some t) w m false h = cc
behind_at None w m true h = cc
behind_at None w m false h = refl

-- what is set inside survives at names that the layer doesn't set, and the layer's names have again what they had
pub again_is : (ps : Pairs) (before w : NameMap) →
    set_in (kept_of (as_sets ps) before) (atop w (atop (overlaid empty ps) before)) ≡
    atop (past (overlaid empty ps) w) before
again_is ps before w =
    same (set_in (kept_of (as_sets ps) before) (atop w (atop (overlaid empty ps) before)))
    (atop (past (overlaid empty ps) w) before) (λ q.
    get_again q ps before (atop w (atop (overlaid empty ps) before))
    ∙ ap (cond (is_among q ps) (get before q)) (get_atop w (atop (overlaid empty ps) before) q
    ∙ ap (option_or (get w q)) (get_atop (overlaid empty ps) before q))
    ∙ behind_at (get (overlaid empty ps) q) (get w q) (get before q) (is_among q ps) (among_is q ps)
    ∙ sym (get_atop (past (overlaid empty ps) w) before q
    ∙ ap (λ o. option_or o (get before q)) (get_past (overlaid empty ps) w q)))

unless_twice : (s m : Option WideTree) (k : Option (Option WideTree)) → unless (option_or s m) k ≡ unless m (unless s k)
unless_twice (Some t) None k = refl
unless_twice (Some t) (Some u) k = refl
unless_twice None m k = refl

-- looks inside are those at names that neither the layer nor its trees have set
pub looks_past : (looks more : LookMap) (over below : NameMap) →
    both_looks looks (atop over below) more ≡ both_looks looks below (past over more)
looks_past looks more over below =
    same (both_looks looks (atop over below) more) (both_looks looks below (past over more)) (λ q.
    get_both looks (atop over below) more q
    ∙ ap (λ o. option_or (get looks q) (unless o (get more q))) (get_atop over below q)
    ∙ ap (option_or (get looks q)) (unless_twice (get over q) (get below q) (get more q)
    ∙ ap (unless (get below q)) (sym (get_past over more q ∙ kept_unless (get over q) (get more q))))
    ∙ sym (get_both looks below (past over more) q))

-- ---- with nothing set

pub atop_none : (w : NameMap) → atop w empty ≡ w
atop_none w = same (atop w empty) w (λ q.
    get_atop w empty q ∙ ap (option_or (get w q)) (get-empty (slice_cmp nat_cmp) q) ∙ or_none (get w q))

pub past_none : {X : Type 0} (m : Map X) → past empty m ≡ m
past_none m = same (past empty m) m (λ q.
    get_past empty m q ∙ ap (λ o. cond (not (is_some o)) (get m q) None) (get-empty (slice_cmp nat_cmp) q))

pub atop_empty : (e : Before) → env_atop empty e ≡ e
atop_empty e = fun_ext (λ x. ap (λ o. option_or o (e x)) (get-empty (slice_cmp nat_cmp) x))

-- looks inside, where nothing was looked up before
pub first_looks : (own : NameMap) (looks : LookMap) → both_looks empty own looks ≡ past own looks
first_looks own looks = same (both_looks empty own looks) (past own looks) (λ q.
    get_atop empty (past own looks) q
    ∙ ap (λ o. option_or o (get (past own looks) q)) (get-empty (slice_cmp nat_cmp) q))

-- ---- the settings of a `with`

-- what the settings are to set
abbrev pub sets_of : Settings → Sets
sets_of ps = as_sets (setting_pairs ps)

pub set_by_is : (ps : Settings) → set_in (sets_of ps) empty ≡ set_by ps
set_by_is ps = overlaid_sets (setting_pairs ps) empty

-- what the inner tree has set survives at names that the settings don't set
pub restored_is : (ps : Settings) (w : NameMap) →
    set_in (kept_of (sets_of ps) empty) (atop w (set_by ps)) ≡ past (set_by ps) w
restored_is ps w =
    ap (λ m. set_in (kept_of (sets_of ps) empty) (atop w m)) (sym (atop_none (set_by ps)))
    ∙ again_is (setting_pairs ps) empty w
    ∙ atop_none (past (set_by ps) w)
