-- What names have where an evaluation has set some.
use Rattle.std.proofs.Common.{◌≡◌, ℕ, ◌+◌, ◌<◌, ◌≤◌, List, length, take, get_or, refl, ap, sym, ◌∙◌}
use mathlib.Core.Path.{fun_ext}
use Rattle.std.proofs.lemmas.List.{take_all}
use Rattle.std.specs.Prelude.{Option, Some, Result, Ok, Err, OnOk, OnErr, is_some, IsSome}
use Rattle.std.specs.Option.{option_or}
use Rattle.std.specs.FinMap.{get, empty}
use Rattle.tx_tree.specs.WideTree.{WideTree}
use Rattle.tx_env.specs.Pairs.{Name}
use Rattle.tx_env.specs.Environments.{NameMap, overlaid}
use Rattle.tx_env.specs.Changes.{with_pair}
use Rattle.tx_env.proofs.Overlays.{set_next}
use Rattle.tx_exec_form.specs.Runs.{State}
use Rattle.tx_exec_form.proofs.Agreeing.{same, tied, same_name}
use Rattle.tx_parts.specs.Atop.{atop, env_atop}
use Rattle.tx_parts.proofs.Maps.{get_atop, get_pair, atop_pair, atop_nothing}
use Rattle.std.specs.Prelude.{Bool, true, false, cond}
use Rattle.std.proofs.lemmas.Slice.Eq.{bytes_eq-Decides}
use Rattle.tx_env.specs.Environments.{Environment}
use Rattle.tx_env.specs.Pairs.{Pairs, listed, put}
use Rattle.tx_env.specs.Changes.{map_of}
use Rattle.tx_env.proofs.Finding.{listed_put}
use Rattle.tx_env.proofs.Maps.{map_put}
use Rattle.tx_replay.specs.Going.{last_map}

-- what names have now
pub names_now : (m own last : NameMap) → m ≡ atop own last → (x : Name) → get m x ≡ option_or (get own x) (get last x)
names_now m own last h x = ap (λ n. get n x) h ∙ get_atop own last x

pub all_names_now : (m own last : NameMap) → m ≡ atop own last →
    (λ x. get m x) ≡ env_atop own (λ x. get last x)
all_names_now m own last h = fun_ext (names_now m own last h)

-- a name is set, or set back
pub step_kept : (x : Name) (tree names : Option WideTree) (m m1 own own1 last : NameMap) → m ≡ atop own last →
    names ≡ option_or tree (get last x) → m1 ≡ with_pair x names m → own1 ≡ with_pair x tree own →
    m1 ≡ atop own1 last
step_kept x tree names m m1 own own1 last h is_names is_m1 is_own =
    is_m1 ∙ ap (λ n. with_pair x names n) h ∙ ap (λ t. with_pair x t (atop own last)) is_names
    ∙ sym (atop_pair x tree own last) ∙ ap (λ o. atop o last) (sym is_own)

pub step_same : (m m1 own own1 last : NameMap) → m ≡ atop own last → m1 ≡ m → own1 ≡ own → m1 ≡ atop own1 last
step_same m m1 own own1 last h is_m1 is_own = is_m1 ∙ h ∙ ap (λ o. atop o last) (sym is_own)

pub step_begun : (m last : NameMap) → m ≡ last → m ≡ atop empty last
step_begun m last h = h ∙ sym (atop_nothing last)

-- what was taken back
again_at : (b : Bool) (t o w : Option WideTree) → (b ≡ true → w ≡ o) → cond b o (cond b t w) ≡ w
again_at true t o w h = sym (h refl)
again_at false t o w h = refl

pub put_again : (x : Name) (t o : Option WideTree) (m : NameMap) → o ≡ get m x →
    with_pair x o (with_pair x t m) ≡ m
put_again x t o m h = same (with_pair x o (with_pair x t m)) m (λ q.
    get_pair x o (with_pair x t m) q ∙ ap (cond (tied q x) o) (get_pair x t m q)
    ∙ again_at (tied q x) t o (get m q) (λ g. ap (get m) (same_name q x g) ∙ sym h))

-- the name is listed
pub listed_again : (x y z : Name) (t : Option WideTree) (ps qs : Pairs) → qs ≡ put y t ps → y ≡ x → z ≡ x →
    IsSome (listed z qs)
listed_again x y z t ps qs h is_y is_z =
    ap (λ rs. is_some (listed z rs)) h ∙ ap is_some (listed_put y z t ps)
    ∙ ap (λ b. is_some (cond b (Some t) (listed z ps))) ((bytes_eq-Decides z y).1 (is_z ∙ sym is_y))

pub put_pair : (x y : Name) (t : Option WideTree) (ps qs : Pairs) → qs ≡ put y t ps → y ≡ x →
    map_of qs ≡ with_pair x t (map_of ps)
put_pair x y t ps qs h is_y = ap map_of h ∙ map_put y t ps ∙ ap (λ z. with_pair z t (map_of ps)) is_y

-- what was put is taken back
pub pair_again : (x y z : Name) (t o : Option WideTree) (ps qs rs : Pairs) → qs ≡ put y t ps → rs ≡ put z o qs →
    y ≡ x → z ≡ x → o ≡ get (map_of ps) x → map_of rs ≡ map_of ps
pair_again x y z t o ps qs rs h g is_y is_z is_o =
    put_pair x z o qs rs g is_z ∙ ap (with_pair x o) (put_pair x y t ps qs h is_y)
    ∙ put_again x t o (map_of ps) is_o

-- a name is set, or memory ran out
pub step_either : {X Y : Type 0} (r : Result X Y) (x : Name) (tree names : Option WideTree) (old new : Environment)
    (own own1 : NameMap) → old.map ≡ atop own (last_map old.scopes) →
    names ≡ option_or tree (get (last_map old.scopes) x) → OnOk r (own1 ≡ with_pair x tree own) →
    OnOk r (new.map ≡ with_pair x names old.map) → OnErr r (own1 ≡ own) → OnErr r (new ≡ old) →
    new.scopes ≡ old.scopes → new.map ≡ atop own1 (last_map new.scopes)
step_either (Ok v) x tree names old new own own1 h is_names is_own is_map own_err err scopes =
    step_kept x tree names old.map new.map own own1 (last_map old.scopes) h is_names is_map is_own
    ∙ ap (λ ms. atop own1 (last_map ms)) (sym scopes)
step_either (Err e) x tree names old new own own1 h is_names is_own is_map own_err err scopes =
    ap (λ (env : Environment). env.map) err ∙ h ∙ ap (λ o. atop o (last_map old.scopes)) (sym own_err)
    ∙ ap (λ ms. atop own1 (last_map ms)) (sym scopes)

-- ---- pairs in order

-- with this set
abbrev pub owning : State → NameMap → State
owning s m = record { own = m; looks = s.looks; left = s.left; slack = s.slack }

pub state_next : (s0 s1 s2 : State) (ws : List (Name × WideTree)) (i : ℕ) (w : Name × WideTree) →
    i < length ws → w ≡ get_or ws i w → s1 ≡ owning s0 (overlaid s0.own (take i ws)) →
    s2 ≡ owning s1 (with_pair w.0 (Some w.1) s1.own) → s2 ≡ owning s0 (overlaid s0.own (take (i + 1) ws))
state_next s0 s1 s2 ws i w lt is so_far step =
    step ∙ ap (λ (s : State). owning s (with_pair w.0 (Some w.1) s.own)) so_far
    ∙ ap (owning s0) (set_next s0.own (overlaid s0.own (take i ws)) (with_pair w.0 (Some w.1)
    (overlaid s0.own (take i ws))) ws i w w.0 w.1 lt is refl refl refl refl)

pub state_end : (s0 s1 : State) (ws : List (Name × WideTree)) (i : ℕ) →
    s1 ≡ owning s0 (overlaid s0.own (take i ws)) → length ws ≤ i → s1 ≡ owning s0 (overlaid s0.own ws)
state_end s0 s1 ws i h past = h ∙ ap (λ us. owning s0 (overlaid s0.own us)) (take_all i ws past)
