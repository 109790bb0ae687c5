-- Looks and writes of several trees.
use Rattle.std.proofs.Common.{◌≡◌, ℕ, ◌+◌, ◌<◌, ◌≤◌, List, [], ◌∷◌, ◌++◌, length, take, get_or, refl, sym, ap}
use Rattle.std.proofs.Common.{◌∙◌}
use Rattle.std.proofs.lemmas.List.{take_more, take_all}
use Rattle.std.specs.Prelude.{Bool, true, false, Option, Some, None, is_some, if◌then◌else◌}
use Rattle.std.specs.List.{IsDistinct}
use Rattle.std.specs.Map.{keys_of}
use Rattle.std.specs.Str.{bytes_eq}
use Rattle.std.specs.FinMap.{get, insert, from_entries}
use Rattle.tx_tree.specs.WideTree.{WideTree}
use Rattle.tx_env.specs.Pairs.{Name, Pairs, find, listed, put}
use Rattle.tx_env.specs.Changes.{map_of}
use Rattle.tx_env.specs.Environments.{NameMap, overlaid}
use Rattle.tx_env.proofs.Maps.{get_map, map_put}
use Rattle.tx_env.proofs.Overlays.{set_next}
use Rattle.tx_exec_form.specs.Maps.{LookMap, noted}
use Rattle.tx_exec_form.proofs.Agreeing.{same}
use Rattle.tx_exec.proofs.Noting.{get_noted, noted_put}
use Rattle.tx_parts.specs.Atop.{atop, both_looks}
use Rattle.tx_parts.proofs.Maps.{get_atop, looks_nothing, both_set, both_unset}
use Rattle.tx_parts.proofs.Pairing.{look_more, overlaid_is}
use Rattle.tx_replay.specs.Looking.{look_behind}

-- ---- one look

noted_if : (looks : LookMap) (x : Name) (t : Option WideTree) (b : Bool) → b ≡ is_some (get looks x) →
    noted looks x t ≡ (if b then looks else insert looks x t)
noted_if looks x t b h = ap (λ c. if c then looks else insert looks x t) (sym h)

-- a name of which something was noted, and one of which nothing was
pub noted_again : (ps : Pairs) (x : Name) (t : Option WideTree) → is_some (listed x ps) ≡ true →
    from_entries ps ≡ noted (from_entries ps) x t
noted_again ps x t h = sym (noted_if (from_entries ps) x t true (sym h ∙ ap is_some (sym (get_noted ps x))))

pub noted_anew : (ps qs : Pairs) (x y : Name) (t u : Option WideTree) → is_some (listed x ps) ≡ false →
    qs ≡ put y u ps → y ≡ x → u ≡ t → from_entries qs ≡ noted (from_entries ps) x t
noted_anew ps qs x y t u h e is_x is_t =
    ap (from_entries) e ∙ ap (λ z. from_entries (put z u ps)) is_x ∙ ap (λ v. from_entries (put x v ps)) is_t
    ∙ noted_put x t ps ∙ sym (noted_if (from_entries ps) x t false (sym h ∙ ap is_some (sym (get_noted ps x))))

pub behind_set : (own : Pairs) (looks : LookMap) (x : Name) (t : WideTree) (v : Option WideTree) →
    find x own ≡ Some t → looks ≡ look_behind (map_of own) looks x v
behind_set own looks x t v h =
    ap (λ o. if is_some o then looks else noted looks x v) (sym (get_map own x ∙ h))

pub behind_unset : (own : Pairs) (looks : LookMap) (x : Name) (v : Option WideTree) →
    find x own ≡ None → noted looks x v ≡ look_behind (map_of own) looks x v
behind_unset own looks x v h =
    ap (λ o. if is_some o then looks else noted looks x v) (sym (get_map own x ∙ h))

-- ---- all looks

look_step : (own : NameMap) (looks more : LookMap) (x : Name) (v o : Option WideTree) → get own x ≡ o →
    both_looks looks own (noted more x v) ≡
    (if is_some o then both_looks looks own more else noted (both_looks looks own more) x v)
look_step own looks more x v (Some t) h = both_set looks own more x t v h
look_step own looks more x v None h = both_unset looks own more x v h

look_one : (own : NameMap) (looks more : LookMap) (x : Name) (v : Option WideTree) →
    both_looks looks own (noted more x v) ≡ look_behind own (both_looks looks own more) x v
look_one own looks more x v = look_step own looks more x v (get own x) refl

pub looks_begin : (own : NameMap) (looks : LookMap) → looks ≡ both_looks looks own (from_entries [])
looks_begin own looks = sym (looks_nothing looks own)

pub looks_next : (own : NameMap) (looks before after : LookMap) (ws : List (Name × Option WideTree)) (i : ℕ)
    (w : Name × Option WideTree) → i < length ws → w ≡ get_or ws i w →
    before ≡ both_looks looks own (from_entries (take i ws)) → after ≡ look_behind own before w.0 w.1 →
    after ≡ both_looks looks own (from_entries (take (i + 1) ws))
looks_next own looks before after ws i w lt is so_far step =
    let one : take (i + 1) ws ≡ take i ws ++ w ∷ [] = take_more ws i w lt ∙ ap (λ v. take i ws ++ v ∷ []) (sym is) in
    step ∙ ap (λ m. look_behind own m w.0 w.1) so_far ∙ sym (look_one own looks (from_entries (take i ws)) w.0 w.1)
    ∙ ap (both_looks looks own) (sym (look_more (take i ws) w.0 w.1))
    ∙ ap (λ us. both_looks looks own (from_entries us)) (sym one)

-- ---- all writes

pub writes_next : (m : NameMap) (before after : Pairs) (ws : List (Name × WideTree)) (i : ℕ) (w : Name × WideTree)
    (x : Name) (t : WideTree) → i < length ws → w ≡ get_or ws i w → map_of before ≡ overlaid m (take i ws) →
    after ≡ put x (Some t) before → x ≡ w.0 → t ≡ w.1 → map_of after ≡ overlaid m (take (i + 1) ws)
writes_next m before after ws i w x t lt is so_far step is_x is_t =
    set_next m (map_of before) (map_of after) ws i w x t lt is so_far (ap map_of step ∙ map_put x (Some t) before)
    is_x is_t

pub overlaid_atop : (m : NameMap) (ws : List (Name × WideTree)) → IsDistinct bytes_eq (keys_of ws) →
    overlaid m ws ≡ atop (from_entries ws) m
overlaid_atop m ws h = same (overlaid m ws) (atop (from_entries ws) m) (λ q.
    ap (λ (f : Name → Option WideTree). f q) (overlaid_is m ws h) ∙ sym (get_atop (from_entries ws) m q))

pub writes_end : (own m : NameMap) (ws : List (Name × WideTree)) (i : ℕ) → own ≡ overlaid m (take i ws) →
    length ws ≤ i → IsDistinct bytes_eq (keys_of ws) → own ≡ atop (from_entries ws) m
writes_end own m ws i h past once = h ∙ ap (overlaid m) (take_all i ws past) ∙ overlaid_atop m ws once
