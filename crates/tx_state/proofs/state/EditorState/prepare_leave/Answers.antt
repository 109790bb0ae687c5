use Rattle.std.proofs.Common.{rules, ◌≡◌, ◌<◌, ◌-◌, Some, None, length, reverse, take, subst, ap, sym, refl, ◌∙◌, arith}
use Rattle.tx_commute.specs.Leaving.{IsLeft}
use Rattle.tx_history.specs.Lists.{kth_newest}
use Rattle.tx_doc.specs.Buffers.{tree_of}
use Rattle.tx_state.specs.Backward.{AllApplyIn, left_along, MakesWithout}
use Rattle.tx_state.specs.Leaving.{leaving, tree_without}
use Rattle.tx_state.proofs.TakenBack.{whole_of, leavable, takes_back, is_entangled, is_refused, entangled_within}
use Rattle.tx_state.proofs.TakenBack.{left_tree_made, no_entry, leave_steps}
use Rattle.tx_state.proofs.state.EditorState.prepare_leave.Goals as goal

pub returns-in_default-clause-refused : goal.returns-in_default-clause-refused
returns-in_default-clause-refused g c =
    λ _. ap (leaving c.args.n) (sym c.self.view_is) ∙ no_entry c.self.inside c.args.n (search rules)

pub tree_at-tree-requires : goal.tree_at-tree-requires
tree_at-tree-requires g c =
    let s = c.self.inside in
    let e = c.in-Some.entry.now in
    let at : kth_newest c.args.n s.history.past ≡ Some e = search rules in
    let l = leavable s c.args.n e c.self.invariant at in
    subst (λ bs. e.buffer < length bs) (sym c.deref.ensures.value) l.within

pub left_of-requires-clause-apply : goal.left_of-requires-clause-apply
left_of-requires-clause-apply g c =
    let s = c.self.inside in
    let e = c.in-Some.entry.now in
    let at : kth_newest c.args.n s.history.past ≡ Some e = search rules in
    let l = leavable s c.args.n e c.self.invariant at in
    let same : c.tree_at-tree.result.now ≡ tree_of s.buffers.items e.buffer =
    c.tree_at-tree.ensures ∙ ap (λ bs. tree_of bs e.buffer) c.deref.ensures.value in
    subst (AllApplyIn e.buffer (take c.args.n (reverse s.history.past))) (sym same) l.apply

pub returns-in_err-mods-clause-counted : goal.returns-in_err-mods-clause-counted
returns-in_err-mods-clause-counted g c =
    let s = c.self.inside in
    let e = c.in-Some.entry.now in
    let at : kth_newest c.args.n s.history.past ≡ Some e = search rules in
    let l = leavable s c.args.n e c.self.invariant at in
    let same : c.tree_at-tree.result.now ≡ tree_of s.buffers.items e.buffer =
    c.tree_at-tree.ensures ∙ ap (λ bs. tree_of bs e.buffer) c.deref.ensures.value in
    leave_steps s c.args.n e c.args.self.now c.tree_at-tree.result.now c.args.steps.now c.left_of.new.steps
    (whole_of s c.args.n e) l c.self.view_is same c.left_of.ensures.counted

pub overflow_sub-result-in-Entangled : goal.overflow_sub-result-in-Entangled
overflow_sub-result-in-Entangled g c =
    let s = c.self.inside in
    let e = c.in-Some.entry.now in
    let at : kth_newest c.args.n s.history.past ≡ Some e = search rules in
    let l = leavable s c.args.n e c.self.invariant at in
    let same : c.tree_at-tree.result.now ≡ tree_of s.buffers.items e.buffer =
    c.tree_at-tree.ensures ∙ ap (λ bs. tree_of bs e.buffer) c.deref.ensures.value in
    let whole = whole_of s c.args.n e in
    let left : IsLeft whole c.in_ok-mods.field-0 =
    subst (λ t. IsLeft (left_along e.buffer (take c.args.n (reverse s.history.past)) t) c.in_ok-mods.field-0) same
    c.in_ok-mods.ensures.left in
    let k = c.in-Entangled.k in
    let is = (is_entangled e.buffer (c.args.n - 1) k whole c.in_ok-mods.field-0 left c.in-Entangled.is).0 in
    let within = entangled_within s c.args.n c.in-Entangled.k e l.many is in
    omega (arith, within)

pub returns-in-Mods-clause-edit : goal.returns-in-Mods-clause-edit
returns-in-Mods-clause-edit g c =
    let s = c.self.inside in
    let e = c.in-Some.entry.now in
    let at : kth_newest c.args.n s.history.past ≡ Some e = search rules in
    let l = leavable s c.args.n e c.self.invariant at in
    let same : c.tree_at-tree.result.now ≡ tree_of s.buffers.items e.buffer =
    c.tree_at-tree.ensures ∙ ap (λ bs. tree_of bs e.buffer) c.deref.ensures.value in
    let whole = whole_of s c.args.n e in
    let left : IsLeft whole c.in_ok-mods.field-0 =
    subst (λ t. IsLeft (left_along e.buffer (take c.args.n (reverse s.history.past)) t) c.in_ok-mods.field-0) same
    c.in_ok-mods.ensures.left in
    ap (leaving c.args.n) (sym c.self.view_is) ∙ l.edit
    ∙ takes_back e.buffer (c.args.n - 1) whole c.in_ok-mods.field-0 c.in-Mods.mods left c.in-Mods.is

pub returns-in-Mods-clause-buffer : goal.returns-in-Mods-clause-buffer
returns-in-Mods-clause-buffer g c =
    let s = c.self.inside in
    let e = c.in-Some.entry.now in
    let at : kth_newest c.args.n s.history.past ≡ Some e = search rules in
    let l = leavable s c.args.n e c.self.invariant at in
    subst (λ st. e.buffer < length st.buffers) c.self.view_is l.within

pub returns-in-Mods-clause-without : goal.returns-in-Mods-clause-without
returns-in-Mods-clause-without g c =
    let s = c.self.inside in
    let e = c.in-Some.entry.now in
    let at : kth_newest c.args.n s.history.past ≡ Some e = search rules in
    let l = leavable s c.args.n e c.self.invariant at in
    let same : c.tree_at-tree.result.now ≡ tree_of s.buffers.items e.buffer =
    c.tree_at-tree.ensures ∙ ap (λ bs. tree_of bs e.buffer) c.deref.ensures.value in
    let whole = whole_of s c.args.n e in
    let left : IsLeft whole c.in_ok-mods.field-0 =
    subst (λ t. IsLeft (left_along e.buffer (take c.args.n (reverse s.history.past)) t) c.in_ok-mods.field-0) same
    c.in_ok-mods.ensures.left in
    let within : e.buffer < length c.args.self.now.buffers =
    subst (λ st. e.buffer < length st.buffers) c.self.view_is l.within in
    let makes : MakesWithout whole (tree_of c.args.self.now.buffers e.buffer) =
    subst (λ st. MakesWithout whole (tree_of st.buffers e.buffer)) c.self.view_is
    (subst (λ t. MakesWithout (left_along e.buffer (take c.args.n (reverse s.history.past)) t) t) same
    c.in_ok-mods.ensures.makes) in
    λ next done.
    left_tree_made c.args.self.now next c.args.n (record { buffer = e.buffer; mods = c.in-Mods.mods; cursor = None })
    whole c.in_ok-mods.field-0 c.in-Mods.mods within refl (ap (tree_without c.args.n) (sym c.self.view_is) ∙ l.tree)
    makes left c.in-Mods.is done

pub returns-in-Mods-clause-counted : goal.returns-in-Mods-clause-counted
returns-in-Mods-clause-counted g c =
    let s = c.self.inside in
    let e = c.in-Some.entry.now in
    let at : kth_newest c.args.n s.history.past ≡ Some e = search rules in
    let l = leavable s c.args.n e c.self.invariant at in
    let same : c.tree_at-tree.result.now ≡ tree_of s.buffers.items e.buffer =
    c.tree_at-tree.ensures ∙ ap (λ bs. tree_of bs e.buffer) c.deref.ensures.value in
    leave_steps s c.args.n e c.args.self.now c.tree_at-tree.result.now c.args.steps.now c.left_of.new.steps
    (whole_of s c.args.n e) l c.self.view_is same c.left_of.ensures.counted

pub returns-in-Entangled-clause-refused : goal.returns-in-Entangled-clause-refused
returns-in-Entangled-clause-refused g c =
    let s = c.self.inside in
    let e = c.in-Some.entry.now in
    let at : kth_newest c.args.n s.history.past ≡ Some e = search rules in
    let l = leavable s c.args.n e c.self.invariant at in
    let same : c.tree_at-tree.result.now ≡ tree_of s.buffers.items e.buffer =
    c.tree_at-tree.ensures ∙ ap (λ bs. tree_of bs e.buffer) c.deref.ensures.value in
    let whole = whole_of s c.args.n e in
    let left : IsLeft whole c.in_ok-mods.field-0 =
    subst (λ t. IsLeft (left_along e.buffer (take c.args.n (reverse s.history.past)) t) c.in_ok-mods.field-0) same
    c.in_ok-mods.ensures.left in
    λ _. ap (leaving c.args.n) (sym c.self.view_is) ∙ l.edit
    ∙ (is_entangled e.buffer (c.args.n - 1) c.in-Entangled.k whole c.in_ok-mods.field-0 left c.in-Entangled.is).1

pub returns-in-Entangled-clause-counted : goal.returns-in-Entangled-clause-counted
returns-in-Entangled-clause-counted g c =
    let s = c.self.inside in
    let e = c.in-Some.entry.now in
    let at : kth_newest c.args.n s.history.past ≡ Some e = search rules in
    let l = leavable s c.args.n e c.self.invariant at in
    let same : c.tree_at-tree.result.now ≡ tree_of s.buffers.items e.buffer =
    c.tree_at-tree.ensures ∙ ap (λ bs. tree_of bs e.buffer) c.deref.ensures.value in
    leave_steps s c.args.n e c.args.self.now c.tree_at-tree.result.now c.args.steps.now c.left_of.new.steps
    (whole_of s c.args.n e) l c.self.view_is same c.left_of.ensures.counted

pub returns-in-Refused-clause-refused : goal.returns-in-Refused-clause-refused
returns-in-Refused-clause-refused g c =
    let s = c.self.inside in
    let e = c.in-Some.entry.now in
    let at : kth_newest c.args.n s.history.past ≡ Some e = search rules in
    let l = leavable s c.args.n e c.self.invariant at in
    let same : c.tree_at-tree.result.now ≡ tree_of s.buffers.items e.buffer =
    c.tree_at-tree.ensures ∙ ap (λ bs. tree_of bs e.buffer) c.deref.ensures.value in
    let whole = whole_of s c.args.n e in
    let left : IsLeft whole c.in_ok-mods.field-0 =
    subst (λ t. IsLeft (left_along e.buffer (take c.args.n (reverse s.history.past)) t) c.in_ok-mods.field-0) same
    c.in_ok-mods.ensures.left in
    λ _. ap (leaving c.args.n) (sym c.self.view_is) ∙ l.edit
    ∙ is_refused e.buffer (c.args.n - 1) _ c.in-Refused.cause whole c.in_ok-mods.field-0 left c.in-Refused.is

pub returns-in-Refused-clause-counted : goal.returns-in-Refused-clause-counted
returns-in-Refused-clause-counted g c =
    let s = c.self.inside in
    let e = c.in-Some.entry.now in
    let at : kth_newest c.args.n s.history.past ≡ Some e = search rules in
    let l = leavable s c.args.n e c.self.invariant at in
    let same : c.tree_at-tree.result.now ≡ tree_of s.buffers.items e.buffer =
    c.tree_at-tree.ensures ∙ ap (λ bs. tree_of bs e.buffer) c.deref.ensures.value in
    leave_steps s c.args.n e c.args.self.now c.tree_at-tree.result.now c.args.steps.now c.left_of.new.steps
    (whole_of s c.args.n e) l c.self.view_is same c.left_of.ensures.counted
