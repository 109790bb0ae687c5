use Rattle.std.proofs.Common.{◌≡◌, false, [], ◌∷◌, ◌++◌, refl, ap, sym, subst, ◌∙◌}
use Rattle.std.specs.List.{list_any}
use Rattle.std.specs.FinMap.{from_entries}
use Rattle.tx_exec_form.specs.Laws.{Supports}
use Rattle.tx_exec.specs.declared.outcome.Trace.{Trace}
use Rattle.tx_exec.specs.Outcomes.{wide_trace}
use Rattle.tx_parts.specs.Shells.{bare}
use Rattle.tx_walk.specs.LayerTraces.{TreeTrace, Listed, is_of}
use Rattle.tx_walk.proofs.EachOnce.{listed_held, all_differ, each_once_with}
use Rattle.tx_walk.proofs.Listing.{tree_trace, more_than, held_last}
use Rattle.tx_walk.proofs.layer_list.LayerList.keep.Goals as goal

pub returns-then-is_listed-clause-held : goal.returns-then-is_listed-clause-held
returns-then-is_listed-clause-held c =
    listed_held c.args.self.now.items c.args.tree.now (from_entries c.args.trace.now.looks)
    (ap (list_any (is_of c.args.tree.now (from_entries c.args.trace.now.looks)))
    (sym (c.deref.ensures.value ∙ ap (λ (l : Listed). l.items) c.self.view_is)) ∙ sym c.is_listed.ensures
    ∙ c.if-is_listed.true)

pub new-layer-requires-clause-supports : goal.new-layer-requires-clause-supports
new-layer-requires-clause-supports c =
    subst (λ u. Supports (wide_trace c.in_ok-share_trace.field-0) (bare u)) (sym c.in_ok-share.ensures)
    (subst (λ (v : Trace). Supports (wide_trace v) (bare c.args.tree.now)) (sym c.in_ok-share_trace.ensures)
    c.requires.supports)

pub invariant_of-self-2 : goal.invariant_of-self-2
invariant_of-self-2 c =
    let none : list_any (is_of c.args.tree.now (from_entries c.args.trace.now.looks)) c.self.inside.list.items ≡ false =
    ap (list_any (is_of c.args.tree.now (from_entries c.args.trace.now.looks))) (sym c.deref.ensures.value)
    ∙ sym c.is_listed.ensures ∙ c.if-is_listed.false in
    each_once_with c.self.inside.list.items c.push.new.self.items c.new-layer.result c.new-layer.result
    c.self.invariant
    (all_differ c.self.inside.list.items c.args.tree.now (from_entries c.args.trace.now.looks) none c.new-layer.result
    (ap (λ (m : TreeTrace). m.tree) c.new-layer.ensures ∙ c.in_ok-share.ensures)
    (ap (λ (m : TreeTrace). m.trace.looks) c.new-layer.ensures
    ∙ ap (λ (v : Trace). from_entries v.looks) c.in_ok-share_trace.ensures))
    c.in_ok-push.ensures.items refl

pub returns-clause-more : goal.returns-clause-more
returns-clause-more c =
    more_than c.args.self.now.items c.push.new.self.items c.new-layer.result
    (c.in_ok-push.ensures.items ∙ ap (λ (l : Listed). l.items ++ c.new-layer.result ∷ []) c.self.view_is)

pub returns-clause-held : goal.returns-clause-held
returns-clause-held c =
    held_last c.args.self.now.items c.push.new.self.items c.new-layer.result
    (tree_trace c.args.tree.now c.args.trace.now)
    (c.in_ok-push.ensures.items ∙ ap (λ (l : Listed). l.items ++ c.new-layer.result ∷ []) c.self.view_is)
    (c.new-layer.ensures ∙ ap (λ u. tree_trace u c.in_ok-share_trace.field-0) c.in_ok-share.ensures
    ∙ ap (tree_trace c.args.tree.now) c.in_ok-share_trace.ensures)
