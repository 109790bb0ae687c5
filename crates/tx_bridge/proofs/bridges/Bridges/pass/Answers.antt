use Rattle.std.proofs.Common.{◌≡◌, ◌∙◌, Some, sym, ap, refl, map, length, ltb-true}
use Rattle.std.proofs.lemmas.Option.{slice_get_read, same_Some}
use Rattle.std.proofs.lemmas.Result.{on_ok_weaker}
use Rattle.std.specs.Prelude.{slice_get}
use Rattle.tx_origin.specs.TaggedTrees.{tagged_of}
use Rattle.tx_exec.specs.Outcomes.{wide_outcome}
use Rattle.tx_view_form.specs.Outcomes.{behind, unit_value}
use Rattle.tx_bridge.specs.Entries.{Entry}
use Rattle.tx_bridge.specs.Sound.{kept_unit}
use Rattle.tx_bridge.proofs.Arrived.{entry_at}
use Rattle.tx_bridge.proofs.Used.{charge_fits}
use Rattle.tx_bridge.proofs.Paying.{paid_for}
use Rattle.tx_bridge.proofs.bridges.Bridges.pass.Goals as goal

pub go_behind-requires-clause-enough : goal.go_behind-requires-clause-enough
go_behind-requires-clause-enough c =
    let at : slice_get c.args.self.now.kept c.args.i ≡ Some (kept_unit c.in-Some.bridge.now) =
    entry_at c.deref.result.now c.args.self.now.kept c.args.i c.in-Some.bridge.now
    (ap (λ bs. map kept_unit bs) c.deref.ensures.value ∙ ap (λ b. b.kept) c.self.view_is)
    (slice_get_read c.deref.result.now (length c.deref.result.now) c.args.i c.in-Some.bridge.now refl
    (ltb-true c.args.i (length c.deref.result.now) (sym c.in-Some.ensures.lookup.0)) c.in-Some.ensures.lookup.1) in
    charge_fits c.trace_laws.ensures.allowed c.args.moment.now (wide_outcome c.in-Some.bridge.now.kept)
    (tagged_of c.in-Some.bridge.now.unit.tagged) (c.requires.fresh (kept_unit c.in-Some.bridge.now) at)

pub returns-clause-behind : goal.returns-clause-behind
returns-clause-behind c =
    let at : slice_get c.args.self.now.kept c.args.i ≡ Some (kept_unit c.in-Some.bridge.now) =
    entry_at c.deref.result.now c.args.self.now.kept c.args.i c.in-Some.bridge.now
    (ap (λ bs. map kept_unit bs) c.deref.ensures.value ∙ ap (λ b. b.kept) c.self.view_is)
    (slice_get_read c.deref.result.now (length c.deref.result.now) c.args.i c.in-Some.bridge.now refl
    (ltb-true c.args.i (length c.deref.result.now) (sym c.in-Some.ensures.lookup.0)) c.in-Some.ensures.lookup.1) in
    on_ok_weaker c.go_behind.result
    (λ (h : c.go_behind.new.self ≡ behind c.args.moment.now (wide_outcome c.in-Some.bridge.now.kept)) (e : Entry)
    (there : slice_get c.args.self.now.kept c.args.i ≡ Some e).
    h ∙ ap (λ (x : Entry). behind c.args.moment.now x.trace)
    (same_Some (kept_unit c.in-Some.bridge.now) e (sym at ∙ there)))
    c.go_behind.ensures.behind

pub returns-clause-paid : goal.returns-clause-paid
returns-clause-paid c =
    let at : slice_get c.args.self.now.kept c.args.i ≡ Some (kept_unit c.in-Some.bridge.now) =
    entry_at c.deref.result.now c.args.self.now.kept c.args.i c.in-Some.bridge.now
    (ap (λ bs. map kept_unit bs) c.deref.ensures.value ∙ ap (λ b. b.kept) c.self.view_is)
    (slice_get_read c.deref.result.now (length c.deref.result.now) c.args.i c.in-Some.bridge.now refl
    (ltb-true c.args.i (length c.deref.result.now) (sym c.in-Some.ensures.lookup.0)) c.in-Some.ensures.lookup.1) in
    on_ok_weaker c.go_behind.result
    (λ (h : c.go_behind.new.self ≡ behind c.args.moment.now (wide_outcome c.in-Some.bridge.now.kept)) (e : Entry)
    (there : slice_get c.args.self.now.kept c.args.i ≡ Some e).
    let same : kept_unit c.in-Some.bridge.now ≡ e = same_Some (kept_unit c.in-Some.bridge.now) e (sym at ∙ there) in
    paid_for c.size_law.ensures c.trace_laws.ensures.allowed c.args.moment.now c.go_behind.new.self
    (tagged_of e.unit.tagged) e.trace (unit_value e.trace) (c.requires.fresh e there) refl
    (h ∙ ap (λ (x : Entry). behind c.args.moment.now x.trace) same))
    c.go_behind.ensures.behind
