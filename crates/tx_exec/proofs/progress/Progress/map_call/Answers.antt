use Rattle.std.proofs.Common.{rules, ◌≡◌, ◌-◌, Some, ap, sym, ◌∙◌}
use Rattle.std.proofs.lemmas.Result.{err_from_is_err_and}
use Rattle.std.specs.List.{range_with_len}
use Rattle.tx_exec_form.specs.Numbers.{integers_of}
use Rattle.tx_exec.specs.States.{state_of}
use Rattle.tx_exec.proofs.Each.{fails_as}
use Rattle.tx_exec.proofs.MapCalls.{numbers_call}
use Rattle.tx_exec.proofs.progress.Progress.map_call.Goals as goal

pub returns-in_err-call-clause-goes : goal.returns-in_err-call-clause-goes
returns-in_err-call-clause-goes g c = λ k below f label e.
    let p = err_from_is_err_and c.from_residual-in_err-call.result c.from_residual-in_err-call.ensures.1 in
    let w = c.args.words.now in
    let ns = c.deref.result.now in
    let from = c.in-Some-numbers_between.from in
    let to = c.in-Some-numbers_between.to in
    let known : integers_of c.args.values.now ≡ Some ns = search rules in
    let call =
    numbers_call k below f label w.foo w.root w.name c.args.count (integers_of c.args.values.now) ns
    (range_with_len from (to - from)) known (sym c.in-Some-numbers_between.ensures.between) in
    rw (p.1, p.2)
    (fails_as c.in_err-call.field-0.0 _ _ (ap (λ m. m e (state_of c.args.self.now)) call)
    (c.in_err-call.ensures.goes below f e))

pub returns-clause-goes : goal.returns-clause-goes
returns-clause-goes g c = λ k below f label e.
    let w = c.args.words.now in
    let ns = c.deref.result.now in
    let from = c.in-Some-numbers_between.from in
    let to = c.in-Some-numbers_between.to in
    let known : integers_of c.args.values.now ≡ Some ns = search rules in
    let call =
    numbers_call k below f label w.foo w.root w.name c.args.count (integers_of c.args.values.now) ns
    (range_with_len from (to - from)) known (sym c.in-Some-numbers_between.ensures.between) in
    ap (λ m. m e (state_of c.args.self.now)) call ∙ c.in_ok-call.ensures.goes below f e
