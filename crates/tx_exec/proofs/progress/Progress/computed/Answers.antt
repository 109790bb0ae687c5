use Rattle.std.proofs.Common.{rules, ◌≡◌, map}
use Rattle.std.proofs.lemmas.Result.{err_from_is_err_and}
use Rattle.tx_origin.specs.Values.{plain}
use Rattle.tx_prim.specs.Table.{primitive_value}
use Rattle.tx_exec.specs.States.{state_of}
use Rattle.tx_exec.proofs.Each.{gives_as}
use Rattle.tx_exec.proofs.Computing.{computed_over, computed_then}
use Rattle.tx_exec.proofs.progress.Progress.computed.Goals as goal

pub returns-in_err-charge-clause-gives : goal.returns-in_err-charge-clause-gives
returns-in_err-charge-clause-gives g c = λ e.
    let p = err_from_is_err_and c.from_residual.result c.from_residual.ensures.1 in
    rw (p.1, p.2)
    (computed_over c.args.levels c.args.which c.args.values.now e (state_of c.args.self.now) c.nodes_of-counted.result
    c.in_err-charge.field-0.0 c.nodes_of-counted.ensures.nodes (c.in_err-charge.ensures.gives e))

pub returns-clause-gives : goal.returns-clause-gives
returns-clause-gives g c = λ e.
    let tree : c.in_ok-tree.tree ≡ primitive_value c.args.which (map plain c.args.values.now) = search rules in
    let run =
    computed_then c.args.levels c.args.which c.args.values.now e (state_of c.args.self.now)
    (state_of c.charge.new.self) c.nodes_of-counted.result c.in_ok-tree.tree c.nodes_of-counted.ensures.nodes
    (c.in_ok-charge.ensures.gives e) tree in
    gives_as (λ v. v) c.itself.result _ _ _ run (c.itself.ensures.gives e)
