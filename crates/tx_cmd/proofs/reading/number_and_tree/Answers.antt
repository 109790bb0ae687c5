use Rattle.std.proofs.Common.{[], ◌∷◌, refl}
use Rattle.std.proofs.lemmas.Result.{err_from_is_err_and}
use Rattle.tx_cmd.specs.declared.words.ArgumentKind.TheVariants.{Number as NumberArgument, Tree as TreeArgument}
use Rattle.tx_cmd.specs.Values.{a_number}
use Rattle.tx_cmd.proofs.LooseFronts.{loose_cut}
use Rattle.tx_cmd.proofs.Faults.{fault_behind}
use Rattle.tx_cmd.proofs.reading.number_and_tree.Goals as goal

pub read_number-n-requires : goal.read_number-n-requires
read_number-n-requires g c =
    (loose_cut NumberArgument (TreeArgument ∷ []) c.args.bytes.now c.cut.result.0.now c.cut.result.1.now refl
    c.cut.ensures c.requires.loose).0

pub last_tree-requires-clause-loose : goal.last_tree-requires-clause-loose
last_tree-requires-clause-loose g c =
    (loose_cut NumberArgument (TreeArgument ∷ []) c.args.bytes.now c.cut.result.0.now c.cut.result.1.now refl
    c.cut.ensures c.requires.loose).1

pub returns-in_err-tree-clause-refused : goal.returns-in_err-tree-clause-refused
returns-in_err-tree-clause-refused g c =
    let p = err_from_is_err_and c.from_residual.result c.from_residual.ensures.1 in
    rw (p.1, p.2) (λ some.
    fault_behind (a_number c.read_number-n.result) (TreeArgument ∷ []) c.args.bytes.now c.cut.result.0.now
    c.cut.result.1.now c.args.at c.in_err-tree.field-0.0 refl c.cut.ensures c.requires.loose c.read_number-n.ensures
    (c.in_err-tree.ensures.refused some))
