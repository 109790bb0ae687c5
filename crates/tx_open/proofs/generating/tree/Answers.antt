use Rattle.std.proofs.Common.{sym, subst, ◌∙◌}
use Rattle.tx_tm_form.specs.Forms.{Spells}
use Rattle.tx_generated.specs.Tree.{document}
use Rattle.tx_open.proofs.Complete.{only_memory}
use Rattle.tx_open.proofs.generating.tree.Goals as goal

pub want_of_memory-requires : goal.want_of_memory-requires
want_of_memory-requires g c =
    let law = c.document_laws.ensures in
    let t = document c.args.number c.args.count in
    let spelled = law.spelled c.args.number c.args.count in
    only_memory c.deref.result.now c.in-Err.fault c.in-Err.ensures.refused
    (λ fault. c.bytes_have_one_fault.ensures.none c.deref.result.now c.in-Err.fault t fault
    (subst (λ b. Spells b t) (sym (c.deref.ensures.value ∙ c.in_ok-text.ensures)) spelled.spelled)
    (law.within c.args.number c.args.count c.requires.few))
