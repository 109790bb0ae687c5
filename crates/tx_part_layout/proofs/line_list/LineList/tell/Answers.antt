use Rattle.std.proofs.Common.{◌++◌, ◌∙◌, ℕ, List, OnOk, subst}
use Rattle.tx_layout.specs.declared.layout.Line.{Line}
use Rattle.tx_layout.specs.Told.{HasTold}
use Rattle.tx_part_layout.proofs.line_list.LineList.tell.Goals as goal

pub returns-then-self-clause-told : goal.returns-then-self-clause-told
returns-then-self-clause-told c =
    subst (λ (ls : List Line). OnOk c.add.result ((before : List Line) (height : ℕ)
    → HasTold before height c.args.paginator.now → HasTold (before ++ ls) height c.add.new.self))
    (c.deref.ensures.value ∙ c.self.view_is) c.add.ensures.told

pub returns-else-self-clause-told : goal.returns-else-self-clause-told
returns-else-self-clause-told c =
    subst (λ (ls : List Line). OnOk c.add_unmarked.result ((before : List Line) (height : ℕ)
    → HasTold before height c.args.paginator.now → HasTold (before ++ ls) height c.add_unmarked.new.self))
    (c.deref-else-self.ensures.value ∙ c.self.view_is) c.add_unmarked.ensures.told
