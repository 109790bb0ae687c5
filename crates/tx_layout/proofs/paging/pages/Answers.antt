use Rattle.std.proofs.Common.{ℕ, List, []}
use Rattle.std.proofs.lemmas.Result.{IfOk-weaker}
use Rattle.tx_layout.specs.declared.layout.Line.{Line}
use Rattle.tx_layout.specs.Paging.{PagesFrom}
use Rattle.tx_layout.specs.Told.{HasTold}
use Rattle.tx_layout.proofs.paging.pages.Goals as goal

pub returns : goal.returns
returns c =
    let lines : List Line = c.args.lines.now in
    IfOk-weaker c.finish.result
    (λ pages. (ls : List Line) (height : ℕ) → HasTold ls height c.add.new.self → PagesFrom ls height 0 pages.items)
    (λ pages. PagesFrom lines c.args.height 0 pages.items)
    (λ pages told. told lines c.args.height
    (c.in_ok-add.ensures.told [] c.args.height c.new-paginator.ensures)) c.finish.ensures
