use Rattle.std.proofs.Common.{◌≡◌, ℕ, ◌-◌, ◌<◌, ◌∙◌, List, get_or, sym, arith}
use Rattle.std.proofs.lemmas.List.{get_or_read}
use Rattle.tx_terminal.proofs.Emulating.{trim_more, trimmed}
use Rattle.tx_terminal.proofs.emulator.trim.Goals as goal
use Rattle.tx_terminal.proofs.emulator.trim.Goals.{then-loop-end-test+else-index-eq32, else-loop-end-test}

pub loop-end-preserved : goal.loop-end-preserved
loop-end-preserved c =
    let bs : List ℕ = c.args.out.now.items in
    let last : ℕ = c.loop-end.end - 1 in
    let read = get_or_read bs last c.index.result.now (omega arith) c.index.ensures 0 in
    record {
      above = omega arith;
      within = omega arith;
      same = trim_more bs c.args.start c.loop-end.end (omega arith) c.loop-end.invariant.within
          (sym read ∙ c.if-index-eq32.true)
          ∙ c.loop-end.invariant.same;
    }

pub returns : goal.returns
returns c =
    let bs : List ℕ = c.args.out.now.items in
    let last : ℕ = c.loop-end.end - 1 in
    let kept = c.loop-end.invariant in
    let stops : c.args.start < c.loop-end.end → get_or bs last 0 ≡ 32 → ⊥
    = elim c.loop-end-test.branch [
      | then-loop-end-test+else-index-eq32 w ↦
          λ some is_blank. w.if-index-eq32.false
          (get_or_read bs last w.index.result.now (omega (arith, some, kept.within)) w.index.ensures 0 ∙ is_blank)
      | else-loop-end-test w ↦ λ some is_blank. omega (arith, some)
    ] in
    c.truncate.ensures.items ∙ trimmed bs c.args.start c.loop-end.end kept.above kept.within stops kept.same
