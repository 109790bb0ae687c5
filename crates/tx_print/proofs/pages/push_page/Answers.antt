use Rattle.std.proofs.Common.{◌++◌, sym, ap, ◌∙◌, append_assoc, min, ◌≡◌, arith}
use Rattle.std.specs.Prelude.{codes, decimal, slice_range}
use Rattle.std.specs.List.{flat_map}
use Rattle.std.proofs.lemmas.List.{append-nil}
use Rattle.tx_view_form.specs.Views.{lines_of}
use Rattle.tx_print.specs.Lines.{line, line_text}
use Rattle.tx_print.proofs.Adding.{adds_then, adds_also}
use Rattle.tx_print.proofs.Ranges.{range_none, range_text}
use Rattle.tx_print.proofs.pages.push_page.Goals as goal

pub loop-r-init : goal.loop-r-init
loop-r-init g c =
    let lines = lines_of c.args.view.now.shown.units in
    let head = line (codes "page " ++ decimal c.args.number) in
    adds_also (sym (ap (λ xs. head ++ flat_map line_text xs) (range_none lines c.args.page.from c.args.page.to)
    ∙ append-nil head))
    c.push_numbered.ensures

pub loop-r-preserved : goal.loop-r-preserved
loop-r-preserved g c =
    let lines = lines_of c.args.view.now.shown.units in
    let head = line (codes "page " ++ decimal c.args.number) in
    let from = c.args.page.from in
    let to = c.args.page.to in
    adds_also (append_assoc head (flat_map line_text (slice_range lines from (min c.loop-r.r to))) _
    ∙ ap (λ t. head ++ t) (range_text line_text lines from c.loop-r.r to c.loop-r.auto.r c.loop-r-test.true))
    (adds_then c.loop-r.invariant c.push_row.ensures)

pub returns : goal.returns
returns g c =
    let lines = lines_of c.args.view.now.shown.units in
    let head = line (codes "page " ++ decimal c.args.number) in
    let from = c.args.page.from in
    let all : min c.loop-r.r c.args.page.to ≡ c.args.page.to = omega (arith, c.loop-r-test.false) in
    adds_also (ap (λ k. head ++ flat_map line_text (slice_range lines from k)) all) c.loop-r.invariant
