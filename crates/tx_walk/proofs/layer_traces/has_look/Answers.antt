use Rattle.std.proofs.Common.{rules, ◌≡◌, ◌≤◌, Bool, Some, length, refl, ap, sym, ◌∙◌, arith}
use Rattle.std.proofs.lemmas.Option.{slice_get_read}
use Rattle.std.specs.Prelude.{slice_get}
use Rattle.std.specs.Str.{bytes_eq}
use Rattle.tx_walk.proofs.EachOnce.{found_look, found_further, found_nowhere}
use Rattle.tx_walk.proofs.layer_traces.has_look.Goals as goal

pub returns-then-eq : goal.returns-then-eq
returns-then-eq c =
    let at : slice_get c.args.looks.now c.loop-pair.pair-index ≡ Some c.pair-item.result =
    ap (λ xs. slice_get xs c.loop-pair.pair-index) (sym c.pairs-pair-items.ensures)
    ∙ slice_get_read c.pairs-pair-items.result.now (length c.pairs-pair-items.result.now) c.loop-pair.pair-index
    c.pair-item.result refl (omega arith) c.pair-item.is in
    found_look c.args.looks.now c.args.look.now c.pair-item.result c.loop-pair.pair-index c.eq.result
    c.same_found.result at
    (c.eq.ensures ∙ ap (λ q. bytes_eq q c.bytes-in-loop-pair.result.now) c.bytes.ensures.bytes
    ∙ ap (bytes_eq c.args.look.now.0) c.bytes-in-loop-pair.ensures.bytes)
    c.if-eq.true c.loop-pair.invariant c.same_found.ensures

pub loop-pair-preserved : goal.loop-pair-preserved
loop-pair-preserved c =
    let at : slice_get c.args.looks.now c.loop-pair.pair-index ≡ Some c.pair-item.result =
    ap (λ xs. slice_get xs c.loop-pair.pair-index) (sym c.pairs-pair-items.ensures)
    ∙ slice_get_read c.pairs-pair-items.result.now (length c.pairs-pair-items.result.now) c.loop-pair.pair-index
    c.pair-item.result refl (omega arith) c.pair-item.is in
    found_further c.args.looks.now c.args.look.now c.pair-item.result c.loop-pair.pair-index c.eq.result at
    (c.eq.ensures ∙ ap (λ q. bytes_eq q c.bytes-in-loop-pair.result.now) c.bytes.ensures.bytes
    ∙ ap (bytes_eq c.args.look.now.0) c.bytes-in-loop-pair.ensures.bytes)
    c.if-eq.false c.loop-pair.invariant

pub returns : goal.returns
returns c =
    let past : length c.args.looks.now ≤ c.loop-pair.pair-index = search rules in
    found_nowhere c.args.looks.now c.args.look.now c.loop-pair.pair-index c.loop-pair.invariant past
