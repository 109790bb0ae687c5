use Rattle.std.proofs.Common.{◌≤◌, length, drop, arith, ◌∙◌}
use Rattle.std.proofs.lemmas.Result.{IfOk-weaker}
use Rattle.tx_origin.specs.TaggedTrees.{tagged_of, kids_of}
use Rattle.tx_exec.proofs.MapCalls.{three_kids}
use Rattle.tx_exec.proofs.calls.map_words.Goals as goal

pub returns-clause-by : goal.returns-clause-by
returns-clause-by c =
    let kids = kids_of (tagged_of c.args.t.now) in
    let least : 3 ≤ length kids = omega (arith, c.if-arity-lt3.false, c.arity.ensures) in
    let most : length kids ≤ 5 = omega (arith, c.if-arity-gt5.false, c.arity-2.ensures) in
    let foo = c.in_ok-foo.foo in
    let root = c.in_ok-root.root in
    let name = c.in_ok-name.name in
    IfOk-weaker c.three_words.result _ _
    (λ r h. λ k below f label.
    three_kids k below f label kids (tagged_of foo) (tagged_of root) (tagged_of name) least most c.in_ok-foo.ensures
    c.in_ok-root.ensures c.in_ok-name.ensures ∙ h k below f label (drop 3 kids))
    c.three_words.ensures
