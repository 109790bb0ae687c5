use Rattle.std.proofs.Common.{◌≡◌, ◌∙◌, arith, rules}
use Rattle.std.proofs.lemmas.Result.{IfOk-weaker}
use Rattle.tx_tree.specs.WideTree.{children_of}
use Rattle.tx_origin.specs.TaggedTrees.{tagged_of, kids_of}
use Rattle.tx_exec.proofs.Bodies.{argument_here, argument_end}
use Rattle.tx_exec.proofs.macros.argument_of.Goals as goal

pub returns-then-eq : goal.returns-then-eq
returns-then-eq c =
    IfOk-weaker c.argument_at.result _ _
    (λ r h. h ∙ argument_here c.args.name.now (children_of c.args.meaning.now) (kids_of (tagged_of c.args.tag.now))
    c.loop-i.i c.in-Some.kid.now _ (omega (arith, c.loop-i-test.true, c.arity-count.ensures)) c.in-Some.ensures
    (search (rules, c.if-eq.true, c.eq.ensures, c.word_of.ensures)) c.loop-i.invariant) c.argument_at.ensures

pub returns : goal.returns
returns c =
    argument_end c.args.name.now (children_of c.args.meaning.now) (kids_of (tagged_of c.args.tag.now)) c.loop-i.i _
    (omega (arith, c.loop-i-test.false, c.arity-count.ensures)) c.loop-i.invariant
