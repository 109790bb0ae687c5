use Rattle.std.proofs.Common.{arith}
use Rattle.std.specs.Prelude.{map}
use Rattle.tx_origin.specs.TaggedTrees.{tagged_of, kids_of}
use Rattle.tx_exec.proofs.Tupling.{stands, tuple_next, tuple_end, tuple_arity, tuple_size, tuple_depth}
use Rattle.tx_exec.proofs.tuples.tuple_of.Goals as goal

pub tuple-requires-clause-arity : goal.tuple-requires-clause-arity
tuple-requires-clause-arity c =
    let kids = kids_of (tagged_of c.args.tag.now) in
    let all =
    tuple_end kids c.loop-i.i c.loop-i.values.items (map stands kids)
    (omega (arith, c.loop-i-test.false, c.arity-i-end.ensures)) c.loop-i.invariant in
    tuple_arity c.args.tag.now.at c.args.tag.now.tree _ all c.size-size.ensures.within

pub tuple-requires-clause-size : goal.tuple-requires-clause-size
tuple-requires-clause-size c =
    let kids = kids_of (tagged_of c.args.tag.now) in
    let all =
    tuple_end kids c.loop-i.i c.loop-i.values.items (map stands kids)
    (omega (arith, c.loop-i-test.false, c.arity-i-end.ensures)) c.loop-i.invariant in
    tuple_size kids _ 1000000 all c.requires

pub tuple-requires-clause-depth : goal.tuple-requires-clause-depth
tuple-requires-clause-depth c =
    let kids = kids_of (tagged_of c.args.tag.now) in
    let all =
    tuple_end kids c.loop-i.i c.loop-i.values.items (map stands kids)
    (omega (arith, c.loop-i-test.false, c.arity-i-end.ensures)) c.loop-i.invariant in
    tuple_depth c.args.tag.now.at c.args.tag.now.tree _ all c.size-size.ensures.within

pub loop-i-preserved : goal.loop-i-preserved
loop-i-preserved c =
    tuple_next (kids_of (tagged_of c.args.tag.now)) c.loop-i.i (tagged_of c.in_ok-kid.kid) c.loop-i.values.items
    c.push.new.self.items c.in_ok-whole.field-0 _ c.in_ok-kid.ensures c.in_ok-whole.ensures.value
    c.in_ok-push.ensures.items c.loop-i.invariant
