use Rattle.std.proofs.Common.{arith, sym, ◌∙◌}
use Rattle.tx_bridge.proofs.Passing.{along_starts, tree_within, read_applies, read_leads, read_ends}
use Rattle.tx_bridge.proofs.Passing.{read_next, along_whole}
use Rattle.tx_bridge.proofs.course.place_along.Goals as goal

pub loop-i-init : goal.loop-i-init
loop-i-init c = λ t h lead. along_starts c.args.mods.now c.args.trees.now t c.args.path h lead

pub bounds-trees-i : goal.bounds-trees-i
bounds-trees-i c =
    tree_within c.args.mods.now c.args.trees.now c.requires.0 c.loop-i.i c.args.path c.loop-i.path
    (c.loop-i.invariant c.requires.0 c.requires.1 c.requires.2) (omega arith) c.index-mods-i.result

pub carried-requires-clause-applicable : goal.carried-requires-clause-applicable
carried-requires-clause-applicable c =
    read_applies c.args.mods.now c.args.trees.now c.requires.0 c.loop-i.i c.args.path c.loop-i.path
    (c.loop-i.invariant c.requires.0 c.requires.1 c.requires.2) (omega arith) c.index-mods-i.result
    c.index-trees-i.result c.index-mods-i.is c.index-trees-i.is

pub carried-requires-clause-leads : goal.carried-requires-clause-leads
carried-requires-clause-leads c =
    read_leads c.args.mods.now c.args.trees.now c.requires.0 c.loop-i.i c.args.path c.loop-i.path
    (c.loop-i.invariant c.requires.0 c.requires.1 c.requires.2) (omega arith) c.index-mods-i.result
    c.index-trees-i.result c.index-mods-i.is c.index-trees-i.is

pub returns-in-None : goal.returns-in-None
returns-in-None c = λ t h lead.
    read_ends c.args.mods.now c.args.trees.now t c.loop-i.i c.args.path c.loop-i.path (c.loop-i.invariant t h lead)
    (omega arith) c.index-mods-i.result c.index-trees-i.result c.index-mods-i.is c.index-trees-i.is
    (sym c.in_ok-carried.ensures ∙ c.in-None.is)

pub loop-i-preserved : goal.loop-i-preserved
loop-i-preserved c = λ t h lead.
    read_next c.args.mods.now c.args.trees.now t c.loop-i.i c.args.path c.loop-i.path (c.loop-i.invariant t h lead)
    (omega arith) c.index-mods-i.result c.index-trees-i.result c.index-mods-i.is c.index-trees-i.is
    c.carried_law.ensures c.in-Some.place (sym c.in_ok-carried.ensures ∙ c.in-Some.is)

pub returns : goal.returns
returns c = λ t h lead.
    along_whole c.args.mods.now c.args.trees.now t c.loop-i.i c.args.path c.loop-i.path (c.loop-i.invariant t h lead)
    (omega arith)
