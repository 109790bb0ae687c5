use Rattle.std.proofs.Common.{◌≡◌, ◌+◌, ◌-◌, ◌*◌, ◌≤◌, drop, length, []}
use Rattle.tx_tree.specs.WideTree.{total_size, deepest, children_of}
use Rattle.tx_origin.specs.Values.{vals, plains}
use Rattle.tx_replay.specs.Going.{names_of}
use Rattle.tx_replay.specs.Cached.{closed}
use Rattle.tx_replay.specs.Stages.{stage_of}
use Rattle.tx_replay.specs.Walks.{walk, children_walk}
use Rattle.tx_replay.proofs.walking.UnitWalk.+walk.Given as goal

abbrev pub decreases-tree : goal.decreases-tree
decreases-tree g l = 16 * l.levels + 2

abbrev pub decreases-level : goal.decreases-level
decreases-level g l = 16 * l.levels + 1

abbrev pub decreases-document : goal.decreases-document
decreases-document g l = 16 * l.levels

abbrev pub decreases-children : goal.decreases-children
decreases-children g l = 16 * l.levels + 3

abbrev pub decreases-scope : goal.decreases-scope
decreases-scope g l = 16 * l.levels

abbrev pub decreases-scope_with : goal.decreases-scope_with
decreases-scope_with g l = 16 * l.levels - 1

abbrev pub invariant-children-loop-i : goal.invariant-children-loop-i
invariant-children-loop-i g l = record {
  run :
      children_walk (walk (closed l.source) l.levels) l.path l.i l.values.items (drop l.i (children_of l.t))
      (names_of l.fn.self.progress) (stage_of l.self l.steps)
      ≡ children_walk (walk (closed l.source) l.levels) l.path 0 [] (children_of l.t)
      (names_of l.fn.self.progress) (stage_of l.fn.self l.fn.steps);
  scopes : l.self.progress.scopes ≡ l.fn.self.progress.scopes;
  arity : length l.values.items ≡ l.i;
  size : total_size (plains (vals l.values.items)) + l.self.progress.state.left ≤ l.fn.self.progress.state.left;
  depth : deepest (plains (vals l.values.items)) ≤ l.levels;
  slack : l.self.progress.state.slack ≤ l.levels;
}
