use Rattle.std.proofs.Common.{◌≡◌, ◌≤◌, ◌+◌, ◌*◌, map, take}
use Rattle.tx_outside.specs.Outside.{StoreGoesOn}
use Rattle.tx_words.specs.Seen.{named_of}
use Rattle.tx_open.specs.Loads.{AreLoaded}
use Rattle.tx_open.specs.Outcomes.{AreRead, nodes_in_buffers}
use Rattle.tx_open.proofs.opening.add_files.Given as goal

abbrev pub invariant-loop-file : goal.invariant-loop-file
invariant-loop-file g l =
    record {
      read : AreRead (g.S.Store.seen l.fn.store).files (map named_of (take l.file-index l.files)) l.buffers.items;
      loaded : AreLoaded g.S.Store.load_leaves (map named_of (take l.file-index l.files)) l.fn.store l.store;
      steps : l.steps ≤ l.fn.steps + 2 * nodes_in_buffers l.buffers.items;
      files : (g.S.Store.seen l.store).files ≡ (g.S.Store.seen l.fn.store).files;
      goes_on : StoreGoesOn (g.S.Store.seen l.fn.store) (g.S.Store.seen l.store);
    }
