use Rattle.std.proofs.Common.{◌<◌, ◌+◌, ◌*◌, ◌^◌, drop}
use Rattle.std.specs.List.{flat_map}
use Rattle.tx_print.specs.Runs.{item_looks, looks_on, runs_from}
use Rattle.tx_print.specs.Begun.{open_run_in}
use Rattle.tx_print.proofs.Running.{IsOpen, Told}
use Rattle.tx_print.proofs.attributes.push_runs.Given as goal

abbrev pub invariant-loop-item : goal.invariant-loop-item
invariant-loop-item g l =
    record {
      bound : l.at < (l.item-index + 1) * 2 ^ 32;
      is_open : IsOpen (open_run_in l.begun) l.at;
      told : Told l.fn.printer (g.O.Sink.seen l.fn.out)
          l.printer (g.O.Sink.seen l.out) (open_run_in l.begun) l.at
          (flat_map item_looks (drop l.item-index l.item-items)) (runs_from 0 (looks_on l.line));
    }
