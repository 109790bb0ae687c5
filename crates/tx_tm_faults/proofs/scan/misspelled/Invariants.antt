use Rattle.std.proofs.Common.{◌≡◌, ◌≤◌, take, true}
use Rattle.tx_tm_form.specs.Machine.{run}
use Rattle.tx_tm_form.specs.Marks.{keep_marks, start_marks, marks_go_on}
use Rattle.tx_tm_faults.specs.Scans.{scan_of}
use Rattle.tx_tm_faults.proofs.scan.misspelled.Given as goal

abbrev pub invariant-loop-place : goal.invariant-loop-place
invariant-loop-place l =
    record {
      same : run keep_marks start_marks (take l.place l.bytes) ≡ scan_of l.bytes l.scan;
      on : marks_go_on (scan_of l.bytes l.scan) ≡ true;
      counted : l.scan.taken ≤ l.place;
    }
