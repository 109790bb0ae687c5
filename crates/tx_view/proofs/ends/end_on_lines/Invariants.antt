use Rattle.std.proofs.Common.{◌≡◌, [], drop}
use Rattle.std.specs.Option.{option_map}
use Rattle.tx_view.specs.Ends.{end_on_lines}
use Rattle.tx_view.proofs.EndsFound.{further}
use Rattle.tx_view.proofs.EndsUnder.{place_after}
use Rattle.tx_view.proofs.ends.end_on_lines.Given as goal

abbrev pub invariant-loop-i : goal.invariant-loop-i
invariant-loop-i l =
    end_on_lines l.end [] (place_after l.steps l.offset) l.lines
    ≡ option_map (further l.i) (end_on_lines l.end [] (place_after l.steps l.offset) (drop l.i l.lines))
