use Rattle.tx_parts.proofs.PartRuns.{framed_is, framed_kept_is, framed_too_dear_is}
use Rattle.tx_parts.proofs.FrameRuns.{here_is, run_is, next_is}
use Rattle.tx_parts.proofs.laws.frame_law.Goals as goal

pub returns : goal.returns
returns c =
    record {
      part = framed_is;
      here = here_is;
      kept = framed_kept_is;
      too_dear = framed_too_dear_is;
      run = run_is;
      next = next_is;
    }
