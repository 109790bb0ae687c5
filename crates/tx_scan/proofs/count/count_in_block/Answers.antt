use Rattle.std.proofs.Common.{eqb, ap, ◌∙◌, arith, w8}
use Rattle.std.proofs.lemmas.Simd.{bitmask_splat, length-chunk, ones-mask_l}
use lib.Count.{ones}
use lib.Lanes.{chunk}
use Rattle.tx_scan.proofs.count.count_in_block.Goals as goal

pub returns : goal.returns
returns c =
    let block = chunk c.args.at 32 c.args.bytes.now in
    let long = length-chunk c.args.at 32 c.args.bytes.now c.requires in
    ap ones (bitmask_splat w8 eqb block 32 c.args.b long (omega arith)) ∙ ones-mask_l (λ x. eqb x c.args.b) block
