use Rattle.std.proofs.Common.{◌≡◌, ℕ, ◌-◌, ◌%◌, ◌^◌, ◌<◌, ◌≤◌, ltb, eqb, List, ◌++◌, map, length, take, get_or}
use Rattle.std.proofs.Common.{replicate, bit_or, sym, ap, ap₂, ◌∙◌, subst, arith}
use Rattle.std.proofs.lemmas.List.{take_all}
use Rattle.std.proofs.lemmas.Simd.{zip2_splat, length-chunk}
use lib.Count.{count_trailing_zeros}
use lib.Lanes.{chunk, zip2, mask_l, top}
use Rattle.tx_scan.specs.Stops.{is_stop}
use Rattle.tx_scan.proofs.SetLemmas.{is_stop-inside, is_stop_more, or_false}
use Rattle.tx_scan.proofs.LaneLemmas.{lanes_passing, lanes_passing-same, lanes_passing-or, none_in_block}
use Rattle.tx_scan.proofs.LaneLemmas.{first_in_block}
use Rattle.tx_scan.proofs.stop_set.Stops.run_in_block.Goals as goal

pub loop-byte-init : goal.loop-byte-init
loop-byte-init c =
    let block = chunk c.args.at 32 c.args.bytes.now in
    let long = length-chunk c.args.at 32 c.args.bytes.now c.requires in
    zip2_splat {Y = ℕ} _ block 32 32 long
    ∙ lanes_passing-same (λ x. ltb x 32) (is_stop (take 0 c.self.inside.bytes)) (λ x. sym (or_false (ltb x 32))) block

pub loop-byte-preserved : goal.loop-byte-preserved
loop-byte-preserved c =
    let block = chunk c.args.at 32 c.args.bytes.now in
    let long = length-chunk c.args.at 32 c.args.bytes.now c.requires in
    let set = c.self.inside.bytes in
    let i = c.loop-byte.byte-index in
    ap₂ (zip2 bit_or) c.loop-byte.invariant (zip2_splat {Y = ℕ} _ block 32 (get_or set i 0) long)
    ∙ lanes_passing-or (is_stop (take i set)) (λ x. eqb x (get_or set i 0)) block
    ∙ lanes_passing-same _ _ (λ x. is_stop_more set i x (omega arith)) block

-- after the loop each lane is set where its byte is a stop
lanes : (bytes set block stops : List ℕ) (i n k : ℕ) → length bytes ≡ 8 → 8 ≤ i → bytes ≡ take n bytes ++ replicate k 0
    → take n bytes ≡ set → stops ≡ lanes_passing (is_stop (take i bytes)) block
    → stops ≡ lanes_passing (is_stop set) block
lanes bytes set block stops i n k long all padded view kept =
    kept
    ∙ ap (λ l. lanes_passing (is_stop l) block) (take_all i bytes (omega arith))
    ∙ lanes_passing-same (is_stop bytes) (is_stop set) (λ b. is_stop-inside bytes set n k b padded view) block

pub returns-then-marks-eq0 : goal.returns-then-marks-eq0
returns-then-marks-eq0 c =
    let block = chunk c.args.at 32 c.args.bytes.now in
    let is = lanes c.self.inside.bytes c.args.self.now block c.loop-byte.stops c.loop-byte.byte-index c.self.inside.size
    (8 - c.self.inside.size) c.self.told c.loop-byte-test.false c.self.invariant.1 c.self.view_is
    c.loop-byte.invariant in
    none_in_block (is_stop c.args.self.now) block (length-chunk c.args.at 32 c.args.bytes.now c.requires)
    (subst (λ l. mask_l (map (top 7) l) % 2 ^ 64 ≡ 0) is c.if-marks-eq0.true)

pub returns-else-marks-eq0 : goal.returns-else-marks-eq0
returns-else-marks-eq0 c =
    let block = chunk c.args.at 32 c.args.bytes.now in
    let is = lanes c.self.inside.bytes c.args.self.now block c.loop-byte.stops c.loop-byte.byte-index c.self.inside.size
    (8 - c.self.inside.size) c.self.told c.loop-byte-test.false c.self.invariant.1 c.self.view_is
    c.loop-byte.invariant in
    let some : 0 < mask_l (map (top 7) c.loop-byte.stops) % 2 ^ 64 = omega arith in
    ap (λ l. count_trailing_zeros 64 (mask_l (map (top 7) l) % 2 ^ 64)) is
    ∙ first_in_block (is_stop c.args.self.now) block (length-chunk c.args.at 32 c.args.bytes.now c.requires)
    (subst (λ l. 0 < mask_l (map (top 7) l) % 2 ^ 64) is some)
