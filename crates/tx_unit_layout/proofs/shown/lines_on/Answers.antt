use Rattle.std.proofs.Common.{◌-◌, length, refl, ap, arith}
use Rattle.std.proofs.lemmas.Option.{slice_get_read}
use Rattle.tx_unit_layout.proofs.Below.{all_above}
use Rattle.tx_unit_layout.proofs.shown.lines_on.Goals as goal

pub overflow_add-result : goal.overflow_add-result
overflow_add-result c =
    let there = slice_get_read c.args.parts.now (length c.args.parts.now) (length c.args.parts.now - 1)
    c.index-parts-count.result refl (omega (arith, c.if-count-eq0.false)) c.index-parts-count.is in
    record {
      fits =
          omega (
            arith,
            all_above c.args.parts.now 0 (length c.args.parts.now - 1) c.index-parts-count.result c.requires.below
                there (omega (arith, c.if-count-eq0.false)),
            c.requires.few,
            ap length c.all.ensures,
            ap (λ l. length l.lines) c.deref.ensures,
          );
    }

pub returns : goal.returns
returns c =
    let there = slice_get_read c.args.parts.now (length c.args.parts.now) (length c.args.parts.now - 1)
    c.index-parts-count.result refl (omega (arith, c.if-count-eq0.false)) c.index-parts-count.is in
    omega (
      arith,
      all_above c.args.parts.now 0 (length c.args.parts.now - 1) c.index-parts-count.result c.requires.below
          there (omega (arith, c.if-count-eq0.false)),
      ap length c.all.ensures,
      ap (λ l. length l.lines) c.deref.ensures,
    )
