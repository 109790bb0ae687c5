use Rattle.std.proofs.Common.{List, ◌++◌, length, ap, arith, subst, length-append, append_assoc}
use Rattle.std.proofs.lemmas.Result.{on_ok_weaker}
use Rattle.tx_layout.specs.declared.layout.Line.{Line}
use Rattle.tx_layout.specs.Told.{HasTold}
use Rattle.tx_part_layout.specs.LaidParts.{placed_lines}
use Rattle.tx_unit_layout.proofs.shown.Shown.tell.Goals as goal

pub tell-requires : goal.tell-requires
tell-requires c =
    let b = c.requires.begun in
    let parts : List Line = placed_lines c.all.result.now in
    record {
      few =
          omega (
            arith,
            (c.in_ok-tell_parts.ensures.told b.0 b.1 b.2).number,
            b.2.number,
            length-append b.0 parts,
            ap (λ ps. length (placed_lines ps)) c.all.ensures,
            length-append (placed_lines c.args.self.now.parts) c.args.self.now.lines,
            c.requires.few,
          );
    }

pub returns : goal.returns
returns c = record {
  told =
      on_ok_weaker c.tell.result
      (λ told before height begun.
      subst (λ (ls : List Line). HasTold ls height c.tell.new.paginator)
      (append_assoc before (placed_lines c.args.self.now.parts) c.args.self.now.lines)
      (told (before ++ placed_lines c.args.self.now.parts) height
      (subst (λ ps. HasTold (before ++ placed_lines ps) height c.tell_parts.new.paginator) c.all.ensures
      (c.in_ok-tell_parts.ensures.told before height begun))))
      c.tell.ensures.told;
}
