use Rattle.std.proofs.Common.{◌+◌, ◌≤◌, List, map, take}
use Rattle.tx_units.specs.BaseTexts.{AreOfTexts}
use Rattle.tx_units.specs.Units.{nodes_made}
use Rattle.tx_units.specs.declared.kinds.Unit.{Unit as DocUnit}
use Rattle.tx_units.proofs.base.spelled_units.Given as goal

abbrev pub invariant-loop-text : goal.invariant-loop-text
invariant-loop-text g l = record {
  spelled : AreOfTexts (map (λ text. text.now) (take l.text-index l.texts)) l.units.items;
  made : (us : List DocUnit) → AreOfTexts (map (λ text. text.now) l.texts) us
      → l.steps ≤ l.fn.steps + nodes_made (take l.text-index us);
}
