use Rattle.std.proofs.Common.{◌-◌, ◌||◌, eqb, sym, ap, ◌∙◌}
use Rattle.std.specs.List.{list_any}
use Rattle.std.proofs.lemmas.Bool.{le-ltb}
use Rattle.tx_scan.proofs.SetLemmas.{is_stop-inside}
use Rattle.tx_scan.proofs.stop_set.Stops.is_stop.Goals as goal

pub returns-else-byte-lt-SPACE : goal.returns-else-byte-lt-SPACE
returns-else-byte-lt-SPACE c =
    let bytes = c.self.inside.bytes in
    let b = c.args.byte in
    c.contains.ensures.value
    ∙ ap (λ low. low || list_any (λ s. eqb s b) bytes) (sym (le-ltb b 32 c.if-byte-lt-SPACE.false))
    ∙ is_stop-inside bytes c.args.self.now c.self.inside.size (8 - c.self.inside.size) b c.self.invariant.1
    c.self.view_is
