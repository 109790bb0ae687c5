use Rattle.std.proofs.Common.{rules, ◌∙◌, sym, ap}
use Rattle.std.specs.Option.{option_map_or}
use Rattle.std.specs.Prelude.{not, is_some}
use Rattle.tx_mod.specs.Moves.{rest_behind}
use Rattle.tx_bridge.specs.Keeping.{keeps_at}
use Rattle.tx_bridge.proofs.WithinUnit.{no_rest_of, rest_of_is}
use Rattle.tx_bridge.proofs.KeptPlaces.{front_told}
use Rattle.tx_bridge.proofs.keeping.keeps_below.Goals as goal

pub returns-then-starts_with : goal.returns-then-starts_with
returns-then-starts_with c =
    let whole = rest_of_is c.args.own.now c.args.below.now (search rules) in
    c.keeps_at.ensures
    ∙ ap (λ o. option_map_or (keeps_at c.args.m.now) o (not (is_some (rest_behind c.args.below.now c.args.own.now))))
    (sym whole)

pub returns : goal.returns
returns c =
    let none = no_rest_of c.args.own.now c.args.below.now (search rules) in
    ap not (sym (front_told c.args.below.now c.args.own.now c.starts_with-2.result (search rules)))
    ∙ ap (λ o. option_map_or (keeps_at c.args.m.now) o (not (is_some (rest_behind c.args.below.now c.args.own.now))))
    (sym none)
