use Rattle.std.proofs.Common.{rules}
use Rattle.std.proofs.lemmas.Fn.{always_returns_same}
use Rattle.tx_walk.specs.Finding.{side}
use Rattle.tx_walk.proofs.Found.{found_level, none_found_level}
use Rattle.tx_walk.proofs.prior.sorted_number.Goals as goal

pub returns-in-Ok : goal.returns-in-Ok
returns-in-Ok c =
    let facts = c.binary_search_by.ensures in
    found_level c.args.kept.now c.args.path.now c.in-Ok.i c.binary_search_by.result c.requires.distinct facts.bound
    (facts.position (side c.args.path.now) (always_returns_same _ _ _ (λ a r g called. search rules))) c.in-Ok.is

pub returns-in-Err : goal.returns-in-Err
returns-in-Err c =
    let facts = c.binary_search_by.ensures in
    none_found_level c.args.kept.now c.args.path.now _ c.binary_search_by.result c.requires.sorted
    (facts.position (side c.args.path.now) (always_returns_same _ _ _ (λ a r g called. search rules))) c.in-Err.is
