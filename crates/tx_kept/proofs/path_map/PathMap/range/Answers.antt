use Rattle.std.proofs.Common.{rules, ◌≡◌, ◌≤◌, length, subst}
use Rattle.tx_kept.proofs.Found.{StartsAt, EndsAt, between, start_le_end}
use Rattle.tx_kept.proofs.path_map.PathMap.range.Goals as goal

pub returns-clause-below : goal.returns-clause-below
returns-clause-below g c =
    let one : c.deref.result.now ≡ c.args.self.now = search rules in
    let two : c.deref-2.result.now ≡ c.args.self.now = search rules in
    between c.args.path.now c.args.self.now c.start_of-start.result c.end_of-end.result
    (subst (λ xs. StartsAt c.args.path.now xs c.start_of-start.result) one c.start_of-start.ensures.split)
    (subst (λ xs. EndsAt c.args.path.now xs c.end_of-end.result) two c.end_of-end.ensures.split)

pub returns-clause-start : goal.returns-clause-start
returns-clause-start g c =
    let one : c.deref.result.now ≡ c.args.self.now = search rules in
    let two : c.deref-2.result.now ≡ c.args.self.now = search rules in
    start_le_end c.args.path.now c.args.self.now c.start_of-start.result c.end_of-end.result
    (subst (λ xs. c.start_of-start.result ≤ length xs) one c.start_of-start.ensures.within)
    (subst (λ xs. StartsAt c.args.path.now xs c.start_of-start.result) one c.start_of-start.ensures.split)
    (subst (λ xs. EndsAt c.args.path.now xs c.end_of-end.result) two c.end_of-end.ensures.split)
