use Rattle.std.proofs.Common.{rules, ◌≡◌, ◌∙◌, sym, subst, reverse}
use Rattle.tx_kept.specs.Carrying.{carry}
use Rattle.tx_kept.specs.Entries.{AllLead, IsInOrder}
use Rattle.tx_kept.specs.Moves.{moved}
use Rattle.tx_kept.proofs.Carried.{carry_order}
use Rattle.tx_kept.proofs.path_map.PathMap.carry_along.Goals as goal

pub invariant_of-self : goal.invariant_of-self
invariant_of-self g c =
    let same : c.args.self.now ≡ c.self.inside.entries.items = search rules in
    let found : moved 0 (reverse c.in_ok-moves.moves.items) c.self.inside.entries.items
    ≡ carry c.args.mods.now c.args.before.now c.self.inside.entries.items =
    subst (λ xs. moved 0 (reverse c.in_ok-moves.moves.items) xs ≡ carry c.args.mods.now c.args.before.now xs)
    c.deref.ensures.value c.in_ok-moves.ensures in
    subst IsInOrder (sym (c.settle.ensures ∙ found))
    (carry_order c.args.mods.now c.args.before.now c.requires.applies.0 c.requires.applies.1
    c.self.inside.entries.items (subst (AllLead c.args.before.now) same c.requires.lead) c.self.invariant)
