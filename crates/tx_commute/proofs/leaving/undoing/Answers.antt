use Rattle.std.proofs.Common.{rules, ◌≡◌, ◌++◌, [], length, map, sym, ap, ◌∙◌}
use Rattle.std.proofs.lemmas.List.{nil_from_length, append-nil}
use Rattle.tx_commute.proofs.OnWay.{one_more_undone}
use Rattle.tx_commute.proofs.leaving.undoing.Goals as goal

pub loop-k-init : goal.loop-k-init
loop-k-init c =
    ap (map (λ k. k.undoes)) (sym c.into_iter-k-iterator.ensures.into_iter_gives.0)
    ∙ ap (λ xs. xs ++ map (λ k. k.undoes) c.into_iter-k-iterator.result.rest.items) (sym c.new-mods.ensures.items)

pub loop-k-preserved : goal.loop-k-preserved
loop-k-preserved c =
    one_more_undone (map (λ k. k.undoes) c.args.known.items) c.loop-k.mods.items c.push.new.self.items c.in-Some.k
    c.loop-k.k-iterator.rest.items c.next.new.self.rest.items c.loop-k.invariant c.in-Some.ensures.steps.0
    c.in_ok-push.ensures.items

pub returns : goal.returns
returns c =
    let none : length c.loop-k.k-iterator.rest.items ≡ 0 = search rules in
    c.from.ensures
    ∙ sym (c.loop-k.invariant
    ∙ ap (λ ks. c.loop-k.mods.items ++ map (λ k. k.undoes) ks) (nil_from_length c.loop-k.k-iterator.rest.items none)
    ∙ append-nil c.loop-k.mods.items)
