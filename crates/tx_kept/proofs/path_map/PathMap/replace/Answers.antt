use Rattle.std.proofs.Common.{rules, ◌≡◌, ◌∙◌, sym, ap, length, subst}
use Rattle.std.specs.List.{splice}
use Rattle.std.specs.Vec.Iter.{into_iter_len}
use Rattle.tx_kept.specs.Entries.{IsInOrder}
use Rattle.tx_kept.proofs.Drained.{drained}
use Rattle.tx_kept.proofs.path_map.PathMap.replace.Goals as goal

pub returns-clause-replaced : goal.returns-clause-replaced
returns-clause-replaced g c =
    let f = c.in_ok-splice.ensures.items in
    let long : into_iter_len f.0 ≡ length c.args.entries.items = search (rules, f.2.1) in
    let same : c.self.inside.entries.items ≡ c.args.self.now = search rules in
    f.4
    ∙ ap (splice c.self.inside.entries.items c.args.start c.args.end)
    (drained f.0 f.1 c.args.entries.items f.3 f.2.0 long)
    ∙ ap (λ xs. splice xs c.args.start c.args.end c.args.entries.items) same

pub invariant_of-self-2 : goal.invariant_of-self-2
invariant_of-self-2 g c =
    let f = c.in_ok-splice.ensures.items in
    let long : into_iter_len f.0 ≡ length c.args.entries.items = search (rules, f.2.1) in
    let same : c.self.inside.entries.items ≡ c.args.self.now = search rules in
    subst IsInOrder (sym (f.4
    ∙ ap (splice c.self.inside.entries.items c.args.start c.args.end)
    (drained f.0 f.1 c.args.entries.items f.3 f.2.0 long)
    ∙ ap (λ xs. splice xs c.args.start c.args.end c.args.entries.items) same)) c.requires.order
