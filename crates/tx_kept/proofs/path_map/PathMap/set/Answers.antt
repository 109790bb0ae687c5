use Rattle.std.proofs.Common.{rules, ◌≡◌, ◌<◌, ◌∙◌, Some, length, refl}
use Rattle.std.specs.Prelude.{slice_get}
use Rattle.std.proofs.lemmas.Option.{slice_get_read}
use Rattle.tx_kept.proofs.Ordering.{order_set, set_is, set_back}
use Rattle.tx_kept.proofs.path_map.PathMap.set.Goals as goal

pub invariant_of-self : goal.invariant_of-self
invariant_of-self g c =
    let lt : c.args.number < length c.self.inside.entries.items = search rules in
    order_set c.self.inside.entries.items c.args.number c.index_mut.result.now
    (record { path = c.index_mut.result.now.path; value = c.replace.new.dest })
    (slice_get_read c.self.inside.entries.items (length c.self.inside.entries.items) c.args.number
    c.index_mut.result.now refl lt c.index_mut.ensures.value) refl c.self.invariant

pub returns-clause-set : goal.returns-clause-set
returns-clause-set g c =
    let lt : c.args.number < length c.self.inside.entries.items = search rules in
    let same : c.args.self.now ≡ c.self.inside.entries.items = search rules in
    set_is c.self.inside.entries.items c.args.self.now c.args.number c.index_mut.result.now c.args.value
    c.replace.new.dest same
    (slice_get_read c.self.inside.entries.items (length c.self.inside.entries.items) c.args.number
    c.index_mut.result.now refl lt c.index_mut.ensures.value) c.replace.ensures.after

pub returns-clause-old : goal.returns-clause-old
returns-clause-old g c =
    let lt : c.args.number < length c.self.inside.entries.items = search rules in
    let same : c.self.inside.entries.items ≡ c.args.self.now = search rules in
    set_back c.self.inside.entries.items c.args.number c.index_mut.result.now
    (record { path = c.index_mut.result.now.path; value = c.replace.new.dest }) c.replace.result lt
    c.index_mut.ensures.value refl c.replace.ensures.value ∙ same
