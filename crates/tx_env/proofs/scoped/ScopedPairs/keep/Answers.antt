use Rattle.std.proofs.Common.{◌≡◌, ◌∙◌, ◌+◌, length, sym, ap}
use Rattle.tx_env.specs.Changes.{maps_below}
use Rattle.tx_env.specs.Environments.{Environment}
use Rattle.tx_env.specs.ScopedView.{changes_of}
use Rattle.tx_env.proofs.Scopes.{count_below, closed_scopes}
use Rattle.tx_env.proofs.scoped.ScopedPairs.keep.Goals as goal

pub returns-clause-scopes : goal.returns-clause-scopes
returns-clause-scopes c =
    let pairs = c.self.inside.pairs in
    let before = changes_of c.self.inside.pasts.items in
    let scopes = ap (λ (e : Environment). e.scopes) c.self.view_is in
    let count : c.args.number + 1 ≡ c.self.inside.open_count =
    c.requires ∙ ap length (sym scopes) ∙ count_below c.self.inside.open_count pairs before in
    let all = sym scopes ∙ ap (λ n. maps_below n pairs before) (sym count) in
    closed_scopes c.args.number pairs before (changes_of c.close_last.new.pasts.items) c.args.self.now.scopes all
    c.close_last.ensures.outermost c.close_last.ensures.inner
