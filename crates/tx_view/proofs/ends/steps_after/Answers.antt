use Rattle.std.proofs.Common.{◌≡◌, ◌++◌, List, ℕ, sym, ap, ◌∙◌, subst}
use Rattle.std.specs.Prelude.{MatchOption, option_copied}
use Rattle.std.proofs.lemmas.Bool.Decides.{Decides-eqb}
use Rattle.std.proofs.lemmas.Slice.Eq.{strip_prefix_is}
use Rattle.tx_unit_layout.specs.Stretches.{part_or_root}
use Rattle.tx_view.proofs.ends.steps_after.Goals as goal

pub returns-in-Some : goal.returns-in-Some
returns-in-Some c =
    let front : c.steps.result.now ≡ part_or_root (option_copied c.args.path) =
    c.steps.ensures ∙ sym (ap (λ o. part_or_root (option_copied o)) c.in-Some.is) in
    subst (λ (b : List ℕ). MatchOption c.strip_prefix.result
    ((rest : List ℕ) → c.args.steps.now ≡ b ++ rest → ⊥) (λ rest. c.args.steps.now ≡ b ++ rest.now)) front
    (strip_prefix_is Decides-eqb c.args.steps.now c.steps.result.now c.strip_prefix.result
    c.strip_prefix.ensures.cases)
