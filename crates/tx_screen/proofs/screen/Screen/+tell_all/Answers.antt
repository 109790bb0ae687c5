use Rattle.std.proofs.Common.{[], ◌∷◌, ℕ, List, ap, sym, ◌∙◌}
use Rattle.tx_screen.proofs.Executing.{on_ok_map, told_both}
use Rattle.tx_screen.proofs.screen.Screen.+tell_all.Goals as goal

pub returns-in_ok-tell_one-in-Some-clause-told : goal.returns-in_ok-tell_one-in-Some-clause-told
returns-in_ok-tell_one-in-Some-clause-told g t c =
    let line = c.bytes.result.now in
    let rest = c.in-Some.rest.now in
    let told = c.tell_all.ensures.told in (
      line ∷ told.0,
      told_both (line ∷ []) told.0 _ _ _ c.in_ok-tell_one-in-Some.ensures.told told.1,
      on_ok_map c.tell_all.result
          (λ e. ap (λ (ls : List (List ℕ)). line ∷ ls) e ∙ ap (λ (b : List ℕ). b ∷ rest) c.bytes.ensures
          ∙ sym c.in-Some.ensures.cases.0)
          told.2,
    )
