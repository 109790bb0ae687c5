use Rattle.std.proofs.Common.{◌++◌, ℕ, List, inr, ap, ◌∙◌, refl}
use Rattle.tx_screen.specs.Screens.{DeskSeen}
use Rattle.tx_screen.proofs.Executing.{on_ok_map, told_both}
use Rattle.tx_screen.proofs.screen.Screen.key.Goals as goal

pub returns-clause-told : goal.returns-clause-told
returns-clause-told g c =
    let look = c.in_ok-look.ensures.told in
    let here = c.key_here-2.ensures.told in (
      look.0 ++ here.0,
      told_both look.0 here.0 _ _ _ look.1 here.1,
      λ edits. on_ok_map c.key_here-2.result
          (λ lines. inr (
            here.0,
            ap (λ (ls : List (List ℕ)). ls ++ here.0) look.2,
            c.if-not-needs_view.ensures refl c.look.new.self.session.seen.state c.args.self.now.session.seen.state here.0 lines,
          ))
          (here.2 (ap (λ (d : DeskSeen). d.edits) c.in_ok-look.ensures.desk ∙ edits)),
    )
