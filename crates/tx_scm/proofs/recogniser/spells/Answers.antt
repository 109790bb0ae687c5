use Rattle.std.proofs.Common.{eq-eqb}
use Rattle.std.proofs.lemmas.Bool.{eqb-true}
use Rattle.tx_scm.proofs.Places.{not_spelled, spelled_at, spelled_ends}
use Rattle.tx_scm.proofs.recogniser.spells.Goals as goal

pub behind_white-requires-in-Some : goal.behind_white-requires-in-Some
behind_white-requires-in-Some c = (rw c.in-Some.is at c.in_ok-behind_tree.ensures).0

pub returns-in-None : goal.returns-in-None
returns-in-None c = (
  λ h. absurd cc,
  λ h. absurd
      (not_spelled c.args.bytes.now _ c.args.tree.now c.behind_white.ensures.rest
      (rw c.in-None.is at c.in_ok-behind_tree.ensures) h),
)

pub returns-in-Some : goal.returns-in-Some
returns-in-Some c =
    let found = rw c.in-Some.is at c.in_ok-behind_tree.ensures in
    let behind = c.behind_white-in-Some.ensures in (
      λ h. spelled_at c.args.bytes.now _ c.args.tree.now c.in-Some.end _ c.size-size.ensures.well_formed
          c.behind_white.ensures.rest found.1 behind.end behind.rest (eqb-true _ _ h),
      λ h. eq-eqb _ _
          (spelled_ends c.args.bytes.now _ c.args.tree.now c.in-Some.end _ c.behind_white.ensures.rest found.1
          behind.end behind.rest h),
    )
