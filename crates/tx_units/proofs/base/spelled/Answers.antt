use Rattle.std.proofs.Common.{◌≡◌, rules, subst, sym}
use Rattle.tx_scm.proofs.OneFault.{none}
use Rattle.tx_scm.specs.Faults.{IsSchemeFault}
use Rattle.tx_scm.specs.Spelling.{Spells}
use Rattle.tx_tree.specs.declared.faults.ReadFault.TheVariants.{Unclosed, Stray, BadEscape, BadLabel, BadText, Mismatch}
use Rattle.tx_tree.specs.declared.faults.ReadFault.TheVariants.{After, Limit}
use Rattle.tx_units.proofs.base.spelled.Goals as goal

pub unreachable-requires : goal.unreachable-requires
unreachable-requires g c =
    let refused = rw c.in-Err-Unclosed.field-0-is at c.in-Err-Unclosed.ensures.refused in
    let same : c.as_bytes.result.now ≡ c.args.text.now = search rules in
    let bad = subst (λ b. IsSchemeFault b (Unclosed c.in-Err-Unclosed.field-0-0)) same (refused (λ e. cc)) in
    none c.args.text.now (Unclosed c.in-Err-Unclosed.field-0-0) c.requires.tree bad c.requires.spelled c.requires.within

pub unreachable-requires-in-Err-Stray : goal.unreachable-requires-in-Err-Stray
unreachable-requires-in-Err-Stray g c =
    let refused = rw c.in-Err-Stray.field-0-is at c.in-Err-Stray.ensures.refused in
    let same : c.as_bytes.result.now ≡ c.args.text.now = search rules in
    let bad = subst (λ b. IsSchemeFault b (Stray c.in-Err-Stray.field-0-0)) same (refused (λ e. cc)) in
    none c.args.text.now (Stray c.in-Err-Stray.field-0-0) c.requires.tree bad c.requires.spelled c.requires.within

pub unreachable-requires-in-Err-BadEscape : goal.unreachable-requires-in-Err-BadEscape
unreachable-requires-in-Err-BadEscape g c =
    let refused = rw c.in-Err-BadEscape.field-0-is at c.in-Err-BadEscape.ensures.refused in
    let same : c.as_bytes.result.now ≡ c.args.text.now = search rules in
    let bad = subst (λ b. IsSchemeFault b (BadEscape c.in-Err-BadEscape.field-0-0)) same (refused (λ e. cc)) in
    none c.args.text.now (BadEscape c.in-Err-BadEscape.field-0-0) c.requires.tree bad c.requires.spelled
    c.requires.within

pub unreachable-requires-in-Err-BadLabel : goal.unreachable-requires-in-Err-BadLabel
unreachable-requires-in-Err-BadLabel g c =
    let refused = rw c.in-Err-BadLabel.field-0-is at c.in-Err-BadLabel.ensures.refused in
    let same : c.as_bytes.result.now ≡ c.args.text.now = search rules in
    let bad = subst (λ b. IsSchemeFault b (BadLabel c.in-Err-BadLabel.field-0-0)) same (refused (λ e. cc)) in
    none c.args.text.now (BadLabel c.in-Err-BadLabel.field-0-0) c.requires.tree bad c.requires.spelled c.requires.within

pub unreachable-requires-in-Err-BadText : goal.unreachable-requires-in-Err-BadText
unreachable-requires-in-Err-BadText g c =
    let refused = rw c.in-Err-BadText.field-0-is at c.in-Err-BadText.ensures.refused in
    let same : c.as_bytes.result.now ≡ c.args.text.now = search rules in
    let bad = subst (λ b. IsSchemeFault b (BadText c.in-Err-BadText.field-0-0)) same (refused (λ e. cc)) in
    none c.args.text.now (BadText c.in-Err-BadText.field-0-0) c.requires.tree bad c.requires.spelled c.requires.within

pub unreachable-requires-in-Err-Mismatch : goal.unreachable-requires-in-Err-Mismatch
unreachable-requires-in-Err-Mismatch g c =
    let refused = rw c.in-Err-Mismatch.field-0-is at c.in-Err-Mismatch.ensures.refused in
    let same : c.as_bytes.result.now ≡ c.args.text.now = search rules in
    let bad = subst (λ b. IsSchemeFault b (Mismatch c.in-Err-Mismatch.field-0-0 c.in-Err-Mismatch.field-0-1)) same
    (refused (λ e. cc)) in
    none c.args.text.now (Mismatch c.in-Err-Mismatch.field-0-0 c.in-Err-Mismatch.field-0-1) c.requires.tree bad
    c.requires.spelled c.requires.within

pub unreachable-requires-in-Err-After : goal.unreachable-requires-in-Err-After
unreachable-requires-in-Err-After g c =
    let refused = rw c.in-Err-After.field-0-is at c.in-Err-After.ensures.refused in
    let same : c.as_bytes.result.now ≡ c.args.text.now = search rules in
    let bad = subst (λ b. IsSchemeFault b (After c.in-Err-After.field-0-0)) same (refused (λ e. cc)) in
    none c.args.text.now (After c.in-Err-After.field-0-0) c.requires.tree bad c.requires.spelled c.requires.within

pub unreachable-requires-in-Err-Limit : goal.unreachable-requires-in-Err-Limit
unreachable-requires-in-Err-Limit g c =
    let refused = rw c.in-Err-Limit.field-0-is at c.in-Err-Limit.ensures.refused in
    let same : c.as_bytes.result.now ≡ c.args.text.now = search rules in
    let bad = subst (λ b. IsSchemeFault b (Limit c.in-Err-Limit.field-0-0 c.in-Err-Limit.field-0-1)) same
    (refused (λ e. cc)) in
    none c.args.text.now (Limit c.in-Err-Limit.field-0-0 c.in-Err-Limit.field-0-1) c.requires.tree bad
    c.requires.spelled c.requires.within

pub returns-in-Ok-clause-made : goal.returns-in-Ok-clause-made
returns-in-Ok-clause-made g c = λ t spelled.
    let same : c.as_bytes.result.now ≡ c.args.text.now = search rules in
    c.read.ensures.made t (subst (λ bytes. Spells bytes t) (sym same) spelled)
