use Rattle.std.proofs.Common.{◌≡◌, ◌∙◌, ap, sym, subst, rules, FitsSigned, to_z, of_z, to_z-of_z}
use Rattle.std.specs.Fmt.{signed_decimal}
use Rattle.std.specs.Int.{w64}
use Rattle.tx_tree.specs.Texts.{IsText}
use Rattle.tx_prim.proofs.Plain.{signed_text}
use Rattle.tx_prim.proofs.making.amount_leaf.Goals as goal

pub leaf_of-requires-clause-text : goal.leaf_of-requires-clause-text
leaf_of-requires-clause-text c =
    let f : FitsSigned w64 c.in-Number.n = search rules in
    let e : c.as_bytes.result.now ≡ signed_decimal (to_z w64 (of_z w64 c.in-Number.n)) = c.as_bytes.ensures.value
    ∙ c.format.ensures.text in
    subst IsText (sym (e ∙ ap signed_decimal (to_z-of_z f))) (signed_text c.in-Number.n f)
