use Rattle.std.proofs.Common.{◌≡◌, ◌++◌, ◌∙◌, ap, sym, subst, codes, to_z, of_z, to_z-of_z}
use Rattle.std.specs.Int.{w64}
use Rattle.tx_tree.specs.Texts.{IsText}
use Rattle.tx_prim.specs.Lengths.{length_text}
use Rattle.tx_prim.proofs.Plain.{length_is_text}
use Rattle.tx_prim.proofs.lengths.print_length.Goals as goal

pub known_text-requires-clause-text : goal.known_text-requires-clause-text
known_text-requires-clause-text c =
    let digits : c.in_ok-bytes.bytes.items ≡ _ = c.in_ok-bytes.ensures.items ∙ c.as_bytes.ensures.value
    ∙ c.format.ensures.text in
    let e : c.deref.result.now ≡ length_text (to_z w64 (of_z w64 c.args.mcell)) = c.deref.ensures.value
    ∙ c.in_ok-extend_from_slice.ensures.items ∙ ap (λ x. x ++ codes "mcell") digits in
    subst IsText (sym (e ∙ ap length_text (to_z-of_z c.ranges.mcell))) (length_is_text c.args.mcell c.ranges.mcell)
