use Rattle.std.proofs.Common.{◌≡◌, sym, refl, ◌∙◌, arith, true, false, Some}
use Rattle.std.specs.Prelude.{slice_get}
use Rattle.tx_mod.specs.Mods.{is_clean}
use Rattle.tx_mod.proofs.Measuring.{split_past_child, split_clean, split_made, child_found}
use Rattle.tx_mod.proofs.measures.measured_split.Goals as goal

pub returns-then-j-len-clause-measured : goal.returns-then-j-len-clause-measured
returns-then-j-len-clause-measured c =
    let found : slice_get c.in-Node.children.now c.args.i ≡ Some c.index-children-i.result =
    child_found c.in-Node.children.now c.args.i c.index-children-i.result (omega arith) c.index-children-i.is in
    rw c.extent-len.ensures
    (split_past_child c.args.s.now c.in-Node.field-0.now c.in-Node.children.now c.args.i c.args.j
    c.index-children-i.result c.in-Node.ensures found (omega arith))

pub returns-then-not-is_clean-clause-measured : goal.returns-then-not-is_clean-clause-measured
returns-then-not-is_clean-clause-measured c =
    let found : slice_get c.in-Node.children.now c.args.i ≡ Some c.index-children-i.result =
    child_found c.in-Node.children.now c.args.i c.index-children-i.result (omega arith) c.index-children-i.is in
    let clean : is_clean c.index-children-i.result c.args.j ≡ false = sym c.is_clean.ensures ∙ c.if-not-is_clean.true in
    rw c.from.ensures
    (split_clean c.args.s.now c.in-Node.field-0.now c.in-Node.children.now c.args.i c.args.j
    c.index-children-i.result false c.in-Node.ensures found (omega (arith, c.extent-len.ensures)) clean)

pub returns-clause-measured : goal.returns-clause-measured
returns-clause-measured c =
    let found : slice_get c.in-Node.children.now c.args.i ≡ Some c.index-children-i.result =
    child_found c.in-Node.children.now c.args.i c.index-children-i.result (omega arith) c.index-children-i.is in
    let clean : is_clean c.index-children-i.result c.args.j ≡ true = sym c.is_clean.ensures ∙ c.if-not-is_clean.false in
    split_made c.args.s.now c.in-Node.field-0.now c.in-Node.children.now c.args.i c.args.j c.index-children-i.result _
    c.in-Node.ensures found (omega (arith, c.extent-len.ensures)) clean c.size-size.ensures.within refl refl
    (grind arith) (omega (arith, c.size-size.ensures.value))
