-- The units of the base style are the first of all units, and what all units are made of beside them.
use Rattle.std.proofs.Common.{◌≡◌, ◌+◌, ◌++◌, List, [], ◌∷◌, ap, drop, take, ◌∙◌, refl, arith}
use Rattle.std.specs.List.{AllByRecursion}
use Rattle.std.proofs.lemmas.List.{append_assoc, take_at}
use Rattle.std.proofs.lemmas.List.Sums.{sum_by-cons}
use Rattle.tx_tree.specs.WideTree.{WideTree}
use Rattle.tx_doc.specs.Buffers.{document_of}
use Rattle.tx_doc.specs.declared.buffer.Buffer.{Buffer}
use Rattle.tx_units.specs.declared.kinds.Unit.{Unit as DocUnit}
use Rattle.tx_units.specs.Places.{UnitStandsIn}
use Rattle.tx_units.specs.Units.{base_units, style_units, initial_units, body_units, units, made_as, nodes_made, made}
use Rattle.tx_units.specs.Units.{made_over}
use Rattle.tx_units.proofs.Few.{base_count}
use Rattle.tx_units.proofs.Gathering.{nodes_made-append}
use Rattle.tx_units.proofs.Placing.{body_stands}

pub base_first : (buffers : List Buffer) → take 26 (units buffers) ≡ base_units
base_first buffers =
    let document : WideTree = document_of buffers in
    let between : List DocUnit = style_units document (drop 1 buffers) ++ initial_units document in
    let body : List DocUnit = body_units document in
    ap (take 26) (append_assoc base_units between body) ∙ take_at base_units (between ++ body) 26 base_count

-- all of a paragraph is in the document
none_made : (t : WideTree) (us : List DocUnit) → AllByRecursion (UnitStandsIn t) us → nodes_made us ≡ 0
none_made t [] h = refl
none_made t (u ∷ us) h =
    let own : made_as u.kind u.tagged.tree ≡ 0 = ap (λ k. made_as k u.tagged.tree) h.0.is_body in
    omega (arith, own, none_made t us h.1, sum_by-cons (λ v. made_as v.kind v.tagged.tree) u us)

pub all_made : (buffers : List Buffer) → made buffers ≡ nodes_made base_units + made_over buffers
all_made buffers =
    let document : WideTree = document_of buffers in
    let styles : List DocUnit = style_units document (drop 1 buffers) in
    let initial : List DocUnit = initial_units document in
    let body : List DocUnit = body_units document in
    omega (
      arith,
      nodes_made-append (base_units ++ (styles ++ initial)) body,
      nodes_made-append base_units (styles ++ initial),
      nodes_made-append styles initial,
      none_made document body (body_stands document),
    )
