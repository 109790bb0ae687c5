use Rattle.std.proofs.Common.{rules, ◌≡◌, ◌++◌, List, [], ℕ, false, take, length, refl, sym, subst, append_assoc}
use Rattle.std.proofs.lemmas.List.{take_at}
use Rattle.tx_terminal.specs.Inks.{is_same_ink}
use Rattle.tx_terminal.specs.Painting.{sgr, part_bytes}
use Rattle.tx_terminal.proofs.Rows.{still_begins}
use Rattle.tx_terminal.proofs.painting.add_ink.Goals as goal

pub returns-clause-added : goal.returns-clause-added
returns-clause-added c =
    let other : is_same_ink c.args.from c.args.to ≡ false = search rules in
    rw other (search (rules, append_assoc))

pub returns-clause-grows : goal.returns-clause-grows
returns-clause-grows c =
    let before : List ℕ = c.args.out.now.items in
    let next : List ℕ = c.add_part-3.new.out.items in
    let added : List ℕ
    = sgr [] ++ (part_bytes c.args.to.bold 49 ++ (part_bytes c.args.to.italic 51 ++ part_bytes c.args.to.reverse 55)) in
    let whole : next ≡ before ++ added = search (rules, append_assoc) in
    let first : take (length before) next ≡ before
    = subst (λ x. take (length before) x ≡ before) (sym whole) (take_at before added (length before) refl) in
    still_begins before next c.add_color.new.out.items first c.add_color.ensures.grows
