use Rattle.std.proofs.Common.{rules, ◌≡◌, ◌++◌, List, ℕ, take, length, refl, sym, subst, append_assoc}
use Rattle.std.proofs.lemmas.List.{take_at}
use Rattle.tx_terminal.specs.Painting.{move_bytes, clearing}
use Rattle.tx_terminal.proofs.Rows.{still_begins}
use Rattle.tx_terminal.proofs.painting.add_row.Goals as goal

pub returns-clause-grows : goal.returns-clause-grows
returns-clause-grows c =
    let before : List ℕ = c.args.out.now.items in
    let next : List ℕ = c.extend_from_slice.new.self.items in
    let whole : next ≡ before ++ (move_bytes c.args.at 0 ++ clearing) = search (rules, append_assoc) in
    let first : take (length before) next ≡ before
    = subst (λ x. take (length before) x ≡ before) (sym whole)
    (take_at before (move_bytes c.args.at 0 ++ clearing) (length before) refl) in
    still_begins before next c.add_text.new.out.items first c.add_text.ensures.grows
