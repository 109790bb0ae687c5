use Rattle.std.proofs.Common.{rules, ◌≡◌, ◌<◌, ◌++◌, ◌∷◌, [], List, length, take, subst, sym}
use Rattle.tx_terminal.specs.Characters.{Shown}
use Rattle.tx_screen.specs.Frames.{padded}
use Rattle.tx_screen.proofs.Shown.{few_rows}
use Rattle.tx_screen.proofs.frames.with_status.Goals as goal

pub returns-clause-few : goal.returns-clause-few
returns-clause-few c =
    let room = c.from-room.result in
    let row = c.in_ok-text_row.field-0 in
    let above = c.args.rows.items in
    let bound : room < 65535 = search (rules, c.from-room.ensures, c.room_above.ensures.few) in
    let items : c.push.new.self.items ≡ padded room (take room above) ++ row ∷ [] =
    search (rules, c.in_ok-push.ensures.items, c.in_ok-all.ensures, c.truncate.ensures.items) in
    subst (λ (rows : List (List Shown)). length rows < 65536) (sym items) (few_rows room above row bound)
