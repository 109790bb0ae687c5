use Rattle.std.proofs.Common.{◌+◌, [], length, ◌∙◌, sym, ap, subst}
use Rattle.tx_tree.specs.WideTree.{leaf}
use Rattle.tx_scm.specs.Machine.{put_tree, between, texting}
use Rattle.tx_scm.specs.States.{opens_of, standing, GoesTo}
use Rattle.tx_scm.proofs.Counting.{string_counted}
use Rattle.tx_scm.proofs.Sizing.{string_sized}
use Rattle.tx_scm.proofs.Tokens.{no_room_for_text, opens_string, goes_on}
use Rattle.tx_scm.proofs.states.Reader.string.Goals as goal

pub returns-then-not-has_tree_room-clause-next : goal.returns-then-not-has_tree_room-clause-next
returns-then-not-has_tree_room-clause-next c =
    rw c.requires.whole
    (no_room_for_text c.args.bytes.now (opens_of c.args.self.now.brackets.items) c.args.at c.requires.at c.requires.byte
    (sym c.has_tree_room.ensures ∙ c.if-not-has_tree_room.true))

pub returns-in-None-clause-next : goal.returns-in-None-clause-next
returns-in-None-clause-next c =
    let opens = opens_of c.args.self.now.brackets.items in
    let begun = opens_string c.args.bytes.now opens c.args.at c.requires.at c.requires.byte
    (sym c.has_tree_room.ensures ∙ c.if-not-has_tree_room.false) in
    rw c.requires.whole (begun.same ∙ (rw c.in-None.is at c.in_ok-string_text.ensures opens))

pub returns-in_ok-put_tree-in-Some-clause-next : goal.returns-in_ok-put_tree-in-Some-clause-next
returns-in_ok-put_tree-in-Some-clause-next c =
    let opens = opens_of c.args.self.now.brackets.items in
    let begun = opens_string c.args.bytes.now opens c.args.at c.requires.at c.requires.byte
    (sym c.has_tree_room.ensures ∙ c.if-not-has_tree_room.false) in
    subst (λ t. GoesTo c.args.bytes.now (standing c.args.self.now.whole opens) c.args.at t c.in-Some.end)
    (sym (c.in_ok-put_tree-in-Some.ensures.next ∙ ap (λ t. put_tree t opens) c.in_ok-leaf-in-Some.ensures))
    (rw c.requires.whole
    (goes_on c.args.bytes.now (between opens) (texting [] opens) (put_tree (leaf c.in-Some.text) opens) c.args.at
    (c.args.at + 1) c.in-Some.end begun (rw c.in-Some.is at c.in_ok-string_text.ensures opens)))

pub returns-in_ok-put_tree-in-Some-clause-counted : goal.returns-in_ok-put_tree-in-Some-clause-counted
returns-in_ok-put_tree-in-Some-clause-counted c = λ steps from.
    let opens = opens_of c.args.self.now.brackets.items in
    string_counted from steps c.args.self.now.whole opens c.in-Some.text _ c.requires.whole
    (c.in_ok-put_tree-in-Some.ensures.next ∙ ap (λ t. put_tree t opens) c.in_ok-leaf-in-Some.ensures)

pub returns-in_ok-put_tree-in-Some-clause-sized : goal.returns-in_ok-put_tree-in-Some-clause-sized
returns-in_ok-put_tree-in-Some-clause-sized c =
    let opens = opens_of c.args.self.now.brackets.items in
    string_sized c.args.self.now.size _ c.args.self.now.whole opens c.in-Some.text _ c.requires.whole
    (c.in_ok-put_tree-in-Some.ensures.size ∙ ap (λ x. c.args.self.now.size + (1 + length x)) c.bytes.ensures.bytes)
    (c.in_ok-put_tree-in-Some.ensures.next ∙ ap (λ t. put_tree t opens) c.in_ok-leaf-in-Some.ensures)
