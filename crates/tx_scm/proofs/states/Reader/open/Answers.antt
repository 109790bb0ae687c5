use Rattle.std.proofs.Common.{◌≡◌, ◌+◌, take, drop, ◌∙◌, sym, ap, subst, arith}
use Rattle.tx_tree.specs.Labels.{IsLabel}
use Rattle.tx_scm.specs.Machine.{between, with_bracket}
use Rattle.tx_scm.specs.States.{opens_of, standing, GoesTo}
use Rattle.tx_scm.proofs.Tokens.{no_room, no_letter, too_long, ends_there, is_label, opens_bracket}
use Rattle.tx_scm.proofs.states.Reader.open.Goals as goal

pub returns-then-not-has_tree_room-clause-next : goal.returns-then-not-has_tree_room-clause-next
returns-then-not-has_tree_room-clause-next c =
    rw c.requires.whole
    (no_room c.args.bytes.now (opens_of c.args.self.now.brackets.items) c.args.at c.requires.at c.requires.byte
    (sym c.has_tree_room.ensures ∙ c.if-not-has_tree_room.true))

pub returns-then-count-eq0-clause-next : goal.returns-then-count-eq0-clause-next
returns-then-count-eq0-clause-next c =
    rw c.requires.whole
    (no_letter c.args.bytes.now (opens_of c.args.self.now.brackets.items) c.args.at _ _ c.requires.at c.requires.byte
    c.behind_white-from.ensures.rest (sym c.has_tree_room.ensures ∙ c.if-not-has_tree_room.false) c.if-count-eq0.true
    c.letters_len-count.ensures.stop)

pub returns-then-count-gt-MOST_LABEL-clause-next : goal.returns-then-count-gt-MOST_LABEL-clause-next
returns-then-count-gt-MOST_LABEL-clause-next c =
    rw c.requires.whole
    (too_long c.args.bytes.now (opens_of c.args.self.now.brackets.items) c.args.at _ _ c.requires.at c.requires.byte
    c.behind_white-from.ensures.rest (sym c.has_tree_room.ensures ∙ c.if-not-has_tree_room.false)
    c.letters_len-count.ensures.each c.letters_len-count.ensures.within c.if-count-gt-MOST_LABEL.true)

pub returns-then-end-bytes-clause-next : goal.returns-then-end-bytes-clause-next
returns-then-end-bytes-clause-next c =
    rw c.requires.whole
    (ends_there c.args.bytes.now (opens_of c.args.self.now.brackets.items) c.args.at _ _ c.requires.at c.requires.byte
    c.behind_white-from.ensures.rest (sym c.has_tree_room.ensures ∙ c.if-not-has_tree_room.false)
    c.letters_len-count.ensures.each (omega (arith, c.if-end-bytes.true)))

pub unreachable-requires : goal.unreachable-requires
unreachable-requires c =
    let fault = rw c.in-Err-BadLabel.field-0-is at c.in-Err-BadLabel.ensures.refused in
    let label = is_label c.args.bytes.now (opens_of c.args.self.now.brackets.items) c.args.at _ _ c.requires.at
    c.requires.byte c.behind_white-from.ensures.rest (sym c.has_tree_room.ensures ∙ c.if-not-has_tree_room.false)
    c.letters_len-count.ensures.each c.letters_len-count.ensures.within c.if-count-eq0.false
    (omega (arith, c.if-count-gt-MOST_LABEL.false)) in
    (fault (λ e. cc)).1
    (subst (λ n. IsLabel (take n (drop c.behind_white-from.result c.args.bytes.now))) (omega arith) label)

pub returns-in_ok-begin-in-Ok-clause-next : goal.returns-in_ok-begin-in-Ok-clause-next
returns-in_ok-begin-in-Ok-clause-next c =
    let opens = opens_of c.args.self.now.brackets.items in
    let from = c.behind_white-from.result in
    let count = c.letters_len-count.result in
    let room = sym c.has_tree_room.ensures ∙ c.if-not-has_tree_room.false in
    let label = is_label c.args.bytes.now opens c.args.at from count c.requires.at c.requires.byte
    c.behind_white-from.ensures.rest room c.letters_len-count.ensures.each c.letters_len-count.ensures.within
    c.if-count-eq0.false (omega (arith, c.if-count-gt-MOST_LABEL.false)) in
    let bracket = opens_bracket c.args.bytes.now opens c.args.at from count c.requires.at c.requires.byte
    c.behind_white-from.ensures.rest room (omega (arith, c.behind_white-from.ensures.from))
    (omega (arith, c.if-end-bytes.false, c.letters_len-count.ensures.within)) label c.letters_len-count.ensures.stop in
    let same : c.in-Ok.label ≡ take count (drop from c.args.bytes.now) =
    c.in-Ok.ensures.ok ∙ ap (λ n. take n (drop from c.args.bytes.now)) (omega arith) in
    subst (λ t. GoesTo c.args.bytes.now (standing c.args.self.now.whole opens) c.args.at t (from + count))
    (sym (c.in_ok-begin-in-Ok.ensures.next ∙ ap (λ l. between (with_bracket l opens)) same))
    (rw c.requires.whole bracket)
