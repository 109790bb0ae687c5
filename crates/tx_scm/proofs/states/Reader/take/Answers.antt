use Rattle.std.proofs.Common.{◌∙◌, sym, arith}
use Rattle.tx_scm.specs.States.{opens_of}
use Rattle.tx_scm.proofs.ByteKinds.{is_opens_kind, is_quote_kind}
use Rattle.tx_scm.proofs.Counting.{closes_counted}
use Rattle.tx_scm.proofs.Sizing.{closes_sized}
use Rattle.tx_scm.proofs.Tokens.{white_goes, none_behind, none_else, none_closed, closes}
use Rattle.tx_scm.proofs.states.Reader.take.Goals as goal

pub returns-in-White-clause-next : goal.returns-in-White-clause-next
returns-in-White-clause-next g c =
    white_goes c.args.bytes.now c.args.self.now.whole (opens_of c.args.self.now.brackets.items) c.args.at c.requires.at
    (sym c.kind_of-kind.ensures ∙ c.in-White.is)

pub returns-in_default : goal.returns-in_default
returns-in_default g c =
    record {
      next = none_behind c.args.bytes.now c.args.at c.requires.at c.args.self.now.whole
          (opens_of c.args.self.now.brackets.items) (sym c.is_some.ensures ∙ c.if-is_some.true)
          (λ e. c.in_default.not-White (c.kind_of-kind.ensures ∙ e));
      counted = tt;
      sized = tt;
      made = omega arith;
      rises = omega arith;
    }

pub open-requires-clause-byte : goal.open-requires-clause-byte
open-requires-clause-byte g c = is_opens_kind _ (sym c.kind_of-kind.ensures ∙ c.in-Opens.is)

pub string-requires-clause-byte : goal.string-requires-clause-byte
string-requires-clause-byte g c = is_quote_kind _ (sym c.kind_of-kind.ensures ∙ c.in-Quote.is)

pub returns-in-White-kind-clause-next : goal.returns-in-White-kind-clause-next
returns-in-White-kind-clause-next g c =
    white_goes c.args.bytes.now c.args.self.now.whole (opens_of c.args.self.now.brackets.items) c.args.at c.requires.at
    (sym c.kind_of-kind.ensures ∙ c.in-White-kind.is)

pub returns-in-Opens-clause-counted : goal.returns-in-Opens-clause-counted
returns-in-Opens-clause-counted g c = c.open.ensures.counted c.args.steps.now

pub returns-in-Quote-clause-counted : goal.returns-in-Quote-clause-counted
returns-in-Quote-clause-counted g c = c.string.ensures.counted c.args.steps.now

pub returns-then-branch-clause-next : goal.returns-then-branch-clause-next
returns-then-branch-clause-next g c =
    closes c.args.bytes.now c.args.at c.requires.at c.args.self.now.whole c.close.new.self.whole
    (opens_of c.args.self.now.brackets.items) (opens_of c.close.new.self.brackets.items)
    (sym c.is_some.ensures ∙ c.if-is_some.false) (sym c.kind_of-kind.ensures ∙ c.in-Closes.is)
    (rw c.if-branch.true at c.in_ok-close-in-Closes.ensures.next)

pub returns-then-branch-clause-counted : goal.returns-then-branch-clause-counted
returns-then-branch-clause-counted g c =
    closes_counted c.args.steps.now c.close.new.steps c.args.self.now.whole (opens_of c.args.self.now.brackets.items) _
    (sym c.is_some.ensures ∙ c.if-is_some.false) (c.in_ok-close-in-Closes.ensures.counted c.if-branch.true)
    (rw c.if-branch.true at c.in_ok-close-in-Closes.ensures.next)

pub returns-then-branch-clause-sized : goal.returns-then-branch-clause-sized
returns-then-branch-clause-sized g c =
    closes_sized c.args.self.now.size c.close.new.self.size c.args.self.now.whole
    (opens_of c.args.self.now.brackets.items) _ (sym c.is_some.ensures ∙ c.if-is_some.false) c.close.ensures.size
    (rw c.if-branch.true at c.in_ok-close-in-Closes.ensures.next)

pub returns-else-branch-clause-next : goal.returns-else-branch-clause-next
returns-else-branch-clause-next g c =
    none_closed c.args.bytes.now c.args.at c.requires.at c.args.self.now.whole
    (opens_of c.args.self.now.brackets.items) (sym c.is_some.ensures ∙ c.if-is_some.false)
    (sym c.kind_of-kind.ensures ∙ c.in-Closes.is) (rw c.if-branch.false at c.in_ok-close-in-Closes.ensures.next)

pub returns-in_default-kind-clause-next : goal.returns-in_default-kind-clause-next
returns-in_default-kind-clause-next g c =
    none_else c.args.bytes.now c.args.at c.requires.at c.args.self.now.whole
    (opens_of c.args.self.now.brackets.items) (sym c.is_some.ensures ∙ c.if-is_some.false)
    (λ e. c.in_default-kind.not-White (c.kind_of-kind.ensures ∙ e))
    (λ e. c.in_default-kind.not-Opens (c.kind_of-kind.ensures ∙ e))
    (λ e. c.in_default-kind.not-Closes (c.kind_of-kind.ensures ∙ e))
    (λ e. c.in_default-kind.not-Quote (c.kind_of-kind.ensures ∙ e))
