use Rattle.std.proofs.Common.{◌∙◌, refl, sym, arith}
use Rattle.tx_scm.proofs.Tokens.{escape_ends, no_escape, escape_refused, escape_taken}
use Rattle.tx_scm.proofs.strings.escaped_byte.Goals as goal

pub returns-then-at-bytes : goal.returns-then-at-bytes
returns-then-at-bytes c =
    record {
      next = λ opens.
          escape_ends c.args.bytes.now c.args.text.now opens c.args.at c.requires.at c.requires.backslash (omega arith);
    }

pub returns-then-not-is_escapable : goal.returns-then-not-is_escapable
returns-then-not-is_escapable c =
    let other = rw c.if-not-is_escapable.true at c.is_escapable.ensures.no in
    record {
      next = λ opens.
          no_escape c.args.bytes.now c.args.text.now opens c.args.at c.requires.at c.requires.backslash _ (omega arith)
          refl other.0 other.1;
    }

pub returns-then-not-branch : goal.returns-then-not-branch
returns-then-not-branch c =
    record {
      next = λ opens.
          escape_refused c.args.bytes.now c.args.text.now opens c.args.at c.requires.at c.requires.backslash _
          (omega arith) refl (rw c.if-not-is_escapable.false at c.is_escapable.ensures.yes)
          (sym c.in_ok-push.ensures.taken ∙ c.if-not-branch.true);
    }

pub returns : goal.returns
returns c =
    let more = rw c.if-not-branch.false at c.in_ok-push.ensures.after in
    record {
      next = λ opens.
          rw more
          (escape_taken c.args.bytes.now c.args.text.now opens c.args.at c.requires.at c.requires.backslash _
          (omega arith) refl (rw c.if-not-is_escapable.false at c.is_escapable.ensures.yes)
          (sym c.in_ok-push.ensures.taken ∙ c.if-not-branch.false));
    }
