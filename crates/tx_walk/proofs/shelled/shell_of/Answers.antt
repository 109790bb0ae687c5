use Rattle.std.proofs.Common.{sym, ◌∙◌}
use Rattle.std.proofs.lemmas.Result.{IfOk-weaker}
use Rattle.tx_exec.specs.States.{before_of}
use Rattle.tx_walk.proofs.Shelling.{unset_none, other_none, shell_there}
use Rattle.tx_walk.proofs.shelled.shell_of.Goals as goal

pub returns-in_default-get : goal.returns-in_default-get
returns-in_default-get g c =
    sym (unset_none (g.O.Opener.opens c.args.opener.now) c.args.t.now (before_of c.args.env.now) c.in-Some.label.now
    c.in_ok-name.name c.in-Some.ensures (c.in_ok-name.ensures ∙ c.bytes.ensures.bytes) c.in_default-get.ensures)

pub returns-then-not-is_other : goal.returns-then-not-is_other
returns-then-not-is_other g c =
    sym (other_none (g.O.Opener.opens c.args.opener.now) c.args.t.now (before_of c.args.env.now) c.in-Some.label.now
    c.in-Some.ensures (sym c.is_other.ensures ∙ c.if-not-is_other.true))

pub returns : goal.returns
returns g c =
    IfOk-weaker c.shell.result _ _
    (λ s h. h ∙ sym (shell_there (g.O.Opener.opens c.args.opener.now) c.args.t.now (before_of c.args.env.now)
    c.in-Some.label.now c.in_ok-name.name c.in-Some-get.meaning.now c.in-Some.ensures
    (c.in_ok-name.ensures ∙ c.bytes.ensures.bytes) c.in-Some-get.ensures
    (sym c.is_other.ensures ∙ c.if-not-is_other.false)))
    c.shell.ensures
