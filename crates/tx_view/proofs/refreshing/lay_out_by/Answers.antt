use Rattle.std.proofs.Common.{◌≡◌, true, Option, sym, subst, refl}
use Rattle.std.proofs.lemmas.Result.{IfOk-weaker}
use Rattle.std.specs.Prelude.{IsSome, IfSome}
use Rattle.tx_view.specs.declared.lone.Lone.{Lone}
use Rattle.tx_view.specs.Lone.{KeepPages}
use Rattle.tx_view.proofs.refreshing.lay_out_by.Goals as goal

pub returns-in-Some-clause-pages : goal.returns-in-Some-clause-pages
returns-in-Some-clause-pages g c =
    let old = c.args.units.now in
    let new = c.lay_out_lone.new.units in
    IfOk-weaker c.lay_out_lone.result (λ p. p.1 ≡ true → KeepPages c.in-Some.lone old new)
    (λ p. p.1 ≡ true → IsSome c.args.lone.now × IfSome c.args.lone.now (λ l. KeepPages l old new))
    (λ p keep yes. subst (λ (o : Option Lone). IsSome o × IfSome o (λ l. KeepPages l old new)) (sym c.in-Some.is)
    (refl, keep yes)) c.lay_out_lone.ensures.pages
