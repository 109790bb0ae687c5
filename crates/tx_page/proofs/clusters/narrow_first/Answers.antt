use Rattle.std.proofs.Common.{◌≡◌, sym, ap, ◌∙◌}
use Rattle.std.specs.Prelude.{chars, slice_get}
use Rattle.std.specs.Str.{is_utf8}
use Rattle.std.proofs.lemmas.Bool.{false_from_ne_true}
use Rattle.std.proofs.lemmas.Str.{IsUtf8-from_is_utf8, is_utf8-from_IsUtf8}
use Rattle.tx_page.specs.Clusters.{if_narrow}
use Rattle.tx_page.proofs.Firsts.{narrow_in, narrow_none}
use Rattle.tx_page.proofs.clusters.narrow_first.Goals as goal

pub returns-in-Ok-clause-first : goal.returns-in-Ok-clause-first
returns-in-Ok-clause-first c =
    let bytes = c.args.bytes.now in
    let text : c.chars.result.rest.now ≡ bytes = c.chars.ensures.rest ∙ c.in-Ok.ensures.cases.0 in
    c.if_narrow.ensures.same
    ∙ ap if_narrow (c.next.ensures.steps.2 ∙ ap (λ t. slice_get (chars t) 0) text)
    ∙ sym (narrow_in bytes (is_utf8-from_IsUtf8 bytes c.in-Ok.ensures.cases.1))

pub returns-in-Err-clause-first : goal.returns-in-Err-clause-first
returns-in-Err-clause-first c =
    let bytes = c.args.bytes.now in
    sym (narrow_none bytes
    (false_from_ne_true (is_utf8 bytes) (λ e. c.in-Err.ensures.cases.0 (IsUtf8-from_is_utf8 bytes e))))
