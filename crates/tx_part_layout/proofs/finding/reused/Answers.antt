use Rattle.std.proofs.Common.{◌≡◌, ap, sym, ◌∙◌, length, refl}
use Rattle.std.proofs.lemmas.Option.{slice_get_read}
use Rattle.tx_items.specs.declared.attributes.Attrs.{Attrs}
use Rattle.tx_part_layout.specs.declared.laid.PlacedPart.{PlacedPart}
use Rattle.tx_part_layout.specs.LaidParts.{same_attrs}
use Rattle.tx_part_layout.proofs.Reusing.{reused_is, not_reused}
use Rattle.tx_part_layout.proofs.finding.reused.Goals as goal

pub returns-then-same_attrs : goal.returns-then-same_attrs
returns-then-same_attrs c =
    let old = c.args.old.now in
    let p = c.index-old-i.result in (
      c.in-Some.ensures.0,
      reused_is old c.args.part.now c.args.attrs.now c.in-Some.i p c.in-Some.ensures.1
          (slice_get_read old (length old) c.in-Some.i p refl c.in-Some.ensures.0 c.index-old-i.is)
          c.if-renewed.false
          (ap (λ (a : Attrs). same_attrs a c.args.attrs.now) (sym p.before)
          ∙ ap (λ (q : PlacedPart). same_attrs q.brief.before c.args.attrs.now) c.index-old-i.is
          ∙ sym c.same_attrs.ensures ∙ c.if-same_attrs.true),
    )

pub returns-else-same_attrs : goal.returns-else-same_attrs
returns-else-same_attrs c =
    let old = c.args.old.now in
    let p = c.index-old-i.result in
    not_reused old c.args.part.now c.args.attrs.now c.in-Some.i p c.in-Some.ensures.1
    (slice_get_read old (length old) c.in-Some.i p refl c.in-Some.ensures.0 c.index-old-i.is)
    c.if-renewed.false
    (ap (λ (a : Attrs). same_attrs a c.args.attrs.now) (sym p.before)
    ∙ ap (λ (q : PlacedPart). same_attrs q.brief.before c.args.attrs.now) c.index-old-i.is
    ∙ sym c.same_attrs.ensures ∙ c.if-same_attrs.false)
