use Rattle.std.proofs.Common.{◌≡◌, ◌∙◌, length, ap, refl, subst, arith}
use Rattle.std.proofs.lemmas.Option.{slice_get_read}
use Rattle.std.proofs.lemmas.Result.{IfOk-weaker}
use Rattle.tx_part_layout.specs.declared.laid.LaidPart.{LaidPart}
use Rattle.tx_part_layout.specs.Laying.{IsNewSlot}
use Rattle.tx_part_layout.proofs.SlotOf.{shown_in, own_is, new_is, none_of, former_is, again_is}
use Rattle.tx_part_layout.proofs.part.again.Goals as goal

pub returns-then-former-clause-slot : goal.returns-then-former-clause-slot
returns-then-former-clause-slot g c = IfOk-weaker c.new_slot.result _ _ (λ s made a r.
    let old = c.args.old.now in
    let d = c.args.part.now in
    let own : LaidPart = c.in_ok-laid.laid in
    let at = slice_get_read old (length old) c.args.i c.index-old-i.result refl c.requires.there c.index-old-i.is in
    let f = former_is c.args.width old d a c.args.i c.index-old-i.result at c.requires.laid c.requires.same r in
    let value = ap (λ (l : LaidPart). l.value) c.deref.ensures ∙ f.value in
    let before = ap (λ (l : LaidPart). l.before) c.deref.ensures ∙ f.before in
    new_is c.args.width old d a c.args.frames.now c.args.above c.args.free s 0 own
    (subst (λ (l : LaidPart). IsNewSlot old d.path c.args.above l s) c.in_ok-new.ensures.ok (made old))
    c.in_ok-laid.ensures.laid (c.in_ok-laid.ensures.value ∙ value) (c.in_ok-laid.ensures.before ∙ before)
    (own_is c.args.frames.now own.paragraphs.items c.deref.result.now.before a c.deref.result.now.value
    d.trace.value c.in_ok-laid.ensures.paragraphs before value)
    (none_of old d a c.args.i _ r) (omega arith)) c.new_slot.ensures

pub returns-then-i-free-clause-slot : goal.returns-then-i-free-clause-slot
returns-then-i-free-clause-slot g c = IfOk-weaker c.new_slot-then-i-free.result _ _ (λ s made a r.
    let old = c.args.old.now in
    let d = c.args.part.now in
    let own : LaidPart = c.index-old-i.result.laid.value in
    let at = slice_get_read old (length old) c.args.i c.index-old-i.result refl c.requires.there c.index-old-i.is in
    let f = former_is c.args.width old d a c.args.i c.index-old-i.result at c.requires.laid c.requires.same r in
    new_is c.args.width old d a c.args.frames.now c.args.above c.args.free s 0 own
    (subst (λ (l : LaidPart). IsNewSlot old d.path c.args.above l s) c.in_ok-clone.ensures.cases (made old))
    f.laid f.value f.before
    (own_is c.args.frames.now own.paragraphs.items own.before a own.value d.trace.value
    (subst (λ (l : LaidPart). l.paragraphs.items ≡ shown_in c.args.frames.now l.before l.value) c.deref-2.ensures
    c.unblank_law.ensures) f.before f.value)
    (none_of old d a c.args.i _ r) (omega arith)) c.new_slot-then-i-free.ensures

pub returns-clause-slot : goal.returns-clause-slot
returns-clause-slot g c = λ a r.
    let old = c.args.old.now in
    let at = slice_get_read old (length old) c.args.i c.index-old-i.result refl c.requires.there c.index-old-i.is in
    again_is c.args.width old c.args.part.now a c.args.frames.now c.args.above c.args.free c.args.i
    c.index-old-i.result at c.requires.there c.if-i-free.false r
    (former_is c.args.width old c.args.part.now a c.args.i c.index-old-i.result at c.requires.laid c.requires.same r)
    (subst (λ (l : LaidPart). l.paragraphs.items ≡ shown_in c.args.frames.now l.before l.value) c.deref-2.ensures
    c.unblank_law.ensures)
