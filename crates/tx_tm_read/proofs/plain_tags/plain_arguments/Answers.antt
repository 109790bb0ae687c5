use Rattle.std.proofs.Common.{◌+◌, ◌-◌, [], ◌∷◌, ◌++◌, take, drop, sym, ap, refl, subst, ◌∙◌, arith}
use Rattle.tx_tm_read.specs.PlainTags.{AreArguments, no_argument}
use Rattle.tx_tm_read.proofs.PlainTagging.{word_there, one_argument_more, all_arguments}
use Rattle.tx_tm_read.proofs.Running.{words_text}
use Rattle.tx_tm_read.proofs.plain_tags.plain_arguments.Goals as goal

pub loop-at-init : goal.loop-at-init
loop-at-init c =
    record { within = omega arith; are = subst (AreArguments []) (sym c.new-children.ensures.items) no_argument }

pub make_leaf-requires-clause-text : goal.make_leaf-requires-clause-text
make_leaf-requires-clause-text c =
    words_text (take (c.loop-at.at + c.words_len-count.result - c.loop-at.at) (drop c.loop-at.at c.args.bytes.now))
    (word_there c.args.bytes.now c.loop-at.at c.words_len-count.result
    (c.words_len-count.ensures.words (omega (arith, c.if-count-eq0.false))))

pub returns-then-bytes-end-eq62 : goal.returns-then-bytes-end-eq62
returns-then-bytes-end-eq62 c =
    all_arguments c.args.bytes.now c.loop-at.at c.words_len-count.result _ c.loop-at.children.items _
    c.loop-at.invariant.are (c.words_len-count.ensures.words (omega (arith, c.if-count-eq0.false))) refl (omega arith)
    c.if-bytes-end-eq62.true
    (c.shrink_to_fit.ensures.items ∙ c.in_ok-push.ensures.items
    ∙ ap (λ ts. ts ++ c.in_ok-make_leaf.field-0 ∷ []) c.make_room.ensures
    ∙ ap (λ t. c.loop-at.children.items ++ t ∷ []) c.in_ok-make_leaf.ensures)

pub loop-at-preserved : goal.loop-at-preserved
loop-at-preserved c =
    record {
      within = omega arith;
      are = one_argument_more c.args.bytes.now c.loop-at.at c.words_len-count.result _ c.loop-at.children.items _
          c.loop-at.invariant.are (c.words_len-count.ensures.words (omega (arith, c.if-count-eq0.false))) refl
          (omega arith) c.if-bytes-end-ne124.false
          (c.in_ok-push.ensures.items ∙ ap (λ ts. ts ++ c.in_ok-make_leaf.field-0 ∷ []) c.make_room.ensures
          ∙ ap (λ t. c.loop-at.children.items ++ t ∷ []) c.in_ok-make_leaf.ensures);
    }
