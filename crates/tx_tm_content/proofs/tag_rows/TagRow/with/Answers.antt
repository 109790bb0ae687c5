use Rattle.std.proofs.Common.{◌++◌, ◌∷◌, [], refl}
use Rattle.tx_tm_content.proofs.Tallying.{counted_more, too_many_tags}
use Rattle.tx_tm_content.proofs.tag_rows.TagRow.with.Goals as goal

pub returns-then-not-is_few : goal.returns-then-not-is_few
returns-then-not-is_few c =
    let few = rw c.if-not-is_few.true at c.is_few.ensures in
    rw (← c.self.view_is)
    (too_many_tags (c.self.inside.entries.items ++ c.args.entry ∷ []) c.with-tally.result
    (counted_more c.self.inside.entries.items c.args.entry c.self.inside.tally c.with-tally.result c.self.invariant
    c.with-tally.ensures) (λ n. let b = few.1 n in absurd cc))

pub invariant_of-result : goal.invariant_of-result
invariant_of-result c =
    let few = rw c.if-not-is_few.false at c.is_few.ensures in
    record {
      counted = rw c.in_ok-push.ensures.items
          (counted_more c.self.inside.entries.items c.args.entry c.self.inside.tally c.with-tally.result
          c.self.invariant c.with-tally.ensures);
      few = few.0 refl;
    }
