use Rattle.std.proofs.Common.{rules, ◌≡◌, ◌<◌, ◌≤◌, ◌+◌, [], Some, reverse, take, drop, refl, ap, arith}
use Rattle.std.proofs.lemmas.List.{drop_all}
use Rattle.tx_commute.specs.Leaving.{total}
use Rattle.tx_history.specs.Lists.{kth_newest}
use Rattle.tx_state.specs.Backward.{tree_before, edits_back}
use Rattle.tx_state.proofs.GoingBack.{walk_starts, walk_applies, walk_less, walk_goes, walk_ends, next_entry, at_place}
use Rattle.tx_state.proofs.GoingBack.{few_taken}
use Rattle.tx_state.proofs.backward.walk_back.Goals as goal

pub loop-k-init : goal.loop-k-init
loop-k-init g c =
    let es = take c.args.count (reverse c.args.history.now.past) in
    record {
      walking = walk_starts c.args.buffer es c.args.tree.now c.in_ok-now.now c.new-edits.result.items c.requires.apply
          c.in_ok-now.ensures c.new-edits.ensures.items;
      counted = omega (arith, ap (λ t. total (edits_back c.args.buffer es t)) c.in_ok-now.ensures);
    }

pub step_back-requires : goal.step_back-requires
step_back-requires g c =
    let past = c.args.history.now.past in
    let es = take c.args.count (reverse past) in
    let e = c.in-Some.entry.now in
    let at : kth_newest (c.loop-k.k + 1) past ≡ Some e = search rules in
    let less : c.loop-k.k < c.args.count = search rules in
    let next = next_entry (reverse past) c.args.count c.loop-k.k e (at_place past c.loop-k.k (c.loop-k.k + 1) e at refl)
    less in
    walk_applies c.args.buffer es c.loop-k.k c.args.tree.now c.loop-k.now c.loop-k.edits.items e
    c.loop-k.invariant.walking next

pub returns-in_err-before-clause-counted : goal.returns-in_err-before-clause-counted
returns-in_err-before-clause-counted g c =
    let past = c.args.history.now.past in
    let es = take c.args.count (reverse past) in
    let e = c.in-Some.entry.now in
    let at : kth_newest (c.loop-k.k + 1) past ≡ Some e = search rules in
    let less : c.loop-k.k < c.args.count = search rules in
    let next = next_entry (reverse past) c.args.count c.loop-k.k e (at_place past c.loop-k.k (c.loop-k.k + 1) e at refl)
    less in
    let before = tree_before c.args.buffer e c.loop-k.now in
    let part = walk_less c.args.buffer es c.loop-k.k c.loop-k.now before e next refl in
    omega (arith, part, c.loop-k.invariant.counted, c.step_back.ensures.counted)

pub returns-in_err-push-clause-counted : goal.returns-in_err-push-clause-counted
returns-in_err-push-clause-counted g c =
    let past = c.args.history.now.past in
    let es = take c.args.count (reverse past) in
    let e = c.in-Some.entry.now in
    let at : kth_newest (c.loop-k.k + 1) past ≡ Some e = search rules in
    let less : c.loop-k.k < c.args.count = search rules in
    let next = next_entry (reverse past) c.args.count c.loop-k.k e (at_place past c.loop-k.k (c.loop-k.k + 1) e at refl)
    less in
    let before = tree_before c.args.buffer e c.loop-k.now in
    let part = walk_less c.args.buffer es c.loop-k.k c.loop-k.now before e next refl in
    omega (arith, part, c.loop-k.invariant.counted, c.step_back.ensures.counted)

pub loop-k-preserved : goal.loop-k-preserved
loop-k-preserved g c =
    let past = c.args.history.now.past in
    let es = take c.args.count (reverse past) in
    let e = c.in-Some.entry.now in
    let at : kth_newest (c.loop-k.k + 1) past ≡ Some e = search rules in
    let less : c.loop-k.k < c.args.count = search rules in
    let next = next_entry (reverse past) c.args.count c.loop-k.k e (at_place past c.loop-k.k (c.loop-k.k + 1) e at refl)
    less in
    let part = walk_less c.args.buffer es c.loop-k.k c.loop-k.now c.in_ok-before.before e next
    c.in_ok-before.ensures.tree in
    record {
      walking = walk_goes c.args.buffer es c.loop-k.k c.args.tree.now c.loop-k.now c.in_ok-before.before
          c.loop-k.edits.items c.push.new.self.items e c.in_ok-before.edit c.loop-k.invariant.walking next
          (record {
            before = c.in_ok-before.ensures.tree;
            edit = c.in_ok-before.ensures.edit;
            leads = c.in_ok-before.ensures.leads;
            sound = c.in_ok-before.ensures.sound;
          }) c.in_ok-push.ensures.items;
      counted = omega (arith, part, c.loop-k.invariant.counted, c.step_back.ensures.counted);
    }

pub returns-clause-backward : goal.returns-clause-backward
returns-clause-backward g c =
    let es = take c.args.count (reverse c.args.history.now.past) in
    let all : c.args.count ≤ c.loop-k.k = search rules in
    let end : drop c.loop-k.k es ≡ [] =
    drop_all c.loop-k.k es (omega (arith, all, few_taken c.args.count (reverse c.args.history.now.past))) in
    let turned : c.reverse.new.self.items ≡ reverse c.loop-k.edits.items = search rules in
    walk_ends c.args.buffer es c.loop-k.k c.args.tree.now c.loop-k.now c.loop-k.edits.items
    (record { tree = c.loop-k.now; edits = c.reverse.new.self }) c.loop-k.invariant.walking end refl turned
