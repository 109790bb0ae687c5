use Rattle.std.proofs.Common.{◌≡◌, ℕ, ◌==◌, take, Bool, true, false, cond, Some, None, refl, sym, ◌∙◌, ap, rules, tests}
use borrow.Author.Tests.{ltb-false}
use Rattle.std.proofs.lemmas.Iterator.{YieldsList-from_slice}
use Rattle.std.proofs.lemmas.Iterator.Search.{position_from_yields_List}
use Rattle.std.proofs.lemmas.List.{take_all}
use Rattle.tx_cmd.proofs.pieces.first_word.Goals as goal

-- the place that a search found, and what it says where it found none
found_at : (b : Bool) (n k : ℕ) → Some k ≡ cond b (Some n) None → k ≡ n
found_at true n k e = cc
found_at false n k e = cc

found_none : (b : Bool) (n : ℕ) → None ≡ cond b (Some n) None → b ≡ false
found_none true n e = cc
found_none false n e = refl

pub returns-in-Some : goal.returns-in-Some
returns-in-Some c =
    let found = position_from_yields_List (λ b. b == 32) _ _ c.position.result c.position.ensures.ran
    (YieldsList-from_slice c.args.bytes.now cc) (λ x b q k. search (rules, tests)) in
    ap (λ n. take n c.args.bytes.now) (found_at _ _ _ (sym c.in-Some.is ∙ found))

pub returns-in-None : goal.returns-in-None
returns-in-None c =
    let found = position_from_yields_List (λ b. b == 32) _ _ c.position.result c.position.ensures.ran
    (YieldsList-from_slice c.args.bytes.now cc) (λ x b q k. search (rules, tests)) in
    sym (take_all _ _ (ltb-false _ _ (found_none _ _ (sym c.in-None.is ∙ found))))
