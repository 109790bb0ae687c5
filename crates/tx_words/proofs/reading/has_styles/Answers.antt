use Rattle.std.proofs.Common.{◌≡◌, ◌∙◌, ℕ, List, [], Option, Some, codes, map, sym, ap, option_map, unwrap_or}
use Rattle.clap.specs.Words.{found_of}
use Rattle.clap.proofs.WalkLemmas.{raw_values-rows}
use Rattle.tx_words.proofs.Cutting.{some_styles, without_styles}
use Rattle.tx_words.proofs.reading.has_styles.Goals as goal

abbrev or_none : Option (List (List ℕ)) → List (List ℕ)
or_none o = unwrap_or o []

pub returns-in-Some-clause-some : goal.returns-in-Some-clause-some
returns-in-Some-clause-some c =
    let got = c.get_raw.ensures ∙ raw_values-rows (found_of c.args.matches.now) (codes "STYLE") in
    let there : Some (map (λ v. v.now) c.in-Some.values.now) ≡ _ =
    ap (option_map (λ s. map (λ v. v.now) s.now)) (sym c.in-Some.is) ∙ got in
    some_styles c.in-Some.values.now _ c.is_empty.result (ap or_none (sym there)) c.is_empty.ensures

pub returns-in-Some-clause-none : goal.returns-in-Some-clause-none
returns-in-Some-clause-none c =
    let got = c.get_raw.ensures ∙ raw_values-rows (found_of c.args.matches.now) (codes "STYLE") in
    let there : Some (map (λ v. v.now) c.in-Some.values.now) ≡ _ =
    ap (option_map (λ s. map (λ v. v.now) s.now)) (sym c.in-Some.is) ∙ got in
    without_styles c.in-Some.values.now _ c.is_empty.result (ap or_none (sym there)) c.is_empty.ensures

pub returns-in-None-clause-none : goal.returns-in-None-clause-none
returns-in-None-clause-none c =
    let got = c.get_raw.ensures ∙ raw_values-rows (found_of c.args.matches.now) (codes "STYLE") in
    λ e. ap or_none (sym got) ∙ ap (λ o. or_none (option_map (λ s. map (λ v. v.now) s.now) o)) c.in-None.is
