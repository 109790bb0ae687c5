use Rattle.std.proofs.Common.{◌≡◌, ◌∙◌, Some, map, sym, ap, option_map}
use Rattle.std.proofs.lemmas.List.{append-nil}
use Rattle.clap.specs.Words.{found_of}
use Rattle.clap.proofs.WalkLemmas.{raw_values-rows}
use Rattle.tx_words.proofs.reading.push_values.Goals as goal

pub returns-in-Some : goal.returns-in-Some
returns-in-Some c =
    let got = c.get_raw.ensures ∙ raw_values-rows (found_of c.args.matches.now) c.args.id.now in
    let there : Some (map (λ v. v.now) c.in-Some.values.now) ≡ _ =
    ap (option_map (λ s. map (λ v. v.now) s.now)) (sym c.in-Some.is) ∙ got in
    rw (← there) c.push_all.ensures

pub returns-in-None : goal.returns-in-None
returns-in-None c =
    let got = c.get_raw.ensures ∙ raw_values-rows (found_of c.args.matches.now) c.args.id.now in
    rw (← got, c.in-None.is) (sym (append-nil _))
