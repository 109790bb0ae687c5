-- One modification past many, one after the other.
use Rattle.std.proofs.Common.{◌≡◌, List, [], ◌∷◌, ◌++◌, Option, Some, None, refl, sym, ap, ◌∙◌, append_assoc}
use Rattle.std.specs.Prelude.{option_map, option_and_then}
use Rattle.std.proofs.lemmas.List.{append-nil}
use Rattle.tx_commute.specs.declared.known.Known.{Known}
use Rattle.tx_commute.specs.Knowing.{KnownPair, past_known}
use Rattle.tx_commute.specs.Leaving.{KnownPast, past_all_known, put_known}

abbrev pub put_all : List Known → KnownPast → KnownPast
put_all xs r = (r.0, xs ++ r.1)

starts : (o : Option KnownPast) → o ≡ option_map (put_all []) o
starts None = refl
starts (Some r) = refl

pub all_starts : (ks : List Known) (b : Known) → past_all_known ks b ≡ option_map (put_all []) (past_all_known ks b)
all_starts ks b = starts (past_all_known ks b)

one_more : (xs : List Known) (k : Known) (o : Option KnownPast)
    → option_map (put_all xs) (option_map (put_known k) o) ≡ option_map (put_all (xs ++ k ∷ [])) o
one_more xs k None = refl
one_more xs k (Some r) = ap (λ z. Some (r.0, z)) (sym (append_assoc xs (k ∷ []) r.1))

pub all_next : (whole : Option KnownPast) (xs ks : List Known) (a now later earlier : Known)
    → whole ≡ option_map (put_all xs) (past_all_known (a ∷ ks) now) → Some (later, earlier) ≡ past_known a now
    → whole ≡ option_map (put_all (xs ++ earlier ∷ [])) (past_all_known ks later)
all_next whole xs ks a now later earlier e f =
    e
    ∙ ap (λ o. option_map (put_all xs) (option_and_then (λ p. option_map (put_known p.1) (past_all_known ks p.0)) o)) (sym f)
    ∙ one_more xs earlier (past_all_known ks later)

pub all_stops : (whole : Option KnownPast) (xs ks : List Known) (a now : Known)
    → whole ≡ option_map (put_all xs) (past_all_known (a ∷ ks) now) → None ≡ past_known a now → whole ≡ None
all_stops whole xs ks a now e f =
    e ∙ ap (λ o. option_map (put_all xs) (option_and_then (λ p. option_map (put_known p.1) (past_all_known ks p.0)) o)) (sym f)

pub all_ends : (whole : Option KnownPast) (xs : List Known) (now : Known)
    → whole ≡ option_map (put_all xs) (past_all_known [] now) → whole ≡ Some (now, xs)
all_ends whole xs now e = e ∙ ap (λ z. Some (now, z)) (append-nil xs)
