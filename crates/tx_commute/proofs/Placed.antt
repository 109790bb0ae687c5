-- What is left of two modifications, by the case that holds.
use Rattle.std.proofs.Common.{◌≡◌, ℕ, Bool, true, false, List, Option, Some, None, Ok, refl, sym, ap, subst, ◌∙◌}
use Rattle.std.specs.Prelude.{if◌then◌else◌, option_map}
use Rattle.std.specs.Str.{bytes_eq}
use Rattle.std.proofs.lemmas.Slice.Eq.{bytes_eq-Decides}
use Rattle.tx_mod.specs.Mods.{path_of}
use Rattle.tx_commute.specs.declared.known.Known.{Known}
use Rattle.tx_commute.specs.Pasts.{or_else}
use Rattle.tx_commute.specs.Knowing.{carried_by, known_at, known_put, KnownPair, past_known, places}

abbrev in_table : Known → Known → Bool → Option (ℕ × ℕ) → Option KnownPair
in_table a b c o = if c then option_map (λ p. (known_put b p.0, known_put a p.1)) o else None

abbrev by_cases : Known → Known → Option (List ℕ) → Option (List ℕ) → Bool → Option (ℕ × ℕ) → Option KnownPair
by_cases a b o o' c p =
    or_else (option_map (λ r. (b, known_at a r)) o) (or_else (option_map (λ r. (known_at b r, a)) o') (in_table a b c p))

abbrev first_way : Known → Known → Option (List ℕ)
first_way a b = carried_by b.does b.undoes (path_of a.does)

abbrev second_way : Known → Known → Option (List ℕ)
second_way a b = carried_by a.undoes a.does (path_of b.does)

pub first_case : (a b : Known) (r : List ℕ) → Some r ≡ first_way a b → past_known a b ≡ Some (b, known_at a r)
first_case a b r e =
    sym (ap (λ o. by_cases a b o (second_way a b) (bytes_eq (path_of a.does) (path_of b.does)) (places a.does b.does)) e)

pub second_case : (a b : Known) (r : List ℕ) → None ≡ first_way a b → Some r ≡ second_way a b
    → past_known a b ≡ Some (known_at b r, a)
second_case a b r e f =
    sym (ap (λ o. by_cases a b o (second_way a b) (bytes_eq (path_of a.does) (path_of b.does)) (places a.does b.does)) e)
    ∙ sym (ap (λ o. by_cases a b None o (bytes_eq (path_of a.does) (path_of b.does)) (places a.does b.does)) f)

last_case : (a b : Known) (c : Bool) (p : Option (ℕ × ℕ)) → None ≡ first_way a b → None ≡ second_way a b
    → bytes_eq (path_of a.does) (path_of b.does) ≡ c → p ≡ places a.does b.does → past_known a b ≡ in_table a b c p
last_case a b c p e f g h =
    sym (ap (λ o. by_cases a b o (second_way a b) (bytes_eq (path_of a.does) (path_of b.does)) (places a.does b.does)) e)
    ∙ sym (ap (λ o. by_cases a b None o (bytes_eq (path_of a.does) (path_of b.does)) (places a.does b.does)) f)
    ∙ ap (λ d. by_cases a b None None d (places a.does b.does)) g
    ∙ sym (ap (in_table a b c) h)

pub other_paths : (a b : Known) → None ≡ first_way a b → None ≡ second_way a b
    → (path_of a.does ≡ path_of b.does → ⊥) → past_known a b ≡ None
other_paths a b e f ne =
    by_bool (bytes_eq (path_of a.does) (path_of b.does)) refl
  where
    by_bool : (c : Bool) → bytes_eq (path_of a.does) (path_of b.does) ≡ c → past_known a b ≡ None
    by_bool true g = absurd (ne ((bytes_eq-Decides (path_of a.does) (path_of b.does)).0 g))
    by_bool false g = last_case a b false (places a.does b.does) e f g refl

pub table_case : (a b : Known) (p : Option (ℕ × ℕ)) → None ≡ first_way a b → None ≡ second_way a b
    → path_of a.does ≡ path_of b.does → p ≡ places a.does b.does
    → past_known a b ≡ option_map (λ q. (known_put b q.0, known_put a q.1)) p
table_case a b p e f same h =
    last_case a b true p e f ((bytes_eq-Decides (path_of a.does) (path_of b.does)).1 same) h

pub ruleset pair_cases = (first_case, second_case, other_paths, table_case)
