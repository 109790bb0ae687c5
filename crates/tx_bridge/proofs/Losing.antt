-- Places that modifications carry nowhere.
use Rattle.std.proofs.Common.{◌≡◌, ◌<◌, ◌+◌, ℕ, List, [], ◌∷◌, ◌++◌, map, take, drop, length, slice_index_or, slice_set}
use Rattle.std.proofs.Common.{Option, None, sym, ap, ◌∙◌, arith}
use Rattle.std.proofs.Math.Seq.{set-append_seam}
use Rattle.std.proofs.lemmas.List.{append_assoc, drop_more, length-map, length-take-le, take_more, map-append}
use Rattle.tx_tree.specs.WideTree.{WideTree}
use Rattle.tx_mod.specs.declared.mods.Mod.{Mod}
use Rattle.tx_bridge.specs.Carrying.{through}

-- None for each place
abbrev pub none_of : List (Option (List ℕ)) → List (Option (List ℕ))
none_of places = map (λ q. None) places

-- so many are lost
abbrev pub AreLost : List Mod → List (Option (List ℕ)) → ℕ → Type 0
AreLost ms places i = (t : WideTree) → map (through ms t) (take i places) ≡ none_of (take i places)

pub lost_more : (ms : List Mod) (places : List (Option (List ℕ))) (i : ℕ) (q : Option (List ℕ)) → AreLost ms places i
    → i < length places → q ≡ slice_index_or places i q → ((t : WideTree) → through ms t q ≡ None)
    → AreLost ms places (i + 1)
lost_more ms places i q h inside is lost t =
    let more = take_more places i q inside in
    ap (map (through ms t)) more ∙ map-append (through ms t) (take i places) (slice_index_or places i q ∷ [])
    ∙ ap (λ xs. xs ++ through ms t (slice_index_or places i q) ∷ []) (h t)
    ∙ ap (λ o. none_of (take i places) ++ o ∷ []) (ap (through ms t) (sym is) ∙ lost t)
    ∙ sym (map-append (λ x. None) (take i places) (slice_index_or places i q ∷ []))
    ∙ ap none_of (sym more)

pub none_more : (places now : List (Option (List ℕ))) (i : ℕ) (d : Option (List ℕ))
    → now ≡ none_of (take i places) ++ drop i places → i < length places
    → slice_set now i None ≡ none_of (take (i + 1) places) ++ drop (i + 1) places
none_more places now i d h inside =
    let many : length (none_of (take i places)) ≡ i =
    length-map (take i places) (λ x. None) ∙ length-take-le i places (omega (arith, inside)) in
    ap (λ xs. slice_set xs i None) (h ∙ ap (λ xs. none_of (take i places) ++ xs) (drop_more places i d inside))
    ∙ ap (λ n. slice_set (none_of (take i places) ++ slice_index_or places i d ∷ drop (i + 1) places) n None)
    (sym many)
    ∙ set-append_seam (none_of (take i places)) (slice_index_or places i d) (drop (i + 1) places) None
    ∙ sym (append_assoc (none_of (take i places)) (None ∷ []) (drop (i + 1) places))
    ∙ ap (λ xs. xs ++ drop (i + 1) places)
    (sym (map-append (λ x. None) (take i places) (slice_index_or places i d ∷ []))
    ∙ ap none_of (sym (take_more places i d inside)))
