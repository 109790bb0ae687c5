-- Where the body is found.
use Rattle.std.proofs.Common.{◌≡◌, ℕ, ◌<◌, true, [], ◌∷◌, length, Option, Some, ap, ◌∙◌}
use Rattle.std.specs.Prelude.{codes, slice_get, option_map, option_and_then, if◌then◌else◌}
use Rattle.std.specs.Option.{option_map_or}
use Rattle.std.specs.List.{position}
use Rattle.std.proofs.lemmas.List.Quantifiers.{position-Some}
use Rattle.tx_tree.specs.WideTree.{WideTree, leaf, children_of}
use Rattle.tx_doc.specs.Bodies.{is_labelled, is_body, first_in, body_of}

-- the number of the `body` is one of a child
pub body_within : (t : WideTree) (i : ℕ) → position is_body (children_of t) ≡ Some i → i < length (children_of t)
body_within t i e = (position-Some is_body (children_of t) i (leaf []) e).0

pub body_found : (t : WideTree) (i : ℕ) → is_labelled (codes "document") t ≡ true
    → position is_body (children_of t) ≡ Some i → body_of t ≡ first_in t i
body_found t i d e =
    ap (λ b. if b then option_map_or (first_in t) (position is_body (children_of t)) (Some []) else Some []) d
    ∙ ap (λ o. option_map_or (first_in t) o (Some [])) e

pub first_found : (t c : WideTree) (i : ℕ) (o : Option WideTree) → slice_get (children_of t) i ≡ Some c
    → slice_get (children_of c) 0 ≡ o → first_in t i ≡ option_map (λ _. i ∷ 0 ∷ []) o
first_found t c i o e h = ap (option_and_then (λ c. option_map (λ _. i ∷ 0 ∷ []) (slice_get (children_of c) 0))) e
    ∙ ap (option_map (λ _. i ∷ 0 ∷ [])) h
