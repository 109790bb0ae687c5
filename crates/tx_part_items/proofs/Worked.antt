-- Worked rows: what the parts of a tree show, each by itself.
use Rattle.std.proofs.Common.{◌≡◌, ℕ, List, [], ◌∷◌, map, length, refl}
use Rattle.std.specs.Prelude.{codes}
use Rattle.tx_tree.specs.WideTree.{WideTree, leaf, node, forest}
use Rattle.tx_exec_form.specs.Runs.{Before, pay, need}
use Rattle.tx_exec_form.specs.Rows.{ex, row, node_run, leaf_run, rebuilt, assigned, stored as stored_text}
use Rattle.tx_exec_form.specs.Evaluated.{evaluated_in}
use Rattle.tx_parts.specs.Parts.{parts, stored_part, parts_by}
use Rattle.tx_items.specs.Attributes.{initial, attribute_named}
use Rattle.tx_items.specs.Rules.{rule_of}
use Rattle.tx_items.specs.Shows.{show}
use Rattle.tx_part_items.specs.ShownParts.{PartsShown, parts_shown, tree_shown, paragraphs_by_parts}

abbrev tag : List ℕ → List WideTree → WideTree
tag label ts = node label (forest ts)

abbrev shown : WideTree → Before → PartsShown
shown t e = tree_shown 9 initial (map stored_part (parts 9 100 [] t e)) t

-- the path of each part, and the colour before it and at its end
abbrev colors : PartsShown → List (List ℕ × List ℕ × List ℕ)
colors s = map {B = List ℕ × List ℕ × List ℕ} (λ p. (p.path, p.before.color, p.end.color)) s.each

abbrev modes : PartsShown → List (List ℕ × List ℕ × List ℕ)
modes s = map {B = List ℕ × List ℕ × List ℕ} (λ p. (p.path, p.before.mode, p.end.mode)) s.each

-- how many items each paragraph has, and its mode
abbrev counts : PartsShown → List (ℕ × List ℕ)
counts s = map {B = ℕ × List ℕ} (λ p. (length p.items, p.mode)) (paragraphs_by_parts s)

-- (document "ab" "c")
two_texts : (e : Before) → colors (shown (tag (codes "document") (leaf (codes "ab") ∷ leaf (codes "c") ∷ [])) e) ≡
    ((0 ∷ []), codes "black", codes "black") ∷ ((1 ∷ []), codes "black", codes "black") ∷ []
unfolding parts_shown show parts_by evaluated_in ex leaf_run pay need
two_texts e = refl

-- (with "color" "red" (document "ab" "")): within the inner document it is red
in_red : WideTree
in_red = tag (codes "with") (leaf (codes "color") ∷ leaf (codes "red") ∷
    tag (codes "document") (leaf (codes "ab") ∷ leaf [] ∷ []) ∷ [])

red_texts : (e : Before) → colors (shown in_red e) ≡
    ((2 ∷ 0 ∷ []), codes "red", codes "red") ∷ ((2 ∷ 1 ∷ []), codes "red", codes "red") ∷ []
unfolding in_red parts_shown show parts_by evaluated_in ex leaf_run pay need attribute_named
red_texts e = refl

-- after it, it is black again
black_behind : (e : Before) → (shown in_red e).after.color ≡ codes "black"
unfolding in_red parts_shown show parts_by evaluated_in ex leaf_run pay need attribute_named
black_behind e = refl

-- (document (with "par-mode" "center" "")): the empty paragraph has the outer mode
centered : WideTree
centered = tag (codes "document")
    (tag (codes "with") (leaf (codes "par-mode") ∷ leaf (codes "center") ∷ leaf [] ∷ []) ∷ [])

outer_mode : (e : Before) → modes (shown centered e) ≡ ((0 ∷ 2 ∷ []), codes "center", codes "left") ∷ []
unfolding centered parts_shown show parts_by evaluated_in ex leaf_run pay need attribute_named
outer_mode e = refl

-- (document (document)): no part has a paragraph, and the whole is an empty one
empty_whole : (e : Before) → counts (shown (tag (codes "document") (tag (codes "document") [] ∷ [])) e) ≡
    (0, codes "left") ∷ []
unfolding parts_shown show rule_of parts_by evaluated_in ex node_run row rebuilt pay need
empty_whole e = refl

-- (document (assign "par-mode" "center")): one empty paragraph, with the mode after the part
assigned_mode : (e : Before) → counts (shown (tag (codes "document")
    (tag (codes "assign") (leaf (codes "par-mode") ∷ leaf (codes "center") ∷ []) ∷ [])) e) ≡
    (0, codes "center") ∷ []
unfolding parts_shown show rule_of parts_by evaluated_in ex node_run leaf_run row assigned stored_text pay need
    attribute_named
assigned_mode e = refl

-- (with "par-mode" "center" (next-line)): one paragraph with the mode at its item
broken : (e : Before) → counts (shown (tag (codes "with")
    (leaf (codes "par-mode") ∷ leaf (codes "center") ∷ tag (codes "next-line") [] ∷ [])) e) ≡
    (1, codes "center") ∷ []
unfolding parts_shown show rule_of parts_by evaluated_in ex node_run row rebuilt pay need attribute_named
broken e = refl

-- (with "par-mode" "center" (concat)): a unit in a line, without an item, has the mode after the `with`
behind_with : (e : Before) → counts (shown (tag (codes "with")
    (leaf (codes "par-mode") ∷ leaf (codes "center") ∷ tag (codes "concat") [] ∷ [])) e) ≡
    (0, codes "left") ∷ []
unfolding parts_shown show rule_of parts_by evaluated_in ex node_run row rebuilt pay need attribute_named
behind_with e = refl

-- (document (with "par-mode" "center" (with "par-mode" "right" ""))): the outer `with` gives back last
twice_set : WideTree
twice_set = tag (codes "document") (tag (codes "with") (leaf (codes "par-mode") ∷ leaf (codes "center") ∷
    tag (codes "with") (leaf (codes "par-mode") ∷ leaf (codes "right") ∷ leaf [] ∷ []) ∷ []) ∷ [])

last_given_back : (e : Before) → modes (shown twice_set e) ≡
    ((0 ∷ 2 ∷ 2 ∷ []), codes "right", codes "left") ∷ []
unfolding twice_set parts_shown show parts_by evaluated_in ex leaf_run pay need attribute_named
last_given_back e = refl

-- (document (assign "color" "red") ""): what a part sets is set before those after it
assigned_color : (e : Before) → colors (shown (tag (codes "document")
    (tag (codes "assign") (leaf (codes "color") ∷ leaf (codes "red") ∷ []) ∷ leaf [] ∷ [])) e) ≡
    ((0 ∷ []), codes "black", codes "red") ∷ ((1 ∷ []), codes "red", codes "red") ∷ []
unfolding parts_shown show rule_of parts_by evaluated_in ex node_run leaf_run row assigned stored_text pay need
    attribute_named
assigned_color e = refl
