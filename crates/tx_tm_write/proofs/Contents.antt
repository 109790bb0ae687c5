-- The parts of content give back its tree.
use Rattle.std.proofs.Common.{◌≡◌, ℕ, Bool, true, false, ◌==◌, ◌&&◌, ◌||◌, not, if◌then◌else◌, List, [], ◌∷◌, ◌++◌}
use Rattle.std.proofs.Common.{refl, sym, ap, subst, ◌∙◌, append_assoc}
use Rattle.std.specs.List.{flat_map}
use Rattle.std.proofs.lemmas.List.{append-nil}
use Rattle.std.proofs.lemmas.Bool.{eqb-true, and_from, and_parts}
use Rattle.tx_tree.specs.Texts.{Item, byte, symbol, item_bytes}
use Rattle.tx_tree.specs.Limits.{IsWellFormed, AreWellFormed}
use Rattle.tx_tree.specs.WideTree.{WideTree, Forest, leaf, node, nil, cons, trees}
use Rattle.tx_tree.proofs.Children.{forest_trees}
use Rattle.tx_tm_form.specs.declared.bytes.White.TheVariants.{Spaces, Line, Break}
use Rattle.tx_tm_form.specs.Parts.{ContentPart, gap, text, tag, leaf_before, texts_and_tags, concat_of, content}
use Rattle.tx_tm_form.specs.Parts.{same_bytes}
use Rattle.tx_tm_form.specs.Parts.{concat_label}
use Rattle.tx_tm_form.specs.Forms.{symbol_bytes}
use Rattle.tx_tm_form.proofs.Sound.{same_is}
use Rattle.tx_tm_write.specs.Shapes.{some, is_empty, are_apart, has_two, stays_inline}
use Rattle.tx_tm_write.specs.Canonical.{is_held}
use Rattle.tx_tm_write.proofs.TextItems.{byte_part, item_parts}

-- ---- the parts of content

-- the parts of a text or a tag beside others
abbrev pub parts_in : Bool → Bool → (t : WideTree) → IsWellFormed t → List ContentPart
parts_in before behind (leaf s) h = item_parts before behind h.0
parts_in before behind (node label ts) h = tag false (node label ts) ∷ []

abbrev pub parts_side : Bool → (ts : Forest) → AreWellFormed ts → List ContentPart
parts_side before nil h = []
parts_side before (cons t ts) h = parts_in before (some ts) t h.0 ++ parts_side true ts h.1

abbrev pub content_parts : (t : WideTree) → IsWellFormed t → List ContentPart
content_parts (leaf s) h = item_parts false false h.0
content_parts (node label ts) h =
    if stays_inline label ts then parts_side false ts h.1 else tag false (node label ts) ∷ []

-- a paragraph is not empty
abbrev pub paragraph_parts : (t : WideTree) → IsWellFormed t → List ContentPart
paragraph_parts t h = if is_empty t then text [] ∷ [] else content_parts t h

-- ---- white is held

-- Each gap is of spaces and is between two parts that are none. The test says whether there is such a part before.
abbrev pub is_tight : Bool → List ContentPart → Bool
is_tight held [] = held
is_tight held (gap Spaces ∷ ps) = held && is_tight false ps
is_tight held (gap w ∷ ps) = false
is_tight held (text x ∷ ps) = is_tight true ps
is_tight held (tag c t ∷ ps) = is_tight true ps

-- some part that is no gap is before items, in them, or after them
abbrev is_ready : Bool → Bool → List Item → Bool
is_ready true behind items = true
is_ready false behind [] = behind
is_ready false behind (i ∷ items) = true

held_ready : (behind : Bool) (items : List Item) → is_held behind (flat_map item_bytes items) ≡ true
    → is_ready false behind items ≡ true
held_ready behind [] h = h
held_ready behind (i ∷ items) h = refl

not_before : (s : Bool) → s ≡ true → not s ≡ true → false ≡ true
not_before true e k = k
not_before false e k = e

byte_tight : (s before next held : Bool) (b : ℕ) (qs : List ContentPart) → (before ≡ true → held ≡ true)
    → (s ≡ true → next ≡ true → is_tight false qs ≡ true) → is_tight true qs ≡ true
    → is_tight held ((if s && (before && next) then gap Spaces else text (b ∷ [])) ∷ qs) ≡ true
byte_tight true true true held b qs i f t = and_from held (is_tight false qs) (i refl) (f refl refl)
byte_tight true true false held b qs i f t = t
byte_tight true false next held b qs i f t = t
byte_tight false before next held b qs i f t = t

pub items_tight : (before behind held : Bool) (items : List Item) (rest : List ContentPart)
    → (before ≡ true → held ≡ true)
    → is_ready held behind items ≡ true
    → is_tight true rest ≡ true → (behind ≡ true → is_tight false rest ≡ true)
    → is_tight held (item_parts before behind items ++ rest) ≡ true
items_tight before behind true [] rest i r t f = t
items_tight before behind false [] rest i r t f = f r
items_tight before behind held (byte b ∷ items) rest i r t f =
    byte_tight (b == 32) before (is_held behind (flat_map item_bytes items)) held b
    (item_parts (not (b == 32)) behind items ++ rest) i
    (λ e k. items_tight (not (b == 32)) behind false items rest (not_before (b == 32) e) (held_ready behind items k) t
    f)
    (items_tight (not (b == 32)) behind true items rest (λ k. refl) refl t f)
items_tight before behind held (symbol name ∷ items) rest i r t f =
    items_tight true behind true items rest (λ k. refl) refl t f

item_ready : (held behind : Bool) (items : List Item) (b : ℕ) (s : List ℕ) → b ∷ s ≡ flat_map item_bytes items
    → is_ready held behind items ≡ true
item_ready true behind items b s e = refl
item_ready false behind [] b s e = absurd cc
item_ready false behind (i ∷ items) b s e = refl

-- the three places of children that are apart: after a tag, after a text, and at the front
mutual
  tight_behind_tag : (ts : Forest) (h : AreWellFormed ts) → are_apart false ts ≡ true
      → is_tight true (parts_side true ts h) ≡ true
  tight_behind_tag nil h e = refl
  tight_behind_tag (cons (leaf s) ts) h e =
      let p = and_parts (not (is_empty (leaf s) || false)) (are_apart true ts) e in
      items_tight true (some ts) true h.0.0 (parts_side true ts h.1) (λ k. refl) refl (tight_behind_text ts h.1 p.1)
      (λ k. tight_behind_gap ts h.1 k p.1)
  tight_behind_tag (cons (node l us) ts) h e = tight_behind_tag ts h.1 e

  tight_behind_text : (ts : Forest) (h : AreWellFormed ts) → are_apart true ts ≡ true
      → is_tight true (parts_side true ts h) ≡ true
  tight_behind_text nil h e = refl
  tight_behind_text (cons (leaf []) ts) h e = absurd cc
  tight_behind_text (cons (leaf (b ∷ s)) ts) h e = absurd cc
  tight_behind_text (cons (node l us) ts) h e = tight_behind_tag ts h.1 e

  tight_behind_gap : (ts : Forest) (h : AreWellFormed ts) → some ts ≡ true → are_apart true ts ≡ true
      → is_tight false (parts_side true ts h) ≡ true
  tight_behind_gap nil h k e = absurd cc
  tight_behind_gap (cons (leaf []) ts) h k e = absurd cc
  tight_behind_gap (cons (leaf (b ∷ s)) ts) h k e = absurd cc
  tight_behind_gap (cons (node l us) ts) h k e = tight_behind_tag ts h.1 e

side_tight : (ts : Forest) (h : AreWellFormed ts) → some ts ≡ true → are_apart false ts ≡ true
    → is_tight false (parts_side false ts h) ≡ true
side_tight nil h k e = absurd cc
side_tight (cons (leaf []) ts) h k e = absurd cc
side_tight (cons (leaf (b ∷ s)) ts) h k e =
    items_tight false (some ts) false h.0.0 (parts_side true ts h.1) (λ z. absurd cc)
    (item_ready false (some ts) h.0.0 b s h.0.2) (tight_behind_text ts h.1 e) (λ z. tight_behind_gap ts h.1 z e)
side_tight (cons (node l us) ts) h k e = tight_behind_tag ts h.1 e

-- ---- back to the texts and tags

-- each gap is one space where no two of them are side by side
abbrev pub singly : List ℕ → List ContentPart → List WideTree
singly bytes [] = leaf_before bytes []
singly bytes (gap w ∷ ps) = singly (bytes ++ 32 ∷ []) ps
singly bytes (text x ∷ ps) = singly (bytes ++ x) ps
singly bytes (tag c t ∷ ps) = leaf_before bytes (t ∷ singly [] ps)

tight_singly : (ps : List ContentPart) (in_run held : Bool) (bytes : List ℕ) → is_tight held ps ≡ true
    → (in_run && held) ≡ false → texts_and_tags in_run bytes ps ≡ singly bytes ps
tight_singly [] in_run held bytes h k = refl
tight_singly (gap Spaces ∷ ps) true true bytes h k = absurd cc
tight_singly (gap Spaces ∷ ps) true false bytes h k = absurd cc
tight_singly (gap Spaces ∷ ps) false true bytes h k = tight_singly ps true false (bytes ++ 32 ∷ []) h refl
tight_singly (gap Spaces ∷ ps) false false bytes h k = absurd cc
tight_singly (gap Line ∷ ps) in_run held bytes h k = absurd cc
tight_singly (gap Break ∷ ps) in_run held bytes h k = absurd cc
tight_singly (text x ∷ ps) in_run held bytes h k = tight_singly ps false true (bytes ++ x) h refl
tight_singly (tag c t ∷ ps) in_run held bytes h k =
    ap (λ z. leaf_before bytes (t ∷ z)) (tight_singly ps false true [] h refl)

byte_singly : (s raw : Bool) (b : ℕ) (bytes : List ℕ) (qs : List ContentPart) → (b == 32) ≡ s
    → singly bytes ((if s && raw then gap Spaces else text (b ∷ [])) ∷ qs) ≡ singly (bytes ++ b ∷ []) qs
byte_singly true true b bytes qs e = ap (λ z. singly (bytes ++ z ∷ []) qs) (sym (eqb-true b 32 e))
byte_singly true false b bytes qs e = refl
byte_singly false raw b bytes qs e = refl

items_singly : (before behind : Bool) (items : List Item) (bytes : List ℕ) (rest : List ContentPart)
    → singly bytes (item_parts before behind items ++ rest) ≡ singly (bytes ++ flat_map item_bytes items) rest
items_singly before behind [] bytes rest = ap (λ z. singly z rest) (sym (append-nil bytes))
items_singly before behind (byte b ∷ items) bytes rest =
    byte_singly (b == 32) (before && is_held behind (flat_map item_bytes items)) b bytes
    (item_parts (not (b == 32)) behind items ++ rest) refl
    ∙ items_singly (not (b == 32)) behind items (bytes ++ b ∷ []) rest
    ∙ ap (λ z. singly z rest) (append_assoc bytes (b ∷ []) (flat_map item_bytes items))
items_singly before behind (symbol name ∷ items) bytes rest =
    items_singly true behind items (bytes ++ symbol_bytes name) rest
    ∙ ap (λ z. singly z rest) (append_assoc bytes (symbol_bytes name) (flat_map item_bytes items))

-- children that are apart are given back, after no text and after a text
mutual
  side_singly : (ts : Forest) (before : Bool) (h : AreWellFormed ts) → are_apart false ts ≡ true
      → singly [] (parts_side before ts h) ≡ trees ts
  side_singly nil before h e = refl
  side_singly (cons (leaf []) ts) before h e = absurd cc
  side_singly (cons (leaf (b ∷ s)) ts) before h e =
      items_singly before (some ts) h.0.0 [] (parts_side true ts h.1)
      ∙ ap (λ z. singly z (parts_side true ts h.1)) (sym h.0.2) ∙ text_singly ts b s h.1 e
  side_singly (cons (node l us) ts) before h e = ap (λ z. node l us ∷ z) (side_singly ts true h.1 e)

  text_singly : (ts : Forest) (b : ℕ) (s : List ℕ) (h : AreWellFormed ts) → are_apart true ts ≡ true
      → singly (b ∷ s) (parts_side true ts h) ≡ leaf (b ∷ s) ∷ trees ts
  text_singly nil b s h e = refl
  text_singly (cons (leaf []) ts) b s h e = absurd cc
  text_singly (cons (leaf (c ∷ r)) ts) b s h e = absurd cc
  text_singly (cons (node l us) ts) b s h e = ap (λ z. leaf (b ∷ s) ∷ node l us ∷ z) (side_singly ts true h.1 e)

-- ---- back to the tree

one_leaf : (s : List ℕ) → concat_of (leaf_before s []) ≡ leaf s
one_leaf [] = refl
one_leaf (b ∷ s) = refl

leaf_back : (items : List Item) (s : List ℕ) → s ≡ flat_map item_bytes items
    → concat_of (texts_and_tags false [] (item_parts false false items)) ≡ leaf s
leaf_back [] s e = ap leaf (sym e)
leaf_back (i ∷ items) s e =
    let tight = subst (λ z. is_tight false z ≡ true) (append-nil (item_parts false false (i ∷ items)))
    (items_tight false false false (i ∷ items) [] (λ k. k) refl refl (λ k. k)) in
    ap concat_of (tight_singly (item_parts false false (i ∷ items)) false false [] tight refl)
    ∙ ap (λ z. concat_of (singly [] z)) (sym (append-nil (item_parts false false (i ∷ items))))
    ∙ ap concat_of (items_singly false false (i ∷ items) [] [])
    ∙ ap (λ z. concat_of (leaf_before z [])) (sym e)
    ∙ one_leaf s

many_back : (label : List ℕ) (ts : Forest) → same_bytes label concat_label ≡ true → has_two ts ≡ true
    → concat_of (trees ts) ≡ node label ts
many_back label nil e k = absurd cc
many_back label (cons t nil) e k = absurd cc
many_back label (cons t (cons u ts)) e k = ap (λ z. node concat_label (cons t (cons u z))) (forest_trees ts)
    ∙ ap (λ l. node l (cons t (cons u ts))) (sym (same_is label concat_label e))

two_some : (ts : Forest) → has_two ts ≡ true → some ts ≡ true
two_some nil e = absurd cc
two_some (cons t ts) e = refl

-- what it takes to be inline
inline_parts : (label : List ℕ) (ts : Forest) → stays_inline label ts ≡ true → (same_bytes label concat_label ≡ true)
    × (has_two ts ≡ true) × (are_apart false ts ≡ true)
inline_parts label ts e =
    let p = and_parts (same_bytes label concat_label && has_two ts) (are_apart false ts) e in
    let q = and_parts (same_bytes label concat_label) (has_two ts) p.0 in
    (q.0, q.1, p.1)

side_back : (label : List ℕ) (ts : Forest) (h : AreWellFormed ts) → stays_inline label ts ≡ true
    → concat_of (texts_and_tags false [] (parts_side false ts h)) ≡ node label ts
side_back label ts h e =
    let p = inline_parts label ts e in
    ap concat_of (tight_singly (parts_side false ts h) false false [] (side_tight ts h (two_some ts p.1) p.2) refl
    ∙ side_singly ts false h p.2) ∙ many_back label ts p.0 p.1

pub content_back : (t : WideTree) (h : IsWellFormed t) → content (content_parts t h) ≡ t
unfolding content
content_back (leaf s) h = leaf_back h.0 s h.2
content_back (node label ts) h =
    elim (stays_inline label ts) as
    (λ i. stays_inline label ts ≡ i
    → concat_of (texts_and_tags false [] (if i then parts_side false ts h.1 else tag false (node label ts) ∷ []))
    ≡ node label ts) [
      | true ↦ λ e. side_back label ts h.1 e
      | false ↦ λ e. refl
    ] refl

pub content_tight : (t : WideTree) (h : IsWellFormed t) → is_empty t ≡ false → is_tight false (content_parts t h) ≡ true
content_tight (leaf []) h k = absurd cc
content_tight (leaf (b ∷ s)) h k =
    subst (λ z. is_tight false z ≡ true) (append-nil (item_parts false false h.0))
    (items_tight false false false h.0 [] (λ z. z) (item_ready false false h.0 b s h.2) refl (λ z. z))
content_tight (node label ts) h k =
    elim (stays_inline label ts) as
    (λ i. stays_inline label ts ≡ i
    → is_tight false (if i then parts_side false ts h.1 else tag false (node label ts) ∷ []) ≡ true) [
      | true ↦ λ e. let p = inline_parts label ts e in side_tight ts h.1 (two_some ts p.1) p.2
      | false ↦ λ e. refl
    ] refl

-- ---- paragraphs

pub paragraph_back : (t : WideTree) (h : IsWellFormed t) → content (paragraph_parts t h) ≡ t
unfolding content
paragraph_back (leaf []) h = refl
paragraph_back (leaf (b ∷ s)) h = content_back (leaf (b ∷ s)) h
paragraph_back (node label ts) h = content_back (node label ts) h

pub paragraph_tight : (t : WideTree) (h : IsWellFormed t) → is_tight false (paragraph_parts t h) ≡ true
paragraph_tight (leaf []) h = refl
paragraph_tight (leaf (b ∷ s)) h = content_tight (leaf (b ∷ s)) h refl
paragraph_tight (node label ts) h = content_tight (node label ts) h refl

-- the first part is no collection tag
abbrev pub is_ordinary : List ContentPart → Bool
is_ordinary (tag true t ∷ ps) = false
is_ordinary ps = true

byte_ordinary : (b : ℕ) (raw : Bool) (ps : List ContentPart) → is_ordinary (byte_part raw b ∷ ps) ≡ true
byte_ordinary b raw ps =
    elim (b == 32 && raw) as (λ s. is_ordinary ((if s then gap Spaces else text (b ∷ [])) ∷ ps) ≡ true)
    [ true ↦ refl | false ↦ refl ]

items_ordinary : (before behind : Bool) (items : List Item) (rest : List ContentPart) → is_ordinary rest ≡ true
    → is_ordinary (item_parts before behind items ++ rest) ≡ true
items_ordinary before behind [] rest h = h
items_ordinary before behind (byte b ∷ items) rest h =
    byte_ordinary b (before && is_held behind (flat_map item_bytes items))
    (item_parts (not (b == 32)) behind items ++ rest)
items_ordinary before behind (symbol name ∷ items) rest h = refl

side_ordinary : (ts : Forest) (before : Bool) (h : AreWellFormed ts) → is_ordinary (parts_side before ts h) ≡ true
side_ordinary nil before h = refl
side_ordinary (cons (leaf s) ts) before h =
    items_ordinary before (some ts) h.0.0 (parts_side true ts h.1) (side_ordinary ts true h.1)
side_ordinary (cons (node l us) ts) before h = refl

content_ordinary : (t : WideTree) (h : IsWellFormed t) → is_ordinary (content_parts t h) ≡ true
content_ordinary (leaf s) h =
    subst (λ z. is_ordinary z ≡ true) (append-nil (item_parts false false h.0)) (items_ordinary false false h.0 [] refl)
content_ordinary (node label ts) h =
    elim (stays_inline label ts) as
    (λ i. is_ordinary (if i then parts_side false ts h.1 else tag false (node label ts) ∷ []) ≡ true) [
      | true ↦ side_ordinary ts false h.1
      | false ↦ refl
    ]

pub paragraph_ordinary : (t : WideTree) (h : IsWellFormed t) → is_ordinary (paragraph_parts t h) ≡ true
paragraph_ordinary (leaf []) h = refl
paragraph_ordinary (leaf (b ∷ s)) h = content_ordinary (leaf (b ∷ s)) h
paragraph_ordinary (node label ts) h = content_ordinary (node label ts) h
