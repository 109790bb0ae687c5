-- The tokens of a form are read as what the form stands for.
use Rattle.std.proofs.Common.{◌≡◌, ℕ, ◌+◌, ◌≤◌, ◌<◌, Bool, true, false, ◌&&◌, ◌||◌, ◌==◌, if◌then◌else◌, List, [], ◌∷◌}
use Rattle.std.proofs.Common.{◌++◌, length, map, Option, Some, None, refl, sym, ap, ◌∙◌, append_assoc, length-append}
use Rattle.std.proofs.Common.{arith}
use Rattle.std.specs.List.{AllByRecursion}
use Rattle.std.proofs.lemmas.List.{append-nil}
use Rattle.std.proofs.lemmas.Bool.{lt-ltb, le-leb, and_from}
use Rattle.tx_tree.specs.declared.TheConstants.{MOST_NAME}
use Rattle.tx_tree.specs.Texts.{is_name_byte, IsName}
use Rattle.tx_tree.specs.WideTree.{WideTree, leaf, node, forest}
use Rattle.tx_tm_form.specs.declared.places.TagForm.{TagForm}
use Rattle.tx_tm_form.specs.declared.places.TagForm.TheVariants.{Short, Long, Middle, Closing}
use Rattle.tx_tm_form.specs.declared.places.TagPlace.{TagPlace}
use Rattle.tx_tm_form.specs.declared.places.TagPlace.TheVariants.{InShort, InHeader, InClosing}
use Rattle.tx_tm_form.specs.Bytes.{escape_of}
use Rattle.tx_tm_form.specs.Tokens.{Token, plain, escape, raw, head, bar, close}
use Rattle.tx_tm_form.specs.Parts.{ContentPart, text, tag, content, block, long_tag, same_bytes, none, has_no_items}
use Rattle.tx_tm_form.specs.Parts.{collection_label, raw_data_label}
use Rattle.tx_tm_form.specs.Forms.{AreDigits, Piece, Pieces, Arguments, Blocks, blank, letter, escaped, symbol}
use Rattle.tx_tm_form.specs.Forms.{raw_data, short_tag, long_tag_of, nothing, piece, no_argument, argument, no_block}
use Rattle.tx_tm_form.specs.Forms.{middle_tag, name_token, tokens_of_piece, tokens_of, tag_beginning, more_arguments}
use Rattle.tx_tm_form.specs.Forms.{tokens_of_blocks, symbol_bytes, piece_part, piece_parts, argument_trees}
use Rattle.tx_tm_form.specs.Forms.{children_of_blocks}
use Rattle.tx_tm_form.specs.Growing.{Content, inline, no_parts, put_part, place_of, tree_as_argument, tree_as_block}
use Rattle.tx_tm_form.specs.Growing.{long_of}
use Rattle.tx_tm_form.specs.Growing.{block_behind}
use Rattle.tx_tm_form.specs.Machine.{Open, State, reading, naming, counting, go, open_tag, open_with_child, in_tag}
use Rattle.tx_tm_form.specs.Machine.{with_node, next_argument, closed, last_argument, next_block, last_block}
use Rattle.tx_tm_form.specs.Machine.{header_place, by_escape, name_byte, name_end, feed, feeds}
use Rattle.tx_tm_form.proofs.Growth.{puts, puts_inline, grows, grown_is_content, place_is, no_place, block_is, long_is}

-- ---- long tags

pub same_self : (l : List ℕ) → same_bytes l l ≡ true
same_self [] = refl
same_self (b ∷ l) = and_from _ _ (grind arith) (same_self l)

no_before_first : (a b c d : Bool) (x y : ContentPart) → b ≡ false → (if a && b && c && d then x else y) ≡ y
no_before_first true true c d x y h = absurd cc
no_before_first true false c d x y h = refl
no_before_first false b c d x y h = refl

no_behind_first : (a b c d : Bool) (x y : ContentPart) → c ≡ false → (if a && b && c && d then x else y) ≡ y
no_behind_first true true true d x y h = absurd cc
no_behind_first true true false d x y h = refl
no_behind_first true false c d x y h = refl
no_behind_first false b c d x y h = refl

some_child : (us : List WideTree) (t : WideTree) (vs : List WideTree) → none (us ++ t ∷ vs) ≡ false
some_child [] t vs = refl
some_child (u ∷ us) t vs = refl

-- a long tag with a child before its first block is no collection tag
child_before : (l : List ℕ) (ks : List WideTree) (t : WideTree) (us : List WideTree) (ps : List ContentPart)
    (vs : List WideTree)
    → long_tag l (ks ++ t ∷ us) ps vs ≡ tag false (node l (forest ((ks ++ t ∷ us) ++ block ps ∷ vs)))
unfolding long_tag
child_before l ks t us ps vs =
    no_before_first (same_bytes l collection_label) (none (ks ++ t ∷ us)) (none vs) (has_no_items ps) _ _
    (some_child ks t us)

-- a long tag with a child after its first block is no collection tag
pub child_behind : (l : List ℕ) (ks : List WideTree) (ps : List ContentPart) (us : List WideTree) (t : WideTree)
    (vs : List WideTree)
    → long_tag l ks ps (us ++ t ∷ vs) ≡ tag false (node l (forest (ks ++ block ps ∷ (us ++ t ∷ vs))))
unfolding long_tag
child_behind l ks ps us t vs =
    no_behind_first (same_bytes l collection_label) (none ks) (none (us ++ t ∷ vs)) (has_no_items ps) _ _
    (some_child us t vs)

-- the first block is as good as a child before the second one
pub second_block : (l : List ℕ) (ks us : List WideTree) (ps qs : List ContentPart) (vs : List WideTree)
    → long_tag l (ks ++ block ps ∷ us) qs vs ≡ long_tag l ks ps (us ++ block qs ∷ vs)
second_block l ks us ps qs vs =
    child_before l ks (block ps) us qs vs
    ∙ ap (λ ts. tag false (node l (forest ts))) (append_assoc ks (block ps ∷ us) (block qs ∷ vs))
    ∙ sym (child_behind l ks ps us (block qs) vs)

-- ---- symbols and raw data

pub no_end : (b : ℕ) → (b == 124 || b == 92) ≡ true → (b == 62) ≡ false
no_end b e = grind arith

name_step : (b : ℕ) (m : List ℕ) (here : Content) (fs : List Open) → is_name_byte b ≡ true → length m < MOST_NAME
    → feed (naming m here fs) (name_token b) ≡ naming (m ++ b ∷ []) here fs
unfolding feed
name_step b m here fs h n =
    elim (b == 124 || b == 92) as
    (λ c. (b == 124 || b == 92) ≡ c → feed (naming m here fs) (if c then escape b else plain b) ≡ naming
    (m ++ b ∷ []) here fs) [
      | true ↦ λ e.
          ap (λ c. if c then name_end m here fs else name_byte (b == 124 || b == 92) m b here fs) (no_end b e)
          ∙ ap (λ c. go c (naming (m ++ b ∷ []) here fs)) (and_from _ _ e (lt-ltb _ _ n))
      | false ↦ λ e. ap (λ c. go c (naming (m ++ b ∷ []) here fs)) (and_from _ _ h (lt-ltb _ _ n))
    ] refl

name_run : (n m : List ℕ) (here : Content) (fs : List Open) (y : List Token)
    → AllByRecursion (λ b. is_name_byte b ≡ true) n → length m + length n ≤ MOST_NAME
    → feeds (naming m here fs) (map name_token n ++ y) ≡ feeds (naming (m ++ n) here fs) y
name_run [] m here fs y h k = ap (λ a. feeds (naming a here fs) y) (sym (append-nil m))
name_run (b ∷ n) m here fs y h k =
    ap (λ s. feeds s (map name_token n ++ y)) (name_step b m here fs h.0 (omega arith))
    ∙ name_run n (m ++ b ∷ []) here fs y h.1 (omega (arith, length-append m (b ∷ [])))
    ∙ ap (λ a. feeds (naming a here fs) y) (append_assoc m (b ∷ []) n)

digit_run : (d ds : List ℕ) (here : Content) (fs : List Open) (y : List Token) → AreDigits d
    → feeds (counting ds here fs) (map plain d ++ y) ≡ feeds (counting (ds ++ d) here fs) y
unfolding feed
digit_run [] ds here fs y h = ap (λ a. feeds (counting a here fs) y) (sym (append-nil ds))
digit_run (b ∷ d) ds here fs y h =
    ap (λ c. feeds (go c (counting (ds ++ b ∷ []) here fs)) (map plain d ++ y)) h.0
    ∙ digit_run d (ds ++ b ∷ []) here fs y h.1
    ∙ ap (λ a. feeds (counting a here fs) y) (append_assoc ds (b ∷ []) d)

pub no_escape_less : escape_of 60 ≡ None
unfolding escape_of
no_escape_less = refl

read_symbol : (n : List ℕ) (here : Content) (fs : List Open) (y : List Token) → IsName n
    → feeds (reading here fs) (escape 60 ∷ ((map name_token n ++ escape 62 ∷ []) ++ y)) ≡ feeds
    (reading (put_part here (text (symbol_bytes n))) fs) y
unfolding feed
read_symbol n here fs y h =
    ap (λ o. feeds (by_escape o 60 here fs) ((map name_token n ++ escape 62 ∷ []) ++ y)) no_escape_less
    ∙ ap (λ z. feeds (naming [] here fs) z) (append_assoc (map name_token n) (escape 62 ∷ []) y)
    ∙ name_run n [] here fs (escape 62 ∷ y) h.each (omega (arith, h.short))
    ∙ ap (λ c. feeds (go c (reading (put_part here (text (symbol_bytes n))) fs)) y) (le-leb 1 (length n) h.some)

read_raw : (ds : List ℕ) (here : Content) (fs : List Open) (y : List Token) → AreDigits ds
    → feeds (reading here fs) (raw ∷ ((map plain ds ++ close ∷ []) ++ y)) ≡ feeds
    (with_node raw_data_label (leaf ds ∷ []) here fs) y
unfolding feed
read_raw ds here fs y h =
    ap (λ z. feeds (counting [] here fs) z) (append_assoc (map plain ds) (close ∷ []) y)
    ∙ digit_run ds [] here fs (close ∷ y) h

-- ---- the tags

-- the state after the last argument of a beginning or an end
abbrev pub after_arguments : TagPlace → Open → List Open → State
after_arguments InShort f fs = closed f fs
after_arguments InHeader f fs = in_tag None f fs
after_arguments InClosing f fs = closed f fs

abbrev pub with_children : Open → List WideTree → Open
with_children f ts = open_tag f.before f.label (f.children ++ ts)

-- an argument that has been read
abbrev at_argument : TagPlace → List ContentPart → Open → List Open → State
at_argument p ps f fs = reading (puts (inline p no_parts) ps) (f ∷ fs)

-- a block that has been read
abbrev at_block : List ContentPart → Open → List Open → State
at_block ps f fs = reading (puts (block_behind f.label f.children) ps) (f ∷ fs)

close_argument : (p : TagPlace) (t : WideTree) (here : Content) (f : Open) (fs : List Open) → tree_as_argument here ≡ t
    → last_argument (Some p) here (f ∷ fs) ≡ after_arguments p (open_with_child f t) fs
close_argument InShort t here f fs e = ap (λ z. closed (open_with_child f z) fs) e
close_argument InHeader t here f fs e = ap (λ z. in_tag None (open_with_child f z) fs) e
close_argument InClosing t here f fs e = ap (λ z. closed (open_with_child f z) fs) e

close_step : (p : TagPlace) (ps : List ContentPart) (f : Open) (fs : List Open)
    → feed (at_argument p ps f fs) close ≡ after_arguments p (open_with_child f (content ps)) fs
unfolding feed
close_step p ps f fs =
    ap (λ c. last_argument (place_of c) c (f ∷ fs)) (puts_inline ps p no_parts)
    ∙ close_argument p (content ps) (inline p (grows no_parts ps)) f fs (grown_is_content ps)

bar_step : (p : TagPlace) (ps : List ContentPart) (f : Open) (fs : List Open)
    → feed (at_argument p ps f fs) bar ≡ in_tag (Some p) (open_with_child f (content ps)) fs
unfolding feed
bar_step p ps f fs =
    ap (λ c. next_argument (place_of c) c (f ∷ fs)) (puts_inline ps p no_parts)
    ∙ ap (λ t. in_tag (Some p) (open_with_child f t) fs) (grown_is_content ps)

block_place : (ps : List ContentPart) (l : List ℕ) (ks : List WideTree) → place_of (puts (block_behind l ks) ps) ≡ None
block_place ps l ks = place_is ps (block_behind l ks) ∙ no_place l ks

next_step : (ps : List ContentPart) (p : Option TagPlace) (f : Open) (fs : List Open)
    → next_block (place_of (puts (block_behind f.label f.children) ps)) f.label p
    (puts (block_behind f.label f.children) ps) (f ∷ fs) ≡ in_tag p (open_with_child f (block ps)) fs
next_step ps p f fs =
    ap (λ o. next_block o f.label p (puts (block_behind f.label f.children) ps) (f ∷ fs))
    (block_place ps f.label f.children)
    ∙ ap (λ c. go c (in_tag p (open_with_child f (tree_as_block (puts (block_behind f.label f.children) ps))) fs))
    (same_self f.label)
    ∙ ap (λ t. in_tag p (open_with_child f t) fs) (block_is f.label f.children ps)

pub middle_step : (more : Bool) (ps : List ContentPart) (f : Open) (fs : List Open)
    → feed (at_block ps f fs) (head Middle f.label more) ≡ in_tag (header_place more) (open_with_child f (block ps)) fs
unfolding feed
middle_step more ps f fs = next_step ps (header_place more) f fs

pub closing_step : (ps : List ContentPart) (f : Open) (fs : List Open)
    → feed (at_block ps f fs) (head Closing f.label true) ≡ in_tag (Some InClosing) (open_with_child f (block ps)) fs
unfolding feed
closing_step ps f fs = next_step ps (Some InClosing) f fs

pub last_step : (ps : List ContentPart) (f : Open) (fs : List Open)
    → feed (at_block ps f fs) (head Closing f.label false)
    ≡ reading (put_part f.before (long_tag f.label f.children ps []))
    fs
unfolding feed
last_step ps f fs =
    ap (λ o. last_block o f.label (puts (block_behind f.label f.children) ps) (f ∷ fs))
    (block_place ps f.label f.children)
    ∙ ap (λ c. go c
    (reading (put_part f.before (long_of f.label f.children (puts (block_behind f.label f.children) ps))) fs))
    (same_self f.label)
    ∙ ap (λ x. reading (put_part f.before x) fs) (long_is f.label f.children ps)

pub regrouped : (a b c y : List Token) → (a ++ (b ++ c)) ++ y ≡ a ++ (b ++ (c ++ y))
regrouped a b c y = simp append_assoc refl

-- an argument and those after it
arguments_from : (x : Pieces) (xs : Arguments) (p : TagPlace) (f : Open) (fs : List Open) (y : List Token)
    → feeds (in_tag (Some p) f fs) (tokens_of x ++ (more_arguments xs ++ y))
    ≡ feeds (at_argument p (piece_parts x) f fs)
    (more_arguments xs ++ y)
    → feeds (at_argument p (piece_parts x) f fs) (more_arguments xs ++ y) ≡ feeds
    (after_arguments p (with_children f (argument_trees (argument x xs))) fs) y
    → feeds (in_tag (Some p) f fs) ((tokens_of x ++ more_arguments xs) ++ y) ≡ feeds
    (after_arguments p (with_children f (argument_trees (argument x xs))) fs) y
arguments_from x xs p f fs y h k =
    ap (λ z. feeds (in_tag (Some p) f fs) z) (append_assoc (tokens_of x) (more_arguments xs) y) ∙ h ∙ k

children_more : (f : Open) (t : WideTree) (ts : List WideTree)
    → with_children (open_with_child f t) ts ≡ with_children f (t ∷ ts)
children_more f t ts = ap (open_tag f.before f.label) (append_assoc f.children (t ∷ []) ts)

no_children : (f : Open) → f ≡ with_children f []
no_children f = ap (open_tag f.before f.label) (sym (append-nil f.children))

-- what a tag's beginning does
abbrev Begins : State → TagForm → TagPlace → Open → List Open → Type 0
Begins s form p f fs =
    (feed s (head form f.label true) ≡ in_tag (Some p) f fs)
    × (feed s (head form f.label false) ≡ after_arguments p f fs)

-- what the end of a long tag does after any block
abbrev Ends : Arguments → Content → List ℕ → List Open → List Token → Type 0
Ends xs before l fs y =
    (ps : List ContentPart) (ks : List WideTree)
    → feeds (at_block ps (open_tag before l ks) fs) (tag_beginning Closing l xs ++ y)
    ≡ feeds (reading (put_part before (long_tag l ks ps (argument_trees xs))) fs) y

mutual
  unfolding feed

  pub read_piece : (p : Piece) (here : Content) (fs : List Open) (y : List Token)
      → feeds (reading here fs) (tokens_of_piece p ++ y) ≡ feeds (reading (put_part here (piece_part p)) fs) y
  read_piece (blank b) here fs y = refl
  read_piece (letter b h) here fs y = refl
  read_piece (escaped b e h) here fs y = ap (λ o. feeds (by_escape o b here fs) y) h
  read_piece (symbol n h) here fs y = read_symbol n here fs y h
  read_piece (raw_data ds h) here fs y = read_raw ds here fs y h
  read_piece (short_tag l h xs) here fs y =
      read_beginning xs (reading here fs) Short InShort (open_tag here l []) fs y (refl, refl)
  read_piece (long_tag_of l h xs first others last) here fs y =
      ap (λ z. feeds (reading here fs) z)
      (append_assoc (tag_beginning Long l xs)
      (tokens_of first ++ (tokens_of_blocks l others ++ tag_beginning Closing l last)) y)
      ∙ read_beginning xs (reading here fs) Long InHeader (open_tag here l []) fs
      ((tokens_of first ++ (tokens_of_blocks l others ++ tag_beginning Closing l last)) ++ y) (refl, refl)
      ∙ ap (λ z. feeds (in_tag None (open_tag here l (argument_trees xs)) fs) z)
      (regrouped (tokens_of first) (tokens_of_blocks l others) (tag_beginning Closing l last) y)
      ∙ read_pieces first (block_behind l (argument_trees xs)) (open_tag here l (argument_trees xs) ∷ fs)
      (tokens_of_blocks l others ++ (tag_beginning Closing l last ++ y))
      ∙ read_blocks others last l (piece_parts first) here (argument_trees xs) fs y
      (λ ps ks. read_end last l ps here ks fs y)

  pub read_pieces : (c : Pieces) (here : Content) (fs : List Open) (y : List Token)
      → feeds (reading here fs) (tokens_of c ++ y) ≡ feeds (reading (puts here (piece_parts c)) fs) y
  read_pieces nothing here fs y = refl
  read_pieces (piece p ps) here fs y =
      ap (λ z. feeds (reading here fs) z) (append_assoc (tokens_of_piece p) (tokens_of ps) y)
      ∙ read_piece p here fs (tokens_of ps ++ y)
      ∙ read_pieces ps (put_part here (piece_part p)) fs y

  -- the arguments after one that has been read
  read_more : (xs : Arguments) (p : TagPlace) (ps : List ContentPart) (f : Open) (fs : List Open) (y : List Token)
      → feeds (at_argument p ps f fs) (more_arguments xs ++ y) ≡ feeds
      (after_arguments p (with_children f (content ps ∷ argument_trees xs)) fs) y
  read_more no_argument p ps f fs y = ap (λ s. feeds s y) (close_step p ps f fs)
  read_more (argument x xs) p ps f fs y =
      ap (λ s. feeds s ((tokens_of x ++ more_arguments xs) ++ y)) (bar_step p ps f fs)
      ∙ arguments_from x xs p (open_with_child f (content ps)) fs y
      (read_pieces x (inline p no_parts) (open_with_child f (content ps) ∷ fs) (more_arguments xs ++ y))
      (read_more xs p (piece_parts x) (open_with_child f (content ps)) fs y)
      ∙ ap (λ g. feeds (after_arguments p g fs) y) (children_more f (content ps) (argument_trees (argument x xs)))

  read_beginning : (xs : Arguments) (s : State) (form : TagForm) (p : TagPlace) (f : Open) (fs : List Open)
      (y : List Token) → Begins s form p f fs
      → feeds s (tag_beginning form f.label xs ++ y)
      ≡ feeds (after_arguments p (with_children f (argument_trees xs)) fs) y
  read_beginning no_argument s form p f fs y h =
      ap (λ z. feeds z y) h.1 ∙ ap (λ g. feeds (after_arguments p g fs) y) (no_children f)
  read_beginning (argument x xs) s form p f fs y h =
      ap (λ z. feeds z ((tokens_of x ++ more_arguments xs) ++ y)) h.0
      ∙ arguments_from x xs p f fs y (read_pieces x (inline p no_parts) (f ∷ fs) (more_arguments xs ++ y))
      (read_more xs p (piece_parts x) f fs y)

  read_end : (xs : Arguments) (l : List ℕ) (ps : List ContentPart) (before : Content) (ks : List WideTree)
      (fs : List Open)
      (y : List Token)
      → feeds (at_block ps (open_tag before l ks) fs) (tag_beginning Closing l xs ++ y) ≡ feeds
      (reading (put_part before (long_tag l ks ps (argument_trees xs))) fs) y
  read_end no_argument l ps before ks fs y = ap (λ s. feeds s y) (last_step ps (open_tag before l ks) fs)
  read_end (argument x xs) l ps before ks fs y =
      ap (λ s. feeds s ((tokens_of x ++ more_arguments xs) ++ y)) (closing_step ps (open_tag before l ks) fs)
      ∙ arguments_from x xs InClosing (open_tag before l (ks ++ block ps ∷ [])) fs y
      (read_pieces x (inline InClosing no_parts) (open_tag before l (ks ++ block ps ∷ []) ∷ fs)
      (more_arguments xs ++ y))
      (read_more xs InClosing (piece_parts x) (open_tag before l (ks ++ block ps ∷ [])) fs y)
      ∙ ap (λ ts. feeds (with_node l ts before fs) y) (append_assoc ks (block ps ∷ []) (argument_trees (argument x xs)))
      ∙ ap (λ z. feeds (reading (put_part before z) fs) y)
      (sym (child_behind l ks ps [] (content (piece_parts x)) (argument_trees xs)))

  read_blocks : (bs : Blocks) (last : Arguments) (l : List ℕ) (ps : List ContentPart) (before : Content)
      (ks : List WideTree)
      (fs : List Open) (y : List Token) → Ends last before l fs y
      → feeds (at_block ps (open_tag before l ks) fs) (tokens_of_blocks l bs ++ (tag_beginning Closing l last ++ y))
      ≡ feeds
      (reading (put_part before (long_tag l ks ps (children_of_blocks bs (argument_trees last)))) fs) y
  read_blocks no_block last l ps before ks fs y h = h ps ks
  read_blocks (middle_tag xs b bs) last l ps before ks fs y h =
      ap (λ z. feeds (at_block ps (open_tag before l ks) fs) z)
      (regrouped (tag_beginning Middle l xs) (tokens_of b) (tokens_of_blocks l bs) (tag_beginning Closing l last ++ y))
      ∙ read_beginning xs (at_block ps (open_tag before l ks) fs) Middle InHeader
      (open_tag before l (ks ++ block ps ∷ [])) fs
      (tokens_of b ++ (tokens_of_blocks l bs ++ (tag_beginning Closing l last ++ y)))
      (middle_step true ps (open_tag before l ks) fs, middle_step false ps (open_tag before l ks) fs)
      ∙ ap (λ ts.
      feeds (in_tag None (open_tag before l ts) fs)
      (tokens_of b ++ (tokens_of_blocks l bs ++ (tag_beginning Closing l last ++ y))))
      (append_assoc ks (block ps ∷ []) (argument_trees xs))
      ∙ read_pieces b (block_behind l (ks ++ block ps ∷ argument_trees xs))
      (open_tag before l (ks ++ block ps ∷ argument_trees xs) ∷ fs)
      (tokens_of_blocks l bs ++ (tag_beginning Closing l last ++ y))
      ∙ read_blocks bs last l (piece_parts b) before (ks ++ block ps ∷ argument_trees xs) fs y h
      ∙ ap (λ z. feeds (reading (put_part before z) fs) y)
      (second_block l ks (argument_trees xs) ps (piece_parts b) (children_of_blocks bs (argument_trees last)))
