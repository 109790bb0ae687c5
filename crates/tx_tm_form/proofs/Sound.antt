-- What the machine takes is written in the forms of the syntax.
use Rattle.std.proofs.Common.{◌≡◌, ◌⊎◌, inl, inr, ⊎_elim, ℕ, ◌<◌, ◌≤◌, Bool, true, false, ◌&&◌, ◌||◌, ◌==◌, nat_le}
use Rattle.std.proofs.Common.{nat_lt, if◌then◌else◌, List, [], ◌∷◌, ◌++◌, length, map, Option, Some, None, refl, sym}
use Rattle.std.proofs.Common.{ap, subst, ◌∙◌, append_assoc, length-append, arith}
use Rattle.std.specs.List.{AllByRecursion}
use Rattle.std.proofs.lemmas.List.{append-nil, map-append}
use Rattle.std.proofs.lemmas.Bool.{ltb-true, leb-true, and_parts}
use Rattle.tx_tree.specs.declared.TheConstants.{MOST_NAME}
use Rattle.tx_tree.specs.Texts.{is_name_byte}
use Rattle.tx_tree.specs.Labels.{IsLabel}
use Rattle.tx_tree.specs.WideTree.{WideTree, node, forest}
use Rattle.tx_tree.proofs.Scanning.{all_snoc}
use Rattle.tx_tm_form.specs.declared.bytes.Escaped.{Escaped}
use Rattle.tx_tm_form.specs.declared.places.TagForm.{TagForm}
use Rattle.tx_tm_form.specs.declared.places.TagForm.TheVariants.{Short, Long, Middle, Closing}
use Rattle.tx_tm_form.specs.declared.places.TagPlace.{TagPlace}
use Rattle.tx_tm_form.specs.declared.places.TagPlace.TheVariants.{InShort, InHeader, InClosing}
use Rattle.tx_tm_form.specs.Bytes.{kind_of, is_plain, escape_of, is_digit}
use Rattle.tx_tm_form.specs.Tokens.{Token, white, join, plain, escape, raw, head, bar, close, IsToken}
use Rattle.tx_tm_form.specs.Parts.{ContentPart, text, tag, content, block, long_tag, same_bytes}
use Rattle.tx_tm_form.specs.Forms.{AreDigits, Piece, Pieces, Arguments, Blocks, blank, letter, escaped, symbol}
use Rattle.tx_tm_form.specs.Forms.{raw_data, short_tag, long_tag_of, nothing, piece, no_argument, argument, no_block}
use Rattle.tx_tm_form.specs.Forms.{middle_tag, name_token, tokens_of_piece, tokens_of, tag_beginning, more_arguments}
use Rattle.tx_tm_form.specs.Forms.{tokens_of_blocks, symbol_bytes, piece_part, piece_parts, argument_trees}
use Rattle.tx_tm_form.specs.Forms.{children_of_blocks}
use Rattle.tx_tm_form.specs.Growing.{Content, inline, blocks, no_parts, no_paragraphs, put_part, place_of}
use Rattle.tx_tm_form.specs.Growing.{tree_as_argument}
use Rattle.tx_tm_form.specs.Growing.{tree_as_block, long_of, block_behind, opened_content}
use Rattle.tx_tm_form.specs.Machine.{Open, State, reading, naming, counting, failed, go, open_tag, open_with_child}
use Rattle.tx_tm_form.specs.Machine.{in_tag}
use Rattle.tx_tm_form.specs.Machine.{next_argument, last_argument, next_block, last_block, header_place, begun}
use Rattle.tx_tm_form.specs.Machine.{by_escape, name_byte, name_end, feed_reading, feed_naming, feed_counting, feed}
use Rattle.tx_tm_form.specs.Machine.{feeds}
use Rattle.tx_tm_form.proofs.Growth.{puts, puts_inline, puts_append, grown_is_content, place_is, no_place, block_is}
use Rattle.tx_tm_form.proofs.Growth.{long_is}
use Rattle.tx_tm_form.proofs.Complete.{child_behind, second_block, regrouped}
use Rattle.tx_tm_form.proofs.Formed.{is_same_number, other_byte}

-- ---- lists

left_three : (a b c y : List Token) → a ++ (b ++ (c ++ y)) ≡ (a ++ (b ++ c)) ++ y
left_three a b c y = simp append_assoc refl

-- ---- forms with one more

abbrev with_piece : Pieces → Piece → Pieces
with_piece nothing p = piece p nothing
with_piece (piece q c) p = piece q (with_piece c p)

tokens_more : (c : Pieces) (p : Piece) → tokens_of (with_piece c p) ≡ tokens_of c ++ tokens_of_piece p
tokens_more nothing p = append-nil (tokens_of_piece p)
tokens_more (piece q c) p = ap (λ z. tokens_of_piece q ++ z) (tokens_more c p)
    ∙ sym (append_assoc (tokens_of_piece q) (tokens_of c) (tokens_of_piece p))

parts_more : (c : Pieces) (p : Piece) → piece_parts (with_piece c p) ≡ piece_parts c ++ piece_part p ∷ []
parts_more nothing p = refl
parts_more (piece q c) p = ap (λ z. piece_part q ∷ z) (parts_more c p)

abbrev pub child_of : Pieces → WideTree
child_of c = content (piece_parts c)

-- arguments that have ended, each with the | after it
abbrev pub with_bars : List Pieces → List Token
with_bars [] = []
with_bars (x ∷ xs) = tokens_of x ++ bar ∷ with_bars xs

abbrev arguments_with : List Pieces → Pieces → Arguments
arguments_with [] c = argument c no_argument
arguments_with (x ∷ xs) c = argument x (arguments_with xs c)

more_with : (xs : List Pieces) (c : Pieces)
    → more_arguments (arguments_with xs c) ≡ bar ∷ (with_bars xs ++ (tokens_of c ++ close ∷ []))
more_with [] c = refl
more_with (x ∷ xs) c = ap (λ z. bar ∷ (tokens_of x ++ z)) (more_with xs c)
    ∙ ap (λ z. bar ∷ z) (sym (append_assoc (tokens_of x) (bar ∷ with_bars xs) (tokens_of c ++ close ∷ [])))

beginning_with : (form : TagForm) (l : List ℕ) (xs : List Pieces) (c : Pieces)
    → tag_beginning form l (arguments_with xs c) ≡ head form l true ∷ (with_bars xs ++ (tokens_of c ++ close ∷ []))
beginning_with form l [] c = refl
beginning_with form l (x ∷ xs) c = ap (λ z. head form l true ∷ (tokens_of x ++ z)) (more_with xs c)
    ∙ ap (λ z. head form l true ∷ z) (sym (append_assoc (tokens_of x) (bar ∷ with_bars xs) (tokens_of c ++ close ∷ [])))

children_with : (xs : List Pieces) (c : Pieces)
    → argument_trees (arguments_with xs c) ≡ map child_of xs ++ child_of c ∷ []
children_with [] c = refl
children_with (x ∷ xs) c = ap (λ z. child_of x ∷ z) (children_with xs c)

bars_more : (xs : List Pieces) (c : Pieces) → with_bars (xs ++ c ∷ []) ≡ with_bars xs ++ (tokens_of c ++ bar ∷ [])
bars_more [] c = refl
bars_more (x ∷ xs) c =
    ap (λ z. tokens_of x ++ bar ∷ z) (bars_more xs c)
    ∙ sym (append_assoc (tokens_of x) (bar ∷ with_bars xs) (tokens_of c ++ bar ∷ []))

-- a block that has ended, with the arguments of the middle tag after it
pub record Ended : Type 0 where
  pub body : Pieces
  pub behind : Arguments

abbrev ended : Pieces → Arguments → Ended
ended c xs = record { body = c; behind = xs }

abbrev pub ended_tokens : List ℕ → List Ended → List Token
ended_tokens l [] = []
ended_tokens l (b ∷ bs) = tokens_of b.body ++ (tag_beginning Middle l b.behind ++ ended_tokens l bs)

abbrev pub ended_children : List Ended → List WideTree
ended_children [] = []
ended_children (b ∷ bs) = block (piece_parts b.body) ∷ (argument_trees b.behind ++ ended_children bs)

ended_tokens_more : (l : List ℕ) (bs : List Ended) (c : Pieces) (xs : Arguments)
    → ended_tokens l (bs ++ ended c xs ∷ []) ≡ ended_tokens l bs ++ (tokens_of c ++ tag_beginning Middle l xs)
ended_tokens_more l [] c xs = ap (λ z. tokens_of c ++ z) (append-nil (tag_beginning Middle l xs))
ended_tokens_more l (b ∷ bs) c xs = rw (ended_tokens_more l bs c xs) (simp append_assoc refl)

ended_children_more : (bs : List Ended) (c : Pieces) (xs : Arguments)
    → ended_children (bs ++ ended c xs ∷ []) ≡ ended_children bs ++ block (piece_parts c) ∷ argument_trees xs
ended_children_more [] c xs = ap (λ z. block (piece_parts c) ∷ z) (append-nil (argument_trees xs))
ended_children_more (b ∷ bs) c xs =
    ap (λ z. block (piece_parts b.body) ∷ (argument_trees b.behind ++ z)) (ended_children_more bs c xs)
    ∙ ap (λ z. block (piece_parts b.body) ∷ z)
    (sym (append_assoc (argument_trees b.behind) (ended_children bs) (block (piece_parts c) ∷ argument_trees xs)))

-- the same blocks, from the first one on, and c as the last
abbrev pub first_body : List Ended → Pieces → Pieces
first_body [] c = c
first_body (b ∷ bs) c = b.body

abbrev pub other_bodies : List Ended → Pieces → Blocks
other_bodies [] c = no_block
other_bodies (b ∷ bs) c = middle_tag b.behind (first_body bs c) (other_bodies bs c)

pub bodies_tokens : (l : List ℕ) (bs : List Ended) (c : Pieces)
    → tokens_of (first_body bs c) ++ tokens_of_blocks l (other_bodies bs c) ≡ ended_tokens l bs ++ tokens_of c
bodies_tokens l [] c = append-nil (tokens_of c)
bodies_tokens l (b ∷ bs) c =
    ap (λ z. tokens_of b.body ++ (tag_beginning Middle l b.behind ++ z)) (bodies_tokens l bs c)
    ∙ left_three (tokens_of b.body) (tag_beginning Middle l b.behind) (ended_tokens l bs) (tokens_of c)

bodies_part : (l : List ℕ) (bs : List Ended) (ks : List WideTree) (c : Pieces) (ts : List WideTree)
    → long_tag l ks (piece_parts (first_body bs c)) (children_of_blocks (other_bodies bs c) ts) ≡ long_tag l
    (ks ++ ended_children bs) (piece_parts c) ts
bodies_part l [] ks c ts = ap (λ z. long_tag l z (piece_parts c) ts) (sym (append-nil ks))
bodies_part l (b ∷ bs) ks c ts =
    sym (second_block l ks (argument_trees b.behind) (piece_parts b.body) (piece_parts (first_body bs c))
    (children_of_blocks (other_bodies bs c) ts))
    ∙ bodies_part l bs (ks ++ block (piece_parts b.body) ∷ argument_trees b.behind) c ts
    ∙ ap (λ z. long_tag l z (piece_parts c) ts)
    (append_assoc ks (block (piece_parts b.body) ∷ argument_trees b.behind) (ended_children bs))

-- ---- what the tokens so far are

-- q goes from an open tag's < to where its present block begins
abbrev pub BlockFrame : List ℕ → List WideTree → List Token → Type 0
BlockFrame l ks q = (xs : Arguments) × (bs : List Ended) × IsLabel l × (ks ≡ argument_trees xs ++ ended_children bs)
    × (q ≡ tag_beginning Long l xs ++ ended_tokens l bs)

-- .. to where its present argument begins
abbrev pub ArgumentFrame : TagForm → List ℕ → List WideTree → List Token → Type 0
ArgumentFrame form l ks q =
    (xs : List Pieces) × IsLabel l × (ks ≡ map child_of xs) × (q ≡ head form l true ∷ with_bars xs)

-- .. where that is after a block
abbrev pub BehindFrame : TagForm → List ℕ → List WideTree → List Token → Type 0
BehindFrame form l ks q =
    (us : List WideTree) × (r : List Token) × (c : Pieces) × (xs : List Pieces) × BlockFrame l us r
    × (ks ≡ us ++ block (piece_parts c) ∷ map child_of xs) × (q ≡ r ++ (tokens_of c ++ head form l true ∷ with_bars xs))

abbrev pub Frame : Option TagPlace → List ℕ → List WideTree → List Token → Type 0
Frame (Some InShort) l ks q = ArgumentFrame Short l ks q
Frame (Some InHeader) l ks q = ArgumentFrame Long l ks q ⊎ BehindFrame Middle l ks q
Frame (Some InClosing) l ks q = BehindFrame Closing l ks q
Frame None l ks q = BlockFrame l ks q

abbrev pub Here : Content → List Open → List Token → Type 0
Here here [] ts = (c : Pieces) × (here ≡ puts (blocks no_paragraphs) (piece_parts c)) × (ts ≡ tokens_of c)
Here here (f ∷ fs) ts =
    (w : Option TagPlace) × (u : List Token) × (q : List Token) × (c : Pieces) × Here f.before fs u
    × Frame w f.label f.children q
    × (here ≡ puts (opened_content w f.label f.children) (piece_parts c)) × (ts ≡ u ++ (q ++ tokens_of c))

pub record NameSoFar (n : List ℕ) : Type 0 where
  pub each : AllByRecursion (λ b. is_name_byte b ≡ true) n
  pub short : length n ≤ MOST_NAME

abbrev pub Took : State → List Token → Type 0
Took (reading here fs) ts = Here here fs ts
Took (naming n here fs) ts = (u : List Token) × Here here fs u × NameSoFar n × (ts ≡ u ++ escape 60 ∷ map name_token n)
Took (counting ds here fs) ts = (u : List Token) × Here here fs u × AreDigits ds × (ts ≡ u ++ raw ∷ map plain ds)
Took failed ts = Unit {0}

-- ---- one piece more, and one tag more

put_more : (here start : Content) (c : Pieces) (p : Piece) (x : ContentPart) → here ≡ puts start (piece_parts c)
    → piece_part p ≡ x
    → put_part here x ≡ puts start (piece_parts (with_piece c p))
put_more here start c p x e k = rw (parts_more c p, puts_append (piece_parts c) (piece_part p ∷ []) start, ← e, k) refl

add_piece : (fs : List Open) (p : Piece) (x : ContentPart) (here : Content) (ts us : List Token) → Here here fs ts
    → piece_part p ≡ x → us ≡ ts ++ tokens_of_piece p → Here (put_part here x) fs us
add_piece [] p x here ts us h e k =
    (with_piece h.0 p, put_more here (blocks no_paragraphs) h.0 p x h.1 e, rw (k, h.2, tokens_more h.0 p) refl)
add_piece (f ∷ fs) p x here ts us h e k = (
  h.0,
  h.1,
  h.2,
  with_piece h.3 p,
  h.4,
  h.5,
  put_more here (opened_content h.0 f.label f.children) h.3 p x h.6 e,
  rw (k, h.7, tokens_more h.3 p) (regrouped h.1 h.2 (tokens_of h.3) (tokens_of_piece p)),
)

into_tag : (w : Option TagPlace) (f : Open) (fs : List Open) (u q ts : List Token) → Here f.before fs u
    → Frame w f.label f.children q → ts ≡ u ++ q → Took (in_tag w f fs) ts
into_tag w f fs u q ts h k e = (w, u, q, nothing, h, k, refl, rw (e, append-nil q) refl)

-- where the content is
pub place_there : (w : Option TagPlace) (l : List ℕ) (ks : List WideTree) → place_of (opened_content w l ks) ≡ w
place_there (Some p) l ks = refl
place_there None l ks = no_place l ks

abbrev pub Inner : Option TagPlace → Open → Content → List Open → List Token → Type 0
Inner w f here fs ts =
    (u : List Token) × (q : List Token) × (c : Pieces) × Here f.before fs u × Frame w f.label f.children q
    × (here ≡ puts (opened_content w f.label f.children) (piece_parts c)) × (ts ≡ u ++ (q ++ tokens_of c))

pub inner : (f : Open) (here : Content) (fs : List Open) (ts : List Token) → Here here (f ∷ fs) ts
    → (w : Option TagPlace) × (place_of here ≡ w) × Inner w f here fs ts
inner f here fs ts h = (
  h.0,
  ap place_of h.6 ∙ place_is (piece_parts h.3) (opened_content h.0 f.label f.children)
      ∙ place_there h.0 f.label f.children,
  (h.1, h.2, h.3, h.4, h.5, h.6, h.7),
)

argument_is : (p : TagPlace) (c : Pieces) (here : Content) → here ≡ puts (inline p no_parts) (piece_parts c)
    → tree_as_argument here ≡ child_of c
argument_is p c here e = ap tree_as_argument (e ∙ puts_inline (piece_parts c) p no_parts)
    ∙ grown_is_content (piece_parts c)

block_there : (l : List ℕ) (ks : List WideTree) (c : Pieces) (here : Content)
    → here ≡ puts (block_behind l ks) (piece_parts c) → tree_as_block here ≡ block (piece_parts c)
block_there l ks c here e = ap tree_as_block e ∙ block_is l ks (piece_parts c)

more_tokens : (ts u q c d : List Token) → ts ≡ u ++ (q ++ c) → ts ++ d ≡ u ++ (q ++ (c ++ d))
more_tokens ts u q c d e = ap (λ z. z ++ d) e ∙ regrouped u q c d

-- ---- where an argument ends

argument_bar : (form : TagForm) (l : List ℕ) (ks : List WideTree) (q : List Token) (c : Pieces) (t : WideTree)
    → ArgumentFrame form l ks q → t ≡ child_of c
    → ArgumentFrame form l (ks ++ t ∷ []) (q ++ (tokens_of c ++ bar ∷ []))
argument_bar form l ks q c t h e =
    (h.0 ++ c ∷ [], h.1, rw (h.2, map-append child_of h.0 (c ∷ []), e) refl, rw (h.3, bars_more h.0 c) refl)

behind_bar : (form : TagForm) (l : List ℕ) (ks : List WideTree) (q : List Token) (c : Pieces) (t : WideTree)
    → BehindFrame form l ks q → t ≡ child_of c
    → BehindFrame form l (ks ++ t ∷ []) (q ++ (tokens_of c ++ bar ∷ []))
behind_bar form l ks q c t h e = (
  h.0,
  h.1,
  h.2,
  h.3 ++ c ∷ [],
  h.4,
  rw (h.5, map-append child_of h.3 (c ∷ []), e)
      (append_assoc h.0 (block (piece_parts h.2) ∷ map child_of h.3) (child_of c ∷ [])),
  rw (h.6, bars_more h.3 c) (simp append_assoc refl),
)

-- blocks with one more, after a middle tag
one_block_more : (l : List ℕ) (ks : List WideTree) (q : List Token) (c : Pieces) (xs : Arguments) (us : List WideTree)
    (r : List Token) → BlockFrame l ks q
    → us ≡ ks ++ block (piece_parts c) ∷ argument_trees xs → r ≡ q ++ (tokens_of c ++ tag_beginning Middle l xs)
    → BlockFrame l us r
one_block_more l ks q c xs us r h e i = (
  h.0,
  h.1 ++ ended c xs ∷ [],
  h.2,
  rw (e, h.3, ended_children_more h.1 c xs)
      (append_assoc (argument_trees h.0) (ended_children h.1) (block (piece_parts c) ∷ argument_trees xs)),
  rw (i, h.4, ended_tokens_more l h.1 c xs)
      (append_assoc (tag_beginning Long l h.0) (ended_tokens l h.1) (tokens_of c ++ tag_beginning Middle l xs)),
)

header_ends : (l : List ℕ) (ks : List WideTree) (q : List Token) (c : Pieces) (t : WideTree)
    → Frame (Some InHeader) l ks q → t ≡ child_of c
    → BlockFrame l (ks ++ t ∷ []) (q ++ (tokens_of c ++ close ∷ []))
header_ends l ks q c t (inl h) e = (
  arguments_with h.0 c,
  [],
  h.1,
  rw (h.2, e, children_with h.0 c) (sym (append-nil (map child_of h.0 ++ child_of c ∷ []))),
  rw (h.3, beginning_with Long l h.0 c) (sym (append-nil _)),
)
header_ends l ks q c t (inr h) e =
    one_block_more l h.0 h.1 h.2 (arguments_with h.3 c) _ _ h.4
    (rw (h.5, e, children_with h.3 c) (append_assoc h.0 (block (piece_parts h.2) ∷ map child_of h.3) (child_of c ∷ [])))
    (rw (h.6, beginning_with Middle l h.3 c) (simp append_assoc refl))

regroup_blocks : (a b c x d e : List Token) → d ++ e ≡ b ++ c → (a ++ b) ++ (c ++ x) ≡ a ++ (d ++ (e ++ x))
regroup_blocks a b c x d e h =
    append_assoc a b (c ++ x)
    ∙ ap (λ z. a ++ z) (sym (append_assoc b c x) ∙ ap (λ z. z ++ x) (sym h) ∙ append_assoc d e x)

-- a long tag ends
long_ends : (l : List ℕ) (ks : List WideTree) (q : List Token) (c : Pieces) (last : Arguments) (before : Content)
    (fs : List Open) (u us : List Token) (x : ContentPart)
    → BlockFrame l ks q → Here before fs u → long_tag l ks (piece_parts c) (argument_trees last) ≡ x
    → us ≡ u ++ (q ++ (tokens_of c ++ tag_beginning Closing l last)) → Here (put_part before x) fs us
long_ends l ks q c last before fs u us x h k i e =
    add_piece fs (long_tag_of l h.2 h.0 (first_body h.1 c) (other_bodies h.1 c) last) x before u us k
    (bodies_part l h.1 (argument_trees h.0) c (argument_trees last)
    ∙ ap (λ z. long_tag l z (piece_parts c) (argument_trees last)) (sym h.3) ∙ i)
    (e ∙ ap (λ z. u ++ z) (ap (λ z. z ++ (tokens_of c ++ tag_beginning Closing l last)) h.4
    ∙ regroup_blocks (tag_beginning Long l h.0) (ended_tokens l h.1) (tokens_of c) (tag_beginning Closing l last)
    (tokens_of (first_body h.1 c)) (tokens_of_blocks l (other_bodies h.1 c)) (bodies_tokens l h.1 c)))

bar_in : (w : Option TagPlace) (f : Open) (here : Content) (fs : List Open) (ts : List Token) → Inner w f here fs ts
    → Took (next_argument w here (f ∷ fs)) (ts ++ bar ∷ [])
bar_in None f here fs ts h = tt
bar_in (Some InShort) f here fs ts h =
    into_tag (Some InShort) (open_with_child f (tree_as_argument here)) fs h.0 (h.1 ++ (tokens_of h.2 ++ bar ∷ []))
    (ts ++ bar ∷ []) h.3
    (argument_bar Short f.label f.children h.1 h.2 (tree_as_argument here) h.4 (argument_is InShort h.2 here h.5))
    (more_tokens ts h.0 h.1 (tokens_of h.2) (bar ∷ []) h.6)
bar_in (Some InClosing) f here fs ts h =
    into_tag (Some InClosing) (open_with_child f (tree_as_argument here)) fs h.0 (h.1 ++ (tokens_of h.2 ++ bar ∷ []))
    (ts ++ bar ∷ []) h.3
    (behind_bar Closing f.label f.children h.1 h.2 (tree_as_argument here) h.4 (argument_is InClosing h.2 here h.5))
    (more_tokens ts h.0 h.1 (tokens_of h.2) (bar ∷ []) h.6)
bar_in (Some InHeader) f here fs ts h =
    into_tag (Some InHeader) (open_with_child f (tree_as_argument here)) fs h.0 (h.1 ++ (tokens_of h.2 ++ bar ∷ []))
    (ts ++ bar ∷ []) h.3
    (⊎_elim (λ k.
    inl (argument_bar Long f.label f.children h.1 h.2 (tree_as_argument here) k (argument_is InHeader h.2 here h.5)))
    (λ k. inr (behind_bar Middle f.label f.children h.1 h.2 (tree_as_argument here) k
    (argument_is InHeader h.2 here h.5))) h.4)
    (more_tokens ts h.0 h.1 (tokens_of h.2) (bar ∷ []) h.6)

close_in : (w : Option TagPlace) (f : Open) (here : Content) (fs : List Open) (ts : List Token) → Inner w f here fs ts
    → Took (last_argument w here (f ∷ fs)) (ts ++ close ∷ [])
close_in None f here fs ts h = tt
close_in (Some InHeader) f here fs ts h =
    into_tag None (open_with_child f (tree_as_argument here)) fs h.0 (h.1 ++ (tokens_of h.2 ++ close ∷ []))
    (ts ++ close ∷ []) h.3
    (header_ends f.label f.children h.1 h.2 (tree_as_argument here) h.4 (argument_is InHeader h.2 here h.5))
    (more_tokens ts h.0 h.1 (tokens_of h.2) (close ∷ []) h.6)
close_in (Some InShort) f here fs ts h =
    add_piece fs (short_tag f.label h.4.1 (arguments_with h.4.0 h.2))
    (tag false (node f.label (forest (f.children ++ tree_as_argument here ∷ [])))) f.before h.0 (ts ++ close ∷ []) h.3
    (ap (λ z. tag false (node f.label (forest z)))
    (children_with h.4.0 h.2 ∙ rw (h.4.2, argument_is InShort h.2 here h.5) refl))
    (more_tokens ts h.0 h.1 (tokens_of h.2) (close ∷ []) h.6
    ∙ ap (λ z. h.0 ++ z) (rw (h.4.3, beginning_with Short f.label h.4.0 h.2) refl))
close_in (Some InClosing) f here fs ts h =
    let b = h.4 in
    long_ends f.label b.0 b.1 b.2 (arguments_with b.3 h.2) f.before fs h.0 (ts ++ close ∷ [])
    (tag false (node f.label (forest (f.children ++ tree_as_argument here ∷ [])))) b.4 h.3
    (ap (λ z. long_tag f.label b.0 (piece_parts b.2) z) (children_with b.3 h.2)
    ∙ child_behind f.label b.0 (piece_parts b.2) (map child_of b.3) (child_of h.2) []
    ∙ ap (λ z. tag false (node f.label (forest z)))
    (sym (rw (b.5, argument_is InClosing h.2 here h.5)
    (append_assoc b.0 (block (piece_parts b.2) ∷ map child_of b.3) (child_of h.2 ∷ [])))))
    (more_tokens ts h.0 h.1 (tokens_of h.2) (close ∷ []) h.6
    ∙ ap (λ z. h.0 ++ z) (rw (b.6, beginning_with Closing f.label b.3 h.2) (simp append_assoc refl)))

-- ---- where a block ends

pub same_is : (l m : List ℕ) → same_bytes l m ≡ true → l ≡ m
same_is [] [] h = refl
same_is [] (c ∷ m) h = absurd cc
same_is (b ∷ l) [] h = absurd cc
same_is (b ∷ l) (c ∷ m) h =
    let p = and_parts (b == c) (same_bytes l m) h in
    ap (λ z. z ∷ l) (is_same_number b c p.0) ∙ ap (λ z. c ∷ z) (same_is l m p.1)

go_took : (c : Bool) (s : State) (ts : List Token) → (c ≡ true → Took s ts) → Took (go c s) ts
go_took true s ts h = h refl
go_took false s ts h = tt

abbrev Goes : Option TagPlace → TagForm → Bool → Open → Content → Type 0
Goes p form more f here =
    (c : Pieces) (q : List Token) → BlockFrame f.label f.children q → tree_as_block here ≡ block (piece_parts c)
    → Frame p f.label (f.children ++ tree_as_block here ∷ []) (q ++ (tokens_of c ++ head form f.label more ∷ []))

next_in : (w : Option TagPlace) (f : Open) (l : List ℕ) (p : Option TagPlace) (form : TagForm) (more : Bool)
    (here : Content) (fs : List Open) (ts : List Token) → Inner w f here fs ts
    → Goes p form more f here → Took (next_block w l p here (f ∷ fs)) (ts ++ head form l more ∷ [])
next_in (Some w) f l p form more here fs ts h k = tt
next_in None f l p form more here fs ts h k =
    go_took (same_bytes l f.label) (in_tag p (open_with_child f (tree_as_block here)) fs) (ts ++ head form l more ∷ [])
    (λ e.
    into_tag p (open_with_child f (tree_as_block here)) fs h.0 (h.1 ++ (tokens_of h.2 ++ head form f.label more ∷ []))
    (ts ++ head form l more ∷ []) h.3
    (k h.2 h.1 h.4 (block_there f.label f.children h.2 here h.5))
    (ap (λ z. ts ++ head form z more ∷ []) (same_is l f.label e)
    ∙ more_tokens ts h.0 h.1 (tokens_of h.2) (head form f.label more ∷ []) h.6))

goes_behind : (form : TagForm) (f : Open) (here : Content) (c : Pieces) (q : List Token)
    → BlockFrame f.label f.children q → tree_as_block here ≡ block (piece_parts c)
    → BehindFrame form f.label (f.children ++ tree_as_block here ∷ [])
    (q ++ (tokens_of c ++ head form f.label true ∷ []))
goes_behind form f here c q h e = (f.children, q, c, [], h, ap (λ z. f.children ++ z ∷ []) e, refl)

goes_middle : (more : Bool) (f : Open) (here : Content) → Goes (header_place more) Middle more f here
goes_middle true f here c q h e = inr (goes_behind Middle f here c q h e)
goes_middle false f here c q h e =
    one_block_more f.label f.children q c no_argument (f.children ++ tree_as_block here ∷ [])
    (q ++ (tokens_of c ++ head Middle f.label false ∷ [])) h (ap (λ z. f.children ++ z ∷ []) e) refl

last_in : (w : Option TagPlace) (f : Open) (l : List ℕ) (here : Content) (fs : List Open) (ts : List Token)
    → Inner w f here fs ts
    → Took (last_block w l here (f ∷ fs)) (ts ++ head Closing l false ∷ [])
last_in (Some w) f l here fs ts h = tt
last_in None f l here fs ts h =
    go_took (same_bytes l f.label) (reading (put_part f.before (long_of f.label f.children here)) fs)
    (ts ++ head Closing l false ∷ []) (λ e.
    long_ends f.label f.children h.1 h.2 no_argument f.before fs h.0 (ts ++ head Closing l false ∷ [])
    (long_of f.label f.children here) h.4 h.3
    (sym (ap (long_of f.label f.children) h.5 ∙ long_is f.label f.children (piece_parts h.2)))
    (ap (λ z. ts ++ head Closing z false ∷ []) (same_is l f.label e)
    ∙ more_tokens ts h.0 h.1 (tokens_of h.2) (head Closing f.label false ∷ []) h.6))

middle_took : (l : List ℕ) (p : Option TagPlace) (form : TagForm) (more : Bool) (here : Content) (fs : List Open)
    (ts : List Token) → Here here fs ts
    → ((f : Open) → Goes p form more f here)
    → Took (next_block (place_of here) l p here fs) (ts ++ head form l more ∷ [])
middle_took l p form more here [] ts h k =
    let P : Option TagPlace → Type 0 = λ w. Took (next_block w l p here []) (ts ++ head form l more ∷ []) in
    elim (place_of here) as P [ None ↦ tt | Some w ↦ tt ]
middle_took l p form more here (f ∷ fs) ts h k =
    let i = inner f here fs ts h in
    let P : Option TagPlace → Type 0 = λ w. Took (next_block w l p here (f ∷ fs)) (ts ++ head form l more ∷ []) in
    subst P (sym i.1) (next_in i.0 f l p form more here fs ts i.2 (k f))

ending_took : (l : List ℕ) (here : Content) (fs : List Open) (ts : List Token) → Here here fs ts
    → Took (last_block (place_of here) l here fs) (ts ++ head Closing l false ∷ [])
ending_took l here [] ts h =
    let P : Option TagPlace → Type 0 = λ w. Took (last_block w l here []) (ts ++ head Closing l false ∷ []) in
    elim (place_of here) as P [ None ↦ tt | Some w ↦ tt ]
ending_took l here (f ∷ fs) ts h =
    let i = inner f here fs ts h in
    let P : Option TagPlace → Type 0 = λ w. Took (last_block w l here (f ∷ fs)) (ts ++ head Closing l false ∷ []) in
    subst P (sym i.1) (last_in i.0 f l here fs ts i.2)

begun_took : (form : TagForm) (more : Bool) (l : List ℕ) (here : Content) (fs : List Open) (ts : List Token) → IsLabel l
    → Here here fs ts → Took (begun form more l here fs) (ts ++ head form l more ∷ [])
begun_took Short true l here fs ts v h =
    into_tag (Some InShort) (open_tag here l []) fs ts (head Short l true ∷ []) _ h ([], v, refl, refl) refl
begun_took Short false l here fs ts v h = add_piece fs (short_tag l v no_argument) _ here ts _ h refl refl
begun_took Long true l here fs ts v h =
    into_tag (Some InHeader) (open_tag here l []) fs ts (head Long l true ∷ []) _ h (inl ([], v, refl, refl)) refl
begun_took Long false l here fs ts v h =
    into_tag None (open_tag here l []) fs ts (head Long l false ∷ []) _ h (no_argument, [], v, refl, refl) refl
begun_took Middle more l here fs ts v h =
    middle_took l (header_place more) Middle more here fs ts h (λ f. goes_middle more f here)
begun_took Closing true l here fs ts v h =
    middle_took l (Some InClosing) Closing true here fs ts h (λ f c q k e. goes_behind Closing f here c q k e)
begun_took Closing false l here fs ts v h = ending_took l here fs ts h

-- ---- one token more

bar_took : (here : Content) (fs : List Open) (ts : List Token) → Here here fs ts
    → Took (next_argument (place_of here) here fs) (ts ++ bar ∷ [])
bar_took here [] ts h =
    let P : Option TagPlace → Type 0 = λ w. Took (next_argument w here []) (ts ++ bar ∷ []) in
    elim (place_of here) as P [ None ↦ tt | Some w ↦ tt ]
bar_took here (f ∷ fs) ts h =
    let i = inner f here fs ts h in
    let P : Option TagPlace → Type 0 = λ w. Took (next_argument w here (f ∷ fs)) (ts ++ bar ∷ []) in
    subst P (sym i.1) (bar_in i.0 f here fs ts i.2)

no_last : (w : Option TagPlace) (here : Content) (ts : List Token) → Took (last_argument w here []) ts
no_last None here ts = tt
no_last (Some InShort) here ts = tt
no_last (Some InHeader) here ts = tt
no_last (Some InClosing) here ts = tt

close_took : (here : Content) (fs : List Open) (ts : List Token) → Here here fs ts
    → Took (last_argument (place_of here) here fs) (ts ++ close ∷ [])
close_took here [] ts h = no_last (place_of here) here (ts ++ close ∷ [])
close_took here (f ∷ fs) ts h =
    let i = inner f here fs ts h in
    let P : Option TagPlace → Type 0 = λ w. Took (last_argument w here (f ∷ fs)) (ts ++ close ∷ []) in
    subst P (sym i.1) (close_in i.0 f here fs ts i.2)

escape_took : (o : Option Escaped) (b : ℕ) (here : Content) (fs : List Open) (ts : List Token) → escape_of b ≡ o
    → Here here fs ts → Took (by_escape o b here fs) (ts ++ escape b ∷ [])
escape_took (Some e) b here fs ts k h = add_piece fs (escaped b e k) _ here ts _ h refl refl
escape_took None b here fs ts k h =
    go_took (b == 60) (naming [] here fs) (ts ++ escape b ∷ [])
    (λ e. (ts, h, record { each = tt; short = omega arith }, ap (λ z. ts ++ escape z ∷ []) (is_same_number b 60 e)))

reading_took : (t : Token) (here : Content) (fs : List Open) (ts : List Token) → IsToken t → Here here fs ts
    → Took (feed_reading here fs t) (ts ++ t ∷ [])
reading_took (white b) here fs ts v h = add_piece fs (blank b) _ here ts _ h refl refl
reading_took (join r) here fs ts v h = tt
reading_took (plain b) here fs ts v h = add_piece fs (letter b v) _ here ts _ h refl refl
reading_took (escape b) here fs ts v h = escape_took (escape_of b) b here fs ts refl h
reading_took raw here fs ts v h = (ts, h, tt, refl)
reading_took (head form l more) here fs ts v h = begun_took form more l here fs ts v h
reading_took bar here fs ts v h = bar_took here fs ts h
reading_took close here fs ts v h = close_took here fs ts h

name_more : (b : ℕ) (n : List ℕ) (t : Token) (here : Content) (fs : List Open) (ts : List Token)
    → Took (naming n here fs) ts → name_token b ≡ t → is_name_byte b ≡ true → length n < MOST_NAME
    → Took (naming (n ++ b ∷ []) here fs) (ts ++ t ∷ [])
name_more b n t here fs ts h e i k = (
  h.0,
  h.1,
  record { each = all_snoc _ n b h.2.each i; short = omega (arith, length-append n (b ∷ [])) },
  rw (h.3, map-append name_token n (b ∷ []), e) (append_assoc h.0 (escape 60 ∷ map name_token n) (t ∷ [])),
)

name_ends : (n : List ℕ) (here : Content) (fs : List Open) (ts : List Token) → Took (naming n here fs) ts → 1 ≤ length n
    → Took (reading (put_part here (text (symbol_bytes n))) fs) (ts ++ escape 62 ∷ [])
name_ends n here fs ts h k =
    add_piece fs (symbol n (record { each = h.2.each; some = k; short = h.2.short })) (text (symbol_bytes n)) here h.0
    (ts ++ escape 62 ∷ []) h.1 refl
    (rw h.3 (append_assoc h.0 (escape 60 ∷ map name_token n) (escape 62 ∷ [])))

no_bar : is_plain (kind_of 124) ≡ false
unfolding kind_of Rattle.tx_tree.specs.Labels.is_label_byte
no_bar = refl

no_backslash : is_plain (kind_of 92) ≡ false
unfolding kind_of Rattle.tx_tree.specs.Labels.is_label_byte
no_backslash = refl

plain_token : (b : ℕ) → is_plain (kind_of b) ≡ true → name_token b ≡ plain b
plain_token b h = rw (other_byte b 124 no_bar h, other_byte b 92 no_backslash h) refl

escaped_token : (b : ℕ) → (b == 124 || b == 92) ≡ true → name_token b ≡ escape b
escaped_token b h = ap (λ z. if z then escape b else plain b) h

escaped_name : (b : ℕ) → (b == 124 || b == 92) ≡ true → is_name_byte b ≡ true
escaped_name b h = grind arith

byte_took : (good : Bool) (b : ℕ) (n : List ℕ) (t : Token) (here : Content) (fs : List Open) (ts : List Token)
    → Took (naming n here fs) ts → (good ≡ true → name_token b ≡ t) → (good ≡ true → is_name_byte b ≡ true)
    → Took (name_byte good n b here fs) (ts ++ t ∷ [])
byte_took good b n t here fs ts h i k =
    go_took (good && nat_lt (length n) MOST_NAME) (naming (n ++ b ∷ []) here fs) (ts ++ t ∷ []) (λ e.
    let p = and_parts good (nat_lt (length n) MOST_NAME) e in
    name_more b n t here fs ts h (i p.0) (k p.0) (ltb-true _ _ p.1))

naming_took : (t : Token) (n : List ℕ) (here : Content) (fs : List Open) (ts : List Token) → IsToken t
    → Took (naming n here fs) ts → Took (feed_naming n here fs t) (ts ++ t ∷ [])
naming_took (plain b) n here fs ts v h =
    byte_took (is_name_byte b) b n (plain b) here fs ts h (λ e. plain_token b v) (λ e. e)
naming_took (escape b) n here fs ts v h =
    elim (b == 62) as
    (λ z. (b == 62) ≡ z → Took (if z then name_end n here fs else name_byte (b == 124 || b == 92) n b here fs)
    (ts ++ escape b ∷ [])) [
      | true ↦ λ e. go_took (nat_le 1 (length n)) (reading (put_part here (text (symbol_bytes n))) fs)
          (ts ++ escape b ∷ [])
          (λ k.
          subst (λ z. Took (reading (put_part here (text (symbol_bytes n))) fs) (ts ++ escape z ∷ []))
          (sym (is_same_number b 62 e)) (name_ends n here fs ts h (leb-true _ _ k)))
      | false ↦ λ e. byte_took (b == 124 || b == 92) b n (escape b) here fs ts h (escaped_token b) (escaped_name b)
    ] refl
naming_took _ n here fs ts v h = tt

counting_took : (t : Token) (ds : List ℕ) (here : Content) (fs : List Open) (ts : List Token)
    → Took (counting ds here fs) ts → Took (feed_counting ds here fs t) (ts ++ t ∷ [])
counting_took (plain b) ds here fs ts h =
    go_took (is_digit b) (counting (ds ++ b ∷ []) here fs) (ts ++ plain b ∷ []) (λ e. (
      h.0,
      h.1,
      all_snoc _ ds b h.2 e,
      rw (h.3, map-append plain ds (b ∷ [])) (append_assoc h.0 (raw ∷ map plain ds) (plain b ∷ [])),
    ))
counting_took close ds here fs ts h =
    add_piece fs (raw_data ds h.2) _ here h.0 _ h.1 refl (rw h.3 (append_assoc h.0 (raw ∷ map plain ds) (close ∷ [])))
counting_took _ ds here fs ts h = tt

feed_took : (s : State) (t : Token) (ts : List Token) → IsToken t → Took s ts → Took (feed s t) (ts ++ t ∷ [])
unfolding feed
feed_took (reading here fs) t ts v h = reading_took t here fs ts v h
feed_took (naming n here fs) t ts v h = naming_took t n here fs ts v h
feed_took (counting ds here fs) t ts v h = counting_took t ds here fs ts h
feed_took failed t ts v h = tt

pub feeds_took : (us : List Token) (s : State) (ts : List Token) → AllByRecursion IsToken us → Took s ts
    → Took (feeds s us) (ts ++ us)
feeds_took [] s ts v h = subst (λ z. Took s z) (sym (append-nil ts)) h
feeds_took (u ∷ us) s ts v h =
    subst (λ z. Took (feeds (feed s u) us) z) (append_assoc ts (u ∷ []) us)
    (feeds_took us (feed s u) (ts ++ u ∷ []) v.1 (feed_took s u ts v.0 h))
