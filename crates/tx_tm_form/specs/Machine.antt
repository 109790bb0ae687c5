-- Reading token by token, and byte by byte.
use Rattle.std.specs.Prelude.{ℕ, Bool, true, false, ◌==◌, ◌||◌, ◌&&◌, nat_lt, nat_le}
use Rattle.std.specs.Prelude.{if◌then◌else◌, List, [], ◌∷◌, ◌++◌, length, Option, Some, None}
use Rattle.tx_tree.specs.declared.TheConstants.{MOST_NAME, MOST_LABEL}
use Rattle.tx_tree.specs.Texts.{is_name_byte}
use Rattle.tx_tree.specs.WideTree.{WideTree, leaf, node, forest}
use Rattle.tx_tm_form.specs.declared.bytes.ByteKind.{ByteKind}
use Rattle.tx_tm_form.specs.declared.bytes.ByteKind.TheVariants.{Name, Blank, Newline, Return, Less}
use Rattle.tx_tm_form.specs.declared.bytes.ByteKind.TheVariants.{Greater, Bar, Backslash, Hash, Slash}
use Rattle.tx_tm_form.specs.declared.bytes.Escaped.{Escaped}
use Rattle.tx_tm_form.specs.declared.places.TagForm.{TagForm}
use Rattle.tx_tm_form.specs.declared.places.TagForm.TheVariants.{Short, Long, Middle, Closing}
use Rattle.tx_tm_form.specs.declared.places.TagPlace.{TagPlace}
use Rattle.tx_tm_form.specs.declared.places.TagPlace.TheVariants.{InShort, InHeader, InClosing}
use Rattle.tx_tm_form.specs.Bytes.{kind_of, escape_of, escaped_bytes, can_escape, is_digit, white_of}
use Rattle.tx_tm_form.specs.Tokens.{Token, white, join, plain, escape, raw, head, bar, close, is_dropped}
use Rattle.tx_tm_form.specs.Parts.{gap, text, tag, raw_data_label, same_bytes}
use Rattle.tx_tm_form.specs.Forms.{symbol_bytes}
use Rattle.tx_tm_form.specs.Growing.{Content, blocks, no_paragraphs, put_part, place_of}
use Rattle.tx_tm_form.specs.Growing.{tree_as_argument, tree_as_block, file_tree, long_of, opened_content}

-- ---- tokens

-- an open tag: the content before it, its label, and its children so far
pub record Open : Type 0 where
  pub before : Content
  pub label : List ℕ
  pub children : List WideTree

-- the innermost content with the open tags round it, the innermost first; or a symbol or raw data in it
pub data State : Type 0 where
  reading : (here : Content) (opens : List Open) → State
  naming : (name : List ℕ) (here : Content) (opens : List Open) → State
  counting : (digits : List ℕ) (here : Content) (opens : List Open) → State
  failed : State

abbrev pub go : Bool → State → State
go true s = s
go false s = failed

abbrev pub open_tag : Content → List ℕ → List WideTree → Open
open_tag before label children = record { before = before; label = label; children = children }

abbrev pub open_with_child : Open → WideTree → Open
open_with_child f t = open_tag f.before f.label (f.children ++ t ∷ [])

-- the next argument or block of an open tag
abbrev pub in_tag : Option TagPlace → Open → List Open → State
in_tag p f fs = reading (opened_content p f.label f.children) (f ∷ fs)

abbrev pub with_node : List ℕ → List WideTree → Content → List Open → State
with_node label children before fs = reading (put_part before (tag false (node label (forest children)))) fs

-- after | in an argument
abbrev pub next_argument : Option TagPlace → Content → List Open → State
next_argument (Some p) here (f ∷ fs) = in_tag (Some p) (open_with_child f (tree_as_argument here)) fs
next_argument _ here fs = failed

abbrev pub closed : Open → List Open → State
closed f fs = with_node f.label f.children f.before fs

-- after > in an argument
abbrev pub last_argument : Option TagPlace → Content → List Open → State
last_argument (Some InHeader) here (f ∷ fs) = in_tag None (open_with_child f (tree_as_argument here)) fs
last_argument (Some p) here (f ∷ fs) = closed (open_with_child f (tree_as_argument here)) fs
last_argument _ here fs = failed

-- after a block, where a middle or closing tag goes on
abbrev pub next_block : Option TagPlace → List ℕ → Option TagPlace → Content → List Open → State
next_block None label p here (f ∷ fs) =
    go (same_bytes label f.label) (in_tag p (open_with_child f (tree_as_block here)) fs)
next_block _ label p here fs = failed

-- after a block, where there is a closing tag without arguments
abbrev pub last_block : Option TagPlace → List ℕ → Content → List Open → State
last_block None label here (f ∷ fs) =
    go (same_bytes label f.label) (reading (put_part f.before (long_of f.label f.children here)) fs)
last_block _ label here fs = failed

abbrev pub header_place : Bool → Option TagPlace
header_place true = Some InHeader
header_place false = None

abbrev pub begun : TagForm → Bool → List ℕ → Content → List Open → State
begun Short true label here fs = in_tag (Some InShort) (open_tag here label []) fs
begun Short false label here fs = with_node label [] here fs
begun Long more label here fs = in_tag (header_place more) (open_tag here label []) fs
begun Middle more label here fs = next_block (place_of here) label (header_place more) here fs
begun Closing true label here fs = next_block (place_of here) label (Some InClosing) here fs
begun Closing false label here fs = last_block (place_of here) label here fs

abbrev pub by_escape : Option Escaped → ℕ → Content → List Open → State
by_escape (Some e) b here fs = reading (put_part here (text (escaped_bytes e))) fs
by_escape None b here fs = go (b == 60) (naming [] here fs)

abbrev pub feed_reading : Content → List Open → Token → State
feed_reading here fs (white b) = reading (put_part here (gap (white_of b))) fs
feed_reading here fs (join r) = failed
feed_reading here fs (plain b) = reading (put_part here (text (b ∷ []))) fs
feed_reading here fs (escape b) = by_escape (escape_of b) b here fs
feed_reading here fs raw = counting [] here fs
feed_reading here fs (head form label more) = begun form more label here fs
feed_reading here fs bar = next_argument (place_of here) here fs
feed_reading here fs close = last_argument (place_of here) here fs

abbrev pub name_byte : Bool → List ℕ → ℕ → Content → List Open → State
name_byte good name b here fs = go (good && nat_lt (length name) MOST_NAME) (naming (name ++ b ∷ []) here fs)

abbrev pub name_end : List ℕ → Content → List Open → State
name_end name here fs = go (nat_le 1 (length name)) (reading (put_part here (text (symbol_bytes name))) fs)

abbrev pub feed_naming : List ℕ → Content → List Open → Token → State
feed_naming name here fs (plain b) = name_byte (is_name_byte b) name b here fs
feed_naming name here fs (escape b) =
    if b == 62 then name_end name here fs else name_byte (b == 124 || b == 92) name b here fs
feed_naming name here fs _ = failed

abbrev pub feed_counting : List ℕ → Content → List Open → Token → State
feed_counting digits here fs (plain b) = go (is_digit b) (counting (digits ++ b ∷ []) here fs)
feed_counting digits here fs close = with_node raw_data_label (leaf digits ∷ []) here fs
feed_counting digits here fs _ = failed

unfoldable pub feed : State → Token → State
feed (reading here fs) t = feed_reading here fs t
feed (naming name here fs) t = feed_naming name here fs t
feed (counting digits here fs) t = feed_counting digits here fs t
feed failed t = failed

abbrev pub feeds : State → List Token → State
feeds s [] = s
feeds s (t ∷ ts) = feeds (feed s t) ts

-- ---- bytes to tokens

-- what of a token has been read: nothing, \, \ and 13, <, or a tag's beginning up to some bytes of its label
pub data Lex : Type 0 where
  ready : Lex
  slashed : Lex
  returned : Lex
  angled : Lex
  labelled : (form : TagForm) (label : List ℕ) → Lex

-- after a byte: within a token, or at its end
pub data Lexed : Type 0 where
  within : (q : Lex) → Lexed
  done : (t : Token) → Lexed
  bad : Lexed

abbrev pub if_good : Bool → Lexed → Lexed
if_good true r = r
if_good false r = bad

unfoldable pub lex_ready : ByteKind → ℕ → Lexed
lex_ready Blank b = done (white b)
lex_ready Newline b = done (white b)
lex_ready Return b = done (white b)
lex_ready Less b = within angled
lex_ready Greater b = done close
lex_ready Bar b = done bar
lex_ready Backslash b = within slashed
lex_ready _ b = done (plain b)

unfoldable pub lex_slashed : ByteKind → ℕ → Lexed
lex_slashed Newline b = done (join false)
lex_slashed Return b = within returned
lex_slashed _ b = if_good (can_escape b) (done (escape b))

unfoldable pub lex_returned : ByteKind → Lexed
lex_returned Newline = done (join true)
lex_returned _ = bad

unfoldable pub lex_angled : ByteKind → ℕ → Lexed
lex_angled Backslash b = within (labelled Long [])
lex_angled Bar b = within (labelled Middle [])
lex_angled Slash b = within (labelled Closing [])
lex_angled Hash b = done raw
lex_angled Name b = within (labelled Short (b ∷ []))
lex_angled _ b = bad

unfoldable pub lex_labelled : TagForm → List ℕ → ByteKind → ℕ → Lexed
lex_labelled form label Name b = if_good (nat_lt (length label) MOST_LABEL) (within (labelled form (label ++ b ∷ [])))
lex_labelled form label Bar b = if_good (nat_le 1 (length label)) (done (head form label true))
lex_labelled form label Greater b = if_good (nat_le 1 (length label)) (done (head form label false))
lex_labelled form label _ b = bad

abbrev pub lex : Lex → ByteKind → ℕ → Lexed
lex ready k b = lex_ready k b
lex slashed k b = lex_slashed k b
lex returned k b = lex_returned k
lex angled k b = lex_angled k b
lex (labelled form label) k b = lex_labelled form label k b

-- a machine that takes tokens, given bytes
pub data Bytewise (S : Type 0) : Type 0 where
  at : (q : Lex) (s : S) → Bytewise S
  lost : Bytewise S

abbrev pub after_lexed : {S : Type 0} → (S → Token → S) → S → Lexed → Bytewise S
after_lexed fd s (within q) = at q s
after_lexed fd s (done t) = at ready (fd s t)
after_lexed fd s bad = lost

abbrev pub step : {S : Type 0} → (S → Token → S) → Bytewise S → ℕ → Bytewise S
step fd (at q s) b = after_lexed fd s (lex q (kind_of b) b)
step fd lost b = lost

abbrev pub run : {S : Type 0} → (S → Token → S) → Bytewise S → List ℕ → Bytewise S
run fd s [] = s
run fd s (b ∷ bs) = run fd (step fd s b) bs

-- ---- both

-- a state, and whether a join, and then only spaces and tabs, are before it
pub record Keeping : Type 0 where
  pub behind_join : Bool
  pub state : State

abbrev pub keep : Keeping → Token → Keeping
keep k t =
    if is_dropped k.behind_join t
    then record { behind_join = true; state = k.state }
    else record { behind_join = false; state = feed k.state t }

abbrev pub keeps : Keeping → List Token → Keeping
keeps k [] = k
keeps k (t ∷ ts) = keeps (keep k t) ts

abbrev pub start : Bytewise Keeping
start = at ready (record { behind_join = false; state = reading (blocks no_paragraphs) [] })

abbrev pub state_tree : State → Option WideTree
state_tree (reading here []) = file_tree here
state_tree _ = None

abbrev pub tree_if : Lex → Keeping → Option WideTree
tree_if ready k = state_tree k.state
tree_if _ k = None

abbrev pub tree_in : Bytewise Keeping → Option WideTree
tree_in (at q k) = tree_if q k
tree_in lost = None

unfoldable pub reads : List ℕ → Option WideTree
reads bytes = tree_in (run keep start bytes)
