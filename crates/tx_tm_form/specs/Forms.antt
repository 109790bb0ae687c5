-- The forms of the TM syntax, and what bytes spell.
use Rattle.std.specs.Prelude.{◌≡◌, ℕ, true, false, ◌==◌, ◌||◌, if◌then◌else◌, List, [], ◌∷◌, ◌++◌, map, Some}
use Rattle.std.specs.List.{AllByRecursion}
use Rattle.tx_base.specs.Fronts.{IsFront}
use Rattle.tx_tree.specs.Texts.{IsName}
use Rattle.tx_tree.specs.Labels.{IsLabel}
use Rattle.tx_tree.specs.WideTree.{WideTree, leaf, node, forest}
use Rattle.tx_tm_form.specs.declared.bytes.Escaped.{Escaped}
use Rattle.tx_tm_form.specs.declared.places.TagForm.{TagForm}
use Rattle.tx_tm_form.specs.declared.places.TagForm.TheVariants.{Short, Long, Middle, Closing}
use Rattle.tx_tm_form.specs.Bytes.{kind_of, is_plain, escape_of, escaped_bytes, is_digit, white_of}
use Rattle.tx_tm_form.specs.Tokens.{Token, white, plain, escape, raw, head, bar, close, IsTokenList, without_joins}
use Rattle.tx_tm_form.specs.Parts.{ContentPart, gap, text, tag, content, block, long_tag, raw_data_label}

abbrev pub AreDigits : List ℕ → Type 0
AreDigits = AllByRecursion (λ b. is_digit b ≡ true)

-- A piece of content: a byte of white, a byte that stands for itself, an escape, a symbol, raw data, a short tag with
-- its arguments, or a long tag with its arguments, its first block, the middle tags, and the arguments of its end.
mutual
  pub data Piece : Type 0 where
    blank : (b : ℕ) → Piece
    letter : (b : ℕ) → is_plain (kind_of b) ≡ true → Piece
    escaped : (b : ℕ) (e : Escaped) → escape_of b ≡ Some e → Piece
    symbol : (name : List ℕ) → IsName name → Piece
    raw_data : (digits : List ℕ) → AreDigits digits → Piece
    short_tag : (label : List ℕ) → IsLabel label → (arguments : Arguments) → Piece
    long_tag_of : (label : List ℕ) → IsLabel label
        → (arguments : Arguments) (first : Pieces) (others : Blocks) (last : Arguments) → Piece

  -- content, or a block
  pub data Pieces : Type 0 where
    nothing : Pieces
    piece : (first : Piece) → (others : Pieces) → Pieces

  -- content after | each
  pub data Arguments : Type 0 where
    no_argument : Arguments
    argument : (first : Pieces) → (others : Arguments) → Arguments

  -- middle tags, a block after each
  pub data Blocks : Type 0 where
    no_block : Blocks
    middle_tag : (arguments : Arguments) (block : Pieces) → (others : Blocks) → Blocks

-- ---- how they are written

-- in a symbol, | and \ are after a backslash
abbrev pub name_token : ℕ → Token
name_token b = if b == 124 || b == 92 then escape b else plain b

abbrev mutual
  pub tokens_of_piece : Piece → List Token
  tokens_of_piece (blank b) = white b ∷ []
  tokens_of_piece (letter b h) = plain b ∷ []
  tokens_of_piece (escaped b e h) = escape b ∷ []
  tokens_of_piece (symbol name h) = escape 60 ∷ (map name_token name ++ escape 62 ∷ [])
  tokens_of_piece (raw_data digits h) = raw ∷ (map plain digits ++ close ∷ [])
  tokens_of_piece (short_tag l h xs) = tag_beginning Short l xs
  tokens_of_piece (long_tag_of l h xs first others last) =
      tag_beginning Long l xs ++ (tokens_of first ++ (tokens_of_blocks l others ++ tag_beginning Closing l last))

  pub tokens_of : Pieces → List Token
  tokens_of nothing = []
  tokens_of (piece p ps) = tokens_of_piece p ++ tokens_of ps

  -- a tag's beginning, or its end: < to >
  pub tag_beginning : TagForm → List ℕ → Arguments → List Token
  tag_beginning form l no_argument = head form l false ∷ []
  tag_beginning form l (argument x xs) = head form l true ∷ (tokens_of x ++ more_arguments xs)

  pub more_arguments : Arguments → List Token
  more_arguments no_argument = close ∷ []
  more_arguments (argument x xs) = bar ∷ (tokens_of x ++ more_arguments xs)

  pub tokens_of_blocks : List ℕ → Blocks → List Token
  tokens_of_blocks l no_block = []
  tokens_of_blocks l (middle_tag xs b others) = tag_beginning Middle l xs ++ (tokens_of b ++ tokens_of_blocks l others)

-- ---- what they stand for

abbrev pub symbol_bytes : List ℕ → List ℕ
symbol_bytes name = 60 ∷ (name ++ 62 ∷ [])

abbrev mutual
  pub piece_part : Piece → ContentPart
  piece_part (blank b) = gap (white_of b)
  piece_part (letter b h) = text (b ∷ [])
  piece_part (escaped b e h) = text (escaped_bytes e)
  piece_part (symbol name h) = text (symbol_bytes name)
  piece_part (raw_data digits h) = tag false (node raw_data_label (forest (leaf digits ∷ [])))
  piece_part (short_tag l h xs) = tag false (node l (forest (argument_trees xs)))
  piece_part (long_tag_of l h xs first others last) =
      long_tag l (argument_trees xs) (piece_parts first) (children_of_blocks others (argument_trees last))

  pub piece_parts : Pieces → List ContentPart
  piece_parts nothing = []
  piece_parts (piece p ps) = piece_part p ∷ piece_parts ps

  pub argument_trees : Arguments → List WideTree
  argument_trees no_argument = []
  argument_trees (argument x xs) = content (piece_parts x) ∷ argument_trees xs

  -- the children of the middle tags, and then those of the end
  pub children_of_blocks : Blocks → List WideTree → List WideTree
  children_of_blocks no_block ts = ts
  children_of_blocks (middle_tag xs b others) ts =
      argument_trees xs ++ block (piece_parts b) ∷ children_of_blocks others ts

-- The bytes spell the tree: their tokens, joins aside, are those of a block that stands for it.
pub record Spells (bytes : List ℕ) (t : WideTree) : Type 0 where
  pub tokens : List Token
  pub file : Pieces
  pub found : IsTokenList bytes tokens
  pub formed : without_joins false tokens ≡ tokens_of file
  pub meant : t ≡ block (piece_parts file)

-- the first n bytes can be continued to bytes that spell a tree
abbrev pub IsTmFront : List ℕ → ℕ → Type 0
IsTmFront = IsFront (λ bytes. (t : WideTree) × Spells bytes t)
