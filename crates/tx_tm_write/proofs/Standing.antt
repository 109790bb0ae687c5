-- Bytes that are the words of pieces.
use Rattle.std.proofs.Common.{◌≡◌, ℕ, false, List, [], ◌∷◌, ◌++◌, refl, sym, ap, subst, ◌∙◌, append_assoc}
use Rattle.std.specs.List.{AllByRecursion, flat_map}
use Rattle.std.proofs.lemmas.List.{append-nil}
use Rattle.std.proofs.lemmas.List.Concat.{flat_map-append}
use Rattle.tx_tree.specs.WideTree.{WideTree}
use Rattle.tx_tm_form.specs.Tokens.{Token, white, join, plain, escape, raw, head, bar, close, written, IsToken}
use Rattle.tx_tm_form.specs.Tokens.{is_dropped, without_joins}
use Rattle.tx_tm_form.specs.Parts.{ContentPart, block}
use Rattle.tx_tm_form.specs.Forms.{Piece, Pieces, nothing, piece, tokens_of_piece, tokens_of, piece_part, piece_parts}
use Rattle.tx_tm_form.specs.Forms.{Spells}

-- ---- words

-- a token that is no join
abbrev pub IsWord : Token → Type 0
IsWord (join with_return) = ⊥
IsWord t = IsToken t

-- the tokens side by side are the bytes, and none is a join
pub record AreWords (bytes : List ℕ) (tokens : List Token) : Type 0 where
  pub each : AllByRecursion IsWord tokens
  pub all : bytes ≡ flat_map written tokens

all_both : (ts us : List Token) → AllByRecursion IsWord ts → AllByRecursion IsWord us → AllByRecursion IsWord (ts ++ us)
all_both [] us h k = k
all_both (t ∷ ts) us h k = (h.0, all_both ts us h.1 k)

pub no_word : AreWords [] []
no_word = record { each = tt; all = refl }

pub both_words : (x y : List ℕ) (ts us : List Token) → AreWords x ts → AreWords y us → AreWords (x ++ y) (ts ++ us)
both_words x y ts us h k =
    record { each = all_both ts us h.each k.each; all = rw (h.all, k.all) (sym (flat_map-append written ts us)) }

pub one_word : (t : Token) → IsWord t → AreWords (written t) (t ∷ [])
one_word t h = record { each = (h, tt); all = sym (append-nil (written t)) }

pub word_before : (t : Token) (x : List ℕ) (ts : List Token) → IsWord t → AreWords x ts
    → AreWords (written t ++ x) (t ∷ ts)
word_before t x ts h k = record { each = (h, k.each); all = ap (λ z. written t ++ z) k.all }

is_token : (t : Token) → IsWord t → IsToken t
is_token (join r) h = absurd h
is_token (white b) h = h
is_token (plain b) h = h
is_token (escape b) h = h
is_token raw h = h
is_token (head form l more) h = h
is_token bar h = h
is_token close h = h

each_token : (ts : List Token) → AllByRecursion IsWord ts → AllByRecursion IsToken ts
each_token [] h = tt
each_token (t ∷ ts) h = (is_token t h.0, each_token ts h.1)

not_dropped : (t : Token) → IsWord t → is_dropped false t ≡ false
not_dropped (join r) h = absurd h
not_dropped (white b) h = refl
not_dropped (plain b) h = refl
not_dropped (escape b) h = refl
not_dropped raw h = refl
not_dropped (head form l more) h = refl
not_dropped bar h = refl
not_dropped close h = refl

all_kept : (ts : List Token) → AllByRecursion IsWord ts → without_joins false ts ≡ ts
all_kept [] h = refl
all_kept (t ∷ ts) h = rw (not_dropped t h.0) (ap (λ us. t ∷ us) (all_kept ts h.1))

-- ---- pieces

abbrev pub joined : Pieces → Pieces → Pieces
joined nothing qs = qs
joined (piece p ps) qs = piece p (joined ps qs)

tokens_joined : (ps qs : Pieces) → tokens_of ps ++ tokens_of qs ≡ tokens_of (joined ps qs)
tokens_joined nothing qs = refl
tokens_joined (piece p ps) qs = append_assoc (tokens_of_piece p) (tokens_of ps) (tokens_of qs)
    ∙ ap (λ z. tokens_of_piece p ++ z) (tokens_joined ps qs)

parts_joined : (ps qs : Pieces) → piece_parts (joined ps qs) ≡ piece_parts ps ++ piece_parts qs
parts_joined nothing qs = refl
parts_joined (piece p ps) qs = ap (λ z. piece_part p ∷ z) (parts_joined ps qs)

-- the bytes are the words of pieces that stand for these parts
pub record Stands (bytes : List ℕ) (ps : List ContentPart) : Type 0 where
  pub pieces : Pieces
  pub words : AreWords bytes (tokens_of pieces)
  pub parts : piece_parts pieces ≡ ps

pub nothing_stands : Stands [] []
nothing_stands = record { pieces = nothing; words = no_word; parts = refl }

pub both_stand : (x y : List ℕ) (ps qs : List ContentPart) → Stands x ps → Stands y qs → Stands (x ++ y) (ps ++ qs)
both_stand x y ps qs h k =
    record {
      pieces = joined h.pieces k.pieces;
      words = subst (AreWords (x ++ y)) (tokens_joined h.pieces k.pieces)
          (both_words x y (tokens_of h.pieces) (tokens_of k.pieces) h.words k.words);
      parts = parts_joined h.pieces k.pieces ∙ ap (λ z. z ++ piece_parts k.pieces) h.parts ∙ ap (λ z. ps ++ z) k.parts;
    }

pub one_stands : (p : Piece) (bytes : List ℕ) → AreWords bytes (tokens_of_piece p) → Stands bytes (piece_part p ∷ [])
one_stands p bytes h =
    record {
      pieces = piece p nothing;
      words = subst (AreWords bytes) (sym (append-nil (tokens_of_piece p))) h;
      parts = refl;
    }

-- bytes whose parts are those of a block spell it
pub spells_from : (bytes : List ℕ) (ps : List ContentPart) (t : WideTree) → Stands bytes ps → block ps ≡ t
    → Spells bytes t
spells_from bytes ps t h e =
    record {
      tokens = tokens_of h.pieces;
      file = h.pieces;
      found = record { each = each_token (tokens_of h.pieces) h.words.each; all = h.words.all };
      formed = all_kept (tokens_of h.pieces) h.words.each;
      meant = sym (ap block h.parts ∙ e);
    }
