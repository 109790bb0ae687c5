-- The words of TM bytes, found from the left.
use Rattle.std.specs.Prelude.{◌≡◌, ℕ, Bool, true, false, ◌==◌, ◌||◌, ◌&&◌, if◌then◌else◌, List, [], ◌∷◌, ◌++◌}
use Rattle.std.specs.List.{AllByRecursion, flat_map}
use Rattle.tx_tree.specs.Labels.{IsLabel}
use Rattle.tx_tm_form.specs.Bytes.{kind_of, is_white, is_plain, can_escape}
use Rattle.tx_tm_form.specs.declared.places.TagForm.{TagForm}
use Rattle.tx_tm_form.specs.declared.places.TagForm.TheVariants.{Short, Long, Middle, Closing}

-- a byte of white, a join, a byte that stands for itself, a backslash and a byte, <#, the beginning of a tag up to
-- its first | (more is true) or up to its >, and | and > alone
pub data Token : Type 0 where
  white : (b : ℕ) → Token
  join : (with_return : Bool) → Token
  plain : (b : ℕ) → Token
  escape : (b : ℕ) → Token
  raw : Token
  head : (form : TagForm) (label : List ℕ) (more : Bool) → Token
  bar : Token
  close : Token

-- what is between < and a label
abbrev pub form_mark : TagForm → List ℕ
form_mark Short = []
form_mark Long = 92 ∷ []
form_mark Middle = 124 ∷ []
form_mark Closing = 47 ∷ []

-- what is after a label
abbrev pub label_end : Bool → ℕ
label_end true = 124
label_end false = 62

abbrev pub written : Token → List ℕ
written (white b) = b ∷ []
written (join false) = 92 ∷ 10 ∷ []
written (join true) = 92 ∷ 13 ∷ 10 ∷ []
written (plain b) = b ∷ []
written (escape b) = 92 ∷ b ∷ []
written raw = 60 ∷ 35 ∷ []
written (head form label more) = 60 ∷ (form_mark form ++ (label ++ label_end more ∷ []))
written bar = 124 ∷ []
written close = 62 ∷ []

abbrev pub IsToken : Token → Type 0
IsToken (white b) = is_white (kind_of b) ≡ true
IsToken (plain b) = is_plain (kind_of b) ≡ true
IsToken (escape b) = can_escape b ≡ true
IsToken (head form label more) = IsLabel label
IsToken _ = Unit {0}

-- the tokens side by side are the bytes
pub record IsTokenList (bytes : List ℕ) (tokens : List Token) : Type 0 where
  pub each : AllByRecursion IsToken tokens
  pub all : bytes ≡ flat_map written tokens

-- joins stand for nothing, nor do spaces and tabs after a join
abbrev pub is_dropped : Bool → Token → Bool
is_dropped behind_join (join r) = true
is_dropped behind_join (white b) = behind_join && (b == 32 || b == 9)
is_dropped behind_join _ = false

abbrev pub without_joins : Bool → List Token → List Token
without_joins behind_join [] = []
without_joins behind_join (t ∷ ts) =
    if is_dropped behind_join t then without_joins true ts else t ∷ without_joins false ts
