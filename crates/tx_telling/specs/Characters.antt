-- What is typed for characters, which are given by their code points.
use Rattle.std.specs.Prelude.{◌≡◌, ◌≢◌, ◌⊎◌, ℕ, List, [], ◌∷◌, filter}
use Rattle.std.specs.List.{flat_map}
use Rattle.tx_tree.specs.Texts.{Item, item_bytes}
use Rattle.tx_text.specs.Displays.{is_shown_code}
use Rattle.tx_keys.specs.Typing.{IsTyped}
use Rattle.tx_cmd.specs.declared.command.Command.TheVariants.{Typed}
use Rattle.tx_telling.specs.Lines.{IsScriptLine, HasNoLine}

-- those that an item of a text shows: no controls, and no surrogates
abbrev pub shown_codes : List ℕ → List ℕ
shown_codes codes = filter is_shown_code codes

-- an item is typed for each of them, in order
abbrev pub AreTyped : List ℕ → List Item → Type 0
AreTyped [] [] = Unit {0}
AreTyped [] (item ∷ items) = ⊥
AreTyped (code ∷ codes) [] = ⊥
AreTyped (code ∷ codes) (item ∷ items) = IsTyped code item × AreTyped codes items

-- the text is what is typed for all that can be typed
pub record IsTypedText (codes text : List ℕ) : Type 0 where
  pub items : List Item
  pub typed : AreTyped (shown_codes codes) items
  pub bytes : text ≡ flat_map item_bytes items

-- the line types all that can be typed, and there is something
pub record TypesAll (codes line : List ℕ) : Type 0 where
  pub some : shown_codes codes ≢ []
  pub text : List ℕ
  pub typed : IsTypedText codes text
  pub told : IsScriptLine line (Typed text)

-- nothing can be typed, or no line has room for all that can
abbrev pub TypesNone : List ℕ → Type 0
TypesNone codes =
    (shown_codes codes ≡ []) ⊎ ((text : List ℕ) × IsTypedText codes text × HasNoLine (Typed text))
