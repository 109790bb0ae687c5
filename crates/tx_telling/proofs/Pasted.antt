-- What the line of a text means for the characters that are typed.
use Rattle.std.proofs.Common.{◌≡◌, ℕ, ◌≤◌, Bool, false, List, [], ◌∷◌, length, Option, Some, None, inr}
use Rattle.std.proofs.Common.{MatchOption, sym, ap, subst, ◌∙◌, arith}
use Rattle.std.specs.Prelude.{◌==◌}
use Rattle.std.proofs.lemmas.Bool.{false≢true}
use Rattle.std.proofs.lemmas.List.{append-nil}
use Rattle.tx_tree.specs.Texts.{Item, IsText, item_bytes}
use Rattle.tx_text.specs.Displays.{is_shown_code}
use Rattle.tx_keys.specs.Typing.{IsTyped}
use Rattle.tx_cmd.specs.declared.command.Command.TheVariants.{Typed}
use Rattle.tx_telling.specs.Lines.{HasNoLine, IsScriptLine}
use Rattle.tx_telling.specs.Characters.{IsTypedText, TypesAll, TypesNone, shown_codes}
use Rattle.tx_telling.proofs.Growing.{typed_is_text, typed_short, typed_something}
use Rattle.tx_telling.proofs.Lengths.{item_short}
use Rattle.tx_telling.proofs.Told.{has_line}

pub not_empty : (n : ℕ) (empty : Bool) → empty ≡ (n == 0) → empty ≡ false → n ≡ 0 → ⊥
not_empty n empty is some e = false≢true (sym some ∙ is ∙ ap (λ k. k == 0) e)

-- a line of a text there may be, for any type of lines
module _ {V : Type 0} (bytes_of : V → List ℕ) where
  abbrev IsLine : List ℕ → Option V → Type 0
  IsLine text told = MatchOption told (HasNoLine (Typed text)) (λ line. IsScriptLine (bytes_of line) (Typed text))

  pub one_typed : (code : ℕ) (text : List ℕ) (item : Item) (told : Option V) → IsTyped code item
      → text ≡ item_bytes item → IsLine text told
      → MatchOption told (is_shown_code code ≡ false)
      (λ line. (item : Item) × IsTyped code item × IsScriptLine (bytes_of line) (Typed (item_bytes item)))
  one_typed code text item None typed is none =
      let a_text : IsText text = (item ∷ [], (typed.is_item, tt), is ∙ sym (append-nil (item_bytes item))) in
      absurd (has_line text a_text (omega (arith, ap length is, item_short item typed.is_item)) none)
  one_typed code text item (Some line) typed is told =
      (item, typed, subst (λ t. IsScriptLine (bytes_of line) (Typed t)) is told)

  pub all_typed : (codes text : List ℕ) (told : Option V) → IsTypedText codes text → (length text ≡ 0 → ⊥)
      → IsLine text told → MatchOption told (TypesNone codes) (λ line. TypesAll codes (bytes_of line))
  all_typed codes text None typed some none = inr (text, typed, none)
  all_typed codes text (Some line) typed some told =
      record { some = λ e. some (typed_something codes text typed e); text = text; typed = typed; told = told }

  pub has_room : (codes text : List ℕ) (told : Option V) → IsTypedText codes text → length codes ≤ 2000
      → IsLine text told → told ≡ None → shown_codes codes ≡ []
  has_room codes text None typed few none e =
      absurd (has_line text (typed_is_text codes text typed) (omega (arith, typed_short codes text typed)) none)
  has_room codes text (Some line) typed few told e = cc
