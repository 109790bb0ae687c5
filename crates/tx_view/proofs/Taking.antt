-- The seven variables taken in turn.
use Rattle.std.proofs.Common.{◌≡◌, ℕ, List, refl, ap, ◌∙◌}
use Rattle.std.specs.Prelude.{codes, Some}
use Rattle.tx_env.specs.Environments.{NameMap}
use Rattle.tx_items.specs.Attributes.{Attribute, Series, Shape, Color, Mode, Left, Right, First, attribute_named}
use Rattle.tx_items.specs.Attributes.{with_named, with_value}
use Rattle.tx_items.specs.declared.attributes.Attrs.{Attrs}
use Rattle.tx_view_form.specs.Started.{attributes_of, set_to}
use Rattle.tx_view.specs.Variables.{AreVariables}
use Rattle.tx_view.specs.declared.starts.Variables.{Variables}

one : (env : NameMap) (name word : List ℕ) (which : Attribute) (a b : Attrs) → name ≡ word
    → attribute_named word ≡ Some which
    → b ≡ with_named (attribute_named name) (set_to env name) a → b ≡ with_value which (set_to env word) a
one env name word which a b e named h = h ∙ ap (λ n. with_named (attribute_named n) (set_to env n) a) e
    ∙ ap (λ o. with_named o (set_to env word) a) named

series : attribute_named (codes "font-series") ≡ Some Series
unfolding attribute_named
series = refl

shape : attribute_named (codes "font-shape") ≡ Some Shape
unfolding attribute_named
shape = refl

color : attribute_named (codes "color") ≡ Some Color
unfolding attribute_named
color = refl

mode : attribute_named (codes "par-mode") ≡ Some Mode
unfolding attribute_named
mode = refl

left : attribute_named (codes "par-left") ≡ Some Left
unfolding attribute_named
left = refl

right : attribute_named (codes "par-right") ≡ Some Right
unfolding attribute_named
right = refl

first : attribute_named (codes "par-first") ≡ Some First
unfolding attribute_named
first = refl

pub taken : (env : NameMap) (v : Variables) (a b c d e f g h : Attrs) → AreVariables v → a ≡ v.unset
    → b ≡ with_named (attribute_named v.series) (set_to env v.series) a
    → c ≡ with_named (attribute_named v.shape) (set_to env v.shape) b
    → d ≡ with_named (attribute_named v.color) (set_to env v.color) c
    → e ≡ with_named (attribute_named v.mode) (set_to env v.mode) d
    → f ≡ with_named (attribute_named v.left) (set_to env v.left) e
    → g ≡ with_named (attribute_named v.right) (set_to env v.right) f
    → h ≡ with_named (attribute_named v.first) (set_to env v.first) g
    → h ≡ attributes_of env
taken env v a b c d e f g h are p q r s t u w x =
    one env v.first (codes "par-first") First g h are.first first x
    ∙ ap (with_value First (set_to env (codes "par-first")))
    (one env v.right (codes "par-right") Right f g are.right right w
    ∙ ap (with_value Right (set_to env (codes "par-right"))) (one env v.left (codes "par-left") Left e f are.left left u
    ∙ ap (with_value Left (set_to env (codes "par-left"))) (one env v.mode (codes "par-mode") Mode d e are.mode mode t
    ∙ ap (with_value Mode (set_to env (codes "par-mode"))) (one env v.color (codes "color") Color c d are.color color s
    ∙ ap (with_value Color (set_to env (codes "color")))
    (one env v.shape (codes "font-shape") Shape b c are.shape shape r
    ∙ ap (with_value Shape (set_to env (codes "font-shape")))
    (one env v.series (codes "font-series") Series a b are.series series q
    ∙ ap (with_value Series (set_to env (codes "font-series"))) (p ∙ are.unset)))))))
