-- Lines of one paragraph more, and what the weight of paragraphs says of each.
use Rattle.std.proofs.Common.{◌≡◌, ℕ, ◌<◌, List, [], ◌∷◌, length, ap, refl, sym, subst}
use Rattle.std.proofs.Common.{arith, length-append}
use Rattle.std.specs.List.{flat_map, All}
use Rattle.std.proofs.lemmas.List.Elements.{All-nil, All-cons}
use Rattle.tx_items.specs.declared.drawing.Paragraph.{Paragraph}
use Rattle.tx_layout.specs.declared.layout.Line.{Line}
use Rattle.tx_view_form.specs.Views.{no_lines, IsShown}
use Rattle.tx_view_form.specs.Weights.{weight_of}
use Rattle.std.specs.Prelude.{◌≤◌, ◌*◌, ◌^◌, Option, None}
use Rattle.tx_origin.specs.Values.{WideValue}
use Rattle.tx_items.specs.declared.attributes.Attrs.{Attrs}
use Rattle.tx_items.specs.declared.drawing.ErrorAt.{ErrorAt}
use Rattle.tx_items.specs.Shows.{show}

each_few : (ps : List Paragraph) (n : ℕ) → length (flat_map (λ p. p.items) ps) < n
    → All (λ p. length p.items < n) ps
each_few [] n h = All-nil (λ p. length p.items < n)
each_few (p ∷ ps) n h =
    All-cons (λ q. length q.items < n) p ps (omega (arith, length-append p.items (flat_map (λ q. q.items) ps)))
    (each_few ps n (omega (arith, length-append p.items (flat_map (λ q. q.items) ps))))

pub few_items : (ps qs : List Paragraph) (n : ℕ) → ps ≡ qs → length (flat_map (λ p. p.items) ps) ≤ weight_of ps
    → weight_of qs ≤ 242 * n
    → n ≤ 1000000 → All (λ p. length p.items < 2 ^ 32) ps
few_items ps qs n e h w small = each_few ps (2 ^ 32) (omega (arith, ap weight_of e))

pub shown_nowhere : (width : ℕ) (a : Attrs) (v : WideValue) (path : Option (List ℕ)) (es : List ErrorAt)
    (ps : List Paragraph) (ls : List Line)
    → path ≡ None → es ≡ (show a v).errors → ps ≡ [] → ls ≡ []
    → IsShown width a v path (record { path = None; errors = es; paragraphs = ps; lines = ls })
shown_nowhere width a v path es ps ls e f g h =
    subst (λ (o : Option (List ℕ)).
    IsShown width a v o (record { path = None; errors = es; paragraphs = ps; lines = ls })) (sym e)
    (subst (λ (qs : List Paragraph).
    IsShown width a v None (record { path = None; errors = es; paragraphs = qs; lines = ls })) (sym g)
    (subst (λ (ks : List Line).
    IsShown width a v None (record { path = None; errors = es; paragraphs = []; lines = ks })) (sym h)
    (record { path_is = refl; errors = f; paragraphs = refl; lines = no_lines })))
