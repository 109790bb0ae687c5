-- Lines of one paragraph more, of more paragraphs, and of parts in their places.
use Rattle.std.proofs.Common.{◌≡◌, ℕ, ◌+◌, ◌<◌, List, [], ◌∷◌, ◌++◌, length, take, get_or, map, ap, ◌∙◌, sym, subst}
use Rattle.std.proofs.Common.{append_assoc}
use Rattle.std.specs.List.{All}
use Rattle.std.proofs.lemmas.List.{append-nil, take_more}
use Rattle.std.proofs.lemmas.List.Elements.{All-head, All-tail}
use Rattle.tx_items.specs.declared.drawing.Paragraph.{Paragraph}
use Rattle.tx_layout.specs.declared.layout.Line.{Line}
use Rattle.tx_layout.specs.Shapes.{IsShape}
use Rattle.tx_view_form.specs.Views.{AreLines, no_lines, lines_then}
use Rattle.tx_part_items.specs.ItemsUnder.{paragraph_under}
use Rattle.tx_part_layout.specs.declared.laid.PlacedPart.{PlacedPart}
use Rattle.tx_part_layout.specs.LinesUnder.{line_under}
use Rattle.tx_part_layout.specs.LaidParts.{IsLaidPart, placed_paragraphs, placed_lines}

pub both_lines : {width : ℕ} {ps qs : List Paragraph} {ls ms : List Line} → AreLines width ps ls
    → AreLines width qs ms → AreLines width (ps ++ qs) (ls ++ ms)
both_lines no_lines t = t
both_lines {width} {qs = qs} {ms = ms} (lines_then p ps own others s rest) t =
    subst (λ (ls : List Line). AreLines width (p ∷ (ps ++ qs)) ls) (sym (append_assoc own others ms))
    (lines_then p (ps ++ qs) own (others ++ ms) s (both_lines rest t))

pub own_lines_are : {width : ℕ} (p : Paragraph) (own : List Line) → IsShape p width own
    → AreLines width (p ∷ []) own
own_lines_are {width} p own s =
    subst (λ (ls : List Line). AreLines width (p ∷ []) ls) (append-nil own) (lines_then p [] own [] s no_lines)

pub lines_next : (width : ℕ) (ps : List Paragraph) (i : ℕ) (p : Paragraph) (ls own new : List Line) → i < length ps
    → p ≡ get_or ps i p
    → AreLines width (take i ps) ls → IsShape p width own → new ≡ ls ++ own → AreLines width (take (i + 1) ps) new
lines_next width ps i p ls own new lt is so shape e =
    subst (λ (ns : List Line). AreLines width (take (i + 1) ps) ns) (sym e)
    (subst (λ (qs : List Paragraph). AreLines width qs (ls ++ own))
    (sym (take_more ps i p lt ∙ ap (λ q. take i ps ++ q ∷ []) (sym is))) (both_lines so (own_lines_are p own shape)))

-- where these are the paragraphs and the lines
pub lines_are : (width : ℕ) (ps qs : List Paragraph) (ls ms : List Line) → AreLines width ps ls → qs ≡ ps → ms ≡ ls →
    AreLines width qs ms
lines_are width ps qs ls ms h e f =
    subst (λ (ns : List Line). AreLines width qs ns) (sym f)
    (subst (λ (rs : List Paragraph). AreLines width rs ls) (sym e) h)

-- the law of lines under a path
abbrev pub Deeper : Type 0
Deeper =
    (base : List ℕ) (width : ℕ) (ps : List Paragraph) (ls : List Line) → AreLines width ps ls →
    AreLines width (map (paragraph_under base) ps) (map (line_under base) ls)

pub lines_in_place : (deeper : Deeper) (width : ℕ) (ps : List PlacedPart) →
    All (λ p. IsLaidPart width p.laid.value) ps → AreLines width (placed_paragraphs ps) (placed_lines ps)
lines_in_place deeper width [] h = no_lines
lines_in_place deeper width (p ∷ ps) h =
    both_lines
    (deeper p.path width p.laid.value.paragraphs.items p.laid.value.lines
    (All-head (λ q. IsLaidPart width q.laid.value) p ps h).lines)
    (lines_in_place deeper width ps (All-tail (λ q. IsLaidPart width q.laid.value) p ps h))
