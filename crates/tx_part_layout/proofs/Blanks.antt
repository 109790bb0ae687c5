-- The paragraph of a blank part, and the attributes that it has.
use Rattle.std.proofs.Common.{◌≡◌, List, [], ◌∷◌, ◌++◌, ℕ, refl, ap, sym, ◌∙◌}
use Rattle.std.specs.Prelude.{Bool, true, if◌then◌else◌}
use Rattle.tx_items.specs.declared.attributes.Attrs.{Attrs}
use Rattle.tx_items.specs.declared.drawing.Paragraph.{Paragraph}
use Rattle.tx_items.specs.Drawing.{paragraph}
use Rattle.tx_items.specs.Shows.{Shown, show, Form, inline, listed, empty, begun, is_blank, part_paragraphs}
use Rattle.tx_view_form.specs.Views.{AreLines}
use Rattle.tx_part_items.specs.ShownParts.{settings_given_back}
use Rattle.tx_part_layout.specs.declared.laid.LaidPart.{LaidPart}
use Rattle.tx_part_layout.specs.declared.settings.Frame.{Frame}
use Rattle.tx_part_layout.specs.LaidParts.{IsLaidPart}
use Rattle.tx_part_layout.specs.Laying.{given_back_by}

-- by whether the part is blank
pub by_blank : (x : Form) (after end : Attrs) →
    part_paragraphs x end ≡ (if is_blank x then paragraph [] end ∷ [] else part_paragraphs x after)
by_blank (inline empty) after end = refl
by_blank (inline (begun a items)) after end = refl
by_blank (listed ps) after end = refl

pub blank_is : (x : Form) (end : Attrs) → is_blank x ≡ true → part_paragraphs x end ≡ paragraph [] end ∷ []
blank_is x end e = by_blank x end end ∙ ap (λ b. if b then paragraph [] end ∷ [] else part_paragraphs x end) e

-- a part's paragraphs, where these are its own with the attributes after it
pub ended_are : (x : Form) (b : Bool) (after end : Attrs) (own ps : List Paragraph) → b ≡ is_blank x →
    own ≡ part_paragraphs x after → ps ≡ (if b then paragraph [] end ∷ [] else own) → ps ≡ part_paragraphs x end
ended_are x b after end own ps blank are e =
    e ∙ ap (λ c. if c then paragraph [] end ∷ [] else own) blank
    ∙ ap (λ qs. if is_blank x then paragraph [] end ∷ [] else qs) are ∙ sym (by_blank x after end)

-- with other attributes as a paragraph without an item
pub blank_laid : (width : ℕ) (p q : LaidPart) (end : Attrs) → IsLaidPart width p → p.blank ≡ true →
    q.value ≡ p.value → q.before ≡ p.before → q.after ≡ p.after → q.blank ≡ true → q.errors.items ≡ p.errors.items →
    q.paragraphs.items ≡ paragraph [] end ∷ [] → AreLines width q.paragraphs.items q.lines → IsLaidPart width q
blank_laid width p q end h blank value before after also_blank errors own lines =
    let same : show p.before p.value ≡ show q.before q.value =
    ap (λ a. show a p.value) (sym before) ∙ ap (show q.before) (sym value) in
    let is : is_blank (show q.before q.value).form ≡ true =
    ap (λ (s : Shown). is_blank s.form) (sym same) ∙ sym h.blank ∙ blank in
    record {
      end = end;
      paragraphs = own ∙ sym (blank_is (show q.before q.value).form end is);
      errors = errors ∙ h.errors ∙ ap (λ (s : Shown). s.errors) same;
      after = after ∙ h.after ∙ ap (λ (s : Shown). s.after) same;
      blank = also_blank ∙ sym is;
      lines = lines;
    }

-- the attributes after the part are given back
pub blank_again : (width : ℕ) (p : LaidPart) (fs : List Frame) (ps : List Paragraph) → IsLaidPart width p →
    p.blank ≡ true → ps ≡ paragraph [] (given_back_by fs p.after) ∷ [] →
    ps ≡ part_paragraphs (show p.before p.value).form (given_back_by fs (show p.before p.value).after)
blank_again width p fs ps h blank own =
    own ∙ ap (λ a. paragraph [] (given_back_by fs a) ∷ []) h.after
    ∙ sym (blank_is (show p.before p.value).form (given_back_by fs (show p.before p.value).after)
    (sym h.blank ∙ blank))

-- ---- `with`s round a part

-- one `with` more, inside the others
pub frame_more : (fs : List Frame) (g : Frame) (a : Attrs) →
    given_back_by (fs ++ g ∷ []) a ≡ given_back_by fs (settings_given_back g.settings.items g.before a)
frame_more [] g a = refl
frame_more (f ∷ fs) g a = ap (settings_given_back f.settings.items f.before) (frame_more fs g a)
