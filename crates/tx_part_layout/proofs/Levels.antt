-- What a tree adds, by its levels and by how it opens.
use Rattle.std.proofs.Common.{◌≡◌, ℕ, zero, suc, ◌+◌, ◌-◌, List, [], ◌∷◌, ◌++◌, length, drop, map}
use Rattle.std.proofs.Common.{refl, ap, sym, subst, ◌∙◌, arith}
use mathlib.Core.Path.{fun_ext}
use Rattle.std.specs.List.{flat_map}
use Rattle.tx_tree.specs.WideTree.{WideTree}
use Rattle.tx_parts.specs.Openness.{Settings, Openness, With, Shut, openness}
use Rattle.tx_walk.specs.declared.part.Part.{Part as DonePart}
use Rattle.tx_items.specs.declared.attributes.Attrs.{Attrs}
use Rattle.tx_part_items.specs.ShownParts.{PartsShown, own_paragraphs, part_errors, settings_set, settings_given_back}
use Rattle.tx_part_items.specs.ShownParts.{Shower, shut_shown, shown_as, parts_shown}
use Rattle.tx_part_layout.specs.declared.laid.PlacedPart.{PlacedPart}
use Rattle.tx_part_layout.specs.declared.laid.LaidUnit.{LaidUnit}
use Rattle.tx_part_layout.specs.declared.laying.Laying.{Laying}
use Rattle.tx_part_layout.specs.declared.settings.Frame.{Frame}
use Rattle.tx_part_layout.specs.LaidParts.{laid_from, shown_from, laid_paragraphs, items_anew}
use Rattle.tx_part_layout.specs.Laying.{HasLaid, left_values, given_back_by}
use Rattle.tx_part_layout.specs.Slots.{placed_by}
use Rattle.tx_part_layout.proofs.Blanks.{frame_more}
use Rattle.tx_part_layout.proofs.Growing.{nothing_laid}

pub shut_opened : (old : List PlacedPart) (parts : List DonePart) (back : Attrs → Attrs) (x y : Laying) (t : WideTree)
    (shower : Shower) → openness t ≡ Shut →
    HasLaid old parts (shut_shown back x.attrs (left_values parts x.next) t) x y →
    HasLaid old parts (shown_as (openness t) shower back x.attrs (left_values parts x.next) t) x y
shut_opened old parts back x y t shower e h =
    subst (λ (w : Openness). HasLaid old parts (shown_as w shower back x.attrs (left_values parts x.next) t) x y)
    (sym e) h

-- with no level, and with one more than others
pub no_level : (old : List PlacedPart) (parts : List DonePart) (back : Attrs → Attrs) (x : Laying) (t : WideTree)
    (k : ℕ) → k ≡ 0 → HasLaid old parts (parts_shown k back x.attrs (left_values parts x.next) t) x x
unfolding parts_shown
no_level old parts back x t zero e = nothing_laid old parts x
no_level old parts back x t (suc k) e = absurd (omega (arith, e))

pub level_more : (old : List PlacedPart) (parts : List DonePart) (back : Attrs → Attrs) (x y : Laying) (t : WideTree)
    (k n : ℕ) → k ≡ n + 1 →
    HasLaid old parts (shown_as (openness t) (parts_shown n) back x.attrs (left_values parts x.next) t) x y →
    HasLaid old parts (parts_shown k back x.attrs (left_values parts x.next) t) x y
unfolding parts_shown
level_more old parts back x y t zero n e h = absurd (omega (arith, e))
level_more old parts back x y t (suc k) n e h =
    let same : n ≡ k = omega (arith, e) in
    subst (λ (m : ℕ).
    HasLaid old parts (shown_as (openness t) (parts_shown m) back x.attrs (left_values parts x.next) t) x y) same h

pub some_level : (k n : ℕ) → (k ≡ 0 → ⊥) → n ≡ k - 1 → k ≡ n + 1
some_level zero n h e = absurd (h refl)
some_level (suc k) n h e = omega (arith, e)

-- ---- with other attributes, inside other `with`s

-- the same unit so far
pub record IsSameUnit (x z : Laying) : Type 0 where
  pub next : z.next ≡ x.next
  pub slots : z.slots ≡ x.slots
  pub unit : z.unit ≡ x.unit

around : (old : List PlacedPart) (parts : List DonePart) (r : PartsShown) (x u v y : Laying) (a : Attrs) →
    IsSameUnit x u → HasLaid old parts r u v → IsSameUnit v y → y.attrs ≡ a → y.frames.items ≡ x.frames.items →
    HasLaid old parts (record r { after = a }) x y
around old parts r x u v y a m h n attrs frames =
    record {
      next = n.next ∙ h.next ∙ ap (λ i. i + length r.each) m.next;
      left = ap (left_values parts) n.next ∙ h.left;
      attrs = attrs;
      frames = frames;
      laid =
          ap (λ ss. map laid_from (placed_by old ss.items)) n.slots ∙ h.laid
          ∙ ap (λ ss. map laid_from (placed_by old ss.items) ++ map shown_from r.each) m.slots;
      paragraphs =
          ap (λ ss. map laid_paragraphs (placed_by old ss.items)) n.slots ∙ h.paragraphs
          ∙ ap (λ ss. map laid_paragraphs (placed_by old ss.items) ++ map own_paragraphs r.each) m.slots;
      errors =
          ap (λ (w : LaidUnit). w.errors.items) n.unit ∙ h.errors
          ∙ ap (λ (w : LaidUnit). w.errors.items ++ flat_map part_errors r.each) m.unit;
      rest =
          ap (λ (w : LaidUnit). w.paragraphs.items) n.unit ∙ h.rest ∙ ap (λ (w : LaidUnit). w.paragraphs.items) m.unit;
      rest_lines = ap (λ (w : LaidUnit). w.lines) n.unit ∙ h.rest_lines ∙ ap (λ (w : LaidUnit). w.lines) m.unit;
      items =
          ap (λ (w : LaidUnit). w.items) n.unit ∙ h.items
          ∙ ap (λ (w : LaidUnit). w.items + items_anew old (drop u.next parts) r.each) m.unit
          ∙ ap (λ i. x.unit.items + items_anew old (drop i parts) r.each) m.next;
    }

-- round a child of a `document` there is no `with`
pub alone_laid : (old : List PlacedPart) (parts : List DonePart) (k : ℕ) (x u v y : Laying) (t : WideTree) →
    IsSameUnit x u → u.attrs ≡ x.attrs → u.frames.items ≡ [] → IsSameUnit v y → y.attrs ≡ v.attrs →
    y.frames.items ≡ x.frames.items →
    HasLaid old parts (parts_shown k (given_back_by u.frames.items) u.attrs (left_values parts u.next) t) u v →
    HasLaid old parts (parts_shown k (λ b. b) x.attrs (left_values parts x.next) t) x y
alone_laid old parts k x u v y t m before none n behind frames h =
    let r = parts_shown k (λ b. b) x.attrs (left_values parts x.next) t in
    let g : HasLaid old parts r u v =
    subst (λ (i : ℕ). HasLaid old parts (parts_shown k (λ b. b) x.attrs (left_values parts i) t) u v) m.next
    (subst (λ (a : Attrs). HasLaid old parts (parts_shown k (λ b. b) a (left_values parts u.next) t) u v) before
    (subst (λ (fs : List Frame).
    HasLaid old parts (parts_shown k (given_back_by fs) u.attrs (left_values parts u.next) t) u v) none h)) in
    around old parts r x u v y r.after m g n (behind ∙ g.attrs) frames

-- inside one `with` more
inside : (ps : Settings) (a : Attrs) (fs gs : List Frame) (f : Frame) → gs ≡ fs ++ f ∷ [] → f.settings.items ≡ ps →
    f.before ≡ a → given_back_by gs ≡ (λ c. given_back_by fs (settings_given_back ps a c))
inside ps a fs gs f e settings before = fun_ext (λ c.
    ap (λ hs. given_back_by hs c) e ∙ frame_more fs f c
    ∙ ap (λ qs. given_back_by fs (settings_given_back qs f.before c)) settings
    ∙ ap (λ b. given_back_by fs (settings_given_back ps b c)) before)

pub with_laid : (old : List PlacedPart) (parts : List DonePart) (x u v y : Laying) (ps : Settings) (b : WideTree)
    (k : ℕ) (f : Frame) (t : WideTree) → openness t ≡ With ps b → IsSameUnit x u → u.attrs ≡ settings_set ps x.attrs →
    u.frames.items ≡ x.frames.items ++ f ∷ [] → f.settings.items ≡ ps → f.before ≡ x.attrs → IsSameUnit v y →
    y.attrs ≡ settings_given_back ps x.attrs v.attrs → y.frames.items ≡ x.frames.items →
    HasLaid old parts (parts_shown k (given_back_by u.frames.items) u.attrs (left_values parts u.next) b) u v →
    HasLaid old parts
    (shown_as (openness t) (parts_shown k) (given_back_by x.frames.items) x.attrs (left_values parts x.next) t) x y
with_laid old parts x u v y ps b k f t opens m set pushed settings before n given frames h =
    let back : Attrs → Attrs = λ c. given_back_by x.frames.items (settings_given_back ps x.attrs c) in
    let r = parts_shown k back (settings_set ps x.attrs) (left_values parts x.next) b in
    let g : HasLaid old parts r u v =
    subst (λ (i : ℕ). HasLaid old parts (parts_shown k back (settings_set ps x.attrs) (left_values parts i) b) u v)
    m.next
    (subst (λ (a : Attrs). HasLaid old parts (parts_shown k back a (left_values parts u.next) b) u v) set
    (subst (λ (w : Attrs → Attrs). HasLaid old parts (parts_shown k w u.attrs (left_values parts u.next) b) u v)
    (inside ps x.attrs x.frames.items u.frames.items f pushed settings before) h)) in
    subst (λ (w : Openness). HasLaid old parts
    (shown_as w (parts_shown k) (given_back_by x.frames.items) x.attrs (left_values parts x.next) t) x y) (sym opens)
    (around old parts r x u v y (settings_given_back ps x.attrs r.after) m g n
    (given ∙ ap (settings_given_back ps x.attrs) g.attrs) frames)
