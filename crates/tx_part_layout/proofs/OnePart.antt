-- What is laid out so far, by one part more.
use Rattle.std.proofs.Common.{◌≡◌, ℕ, ◌+◌, List, [], ◌∷◌, ◌++◌, drop, map}
use Rattle.std.proofs.Common.{ap, sym, subst, ◌∙◌, arith}
use Rattle.std.specs.Prelude.{Some, slice_get, if◌then◌else◌}
use Rattle.std.specs.List.{flat_map}
use Rattle.std.proofs.lemmas.List.{append-nil, map-append}
use Rattle.tx_tree.specs.WideTree.{WideTree}
use Rattle.tx_tree.proofs.Walks.{drop_item}
use Rattle.tx_walk.specs.declared.part.Part.{Part as DonePart}
use Rattle.tx_items.specs.Shows.{Shown, show, part_paragraphs}
use Rattle.tx_part_items.specs.ShownParts.{PartValue, ShownPart, own_paragraphs, part_errors, shut_shown}
use Rattle.tx_part_layout.specs.declared.laid.PlacedPart.{PlacedPart}
use Rattle.tx_part_layout.specs.declared.laying.Laying.{Laying}
use Rattle.tx_part_layout.specs.LaidParts.{IsLaidPart, LaidFrom, laid_from, shown_from, laid_paragraphs, done_value}
use Rattle.tx_part_layout.specs.LaidParts.{is_reused, items_in, items_anew}
use Rattle.tx_part_layout.specs.Laying.{HasLaid, left_values, given_back_by, so_far}
use Rattle.tx_part_layout.proofs.Growing.{none_anew}

-- the next part is laid out, with so many items anew
pub record OnePart (width : ℕ) (old : List PlacedPart) (d : DonePart) (q : PlacedPart) (n : ℕ) (x y : Laying)
    : Type 0 where
  pub laid : IsLaidPart width q.laid.value
  pub path : q.path ≡ d.path
  pub value : q.laid.value.value ≡ d.trace.value
  pub before : q.laid.value.before ≡ x.attrs
  pub own : laid_paragraphs q ≡ part_paragraphs (show x.attrs d.trace.value).form
      (given_back_by x.frames.items (show x.attrs d.trace.value).after)
  pub anew : n ≡ if is_reused old d x.attrs then 0 else items_in (laid_paragraphs q)
  pub next : y.next ≡ x.next + 1
  pub attrs : y.attrs ≡ q.laid.value.after
  pub frames : y.frames.items ≡ x.frames.items
  pub parts : so_far old y ≡ so_far old x ++ q ∷ []
  pub errors : y.unit.errors.items ≡ x.unit.errors.items ++ q.laid.value.errors.items
  pub rest : y.unit.paragraphs.items ≡ x.unit.paragraphs.items
  pub rest_lines : y.unit.lines ≡ x.unit.lines
  pub items : y.unit.items ≡ x.unit.items + n

-- what the next part shows
abbrev next_shown : Laying → DonePart → ShownPart
next_shown x d =
    record {
      path = d.path;
      value = d.trace.value;
      before = x.attrs;
      end = given_back_by x.frames.items (show x.attrs d.trace.value).after;
    }

laid_from_is : (p : PlacedPart) (f : LaidFrom) → p.path ≡ f.path → p.laid.value.value ≡ f.value →
    p.laid.value.before ≡ f.before → laid_from p ≡ f
laid_from_is p f e g h =
    ap (λ x. record { path = x; value = p.laid.value.value; before = p.laid.value.before }) e
    ∙ ap (λ x. record { path = f.path; value = x; before = p.laid.value.before }) g
    ∙ ap (λ x. record { path = f.path; value = f.value; before = x }) h

module _ (width : ℕ) (old : List PlacedPart) (ds : List DonePart) (d : DonePart) (q : PlacedPart) (n : ℕ)
    (x y : Laying) (o : OnePart width old d q n x y) where
  shows : show q.laid.value.before q.laid.value.value ≡ show x.attrs d.trace.value
  shows = ap (λ a. show a q.laid.value.value) o.before ∙ ap (show x.attrs) o.value

  pub one_attrs : y.attrs ≡ (show x.attrs d.trace.value).after
  one_attrs = o.attrs ∙ o.laid.after ∙ ap (λ (z : Shown). z.after) shows

  pub one_from : map laid_from (so_far old y) ≡ map laid_from (so_far old x) ++ shown_from (next_shown x d) ∷ []
  one_from =
      ap (map laid_from) o.parts ∙ map-append laid_from (so_far old x) (q ∷ [])
      ∙ ap (λ f. map laid_from (so_far old x) ++ f ∷ [])
      (laid_from_is q (shown_from (next_shown x d)) o.path o.value o.before)

  pub one_paragraphs : map laid_paragraphs (so_far old y)
      ≡ map laid_paragraphs (so_far old x) ++ own_paragraphs (next_shown x d) ∷ []
  one_paragraphs =
      ap (map laid_paragraphs) o.parts ∙ map-append laid_paragraphs (so_far old x) (q ∷ [])
      ∙ ap (λ ps. map laid_paragraphs (so_far old x) ++ ps ∷ []) o.own

  pub one_errors : y.unit.errors.items ≡ x.unit.errors.items ++ flat_map part_errors (next_shown x d ∷ [])
  one_errors =
      o.errors ∙ ap (λ es. x.unit.errors.items ++ es)
      (o.laid.errors ∙ ap (λ (z : Shown). z.errors) shows ∙ sym (append-nil (show x.attrs d.trace.value).errors))

  pub one_items : y.unit.items ≡ x.unit.items + items_anew old (d ∷ ds) (next_shown x d ∷ [])
  one_items =
      o.items ∙ ap (λ m. x.unit.items + m)
      (o.anew ∙ ap (λ ps. if is_reused old d x.attrs then 0 else items_in ps) o.own ∙ omega (arith, none_anew old ds))

pub one_laid : (width : ℕ) (old : List PlacedPart) (parts : List DonePart) (d : DonePart) (q : PlacedPart) (n : ℕ)
    (x y : Laying) (t : WideTree) → slice_get parts x.next ≡ Some d → OnePart width old d q n x y →
    HasLaid old parts (shut_shown (given_back_by x.frames.items) x.attrs (left_values parts x.next) t) x y
one_laid width old parts d q n x y t at o =
    let rest = drop (x.next + 1) parts in
    let split : drop x.next parts ≡ d ∷ rest = drop_item parts x.next d at in
    subst (λ (vs : List PartValue). HasLaid old parts (shut_shown (given_back_by x.frames.items) x.attrs vs t) x y)
    (sym (ap (map done_value) split))
    (record {
      next = o.next;
      left = ap (left_values parts) o.next;
      attrs = one_attrs width old rest d q n x y o;
      frames = o.frames;
      laid = one_from width old rest d q n x y o;
      paragraphs = one_paragraphs width old rest d q n x y o;
      errors = one_errors width old rest d q n x y o;
      rest = o.rest;
      rest_lines = o.rest_lines;
      items =
          one_items width old rest d q n x y o
          ∙ ap (λ ds. x.unit.items + items_anew old ds (next_shown x d ∷ [])) (sym split);
    })
