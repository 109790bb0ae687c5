-- The marks of a unit that has a path are places of the document.
use Rattle.std.proofs.Common.{◌≡◌, ℕ, List, [], ◌∷◌, ◌++◌, Option, Some, None, refl, sym, ap, ◌∙◌, subst}
use Rattle.std.specs.Prelude.{All}
use Rattle.std.specs.FinMap.{get}
use Rattle.std.specs.List.{AllByRecursion}
use Rattle.tx_tree.specs.Texts.{IsText}
use Rattle.tx_tree.specs.WideTree.{WideTree, leaf}
use Rattle.tx_tree.specs.Limits.{IsWellFormed}
use Rattle.tx_tree.specs.Paths.{subtree}
use Rattle.tx_tree.specs.Places.{IsPlace}
use Rattle.tx_origin.specs.TaggedTrees.{TaggedTree, tagged_of}
use Rattle.tx_origin.specs.Values.{WideValue, WideValues, text, made, none, also}
use Rattle.tx_exec_form.specs.declared.TheConstants.{MOST_LEVELS}
use Rattle.tx_exec_form.specs.Evaluated.{WideTrace, evaluated}
use Rattle.tx_exec_form.specs.Laws.{LeadsIn, ComesFrom, AllComeFrom}
use Rattle.tx_exec_form.proofs.Tracing.{comes}
use Rattle.tx_doc.specs.Buffers.{AreFormed, document_of}
use Rattle.tx_doc.specs.declared.buffer.Buffer.{Buffer}
use Rattle.tx_units.specs.declared.kinds.Unit.{Unit as DocUnit}
use Rattle.tx_units.specs.Places.{UnitStandsIn}
use Rattle.tx_units.specs.Units.{units}
use Rattle.tx_items.specs.declared.attributes.Attrs.{Attrs}
use Rattle.tx_items.specs.declared.drawing.Paragraph.{Paragraph}
use Rattle.tx_items.specs.Shows.{shown_paragraphs}
use Rattle.tx_view_form.specs.Outcomes.{Moment, beginning, outcome, allowance, behind, unit_value}
use Rattle.tx_view_form.specs.Started.{attributes_of}
use Rattle.tx_view_form.specs.Views.{UnitView, paragraphs_at, IsShown, AreShown, WideView, IsView}
use Rattle.tx_view_form.specs.Positions.{Mark}
use Rattle.tx_view_form.proofs.Behind.{subtree_behind, formed_behind, document_formed, start_place, cut_place}
use Rattle.tx_view_form.proofs.Marking.{some_once, OnMark, InText, shown_marked, capped_marked}
use Rattle.tx_view_form.proofs.OnLines.{lines_hold}
use Rattle.tx_view_form.proofs.PathUnits.{Stands, units_stand}
use Rattle.tx_view_form.proofs.ShownItems.{EachText, EachTexts}

-- both ends of a mark of a unit with this path are places
abbrev pub IsLocated : WideTree → List ℕ → Mark → Type 0
IsLocated document path m =
    IsPlace document (path ++ m.origin) m.start × IsPlace document (path ++ m.origin) m.stop

-- all marks of a unit with this path are located, and the path is a place
pub record HasPlaces (document : WideTree) (path : List ℕ) (x : UnitView) : Type 0 where
  pub root : IsPlace document path 0
  pub items : All (λ p. All (OnMark (IsLocated document path)) p.items) x.paragraphs
  pub lines : All (λ line. All (OnMark (IsLocated document path)) line.items) x.lines

abbrev pub ArePlaces : WideTree → UnitView → Type 0
ArePlaces document x = (path : List ℕ) → x.path ≡ Some path → HasPlaces document path x

-- ---- texts of a value, where its tree is at the path and the root is its origin

module _ (document : WideTree) (formed : IsWellFormed document) (path : List ℕ) (t : TaggedTree)
    (there : subtree document path ≡ Some t.tree) (at_root : t.at ≡ Some []) where
  text_located : (words p : List ℕ) → LeadsIn t p (λ u. u ≡ leaf words)
      → InText (IsLocated document path) words (Some p)
  text_located words p h =
      let base : h.base ≡ [] = some_once h.base [] (sym h.is_base ∙ at_root) in
      let origin : p ≡ h.path = h.is_behind ∙ ap (λ b. b ++ h.path) base in
      let found : subtree document (path ++ p) ≡ Some (leaf words) =
      ap (λ q. subtree document (path ++ q)) origin ∙ subtree_behind document t.tree path h.path there
      ∙ h.leads ∙ ap Some h.holds in
      let is_text : IsText words = formed_behind document (leaf words) (path ++ p) found formed in (
        is_text,
        (λ start stop a b. (
          cut_place document words (path ++ p) start found a,
          cut_place document words (path ++ p) stop found b,
        )),
      )

  mutual
    value_located : (v : WideValue) → ComesFrom t v → EachText (InText (IsLocated document path)) v
    value_located (text words None) h = tt
    value_located (text words (Some p)) h = text_located words p h
    value_located (made label vs at) h = values_located vs h.1

    values_located : (vs : WideValues) → AllComeFrom t vs → EachTexts (InText (IsLocated document path)) vs
    values_located none h = tt
    values_located (also v vs) h = (value_located v h.0, values_located vs h.1)

  outcome_located : (m : Moment) → EachText (InText (IsLocated document path)) (unit_value (outcome t m))
  unfolding outcome
  outcome_located m = by (evaluated t (get m.env) (allowance m)) refl
    where
      by : (o : Option WideTrace) → evaluated t (get m.env) (allowance m) ≡ o
          → EachText (InText (IsLocated document path)) (unit_value o)
      by None e = (tt, (tt, tt))
      by (Some trace) e = value_located trace.value (comes MOST_LEVELS (allowance m) t (get m.env) trace e)

-- ---- units

unit_located : (document : WideTree) (width : ℕ) (m : Moment) (u : DocUnit) (x : UnitView) → IsWellFormed document
    → Stands document u
    → IsShown width (attributes_of m.env) (unit_value (outcome (tagged_of u.tagged) m)) u.path x → ArePlaces document x
unit_located document width m u x formed stands h path e =
    let t : TaggedTree = tagged_of u.tagged in
    let a : Attrs = attributes_of m.env in
    let v : WideValue = unit_value (outcome t m) in
    let has : u.path ≡ Some path = sym h.path_is ∙ e in
    let s : UnitStandsIn document u = stands path has in
    let same : s.path ≡ path = some_once s.path path (sym s.has_path ∙ has) in
    let there : subtree document path ≡ Some u.tagged.tree = ap (subtree document) (sym same) ∙ s.leads in
    let shown : x.paragraphs ≡ shown_paragraphs a v = h.paragraphs ∙ ap (λ o. paragraphs_at o a v) has in
    let marked : All (λ p. All (OnMark (IsLocated document path)) p.items) (shown_paragraphs a v) =
    shown_marked (IsLocated document path) a v (outcome_located document formed path t there s.at_root m) in
    let Marked : List Paragraph → Type 0 = λ ps. All (λ p. All (OnMark (IsLocated document path)) p.items) ps in
    let items : Marked x.paragraphs = subst Marked (sym shown) marked in
    record {
      root = start_place document u.tagged.tree path there formed;
      items = items;
      lines = lines_hold (OnMark (IsLocated document path)) (λ n m e. absurd cc) (capped_marked (IsLocated document path)) width
          x.paragraphs x.lines h.lines items;
    }

all_located : (document : WideTree) (width : ℕ) (m : Moment) (us : List DocUnit) (xs : List UnitView)
    → IsWellFormed document → AllByRecursion (Stands document) us → AreShown width m us xs
    → AllByRecursion (ArePlaces document) xs
all_located document width m [] [] formed s h = tt
all_located document width m [] (x ∷ xs) formed s h = absurd h
all_located document width m (u ∷ us) [] formed s h = absurd h
all_located document width m (u ∷ us) (x ∷ xs) formed s h = (
  unit_located document width m u x formed s.0 h.0,
  all_located document width (behind m (outcome (tagged_of u.tagged) m)) us xs formed s.1 h.1,
)

pub view_located : (buffers : List Buffer) (width height : ℕ) (v : WideView) → AreFormed buffers
    → IsView buffers width height v → AllByRecursion (ArePlaces (document_of buffers)) v.units
view_located buffers width height v formed h =
    all_located (document_of buffers) width beginning (units buffers) v.units (document_formed buffers formed)
    (units_stand buffers) h.shown
