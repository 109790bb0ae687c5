-- What a view keeps, where it isn't fresh, and where it is.
use Rattle.std.proofs.Common.{◌≡◌, ℕ, ◌+◌, ◌≤◌, List, [], ◌∷◌, length, map, Bool, true, false, Option, ap, sym}
use Rattle.std.proofs.Common.{subst, ◌∙◌}
use Rattle.std.proofs.lemmas.List.Elements.{All-nil}
use Rattle.std.specs.List.{AllByRecursion}
use Rattle.std.specs.Prelude.{if◌then◌else◌, None, IfSome, All}
use Rattle.tx_doc.specs.Buffers.{document_of}
use Rattle.tx_doc.specs.declared.buffer.Buffer.{Buffer}
use Rattle.tx_lines.specs.declared.cut.Cut.{Cut}
use Rattle.tx_units.specs.declared.kinds.Unit.{Unit as DocUnit}
use Rattle.tx_units.specs.Units.{units}
use Rattle.tx_items.specs.declared.attributes.Attrs.{Attrs}
use Rattle.tx_view_form.specs.Outcomes.{beginning}
use Rattle.tx_view_form.specs.Views.{AreShown}
use Rattle.tx_bridge.specs.PartsKept.{KeptParts, fresh_parts_from}
use Rattle.tx_bridge.specs.Entries.{Kept, units_of, fresh_from}
use Rattle.tx_bridge.specs.Names.{Charge}
use Rattle.tx_bridge.specs.Strays.{StandAside, kept_strays}
use Rattle.tx_unit_layout.specs.LaidAts.{LaidAt, laid_at}
use Rattle.tx_unit_layout.specs.LaidUnits.{AreLaidParts}
use Rattle.tx_unit_layout.specs.declared.shown.Shown.{Shown}
use Rattle.tx_view.specs.declared.view.View.TheInside.{Inside}
use Rattle.tx_view.specs.declared.lone.Lone.{Lone}
use Rattle.tx_view.specs.Costs.{items_relaid_from}
use Rattle.tx_view.specs.Laid.{AreLaid, HasShortPlaces, laid_in, laid_parts_in, view_stores_in}
use Rattle.tx_view.specs.LaidMoves.{AreAllOrNoneLaid}
use Rattle.tx_view.specs.Lone.{IsLone, IsPaged, WerePages}
use Rattle.tx_view.specs.RowParts.{AreRowParts}
use Rattle.tx_view.specs.Rows.{row_parts}
use Rattle.tx_view.specs.Names.{Bound, Fresh}
use Rattle.tx_view.specs.Stores.{ViewStores, attributes_from, laid_parts_from, fresh_stores}
use Rattle.tx_view.specs.Units.{unit_views, sums_from, row_counts, error_counts, IsBelow, AreAllApart}
use Rattle.tx_unit_layout.specs.Views.{IsReadable}
use Rattle.tx_view.specs.WholeViews.{WholeView, whole_of, all_of, view_stores_of, IsKept}
use Rattle.tx_view.proofs.Forgetting.{AllReadable}
use Rattle.tx_view.proofs.OfParts.{no_parts}

-- what holds at every moment, whatever becomes of a view
pub record IsSized (v : Inside) : Type 0 where
  pub some : 1 ≤ length v.buffers.items
  pub few : length v.buffers.items ≤ 64
  pub least_width : 20 ≤ v.width
  pub most_width : v.width ≤ 500
  pub least_height : 5 ≤ v.height
  pub most_height : v.height ≤ 500
  pub of_buffers : units_of v.bridges.kept ≡ units v.buffers.items

-- ---- one that isn't fresh

-- what is known of the one unit that has changed
abbrev pub IsLeft : Inside → Type 0
IsLeft v =
    IfSome v.lone (λ l. IsLone v.bridges.kept v.hidden.items l.unit l.attrs
    × WerePages v.height (unit_views v.hidden.items) l)

-- the cached traces and the lines of strays
pub record AreAside (v : Inside) : Type 0 where
  pub laid : AreLaidParts v.width (kept_strays v.bridges.strays) v.strays
  pub short : AllByRecursion HasShortPlaces v.strays
  pub stand : StandAside (document_of v.buffers.items) v.bridges.strays

-- where these are shown, each part that is cached is laid out, or none is
abbrev pub AreAllOrNone : Inside → List Shown → Type 0
AreAllOrNone v xs =
    AreAllOrNoneLaid v.bridges.parts (laid_parts_in xs) (kept_strays v.bridges.strays) (map laid_at v.strays)

pub stale : (v : Inside) → IsSized v → v.fresh ≡ false → v.units.items ≡ [] → v.paged.pages.items ≡ []
    → v.paged.rows.items ≡ 0 ∷ [] → v.paged.errors.items ≡ 0 ∷ [] → AreLaid v.width v.bridges.kept v.bridges.parts v.hidden.items
    → AllReadable v.hidden.items → AreAside v → AreAllOrNone v v.hidden.items → IsLeft v → IsKept v
stale v sized off none pages rows errors laid reads aside alike left =
    let all : v.hidden.items ≡ all_of v = ap (λ b. if b then v.units.items else v.hidden.items) (sym off) in
    record {
      some = sized.some;
      few = sized.few;
      least_width = sized.least_width;
      most_width = sized.most_width;
      least_height = sized.least_height;
      most_height = sized.most_height;
      fresh = λ on. absurd (let both : true ≡ false = sym on ∙ off in cc);
      row_parts = λ on. absurd (let both : true ≡ false = sym on ∙ off in cc);
      kept = λ on. absurd (let both : true ≡ false = sym on ∙ off in cc);
      hidden = λ is. none;
      no_pages = λ is. pages;
      of_buffers = sized.of_buffers;
      laid = subst (AreLaid v.width v.bridges.kept v.bridges.parts) all laid;
      all_readable = subst AllReadable all reads;
      strays = aside.laid;
      short = aside.short;
      aside = aside.stand;
      alike = subst (AreAllOrNone v) all alike;
      rows = rows ∙ ap (λ xs. sums_from 0 (row_counts (unit_views xs))) (sym none);
      errors = errors ∙ ap (λ xs. sums_from 0 (error_counts (unit_views xs))) (sym none);
      readable = subst AllReadable (sym none) (All-nil IsReadable);
      below = subst (λ (xs : List Shown). All IsBelow xs) (sym none) (All-nil IsBelow);
      apart = subst (λ (xs : List Shown). AreAllApart (unit_views xs)) (sym none) tt;
      lone = left;
    }

abbrev pub stores_with : Kept → List KeptParts → List (Option Attrs) → List (List LaidAt) → KeptParts → List LaidAt
    → ViewStores
stores_with k pss l lss ks ls =
    record { kept = k; parts = pss; laid = l; laid_parts = lss; strays = ks; laid_strays = ls }

abbrev whole_with : List Buffer → ℕ → ℕ → Bool → List Shown → List Cut → ViewStores → ℕ → WholeView
whole_with bs w h f xs ps s n =
    record {
      buffers = bs;
      width = w;
      height = h;
      fresh = f;
      shown = record { units = unit_views xs; pages = ps };
      row_parts = row_parts xs;
      stores = s;
      work = n;
    }

pub stale_view : (v : Inside) (bs : List Buffer) (k : Kept) (pss : List KeptParts) (l : List (Option Attrs))
    (lss : List (List LaidAt)) (ks : KeptParts) (ls : List LaidAt) → v.fresh ≡ false → v.units.items ≡ []
    → v.paged.pages.items ≡ [] → v.buffers.items ≡ bs → v.bridges.kept ≡ k → v.bridges.parts ≡ pss
    → laid_in v.hidden.items ≡ l → laid_parts_in v.hidden.items ≡ lss → kept_strays v.bridges.strays ≡ ks
    → map laid_at v.strays ≡ ls
    → whole_of v ≡ record {
      buffers = bs;
      width = v.width;
      height = v.height;
      fresh = false;
      shown = record { units = []; pages = [] };
      row_parts = [];
      stores = stores_with k pss l lss ks ls;
      work = v.work;
    }
stale_view v bs k pss l lss ks ls off none pages is_bs is_k is_p is_l is_lss is_ks is_ls =
    let w : ℕ = v.width in
    let h : ℕ = v.height in
    let n : ℕ = v.work in
    let hidden : List Shown = v.hidden.items in
    let shown : List Shown = v.units.items in
    let kept : Kept = v.bridges.kept in
    let parts : List KeptParts = v.bridges.parts in
    let strays : KeptParts = kept_strays v.bridges.strays in
    let ats : List LaidAt = map laid_at v.strays in
    let now : ViewStores = stores_with kept parts (laid_in hidden) (laid_parts_in hidden) strays ats in
    ap (λ f. whole_with v.buffers.items w h f shown v.paged.pages.items
    (stores_with kept parts (laid_in (if f then shown else hidden)) (laid_parts_in (if f then shown else hidden))
    strays ats) n) off
    ∙ ap (λ xs. whole_with v.buffers.items w h false xs v.paged.pages.items now n) none
    ∙ ap (λ ps. whole_with v.buffers.items w h false [] ps now n) pages
    ∙ ap (λ cs. whole_with cs w h false [] [] now n) is_bs
    ∙ ap (λ s. whole_with bs w h false [] [] s n)
    (ap (λ es. stores_with es parts (laid_in hidden) (laid_parts_in hidden) strays ats) is_k
    ∙ ap (λ qss. stores_with k qss (laid_in hidden) (laid_parts_in hidden) strays ats) is_p
    ∙ ap (λ m. stores_with k pss m (laid_parts_in hidden) strays ats) is_l
    ∙ ap (λ mss. stores_with k pss l mss strays ats) is_lss ∙ ap (λ js. stores_with k pss l lss js ats) is_ks
    ∙ ap (stores_with k pss l lss ks) is_ls)

-- nothing is known
pub left_none : (v : Inside) → v.lone ≡ None → IsLeft v
left_none v e =
    subst (λ (o : Option Lone). IfSome o (λ l. IsLone v.bridges.kept v.hidden.items l.unit l.attrs
    × WerePages v.height (unit_views v.hidden.items) l)) (sym e) tt

-- strays have no lines
pub none_aside : (v : Inside) → v.strays ≡ [] → StandAside (document_of v.buffers.items) v.bridges.strays → AreAside v
none_aside v none stand = record {
  laid =
      subst (AreLaidParts v.width (kept_strays v.bridges.strays)) (sym none)
      (no_parts v.width (kept_strays v.bridges.strays));
  short = subst (AllByRecursion HasShortPlaces) (sym none) tt;
  stand = stand;
}

-- ---- a fresh one

pub standing : (v : Inside) → IsSized v → v.fresh ≡ true
    → AreShown v.width beginning (units v.buffers.items) (unit_views v.units.items)
    → AreRowParts v.width beginning (units v.buffers.items) (unit_views v.units.items) (row_parts v.units.items)
    → IsPaged v.height (unit_views v.units.items) v.paged
    → stores_with v.bridges.kept v.bridges.parts (laid_in v.units.items) (laid_parts_in v.units.items)
    (kept_strays v.bridges.strays) (map laid_at v.strays) ≡ Fresh v.buffers.items
    → AreAllApart (unit_views v.units.items) → AreLaid v.width v.bridges.kept v.bridges.parts v.units.items
    → AllReadable v.units.items → All IsBelow v.units.items → AreAside v → AreAllOrNone v v.units.items → v.lone ≡ None
    → IsKept v
standing v sized on shown rows paged stores apart laid reads below aside alike none =
    let all : v.units.items ≡ all_of v = ap (λ b. if b then v.units.items else v.hidden.items) (sym on) in
    record {
      some = sized.some;
      few = sized.few;
      least_width = sized.least_width;
      most_width = sized.most_width;
      least_height = sized.least_height;
      most_height = sized.most_height;
      fresh = λ is. record { shown = shown; paged = paged.pages };
      row_parts = λ is. rows;
      kept = λ is.
          ap (λ xs. stores_with v.bridges.kept v.bridges.parts (laid_in xs) (laid_parts_in xs)
          (kept_strays v.bridges.strays) (map laid_at v.strays)) (sym all) ∙ stores;
      hidden = λ off. absurd (let both : true ≡ false = sym on ∙ off in cc);
      no_pages = λ off. absurd (let both : true ≡ false = sym on ∙ off in cc);
      of_buffers = sized.of_buffers;
      laid = subst (AreLaid v.width v.bridges.kept v.bridges.parts) all laid;
      all_readable = subst AllReadable all reads;
      strays = aside.laid;
      short = aside.short;
      aside = aside.stand;
      alike = subst (AreAllOrNone v) all alike;
      rows = paged.rows;
      errors = paged.errors;
      readable = reads;
      below = below;
      apart = apart;
      lone = left_none v none;
    }

-- all units are evaluated and laid out
pub all_made : (bs : List Buffer) (old new : Kept) (ps : List KeptParts) (laid : List (Option Attrs))
    (lss : List (List LaidAt)) (ks : KeptParts) → units_of old ≡ units bs
    → new ≡ fresh_from beginning (units_of old) → ps ≡ fresh_parts_from beginning (units_of old)
    → laid ≡ attributes_from beginning (units_of old) → lss ≡ laid_parts_from beginning (units_of old) → ks ≡ []
    → stores_with new ps laid lss ks [] ≡ fresh_stores (units bs)
all_made bs old new ps laid lss ks of kept parts attributes ats none =
    let us : List DocUnit = units_of old in
    ap (λ js. stores_with new ps laid lss js []) none ∙ ap (λ k. stores_with k ps laid lss [] []) kept
    ∙ ap (λ q. stores_with (fresh_from beginning us) q laid lss [] []) parts
    ∙ ap (λ l. stores_with (fresh_from beginning us) (fresh_parts_from beginning us) l lss [] []) attributes
    ∙ ap (λ l. stores_with (fresh_from beginning us) (fresh_parts_from beginning us) (attributes_from beginning us) l
    [] []) ats
    ∙ ap fresh_stores of

-- what a refresh of one that isn't fresh takes
pub bound_stale : (v : Inside) → v.fresh ≡ false
    → Bound (view_stores_in v.bridges v.hidden.items) ≡ Bound (view_stores_of v)
unfolding Bound
bound_stale v stale =
    ap (λ b. Charge v.bridges.kept v.bridges.parts + items_relaid_from beginning v.bridges.kept v.bridges.parts
    (laid_in (if b then v.units.items else v.hidden.items))
    (laid_parts_in (if b then v.units.items else v.hidden.items))) (sym stale)
