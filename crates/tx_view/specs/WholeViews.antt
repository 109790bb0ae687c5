-- A view, as contracts see it.
use Rattle.std.specs.Prelude.{◌≡◌, ℕ, ◌≤◌, Bool, true, false, if◌then◌else◌, List, [], length, map, Option, IfSome, All}
use Rattle.std.specs.Prelude.{refl}
use Rattle.std.specs.Coded.{Coded, code_by, coded×, coded_list, coded_option, coded_ℕ, coded_bool}
use Rattle.std.specs.List.{AllByRecursion}
use Rattle.tx_doc.specs.Buffers.{document_of}
use Rattle.tx_doc.specs.contracts.buffer.Buffer as one_buffer
use Rattle.tx_doc.specs.declared.buffer.Buffer.{Buffer}
use Rattle.tx_items.specs.contracts.drawing.ErrorAt as one_error
use Rattle.tx_items.specs.contracts.drawing.Paragraph as one_paragraph
use Rattle.tx_layout.specs.contracts.layout.Line as one_line
use Rattle.tx_lines.specs.contracts.cut.Cut as one_cut
use Rattle.tx_lines.specs.declared.cut.Cut.{Cut}
use Rattle.tx_items.specs.declared.drawing.ErrorAt.{ErrorAt}
use Rattle.tx_items.specs.declared.drawing.Paragraph.{Paragraph}
use Rattle.tx_layout.specs.declared.layout.Line.{Line}
use Rattle.tx_view_form.specs.Outcomes.{beginning}
use Rattle.tx_view_form.specs.Views.{UnitView, WideView, IsView}
use Rattle.tx_units.specs.Units.{units}
use Rattle.tx_bridge.specs.Entries.{units_of}
use Rattle.tx_bridge.specs.Strays.{StandAside, kept_strays}
use Rattle.tx_unit_layout.specs.LaidAts.{laid_at}
use Rattle.tx_unit_layout.specs.LaidUnits.{AreLaidParts}
use Rattle.tx_view.specs.Laid.{all_stores_in, AreLaid, HasShortPlaces, laid_parts_in}
use Rattle.tx_view.specs.LaidMoves.{AreAllOrNoneLaid}
use Rattle.tx_view.specs.Lone.{IsLone, WerePages}
use Rattle.tx_view.specs.Names.{Fresh}
use Rattle.tx_view.specs.Stores.{ViewStores, coded_Stores}
use Rattle.tx_unit_layout.specs.declared.shown.Shown.{Shown}
use Rattle.tx_view.specs.RowParts.{AreRowParts}
use Rattle.tx_view.specs.Rows.{row_parts}
use Rattle.tx_view.specs.Units.{unit_views, sums_from, row_counts, error_counts, IsBelow, AreAllApart}
use Rattle.tx_unit_layout.specs.Views.{IsReadable}
use Rattle.tx_view.specs.declared.view.View.TheInside.{Inside}

-- the buffers, the size of pages, whether it is fresh, what is shown, of each row the path of the part that shows it,
-- what is cached from refresh to refresh, and by how many steps the last refresh that ended raised the count
pub record WholeView : Type 0 where
  pub buffers : List Buffer
  pub width : ℕ
  pub height : ℕ
  pub fresh : Bool
  pub shown : WideView
  pub row_parts : List (List ℕ)
  pub stores : ViewStores
  pub work : ℕ

-- what is shown of each unit, or was before the buffers changed
abbrev pub all_of : Inside → List Shown
all_of v = if v.fresh then v.units.items else v.hidden.items

abbrev pub view_stores_of : Inside → ViewStores
view_stores_of v = all_stores_in v.bridges (all_of v) v.strays

abbrev pub whole_of : Inside → WholeView
whole_of v =
    record {
      buffers = v.buffers.items;
      width = v.width;
      height = v.height;
      fresh = v.fresh;
      shown = record { units = unit_views v.units.items; pages = v.paged.pages.items };
      row_parts = row_parts v.units.items;
      stores = view_stores_of v;
      work = v.work;
    }

-- what the fields have to do with one another
pub record IsKept (v : Inside) : Type 0 where
  pub some : 1 ≤ length v.buffers.items
  pub few : length v.buffers.items ≤ 64
  pub least_width : 20 ≤ v.width
  pub most_width : v.width ≤ 500
  pub least_height : 5 ≤ v.height
  pub most_height : v.height ≤ 500
  pub fresh : v.fresh ≡ true → IsView v.buffers.items v.width v.height (whole_of v).shown
  pub row_parts : v.fresh ≡ true
      → AreRowParts v.width beginning (units v.buffers.items) (whole_of v).shown.units (whole_of v).row_parts
  pub kept : v.fresh ≡ true → view_stores_of v ≡ Fresh v.buffers.items
  pub hidden : v.fresh ≡ false → v.units.items ≡ []
  pub no_pages : v.fresh ≡ false → v.paged.pages.items ≡ []
  pub of_buffers : units_of v.bridges.kept ≡ units v.buffers.items
  pub laid : AreLaid v.width v.bridges.kept v.bridges.parts (all_of v)
  pub all_readable : All IsReadable (all_of v)
  pub strays : AreLaidParts v.width (kept_strays v.bridges.strays) v.strays
  pub short : AllByRecursion HasShortPlaces v.strays
  pub aside : StandAside (document_of v.buffers.items) v.bridges.strays
  pub alike :
      AreAllOrNoneLaid v.bridges.parts (laid_parts_in (all_of v)) (kept_strays v.bridges.strays) (map laid_at v.strays)
  pub rows : v.paged.rows.items ≡ sums_from 0 (row_counts (unit_views v.units.items))
  pub errors : v.paged.errors.items ≡ sums_from 0 (error_counts (unit_views v.units.items))
  pub lone : IfSome v.lone (λ l. IsLone v.bridges.kept v.hidden.items l.unit l.attrs
      × WerePages v.height (unit_views v.hidden.items) l)
  pub readable : All IsReadable v.units.items
  pub below : All IsBelow v.units.items
  pub apart : AreAllApart (unit_views v.units.items)

-- ---- the code by which proofs distinguish views

abbrev unit_code : Coded UnitView
unit_code = code_by (Option (List ℕ) × (List ErrorAt × (List Paragraph × List Line)))
    (coded× (coded_option (coded_list coded_ℕ))
    (coded× (coded_list one_error.the_row.coded)
    (coded× (coded_list one_paragraph.the_row.coded) (coded_list one_line.the_row.coded))))
    (λ x. (x.path, (x.errors, (x.paragraphs, x.lines))))
    (λ p. record { path = p.0; errors = p.1.0; paragraphs = p.1.1.0; lines = p.1.1.1 }) (λ _. refl)

abbrev view_code : Coded WideView
view_code = code_by (List UnitView × List Cut) (coded× (coded_list unit_code) (coded_list one_cut.the_row.coded))
    (λ v. (v.units, v.pages)) (λ p. record { units = p.0; pages = p.1 }) (λ _. refl)

abbrev pub whole_code : Coded WholeView
whole_code = code_by (List Buffer × (ℕ × (ℕ × (Bool × (WideView × (List (List ℕ) × (ViewStores × ℕ)))))))
    (coded× (coded_list one_buffer.the_row.coded)
    (coded× coded_ℕ
    (coded× coded_ℕ
    (coded× coded_bool
    (coded× view_code (coded× (coded_list (coded_list coded_ℕ)) (coded× coded_Stores coded_ℕ)))))))
    (λ v. (v.buffers, (v.width, (v.height, (v.fresh, (v.shown, (v.row_parts, (v.stores, v.work))))))))
    (λ p. record {
      buffers = p.0;
      width = p.1.0;
      height = p.1.1.0;
      fresh = p.1.1.1.0;
      shown = p.1.1.1.1.0;
      row_parts = p.1.1.1.1.1.0;
      stores = p.1.1.1.1.1.1.0;
      work = p.1.1.1.1.1.1.1;
    }) (λ _. refl)
