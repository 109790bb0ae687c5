-- How many lines, items and errors the units of a view have.
use Rattle.std.proofs.Common.{◌≡◌, ℕ, ◌+◌, ◌*◌, ◌<◌, ◌≤◌, List, [], ◌∷◌, map, length, Option, Some, None}
use Rattle.std.proofs.Common.{refl, sym, ap, subst, arith, length-append}
use Rattle.std.specs.List.{flat_map}
use Rattle.std.specs.FinMap.{get, entries}
use Rattle.std.proofs.lemmas.List.{length-map}
use Rattle.tx_tree.specs.WideTree.{size_of}
use Rattle.tx_origin.specs.Values.{WideValue, plain}
use Rattle.tx_origin.specs.TaggedTrees.{TaggedTree, tagged_of}
use Rattle.tx_exec_form.specs.declared.TheConstants.{MOST_LEVELS}
use Rattle.tx_exec_form.specs.Evaluated.{WideTrace}
use Rattle.tx_exec_form.proofs.Tracing.{allowed, small}
use Rattle.tx_doc.specs.Buffers.{AreFormed}
use Rattle.tx_doc.specs.declared.buffer.Buffer.{Buffer}
use Rattle.tx_units.specs.declared.kinds.Unit.{Unit as DocUnit}
use Rattle.tx_units.specs.Units.{units}
use Rattle.tx_items.specs.declared.attributes.Attrs.{Attrs}
use Rattle.tx_items.specs.declared.drawing.Item.{Item}
use Rattle.tx_items.specs.declared.drawing.Paragraph.{Paragraph}
use Rattle.tx_items.specs.declared.drawing.ErrorAt.{ErrorAt}
use Rattle.tx_items.specs.Shows.{show, shown_paragraphs}
use Rattle.tx_view_form.specs.declared.TheConstants.{MOST_VIEW_STEPS}
use Rattle.tx_view_form.specs.Outcomes.{Moment, beginning, allowance, outcome, behind, over_value, unit_value}
use Rattle.tx_view_form.specs.Started.{attributes_of}
use Rattle.tx_view_form.specs.Views.{UnitView, WideView, paragraphs_at, AreShown, lines_of, IsView}
use Rattle.tx_view_form.specs.Errors.{errors_of}
use Rattle.tx_view_form.specs.Weights.{weight_of}
use Rattle.tx_view_form.proofs.LineCounts.{all_items, all_lines}
use Rattle.tx_view_form.proofs.ErrorCounts.{show_errors}
use Rattle.tx_view_form.proofs.Labelled.{IsLabelled, labelled_weight}
use Rattle.tx_view_form.proofs.ShownWeights.{over_weight}
use Rattle.tx_line_count.specs.Items.{items_of}
use Rattle.tx_line_count.proofs.Names.{Named, none_named, overlaid_named}
use Rattle.tx_line_count.proofs.Evaluating.{TraceHas, trace_has}
use Rattle.tx_line_count.proofs.UnitTrees.{UnitsHave, units_have}

-- What a unit weighs at most, and how many errors it has, by the steps that are left before and after it; and names
-- have labelled trees after it.
record IsBounded (m : Moment) (o : Option WideTrace) : Type 0 where
  weighs : (a : Attrs) → weight_of (shown_paragraphs a (unit_value o)) + 242 * (behind m o).left ≤ 242 * m.left + 49
  fails : (a : Attrs) → length (show a (unit_value o)).errors + (behind m o).left ≤ m.left + 7
  named : Named (get (behind m o).env)

over_size : size_of (plain over_value) ≡ 7
over_size = refl

bounded : (t : TaggedTree) (m : Moment) (o : Option WideTrace) → IsLabelled t.tree → Named (get m.env)
    → outcome t m ≡ o → IsBounded m o
unfolding outcome
bounded t m None h env e = record {
  weighs = λ a. omega (arith, over_weight a);
  fails = λ a. omega (arith, show_errors a over_value, over_size);
  named = env;
}
bounded t m (Some trace) h env e =
    let has : TraceHas trace = trace_has MOST_LEVELS (allowance m) t (get m.env) trace h env e in
    let paid = allowed MOST_LEVELS (allowance m) t (get m.env) trace e in
    let fits = small MOST_LEVELS (allowance m) t (get m.env) trace e in
    record {
      weighs = λ a. omega (arith, labelled_weight a trace.value has.value, paid.0, fits.0);
      fails = λ a. omega (arith, show_errors a trace.value, paid.0, fits.0);
      named = overlaid_named m.env (entries trace.writes) env has.writes;
    }

-- paragraphs of a unit, which has a path or none
unit_weight : (path : Option (List ℕ)) (a : Attrs) (v : WideValue)
    → weight_of (paragraphs_at path a v) ≤ weight_of (shown_paragraphs a v)
unit_weight None a v = omega arith
unit_weight (Some path) a v = omega arith

record AreFew (left count : ℕ) (xs : List UnitView) : Type 0 where
  lines : length (lines_of xs) ≤ 242 * left + 49 * count
  items : length (items_of xs) ≤ 242 * left + 49 * count
  errors : length (errors_of xs) ≤ left + 7 * count

few : (width : ℕ) (m : Moment) (us : List DocUnit) (xs : List UnitView) → UnitsHave us → Named (get m.env)
    → AreShown width m us xs → AreFew m.left (length us) xs
few width m [] [] h env s = record { lines = omega arith; items = omega arith; errors = omega arith }
few width m [] (x ∷ xs) h env s = absurd s
few width m (u ∷ us) [] h env s = absurd s
few width m (u ∷ us) (x ∷ xs) h env s =
    let t : TaggedTree = tagged_of u.tagged in
    let o : Option WideTrace = outcome t m in
    let a : Attrs = attributes_of m.env in
    let one : IsBounded m o = bounded t m o h.0 env refl in
    let rest : AreFew (behind m o).left (length us) xs = few width (behind m o) us xs h.1 one.named s.1 in
    let weight : weight_of x.paragraphs ≤ weight_of (shown_paragraphs a (unit_value o)) =
    subst (λ (ps : List Paragraph). weight_of ps ≤ weight_of (shown_paragraphs a (unit_value o))) (sym s.0.paragraphs)
    (unit_weight u.path a (unit_value o)) in
    let own : List Item = flat_map (λ (p : Paragraph). p.items) x.paragraphs in
    let at : ErrorAt → Option (List ℕ) × ErrorAt = λ e. (x.path, e) in
    record {
      lines =
          omega (
            arith,
            length-append x.lines (lines_of xs),
            all_lines width x.paragraphs x.lines s.0.lines,
            weight,
            one.weighs a,
            rest.lines,
          );
      items =
          omega (
            arith,
            length-append own (items_of xs),
            all_items x.paragraphs,
            weight,
            one.weighs a,
            rest.items,
          );
      errors =
          omega (
            arith,
            length-append (map at x.errors) (errors_of xs),
            length-map x.errors at,
            ap length s.0.errors,
            one.fails a,
            rest.errors,
          );
    }

pub record AreCounted (v : WideView) : Type 0 where
  pub lines : length (lines_of v.units) < 4294967296
  pub items : length (items_of v.units) < 4294967296
  pub errors : length (errors_of v.units) < 4294967296

pub counted : (buffers : List Buffer) (width height : ℕ) (v : WideView) → AreFormed buffers
    → length (units buffers) < 8388608 → IsView buffers width height v → AreCounted v
counted buffers width height v formed less view =
    let all : AreFew MOST_VIEW_STEPS (length (units buffers)) v.units =
    few width beginning (units buffers) v.units (units_have buffers formed) none_named view.shown in
    record {
      lines = omega (arith, all.lines, less);
      items = omega (arith, all.items, less);
      errors = omega (arith, all.errors, less);
    }
